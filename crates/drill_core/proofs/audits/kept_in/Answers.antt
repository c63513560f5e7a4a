use Rattle.std.proofs.Common.{Option, subst}
use Rattle.std.specs.Prelude.{IfSome}
use Rattle.cosigner_core.specs.declared.lists.Export.{Export}
use Rattle.cosigner_steps.specs.Steps.{AreSteps}
use Rattle.cosigner_steps.proofs.Exported.{export_steps}
use Rattle.drill_core.proofs.audits.kept_in.Goals as goal

pub returns-in-Ok-Some-clause-allowed : goal.returns-in-Ok-Some-clause-allowed
returns-in-Ok-Some-clause-allowed g c =
    subst (λ (o : Option Export). IfSome o (λ e. AreSteps g.H.TreeHash.hash e.steps))
    c.in-Ok-Some.field-0-is (export_steps g.H.TreeHash.hash c.args.bytes.now
    c.in-Ok-Some.field-0 (λ i. (c.type_inv.bytes i).fits) c.in-Ok-Some.ensures)
