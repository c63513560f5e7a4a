use Rattle.std.proofs.Common.{◌∙◌, ap, sym}
use Rattle.issuance_log.specs.Folds.{LogView}
use Rattle.drill_core.proofs.log_party.size_of.Goals as goal

pub returns-clause-value : goal.returns-clause-value
returns-clause-value g c =
    c.size.ensures.value ∙ sym (ap (λ (v : LogView). v.size) c.law_sound.ensures.view)
