use Rattle.std.proofs.Common.{inl, subst, sym}
use Rattle.cosigner_core.specs.Keyless.{keyless_owner}
use Rattle.mtc_command.specs.Answers.{Ending}
use Rattle.mtc_command.specs.declared.answer.Stop.TheVariants.{Memory}
use Rattle.mtc_command.proofs.Works.{out_of_memory_on}
use Rattle.mtc_lines.proofs.Outputs.{stopped_before, streams_so}
use Rattle.mtc_cosigner.specs.CosignerOutcomes.{export_says}
use Rattle.mtc_cosigner.specs.Works.{HasWorkedOnCosigner, found_cosigner}
use Rattle.mtc_cosigner.proofs.export.export_keyless.Goals as goal

pub returns-in-Ok-clause-streams : goal.returns-in-Ok-clause-streams
returns-in-Ok-clause-streams g c =
    streams_so g.O.Sink c.args.out.now c.export_on-written.new.out _ _ (λ ending work. subst
    (λ (d : _). HasWorkedOnCosigner g.D.Disk c.args.journal.now export_says
    (keyless_owner c.args.keyless) d ending) (sym c.into_disk.ensures) work)
    c.export_on-written.result c.export_on-written.ensures.streams

pub returns-in-Err-clause-streams : goal.returns-in-Err-clause-streams
returns-in-Err-clause-streams g c =
    let it = keyless_owner c.args.keyless in
    let disk = c.into_disk-in-Err.result in
    stopped_before g.O.Sink c.args.out.now
    (HasWorkedOnCosigner g.D.Disk c.args.journal.now export_says it disk) Memory
    (out_of_memory_on g.D.Disk c.args.journal.now it.records it.disk disk
    (λ list. export_says (found_cosigner it.state list)) (inl c.into_disk-in-Err.ensures))
