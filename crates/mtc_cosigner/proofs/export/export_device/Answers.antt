use Rattle.std.proofs.Common.{inl, List, Option, subst, sym}
use Rattle.byte_formats.specs.Types.{Text}
use Rattle.cosigner_core.specs.Keyless.{keyless_owner}
use Rattle.mtc_command.specs.Answers.{Ending}
use Rattle.mtc_command.specs.Steps.{Outcome}
use Rattle.mtc_command.specs.Valid.{WorksValidly}
use Rattle.mtc_command.specs.Works.{HasWorked as HasWorkedWith, HasWorkedOn}
use Rattle.mtc_command.proofs.Works.{worked_on}
use Rattle.mtc_command.proofs.Valid.{valid_on}
use Rattle.mtc_lines.proofs.Outputs.{stopped_before, streams_so}
use Rattle.mtc_cosigner.specs.CosignerOutcomes.{export_says}
use Rattle.mtc_cosigner.specs.Works.{IsCosigner, cosigner_bytes_say, found_cosigner}
use Rattle.mtc_cosigner.proofs.Opened.{IsFound, found_says, refused_says}
use Rattle.mtc_cosigner.proofs.export.export_device.Goals as goal

pub returns-in-Ok-clause-streams : goal.returns-in-Ok-clause-streams
returns-in-Ok-clause-streams g c =
    let d = g.D.Disk in
    let h = g.H.TreeHash.hash in
    let name = c.args.journal.now in
    let it = keyless_owner c.in-Ok.keyless in
    let opened = c.in-Ok.ensures.opened in
    let next : List Text → Outcome = λ list. export_says (found_cosigner it.state list) in
    let done = c.export_keyless.result.0 in
    let found = subst (IsFound d (cosigner_bytes_say h name export_says) next c.args.disk it.disk)
    opened.list (record {
      contents = found_says h name export_says (d.contents c.args.disk) it.records it.state
          opened.found;
      stands = opened.stands;
      all = opened.all;
    }) in
    streams_so g.O.Sink c.args.out.now c.export_keyless.new.out _ _ (λ ending work. worked_on d name
    (cosigner_bytes_say h name export_says) next c.args.disk it.disk done ending
    g.met.D.Disk.reads_crash_state opened.only_reads opened.fine found.contents found.stands
    found.all
    (subst (λ (o : Option (List Text)). HasWorkedWith d name o next it.disk done ending)
    opened.list work)) c.export_keyless.result.1 c.export_keyless.ensures.streams

pub returns-in-Err-clause-streams : goal.returns-in-Err-clause-streams
returns-in-Err-clause-streams g c =
    let d = g.D.Disk in
    let h = g.H.TreeHash.hash in
    let name = c.args.journal.now in
    let disk = c.in-Err.field-0.disk in
    stopped_before g.O.Sink c.args.out.now
    (HasWorkedOn d name (cosigner_bytes_say h name export_says) c.args.disk disk)
    c.refuse_cosigner.result
    (subst (λ (e : Ending). HasWorkedOn d name (cosigner_bytes_say h name export_says) c.args.disk
    disk e) (sym c.refuse_cosigner.ensures)
    (refused_says h name export_says d c.args.disk disk c.in-Err.ensures.refused.only_reads
    _ c.in-Err.ensures.refused.cause))

pub returns-in-Ok-clause-valid : goal.returns-in-Ok-clause-valid
returns-in-Ok-clause-valid g c =
    let d = g.D.Disk in
    let h = g.H.TreeHash.hash in
    let name = c.args.journal.now in
    let it = keyless_owner c.in-Ok.keyless in
    let opened = c.in-Ok.ensures.opened in
    let next : List Text → Outcome = λ list. export_says (found_cosigner it.state list) in
    let done = c.export_keyless.result.0 in
    let found = subst (IsFound d (cosigner_bytes_say h name export_says) next c.args.disk it.disk)
    opened.list (record {
      contents = found_says h name export_says (d.contents c.args.disk) it.records it.state
          opened.found;
      stands = opened.stands;
      all = opened.all;
    }) in
    valid_on d (IsCosigner h) name (cosigner_bytes_say h name export_says) next c.args.disk it.disk
    done opened.only_reads found.contents found.stands found.all
    (subst (λ (o : Option (List Text)). WorksValidly d (IsCosigner h) o next it.disk done)
    opened.list c.export_keyless.ensures.valid)

pub returns-in-Err-clause-valid : goal.returns-in-Err-clause-valid
returns-in-Err-clause-valid g c = inl c.in-Err.ensures.refused.only_reads
