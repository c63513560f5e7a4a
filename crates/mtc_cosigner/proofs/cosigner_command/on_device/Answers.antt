use Rattle.std.proofs.Common.{inl, List, Option, subst, sym}
use Rattle.byte_formats.specs.Types.{Text}
use Rattle.cosigner_core.specs.Keyless.{keyless_owner}
use Rattle.mtc_command.specs.Answers.{Ending, ending_of}
use Rattle.mtc_command.specs.Steps.{Outcome}
use Rattle.mtc_command.specs.Valid.{WorksValidly}
use Rattle.mtc_command.specs.Works.{HasWorked as HasWorkedWith, HasWorkedOn}
use Rattle.mtc_command.proofs.Works.{worked_on}
use Rattle.mtc_command.proofs.Valid.{valid_on}
use Rattle.mtc_cosigner.specs.Works.{IsCosigner, cosigner_bytes_say, found_cosigner}
use Rattle.mtc_cosigner.specs.Works.{cosigner_says}
use Rattle.mtc_cosigner.proofs.Opened.{IsFound, found_says, refused_says}
use Rattle.mtc_cosigner.proofs.cosigner_command.on_device.Goals as goal

pub carry_out-requires : goal.carry_out-requires
carry_out-requires g c =
    let opened = c.in-Ok.ensures.opened in record { sound = opened.sound; end = opened.end }

pub returns-in-Ok-clause-serves : goal.returns-in-Ok-clause-serves
returns-in-Ok-clause-serves g c =
    let d = g.D.Disk in
    let h = g.H.TreeHash.hash in
    let name = c.args.journal.now in
    let says = cosigner_says h c.args.work.now in
    let it = keyless_owner c.in-Ok.keyless in
    let opened = c.in-Ok.ensures.opened in
    let next : List Text → Outcome = λ list. says (found_cosigner it.state list) in
    let done = c.carry_out.result.0 in
    let ending = ending_of c.carry_out.result.1 in
    let found = subst (IsFound d (cosigner_bytes_say h name says) next c.args.disk it.disk)
    opened.list (record {
      contents =
          found_says h name says (d.contents c.args.disk) it.records it.state opened.found;
      stands = opened.stands;
      all = opened.all;
    }) in
    worked_on d name (cosigner_bytes_say h name says) next c.args.disk it.disk done ending
    g.met.D.Disk.reads_crash_state opened.only_reads opened.fine found.contents found.stands
    found.all
    (subst (λ (o : Option (List Text)). HasWorkedWith d name o next it.disk done ending)
    opened.list c.carry_out.ensures.works)

pub returns-in-Err-clause-serves : goal.returns-in-Err-clause-serves
returns-in-Err-clause-serves g c =
    let d = g.D.Disk in
    let h = g.H.TreeHash.hash in
    let name = c.args.journal.now in
    let says = cosigner_says h c.args.work.now in
    let disk = c.in-Err.field-0.disk in
    subst (λ (e : Ending). HasWorkedOn d name (cosigner_bytes_say h name says) c.args.disk disk e)
    (sym c.refuse_cosigner.ensures)
    (refused_says h name says d c.args.disk disk c.in-Err.ensures.refused.only_reads _
    c.in-Err.ensures.refused.cause)

pub returns-in-Ok-clause-valid : goal.returns-in-Ok-clause-valid
returns-in-Ok-clause-valid g c =
    let d = g.D.Disk in
    let h = g.H.TreeHash.hash in
    let name = c.args.journal.now in
    let says = cosigner_says h c.args.work.now in
    let it = keyless_owner c.in-Ok.keyless in
    let opened = c.in-Ok.ensures.opened in
    let next : List Text → Outcome = λ list. says (found_cosigner it.state list) in
    let done = c.carry_out.result.0 in
    let found = subst (IsFound d (cosigner_bytes_say h name says) next c.args.disk it.disk)
    opened.list (record {
      contents =
          found_says h name says (d.contents c.args.disk) it.records it.state opened.found;
      stands = opened.stands;
      all = opened.all;
    }) in
    valid_on d (IsCosigner h) name (cosigner_bytes_say h name says) next c.args.disk it.disk done
    opened.only_reads found.contents found.stands found.all
    (subst (λ (o : Option (List Text)). WorksValidly d (IsCosigner h) o next it.disk done)
    opened.list c.carry_out.ensures.valid)

pub returns-in-Err-clause-valid : goal.returns-in-Err-clause-valid
returns-in-Err-clause-valid g c = inl c.in-Err.ensures.refused.only_reads
