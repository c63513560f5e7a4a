use Rattle.std.proofs.Common.{◌≡◌, List, Option, IfSome, Ok, ap, subst, sym, ◌∙◌, arith}
use Rattle.byte_formats.specs.Types.{Text}
use Rattle.disk_core.specs.Times.{OnlyReads}
use Rattle.disk_core.proofs.Times.{only_read_on}
use Rattle.journal_core.specs.Ends.{durable_records}
use Rattle.journal_core.specs.Folds.{read_by, state_after}
use Rattle.journal_core.specs.Format.{Represents, end_offset}
use Rattle.journal_core.specs.Openings.{opening_disk, read_list}
use Rattle.journal_core.specs.Words.{AllRepresent, disk_of, end_of}
use Rattle.journal_core.proofs.FoldSteps.{cause_begin}
use Rattle.state_journal.specs.Causes.{IsLeftAt}
use Rattle.state_journal.specs.Machines.{Makes, fold_of}
use Rattle.state_journal.specs.declared.error.StateOpenError.TheVariants.{Open}
use Rattle.state_journal.proofs.Kept.{both_modelled, keeps_sound, of_sound, sound_records}
use Rattle.state_journal.proofs.Refusals.{after_err}
use Rattle.state_journal.proofs.Taken.{makes_all}
use Rattle.state_journal.proofs.opening.open_state.Goals as goal

pub returns-in-Err-clause-err : goal.returns-in-Err-clause-err
returns-in-Err-clause-err g c = record {
  only_reads = c.in-Err.ensures.only_reads;
  fine = tt;
  fine_err = λ other. c.in-Err.ensures.fine (λ is. other (ap Open is));
  cause = cause_begin g.D.Disk (fold_of g.M.StateMachine) c.args.disk c.in-Err.field-0.disk
      c.in-Err.field-0.why c.in-Err.ensures.reason c.in-Err.ensures.kind;
}

pub returns-in-Err-read_machine-clause-err : goal.returns-in-Err-read_machine-clause-err
returns-in-Err-read_machine-clause-err g c =
    rw c.into_disk.ensures
    (after_err g.D.Disk (fold_of g.M.StateMachine) c.args.disk (opening_disk c.in-Ok.opening)
    (opening_disk c.read_machine.new.opening) c.in-Ok.ensures.ok.only_reads
    c.in-Ok.ensures.ok.fine c.in-Err-read_machine.field-0.why c.in-Err-read_machine.ensures.read)

pub returns-in-Ok-read_machine-clause-opened : goal.returns-in-Ok-read_machine-clause-opened
returns-in-Ok-read_machine-clause-opened g c =
    let m = g.M.StateMachine in
    let journal = c.ready.result in
    let it = c.in-Ok-read_machine.machine in
    let opening = c.read_machine.new.opening in
    let sound = c.ready.ensures.sound in
    let all = c.in-Ok-read_machine.ensures.all in
    let read = c.in-Ok-read_machine.ensures.read in
    let same : durable_records journal ≡ read_list opening
    = sound_records journal sound ∙ c.ready.ensures.list in
    record {
      sound = sound;
      only_reads = subst (OnlyReads g.D.Disk c.args.disk) (sym c.ready.ensures.disk)
          (only_read_on g.D.Disk _ _ _ c.in-Ok.ensures.ok.only_reads read.only_reads);
      fine = ap g.D.Disk.faults c.ready.ensures.disk ∙ read.fine ∙ c.in-Ok.ensures.ok.fine;
      list = sound_records journal sound;
      found = both_modelled (λ b list. read_by (fold_of m) b
          ≡ Ok (record { records = list; state = m.state it }))
          (g.D.Disk.contents (opening_disk opening)) (g.D.Disk.contents c.args.disk)
          (read_list opening) (durable_records journal)
          (sym (read.only_reads.contents ∙ c.in-Ok.ensures.ok.only_reads.contents)) same
          all.found.found;
      made = subst (λ (o : Option (List Text)). IfSome o (λ list. state_after (fold_of m) list
          ≡ Ok (m.state it))) (sym same) all.found.made;
      stands = both_modelled Represents (g.D.Disk.contents (opening_disk opening))
          (g.D.Disk.contents (disk_of journal)) (read_list opening) (durable_records journal)
          (ap g.D.Disk.contents c.ready.ensures.disk) same all.found.stands;
      all = of_sound journal (AllRepresent g.D.Disk (disk_of journal)) sound c.ready.ensures.all;
      end = of_sound journal (λ list. end_of journal ≡ end_offset list) sound
          c.ready.ensures.end;
    }

pub returns-in-Ok-read_machine-clause-made : goal.returns-in-Ok-read_machine-clause-made
returns-in-Ok-read_machine-clause-made g c =
    let m = g.M.StateMachine in
    let journal = c.ready.result in
    let it = c.in-Ok-read_machine.machine in
    let all = c.in-Ok-read_machine.ensures.all in
    record {
      durable = keeps_sound (Makes m it) journal c.ready.ensures.sound
          (subst (λ (o : Option (List Text)). IfSome o (Makes m it)) (sym c.ready.ensures.list)
          (makes_all m it c.read_machine.new.opening all));
      within = subst (m.Within it) (omega (arith, c.ready.ensures.place)) all.within;
    }

pub returns-in-Err-clause-rest : goal.returns-in-Err-clause-rest
returns-in-Err-clause-rest g c = λ was is.
    let m = g.M.StateMachine in
    subst (λ rest. IsLeftAt m.Becomes m.Stops was rest (Open c.in-Err.field-0.why))
    (sym c.return_rest.ensures)
    (g.met.M.StateMachine.becomes_stops was (m.rest_of c.args.seed) is, λ other. is)
