use Rattle.std.proofs.lemmas.Option.{same_Some}
use Rattle.disk_core.specs.Memory.{bytes_of}
use Rattle.journal_core.specs.Ends.{durable_of}
use Rattle.issuance_log.specs.Words.{log_disk, log_end}
use Rattle.drill_core.specs.Parties.{log_seen}
use Rattle.drill_core.proofs.OnlyRead.{is_log_disk}
use Rattle.drill_core.proofs.log.opened.Goals as goal

pub invariant_of-result : goal.invariant_of-result
invariant_of-result g c =
    let log = c.in_ok-open_log.field-0 in
    let opened = c.in_ok-open_log.ensures in
    record {
      sound = opened.sound;
      stands = is_log_disk g.H.TreeHash.hash (log_seen log) (log_disk log)
          (durable_of (log_end log) (bytes_of (log_disk log))) opened.crash_states opened.valid;
    }

pub returns-clause-state : goal.returns-clause-state
returns-clause-state g c = λ list s stands is.
    same_Some _ s (c.in_ok-open_log.ensures.found list s stands is).1
