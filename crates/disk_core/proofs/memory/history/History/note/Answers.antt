use Rattle.std.proofs.Common.{ap, sym, ◌∙◌, is_ok}
use Rattle.disk_core.specs.Noted.{made_calls}
use Rattle.disk_core.specs.Replay.{State}
use Rattle.disk_core.proofs.Replay.{quiet_pushed, quiet_writes, bytes_noted, seen_kept, time_pushed}
use Rattle.disk_core.proofs.memory.history.History.note.Goals as goal

pub invariant_of-self : goal.invariant_of-self
invariant_of-self c =
    let kept = seen_kept c.args.self.now.first (made_calls c.args.self.now.calls)
    (made_calls c.note.new.self) (record { call = c.args.call; ok = c.args.ok })
    (is_ok c.note.result) (λ s. ap (λ (t : State). t.seen) (c.requires.same s)) c.note.ensures in
    record {
      are_bytes = bytes_noted _ _ _ c.args.call c.args.ok (is_ok c.note.result) c.note.ensures
          (quiet_writes c.args.call c.args.ok c.requires.same) c.args.self.now.are_bytes;
      shown = c.args.self.now.shown ∙ sym kept;
    }

pub returns-clause-crash : goal.returns-clause-crash
returns-clause-crash c = quiet_pushed _ _ _ _ c.requires.same c.in_ok-note.ensures

pub returns-clause-time : goal.returns-clause-time
returns-clause-time c = time_pushed _ _ _ _ c.in_ok-note.ensures
