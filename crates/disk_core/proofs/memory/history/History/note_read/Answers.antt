use Rattle.std.proofs.Common.{refl, sym, ◌∙◌, is_ok, true}
use Rattle.disk_core.specs.Calls.{only_read}
use Rattle.disk_core.specs.Noted.{made_calls}
use Rattle.disk_core.specs.declared.memory.call.Call.TheVariants.{Len}
use Rattle.disk_core.proofs.Replay.{quiet_pushed, bytes_noted, seen_kept, time_pushed}
use Rattle.disk_core.proofs.memory.history.History.note_read.Goals as goal

pub invariant_of-self : goal.invariant_of-self
invariant_of-self c =
    let kept = seen_kept c.args.self.now.first (made_calls c.args.self.now.calls)
    (made_calls c.note_read.new.self) only_read (is_ok c.note_read.result) (λ s. refl)
    c.note_read.ensures.calls in
    record {
      are_bytes = bytes_noted _ _ _ Len true (is_ok c.note_read.result) c.note_read.ensures.calls tt
          c.args.self.now.are_bytes;
      shown = c.args.self.now.shown ∙ sym kept;
    }

pub returns-clause-crash : goal.returns-clause-crash
returns-clause-crash c = quiet_pushed _ _ _ only_read (λ s. refl) c.in_ok-note_read.ensures.calls

pub returns-clause-time : goal.returns-clause-time
returns-clause-time c = time_pushed _ _ _ _ c.in_ok-note_read.ensures.calls
