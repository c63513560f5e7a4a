use Rattle.std.proofs.Common.{refl, sym, subst, true, is_ok, ◌∙◌, List, ℕ}
use Rattle.disk_core.specs.Noted.{made_calls}
use Rattle.disk_core.specs.Replay.{IsCrashState, state_now}
use Rattle.disk_core.specs.ReplayLaws.{now_seen}
use Rattle.disk_core.specs.declared.memory.call.Call.TheVariants.{Sync}
use Rattle.disk_core.proofs.Replay.{sync_pushed, bytes_noted, seen_kept, time_pushed}
use Rattle.disk_core.proofs.memory.history.History.make_durable.Goals as goal

pub invariant_of-self : goal.invariant_of-self
invariant_of-self c =
    let kept = seen_kept c.args.self.now.first (made_calls c.args.self.now.calls)
    (made_calls c.note.new.self)
    (record { call = Sync; ok = true })
    (is_ok c.note.result) (λ s. refl) c.note.ensures in
    record {
      are_bytes = bytes_noted _ _ _ Sync true (is_ok c.note.result) c.note.ensures tt
          c.args.self.now.are_bytes;
      shown = c.args.self.now.shown ∙ sym kept;
    }

pub returns-clause-durable : goal.returns-clause-durable
returns-clause-durable c = sync_pushed _ _ _ c.in_ok-note.ensures

pub returns-clause-crash : goal.returns-clause-crash
returns-clause-crash c = λ crash_state now.
    let first = c.args.self.now.first in
    let calls = made_calls c.args.self.now.calls in
    subst (λ (bytes : List ℕ). IsCrashState (state_now first calls) bytes)
    (sym (sync_pushed first calls _ c.in_ok-note.ensures crash_state now))
    (now_seen first calls c.args.self.now.are_bytes)

pub returns-clause-time : goal.returns-clause-time
returns-clause-time c = time_pushed _ _ _ _ c.in_ok-note.ensures
