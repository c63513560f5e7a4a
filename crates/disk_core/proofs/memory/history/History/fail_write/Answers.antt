use Rattle.std.proofs.Common.{refl, sym, false, is_ok, subst, List, ℕ, ◌∙◌}
use Rattle.byte_formats.specs.Offsets.{IsBytes}
use Rattle.disk_core.specs.Disk.{Torn, Follows}
use Rattle.disk_core.specs.History.{left_of}
use Rattle.disk_core.specs.Noted.{made_calls}
use Rattle.disk_core.specs.Replay.{IsCrashState, state_now}
use Rattle.disk_core.specs.declared.memory.call.Call.TheVariants.{Write}
use Rattle.disk_core.proofs.Replay.{torn_pushed, torn_same, bytes_noted, seen_kept, time_pushed}
use Rattle.disk_core.proofs.memory.history.History.fail_write.Goals as goal

pub invariant_of-self : goal.invariant_of-self
invariant_of-self c =
    let kept = seen_kept c.args.self.now.first (made_calls c.args.self.now.calls)
    (made_calls c.note.new.self)
    (record { call = Write c.args.place c.in_ok-piece.piece; ok = false })
    (is_ok c.note.result) (λ s. refl) c.note.ensures in
    record {
      are_bytes = bytes_noted _ _ _ (Write c.args.place c.in_ok-piece.piece) false
          (is_ok c.note.result) c.note.ensures
          (subst IsBytes (sym c.in_ok-piece.ensures) (λ i. (c.type_inv.piece i).fits))
          c.args.self.now.are_bytes;
      shown = c.args.self.now.shown ∙ sym kept;
    }

pub returns-in_err-note-clause-crash : goal.returns-in_err-note-clause-crash
returns-in_err-note-clause-crash c = torn_same _ _ _ _ _ c.in_err-note.ensures

pub returns-clause-crash : goal.returns-clause-crash
returns-clause-crash c =
    subst (λ (piece : List ℕ). Follows (Torn c.args.place piece) (left_of c.args.self.now)
    (IsCrashState (state_now c.args.self.now.first (made_calls c.note.new.self))))
    c.in_ok-piece.ensures (torn_pushed _ _ _ _ _ _ c.in_ok-note.ensures)

pub returns-clause-time : goal.returns-clause-time
returns-clause-time c = time_pushed _ _ _ _ c.in_ok-note.ensures
