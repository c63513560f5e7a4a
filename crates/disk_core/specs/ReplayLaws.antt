-- Laws of the replay, where bytes are written: what a read gives is a crash state, each crash state
-- is bytes, and a crash state of now is one of those since an earlier time.
use Rattle.std.specs.Prelude.{◌≡◌, ℕ, zero, suc, ◌≤◌, Bool, true, false, List, [], ◌∷◌, length}
use Rattle.std.specs.Prelude.{take, Some, refl}
use Rattle.std.proofs.Common.{arith, sym, subst}
use Rattle.std.proofs.lemmas.List.{take_all}
use Rattle.byte_formats.specs.Types.{Text}
use Rattle.byte_formats.specs.Offsets.{IsBytes}
use Rattle.disk_core.specs.Writes.{torn_none, torn_all, IsBytes-overwritten}
use Rattle.disk_core.specs.Replay.{State, synced, after_call, step, run, state_now, IsCrashStateOf}
use Rattle.disk_core.specs.Replay.{IsCrashState, LeftSince, WritesBytes, AllWriteBytes, HoldsBytes}
use Rattle.disk_core.specs.declared.memory.call.Call.{Call}
use Rattle.disk_core.specs.declared.memory.call.Call.TheVariants.{Len, Read, Write, Sync}
use Rattle.disk_core.specs.declared.memory.call.Made.{Made}

-- what a read gives are bytes, and what was there at the last sync
record AreBytes (s : State) : Type 0 where
  seen : IsBytes s.seen
  base : IsBytes s.base

call_bytes : (s : State) (call : Call) (ok : Bool) → WritesBytes call → AreBytes s
    → AreBytes (after_call s call ok)
call_bytes s Len ok writes are = are
call_bytes s (Read place size) ok writes are = are
call_bytes s (Write place piece) true writes are =
    record { seen = IsBytes-overwritten place piece s.seen writes are.seen; base = are.base }
call_bytes s (Write place piece) false writes are = record { seen = are.seen; base = are.base }
call_bytes s Sync true writes are = record { seen = are.seen; base = are.seen }
call_bytes s Sync false writes are = are

run_bytes : (s : State) (calls : List Made) → AllWriteBytes calls → AreBytes s
    → AreBytes (run s calls)
run_bytes s [] write are = are
run_bytes s (made ∷ calls) write are =
    run_bytes (step s made) calls write.1 (call_bytes s made.call made.ok write.0 are)

first_bytes : (first : Text) → IsBytes first → AreBytes (synced first)
first_bytes first are = record { seen = are; base = are }

call_seen : (s : State) (call : Call) (ok : Bool) → AreBytes (after_call s call ok)
    → IsCrashState s s.seen → IsCrashState (after_call s call ok) (after_call s call ok).seen
call_seen s Len ok are is = is
call_seen s (Read place size) ok are is = is
call_seen s (Write place piece) true are is = (are.seen, s.seen, is, torn_all place piece s.seen)
call_seen s (Write place piece) false are is =
    (are.seen, s.seen, is, torn_none place piece s.seen)
call_seen s Sync true are is = refl
call_seen s Sync false are is = is

run_seen : (s : State) (calls : List Made) → AllWriteBytes calls → AreBytes s
    → IsCrashState s s.seen
    → IsCrashState (run s calls) (run s calls).seen
run_seen s [] write are is = is
run_seen s (made ∷ calls) write are is =
    let next = call_bytes s made.call made.ok write.0 are in
    run_seen (step s made) calls write.1 next (call_seen s made.call made.ok next is)

-- what a read gives is one of the crash states
pub now_seen : (first : Text) (calls : List Made) → HoldsBytes first calls
    → IsCrashState (state_now first calls) (state_now first calls).seen
now_seen first calls holds =
    run_seen (synced first) calls holds.written_are (first_bytes first holds.first_are) refl

-- a crash state is bytes
crash_state_bytes : (base : Text) (writes : List (ℕ × Text)) (c : Text) → IsBytes base
    → IsCrashStateOf base writes c → IsBytes c
crash_state_bytes base [] c are is = subst IsBytes (sym is) are
crash_state_bytes base (write ∷ writes) c are is = is.0

first_write : (count : ℕ) (calls : List Made) → AllWriteBytes calls
    → AllWriteBytes (take count calls)
first_write zero calls write = tt
first_write (suc count) [] write = tt
first_write (suc count) (made ∷ calls) write = (write.0, first_write count calls write.1)

pub since_bytes : (first : Text) (calls : List Made) (t : ℕ) (c : Text) → HoldsBytes first calls
    → LeftSince first calls t c → IsBytes c
since_bytes first calls t c holds (count, late, there, is) =
    let s = run (synced first) (take count calls) in
    let are : AreBytes s = run_bytes (synced first) (take count calls)
    (first_write count calls holds.written_are) (first_bytes first holds.first_are) in
    crash_state_bytes s.base s.writes c are.base is

-- a crash state of now is one since any time
pub now_since : (first : Text) (calls : List Made) (t : ℕ) (c : Text) → t ≤ length calls
    → IsCrashState (state_now first calls) c → LeftSince first calls t c
now_since first calls t c le is =
    let whole : take (length calls) calls ≡ calls = take_all (length calls) calls (omega arith) in (
      length calls,
      le,
      omega arith,
      subst (λ (kept : List Made). IsCrashState (run (synced first) kept) c) (sym whole) is,
    )

-- since the last time there is no other
pub since_now : (first : Text) (calls : List Made) (c : Text)
    → LeftSince first calls (length calls) c → IsCrashState (state_now first calls) c
since_now first calls c (count, late, there, is) =
    let whole : take count calls ≡ calls = take_all count calls late in
    subst (λ (kept : List Made). IsCrashState (run (synced first) kept) c) whole is

pub contents_seen : (first : Text) (calls : List Made) (bytes : Text) → HoldsBytes first calls
    → Some (state_now first calls).seen ≡ Some bytes → IsCrashState (state_now first calls) bytes
contents_seen first calls bytes holds is =
    let same : (state_now first calls).seen ≡ bytes = cc in
    subst (λ (c : Text). IsCrashState (state_now first calls) c) same (now_seen first calls holds)

pub contents_are : (first : Text) (calls : List Made) (bytes : Text) → HoldsBytes first calls
    → Some (state_now first calls).seen ≡ Some bytes → IsBytes bytes
contents_are first calls bytes holds is =
    let same : (state_now first calls).seen ≡ bytes = cc in
    let now : AreBytes (state_now first calls) = run_bytes (synced first) calls holds.written_are
    (first_bytes first holds.first_are) in
    subst IsBytes same now.seen

pub contents_length : (known : ℕ) (seen bytes : Text) → known ≤ length seen → Some seen ≡ Some bytes
    → known ≤ length bytes
contents_length known seen bytes there is =
    let same : seen ≡ bytes = cc in
    subst (λ (c : Text). known ≤ length c) same there
