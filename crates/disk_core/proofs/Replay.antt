-- One call more in the replay of a disk in memory.
use Rattle.std.proofs.Common.{◌≡◌, inl, inr, ℕ, ◌+◌, ◌≤◌, Bool, true, false, if◌then◌else◌}
use Rattle.std.proofs.Common.{◌∙◌, List, [], ◌∷◌, ◌++◌, length, refl, ap, sym, subst}
use Rattle.std.proofs.Common.{arith}
use Rattle.std.proofs.lemmas.List.{take_all, take-append-le, length_push}
use Rattle.std.proofs.lemmas.Bool.{cases_lt}
use Rattle.disk_core.specs.Disk.{overwritten, Torn, Follows, NoNew, Only, Elapses}
use Rattle.disk_core.specs.Writes.{torn_none}
use Rattle.disk_core.specs.Replay.{State, synced, step, run, state_now, state_at, IsCrashState}
use Rattle.disk_core.specs.Replay.{LeftSince, after_call, noted, WritesBytes, AllWriteBytes}
use Rattle.disk_core.specs.Replay.{HoldsBytes}
use Rattle.disk_core.specs.declared.memory.call.Call.{Call}
use Rattle.disk_core.specs.declared.memory.call.Call.TheVariants.{Len, Read, Write, Sync}
use Rattle.disk_core.specs.declared.memory.call.Made.{Made}

pub run-append : (s : State) (calls : List Made) (made : Made)
    → run s (calls ++ made ∷ []) ≡ step (run s calls) made
run-append s [] made = refl
run-append s (first ∷ calls) made = run-append (step s first) calls made

-- the state after one call more
pub state_pushed : (first : List ℕ) (calls next : List Made) (made : Made)
    → next ≡ calls ++ made ∷ []
    → state_now first next ≡ step (state_now first calls) made
state_pushed first calls next made is = rw is (run-append (synced first) calls made)

-- the times after one call more
pub time_pushed : (first : List ℕ) (calls next : List Made) (made : Made)
    → next ≡ calls ++ made ∷ []
    → Elapses (length calls) (length next) (LeftSince first calls) (LeftSince first next)
    (IsCrashState (state_now first next))
time_pushed first calls next made is =
    let longer : length next ≡ length calls + 1 = rw is (length_push calls made) in
    let prefix : (count : ℕ) → count ≤ length calls
    → state_at first next count ≡ state_at first calls count
    = λ count le. subst (λ (n : List Made). state_at first n count
    ≡ state_at first calls count) (sym is)
    (ap (λ (kept : List Made). run (synced first) kept)
    (take-append-le count calls (made ∷ []) le)) in
    record {
      later = omega arith;
      nothing_else = λ t c le since. elim (cases_lt (length calls) since.0) [
        | inl past ↦ inr (subst (λ (kept : List Made). IsCrashState (run (synced first) kept) c)
            (take_all since.0 next (let l = since.2 in omega arith)) since.3)
        | inr within ↦ inl (
          since.0,
          since.1,
          within,
          subst (λ (s : State). IsCrashState s c) (prefix since.0 within) since.3,
        )
      ];
      keeps = λ t c le since. (
        since.0,
        since.1,
        (let l = since.2 in omega arith),
        subst (λ (s : State). IsCrashState s c) (sym (prefix since.0 since.2)) since.3,
      );
    }

-- no call more
pub time_same : (first : List ℕ) (calls next : List Made) → next ≡ calls
    → Elapses (length calls) (length next) (LeftSince first calls) (LeftSince first next)
    (IsCrashState (state_now first next))
time_same first calls next is = rw is (record {
  later = omega arith;
  nothing_else =
      λ t c le since. inl since;
  keeps = λ t c le since. since;
})

-- After a call that leaves the state alone a crash leaves nothing new.
pub quiet_pushed : (first : List ℕ) (calls next : List Made) (made : Made)
    → ((s : State) → step s made ≡ s) → next ≡ calls ++ made ∷ []
    → NoNew (IsCrashState (state_now first calls)) (IsCrashState (state_now first next))
quiet_pushed first calls next made quiet is =
    λ c now. subst (λ (s : State). IsCrashState s c) (state_pushed first calls next made is
    ∙ quiet (state_now first calls)) now

-- After a write, done or refused, each crash state is one from before, torn.
pub torn_pushed : (first : List ℕ) (calls next : List Made) (place : ℕ) (piece : List ℕ) (ok : Bool)
    → next ≡ calls ++ record { call = Write place piece; ok = ok } ∷ []
    → Follows (Torn place piece) (IsCrashState (state_now first calls))
    (IsCrashState (state_now first next))
torn_pushed first calls next place piece ok is =
    λ c now.
    let made : Made = record { call = Write place piece; ok = ok } in
    let (are, d, was, torn) = subst (λ (s : State). IsCrashState s c)
    (state_pushed first calls next made is) now in
    (d, was, torn)

pub torn_same : (first : List ℕ) (calls next : List Made) (place : ℕ) (piece : List ℕ)
    → next ≡ calls
    → Follows (Torn place piece) (IsCrashState (state_now first calls))
    (IsCrashState (state_now first next))
torn_same first calls next place piece is =
    λ c now. (
      c,
      subst (λ (kept : List Made). IsCrashState (state_now first kept) c) is now,
      torn_none place piece c,
    )

-- After a sync a crash leaves what is seen.
pub sync_pushed : (first : List ℕ) (calls next : List Made) → next ≡ calls ++ record {
  call =
      Sync;
  ok = true;
} ∷ []
    → Only (state_now first calls).seen (IsCrashState (state_now first next))
sync_pushed first calls next is =
    λ c now. subst (λ (s : State). IsCrashState s c) (state_pushed first calls next (record {
      call =
          Sync;
      ok = true;
    }) is) now

-- A call that isn't seen, or is not even noted.
pub seen_kept : (first : List ℕ) (calls next : List Made) (made : Made) (noted : Bool)
    → ((s : State) → (step s made).seen ≡ s.seen)
    → next ≡ (if noted then calls ++ made ∷ [] else calls)
    → (state_now first next).seen ≡ (state_now first calls).seen
seen_kept first calls next made true keeps is =
    ap (λ (s : State). s.seen) (state_pushed first calls next made is)
    ∙ keeps (state_now first calls)
seen_kept first calls next made false keeps is =
    ap (λ (kept : List Made). (state_now first kept).seen) is

-- A write that is done is seen.
pub written_pushed : (first : List ℕ) (calls next : List Made) (place : ℕ)
    (piece live after : List ℕ)
    → next ≡ calls ++ record { call = Write place piece; ok = true } ∷ []
    → live ≡ (state_now first calls).seen → after ≡ overwritten place piece live
    → after ≡ (state_now first next).seen
written_pushed first calls next place piece live after is was wrote =
    wrote ∙ ap (overwritten place piece) was
    ∙ sym (ap (λ (s : State). s.seen) (state_pushed first calls next (record {
      call =
          Write place piece;
      ok = true;
    }) is))

all_write : (calls : List Made) (made : Made) → AllWriteBytes calls → WritesBytes made.call
    → AllWriteBytes (calls ++ made ∷ [])
all_write [] made write writes = (writes, tt)
all_write (first ∷ calls) made write writes = (write.0, all_write calls made write.1 writes)

-- A call more that writes bytes if it writes, or is not even noted.
pub bytes_noted : (first : List ℕ) (calls next : List Made) (call : Call) (ok found : Bool)
    → next ≡ noted found call ok calls → WritesBytes call → HoldsBytes first calls
    → HoldsBytes first next
bytes_noted first calls next call ok true is writes holds = rw is (record {
  first_are = holds.first_are;
  written_are = all_write calls (record { call = call; ok = ok }) holds.written_are writes;
})
bytes_noted first calls next call ok false is writes holds = rw is holds

is_some_write : (write : ℕ × List ℕ) → write ∷ [] ≡ [] → ⊥
is_some_write write is = cc

-- a call that leaves each state alone writes nothing
pub quiet_writes : (call : Call) (ok : Bool) → ((s : State) → after_call s call ok ≡ s)
    → WritesBytes call
quiet_writes Len ok quiet = tt
quiet_writes (Read place size) ok quiet = tt
quiet_writes (Write place piece) ok quiet =
    absurd (is_some_write (place, piece)
    (ap (λ (s : State). s.writes) (quiet (synced []))))
quiet_writes Sync ok quiet = tt
