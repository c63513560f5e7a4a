-- What a command leaves of its journal: from the device before its journal was opened, and to the
-- device of the file system.
use Rattle.std.proofs.Common.{◌≡◌, inl, inr, ℕ, ◌≤◌, List, Option, None, Some, sym, subst, arith}
use Rattle.std.specs.Option.{IsSomeAnd}
use Rattle.disk_core.specs.Times.{LeavesOnly, OnlyReads}
use Rattle.disk_core.specs.Same.{SameDevice}
use Rattle.disk_core.specs.declared.disk.Disk.{Ghosts}
use Rattle.journal_core.specs.Format.{Represents, RepresentsEither}
use Rattle.file_events.specs.Events.{CrashStates}
use Rattle.mtc_command.specs.Made.{Journaled, untouched, reads, appended, started, Leaving}
use Rattle.mtc_command.specs.Made.{Kept, WasRead, HasAdded, HasKept, HasMade, MayHaveMade, IsOpen}
use Rattle.mtc_command.specs.Made.{ReadsAtMost, Adds, MayAdd, Leaves}
use Rattle.mtc_command.specs.Answers.{Ending, replied, room_failed, no_memory, IfReply}
use Rattle.mtc_command.specs.Endings.{LeftBy, AddsBy}
use Rattle.disk_core.proofs.Times.{only_read_on}

module _ {D : Type 0} (g : Ghosts D) where
  -- the bytes of a disk that the model knows are a crash state; and the crash states since now are
  -- those of now
  abbrev pub ReadsCrashState : Type 0
  ReadsCrashState = (d : D) (b : List ℕ) → g.contents d ≡ Some b → g.may_leave d b

  abbrev pub OnlyNow : Type 0
  OnlyNow = (d : D) (c : List ℕ) → g.left_since d (g.clock_at d) c → g.may_leave d c

  -- a read leaves nothing new
  pub kept_of : (old mid : D) (did : Journaled) → OnlyReads g old mid
      → Leaves g (HasKept did) (Some old) (Some mid)
  kept_of old mid did only_reads = record {
    later = only_reads.times.later;
    crash_states = record { now_is = only_reads.crash; since_is = only_reads.times.each };
  }

  was_read : (old mid : D) (list : List (List ℕ)) → ReadsCrashState → OnlyReads g old mid
      → IsOpen g mid list
      → WasRead (g.may_leave old) list
  was_read old mid list crash_state only_reads is = record {
    bytes = is.bytes;
    crash_state = only_reads.crash is.bytes (crash_state mid is.bytes is.contents);
    stands = is.stands;
  }

  -- the crash states after an opening and an append, seen from the device before
  has_added : (old mid new : D) (list : List (List ℕ)) (body : List ℕ) (Now : CrashStates)
      → ReadsCrashState → OnlyReads g old mid → IsOpen g mid list
      → LeavesOnly g mid new (RepresentsEither list body)
      → ((c : List ℕ) → g.may_leave new c → Now c)
      → HasAdded list body Now (g.may_leave old) (g.may_leave new)
      (g.left_since new (g.clock_at old))
  has_added old mid new list body Now crash_state only_reads is run now = record {
    read = was_read old mid list crash_state only_reads is;
    now_is = now;
    since_is = λ c since. elim (run.before (g.clock_at old) c only_reads.times.later since) [
      | inl past ↦ inl (only_reads.times.each c past)
      | inr either ↦ inr either
    ];
  }

  later_still : (old mid new : D) (P : List ℕ → Type 0) → OnlyReads g old mid
      → LeavesOnly g mid new P
      → g.clock_at old ≤ g.clock_at new
  later_still old mid new P only_reads run = omega (arith, only_reads.times.later, run.later)

  -- what was only read
  pub only_read : (old mid new : D) → OnlyReads g old mid → ReadsAtMost g mid new
      → OnlyReads g old new
  only_read old mid new only_reads only = elim only [
    | inl same ↦ subst (OnlyReads g old) (sym same) only_reads
    | inr more ↦ only_read_on g old mid new only_reads more
  ]

  still_open : (mid new : D) (list : List (List ℕ)) → IsOpen g mid list → ReadsAtMost g mid new
      → (c : List ℕ) → g.may_leave new c → Represents c list
  still_open mid new list is only = elim only [
    | inl same ↦ subst (λ d. (c : List ℕ) → g.may_leave d c → Represents c list) (sym same) is.all
    | inr more ↦ λ c left. is.all c (more.crash c left)
  ]

  -- what the work after an opening has made
  has_made : (old mid new : D) (did : Journaled) → ReadsCrashState
      → OnlyReads g old mid → Adds g did mid new → Leaves g (HasMade did) (Some old) (Some new)
  has_made old mid new untouched crash_state only_reads made = absurd made
  has_made old mid new (reads list) crash_state only_reads made =
      let after = only_read old mid new only_reads made.1 in
      record {
        later = after.times.later;
        crash_states = record {
          read = was_read old mid list crash_state only_reads made.0;
          now_is = still_open mid new list made.0 made.1;
          since_is = after.times.each;
        };
      }
  has_made old mid new (appended list body) crash_state only_reads made = record {
    later = later_still old mid new _ only_reads made.1;
    crash_states = has_added old mid new list body _ crash_state only_reads made.0 made.1 made.2;
  }
  has_made old mid new (started body) crash_state only_reads made = absurd made

  may_have_made : (old mid new : D) (did : Journaled) → ReadsCrashState
      → OnlyReads g old mid → MayAdd g did mid new
      → Leaves g (MayHaveMade did) (Some old) (Some new)
  may_have_made old mid new untouched crash_state only_reads made = absurd made
  may_have_made old mid new (reads list) crash_state only_reads made =
      kept_of old new (reads list) (only_read old mid new only_reads made.1)
  may_have_made old mid new (appended list body) crash_state only_reads made = record {
    later = later_still old mid new _ only_reads made.1;
    crash_states =
        inr (has_added old mid new list body _ crash_state only_reads made.0 made.1 made.2);
  }
  may_have_made old mid new (started body) crash_state only_reads made = absurd made

  -- what it leaves, by its ending
  pub worked : (old mid new : D) (ending : Ending) (did : Journaled) → ReadsCrashState
      → OnlyReads g old mid → AddsBy g ending did mid new
      → Leaves g (LeftBy ending did) (Some old) (Some new)
  worked old mid new (replied reply) did crash_state only_reads made =
      has_made old mid new did crash_state only_reads made
  worked old mid new (room_failed file) did crash_state only_reads made =
      may_have_made old mid new did crash_state only_reads made
  worked old mid new no_memory did crash_state only_reads made =
      kept_of old new did (only_read old mid new only_reads made)

-- Nothing new is left also by a command that a failure has ended.
pub may_kept : (did : Journaled) (before now since : CrashStates) → Kept before now since
    → MayHaveMade did before now since
may_kept untouched before now since kept = kept
may_kept (reads list) before now since kept = kept
may_kept (appended list body) before now since kept = inl kept
may_kept (started body) before now since kept = tt

module _ {D : Type 0} (g : Ghosts D) where
  -- a journal that isn't opened where there is a reply
  pub left_kept : (ending : Ending) (did : Journaled) (old new : Option D)
      → IfReply ending (λ reply. did ≡ untouched)
      → Leaves g (HasKept did) old new → Leaves g (LeftBy ending did) old new
  left_kept (replied reply) did old new not kept =
      subst (λ d. Leaves g (HasMade d) old new) (sym not)
      (record { later = kept.later; crash_states = kept.crash_states })
  left_kept (room_failed file) did old new not kept = record {
    later = kept.later;
    crash_states = may_kept did _ _ _ kept.crash_states;
  }
  left_kept no_memory did old new not kept =
      record { later = kept.later; crash_states = kept.crash_states }

  -- a device that was left alone
  still_at : (x : Option D) (did : Journaled) → OnlyNow g → Leaves g (HasKept did) x x
  still_at None did only_now = record {
    later = omega arith;
    crash_states = record { now_is = λ c is. is; since_is = λ c is. is };
  }
  still_at (Some d) did only_now = record {
    later = omega arith;
    crash_states = record { now_is = λ c is. is; since_is = only_now d };
  }

  pub still : (x y : Option D) (did : Journaled) → OnlyNow g → y ≡ x → Leaves g (HasKept did) x y
  still x y did only_now same =
      subst (λ z. Leaves g (HasKept did) x z) (sym same) (still_at x did only_now)

-- Crash states may be exchanged: those before for more, those now and since for fewer.
record Wider (before before' now now' since since' : CrashStates) : Type 0 where
  pub from_before : (c : List ℕ) → before c → before' c
  pub to_now : (c : List ℕ) → now' c → now c
  pub to_since : (c : List ℕ) → since' c → since c

module _ (b b' n n' s s' : CrashStates) (w : Wider b b' n n' s s') where
  kept_through : Kept b n s → Kept b' n' s'
  kept_through k = record {
    now_is = λ c is. w.from_before c (k.now_is c (w.to_now c is));
    since_is = λ c is. w.from_before c (k.since_is c (w.to_since c is));
  }

  read_through : (list : List (List ℕ)) → WasRead b list → WasRead b' list
  read_through list r = record {
    bytes = r.bytes;
    crash_state = w.from_before r.bytes r.crash_state;
    stands = r.stands;
  }

  added_through : (list : List (List ℕ)) (body : List ℕ) (Now : CrashStates)
      → HasAdded list body Now b n s → HasAdded list body Now b' n' s'
  added_through list body Now k = record {
    read = read_through list k.read;
    now_is = λ c is. k.now_is c (w.to_now c is);
    since_is = λ c is. elim (k.since_is c (w.to_since c is)) [
      | inl past ↦ inl (w.from_before c past)
      | inr either ↦ inr either
    ];
  }

  made_through : (did : Journaled) → HasMade did b n s → HasMade did b' n' s'
  made_through untouched k = kept_through k
  made_through (reads list) k = record {
    read = read_through list k.read;
    now_is = λ c is. k.now_is c (w.to_now c is);
    since_is = λ c is. w.from_before c (k.since_is c (w.to_since c is));
  }
  made_through (appended list body) k = added_through list body _ k
  made_through (started body) k = λ c is. k c (w.to_now c is)

  may_through : (did : Journaled) → MayHaveMade did b n s → MayHaveMade did b' n' s'
  may_through untouched k = kept_through k
  may_through (reads list) k = kept_through k
  may_through (appended list body) k = elim k [
    | inl kept ↦ inl (kept_through kept)
    | inr may ↦ inr (added_through list body _ may)
  ]
  may_through (started body) k = tt

-- a device d was opened as a copy of x's, and e was closed as z's
module _ {D : Type 0} (g : Ghosts D) where
  abbrev pub Opened : Option D → D → Type 0
  Opened x d = IsSomeAnd x (λ a. SameDevice g a d)

  abbrev pub PutBack : Option D → D → Type 0
  PutBack z e = IsSomeAnd z (λ b. SameDevice g e b)

  opened : (How : Leaving)
      → ((b b' n n' s s' : CrashStates) → Wider b b' n n' s s' → How b n s → How b' n' s')
      → (x z : Option D) (d e : D) → Opened x d → PutBack z e
      → Leaves g How (Some d) (Some e) → Leaves g How x z
  opened How through None z d e out back k = absurd out
  opened How through (Some a) None d e out back k = absurd back
  opened How through (Some a) (Some b) d e out back k = record {
    later = omega (arith, out.time, back.time, k.later);
    crash_states = through _ _ _ _ _ _ (record {
      from_before = λ c is. (out.leaves c).0 is;
      to_now = λ c is. (back.leaves c).0 is;
      to_since = λ c is. subst (λ t. g.left_since e t c) (sym out.time)
          ((back.left (g.clock_at a) c).0 is);
    }) k.crash_states;
  }

  pub left_opened : (ending : Ending) (did : Journaled) (x z : Option D) (d e : D)
      → Opened x d → PutBack z e → Leaves g (LeftBy ending did) (Some d) (Some e)
      → Leaves g (LeftBy ending did) x z
  left_opened (replied reply) did =
      opened (HasMade did) (λ b b' n n' s s' w. made_through b b' n n' s s' w did)
  left_opened (room_failed file) did =
      opened (MayHaveMade did) (λ b b' n n' s s' w. may_through b b' n n' s s' w did)
  left_opened no_memory did = opened (HasKept did) kept_through
