-- Runs of calls of a disk, and what a crash leaves at their times.
use Rattle.std.proofs.Common.{◌≡◌, ◌⊎◌, inl, inr, ℕ, ◌≤◌, List, refl, ◌∙◌, arith}
use Rattle.disk_core.specs.Disk.{Elapses, NoNew}
use Rattle.disk_core.specs.Times.{LeavesOnly, OnlyReads}
use Rattle.disk_core.specs.declared.disk.Disk.{Ghosts}

module _ {D : Type 0} (g : Ghosts D) where
  -- no call yet
  pub started : (now : D) (P : List ℕ → Type 0)
      → ((c : List ℕ) → g.left_since now (g.clock_at now) c
      → g.may_leave now c)
      → ((c : List ℕ) → g.may_leave now c → P c) → LeavesOnly g now now P
  started now P only_now now_is = record {
    later = omega arith;
    each = λ c since. now_is c (only_now c since);
    before = λ t c le since. inl since;
  }

  -- one call more
  pub continues : (old mid new : D) (P : List ℕ → Type 0) → LeavesOnly g old mid P
      → Elapses (g.clock_at mid) (g.clock_at new) (g.left_since mid) (g.left_since new)
      (g.may_leave new)
      → ((c : List ℕ) → g.may_leave new c → P c) → LeavesOnly g old new P
  continues old mid new P run call now_is =
      let past_or_now : (t : ℕ) (c : List ℕ) → t ≤ g.clock_at old → g.left_since new t c
      → g.left_since mid t c ⊎ g.may_leave new c
      = λ t c le since. call.nothing_else t c (let a = run.later in omega arith) since in
      record {
        later = let a = run.later in let b = call.later in omega arith;
        each = λ c since. elim (past_or_now (g.clock_at old) c (omega arith) since)
            [ inl past ↦ run.each c past | inr now ↦ now_is c now ];
        before = λ t c le since. elim (past_or_now t c le since) [
          | inl past ↦ run.before t c le past
          | inr now ↦ inr (now_is c now)
        ];
      }

  -- one run after another
  pub joined : (old mid new : D) (P : List ℕ → Type 0) → LeavesOnly g old mid P
      → LeavesOnly g mid new P → LeavesOnly g old new P
  joined old mid new P first second = record {
    later = let a = first.later in let b = second.later in omega arith;
    each = λ c since. elim (second.before (g.clock_at old) c first.later since)
        [ inl past ↦ first.each c past | inr is ↦ is ];
    before = λ t c le since. elim (second.before t c (let a =
        first.later in omega arith) since) [
          | inl past ↦ first.before t c le past
          | inr is ↦ inr is
        ];
  }

  -- what has P has Q
  pub weaker : (old new : D) (P Q : List ℕ → Type 0) → ((c : List ℕ) → P c → Q c)
      → LeavesOnly g old new P → LeavesOnly g old new Q
  weaker old new P Q is run = record {
    later = run.later;
    each = λ c since. is c (run.each c since);
    before = λ t c le since. elim (run.before t c le since) [
      | inl past ↦ inl past
      | inr p ↦ inr (is c p)
    ];
  }

  -- what a crash leaves now, it leaves at a time of the run
  pub left_now : (old new : D) (P : List ℕ → Type 0) → ((t : ℕ) (c : List ℕ) → t ≤ g.clock_at new
      → g.may_leave new c → g.left_since new t c)
      → LeavesOnly g old new P → (c : List ℕ) → g.may_leave new c → P c
  left_now old new P counts_now run =
      λ c left. run.each c (counts_now (g.clock_at old) c run.later left)

  -- a read after another
  pub only_read_on : (old mid new : D) → OnlyReads g old mid → OnlyReads g mid new
      → OnlyReads g old new
  only_read_on old mid new first second = record {
    contents = second.contents ∙ first.contents;
    crash = λ c left. first.crash c (second.crash c left);
    times = joined old mid new (g.may_leave old) first.times (weaker mid new (g.may_leave mid)
        (g.may_leave old) first.crash second.times);
    known = let a = first.known in let b = second.known in omega arith;
    faults = let a = first.faults in let b = second.faults in omega arith;
  }

  -- one call that reads
  pub one_read : (old new : D) → g.contents new ≡ g.contents old
      → NoNew (g.may_leave old) (g.may_leave new)
      → Elapses (g.clock_at old) (g.clock_at new) (g.left_since old) (g.left_since new)
      (g.may_leave new)
      → g.known old ≤ g.known new → g.faults old ≤ g.faults new
      → ((c : List ℕ) → g.left_since old (g.clock_at old) c → g.may_leave old c)
      → OnlyReads g old new
  one_read old new contents crash time known faults only_now = record {
    contents = contents;
    crash = crash;
    times = continues old old new (g.may_leave old)
        (started old (g.may_leave old) only_now (λ c left. left)) time crash;
    known = known;
    faults = faults;
  }

  -- no read
  pub nothing_read : (now : D)
      → ((c : List ℕ) → g.left_since now (g.clock_at now) c → g.may_leave now c)
      → OnlyReads g now now
  nothing_read now only_now = record {
    contents = refl;
    crash = λ c left. left;
    times = started now (g.may_leave now) only_now (λ c left. left);
    known = omega arith;
    faults = omega arith;
  }
