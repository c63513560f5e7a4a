-- The calls of a disk in memory, by its record.
use Rattle.std.proofs.Common.{◌≡◌, ℕ, zero, suc, ◌+◌, ◌<◌, ◌≤◌, List, [], ◌∷◌, ◌++◌, length, take}
use Rattle.std.proofs.Common.{get_or, replicate, refl, ap, sym, ◌∙◌, append_assoc, arith}
use Rattle.std.proofs.Common.{Bool, true, ◌&&◌}
use Rattle.std.proofs.lemmas.Grind.{replicate_next}
use Rattle.std.proofs.lemmas.List.Folds.{list_all-append}
use Rattle.std.proofs.lemmas.List.{length-append, take_all, take_more}
use Rattle.byte_formats.specs.Types.{Text}
use Rattle.disk_core.specs.Calls.{are_changes, calls_in, only_read}
use Rattle.disk_core.specs.Fuse.{is_change}
use Rattle.disk_core.specs.Replay.{State, run, synced, state_now, step}
use Rattle.disk_core.specs.declared.memory.call.Change.{Change}
use Rattle.disk_core.specs.declared.memory.call.Made.{Made}
use Rattle.disk_core.proofs.Replay.{run-append}

-- one call more that reads
pub more_only_read : (changes : List Change) (only_reads : ℕ)
    → calls_in changes (only_reads + 1) ≡ calls_in changes only_reads ++ only_read ∷ []
more_only_read [] only_reads = replicate_next only_reads only_read
more_only_read (change ∷ changes) only_reads =
    ap (λ (rest : List Made). replicate change.only_reads only_read ++ change.made ∷ rest)
    (more_only_read changes only_reads)
    ∙ sym (append_assoc (replicate change.only_reads only_read)
    (change.made ∷ calls_in changes only_reads)
    (only_read ∷ []))

-- no more of them than there are calls
pub only_reads_few : (changes : List Change) (only_reads : ℕ)
    → only_reads ≤ length (calls_in changes only_reads)
only_reads_few [] only_reads = all_long only_reads
  where
    all_long : (count : ℕ) → count ≤ length (replicate count only_read)
    all_long zero = omega arith
    all_long (suc count) = let rest = all_long count in omega arith
only_reads_few (change ∷ changes) only_reads =
    let rest = only_reads_few changes only_reads in
    let all =
    length-append (replicate change.only_reads only_read)
    (change.made ∷ calls_in changes only_reads) in
    omega arith

-- one change more
pub change_more : (changes : List Change) (change : Change)
    → calls_in (changes ++ change ∷ []) 0 ≡ calls_in changes change.only_reads ++ change.made ∷ []
change_more [] change = refl
change_more (first ∷ changes) change =
    ap (λ (rest : List Made). replicate first.only_reads only_read ++ first.made ∷ rest)
    (change_more changes change)
    ∙ sym (append_assoc (replicate first.only_reads only_read)
    (first.made ∷ calls_in changes change.only_reads)
    (change.made ∷ []))

-- and it is one of them
pub kept_more : (changes : List Change) (change : Change) → are_changes changes ≡ true
    → is_change change.made.call ≡ true → are_changes (changes ++ change ∷ []) ≡ true
kept_more changes change kept is =
    list_all-append (λ (each : Change). is_change each.made.call) changes (change ∷ [])
    ∙ ap (λ (b : Bool). b && (is_change change.made.call && true)) kept
    ∙ ap (λ (b : Bool). b && true) is

-- the changes alone
abbrev pub kept_calls : List Change → List Made
kept_calls [] = []
kept_calls (change ∷ changes) = change.made ∷ kept_calls changes

-- calls that read leave the state alone
only_read_alone : (s : State) (count : ℕ) (calls : List Made)
    → run s (replicate count only_read ++ calls) ≡ run s calls
only_read_alone s zero calls = refl
only_read_alone s (suc count) calls = only_read_alone s count calls

all_only_read_alone : (s : State) (count : ℕ) → run s (replicate count only_read) ≡ s
all_only_read_alone s zero = refl
all_only_read_alone s (suc count) = all_only_read_alone s count

-- so the changes make it
pub changes_make : (s : State) (changes : List Change) (only_reads : ℕ)
    → run s (calls_in changes only_reads) ≡ run s (kept_calls changes)
changes_make s [] only_reads = all_only_read_alone s only_reads
changes_make s (change ∷ changes) only_reads =
    only_read_alone s change.only_reads (change.made ∷ calls_in changes only_reads)
    ∙ changes_make (step s change.made) changes only_reads

-- the state after so many of the changes
abbrev pub state_in : Text → List Change → ℕ → State
state_in first changes count = run (synced first) (kept_calls (take count changes))

kept-append : (changes : List Change) (change : Change)
    → kept_calls (changes ++ change ∷ []) ≡ kept_calls changes ++ change.made ∷ []
kept-append [] change = refl
kept-append (first ∷ changes) change =
    ap (λ (rest : List Made). first.made ∷ rest) (kept-append changes change)

-- after one more
pub state_in_more : (first : Text) (changes : List Change) (index : ℕ) (change : Change)
    → index < length changes → change ≡ get_or changes index change
    → state_in first changes (index + 1) ≡ step (state_in first changes index) change.made
state_in_more first changes index change within is =
    ap (λ (kept : List Change). run (synced first) (kept_calls kept))
    (take_more changes index change within)
    ∙ ap (run (synced first)) (kept-append (take index changes) (get_or changes index change))
    ∙ run-append (synced first) (kept_calls (take index changes))
    (get_or changes index change).made
    ∙ ap (λ (c : Change). step (state_in first changes index) c.made) (sym is)

-- after all of them
pub state_in_all : (first : Text) (changes : List Change) (count only_reads : ℕ)
    → length changes ≤ count
    → state_in first changes count ≡ state_now first (calls_in changes only_reads)
state_in_all first changes count only_reads all =
    ap (λ (kept : List Change). run (synced first) (kept_calls kept))
    (take_all count changes all)
    ∙ sym (changes_make (synced first) changes only_reads)
