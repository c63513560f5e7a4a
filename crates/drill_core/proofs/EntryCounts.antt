-- How many entries a drill's log has.
use Rattle.std.proofs.Common.{◌≡◌, ◌∙◌, ◌+◌, ℕ, zero, suc, List, length, refl, sym, ap, subst}
use Rattle.std.proofs.Common.{arith, add-one}
use Rattle.std.proofs.lemmas.List.{length-append}
use Rattle.byte_formats.specs.Types.{HashFunction}
use Rattle.issuance_log.specs.Folds.{LogState, view_in}
use Rattle.authority_core.specs.Issues.{issued_log}
use Rattle.drill_core.specs.Entries.{entries_to, keys_to, log_with, request_for}
use Rattle.drill_core.specs.Played.{issued_to}

pub entries_length : (h : HashFunction) (size : ℕ) → length (entries_to h size) ≡ size
unfolding entries_to
entries_length h zero = refl
entries_length h (suc size) =
    let before = entries_length h size in grind (arith, length-append, before)

one_more : (h : HashFunction) (before : ℕ) (marks : List ℕ)
    → issued_log h (view_in (log_with h (suc before) marks)) (request_for (suc before))
    (log_with h (suc before) marks)
    ≡ log_with h (suc (suc before)) marks
unfolding entries_to keys_to
one_more h before marks = refl

next_issued : (h : HashFunction) (t : LogState) (before : ℕ) (marks : List ℕ)
    → t ≡ log_with h (suc before) marks
    → issued_log h (view_in t) (request_for (length t.entries)) t
    ≡ log_with h (suc (suc before)) marks
next_issued h t before marks same =
    subst (λ (u : LogState). issued_log h (view_in u) (request_for (length u.entries)) u
    ≡ log_with h (suc (suc before)) marks) (sym same)
    (subst (λ (k : ℕ). issued_log h (view_in (log_with h (suc before) marks)) (request_for k)
    (log_with h (suc before) marks)
    ≡ log_with h (suc (suc before)) marks) (sym (entries_length h (suc before)))
    (one_more h before marks))

pub issued_is : (h : HashFunction) (count before size : ℕ) (marks : List ℕ)
    → size ≡ suc before + count
    → issued_to h count (log_with h (suc before) marks) ≡ log_with h size marks
unfolding issued_to
issued_is h zero before size marks same =
    let equal : suc before ≡ size = omega arith in ap (λ (k : ℕ). log_with h k marks) equal
issued_is h (suc count) before size marks same =
    let last : suc (suc (before + count)) ≡ size = omega arith in
    let earlier : suc (before + count) ≡ suc before + count = omega arith in
    next_issued h (issued_to h count (log_with h (suc before) marks)) (before + count) marks
    (issued_is h count before (suc (before + count)) marks earlier)
    ∙ ap (λ (k : ℕ). log_with h k marks) last

-- one entry more
pub issued_next : (h : HashFunction) (count : ℕ) (s t u : LogState) → t ≡ issued_to h count s
    → u ≡ issued_log h (view_in t) (request_for (length t.entries)) t
    → u ≡ issued_to h (count + 1) s
unfolding issued_to
issued_next h count s t u before now =
    rw (add-one count) (now ∙ ap (λ (x : LogState). issued_log h (view_in x)
    (request_for (length x.entries)) x) before)

pub issued_length : (h : HashFunction) (count : ℕ) (s : LogState)
    → length (issued_to h count s).entries ≡ length s.entries + count
unfolding issued_to
issued_length h zero s = omega arith
issued_length h (suc count) s =
    let before = issued_length h count s in grind (arith, length-append, before)
