-- The summary of a drill is of its form.
use Rattle.std.proofs.Common.{◌≡◌, ◌≤◌, ◌+◌, ◌-◌, ℕ, zero, suc, true, refl, arith, sym, subst}
use Rattle.std.specs.Str.{bytes_eq}
use Rattle.std.proofs.lemmas.Bool.{or_left, or_right}
use Rattle.byte_formats.proofs.Values.{same_bytes}
use Rattle.drill_core.specs.Counts.{IsCounted}
use Rattle.drill_parties.specs.Rounds.{drill_of}
use Rattle.drill_core.specs.declared.made.Counts.{Counts}
use Rattle.mtc_drill.specs.Summary.{counts_with, is_summary, is_summary_from, summary_text}

is_from : (number first more past : ℕ) → past ≤ more
    → is_summary_from number (summary_text number (counts_with number (first + past))) first more
    ≡ true
is_from number first zero past few =
    let none : first ≡ first + past = omega (arith, few) in
    subst (λ k. bytes_eq (summary_text number (counts_with number k))
    (summary_text number (counts_with number first)) ≡ true) none
    (same_bytes (summary_text number (counts_with number first)))
is_from number first (suc more) zero few =
    let none : first ≡ first + zero = omega (arith) in
    or_left _ _ (subst (λ k. bytes_eq (summary_text number (counts_with number k))
    (summary_text number (counts_with number first)) ≡ true) none
    (same_bytes (summary_text number (counts_with number first))))
is_from number first (suc more) (suc past) few =
    let next : first + 1 + past ≡ first + suc past = omega (arith) in
    or_right _ _ (subst
    (λ k. is_summary_from number (summary_text number (counts_with number k)) (first + 1) more
    ≡ true) next (is_from number (first + 1) more past (omega (arith, few))))

-- the numbers of a drill are those with its signatures
is_made : (c : Counts) (entries landmarks stops verified stands light : ℕ) → c.entries ≡ entries
    → c.landmarks ≡ landmarks → c.stops ≡ stops → c.verified ≡ verified → c.stands ≡ stands
    → c.light ≡ light → c ≡ record {
      entries = entries;
      landmarks = landmarks;
      signatures = c.signatures;
      stops = stops;
      verified = verified;
      stands = stands;
      light = light;
    }
is_made c entries landmarks stops verified stands light a b d e f g =
    rw (sym a, sym b, sym d, sym e, sym f, sym g) refl

is_with : (number : ℕ) (c : Counts) → IsCounted number c → c ≡ counts_with number c.signatures
is_with number c is = is_made c _ _ _ _ _ _ is.entries is.landmarks is.stops is.verified is.stands
    is.light

pub is_one : (number : ℕ) (c : Counts) → IsCounted number c
    → is_summary number (summary_text number c) ≡ true
is_one number c is =
    let past : 48 + (c.signatures - 48) ≡ c.signatures = omega (arith, is.some_signatures) in
    subst (λ x. is_summary number (summary_text number x) ≡ true) (sym (is_with number c is))
    (subst (λ k. is_summary number (summary_text number (counts_with number k)) ≡ true) past
    (is_from number 48 (drill_of number).stops (c.signatures - 48)
    (omega (arith, is.some_signatures, is.few_signatures))))
