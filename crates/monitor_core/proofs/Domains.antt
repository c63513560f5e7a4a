-- Reading the lines of a watch file one after another.
use Rattle.std.proofs.Common.{◌≡◌, ℕ, suc, ◌+◌, ◌-◌, true, false, List, [], ◌∷◌, ◌++◌, zero, length}
use Rattle.std.proofs.Common.{Result, Ok, Err, refl, ap, ◌∙◌, sym, append-nil, append_assoc}
use Rattle.std.specs.Prelude.{◌==◌}
use Rattle.byte_formats.specs.Types.{Text}
use Rattle.byte_formats.specs.Readings.{◌>>=◌}
use Rattle.monitor_core.specs.Reading.{domain_line, domain_lines}
use Rattle.monitor_core.specs.declared.error.TextError.{TextError}
use Rattle.monitor_core.specs.declared.error.TextError.TheVariants.{BadLine}

-- the domains so far and those that are read from here on
abbrev pub with_others : List Text → Result (List Text) TextError → Result (List Text) TextError
with_others done more = more >>= λ domains. Ok (done ++ domains)

pub domains_from : (done : List Text) (all : Result (List Text) TextError) → done ≡ []
    → with_others done all ≡ all
domains_from done (Ok all) none = ap (λ xs. Ok (xs ++ all)) none
domains_from done (Err e) none = refl

with_one : (done : List Text) (domain : Text) (more : Result (List Text) TextError)
    → with_others done (more >>= λ xs. Ok (domain ∷ xs))
    ≡ with_others (done ++ domain ∷ []) more
with_one done domain (Ok xs) = ap Ok (sym (append_assoc done (domain ∷ []) xs))
with_one done domain (Err e) = refl

-- the text has more than nothing
pub opened : (left n : ℕ) (text : Text) → (length text == 0) ≡ false
    → domain_lines (suc left) n text
    ≡ (domain_line n text >>= λ cut.
    domain_lines left (n + 1) cut.1 >>= λ more. Ok (cut.0 ∷ more))
unfolding domain_lines
opened left n text some = rw some refl

-- one more
pub domains_more : (count left n : ℕ) (text domain rest : Text) (done now : List Text)
    → left ≡ suc count → (length text == 0) ≡ false → domain_line n text ≡ Ok (domain, rest)
    → now ≡ done ++ domain ∷ []
    → with_others done (domain_lines left n text)
    ≡ with_others now (domain_lines count (n + 1) rest)
domains_more count left n text domain rest done now more some e grown =
    ap (λ k. with_others done (domain_lines k n text)) more
    ∙ ap (with_others done) (opened count n text some)
    ∙ ap (λ (r : Result (Text × Text) TextError). with_others done (r >>= λ cut.
    domain_lines count (n + 1) cut.1 >>= λ more. Ok (cut.0 ∷ more))) e
    ∙ with_one done domain (domain_lines count (n + 1) rest)
    ∙ ap (λ xs. with_others xs (domain_lines count (n + 1) rest)) (sym grown)

-- a fault
pub domains_fail : (count left n : ℕ) (text : Text) (done : List Text) (fault : TextError)
    → left ≡ suc count → (length text == 0) ≡ false → domain_line n text ≡ Err fault
    → with_others done (domain_lines left n text) ≡ Err fault
domains_fail count left n text done fault more some e =
    ap (λ k. with_others done (domain_lines k n text)) more
    ∙ ap (with_others done) (opened count n text some)
    ∙ ap (λ (r : Result (Text × Text) TextError). with_others done (r >>= λ cut.
    domain_lines count (n + 1) cut.1 >>= λ more. Ok (cut.0 ∷ more))) e

-- the end of the text
pub domains_end : (left n : ℕ) (text : Text) (done : List Text) → (length text == 0) ≡ true
    → with_others done (domain_lines left n text) ≡ Ok done
unfolding domain_lines
domains_end zero n text done none = rw none (ap Ok (append-nil done))
domains_end (suc left) n text done none = rw none (ap Ok (append-nil done))

-- too many lines
pub domains_over : (left n m : ℕ) (text : Text) (done : List Text) → left ≡ 0 → n ≡ m
    → (length text == 0) ≡ false → with_others done (domain_lines left n text) ≡ Err (BadLine m)
unfolding domain_lines
domains_over zero n m text done none same some = rw (some, same) refl
domains_over (suc left) n m text done none same some = absurd cc
