-- Text in lines of 64 characters, line by line.
use Rattle.std.proofs.Common.{◌≡◌, ℕ, zero, suc, ◌<◌, ◌≤◌, [], ◌∷◌, ◌++◌, length, take, drop}
use Rattle.std.proofs.Common.{refl, ap, sym, ◌∙◌, append_assoc, append-nil, arith, Bool, true}
use Rattle.std.proofs.Common.{false}
use Rattle.std.proofs.lemmas.List.{length-drop}
use Rattle.base64.specs.Engines.{standard}
use Rattle.base64.specs.GeneralPurpose.{encode_of}
use Rattle.std.proofs.lemmas.Bool.Decides.{nat_tests}
use Rattle.std.specs.Prelude.{codes, if◌then◌else◌, ◌==◌}
use Rattle.byte_formats.specs.Types.{Text}
use Rattle.authority_core.specs.Several.{lines_of_64, pem_of}

zero_not : (n : ℕ) → 0 < n → (n == 0) ≡ false
zero_not n some = grind (arith, nat_tests)

zero_is : (n : ℕ) → (n == 0) ≡ true → n ≡ 0
zero_is n is = grind (arith, nat_tests)

above_zero : (n : ℕ) → (n == 0) ≡ false → 0 < n
above_zero n is = grind (arith, nat_tests)

lines_none : (n : ℕ) → lines_of_64 n [] ≡ []
unfolding lines_of_64
lines_none zero = refl
lines_none (suc n) = refl

-- the first line
lines_first : (n : ℕ) (text : Text) → 0 < length text → lines_of_64 (suc n) text
    ≡ take 64 text ++ codes "\n" ++ lines_of_64 n (drop 64 text)
unfolding lines_of_64
lines_first n text some =
    ap (λ (b : Bool). if b then [] else take 64 text ++ codes "\n" ++ lines_of_64 n (drop 64 text))
    (zero_not (length text) some)

-- It doesn't matter how many lines there may be.
lines_same : (n m : ℕ) (text : Text) → length text ≤ n → length text ≤ m
    → lines_of_64 n text ≡ lines_of_64 m text
lines_same n m [] few less = lines_none n ∙ sym (lines_none m)
lines_same zero m (c ∷ text) few less = absurd (omega arith)
lines_same (suc n) zero (c ∷ text) few less = absurd (omega arith)
lines_same (suc n) (suc m) (c ∷ text) few less =
    let rest : Text = drop 64 (c ∷ text) in
    lines_first n (c ∷ text) (omega arith)
    ∙ ap (λ (t : Text). take 64 (c ∷ text) ++ codes "\n" ++ t)
    (lines_same n m rest (omega (arith, length-drop 64 (c ∷ text)))
    (omega (arith, length-drop 64 (c ∷ text))))
    ∙ sym (lines_first m (c ∷ text) (omega arith))

lines_step : (text : Text) → 0 < length text → lines_of_64 (length text) text
    ≡ take 64 text ++ codes "\n" ++ lines_of_64 (length (drop 64 text)) (drop 64 text)
lines_step [] some = absurd (omega arith)
lines_step (c ∷ text) some =
    lines_first (length text) (c ∷ text) some
    ∙ ap (λ (t : Text). take 64 (c ∷ text) ++ codes "\n" ++ t)
    (lines_same (length text) (length (drop 64 (c ∷ text))) (drop 64 (c ∷ text))
    (omega (arith, length-drop 64 (c ∷ text))) (omega arith))

pub lines_end : (text : Text) → length text ≡ 0 → lines_of_64 (length text) text ≡ []
lines_end [] is = lines_none 0
lines_end (c ∷ text) is = absurd (omega arith)

-- One line more, and the lines of what follows it.
pub line_more : (out new rest line later whole : Text) → 0 < length rest
    → out ++ lines_of_64 (length rest) rest ≡ whole → line ≡ take 64 rest → later ≡ drop 64 rest
    → new ≡ out ++ (line ++ codes "\n")
    → new ++ lines_of_64 (length later) later ≡ whole
line_more out new rest line later whole some so_far line_is later_is new_is =
    let lines : Text = lines_of_64 (length (drop 64 rest)) (drop 64 rest) in
    ap (λ (t : Text). new ++ lines_of_64 (length t) t) later_is
    ∙ ap (λ (t : Text). t ++ lines) new_is
    ∙ append_assoc out (line ++ codes "\n") lines
    ∙ ap (λ (t : Text). out ++ ((t ++ codes "\n") ++ lines)) line_is
    ∙ ap (λ (t : Text). out ++ t) (sym (lines_step rest some))
    ∙ so_far

-- At the end there are no more.
pub lines_whole : (out rest whole : Text) → length rest ≡ 0
    → out ++ lines_of_64 (length rest) rest ≡ whole → out ≡ whole
lines_whole out rest whole is so_far =
    sym (append-nil out) ∙ ap (λ (t : Text). out ++ t) (sym (lines_end rest is)) ∙ so_far

pub some_left : (text : Text) → (length text == 0) ≡ false → 0 < length text
some_left text is = above_zero (length text) is

pub none_left : (text : Text) → (length text == 0) ≡ true → length text ≡ 0
none_left text is = zero_is (length text) is

-- The lines between the first and the last one.
pub pem_is : (old begun lined text der : Text)
    → begun ≡ old ++ codes "-----BEGIN CERTIFICATE-----\n"
    → lined ≡ begun ++ lines_of_64 (length text) text → text ≡ encode_of standard der
    → lined ++ codes "-----END CERTIFICATE-----\n" ≡ old ++ pem_of der
unfolding pem_of
pem_is old begun lined text der begun_is lined_is text_is =
    let lines : Text = lines_of_64 (length (encode_of standard der)) (encode_of standard der) in
    let last : Text = codes "-----END CERTIFICATE-----\n" in
    ap (λ (t : Text). t ++ last) (lined_is
    ∙ ap (λ (t : Text). begun ++ lines_of_64 (length t) t) text_is
    ∙ ap (λ (t : Text). t ++ lines) begun_is)
    ∙ append_assoc (old ++ codes "-----BEGIN CERTIFICATE-----\n") lines last
    ∙ append_assoc old (codes "-----BEGIN CERTIFICATE-----\n") (lines ++ last)
