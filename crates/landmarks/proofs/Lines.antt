-- Lines and the numbers in them, read and written.
use Rattle.std.proofs.Common.{◌≡◌, ◌≢◌, ℕ, zero, suc, ◌+◌, ◌-◌, ◌^◌, ◌<◌, ◌≤◌, [], ◌∷◌, ◌++◌}
use Rattle.std.proofs.Common.{length, get_or, Some, Ok, refl, ap, sym, subst, ◌∙◌, append_assoc}
use Rattle.std.proofs.Common.{arith, decimal, ⊎_elim}
use Rattle.std.proofs.lemmas.Bool.{cases_lt}
use Rattle.std.proofs.lemmas.List.{get_or_append_left, get_or-append_right, length-append}
use Rattle.byte_formats.specs.Types.{Text}
use Rattle.byte_formats.specs.Readings.{◌>>=◌, some_or}
use Rattle.byte_formats.proofs.Steps.{bind_ok, ok_is, some_or_ok}
use Rattle.tls_wire.specs.Decimal.{number_of}
use Rattle.tls_wire.specs.Lines.{cut_at, Lacks}
use Rattle.tls_wire.proofs.Decimals.{decimal_is_number, number_is_decimal}
use Rattle.tls_wire.proofs.Cuts.{cut_again, cut_parts, decimal_lacks}
use Rattle.landmarks.specs.Texts.{line, line_at, number_line}
use Rattle.landmarks.specs.declared.error.ListError.{ListError}
use Rattle.landmarks.specs.declared.error.ListError.TheVariants.{BadLine}

-- ---- what is read is written so

pub number_read : (n : ℕ) (text : Text) (m : ℕ) (rest : Text) → number_line n text ≡ Ok (m, rest)
    → (text ≡ line m ++ rest) × (m < 2 ^ 63)
number_read n text m rest e =
    let first = bind_ok (line_at n text) (λ (cut : Text
    × Text). some_or (BadLine n) (number_of cut.0) >>= λ k. Ok (k, cut.1)) (m, rest) e in
    let cut : Text × Text = first.0 in
    let second = bind_ok (some_or (BadLine n) (number_of cut.0)) (λ k. Ok (k, cut.1)) (m, rest)
    first.2 in
    let known = number_is_decimal cut.0 second.0 (some_or_ok (BadLine n) (number_of cut.0) second.0
    second.1) in
    let text_is : text ≡ line second.0 ++ cut.1 =
    cut_parts 0x0A text cut (some_or_ok (BadLine n) (cut_at 0x0A text) cut first.1)
    ∙ ap (λ prefix. prefix ++ (0x0A ∷ cut.1)) (sym known.0)
    ∙ sym (append_assoc (decimal second.0) (0x0A ∷ []) cut.1) in
    let P : ℕ × Text → Type 0 = λ x. (text ≡ line x.0 ++ x.1) × (x.0 < 2 ^ 63) in
    subst P (ok_is ListError (second.0, cut.1) (m, rest) second.2) (text_is, known.1)

-- ---- what is written so is read

pub number_again : (n m : ℕ) (rest : Text) → m < 2 ^ 63
    → number_line n (line m ++ rest) ≡ Ok (m, rest)
number_again n m rest small =
    let grouped : line m ++ rest ≡ decimal m ++ (0x0A ∷ rest) =
    append_assoc (decimal m) (0x0A ∷ []) rest in
    let cut : cut_at 0x0A (line m ++ rest) ≡ Some (decimal m, rest) =
    ap (cut_at 0x0A) grouped
    ∙ cut_again 0x0A (decimal m) rest (decimal_lacks 0x0A m (omega arith) small) in
    rw (cut, decimal_is_number m small) refl

-- two numbers with a space between them, and the end of their line
pub head_lacks : (last active : ℕ) → last < 2 ^ 63 → active < 2 ^ 63
    → Lacks 0x0A (decimal last ++ (0x20 ∷ decimal active))
head_lacks last active small few i here =
    ⊎_elim
    (λ (prefix : i < length (decimal last)).
    let same = get_or_append_left (decimal last) (0x20 ∷ decimal active) 0 i prefix in
    let other = decimal_lacks 0x0A last (omega arith) small i prefix in λ e. other (sym same ∙ e))
    (λ (back : length (decimal last) ≤ i).
    let same = get_or-append_right (decimal last) (0x20 ∷ decimal active) (length (decimal last)) i
    0 refl back in
    let long = length-append (decimal last) (0x20 ∷ decimal active) in
    let other = following (i - length (decimal last)) (omega arith) in λ e. other (sym same ∙ e))
    (cases_lt i (length (decimal last)))
  where
    following : (k : ℕ) → k < length (0x20 ∷ decimal active)
        → get_or (0x20 ∷ decimal active) k 0 ≢ 0x0A
    following zero within = λ e. absurd (omega (arith, e))
    following (suc k) within = decimal_lacks 0x0A active (omega arith) few k (omega arith)
