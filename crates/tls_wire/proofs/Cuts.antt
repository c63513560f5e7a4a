-- Cutting a text at a byte.
use Rattle.std.proofs.Common.{◌≡◌, ℕ, ◌+◌, ◌-◌, ◌^◌, ◌<◌, [], ◌∷◌, ◌++◌, length, take}
use Rattle.std.proofs.Common.{drop, get_or, Some, refl, ap, sym, ◌∙◌, append_assoc, arith, decimal}
use Rattle.std.proofs.Common.{eqb-true, subst}
use Rattle.std.specs.Prelude.{option_map, ◌==◌}
use Rattle.std.specs.List.{position, position_or_len}
use Rattle.std.specs.Str.Parse.{AllDigits}
use Rattle.std.proofs.lemmas.Bool.{eq-eqb, eqb-false, lt-ltb, ne_eqb}
use Rattle.std.proofs.lemmas.Fmt.{digits_decimal}
use Rattle.std.proofs.lemmas.List.{drop_more, drop_at, get_or_append_left, get_or_at, length-append}
use Rattle.std.proofs.lemmas.List.{length_push, length-take, take-append-drop, take_at, take_rest}
use Rattle.std.proofs.lemmas.List.{get_or-take}
use Rattle.std.proofs.lemmas.List.Quantifiers.{position-Some}
use Rattle.std.proofs.lemmas.List.Sums.{position_or_len_is}
use Rattle.std.proofs.lemmas.Str.Parse.{digit_at, numerals_by_value, tells_digits}
use Rattle.byte_formats.specs.Types.{Text}
use Rattle.byte_formats.proofs.Values.{map_some}
use Rattle.tls_wire.specs.Lines.{cut_at, Lacks}

pub cut_is : (mark : ℕ) (text : Text) (place : ℕ)
    → Some place ≡ position (λ byte. byte == mark) text
    → Some (take place text, take (length text - (place + 1)) (drop (place + 1) text))
    ≡ cut_at mark text
cut_is mark text place e =
    ap (λ rest. Some (take place text, rest)) (take_rest text (place + 1))
    ∙ ap (option_map (λ p. (take p text, drop (p + 1) text))) e

pub cut_parts : (mark : ℕ) (text : Text) (cut : Text × Text) → cut_at mark text ≡ Some cut
    → text ≡ cut.0 ++ (mark ∷ cut.1)
cut_parts mark text cut e =
    let found = map_some (λ (place : ℕ). (take place text, drop (place + 1) text))
    (position (λ byte. byte == mark) text) cut e in
    let place : ℕ = found.0 in
    let at = position-Some (λ byte. byte == mark) text place 0 found.1 in
    let byte : get_or text place 0 ≡ mark = eqb-true _ _ at.1 in
    let whole : text ≡ take place text ++ (mark ∷ drop (place + 1) text) =
    sym (take-append-drop place text)
    ∙ ap (λ rest. take place text ++ rest) (drop_more text place 0 at.0
    ∙ ap (λ c. c ∷ drop (place + 1) text) byte) in
    whole ∙ ap (λ (c : Text × Text). c.0 ++ (mark ∷ c.1)) found.2

-- The byte doesn't stand before its first offset.
pub cut_lacks : (mark : ℕ) (text : Text) (cut : Text × Text) → cut_at mark text ≡ Some cut
    → Lacks mark cut.0
cut_lacks mark text cut e =
    let found = map_some (λ (place : ℕ). (take place text, drop (place + 1) text))
    (position (λ byte. byte == mark) text) cut e in
    let place : ℕ = found.0 in
    let at = position-Some (λ byte. byte == mark) text place 0 found.1 in
    let P : Text × Text → Type 0 = λ c. Lacks mark c.0 in
    subst P found.2 (λ k before.
    let within : k < place = omega (arith, length-take place text) in
    rw (get_or-take place text k 0 within) (eqb-false _ _ (at.2 k within)))

pub cut_again : (mark : ℕ) (prefix rest : Text) → Lacks mark prefix
    → cut_at mark (prefix ++ (mark ∷ rest)) ≡ Some (prefix, rest)
cut_again mark prefix rest lacks =
    let text : Text = prefix ++ (mark ∷ rest) in
    let long = length-append prefix (mark ∷ rest) in
    let here : length prefix < length text = omega arith in
    let place : position_or_len (λ byte. byte == mark) text ≡ length prefix =
    position_or_len_is (λ byte. byte == mark) text (length prefix) 0 (omega arith)
    (λ k before. ne_eqb (get_or text k 0) mark (λ same. lacks k before
    (sym (get_or_append_left prefix (mark ∷ rest) 0 k before) ∙ same)))
    (λ within. eq-eqb _ _ (get_or_at prefix mark rest 0 (length prefix) refl)) in
    let one : length (prefix ++ (mark ∷ [])) ≡ length prefix + 1 = length_push prefix mark in
    let following : drop (length prefix + 1) text ≡ rest =
    ap (drop (length prefix + 1)) (sym (append_assoc prefix (mark ∷ []) rest))
    ∙ drop_at (prefix ++ (mark ∷ [])) rest (length prefix + 1) one in
    let before : take (length prefix) text ≡ prefix =
    take_at prefix (mark ∷ rest) (length prefix) refl in
    rw (place, lt-ltb (length prefix) (length text) here, before, following) refl

pub decimal_lacks : (mark n : ℕ) → mark < 48 → n < 2 ^ 63 → Lacks mark (decimal n)
decimal_lacks mark n low small i here =
    let all : AllDigits 10 (decimal n) =
    digits_decimal (numerals_by_value (AllDigits 10) tells_digits) n (omega arith) in
    let digit = digit_at (decimal n) i all here in
    omega (arith, digit)
