-- The last line of a text.
use Rattle.std.proofs.Common.{◌≡◌, ◌⊎◌, ℕ, zero, suc, ◌+◌, ◌<◌, ◌≤◌, List, [], ◌∷◌, ◌++◌, length}
use Rattle.std.proofs.Common.{get_or, refl, sym, ap, ◌∙◌, subst, inl, inr, append_assoc, arith}
use Rattle.std.proofs.lemmas.List.{get_or_append_left, get_or_at, length-append}
use Rattle.byte_formats.specs.Types.{Text}
use Rattle.tls_wire.specs.Lines.{Lacks}
use Rattle.monitor_core.specs.TextLaws.{AreWholeLines}

-- ---- whole lines

pub ended : (prefix : Text) → AreWholeLines (prefix ++ (0x0A ∷ []))
ended prefix = inr (prefix, refl)

pub whole_append : (a b : Text) → AreWholeLines a → AreWholeLines b → AreWholeLines (a ++ b)
whole_append a b one (inr (prefix, is)) =
    inr (a ++ prefix, ap (λ t. a ++ t) is ∙ sym (append_assoc a prefix (0x0A ∷ [])))
whole_append a b (inl none) (inl nothing) = inl (ap (λ t. t ++ b) none ∙ nothing)
whole_append a b (inr (prefix, is)) (inl nothing) =
    inr (
      prefix,
      ap (λ t. t ++ b) is ∙ append_assoc prefix (0x0A ∷ []) b
          ∙ ap (λ t. prefix ++ (0x0A ∷ t)) nothing,
    )

-- what follows the first byte of whole lines
whole_rest : (x : ℕ) (rest : Text) → AreWholeLines (x ∷ rest) → AreWholeLines rest
whole_rest x rest (inl none) = absurd cc
whole_rest x rest (inr ([], is)) = inl (let same : rest ≡ [] = cc in same)
whole_rest x rest (inr (y ∷ prefix, is)) =
    let same : rest ≡ prefix ++ (0x0A ∷ []) = cc in
    inr (prefix, same)

-- ---- the last line

-- bytes that lack a newline don't begin with whole lines
none_within : (x : ℕ) (before rest line : Text) → AreWholeLines (x ∷ before)
    → line ≡ (x ∷ before) ++ rest → Lacks 0x0A line → ⊥
none_within x before rest line (inl none) is lacks = absurd cc
none_within x before rest line (inr (prefix, same)) is lacks =
    let whole : line ≡ prefix ++ (0x0A ∷ rest) =
    is ∙ ap (λ t. t ++ rest) same ∙ append_assoc prefix (0x0A ∷ []) rest in
    let long = length-append prefix (0x0A ∷ rest) in
    let within : length prefix < length line = omega (arith, ap length whole) in
    lacks (length prefix) within
    (ap (λ t. get_or t (length prefix) 0) whole ∙ get_or_at prefix 0x0A rest 0 (length prefix) refl)

-- two ways in which a text ends with a line
pub one_last : (a b one other : Text) → AreWholeLines a → AreWholeLines b → Lacks 0x0A one
    → Lacks 0x0A other → a ++ one ≡ b ++ other → one ≡ other
one_last [] [] one other first second lacks lack same = same
one_last [] (y ∷ b) one other first second lacks lack same =
    absurd (none_within y b other one second same lacks)
one_last (x ∷ a) [] one other first second lacks lack same =
    absurd (none_within x a one other first (sym same) lack)
one_last (x ∷ a) (y ∷ b) one other first second lacks lack same =
    let rest : a ++ one ≡ b ++ other = cc in
    one_last a b one other (whole_rest x a first) (whole_rest y b second) lacks lack rest

-- without the end of the last line
pub unended : (a b : Text) → a ++ (0x0A ∷ []) ≡ b ++ (0x0A ∷ []) → a ≡ b
unended [] [] same = refl
unended [] (y ∷ b) same =
    let rest : [] ≡ b ++ (0x0A ∷ []) = cc in
    let long = length-append b (0x0A ∷ []) in
    absurd (omega (arith, ap length rest))
unended (x ∷ a) [] same =
    let rest : a ++ (0x0A ∷ []) ≡ [] = cc in
    let long = length-append a (0x0A ∷ []) in
    absurd (omega (arith, ap length rest))
unended (x ∷ a) (y ∷ b) same =
    let first : x ≡ y = cc in
    let rest : a ++ (0x0A ∷ []) ≡ b ++ (0x0A ∷ []) = cc in
    ap (λ n. n ∷ a) first ∙ ap (λ t. y ∷ t) (unended a b rest)
