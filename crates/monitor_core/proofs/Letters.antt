-- Which bytes the words of a text have.
use Rattle.std.proofs.Common.{◌≡◌, ◌≢◌, ℕ, zero, suc, ◌+◌, ◌/◌, ◌%◌, ◌^◌, ◌<◌, ◌≤◌, Bool, true}
use Rattle.std.proofs.Common.{false, ◌||◌, List, [], ◌∷◌, ◌++◌, get_or, Some, Result, Ok, Err, refl}
use Rattle.std.proofs.Common.{sym, ap, ◌∙◌, ⊎_elim, arith, flat_map, decimal}
use Rattle.std.specs.Prelude.{◌==◌}
use Rattle.std.specs.Char.{is_ascii_digit}
use Rattle.std.specs.List.{AllByRecursion, list_all}
use Rattle.std.specs.Str.{IsAscii, IsUtf8, all_ascii_digits}
use Rattle.std.proofs.lemmas.Bool.{and_from, and_parts, both_ways, cases_lt, or_left}
use Rattle.std.proofs.lemmas.Bool.Decides.{nat_tests}
use Rattle.std.proofs.lemmas.List.{get_or_past}
use Rattle.std.proofs.lemmas.List.Folds.{list_all-append}
use Rattle.std.proofs.lemmas.Str.{IsUtf8-from_ascii}
use Rattle.hex.specs.Hex.{encode_lower, encode_with, hex_digit_value, lower_digits}
use Rattle.hex.proofs.HexLemmas.{IsDigits-lower_digits}
use Rattle.byte_formats.specs.Offsets.{IsBytes}
use Rattle.byte_formats.specs.Readings.{blamed}
use Rattle.byte_formats.specs.Types.{Text}
use Rattle.tls_wire.specs.Anchors.{anchor_text, text_of}
use Rattle.tls_wire.specs.Arcs.{IsAnchorId, IsArc, dot_decimal, dotted}
use Rattle.tls_wire.specs.Lines.{Lacks}
use Rattle.tls_wire.specs.declared.fault.AnchorError.{AnchorError}
use Rattle.tls_wire.proofs.AnchorForm.{text_of_id, text_takes}
use Rattle.tls_wire.proofs.Decimals.{decimal_digits}
use Rattle.monitor_core.specs.Written.{is_visible}
use Rattle.monitor_core.specs.declared.error.TextError.TheVariants.{BadLine}

-- ---- a byte that a text lacks

pub lacks_none : (mark : ℕ) → Lacks mark []
lacks_none mark i here = absurd (omega arith)

pub lacks_append : (mark : ℕ) (prefix back : Text) → Lacks mark prefix → Lacks mark back
    → Lacks mark (prefix ++ back)
lacks_append mark [] back one other i here = other i here
lacks_append mark (x ∷ prefix) back one other zero here = one 0 (omega arith)
lacks_append mark (x ∷ prefix) back one other (suc i) here =
    lacks_append mark prefix back (λ k inside. one (suc k) (omega arith)) other i (omega arith)

pub lacks_cons : (mark x : ℕ) (rest : Text) → x ≢ mark → Lacks mark rest → Lacks mark (x ∷ rest)
lacks_cons mark x rest other lacks zero here = other
lacks_cons mark x rest other lacks (suc i) here = lacks i (omega arith)

-- every byte passes a test, and this one doesn't
pub lacks_failing : (p : ℕ → Bool) (mark : ℕ) (text : Text) → p mark ≡ false
    → list_all p text ≡ true → Lacks mark text
lacks_failing p mark [] none all i here = absurd (omega arith)
lacks_failing p mark (x ∷ text) none all zero here = λ same.
    both_ways (p mark) none (ap p (sym same) ∙ (and_parts (p x) (list_all p text) all).0)
lacks_failing p mark (x ∷ text) none all (suc i) here =
    lacks_failing p mark text none (and_parts (p x) (list_all p text) all).1 i (omega arith)

-- ---- the text of an id, and a number

-- a digit or a dot
abbrev pub is_id_byte : ℕ → Bool
is_id_byte b = is_ascii_digit b || (b == 0x2E)

digits_pass : (text : Text) → all_ascii_digits text ≡ true → list_all is_id_byte text ≡ true
digits_pass [] all = refl
digits_pass (c ∷ cs) all =
    let parts = and_parts (is_ascii_digit c) (all_ascii_digits cs) all in
    and_from (is_id_byte c) (list_all is_id_byte cs)
    (or_left (is_ascii_digit c) (c == 0x2E) parts.0) (digits_pass cs parts.1)

pub decimal_bytes : (n : ℕ) → n < 2 ^ 64 → list_all is_id_byte (decimal n) ≡ true
decimal_bytes n small = digits_pass (decimal n) (decimal_digits n small)

dots_bytes : (ns : List ℕ) → AllByRecursion IsArc ns
    → list_all is_id_byte (flat_map dot_decimal ns) ≡ true
dots_bytes [] small = refl
dots_bytes (n ∷ ns) small =
    list_all-append is_id_byte (dot_decimal n) (flat_map dot_decimal ns)
    ∙ and_from (list_all is_id_byte (dot_decimal n)) (list_all is_id_byte (flat_map dot_decimal ns))
    (decimal_bytes n small.0) (dots_bytes ns small.1)

dotted_bytes : (ns : List ℕ) → AllByRecursion IsArc ns → list_all is_id_byte (dotted ns) ≡ true
dotted_bytes [] small = refl
dotted_bytes (n ∷ ns) small =
    list_all-append is_id_byte (decimal n) (flat_map dot_decimal ns)
    ∙ and_from (list_all is_id_byte (decimal n)) (list_all is_id_byte (flat_map dot_decimal ns))
    (decimal_bytes n small.0) (dots_bytes ns small.1)

pub id_bytes : (id : Text) → IsAnchorId id → list_all is_id_byte (text_of id) ≡ true
id_bytes id is = ap (list_all is_id_byte) (text_of_id id is) ∙ dotted_bytes is.arcs is.are_arcs

low_byte : (c : ℕ) → is_id_byte c ≡ true → c < 128
low_byte c is = grind (arith, nat_tests)

ascii : (text : Text) → list_all is_id_byte text ≡ true → IsAscii text
ascii [] all i = omega arith
ascii (c ∷ cs) all zero =
    low_byte c (and_parts (is_id_byte c) (list_all is_id_byte cs) all).0
ascii (c ∷ cs) all (suc i) =
    ascii cs (and_parts (is_id_byte c) (list_all is_id_byte cs) all).1 i

-- what isn't UTF-8 is no id
pub no_id : (text : Text) (n : ℕ) → IsBytes text → (IsUtf8 text → ⊥)
    → blamed (BadLine n) (anchor_text text) ≡ Err (BadLine n)
no_id text n bytes none = go (anchor_text text) refl
  where
    go : (r : Result Text AnchorError) → anchor_text text ≡ r
        → blamed (BadLine n) r ≡ Err (BadLine n)
    go (Ok id) is =
        let known = text_takes text id bytes is in
        absurd (none (IsUtf8-from_ascii text
        (ascii text (ap (list_all is_id_byte) (sym known.1) ∙ id_bytes id known.0))))
    go (Err e) is = refl

-- ---- hexadecimal digits, and names

digit_some : (c d : ℕ) → hex_digit_value c ≡ Some d → 48 ≤ c
digit_some c d is = grind (arith, nat_tests)

digit_high : (d : ℕ) → d < 16 → 48 ≤ get_or lower_digits d 0
digit_high d small = digit_some (get_or lower_digits d 0) d (IsDigits-lower_digits d small)

-- an index of the table is that of a digit, or past the table
digit_other : (mark d : ℕ) → 0 < mark → mark < 48 → get_or lower_digits d 0 ≢ mark
digit_other mark d some low =
    ⊎_elim
    (λ (small : d < 16). let high = digit_high d small in λ same. absurd (omega (arith, same)))
    (λ (past : 16 ≤ d).
    let none : get_or lower_digits d 0 ≡ 0 = get_or_past lower_digits d 0 past in
    λ same. absurd (omega (arith, same)))
    (cases_lt d 16)

pub hex_lacks : (mark : ℕ) (bytes : Text) → 0 < mark → mark < 48 → Lacks mark (encode_lower bytes)
unfolding encode_with
hex_lacks mark [] some low = lacks_none mark
hex_lacks mark (b ∷ rest) some low =
    lacks_cons mark (get_or lower_digits (b / 16) 0)
    (get_or lower_digits (b % 16) 0 ∷ encode_with lower_digits rest)
    (digit_other mark (b / 16) some low)
    (lacks_cons mark (get_or lower_digits (b % 16) 0) (encode_with lower_digits rest)
    (digit_other mark (b % 16) some low) (hex_lacks mark rest some low))

pub name_lacks : (name : Text) → list_all is_visible name ≡ true → Lacks 0x0A name
name_lacks name visible = lacks_failing is_visible 0x0A name refl visible
