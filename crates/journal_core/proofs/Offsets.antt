-- The offsets of records: where an opening stands, and the length that is read at one.
use Rattle.std.proofs.Common.{◌≡◌, ℕ, ◌+◌, ◌<◌, ◌≤◌, ◌^◌, List, [], ◌∷◌, ◌++◌, length, Option}
use Rattle.std.proofs.Common.{Some, None, IfSome, option_map, refl, ap, sym, ◌∙◌, subst, arith}
use Rattle.std.specs.Int.{w32, to_be_bytes, from_be_bytes}
use Rattle.std.proofs.lemmas.Nat.{from_be_bytes-to_be_bytes_4}
use Rattle.journal_core.specs.Format.{AreRecordsAt, end_offset, Represents, records_of}
use Rattle.journal_core.specs.Format.{records_before}
use Rattle.journal_core.specs.Durable.{IsReading}
use Rattle.journal_core.specs.Words.{HoldsLength, HasSize}
use Rattle.journal_core.proofs.Modelled.{at_contents, of_records}

-- the offset of the next commit byte, by the records that were read
pub offset_of_list : (contents : Option (List ℕ)) (crash_states : List ℕ → Type 0) (place : ℕ)
    → ((b : List ℕ) → contents ≡ Some b → IsReading b crash_states place)
    → IfSome (option_map (λ b. records_before b place) contents)
    (λ list. place + 1 ≡ end_offset list)
offset_of_list None crash_states place reading = tt
offset_of_list (Some b) crash_states place reading =
    ap (λ (n : ℕ). n + 1) (reading b refl).offset_is

-- a body among records is not too long
body_few : (bytes : List ℕ) (place : ℕ) (prefix : List (List ℕ)) (body : List ℕ)
    (back : List (List ℕ)) → AreRecordsAt bytes place (prefix ++ body ∷ back)
    → length body ≤ 131072
body_few bytes place [] body back are = are.0.few
body_few bytes place (first ∷ prefix) body back are =
    body_few bytes (place + 5 + length first) prefix body back are.1

-- four bytes encode one number at most
same_number : (one other : ℕ) → one < 2 ^ 32 → other < 2 ^ 32
    → to_be_bytes w32 one ≡ to_be_bytes w32 other → one ≡ other
same_number one other small fits same =
    sym (from_be_bytes-to_be_bytes_4 one small) ∙ ap (from_be_bytes w32) same
    ∙ from_be_bytes-to_be_bytes_4 other fits

-- the number in the four bytes that were read
pub size_read : (contents : Option (List ℕ)) (place size : ℕ) (read : List ℕ)
    → ((b : List ℕ) → contents ≡ Some b → Represents b (records_of b))
    → IfSome (option_map records_of contents) (HoldsLength place read) → length read ≡ 4
    → size < 2 ^ 32 → to_be_bytes w32 size ≡ read
    → IfSome (option_map records_of contents) (HasSize place size)
size_read contents place size read stands holds four small encoded =
    of_records (HasSize place size) contents
    (λ b is prefix body back list_is offset_is.
    let few : length body ≤ 131072 = body_few b 16 prefix body back
    (subst (λ (list : List (List ℕ)). AreRecordsAt b 16 list) list_is (stands b is).holds) in
    let length_is : read ≡ to_be_bytes w32 (length body) =
    at_contents (HoldsLength place read) (option_map records_of contents) (records_of b)
    (ap (option_map records_of) is) holds prefix body back list_is offset_is four in
    (same_number size (length body) small (omega arith) (encoded ∙ length_is), few))
