-- What labels say of the bytes of a host name.
use Rattle.std.proofs.Common.{◌≡◌, ℕ, ◌≤◌, nat_lt, nat_le, Bool, true, false}
use Rattle.std.proofs.Common.{◌||◌, ◌&&◌, cond, List, [], ◌∷◌, length, codes, refl, arith}
use Rattle.std.proofs.lemmas.Bool.{and_parts}
use Rattle.std.proofs.lemmas.Bool.Decides.{nat_tests}
use Rattle.std.proofs.lemmas.Slice.Eq.{bytes_eq-Decides}
use Rattle.std.specs.List.{list_all, onto_first, slice_split}
use Rattle.std.specs.Str.{bytes_eq}
use Rattle.byte_formats.specs.Types.{Text}
use Rattle.cert_fields.specs.AltNames.{is_ascii}
use Rattle.cert_names.specs.Hosts.{is_dot, is_label, is_label_at, is_label_byte, are_labels}
use Rattle.cert_names.specs.Hosts.{labels_of, is_host_name, IsHostName}

label_byte_ascii : (b : ℕ) → is_label_byte b ≡ true → nat_lt b 128 ≡ true
label_byte_ascii b h = grind (arith, nat_tests, h)

bytes_ascii : (l : Text) → list_all is_label_byte l ≡ true → is_ascii l ≡ true
bytes_ascii [] h = refl
bytes_ascii (b ∷ bs) h =
    let (here, more) = and_parts (is_label_byte b) (list_all is_label_byte bs) h in
    rw (label_byte_ascii b here, bytes_ascii bs more)

label_ascii : (l : Text) → is_label l ≡ true → is_ascii l ≡ true
unfolding is_label
label_ascii l h = bytes_ascii l (and_parts _ (list_all is_label_byte l) h).1

label_or_star : (b : Bool) (l : Text) → is_label l ≡ b → (b || bytes_eq l (codes "*")) ≡ true
    → is_ascii l ≡ true
label_or_star true l e h = label_ascii l e
label_or_star false l e h = rw ((bytes_eq-Decides l (codes "*")).0 h)

label_at_ascii : (first : Bool) (l : Text) → is_label_at first l ≡ true → is_ascii l ≡ true
label_at_ascii true l h = label_or_star (is_label l) l refl h
label_at_ascii false l h = label_ascii l h

labels_ascii : (first : Bool) (ls : List Text) → are_labels first ls ≡ true
    → list_all is_ascii ls ≡ true
labels_ascii first [] h = refl
labels_ascii first (l ∷ ls) h =
    let (here, more) = and_parts (is_label_at first l) (are_labels false ls) h in
    rw (label_at_ascii first l here, labels_ascii false ls more)

onto_first_ascii : (b : ℕ) (ls : List Text) → list_all is_ascii (onto_first b ls) ≡ true
    → (nat_lt b 128 ≡ true) × (list_all is_ascii ls ≡ true)
onto_first_ascii b [] h =
    ((and_parts (nat_lt b 128) true (and_parts (nat_lt b 128 && true) true h).0).0, refl)
onto_first_ascii b (l ∷ ls) h =
    let (here, more) = and_parts (nat_lt b 128 && is_ascii l) (list_all is_ascii ls) h in
    let (low, rest) = and_parts (nat_lt b 128) (is_ascii l) here in
    (low, rw (rest, more))

part_ascii : (b : ℕ) (text : Text) (dot : Bool) → is_dot b ≡ dot
    → list_all is_ascii (cond dot ([] ∷ slice_split is_dot text)
    (onto_first b (slice_split is_dot text))) ≡ true
    → (list_all is_ascii (slice_split is_dot text) ≡ true → is_ascii text ≡ true)
    → is_ascii (b ∷ text) ≡ true
part_ascii b text true e h more =
    let low : nat_lt b 128 ≡ true = grind (arith, nat_tests, e) in
    rw (low, more h)
part_ascii b text false e h more =
    let (low, rest) = onto_first_ascii b (slice_split is_dot text) h in
    rw (low, more rest)

parts_ascii : (text : Text) → list_all is_ascii (slice_split is_dot text) ≡ true
    → is_ascii text ≡ true
parts_ascii [] h = refl
parts_ascii (b ∷ text) h = part_ascii b text (is_dot b) refl h (parts_ascii text)

-- What a host name is as a name in a certificate: short, and of ASCII.
pub host-short : (text : Text) → IsHostName text → length text ≤ 253
unfolding is_host_name
host-short text host =
    let (sizes, labels) = and_parts (nat_le 1 (length text) && nat_le (length text) 253)
    (are_labels true (labels_of text)) host.labels in
    let (some, short) = and_parts (nat_le 1 (length text)) (nat_le (length text) 253) sizes in
    grind (arith, nat_tests, short)

pub host-ascii : (text : Text) → IsHostName text → is_ascii text ≡ true
unfolding is_host_name labels_of
host-ascii text host =
    let (sizes, labels) = and_parts (nat_le 1 (length text) && nat_le (length text) 253)
    (are_labels true (slice_split is_dot text)) host.labels in
    parts_ascii text (labels_ascii true (slice_split is_dot text) labels)
