-- Host names: labels with dots between them (RFC 1034, section 3.5; RFC 1123, section 2.1), of
-- which the first may be a star (RFC 6125, section 6.4.3).
use Rattle.std.specs.Prelude.{◌≡◌, ℕ, ◌-◌, ◌≤◌, ◌==◌, ◌&&◌, ◌||◌, not, nat_le, Bool, true, false}
use Rattle.std.specs.Prelude.{List, [], ◌∷◌, length, codes, bytes_eq, slice_index}
use Rattle.std.specs.List.{join_with_byte, list_all, slice_split}
use Rattle.std.specs.Char.{is_ascii_alphanumeric}
use Rattle.byte_formats.specs.Types.{Text}

-- A letter, a digit or a hyphen.
abbrev pub is_label_byte : ℕ → Bool
is_label_byte b = is_ascii_alphanumeric b || (b == 45)

-- 1 to 63 of these, with no hyphen at the ends.
unfoldable pub is_label : Text → Bool
is_label l =
    nat_le 1 (length l) && nat_le (length l) 63
    && not (slice_index l 0 == 45) && not (slice_index l (length l - 1) == 45)
    && list_all is_label_byte l

-- A label; the first one may be a star.
abbrev pub is_label_at : Bool → Text → Bool
is_label_at true l = is_label l || bytes_eq l (codes "*")
is_label_at false l = is_label l

abbrev pub are_labels : Bool → List Text → Bool
are_labels first [] = true
are_labels first (l ∷ ls) = is_label_at first l && are_labels false ls

-- A dot, and the parts between dots.
abbrev pub is_dot : ℕ → Bool
is_dot b = b == 46

unfoldable pub labels_of : Text → List Text
labels_of text = slice_split is_dot text

-- 1 to 253 bytes, whose parts between dots are labels.
unfoldable pub is_host_name : Text → Bool
is_host_name text =
    nat_le 1 (length text) && nat_le (length text) 253 && are_labels true (labels_of text)

-- The text is a host name.
pub record IsHostName (text : Text) : Type 0 where
  pub labels : is_host_name text ≡ true

-- The text is labels, one or more, with dots between them: 1 to 253 bytes.
pub record AreJoined (text : Text) : Type 0 where
  pub labels : List Text
  pub one : 1 ≤ length labels
  pub each : are_labels true labels ≡ true
  pub joined : text ≡ join_with_byte 46 labels
  pub some : 1 ≤ length text
  pub short : length text ≤ 253
