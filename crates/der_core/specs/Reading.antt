-- Reading one element (X.690, sections 8.1 and 10.1), with its faults in their order.
use Rattle.std.specs.Prelude.{ℕ, ◌+◌, ◌-◌, ◌*◌, ◌%◌, nat_lt, ◌==◌, [], ◌∷◌, length, take, Result}
use Rattle.std.specs.Prelude.{Ok, Err, if◌then◌else◌}
use Rattle.byte_formats.specs.Types.{Text}
use Rattle.byte_formats.specs.Offsets.{At, after}
use Rattle.byte_formats.specs.Readings.{Reading, ◌>>=◌}
use Rattle.der_core.specs.Items.{Item}
use Rattle.der_core.specs.declared.fault.DerError.{DerError}
use Rattle.der_core.specs.declared.fault.DerError.TheVariants.{WrongTag, HighTag, LongForm}
use Rattle.der_core.specs.declared.fault.DerError.TheVariants.{Truncated, Trailing}

-- The tag. A tag that is missing is another tag; one that continues in further bytes is high.
abbrev pub tag_at : ℕ → Text → Result (ℕ × Text) DerError
tag_at place [] = Err (WrongTag place)
tag_at place (tag ∷ rest) = if tag % 32 == 31 then Err (HighTag place) else Ok (tag, rest)

-- A length of one, two or three further bytes, in the fewest.
abbrev pub one_at : ℕ → Text → Result (ℕ × Text) DerError
one_at place (a ∷ rest) = if nat_lt a 0x80 then Err (LongForm place) else Ok (a, rest)
one_at place [] = Err (Truncated place)

abbrev pub two_at : ℕ → Text → Result (ℕ × Text) DerError
two_at place (a ∷ b ∷ rest) = if a == 0 then Err (LongForm place) else Ok (a * 256 + b, rest)
two_at place (a ∷ []) = Err (Truncated place)
two_at place [] = Err (Truncated place)

abbrev pub three_at : ℕ → Text → Result (ℕ × Text) DerError
three_at place (a ∷ b ∷ c ∷ rest) =
    if a == 0 then Err (LongForm place) else Ok (a * 65536 + (b * 256 + c), rest)
three_at place (a ∷ b ∷ []) = Err (Truncated place)
three_at place (a ∷ []) = Err (Truncated place)
three_at place [] = Err (Truncated place)

-- The length: first a byte that is missing, then a first byte of 80 or above 83, then further
-- bytes that are missing, then a length that isn't in the fewest bytes.
abbrev pub length_at : ℕ → Text → Result (ℕ × Text) DerError
length_at place [] = Err (Truncated place)
length_at place (first ∷ rest) =
    if nat_lt first 0x80 then Ok (first, rest)
    else (if first == 0x81 then one_at place rest
    else (if first == 0x82 then two_at place rest
    else (if first == 0x83 then three_at place rest
    else Err (LongForm place))))

-- After the tag come the length, and so many bytes. An element that ends past what is left is cut.
unfoldable pub after_tag : At → ℕ → Text → Result (Item × At) DerError
after_tag a tag rest = do
  n ← length_at a.place rest
  if nat_lt (length n.1) n.0 then Err (Truncated a.place)
      else (let size : ℕ = length a.rest - (length n.1 - n.0) in
      Ok (
        record { tag = tag; place = a.place; whole = take size a.rest; contents = take n.0 n.1 },
        after size a,
      ))

-- An element with any tag.
unfoldable pub element_at : Reading Item DerError
element_at a = tag_at a.place a.rest >>= λ t. after_tag a t.0 t.1

-- An element with this tag.
unfoldable pub wanted_at : ℕ → Reading Item DerError
wanted_at wanted a =
    tag_at a.place a.rest >>= λ t.
    if t.0 == wanted then after_tag a t.0 t.1 else Err (WrongTag a.place)

-- Nothing may follow the last field.
abbrev pub end_at : At → Result (Unit {0}) DerError
end_at a = if length a.rest == 0 then Ok tt else Err (Trailing a.place)
