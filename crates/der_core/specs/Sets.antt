-- The order of a SET OF (X.690, section 11.6).
use Rattle.std.specs.Prelude.{ℕ, List, [], ◌∷◌, length, Result, Ok, Err, if◌then◌else◌}
use Rattle.std.specs.Ordering.{nat_cmp, is_gt}
use Rattle.std.specs.Cmp.Lexicographic.{slice_cmp}
use Rattle.byte_formats.specs.Types.{Text}
use Rattle.byte_formats.specs.Offsets.{At}
use Rattle.byte_formats.specs.Readings.{Reading, ◌>>=◌, discarded}
use Rattle.byte_formats.specs.Forms.{itself}
use Rattle.byte_formats.specs.Lists.{each_at}
use Rattle.der_core.specs.Items.{Item, inside}
use Rattle.der_core.specs.Reading.{element_at}
use Rattle.der_core.specs.declared.fault.DerError.{DerError}
use Rattle.der_core.specs.declared.fault.DerError.TheVariants.{SetOrder}

-- One element of the set at this position, which isn't below the encoding before it.
unfoldable pub risen_at : ℕ → Text → Reading Text DerError
risen_at place before a =
    element_at a >>= λ e.
    if is_gt (slice_cmp nat_cmp before e.0.whole) then Err (SetOrder place) else Ok (e.0.whole, e.1)

-- The last of the encodings, and no bytes before the first.
abbrev pub last_of : List Text → Text
last_of [] = []
last_of (x ∷ []) = x
last_of (x ∷ y ∷ xs) = last_of (y ∷ xs)

-- The elements up to the end, in rising order. Encodings are compared byte by byte, and a prefix is
-- below what continues it.
abbrev pub rising_at : ℕ → Reading (List Text) DerError
rising_at place a = each_at itself (λ seen. risen_at place (last_of seen)) (length a.rest) [] a

-- An answer without what was read.
abbrev pub finished : Result At DerError → Result (Unit {0}) DerError
finished (Ok a) = Ok tt
finished (Err e) = Err e

-- The encodings in the contents of this element rise.
abbrev pub order_of : Item → Result (Unit {0}) DerError
order_of e = finished (discarded (rising_at e.place (inside e)))
