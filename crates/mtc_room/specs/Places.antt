-- Where a name leads: the folder to which its path leads, and the name of a file there.
use Rattle.std.specs.Prelude.{ℕ, ◌==◌, Bool, [], ◌∷◌, if◌then◌else◌, ◌&&◌}
use Rattle.std.specs.Str.{bytes_eq}
use Rattle.byte_formats.specs.Types.{Text}

-- A letter before a name that was split so: it is of the path if it is a slash, or a path follows.
abbrev pub with_letter : ℕ → Text → Text → Text × Text
with_letter letter [] file = if letter == 47 then (letter ∷ [], file) else ([], letter ∷ file)
with_letter letter (first ∷ path) file = (letter ∷ first ∷ path, file)

-- A name as the path of a folder, up to the last slash, and the name of a file in it.
unfoldable pub split_name : Text → Text × Text
split_name [] = ([], [])
split_name (letter ∷ rest) = with_letter letter (split_name rest).0 (split_name rest).1

-- The place of a name, by the folders to which paths lead. Names of one place are of one file.
abbrev pub place_of : (Text → Text) → Text → Text × Text
place_of leads_to name = (leads_to (split_name name).0, (split_name name).1)

-- Two names are of one place.
abbrev pub is_one_place : (Text → Text) → Text → Text → Bool
is_one_place leads_to one other =
    bytes_eq (place_of leads_to one).0 (place_of leads_to other).0
    && bytes_eq (place_of leads_to one).1 (place_of leads_to other).1
