-- What the model knows of one name of a file system in memory.
use Rattle.std.specs.Prelude.{◌≡◌, ℕ, ◌==◌, Bool, true, false, [], ◌∷◌, ◌++◌, Option, None, Some}
use Rattle.std.specs.Prelude.{option_map, if◌then◌else◌}
use Rattle.std.proofs.Common.{refl, sym, ap, ◌∙◌}
use Rattle.byte_formats.specs.Types.{Text}
use Rattle.disk_core.specs.Memory.{bytes_of}
use Rattle.disk_core.specs.declared.memory.mem_disk.MemDisk.{MemDisk}
use Rattle.mtc_room.specs.Memory.{disk_in}
use Rattle.mtc_room.specs.Places.{place_of, split_name, with_letter}
use Rattle.mtc_room.specs.Room.{ModelsFile}
use Rattle.mtc_room.specs.declared.memory.MemRoom.{MemRoom}

pub modelled_in : (disk : Option MemDisk)
    → ModelsFile (λ d. Some (bytes_of d)) (option_map bytes_of disk) disk
modelled_in None = refl
modelled_in (Some d) = (refl, refl)

-- what is split is the name
abbrev joined : Text × Text → Text
joined parts = parts.0 ++ parts.1

letter_joined : (letter : ℕ) (path file : Text)
    → joined (with_letter letter path file) ≡ letter ∷ (path ++ file)
letter_joined letter [] file = go (letter == 47)
  where
    go : (b : Bool) → joined (if b then (letter ∷ [], file) else ([], letter ∷ file))
        ≡ letter ∷ file
    go true = refl
    go false = refl
letter_joined letter (first ∷ path) file = refl

pub split_joined : (name : Text) → joined (split_name name) ≡ name
unfolding split_name
split_joined [] = refl
split_joined (letter ∷ rest) =
    letter_joined letter (split_name rest).0 (split_name rest).1
    ∙ ap (λ (text : Text). letter ∷ text) (split_joined rest)

-- where paths lead to themselves, each name has its own place
pub one_name : (one other : Text)
    → place_of (λ path. path) one ≡ place_of (λ path. path) other → one ≡ other
one_name one other same = sym (split_joined one) ∙ (ap joined same ∙ split_joined other)

pub one_disk : (room : MemRoom) (one other : Text)
    → place_of (λ path. path) one ≡ place_of (λ path. path) other
    → disk_in room one ≡ disk_in room other
one_disk room one other same = ap (disk_in room) (one_name one other same)
