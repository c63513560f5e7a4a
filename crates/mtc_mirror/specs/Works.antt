-- The work of a command on the mirror of a journal: which outcome it has to give, and what that
-- leaves.
use Rattle.std.specs.Prelude.{◌≡◌, ◌≢◌, ℕ, false, List, map, Option, Some, IfSome, IsOk}
use Rattle.byte_formats.specs.Types.{HashFunction, Text}
use Rattle.disk_core.specs.declared.disk.Disk.{Ghosts}
use Rattle.journal_core.specs.Format.{end_offset}
use Rattle.journal_core.specs.Words.{AllRepresent}
use Rattle.tree_core.specs.Tree.{leaf_hash}
use Rattle.tree_core.specs.declared.hashing.TreeHash.{Ghosts as Hashes}
use Rattle.mirror_core.specs.Folds.{MirrorState, entries_in_mirror, mirror_of, mirror_with}
use Rattle.mirror_core.specs.Folds.{view_in_mirror}
use Rattle.mirror_core.specs.Openings.{FoundMirror, mirror_read}
use Rattle.mirror_core.specs.Reasons.{mirror_open_text}
use Rattle.mirror_core.specs.Words.{MirrorStays, mirror_both_records, mirror_broken, mirror_by_both}
use Rattle.mirror_core.specs.Words.{mirror_disk, mirror_end, mirror_records, mirror_tiles_disk}
use Rattle.mirror_core.specs.Words.{mirror_view, modelled_mirror}
use Rattle.mirror_core.specs.declared.error.MirrorOpenError.{MirrorOpenError}
use Rattle.mirror_core.specs.declared.error.MirrorOpenError.TheVariants.{Open}
use Rattle.mirror_core.specs.declared.error.MirrorOpenError.TheVariants.{Tile as NoTiles}
use Rattle.mirror_core.specs.declared.mirror.Mirror.{Mirror}
use Rattle.mtc_io.specs.Counts.{Rose}
use Rattle.mtc_command.specs.Answers.{Ending, IfReply, Reply, refused, replied, status_of}
use Rattle.mtc_command.specs.Answers.{tiles_name}
use Rattle.mtc_command.specs.Endings.{FailsAt}
use Rattle.mtc_command.specs.Steps.{Outcome, held_in, with_file, with_form}
use Rattle.mtc_command.specs.Valid.{WorksValidly}
use Rattle.mtc_command.specs.Works.{HasWorkedTiled}
use Rattle.mtc_command.specs.declared.answer.Stopped.TheVariants.{BadForm}
use Rattle.mtc_tiled.specs.BadTiles.{first_bad_tile, unless_missing}
use Rattle.mtc_tiled.specs.Endings.{journal_open_ending, tiles_open_ending}

-- What comes of it: the line says that the file isn't a mirror's, or that the file of its tiles
-- doesn't have them, unless the device of one failed or memory was refused.
abbrev pub mirror_open_ending : Text → MirrorOpenError → Ending
mirror_open_ending file (Open why) = journal_open_ending file why
mirror_open_ending file (NoTiles why) = tiles_open_ending file why
mirror_open_ending file why = replied (refused BadForm (Some file) (mirror_open_text why))

-- A mirror was found, with its records.
abbrev pub found_mirror : MirrorState → List Text → FoundMirror
found_mirror state list = record { records = list; state = state }

-- The level and the index of the first tile of the mirror's last size that the file has not, if
-- there is one.
unfoldable pub first_bad_in_mirror : HashFunction → MirrorState → Text → Option (ℕ × ℕ)
first_bad_in_mirror h s tiles =
    first_bad_tile h (map (leaf_hash h) (entries_in_mirror s)) s.tiled tiles

-- A mirror whose file of tiles doesn't have one of them is refused, and else this comes next.
abbrev pub mirror_tested_says : HashFunction → Text → (FoundMirror → Outcome) → Text → FoundMirror
    → Outcome
mirror_tested_says h journal says tiles found =
    unless_missing journal (first_bad_in_mirror h found.state tiles) (says found)

-- The outcome of a command on the mirror of a journal with these bytes, whose file of tiles has
-- those.
abbrev pub mirror_bytes_say : HashFunction → Text → (FoundMirror → Outcome) → Text → Text → Outcome
mirror_bytes_say h journal says bytes tiles = with_form mirror_open_text journal
    (mirror_read h bytes) (mirror_tested_says h journal says tiles)

-- The same over the files of their names. The journal may not be there, and where the tiles aren't,
-- their file is made empty.
abbrev pub mirror_outcome : HashFunction → Text → Option Text → Option Text
    → (FoundMirror → Outcome) → Outcome
mirror_outcome h journal file tiles says =
    with_file journal file (λ bytes. mirror_bytes_say h journal says bytes (held_in tiles))

-- The records of a journal make a mirror.
abbrev pub IsMirror : HashFunction → List Text → Type 0
IsMirror h list = IsOk (mirror_of h list)

module _ {H D : Type 0} {hashes : Hashes H} {g : Ghosts D} where
  -- A mirror that was opened just now.
  pub record IsReadyMirror (mirror : Mirror H D D hashes g g) : Type 0 where
    pub sound : mirror_broken mirror ≡ false
    pub end : IfSome (mirror_records mirror) (λ list. mirror_end mirror ≡ end_offset list)
    pub view : IfSome (modelled_mirror mirror) (λ s. view_in_mirror s ≡ mirror_view mirror)
    pub all : IfSome (mirror_records mirror) (AllRepresent g (mirror_disk mirror))

  -- The work on the mirror of this journal, which has to give that outcome.
  abbrev pub HasWorkedOnMirror : Text → (FoundMirror → Outcome) → Mirror H D D hashes g g
      → Mirror H D D hashes g g → Ending → Type 0
  HasWorkedOnMirror name says old new ending = HasWorkedTiled g name (mirror_both_records old)
      (λ list. says (found_mirror (mirror_with (mirror_view old) list) list)) (mirror_disk old)
      (mirror_disk new) (mirror_tiles_disk old) (mirror_tiles_disk new) ending

  -- And by which its records make a mirror again.
  abbrev pub StaysMirror : HashFunction → (FoundMirror → Outcome) → Mirror H D D hashes g g
      → Mirror H D D hashes g g → Type 0
  StaysMirror h says old new = WorksValidly g (IsMirror h) (mirror_records old)
      (λ list. says (found_mirror (mirror_with (mirror_view old) list) list)) (mirror_disk old)
      (mirror_disk new)

  -- The work on the mirror of this journal that only reads it, and has to reply so to what its
  -- devices hold, as far as the model knows it.
  pub record RepliesOnMirror (name : Text) (wanted : MirrorState → Reply)
      (old new : Mirror H D D hashes g g) (ending : Ending) : Type 0 where
    pub plain : IfReply ending (λ reply. status_of reply ≢ 1)
    pub fault : FailsAt (Rose (g.faults (mirror_disk old)) (g.faults (mirror_disk new))) name
        (Rose (g.faults (mirror_tiles_disk old)) (g.faults (mirror_tiles_disk new)))
        (tiles_name name) ending
    pub reply : IfReply ending (λ reply. IfSome (mirror_by_both old) (λ s. reply ≡ wanted s))
    pub stays : MirrorStays old new
