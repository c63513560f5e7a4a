-- What the model knows of a mirror that a command has opened.
use Rattle.std.proofs.Common.{◌≡◌, List, Ok, Option, None, Some, IfSome, IsSome, option_map}
use Rattle.std.proofs.Common.{subst, sym, ◌∙◌, ap, refl}
use Rattle.std.specs.Prelude.{option_and_then}
use Rattle.byte_formats.specs.Types.{HashFunction, Text}
use Rattle.disk_core.specs.declared.disk.Disk.{Ghosts}
use Rattle.journal_core.specs.Format.{records_of}
use Rattle.tree_core.specs.declared.hashing.TreeHash.{Ghosts as Hashes}
use Rattle.mirror_core.specs.Folds.{mirror_with}
use Rattle.mirror_core.specs.Openings.{FoundMirror, mirror_read}
use Rattle.mirror_core.specs.Words.{mirror_both_records, mirror_disk, mirror_records}
use Rattle.mirror_core.specs.Words.{mirror_view}
use Rattle.mirror_core.specs.declared.mirror.Mirror.{Mirror}
use Rattle.mtc_room.specs.declared.room.Room.{Ghosts as Rooms}
use Rattle.mtc_command.specs.Answers.{tiles_name}
use Rattle.mtc_command.specs.Made.{IsOpen}
use Rattle.mtc_command.specs.Steps.{Outcome, held_in}
use Rattle.mtc_command.proofs.Beside.{held_is}
use Rattle.mtc_mirror.specs.OpenMirrors.{MirrorWasOpened}
use Rattle.mtc_mirror.specs.Works.{found_mirror, mirror_bytes_say, mirror_outcome}
use Rattle.mtc_mirror.proofs.Opened.{mirror_found}

-- a fact of some values, at each of these
pub some_at : {X : Type 0} (x : Option X) (a : X) (P : X → Type 0) → x ≡ Some a → IfSome x P → P a
some_at x a P is fact = subst (λ (o : Option _). IfSome o P) is fact

module _ {R S D H : Type 0} {hashes : Hashes H} (rooms : Rooms R S D) (g : Ghosts D) (name : Text)
    (old both : R) (mirror : Mirror H D D hashes g g)
    (opened : MirrorWasOpened rooms g name old both mirror) where
  abbrev h : HashFunction
  h = hashes.hash

  abbrev found : List Text → FoundMirror
  found list = found_mirror (mirror_with (mirror_view mirror) list) list

  -- These are the records of the mirror: the outcome of the files is that of the mirror, whatever
  -- comes next, and the open device represents them.
  pub record KnowsMirror : Type 0 where
    pub list : List Text
    pub records : mirror_both_records mirror ≡ Some list
    pub outcome : (next : FoundMirror → Outcome)
        → mirror_outcome h name (rooms.file old name) (rooms.file old (tiles_name name)) next
        ≡ next (found list)
    pub is_open : IsOpen g (mirror_disk mirror) list
    pub bytes : Text
    pub there : rooms.file old name ≡ Some bytes
    pub is_read : mirror_read h bytes ≡ Ok (found list)

  outcome_of : (bytes : Text) (next : FoundMirror → Outcome)
      → rooms.file old name ≡ Some bytes
      → mirror_bytes_say h name next bytes (held_in (rooms.file old (tiles_name name)))
      ≡ next (found (records_of bytes))
      → mirror_outcome h name (rooms.file old name) (rooms.file old (tiles_name name)) next
      ≡ next (found (records_of bytes))
  outcome_of bytes next there is = subst (λ (o : Option Text).
      mirror_outcome h name o (rooms.file old (tiles_name name)) next
      ≡ next (found (records_of bytes))) (sym there) is

  known_by : rooms.is_modelled old → (file : Option Text) → rooms.file old name ≡ file → KnowsMirror
  known_by t None is = let there = subst IsSome is (opened.devices.header.opened.bytes t).there in
      absurd cc
  known_by t (Some bytes) is =
      let header = opened.devices.header in
      let first : g.contents header.opened_disk ≡ Some bytes = (header.opened.bytes t).same ∙ is in
      let disk : g.contents opened.disk ≡ Some bytes = header.only_reads.contents ∙ first in
      let kept : g.contents (mirror_disk mirror) ≡ Some bytes
      = opened.is.only_reads.contents ∙ disk in
      let list : mirror_records mirror ≡ Some (records_of bytes)
      = opened.is.list ∙ ap (option_map records_of) kept in
      let tiles : g.contents opened.tiles ≡ Some (held_in (rooms.file old (tiles_name name)))
      = held_is rooms g name old opened.devices.mid both header.opened_disk opened.tiles
      header.opened opened.devices.beside t in
      let tiles_kept = opened.is.only_reads_tiles.contents ∙ tiles in
      record {
        list = records_of bytes;
        records = ap (option_and_then (λ held. mirror_records mirror)) tiles_kept ∙ list;
        outcome = λ next. outcome_of bytes next is
            (some_at (mirror_records mirror) (records_of bytes) _ list
            (some_at (g.contents opened.disk) bytes _ disk
            (some_at (g.contents opened.tiles) (held_in (rooms.file old (tiles_name name))) _ tiles
            (mirror_found h name next (g.contents opened.disk) (g.contents opened.tiles)
            (mirror_records mirror) (mirror_with (mirror_view mirror)) opened.is.found
            opened.is.tiles))));
        is_open = record {
          bytes = bytes;
          contents = kept;
          stands = some_at (mirror_records mirror) (records_of bytes) _ list
              (some_at (g.contents (mirror_disk mirror)) bytes _ kept opened.is.stands);
          all = some_at (mirror_records mirror) (records_of bytes) _ list opened.is.all;
        };
        bytes = bytes;
        there = is;
        is_read = some_at (mirror_records mirror) (records_of bytes) _ list
            (some_at (g.contents opened.disk) bytes _ disk opened.is.found);
      }

  pub known : rooms.is_modelled old → KnowsMirror
  known t = known_by t (rooms.file old name) refl
