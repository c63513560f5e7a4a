-- No tile of a mirror is bad for the steps that it has its cosigner take.
use Rattle.std.proofs.Common.{◌≡◌, ℕ, List, [], sym, ◌∙◌, Some}
use Rattle.byte_formats.specs.Offsets.{IsBytes}
use Rattle.byte_formats.specs.Types.{HashFunction}
use Rattle.disk_core.specs.declared.disk.Disk.{Ghosts as Disks}
use Rattle.file_events.specs.Worlds.{Program}
use Rattle.mtc_io.specs.declared.sink.Sink.{Ghosts as Sinks}
use Rattle.mtc_room.specs.declared.room.Room.{Ghosts as Rooms}
use Rattle.mtc_command.specs.Answers.{tiles_name}
use Rattle.mtc_command.specs.Steps.{held_in}
use Rattle.mtc_command.proofs.Made.{OnlyNow, ReadsCrashState}
use Rattle.mtc_authority.proofs.Both.{CountsNow}
use Rattle.party_history.specs.declared.start.PartyStart.TheVariants.{Mirror}
use Rattle.mtc_laws.specs.MirrorLaws.{NoMirrorTileIsBad}
use Rattle.mtc_laws.proofs.Aliases.{ModelsFiles}
use Rattle.mtc_laws.proofs.Leaves.{contents_crash_state, modelled_file}
use Rattle.mtc_laws.proofs.MisreadBoth.{tiles_misread}
use Rattle.mtc_laws.proofs.Recovered.{modelled_then}
use Rattle.mtc_laws.proofs.TilesStay.{held_crash_state, journal_execution, no_none, tiles_stay}
use Rattle.mtc_top.specs.Executions.{IsBegun, program}

module _ {R S D O E : Type 0} (h : HashFunction) (rooms : Rooms R S D) (disks : Disks D)
    (outs : Sinks O) (errs : Sinks E) (crash_state : ReadsCrashState disks) (only : OnlyNow disks)
    (contents : ModelsFiles rooms disks)
    (bytes : (d : D) (b : List ℕ) → disks.contents d ≡ Some b → IsBytes b)
    (counts : CountsNow disks)
    (left : (d : D) (t : ℕ) (c : List ℕ) → disks.left_since d t c → IsBytes c) where
  abbrev p : Program
  p = program h rooms disks outs errs

  pub no_mirror_tile_bad : NoMirrorTileIsBad h p
  no_mirror_tile_bad name start first old new events begun execution settings public is journal
      begins before others found both command run steps is_run spoken two =
      let begun' : IsBegun h p journal (Mirror found.0) begins before others = record {
        is_modelled = found.1.1.0;
        others = [];
        held = found.1.1.1;
        starts = found.1.0;
      } in
      let alone = journal_execution h rooms disks outs errs crash_state only contents bytes counts
      left journal others before new both in
      let lacks = (tiles_misread h rooms disks outs errs crash_state only contents bytes name start
      first old new events begun execution settings public is journal begins before others
      (found.0, begun') alone command run steps is_run spoken two).1 in
      let modelled = modelled_then h rooms disks outs errs crash_state only contents bytes name
      start first old new events begun execution in
      let tiles = tiles_name journal in
      no_none lacks.missing (sym (tiles_stay h rooms disks outs errs crash_state only contents bytes
      counts left journal begins before new others found.1.1.0 found.1.1.1 both lacks.bytes
      (held_in (rooms.file new tiles)) lacks.leaves lacks.tiled
      (contents_crash_state disks (rooms.device new journal) lacks.bytes crash_state
      (modelled_file disks (rooms.file new journal) (rooms.device new journal)
      (contents.0 new journal modelled) ∙ lacks.there))
      (held_crash_state disks (rooms.file new tiles) (rooms.device new tiles) crash_state
      (contents.0 new tiles modelled)) lacks.is_read) ∙ lacks.lacks)
