-- What a run over fuses leaves is what it leaves of the files inside, and so what a killed program
-- leaves.
use Rattle.std.proofs.Common.{◌≡◌, ℕ, List, Option, None, Some, false, option_map, refl, sym, subst}
use Rattle.byte_formats.specs.Offsets.{IsBytes}
use Rattle.byte_formats.specs.Types.{HashFunction, Text}
use Rattle.disk_core.specs.contracts.memory.mem_disk.MemDiskDisk.TheImpl.{ghosts as mem_disks}
use Rattle.disk_core.specs.declared.disk.Disk.{Ghosts as Disks}
use Rattle.disk_core.specs.declared.memory.mem_disk.MemDisk.{MemDisk}
use Rattle.mtc_io.specs.Counts.{last_count}
use Rattle.mtc_io.specs.declared.sink.Sink.{Ghosts as Sinks}
use Rattle.mtc_room.specs.Memory.{bytes_in, disk_in}
use Rattle.mtc_room.specs.contracts.memory.MemRoomRoom.TheImpl.{ghosts as mem_rooms}
use Rattle.mtc_room.specs.declared.room.Room.{Ghosts as Rooms}
use Rattle.fuse_room.specs.Fused.{fused, inner_room}
use Rattle.fuse_room.specs.contracts.room.FuseRoomRoom.TheImpl.{ghosts as fused_rooms}
use Rattle.fuse_room.proofs.Fuses.{fuses}
use Rattle.file_events.specs.Events.{CrashStates, Leads, broke}
use Rattle.file_events.specs.Tiles.{LogLeads, stored, broke as broke_log}
use Rattle.file_events.specs.Worlds.{done_to, states_at}
use Rattle.file_events.proofs.Owners.{journal_breaks, log_runs_break}
use Rattle.mtc_words.specs.Names.{is_tiles_name}
use Rattle.mtc_words.specs.Words.{command_of}
use Rattle.mtc_command.specs.Answers.{tiles_name}
use Rattle.mtc_command.specs.Made.{Journaled}
use Rattle.mtc_command.specs.Served.{done_with}
use Rattle.mtc_command.proofs.Made.{OnlyNow, ReadsCrashState}
use Rattle.party_history.specs.Rules.{AreRecords}
use Rattle.mtc_top.specs.Executions.{owner, program}
use Rattle.mtc_top.specs.Facts.{facts}
use Rattle.mtc_laws.specs.TileLaws.{HasPartyTiles, tiled_journal}
use Rattle.mtc_laws.proofs.Leaves.{serves}
use Rattle.mtc_laws.proofs.LogLeaves.{serves_log}
use Rattle.mtc_laws.proofs.Aliases.{ModelsFiles}
use Rattle.mtc_laws.specs.Killed.{DiesOverFuses, JournalsMayBreak, TiledJournalsMayBreak}

-- ---- any files

module _ {R S D O E : Type 0} (h : HashFunction) (rooms : Rooms R S D) (disks : Disks D)
    (outs : Sinks O) (errs : Sinks E) (crash_state : ReadsCrashState disks) (only : OnlyNow disks)
    (contents : ModelsFiles rooms disks)
    (bytes : (d : D) (b : List ℕ) → disks.contents d ≡ Some b → IsBytes b) where
  pub journals_may_break : JournalsMayBreak h (program h rooms disks outs errs)
  journals_may_break name own = journal_breaks (program h rooms disks outs errs) (AreRecords h) name
      (serves h rooms disks outs errs crash_state only contents bytes name own)

  pub logs_may_break : TiledJournalsMayBreak h (program h rooms disks outs errs)
  logs_may_break name own = log_runs_break (program h rooms disks outs errs) (HasPartyTiles h)
      (λ list body. ⊥) (AreRecords h) name (tiles_name name) (λ old run. stored)
      (serves_log h rooms disks outs errs crash_state only contents bytes name own)

-- ---- fuses

-- what a crash leaves of a file whose device is opened over a fuse, and of the device inside
abbrev over_fuse : Option MemDisk → CrashStates
over_fuse device = states_at fuses (option_map (λ d. fused d last_count) device)

abbrev inside : Option MemDisk → CrashStates
inside device = states_at mem_disks device

same_inside : (device : Option MemDisk) → over_fuse device ≡ inside device
same_inside None = refl
same_inside (Some d) = refl

-- what the words ask to be done with a journal of these files
abbrev did_by : HashFunction → (Text → Option Text) → Text → List Text → Journaled
did_by h file name words = done_to (λ path. path) (done_with (facts h (command_of words)).journals
    ((facts h (command_of words)).outcome file).journals) name

module _ {O E : Type 0} (h : HashFunction) (outs : Sinks O) (errs : Sinks E) where
  -- what a run that broke off leaves of a journal, and of a journal and the file of its tiles
  abbrev Half : Journaled → CrashStates → CrashStates → Type 0
  Half did = Leads (AreRecords h) (broke did)

  abbrev Both : Journaled → CrashStates → CrashStates → CrashStates → CrashStates → Type 0
  Both did = LogLeads (HasPartyTiles h) (λ list body. ⊥) (AreRecords h) (broke_log did stored)

  half_inside : (did : Journaled) (before now : Option MemDisk)
      → Half did (over_fuse before) (over_fuse now) → Half did (inside before) (inside now)
  half_inside did before now left =
      subst (λ (s : CrashStates). Half did s (inside now)) (same_inside before)
      (subst (λ (s : CrashStates). Half did (over_fuse before) s) (same_inside now) left)

  both_inside : (did : Journaled) (before tiles now tiles' : Option MemDisk)
      → Both did (over_fuse before) (over_fuse tiles) (over_fuse now) (over_fuse tiles')
      → Both did (inside before) (inside tiles) (inside now) (inside tiles')
  both_inside did before tiles now tiles' left =
      subst (λ (s : CrashStates). Both did s (inside tiles) (inside now) (inside tiles'))
      (same_inside before)
      (subst (λ (s : CrashStates). Both did (over_fuse before) s (inside now) (inside tiles'))
      (same_inside tiles)
      (subst (λ (s : CrashStates). Both did (over_fuse before) (over_fuse tiles) s
      (inside tiles')) (same_inside now)
      (subst (λ (s : CrashStates). Both did (over_fuse before) (over_fuse tiles) (over_fuse now)
      s) (same_inside tiles') left)))

  pub journals_die : JournalsMayBreak h (program h fused_rooms fuses outs errs) → (name : Text)
      → is_tiles_name name ≡ false → DiesOverFuses h fused_rooms fuses mem_rooms mem_disks outs errs
      (owner h (program h mem_rooms mem_disks outs errs) name)
  journals_die breaks name own old run killed is same =
      let before = disk_in (inner_room old) name in
      let now = disk_in (inner_room run.room) name in
      let did = did_by h (bytes_in (inner_room old)) name in (
        λ modelled. tt,
        subst (λ (words : List Text). Half (did words) (inside before) (inside now)) (sym same)
            (half_inside (did run.words) before now (breaks name own old run tt is)),
      )

  pub logs_die : TiledJournalsMayBreak h (program h fused_rooms fuses outs errs) → (name : Text)
      → is_tiles_name name ≡ false → DiesOverFuses h fused_rooms fuses mem_rooms mem_disks outs errs
      (tiled_journal h (program h mem_rooms mem_disks outs errs) name)
  logs_die breaks name own old run killed is same =
      let before = disk_in (inner_room old) name in
      let tiles = disk_in (inner_room old) (tiles_name name) in
      let now = disk_in (inner_room run.room) name in
      let tiles' = disk_in (inner_room run.room) (tiles_name name) in
      let did = did_by h (bytes_in (inner_room old)) name in (
        λ modelled. tt,
        subst (λ (words : List Text). Both (did words) (inside before) (inside tiles) (inside now)
            (inside tiles')) (sym same)
            (both_inside (did run.words) before tiles now tiles' (breaks name own old run tt is)),
      )
