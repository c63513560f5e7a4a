-- The tiles of a journal are only read by a command that has closed what it read.
use Rattle.std.proofs.Common.{◌≡◌, [], Option, None, Some, IfSome, take, subst, sym, ◌∙◌}
use Rattle.byte_formats.specs.Types.{Text}
use Rattle.disk_core.specs.declared.disk.Disk.{Ghosts as Disks}
use Rattle.journal_core.specs.Format.{header}
use Rattle.mtc_room.specs.Room.{OpensBytes}
use Rattle.mtc_room.specs.declared.room.Room.{Ghosts as Rooms}
use Rattle.mtc_command.specs.Answers.{tiles_name}
use Rattle.mtc_command.specs.Made.{HasKept, Leaves, untouched}
use Rattle.mtc_command.specs.Served.{ClosesAll, OnlyReadsBeside}
use Rattle.mtc_command.proofs.Made.{OnlyNow, still}
use Rattle.mtc_tiled.specs.Headers.{IsNoJournal, SparesTiles}

module _ {R S D : Type 0} (rooms : Rooms R S D) (disks : Disks D) (beside : Text) where
  -- then comes the rest of it
  pub only_read_after : (old mid new : R) → ClosesAll rooms old mid []
      → OnlyReadsBeside rooms disks mid new beside → OnlyReadsBeside rooms disks old new beside
  only_read_after old mid new read only_reads = λ t. subst
      (λ x. Leaves disks (HasKept untouched) x (rooms.device new beside))
      (read.others beside tt).disk (only_reads (read.is_modelled t))

  -- nothing else was done
  pub only_read_kept : (old new : R) → ClosesAll rooms old new [] → OnlyNow disks
      → OnlyReadsBeside rooms disks old new beside
  only_read_kept old new read only_now = λ t. still disks (rooms.device old beside)
      (rooms.device new beside) untouched only_now (read.others beside tt).disk

-- So it stays where the journal's file is none.
module _ {R S D : Type 0} (rooms : Rooms R S D) (journal : Text) where
  -- then comes the rest of it
  pub spared_after : (old mid new : R) → ClosesAll rooms old mid []
      → SparesTiles rooms mid new journal → SparesTiles rooms old new journal
  spared_after old mid new read spares = λ t not.
      let tiles = tiles_name journal in
      let stays = spares (read.is_modelled t)
      (subst IsNoJournal (sym (read.others journal tt).bytes) not) in
      record {
        bytes = stays.bytes ∙ (read.others tiles tt).bytes;
        disk = stays.disk ∙ (read.others tiles tt).disk;
      }

  -- nothing else was done
  pub spared_kept : (old new : R) → ClosesAll rooms old new [] → SparesTiles rooms old new journal
  spared_kept old new read = λ t not. read.others (tiles_name journal) tt

-- no file that begins as a journal is none
pub is_journal : (file contents : Option Text) → OpensBytes file contents
    → IfSome contents (λ bytes. take 16 bytes ≡ header) → IsNoJournal file → ⊥
is_journal None contents opens begins not = let there = opens.there in absurd cc
is_journal (Some bytes) contents opens begins not = not
    (subst (λ (o : Option Text). IfSome o (λ b. take 16 b ≡ header)) opens.same begins)
