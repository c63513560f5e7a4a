-- What the opening of a journal of items answers.
use Rattle.std.specs.Prelude.{◌≡◌, false, option_map, IfSome, Ok}
use Rattle.byte_formats.specs.Types.{HashFunction}
use Rattle.disk_core.specs.Times.{OnlyReads}
use Rattle.disk_core.specs.declared.disk.Disk.{Ghosts}
use Rattle.journal_core.specs.Folds.{read_by, state_after}
use Rattle.journal_core.specs.Format.{Represents, end_offset, records_of}
use Rattle.journal_core.specs.Words.{AllRepresent}
use Rattle.tree_core.specs.declared.hashing.TreeHash.{Ghosts as Hashes}
use Rattle.tiled_items.specs.Openings.{HasTiledOpenCause, HoldsItemTiles, TileDiskCountsNoOther}
use Rattle.tiled_items.specs.Openings.{TiledCountsNoOther}
use Rattle.tiled_items.specs.Rules.{rules_fold}
use Rattle.tiled_items.specs.Words.{tiled_broken, tiled_disk, tiled_end, tiled_items, tiled_records}
use Rattle.tiled_items.specs.Words.{tiled_tiles_disk, tiled_view}
use Rattle.tiled_items.specs.declared.error.TiledOpenError.{TiledOpenError}
use Rattle.tiled_items.specs.declared.rules.ItemRules.{Ghosts as Rules}
use Rattle.tiled_items.specs.declared.tiled.TiledItems.{TiledItems}

module _ {R H D T : Type 0} {rules : Rules R} {hashes : Hashes H} {g : Ghosts D} {k : Ghosts T}
  where
    -- It is what a journal and a file of tiles have. No append has failed, and both disks were only
    -- read, without a failure. If the model knows the bytes of the journal's disk, they represent
    -- records that make exactly this, the journal ends with them, and each crash leaves them. If it
    -- knows the file of tiles too, that has the tiles of the last size.
    pub record TiledIsOpened (journal : D) (file : T) (it : TiledItems R H D T rules hashes g k)
        : Type 0 where
      pub sound : tiled_broken it ≡ false
      pub only_reads : OnlyReads g journal (tiled_disk it)
      pub only_reads_tiles : OnlyReads k file (tiled_tiles_disk it)
      pub fine : g.faults (tiled_disk it) ≡ g.faults journal
      pub fine_tiles : k.faults (tiled_tiles_disk it) ≡ k.faults file
      pub list : tiled_records it ≡ option_map records_of (g.contents (tiled_disk it))
      pub found : IfSome (g.contents journal) (λ b. IfSome (tiled_records it) (λ list.
          read_by (rules_fold rules hashes.hash) b
          ≡ Ok (record { records = list; state = tiled_view it })))
      pub valid : IfSome (tiled_records it)
          (λ list. state_after (rules_fold rules hashes.hash) list ≡ Ok (tiled_view it))
      pub tiles : IfSome (tiled_items it) (λ items. IfSome (k.contents file)
          (HoldsItemTiles hashes.hash items (rules.tiled (tiled_view it))))
      pub stands : IfSome (g.contents (tiled_disk it))
          (λ b. IfSome (tiled_records it) (Represents b))
      pub all : IfSome (tiled_records it) (AllRepresent g (tiled_disk it))
      pub end : IfSome (tiled_records it) (λ list. tiled_end it ≡ end_offset list)

-- Both disks were only read. The refusal has its cause in the bytes of either, in a failure, or in
-- memory that was refused, and a failure is counted only where it is the refusal.
pub record TiledIsNotOpened {R D T : Type 0} (rules : Rules R) (g : Ghosts D) (k : Ghosts T)
    (h : HashFunction) (journal journal' : D) (file file' : T) (why : TiledOpenError)
    : Type 0 where
  pub only_reads : OnlyReads g journal journal'
  pub only_reads_tiles : OnlyReads k file file'
  pub cause : HasTiledOpenCause rules g k h journal journal' file file' why
  pub fine : TiledCountsNoOther g journal journal' why
  pub fine_tiles : TileDiskCountsNoOther k file file' why
