-- What a journal of items shows.
use Rattle.std.specs.Prelude.{◌≡◌, ℕ, Bool, List, Option, Some, None, option_map, option_and_then}
use Rattle.std.specs.Prelude.{Result}
use Rattle.byte_formats.specs.Types.{Hash, Text}
use Rattle.disk_core.specs.Times.{OnlyReads}
use Rattle.disk_core.specs.declared.disk.Disk.{Ghosts}
use Rattle.journal_core.specs.Ends.{durable_records}
use Rattle.journal_core.specs.Owners.{Owner, OwnerAppends, owner_over}
use Rattle.journal_core.specs.Words.{disk_of, end_of, is_broken}
use Rattle.journal_core.specs.declared.error.AppendError.{AppendError}
use Rattle.tile_store.specs.Store.{tiles_disk}
use Rattle.tree_core.specs.declared.hashing.TreeHash.{Ghosts as Hashes}
use Rattle.tiled_items.specs.Blocks.{all_items}
use Rattle.tiled_items.specs.Held.{held_tiles, leaves_of_items}
use Rattle.tiled_items.specs.declared.error.TiledError.{TiledError}
use Rattle.tiled_items.specs.declared.error.TiledError.TheVariants.{Append}
use Rattle.tiled_items.specs.declared.rules.ItemRules.{Ghosts as Rules}
use Rattle.tiled_items.specs.declared.tiled.TiledItems.{TiledItems}

-- the journal's refusal, where it is one
abbrev pub of_tiled_journal : TiledError → Option AppendError
of_tiled_journal (Append why) = Some why
of_tiled_journal other = None

module _ {R H D T : Type 0} {rules : Rules R} {hashes : Hashes H} {g : Ghosts D} {k : Ghosts T}
  where
    -- The disk of the journal.
    abbrev pub tiled_disk : TiledItems R H D T rules hashes g k → D
    tiled_disk it = disk_of it.journal

    -- The disk of the tiles.
    abbrev pub tiled_tiles_disk : TiledItems R H D T rules hashes g k → T
    tiled_tiles_disk it = tiles_disk (held_tiles it.machine.held)

    -- What it shows over every disk.
    abbrev pub tiled_view : TiledItems R H D T rules hashes g k → rules.View
    tiled_view it = rules.view it.machine.numbers

    -- The records that make it, if the model knows the bytes of the journal's disk. Unless an
    -- append has failed they are all records of its journal.
    abbrev pub tiled_records : TiledItems R H D T rules hashes g k → Option (List Text)
    tiled_records it = durable_records it.journal

    -- the end of its journal
    abbrev pub tiled_end : TiledItems R H D T rules hashes g k → ℕ
    tiled_end it = end_of it.journal

    -- an append has failed
    abbrev pub tiled_broken : TiledItems R H D T rules hashes g k → Bool
    tiled_broken it = is_broken it.journal

    -- the items, if the model knows those bytes
    abbrev pub tiled_items : TiledItems R H D T rules hashes g k → Option (List (Text × Text))
    tiled_items it = option_map (all_items rules.first rules.added) (tiled_records it)

    -- the hashes of their entries, if it knows the bytes of both disks
    abbrev pub tiled_leaves : TiledItems R H D T rules hashes g k → Option (List Hash)
    tiled_leaves it = option_map (leaves_of_items hashes.hash)
        (option_and_then (λ tiles. tiled_items it) (k.contents (tiled_tiles_disk it)))

    -- what it shows as the owner of its journal
    abbrev pub tiled_owner : TiledItems R H D T rules hashes g k → Owner D rules.View
    tiled_owner it = owner_over it.journal (tiled_records it) (tiled_view it)

    -- As the owner of its journal it appends this record, which makes this of what was shown.
    abbrev pub TiledAppends : {X : Type 0} → Text → rules.View → TiledItems R H D T rules hashes g k
        → TiledItems R H D T rules hashes g k → Result X TiledError → Type 0
    TiledAppends body next old new result =
        OwnerAppends g of_tiled_journal body next (tiled_owner old) (tiled_owner new) result

    -- The disk of the tiles was only read, and that of the journal had no call. It shows what it
    -- showed.
    pub record TiledAsksTiles (old new : TiledItems R H D T rules hashes g k) : Type 0 where
      pub disk : tiled_disk new ≡ tiled_disk old
      pub tiles : OnlyReads k (tiled_tiles_disk old) (tiled_tiles_disk new)
      pub view : tiled_view new ≡ tiled_view old
      pub end : tiled_end new ≡ tiled_end old
      pub broken : tiled_broken new ≡ tiled_broken old
