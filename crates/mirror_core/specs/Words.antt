-- What a mirror shows, and what a call that appends a record makes of it.
use Rattle.std.specs.Prelude.{◌≡◌, ℕ, Bool, false, List, [], ◌∷◌, ◌++◌, map, Option, Some, None}
use Rattle.std.specs.Prelude.{option_map, option_and_then, IfSome, Result, Ok, Err}
use Rattle.byte_formats.specs.Types.{Hash, HashFunction, Text}
use Rattle.disk_core.specs.Times.{LeavesOnly, OnlyReads}
use Rattle.disk_core.specs.declared.disk.Disk.{Ghosts}
use Rattle.journal_core.specs.Ends.{durable_records}
use Rattle.journal_core.specs.Format.{Represents}
use Rattle.journal_core.specs.Owners.{Owner, OwnerAppends, owner_over}
use Rattle.journal_core.specs.Words.{disk_of, end_of, is_broken}
use Rattle.journal_core.specs.declared.error.AppendError.{AppendError}
use Rattle.tile_store.specs.Contents.{HoldsTiles}
use Rattle.tile_store.specs.Store.{tiles_disk}
use Rattle.tile_store.specs.declared.store.Tiles.{Tiles}
use Rattle.tree_core.specs.Tree.{leaf_hash}
use Rattle.tree_core.specs.declared.hashing.TreeHash.{Ghosts as Hashes}
use Rattle.mirror_core.specs.Folds.{MirrorState, MirrorView, entries_in_mirror}
use Rattle.mirror_core.specs.Folds.{mirror_of, mirror_with, next_mirror, next_mirror_view}
use Rattle.mirror_core.specs.Folds.{view_in_mirror}
use Rattle.mirror_core.specs.Kept.{kept_tiles}
use Rattle.mirror_core.specs.declared.error.MirrorError.{MirrorError}
use Rattle.mirror_core.specs.declared.error.MirrorError.TheVariants.{Append}
use Rattle.mirror_core.specs.declared.mirror.Mirror.{Mirror}

-- the journal's refusal, where it is one
abbrev pub of_mirror_journal : MirrorError → Option AppendError
of_mirror_journal (Append why) = Some why
of_mirror_journal other = None

-- In any mirror that shows this the record makes this of what the mirror is.
abbrev pub MakesOfMirror : HashFunction → MirrorView → Text → (MirrorState → MirrorState) → Type 0
MakesOfMirror h v body next = (s : MirrorState) → view_in_mirror s ≡ v
    → next_mirror h s body ≡ Some (next s)

-- It makes this of what a mirror shows that shows this, and this of what the mirror is.
pub record IsMirroredAs (h : HashFunction) (v : MirrorView) (body : Text)
    (seen : MirrorView → MirrorView) (next : MirrorState → MirrorState) : Type 0 where
  pub shows : next_mirror_view h v body ≡ Some (seen v)
  pub makes : MakesOfMirror h v body next

module _ {H D T : Type 0} {hashes : Hashes H} {g : Ghosts D} {k : Ghosts T} where
  -- The disk of the journal.
  abbrev pub mirror_disk : Mirror H D T hashes g k → D
  mirror_disk mirror = disk_of mirror.journal

  abbrev pub mirror_tiles : Mirror H D T hashes g k → Tiles H T hashes k
  mirror_tiles mirror = kept_tiles mirror.machine.kept

  -- the disk of the tiles
  abbrev pub mirror_tiles_disk : Mirror H D T hashes g k → T
  mirror_tiles_disk mirror = tiles_disk (mirror_tiles mirror)

  -- The records that make the mirror, if the model knows the bytes of the journal's disk. Unless an
  -- append has failed they are all records of its journal.
  abbrev pub mirror_records : Mirror H D T hashes g k → Option (List Text)
  mirror_records mirror = durable_records mirror.journal

  -- the end of its journal
  abbrev pub mirror_end : Mirror H D T hashes g k → ℕ
  mirror_end mirror = end_of mirror.journal

  -- an append has failed
  abbrev pub mirror_broken : Mirror H D T hashes g k → Bool
  mirror_broken mirror = is_broken mirror.journal

  -- Over every disk: the id of the log, how many items there are, and the last size of the tiles.
  abbrev pub mirror_view : Mirror H D T hashes g k → MirrorView
  mirror_view mirror = mirror.machine.numbers

  -- The mirror that its journal has, if the model knows that: what it shows over every disk, with
  -- the items in the records.
  abbrev pub modelled_mirror : Mirror H D T hashes g k → Option MirrorState
  modelled_mirror mirror =
      option_map (mirror_with (mirror_view mirror)) (mirror_records mirror)

  -- the records, if the model knows the bytes of the disk of the tiles too; and the mirror that
  -- both have
  abbrev pub mirror_both_records : Mirror H D T hashes g k → Option (List Text)
  mirror_both_records mirror =
      option_and_then (λ tiles. mirror_records mirror) (k.contents (mirror_tiles_disk mirror))

  abbrev pub mirror_by_both : Mirror H D T hashes g k → Option MirrorState
  mirror_by_both mirror =
      option_map (mirror_with (mirror_view mirror)) (mirror_both_records mirror)

  -- the hashes of its entries, if the model knows the bytes of both disks
  abbrev pub mirror_leaves : Mirror H D T hashes g k → Option (List Hash)
  mirror_leaves mirror =
      option_map (λ s. map (leaf_hash hashes.hash) (entries_in_mirror s)) (mirror_by_both mirror)

  -- The disks were only read. The mirror shows what it showed, with the same end, and is broken
  -- exactly if it was.
  pub record MirrorStays (old new : Mirror H D T hashes g k) : Type 0 where
    pub only_reads : OnlyReads g (mirror_disk old) (mirror_disk new)
    pub tiles : OnlyReads k (mirror_tiles_disk old) (mirror_tiles_disk new)
    pub view : mirror_view new ≡ mirror_view old
    pub end : mirror_end new ≡ mirror_end old
    pub broken : mirror_broken new ≡ mirror_broken old

  -- so it is, and the disk of the journal had no call
  pub record MirrorAsksTiles (old new : Mirror H D T hashes g k) : Type 0 where
    pub disk : mirror_disk new ≡ mirror_disk old
    pub tiles : OnlyReads k (mirror_tiles_disk old) (mirror_tiles_disk new)
    pub view : mirror_view new ≡ mirror_view old
    pub end : mirror_end new ≡ mirror_end old
    pub broken : mirror_broken new ≡ mirror_broken old

  -- so it is, and the disk of the tiles had no call
  pub record MirrorAsksJournal (old new : Mirror H D T hashes g k) : Type 0 where
    pub stays : MirrorStays old new
    pub tiles : mirror_tiles_disk new ≡ mirror_tiles_disk old

  -- what it shows as the owner of its journal
  abbrev pub mirror_owner : Mirror H D T hashes g k → Owner D MirrorView
  mirror_owner mirror =
      owner_over mirror.journal (mirror_records mirror) (mirror_view mirror)

  -- the model knows this mirror of the journal, and these hashes of its entries of both disks
  pub record MirrorIsModelled (state : Option MirrorState) (all : Option (List Hash))
      (mirror : Mirror H D T hashes g k) : Type 0 where
    pub contents : modelled_mirror mirror ≡ state
    pub leaves : mirror_leaves mirror ≡ all

  -- What the model knows after a call that appends a record, by its answer: at Ok this of what it
  -- knew before, and else what it knew before.
  abbrev pub MirrorModelMoves : {X : Type 0} → (MirrorState → MirrorState)
      → Mirror H D T hashes g k → Mirror H D T hashes g k → Result X MirrorError → Type 0
  MirrorModelMoves next old new (Ok answer) =
      MirrorIsModelled (option_map next (modelled_mirror old))
      (option_map (λ s. map (leaf_hash hashes.hash) (entries_in_mirror (next s)))
      (mirror_by_both old)) new
  MirrorModelMoves next old new (Err why) =
      MirrorIsModelled (modelled_mirror old) (mirror_leaves old) new

  -- What a call does that appends this record, which makes this of what the old mirror showed, and
  -- this of what the model knew of it: as the owner of its journal it appends the record, and the
  -- model knows that.
  pub record MirrorAppends {X : Type 0} (body : Text) (seen : MirrorView → MirrorView)
      (next : MirrorState → MirrorState) (old new : Mirror H D T hashes g k)
      (result : Result X MirrorError) : Type 0 where
    pub journal : OwnerAppends g of_mirror_journal body (seen (mirror_view old)) (mirror_owner old)
        (mirror_owner new) result
    pub is_modelled : MirrorModelMoves next old new result

  -- The disk of the journal is only read at first, and that of the tiles is not called. The record
  -- is appended to the mirror that stands then, which is the same but for the calls of that disk.
  pub record MirrorReadsAndAppends {X : Type 0} (body : Text) (seen : MirrorView → MirrorView)
      (next : MirrorState → MirrorState) (old new : Mirror H D T hashes g k)
      (result : Result X MirrorError) : Type 0 where
    pub read : Mirror H D T hashes g k
    pub reads : MirrorAsksJournal old read
    pub appends : MirrorAppends body seen next read new result

  -- This record, after those of the journal, makes this of the mirror, if the contents of the
  -- journal are known.
  abbrev pub MirrorWouldTake : Text → (MirrorState → MirrorState) → Mirror H D T hashes g k → Type 0
  MirrorWouldTake body next mirror = IfSome (mirror_records mirror) (λ list.
      mirror_of hashes.hash (list ++ body ∷ []) ≡ Ok (next (mirror_with (mirror_view mirror) list)))

  -- At any time a crash leaves the tiles of this size on their disk, if it would have left them
  -- before.
  abbrev pub KeepsMirrorTiles : ℕ → Mirror H D T hashes g k → Mirror H D T hashes g k → Type 0
  KeepsMirrorTiles size old new = IfSome (mirror_leaves old) (λ leaves.
      ((c : Text) → k.may_leave (mirror_tiles_disk old) c → HoldsTiles hashes.hash leaves size c)
      → LeavesOnly k (mirror_tiles_disk old) (mirror_tiles_disk new)
      (HoldsTiles hashes.hash leaves size))

  -- Unless an append had failed before: if a crash at some time of the call may leave a journal
  -- with this record, after the call it leaves the tiles of this size on their disk.
  abbrev pub MirrorTilesStandAfter : Text → ℕ → Mirror H D T hashes g k → Mirror H D T hashes g k
      → Type 0
  MirrorTilesStandAfter body size old new = mirror_broken old ≡ false
      → IfSome (mirror_leaves old) (λ leaves. IfSome (mirror_records old) (λ list. (c : Text)
      → g.left_since (mirror_disk new) (g.clock_at (mirror_disk old)) c
      → Represents c (list ++ body ∷ []) → (d : Text) → k.may_leave (mirror_tiles_disk new) d
      → HoldsTiles hashes.hash leaves size d))
