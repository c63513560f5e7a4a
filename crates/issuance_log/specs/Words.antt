-- What a log shows, and what a call that appends a record makes of it.
use Rattle.std.specs.Prelude.{◌≡◌, ℕ, Bool, false, List, [], ◌∷◌, ◌++◌, map, Option, Some, None}
use Rattle.std.specs.Prelude.{option_map, option_and_then, IfSome, Result, Ok, Err}
use Rattle.byte_formats.specs.Types.{Hash, Text}
use Rattle.disk_core.specs.Times.{LeavesOnly, OnlyReads}
use Rattle.disk_core.specs.declared.disk.Disk.{Ghosts}
use Rattle.tile_store.specs.Contents.{HoldsTiles}
use Rattle.tile_store.specs.Store.{tiles_disk}
use Rattle.tile_store.specs.declared.store.Tiles.{Tiles}
use Rattle.tree_core.specs.Tree.{leaf_hash}
use Rattle.tree_core.specs.declared.hashing.TreeHash.{Ghosts as Hashes}
use Rattle.journal_core.specs.Ends.{durable_records}
use Rattle.journal_core.specs.Format.{Represents}
use Rattle.journal_core.specs.Owners.{Owner, OwnerAppends, OwnerHasGrown, owner_over}
use Rattle.journal_core.specs.Words.{disk_of, end_of, is_broken}
use Rattle.journal_core.specs.declared.error.AppendError.{AppendError}
use Rattle.issuance_log.specs.Folds.{LogState, LogView, log_of}
use Rattle.issuance_log.specs.Items.{items_tiles}
use Rattle.issuance_log.specs.Shown.{shown_with}
use Rattle.issuance_log.specs.declared.error.LogError.{LogError}
use Rattle.issuance_log.specs.declared.error.LogError.TheVariants.{Append}
use Rattle.issuance_log.specs.declared.log.Log.{Log}

-- the journal's refusal, where it is one
abbrev pub of_log_journal : LogError → Option AppendError
of_log_journal (Append why) = Some why
of_log_journal other = None

module _ {H D T : Type 0} {hashes : Hashes H} {g : Ghosts D} {k : Ghosts T} where
  -- the disk of the journal
  abbrev pub log_disk : Log H D T hashes g k → D
  log_disk log = disk_of log.journal

  abbrev pub log_tiles : Log H D T hashes g k → Tiles H T hashes k
  log_tiles log = items_tiles log.machine.items

  -- the disk of the tiles
  abbrev pub log_tiles_disk : Log H D T hashes g k → T
  log_tiles_disk log = tiles_disk (log_tiles log)

  -- The records that make the log, if the model knows the bytes of the journal's disk. Unless an
  -- append has failed they are all records of its journal.
  abbrev pub log_records : Log H D T hashes g k → Option (List Text)
  log_records log = durable_records log.journal

  -- the end of its journal
  abbrev pub log_end : Log H D T hashes g k → ℕ
  log_end log = end_of log.journal

  -- an append has failed
  abbrev pub log_broken : Log H D T hashes g k → Bool
  log_broken log = is_broken log.journal

  -- Over every disk: the settings, how many entries there are, the landmarks, the last size of the
  -- tiles, and the index from which on entries name the algorithm of their key.
  abbrev pub view_of : Log H D T hashes g k → LogView
  view_of log = log.machine.numbers.view

  -- The log that its journal has, if the model knows that: what it shows over every disk, with the
  -- first items in the records.
  abbrev pub modelled_state : Log H D T hashes g k → Option LogState
  modelled_state log = option_map (shown_with (view_of log)) (log_records log)

  -- the records, if the model knows the bytes of the disk of the tiles too; and the log that both
  -- have
  abbrev pub both_records : Log H D T hashes g k → Option (List Text)
  both_records log = option_and_then (λ tiles. log_records log) (k.contents (log_tiles_disk log))

  abbrev pub modelled_by_both : Log H D T hashes g k → Option LogState
  modelled_by_both log = option_map (shown_with (view_of log)) (both_records log)

  -- the hashes of its entries, if the model knows the bytes of both disks
  abbrev pub log_leaves : Log H D T hashes g k → Option (List Hash)
  log_leaves log = option_map (λ s. map (leaf_hash hashes.hash) s.entries) (modelled_by_both log)

  -- The disks were only read. The log shows what it showed, with the same end, and is broken
  -- exactly if it was.
  pub record LogStays (old new : Log H D T hashes g k) : Type 0 where
    pub only_reads : OnlyReads g (log_disk old) (log_disk new)
    pub tiles : OnlyReads k (log_tiles_disk old) (log_tiles_disk new)
    pub view : view_of new ≡ view_of old
    pub end : log_end new ≡ log_end old
    pub broken : log_broken new ≡ log_broken old

  -- so it is, and the disk of the journal had no call
  pub record LogAsksTiles (old new : Log H D T hashes g k) : Type 0 where
    pub disk : log_disk new ≡ log_disk old
    pub tiles : OnlyReads k (log_tiles_disk old) (log_tiles_disk new)
    pub view : view_of new ≡ view_of old
    pub end : log_end new ≡ log_end old
    pub broken : log_broken new ≡ log_broken old

  -- what it shows as the owner of its journal
  abbrev pub log_owner : Log H D T hashes g k → Owner D LogView
  log_owner log = owner_over log.journal (log_records log) (view_of log)

  -- this record more, which makes this of what the log shows over every disk
  abbrev pub LogHasGrown : Text → (LogView → LogView) → Log H D T hashes g k
      → Log H D T hashes g k → Type 0
  LogHasGrown body seen old new =
      OwnerHasGrown g body (seen (view_of old)) (log_owner old) (log_owner new)

  -- the model knows this log of the journal, and these hashes of its entries of both disks
  pub record LogIsModelled (state : Option LogState) (all : Option (List Hash))
      (log : Log H D T hashes g k) : Type 0 where
    pub contents : modelled_state log ≡ state
    pub leaves : log_leaves log ≡ all

  -- What the model knows after a call that appends a record, by its answer: at Ok this of what it
  -- knew before, and else what it knew before.
  abbrev pub LogModelMoves : {X : Type 0} → (LogState → LogState) → Log H D T hashes g k
      → Log H D T hashes g k → Result X LogError → Type 0
  LogModelMoves next old new (Ok answer) = LogIsModelled (option_map next (modelled_state old))
      (option_map (λ s. map (leaf_hash hashes.hash) (next s).entries) (modelled_by_both old)) new
  LogModelMoves next old new (Err why) = LogIsModelled (modelled_state old) (log_leaves old) new

  -- What a call does that appends this record, which makes this of what the old log showed, and
  -- this of what the model knew of it: as the owner of its journal it appends the record, and the
  -- model knows that.
  pub record LogAppends {X : Type 0} (body : Text) (seen : LogView → LogView)
      (next : LogState → LogState) (old new : Log H D T hashes g k)
      (result : Result X LogError) : Type 0 where
    pub journal : OwnerAppends g of_log_journal body (seen (view_of old)) (log_owner old)
        (log_owner new) result
    pub is_modelled : LogModelMoves next old new result

  -- This record, after those of the journal, makes this of the log, if the contents of the journal
  -- are known.
  abbrev pub LogWouldTake : Text → (LogState → LogState) → Log H D T hashes g k → Type 0
  LogWouldTake body next log = IfSome (log_records log) (λ list.
      log_of hashes.hash (list ++ body ∷ []) ≡ Ok (next (shown_with (view_of log) list)))

  -- At any time a crash leaves the tiles of this size on their disk, if it would have left them
  -- before.
  abbrev pub KeepsTiles : ℕ → Log H D T hashes g k → Log H D T hashes g k → Type 0
  KeepsTiles size old new = IfSome (log_leaves old) (λ leaves.
      ((c : Text) → k.may_leave (log_tiles_disk old) c → HoldsTiles hashes.hash leaves size c)
      → LeavesOnly k (log_tiles_disk old) (log_tiles_disk new)
      (HoldsTiles hashes.hash leaves size))

  -- Unless an append had failed before: if a crash at some time of the call may leave a journal
  -- with this record, after the call it leaves the tiles of this size on their disk.
  abbrev pub TilesStandAfter : Text → ℕ → Log H D T hashes g k → Log H D T hashes g k → Type 0
  TilesStandAfter body size old new = log_broken old ≡ false → IfSome (log_leaves old) (λ leaves.
      IfSome (log_records old) (λ list. (c : Text)
      → g.left_since (log_disk new) (g.clock_at (log_disk old)) c → Represents c (list ++ body ∷ [])
      → (d : Text) → k.may_leave (log_tiles_disk new) d → HoldsTiles hashes.hash leaves size d))
