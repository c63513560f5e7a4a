-- What the opening of a log answers.
use Rattle.std.specs.Prelude.{◌≡◌, false, option_map, IfSome, Ok}
use Rattle.byte_formats.specs.Types.{HashFunction}
use Rattle.disk_core.specs.Times.{OnlyReads}
use Rattle.disk_core.specs.declared.disk.Disk.{Ghosts}
use Rattle.journal_core.specs.Format.{Represents, end_offset, records_of}
use Rattle.journal_core.specs.Words.{AllRepresent}
use Rattle.tree_core.specs.declared.hashing.TreeHash.{Ghosts as Hashes}
use Rattle.issuance_log.specs.Folds.{log_of}
use Rattle.issuance_log.specs.Openings.{HasItsTiles, HasOpenCause, LogCountsNoOther, log_read}
use Rattle.issuance_log.specs.Openings.{TilesCountNoOther}
use Rattle.issuance_log.specs.Shown.{shown_with}
use Rattle.issuance_log.specs.Words.{log_broken, log_disk, log_end, log_records, log_tiles_disk}
use Rattle.issuance_log.specs.Words.{modelled_state, view_of}
use Rattle.issuance_log.specs.declared.error.LogOpenError.{LogOpenError}
use Rattle.issuance_log.specs.declared.log.Log.{Log}

module _ {H D T : Type 0} {hashes : Hashes H} {g : Ghosts D} {k : Ghosts T} where
  -- The log is the one in a journal and a file of tiles. No append has failed, and both disks were
  -- only read, without a failure. If the model knows the bytes of the journal's disk, they
  -- represent records that make exactly this log, the journal ends with them, and each crash leaves
  -- them. If it knows the file of tiles too, that has the tiles of the last size.
  pub record LogIsOpened (journal : D) (file : T) (log : Log H D T hashes g k) : Type 0 where
    pub sound : log_broken log ≡ false
    pub only_reads : OnlyReads g journal (log_disk log)
    pub only_reads_tiles : OnlyReads k file (log_tiles_disk log)
    pub fine : g.faults (log_disk log) ≡ g.faults journal
    pub fine_tiles : k.faults (log_tiles_disk log) ≡ k.faults file
    pub list : log_records log ≡ option_map records_of (g.contents (log_disk log))
    pub found : IfSome (g.contents journal) (λ b. IfSome (log_records log) (λ list.
        log_read hashes.hash b
        ≡ Ok (record { records = list; state = shown_with (view_of log) list })))
    pub valid : IfSome (log_records log)
        (λ list. log_of hashes.hash list ≡ Ok (shown_with (view_of log) list))
    pub tiles : IfSome (modelled_state log) (λ s. IfSome (k.contents file)
        (HasItsTiles hashes.hash s))
    pub stands : IfSome (g.contents (log_disk log)) (λ b. IfSome (log_records log) (Represents b))
    pub all : IfSome (log_records log) (AllRepresent g (log_disk log))
    pub end : IfSome (log_records log) (λ list. log_end log ≡ end_offset list)

-- Both disks were only read. The refusal has its cause in the bytes of either, in a failure, or in
-- memory that was refused, and a failure is counted only where it is the refusal.
pub record LogIsNotOpened {D T : Type 0} (g : Ghosts D) (k : Ghosts T) (h : HashFunction)
    (journal journal' : D) (file file' : T) (why : LogOpenError) : Type 0 where
  pub only_reads : OnlyReads g journal journal'
  pub only_reads_tiles : OnlyReads k file file'
  pub cause : HasOpenCause g k h journal journal' file file' why
  pub fine : LogCountsNoOther g journal journal' why
  pub fine_tiles : TilesCountNoOther k file file' why
