-- What a program has that begins a cosigner or a log on an empty device.
use Rattle.std.specs.Prelude.{◌≡◌, ◌≤◌, ◌++◌, false, [], ◌∷◌, option_map, IfSome}
use Rattle.byte_formats.specs.Types.{HashFunction, Text}
use Rattle.disk_core.specs.Times.{OnlyReads}
use Rattle.disk_core.specs.declared.disk.Disk.{Ghosts}
use Rattle.tree_core.specs.declared.hashing.TreeHash.{Ghosts as Hashes}
use Rattle.journal_core.specs.Format.{header, record_bytes}
use Rattle.journal_core.specs.Starts.{IsNotStarted}
use Rattle.journal_core.specs.Words.{AllRepresent}
use Rattle.cosigner_core.specs.Folds.{new_cosigner}
use Rattle.cosigner_core.specs.Openings.{CosignerIsNotOpened}
use Rattle.cosigner_core.specs.Records.{cosigner_record}
use Rattle.cosigner_core.specs.declared.settings.CosignerSettings.{CosignerSettings}
use Rattle.cosigner_core.specs.Words.{cosigner_broken, cosigner_disk, cosigner_records}
use Rattle.cosigner_core.specs.Words.{cosigner_state}
use Rattle.cosigner_core.specs.declared.cosigner.Cosigner.{Cosigner}
use Rattle.issuance_log.specs.Folds.{new_log}
use Rattle.issuance_log.specs.Opened.{LogIsNotOpened}
use Rattle.issuance_log.specs.Records.{settings_record}
use Rattle.issuance_log.specs.Settings.{Settings}
use Rattle.issuance_log.specs.Words.{log_broken, log_disk, log_records, log_tiles_disk}
use Rattle.issuance_log.specs.Words.{modelled_state}
use Rattle.issuance_log.specs.declared.log.Log.{Log}
use Rattle.mtc_library.specs.declared.beginning.CosignerBeginError.{CosignerBeginError}
use Rattle.mtc_library.specs.declared.beginning.CosignerBeginError.TheVariants as cosigner_begin
use Rattle.mtc_library.specs.declared.beginning.LogBeginError.{LogBeginError}
use Rattle.mtc_library.specs.declared.beginning.LogBeginError.TheVariants as log_begin

-- The device was empty, and a journal of this one record stands on it: after a crash too.
pub record HasNewJournal {D : Type 0} (g : Ghosts D) (first : Text) (old new : D) : Type 0 where
  pub empty : IfSome (g.contents old) (λ bytes. bytes ≡ [])
  pub written : g.contents new
      ≡ option_map (λ _. header ++ record_bytes first) (g.contents old)
  pub all : IfSome (g.contents old) (λ _. AllRepresent g new (first ∷ []))
  pub later : g.faults old ≤ g.faults new

module _ {H D : Type 0} {hashes : Hashes H} {g : Ghosts D} where
  -- The cosigner that its one record makes, which holds no entries and has signed nothing, over the
  -- journal that was begun without a failure.
  pub record IsNewCosigner (settings : CosignerSettings) (secret : Text) (disk : D)
      (it : Cosigner H D hashes g) : Type 0 where
    pub begun : HasNewJournal g (cosigner_record settings secret) disk (cosigner_disk it)
    pub fine : g.faults (cosigner_disk it) ≡ g.faults disk
    pub sound : cosigner_broken it ≡ false
    pub records : cosigner_records it
        ≡ option_map (λ _. cosigner_record settings secret ∷ []) (g.contents disk)
    pub state : IfSome (g.contents disk)
        (λ _. cosigner_state it ≡ new_cosigner hashes.hash settings secret)

module _ {H D T : Type 0} {hashes : Hashes H} {g : Ghosts D} {k : Ghosts T} where
  -- The log that its one record makes, which has the null entry alone, over the journal that was
  -- begun without a failure, and a file of tiles that was only read.
  pub record IsNewLog (settings : Settings) (disk : D) (tiles : T)
      (it : Log H D T hashes g k) : Type 0 where
    pub begun : HasNewJournal g (settings_record settings) disk (log_disk it)
    pub fine : g.faults (log_disk it) ≡ g.faults disk
    pub sound : log_broken it ≡ false
    pub records : log_records it
        ≡ option_map (λ _. settings_record settings ∷ []) (g.contents disk)
    pub state : modelled_state it ≡ option_map (λ _. new_log settings) (g.contents disk)
    pub only_reads : OnlyReads k tiles (log_tiles_disk it)

-- A new journal stands on the device. It was begun on one that was refused so by its opening.
pub record IsBegunUnopened {D : Type 0} (g : Ghosts D) (first : Text) (old new : D)
    (IsRefused : D → Type 0) : Type 0 where
  pub stands : HasNewJournal g first old new
  pub begun : D
  pub journal : HasNewJournal g first old begun
  pub refused : IsRefused begun

-- What a refusal leaves of the device, and its cause: what the start of a journal leaves by its
-- reason, or the new journal, by what its opening refuses.
abbrev pub CosignerIsNotBegun : {D : Type 0} → Ghosts D → HashFunction → Text → D → D
    → CosignerBeginError → Type 0
CosignerIsNotBegun g h first old new (cosigner_begin.Start why) = IsNotStarted g old new why
CosignerIsNotBegun g h first old new (cosigner_begin.Open why) =
    IsBegunUnopened g first old new (λ begun. CosignerIsNotOpened g h begun new why)

abbrev pub LogIsNotBegun : {D T : Type 0} → Ghosts D → Ghosts T → HashFunction → Text → D → D → T
    → T → LogBeginError → Type 0
LogIsNotBegun g k h first old new tiles tiles' (log_begin.Start why) = IsNotStarted g old new why
LogIsNotBegun g k h first old new tiles tiles' (log_begin.Open why) =
    IsBegunUnopened g first old new (λ begun. LogIsNotOpened g k h begun new tiles tiles' why)
