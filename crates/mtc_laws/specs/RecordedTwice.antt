-- What `quarrel` prints of the export of a journal that has the records of two signatures in
-- conflict, whatever became of it before.
use Rattle.std.specs.Prelude.{◌≡◌, ◌≢◌, ℕ, List, ◌∷◌, ◌++◌, Some, Ok}
use Rattle.byte_formats.specs.Types.{Hash, HashFunction, Text}
use Rattle.file_events.specs.Worlds.{Program}
use Rattle.journal_core.specs.Format.{Represents}
use Rattle.mtc_words.specs.Commands.{export, quarrel}
use Rattle.mtc_words.specs.Words.{command_of}
use Rattle.cosigner_core.specs.Records.{step_in}
use Rattle.cosigner_core.specs.declared.step.Step.TheVariants.{Sign}
use Rattle.mtc_laws.specs.AuditLaws.{HoldsText}
use Rattle.mtc_top.specs.Executions.{Run}
use Rattle.mtc_laws.specs.QuarrelLaws.{Convicts}

-- One of these records, but the first, is of a signature of this interval and hash.
pub record SignIsRecorded (list : List Text) (start end : ℕ) (hash : Hash) : Type 0 where
  pub first : Text
  pub prefix : List Text
  pub body : Text
  pub more : List Text
  pub is : list ≡ first ∷ (prefix ++ body ∷ more)
  pub index : ℕ
  pub proof : List Text
  pub signs : step_in body ≡ Some (Sign index start end hash proof)

module _ (h : HashFunction) (p : Program) where
  -- A journal has such records of one interval with different hashes, and a run of `export` over it
  -- printed this.
  pub record HasRecordedTwice (kept_text : Text) : Type 0 where
    -- the file of the journal, which may have been recovered
    pub name : Text
    pub old : p.R
    pub is_modelled : p.rooms.is_modelled old
    pub bytes : Text
    pub there : p.rooms.file old name ≡ Some bytes
    pub list : List Text
    pub stands : Represents bytes list
    -- the two signatures
    pub start : ℕ
    pub end : ℕ
    pub one : Hash
    pub other : Hash
    pub one_recorded : SignIsRecorded list start end one
    pub other_recorded : SignIsRecorded list start end other
    pub differ : one ≢ other
    -- the run of `export`, over an output of which the model knows what it took
    pub run : Run p.R p.O p.E
    pub has_run : p.HasRun old run
    pub spoken : command_of run.words ≡ Ok (export name)
    pub done : run.status ≡ 0
    pub before : Text
    pub contents : p.outs.taken run.out ≡ Some before
    pub printed : p.outs.taken run.out_after ≡ Some (before ++ kept_text)

  -- Each run of `quarrel` over such an export shows two strings with one hash, unless it ends with
  -- a failure or memory is refused.
  abbrev pub RecordedSignaturesCollide : Type 0
  RecordedSignaturesCollide = (old : p.R) (run : Run p.R p.O p.E) (kept kept_text : Text)
      → p.rooms.is_modelled old → p.HasRun old run
      → command_of run.words ≡ Ok (quarrel kept)
      → HoldsText (p.rooms.file old) kept 8589934592 kept_text → HasRecordedTwice kept_text
      → run.status ≢ 5 → run.status ≢ 6 → run.status ≢ 8 → Convicts h p run
