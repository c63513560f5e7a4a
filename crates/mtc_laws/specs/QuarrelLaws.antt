-- What `quarrel` prints of the export of a cosigner whose journal had records of two signatures in
-- conflict.
use Rattle.std.specs.Prelude.{◌≡◌, ◌≢◌, ℕ, Ok}
use Rattle.byte_formats.specs.Types.{Hash, HashFunction, Text}
use Rattle.file_events.specs.Worlds.{Program}
use Rattle.mtc_words.specs.Commands.{quarrel}
use Rattle.mtc_words.specs.Words.{command_of}
use Rattle.mtc_relying.specs.QuarrelOutcome.{quarrel_text}
use Rattle.mtc_laws.specs.AuditLaws.{HoldsText}
use Rattle.mtc_top.specs.Concluded.{Prints}
use Rattle.mtc_top.specs.Executions.{Run}
use Rattle.mtc_laws.specs.Cosigners.{CosignerExecution, HasSignRecord, WasExported}

module _ (h : HashFunction) (p : Program) where
  -- In an execution of a cosigner's journal there were such records of one interval with different
  -- hashes, and a run of `export` after it printed this.
  pub record HasSignedTwice (kept_text : Text) : Type 0 where
    pub signer : CosignerExecution h p
    pub start : ℕ
    pub end : ℕ
    pub one : Hash
    pub other : Hash
    pub one_signed : HasSignRecord h p signer start end one
    pub other_signed : HasSignRecord h p signer start end other
    pub differ : one ≢ other
    pub exported : WasExported h p signer kept_text

  -- It prints two numbers of keys, and two different strings with one hash, with status 10.
  pub record Convicts (run : Run p.R p.O p.E) : Type 0 where
    pub keys : ℕ × ℕ
    pub one : Text
    pub other : Text
    pub code : run.status ≡ 10
    pub differ : one ≢ other
    pub one_hash : h one ≡ h other
    pub printed : Prints p.outs run.out run.out_after (quarrel_text keys one other)

  -- Each run of `quarrel` over such an export does so, unless it ends with a failure or memory is
  -- refused.
  abbrev pub TwoSignaturesCollide : Type 0
  TwoSignaturesCollide = (old : p.R) (run : Run p.R p.O p.E) (kept kept_text : Text)
      → p.rooms.is_modelled old → p.HasRun old run
      → command_of run.words ≡ Ok (quarrel kept)
      → HoldsText (p.rooms.file old) kept 8589934592 kept_text → HasSignedTwice kept_text
      → run.status ≢ 5 → run.status ≢ 6 → run.status ≢ 8 → Convicts run
