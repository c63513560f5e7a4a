-- What `audit` prints of a certificate that was accepted by a landmark, or by a signature whose
-- record a run of an execution of a cosigner's journal held.
use Rattle.std.specs.Prelude.{◌≡◌, ◌≢◌, ◌⊎◌, ℕ, ◌≤◌, true, pos, length, None}
use Rattle.std.specs.Prelude.{Some, IfSome, Ok, slice_get}
use Rattle.byte_formats.specs.Types.{HashFunction, Text}
use Rattle.file_events.specs.Worlds.{Program}
use Rattle.mtc_words.specs.Commands.{audit}
use Rattle.mtc_words.specs.Words.{command_of}
use Rattle.cosigner_core.specs.ExportReading.{export_in}
use Rattle.entry_list.specs.Reading.{items_in}
use Rattle.cosigner_steps.specs.Steps.{HasPrefix, held_by}
use Rattle.policy_core.specs.Counting.{is_in_set}
use Rattle.policy_core.specs.Files.{store_of}
use Rattle.policy_core.specs.declared.answer.By.TheVariants.{Cosigners, Landmark}
use Rattle.policy_core.specs.declared.cosigners.Known.{Known}
use Rattle.policy_core.specs.declared.store.Store.{Store}
use Rattle.world_core.specs.Audit.{AuditCase, HasInterval, HasOwn, firsts_of, foreign_of, has_own}
use Rattle.world_core.specs.Audit.{seconds_of}
use Rattle.mtc_command.specs.Steps.{Files}
use Rattle.mtc_command.specs.Wanted.{IsPair}
use Rattle.mtc_relying.specs.AuditOutcome.{collision_text, accepted_in, stands_text}
use Rattle.mtc_top.specs.Concluded.{Prints}
use Rattle.mtc_top.specs.Executions.{Run}
use Rattle.mtc_laws.specs.Cosigners.{CosignerExecution, HasSignRecord, WasExported}

-- The file of this name has this text, which is no longer than the limit.
pub record HoldsText (files : Files) (name : Text) (limit : ℕ) (text : Text) : Type 0 where
  pub there : files name ≡ Some text
  pub few : length text ≤ limit

-- The four files are read, each by its grammar, and the store accepts the certificate at that time:
-- this is the case to be audited.
pub record IsAuditOf (h : HashFunction) (files : Files) (cert store : Text) (unix_time : ℕ)
    (entries kept : Text) (x : AuditCase) : Type 0 where
  pub cert_text : Text
  pub has_cert : HoldsText files cert 16777216 cert_text
  pub store_text : Text
  pub has_store : HoldsText files store 16777216 store_text
  pub entries_text : Text
  pub has_entries : HoldsText files entries 8589934592 entries_text
  pub kept_text : Text
  pub has_kept : HoldsText files kept 8589934592 kept_text
  pub store_read : store_of store_text ≡ Ok x.store
  pub items_read : items_in h entries_text ≡ Ok x.items
  pub kept_read : export_in h kept_text ≡ Ok x.kept
  pub judged : accepted_in h cert_text x.store (pos unix_time)
      ≡ Ok (record { accepted = x.accepted; cert = x.cert; proof = x.proof })

-- The store has a cosigner with this id and this public key, at an index of the set.
pub record HasCounted (store : Store) (set : ℕ) (id key : Text) : Type 0 where
  pub place : ℕ
  pub known : Known
  pub there : slice_get store.cosigners place ≡ Some known
  pub in_set : is_in_set set place ≡ true
  pub id_is : known.id ≡ id
  pub key_is : known.key ≡ key

module _ (h : HashFunction) (p : Program) where
  -- A run of an execution of a cosigner's journal held the record of a signature of the accepted
  -- interval and hash, a run of `export` after it printed the export that is audited, and the store
  -- counts the cosigner.
  pub record IsSignedInExecution (x : AuditCase) (kept_text : Text) : Type 0 where
    pub signer : CosignerExecution h p
    pub signed : HasSignRecord h p signer x.accepted.start x.accepted.end x.accepted.hash
    pub exported : WasExported h p signer kept_text
    -- The cosigner is one of those that the store counted, and of its log.
    pub set : ℕ
    pub by : x.accepted.by ≡ Cosigners set
    pub counts : HasCounted x.store set signer.settings.id signer.public
    pub log_is : signer.settings.log ≡ x.store.log

  -- It prints that the entry stands, with status 0, and the list has the certificate's entry and
  -- key at the index; or, with status 10, two different strings with one hash.
  abbrev pub StandsOrCollides : AuditCase → Run p.R p.O p.E → Type 0
  StandsOrCollides x run = ((run.status ≡ 0) × HasOwn h x
      × Prints p.outs run.out run.out_after (stands_text x.accepted.index))
      ⊎ ((one : Text) × ((other : Text) × ((run.status ≡ 10) × (one ≢ other) × (h one ≡ h other)
      × Prints p.outs run.out run.out_after (collision_text one other))))

  -- This holds of each run of `audit` that ends without a failure and without memory refused. A
  -- landmark backs the certificate, and the list has its hash in the accepted interval; or such a
  -- signature does, and the list begins with the entries of the last checkpoint of the export.
  abbrev pub AuditsDecide : Type 0
  AuditsDecide = (old : p.R) (run : Run p.R p.O p.E) (cert store : Text) (unix_time : ℕ)
      (entries kept : Text) (x : AuditCase) → p.rooms.is_modelled old
      → p.HasRun old run
      → command_of run.words ≡ Ok (audit cert store unix_time entries kept)
      → (is : IsAuditOf h (p.rooms.file old) cert store unix_time entries kept x)
      → ((x.accepted.by ≡ Landmark) × HasInterval h x.items x.accepted)
      ⊎ (IsSignedInExecution x is.kept_text
      × IfSome x.kept (λ export. HasPrefix h x.items.entries (held_by h export.steps)))
      → run.status ≢ 5 → run.status ≢ 6 → run.status ≢ 8 → StandsOrCollides x run

  -- The same in the words of an audit (`has_own`), and the first of the two strings is one of the
  -- list's, the second one of the certificate's or the cosigner's.
  abbrev pub StandsOrPair : AuditCase → Run p.R p.O p.E → Type 0
  StandsOrPair x run = ((run.status ≡ 0) × (has_own h x.store x.items x.accepted x.cert ≡ true)
      × Prints p.outs run.out run.out_after (stands_text x.accepted.index))
      ⊎ ((text : Text) × ((run.status ≡ 10)
      × IsPair h collision_text (firsts_of h x) (seconds_of h x) text
      × Prints p.outs run.out run.out_after text))

  -- This holds if a landmark or such a signature backs the certificate, and the list is the one
  -- that is wanted.
  abbrev pub AuditsStand : Type 0
  AuditsStand = (old : p.R) (run : Run p.R p.O p.E) (cert store : Text) (unix_time : ℕ)
      (entries kept : Text) (x : AuditCase) → p.rooms.is_modelled old
      → p.HasRun old run
      → command_of run.words ≡ Ok (audit cert store unix_time entries kept)
      → (is : IsAuditOf h (p.rooms.file old) cert store unix_time entries kept x)
      → foreign_of h x ≡ None
      → (x.accepted.by ≡ Landmark) ⊎ IsSignedInExecution x is.kept_text
      → run.status ≢ 5 → run.status ≢ 6 → run.status ≢ 8 → StandsOrPair x run
