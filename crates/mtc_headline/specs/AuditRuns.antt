-- Runs of `audit`, and what they answer of what `verify` accepted.
use Rattle.std.specs.Prelude.{◌≡◌, ℕ, pos, Option, Ok}
use Rattle.byte_formats.specs.Types.{HashFunction, Text}
use Rattle.file_events.specs.Worlds.{Program}
use Rattle.cosigner_core.specs.declared.lists.Export.{Export}
use Rattle.entry_list.specs.Items.{ItemLists}
use Rattle.entry_list.specs.Reading.{items_in}
use Rattle.policy_core.specs.Files.{store_of}
use Rattle.policy_core.specs.declared.store.Store.{Store}
use Rattle.mtc_words.specs.Commands.{audit}
use Rattle.mtc_words.specs.Words.{command_of}
use Rattle.mtc_relying.specs.AuditOutcome.{AcceptedParts, accepted_in, case_of}
use Rattle.mtc_top.specs.Executions.{Run}
use Rattle.mtc_laws.specs.AuditLaws.{HoldsText, StandsOrCollides}
use Rattle.mtc_laws.specs.CertLaws.{HasVerified}
use Rattle.mtc_headline.specs.Endings.{WentWell}

module _ (h : HashFunction) (p : Program) where
  -- A run of `audit` over these bytes of a certificate, by a file with this store, at this time,
  -- over a file with this list of entries and a file with this text of an export. No file is longer
  -- than the command reads.
  pub record IsAuditRun (bytes : Text) (store : Store) (unix_time : ℕ) (items : ItemLists)
      (kept_text : Text) (old : p.R) (run : Run p.R p.O p.E) : Type 0 where
    pub is_modelled : p.rooms.is_modelled old
    pub is_run : p.HasRun old run
    pub certificate : Text
    pub store_name : Text
    pub entries : Text
    pub kept : Text
    pub spoken : command_of run.words ≡ Ok (audit certificate store_name unix_time entries kept)
    pub has_bytes : HoldsText (p.rooms.file old) certificate 16777216 bytes
    pub store_text : Text
    pub has_store : HoldsText (p.rooms.file old) store_name 16777216 store_text
    pub store_read : store_of store_text ≡ Ok store
    pub entries_text : Text
    pub has_entries : HoldsText (p.rooms.file old) entries 8589934592 entries_text
    pub items_read : items_in h entries_text ≡ Ok items
    pub has_kept : HoldsText (p.rooms.file old) kept 8589934592 kept_text

  -- Each such run that goes well prints that the entry stands at its index, and there it is; or it
  -- prints two different strings with one hash.
  abbrev pub AuditsAnswer : Text → Store → ℕ → ItemLists → Text → Option Export → AcceptedParts
      → Type 0
  AuditsAnswer bytes store unix_time items kept_text kept parts =
      (old : p.R) (run : Run p.R p.O p.E)
      → IsAuditRun bytes store unix_time items kept_text old run → WentWell p old run
      → StandsOrCollides h p (case_of store items kept parts) run

  -- A run of `verify` over these bytes, by this store, at this time ended with status 0: then parts
  -- are accepted, of which this holds.
  abbrev pub OfVerified : (Text → Store → ℕ → AcceptedParts → Type 0) → Type 0
  OfVerified P = (bytes : Text) (store : Store) (unix_time : ℕ) (old : p.R)
      (run : Run p.R p.O p.E) → HasVerified h p bytes store unix_time old run → run.status ≡ 0
      → (parts : AcceptedParts) × ((accepted_in h bytes store (pos unix_time) ≡ Ok parts)
      × P bytes store unix_time parts)
