-- What `cert` and `light-cert` print, and what `verify` prints of what its store accepts.
use Rattle.std.specs.Prelude.{◌≡◌, ◌≢◌, ◌++◌, ℕ, pos, List, [], codes, None, Some, Ok}
use Rattle.std.specs.Fmt.{decimal}
use Rattle.byte_formats.specs.Types.{HashFunction, Text}
use Rattle.tree_core.specs.declared.spans.Span.{Span}
use Rattle.policy_core.specs.Files.{store_of}
use Rattle.policy_core.specs.Judgement.{judgement}
use Rattle.policy_core.specs.declared.answer.Accepted.{Accepted}
use Rattle.policy_core.specs.declared.store.Store.{Store}
use Rattle.issuance_log.specs.Folds.{LogState, log_of, view_in}
use Rattle.authority_core.specs.Certificates.{cert_refusal, covering_in, light_refusal}
use Rattle.file_events.specs.Owners.{did_to}
use Rattle.file_events.specs.Worlds.{Program}
use Rattle.mtc_words.specs.Commands.{cert, light_cert, verify}
use Rattle.mtc_words.specs.Words.{command_of}
use Rattle.mtc_command.specs.Made.{reads}
use Rattle.mtc_authority.specs.CertOutcome.{certificate_in, signatures_in}
use Rattle.mtc_laws.specs.AuditLaws.{HoldsText}
use Rattle.mtc_top.specs.Concluded.{Prints}
use Rattle.mtc_top.specs.Executions.{HasPrinted, Run}
use Rattle.mtc_laws.specs.PrintLaws.{OfEachRun, OfHeard}

module _ (h : HashFunction) (p : Program) where
  -- The run found a log, and what went out of it is the certificate of the log's entry at this
  -- index, in this subtree and with these signatures.
  pub record PrintsCertificate (name : Text) (index : ℕ) (span : Span) (signatures : Text)
      (old : p.R) (run : Run p.R p.O p.E) : Type 0 where
    pub list : List Text
    pub was_read : did_to p name old run ≡ reads list
    pub state : LogState
    pub log_is : log_of h list ≡ Ok state
    pub printed : HasPrinted p run (certificate_in h index span.start span.end signatures state)

  -- Each run of `cert` that did its work, or of which a byte may have gone out, read signatures
  -- from the file, and wrote the certificate with them in the subtree that it was asked for.
  -- Nothing refused it.
  abbrev pub CertificatesArePrinted : Type 0
  CertificatesArePrinted = (name : Text) (index start end : ℕ) (file : Text)
      → OfEachRun h p (OfHeard h p (cert name index start end file) (λ old run.
      (text : Text) × ((signatures : Text) × (HoldsText (p.rooms.file old) file 16777216 text
      × (signatures_in text ≡ Ok signatures)
      × ((c : PrintsCertificate name index (record { start = start; end = end }) signatures old run)
      × (cert_refusal (view_in c.state) index start end signatures ≡ None))))))

  -- Each such run of `light-cert` wrote the certificate without signatures, in the subtree of the
  -- least landmark above the entry. Nothing refused it.
  abbrev pub LightCertificatesArePrinted : Type 0
  LightCertificatesArePrinted = (name : Text) (index : ℕ)
      → OfEachRun h p (OfHeard h p (light_cert name index) (λ old run.
      (span : Span) × ((c : PrintsCertificate name index span [] old run)
      × (covering_in (view_in c.state) index ≡ Some span)
      × (light_refusal (view_in c.state) index ≡ None))))

  -- The run of `verify` accepts this index, with status 0, unless it ends with status 5, 6 or 8.
  abbrev pub PrintsAccepted : ℕ → Run p.R p.O p.E → Type 0
  PrintsAccepted index run = run.status ≢ 5 → run.status ≢ 6 → run.status ≢ 8
      → (run.status ≡ 0)
      × Prints p.outs run.out run.out_after (codes "accepted " ++ (decimal index ++ codes "\n"))

  -- These are the files of a run of `verify` at this time: the certificate, and a store.
  pub record HasVerified (bytes : Text) (store : Store) (unix_time : ℕ) (old : p.R)
      (run : Run p.R p.O p.E) : Type 0 where
    pub is_modelled : p.rooms.is_modelled old
    pub is_run : p.HasRun old run
    pub certificate : Text
    pub store_name : Text
    pub spoken : command_of run.words ≡ Ok (verify certificate store_name unix_time)
    pub has_bytes : HoldsText (p.rooms.file old) certificate 16777216 bytes
    pub text : Text
    pub has_store : HoldsText (p.rooms.file old) store_name 16777216 text
    pub store_read : store_of text ≡ Ok store

  -- What the judgement of these files accepts `verify` accepts.
  abbrev pub AcceptedIsPrinted : Type 0
  AcceptedIsPrinted = (bytes : Text) (store : Store) (unix_time : ℕ) (accepted : Accepted)
      (old : p.R) (run : Run p.R p.O p.E) → HasVerified bytes store unix_time old run
      → judgement h bytes store (pos unix_time) ≡ Ok accepted → PrintsAccepted accepted.index run
