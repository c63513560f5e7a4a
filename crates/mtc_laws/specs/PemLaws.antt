-- What `certs` and `light-certs` print, and which certificates are accepted: of an entry that
-- `issue-list` issued, and of a list of certificates each.
use Rattle.std.specs.Prelude.{◌≡◌, ◌⊎◌, ◌≤ℤ◌, ◌+◌, ℕ, pos, List, [], length, slice_get, None, Some}
use Rattle.std.specs.Prelude.{Ok}
use Rattle.byte_formats.specs.Types.{HashFunction, Text}
use Rattle.tree_core.specs.declared.spans.Span.{Span}
use Rattle.mtc_proof.specs.Proofs.{AreSignatures}
use Rattle.policy_core.specs.declared.store.Store.{Store}
use Rattle.issuance_log.specs.Folds.{LogState, log_of, view_in}
use Rattle.authority_core.specs.Certificates.{covering_in}
use Rattle.authority_core.specs.Requests.{RequestParts}
use Rattle.authority_core.specs.Several.{HoldsEach, certs_refusal, light_certs_refusal}
use Rattle.file_events.specs.Owners.{did_to}
use Rattle.file_events.specs.Worlds.{EachRun, Program}
use Rattle.mtc_words.specs.Commands.{certs, issue, issue_list, light_certs}
use Rattle.mtc_words.specs.Words.{command_of}
use Rattle.mtc_command.specs.Made.{reads}
use Rattle.mtc_authority.specs.CertOutcome.{certificate_in, signatures_in}
use Rattle.mtc_authority.specs.ListOutcomes.{certs_text, light_certs_text}
use Rattle.mtc_laws.specs.AcceptanceLaws.{AsksForCertificate, Backs}
use Rattle.mtc_laws.specs.Cosigners.{HasWritten}
use Rattle.mtc_laws.specs.AcceptanceLaws.{WritesCertificate}
use Rattle.mtc_laws.specs.AuditLaws.{HoldsText}
use Rattle.mtc_laws.specs.CertLaws.{HasVerified, PrintsAccepted}
use Rattle.mtc_laws.specs.ExecutionLaws.{OfExecutions}
use Rattle.mtc_laws.specs.ListLaws.{HasIssuedList}
use Rattle.mtc_laws.specs.PrintLaws.{HasIssued, OfEachRun, OfHeard}
use Rattle.mtc_top.specs.Executions.{FileEvent, HasPrinted, Run}

-- The certificate of the entry at this index of a log, in this subtree and with these signatures.
pub record LogCertificate : Type 0 where
  pub state : LogState
  pub index : ℕ
  pub span : Span
  pub signatures : Text
  pub are : AreSignatures signatures

module _ (h : HashFunction) (p : Program) where
  -- ---- what is printed

  -- The run found a log, and what went out of it is this text of that.
  pub record PrintsOfLog (name : Text) (wanted : LogState → Text) (old : p.R)
      (run : Run p.R p.O p.E) : Type 0 where
    pub list : List Text
    pub was_read : did_to p name old run ≡ reads list
    pub state : LogState
    pub log_is : log_of h list ≡ Ok state
    pub printed : HasPrinted p run (wanted state)

  -- Each run of `certs` that did its work, or of which a byte may have gone out, read signatures
  -- from the file, and wrote as PEM the certificate of each entry with them, in the subtree that it
  -- was asked for. Nothing refused any.
  abbrev pub CertificateListsArePrinted : Type 0
  CertificateListsArePrinted = (name : Text) (first last start end : ℕ) (file : Text)
      → OfEachRun h p (OfHeard h p (certs name first last start end file) (λ old run.
      (text : Text) × ((signatures : Text) × (HoldsText (p.rooms.file old) file 16777216 text
      × (signatures_in text ≡ Ok signatures)
      × ((c : PrintsOfLog name (certs_text h first last start end signatures) old run)
      × (certs_refusal (view_in c.state) first last start end signatures ≡ None))))))

  -- Each such run of `light-certs` wrote them without signatures, each in the subtree of the least
  -- landmark above its entry. Nothing refused any.
  abbrev pub LightListsArePrinted : Type 0
  LightListsArePrinted = (name : Text) (first last : ℕ)
      → OfEachRun h p (OfHeard h p (light_certs name first last) (λ old run.
      (c : PrintsOfLog name (light_certs_text h first last) old run)
      × (light_certs_refusal (view_in c.state) first last ≡ None)))

  -- ---- each of them

  -- The run is one of `certs` or of `light-certs`, for these entries of the log.
  abbrev pub AsksForCertificates : Text → ℕ → ℕ → Run p.R p.O p.E → Type 0
  AsksForCertificates name first last run =
      ((start : ℕ) × ((end : ℕ) × ((file : Text)
      × (command_of run.words ≡ Ok (certs name first last start end file)))))
      ⊎ (command_of run.words ≡ Ok (light_certs name first last))

  -- The run found a log, and the bytes are the certificate of its entry at this index: in the
  -- subtree that `certs` was asked for, with the signatures that its file holds; or in that of the
  -- least landmark above the entry, without signatures.
  pub record CertifiesEntry (name : Text) (first last : ℕ) (old : p.R) (run : Run p.R p.O p.E)
      (index : ℕ) (bytes : Text) : Type 0 where
    pub span : Span
    pub signatures : Text
    pub are : AreSignatures signatures
    pub list : List Text
    pub was_read : did_to p name old run ≡ reads list
    pub state : LogState
    pub log_is : log_of h list ≡ Ok state
    pub bytes_are : bytes ≡ certificate_in h index span.start span.end signatures state
    pub by : ((file : Text)
        × ((command_of run.words ≡ Ok (certs name first last span.start span.end file))
        × HoldsText (p.rooms.file old) file 16777216 signatures))
        ⊎ ((command_of run.words ≡ Ok (light_certs name first last))
        × ((signatures ≡ []) × (covering_in (view_in state) index ≡ Some span)))

  -- The certificate that a run of `cert` or `light-cert` wrote.
  abbrev pub written_certificate : {name : Text} {index : ℕ} {old : p.R} {run : Run p.R p.O p.E}
      → WritesCertificate h p name index old run → LogCertificate
  written_certificate {name} {index} {old} {run} c = record {
    state = c.prints.state;
    index = index;
    span = c.span;
    signatures = c.signatures;
    are = c.are;
  }

  -- And one of those that a run of `certs` or `light-certs` wrote.
  abbrev pub listed_certificate : {name : Text} {first last : ℕ} {old : p.R}
      {run : Run p.R p.O p.E} {index : ℕ} {bytes : Text}
      → CertifiesEntry name first last old run index bytes → LogCertificate
  listed_certificate {name} {first} {last} {old} {run} {index} {bytes} c = record {
    state = c.state;
    index = index;
    span = c.span;
    signatures = c.signatures;
    are = c.are;
  }

  -- ---- acceptance

  -- Each run of `verify` over these bytes accepts them, by each store that backs the certificate,
  -- at each time of the request's period. Or it ends with status 5, 6 or 8.
  abbrev pub IsAcceptedAt : LogCertificate → Text → RequestParts → Type 0
  IsAcceptedAt c bytes request =
      (store : Store) (unix_time : ℕ) (room : p.R) (verifying : Run p.R p.O p.E)
      → HasVerified h p bytes store unix_time room verifying
      → Backs h p c.state c.index c.span c.signatures c.are store
      → request.validity.not_before ≤ℤ pos unix_time
      → pos unix_time ≤ℤ request.validity.not_after
      → PrintsAccepted h p c.index verifying

  -- A run of `issue` printed the index. So it is for the request of that run.
  abbrev pub IsAcceptedAlone : LogCertificate → Text → Text → Text → p.R → Run p.R p.O p.E
      → Type 0
  IsAcceptedAlone c bytes name file before earlier =
      (issued : HasIssued h p name file before earlier)
      × (length issued.state.entries ≡ c.index → IsAcceptedAt c bytes issued.request)

  -- A run of `issue-list` printed the index. So it is for the request of that line.
  abbrev pub IsAcceptedAmong : LogCertificate → Text → Text → Text → p.R → Run p.R p.O p.E
      → Type 0
  IsAcceptedAmong c bytes name file before earlier =
      (issued : HasIssuedList h p name file before earlier)
      × ((i : ℕ) (request : RequestParts) → slice_get issued.requests i ≡ Some request
      → length issued.state.entries + i ≡ c.index → IsAcceptedAt c bytes request)

  -- What `issue-list` issues is accepted. After an execution of a log's journal a run of `cert` or
  -- `light-cert` printed these bytes: they are a certificate of the log. And so it is of each run
  -- of the execution by `issue-list` that did its work, or of which a byte may have gone out.
  abbrev pub ListedEntriesAreAccepted : Type 0
  ListedEntriesAreAccepted = OfExecutions h p (λ name start first old events new.
      (index : ℕ) (run : Run p.R p.O p.E) (bytes : Text) → p.HasRun new run
      → AsksForCertificate h p name index run → HasWritten h p run bytes
      → (c : WritesCertificate h p name index new run)
      × ((file : Text) → EachRun p (OfHeard h p (issue_list name file)
      (IsAcceptedAmong (written_certificate c) bytes name file)) old events))

  -- So it is of each run of these events by `issue` or by `issue-list` that did its work, or of
  -- which a byte may have gone out.
  pub record IsAcceptedAsIssued (c : LogCertificate) (bytes name : Text) (old : p.R)
      (events : List (FileEvent p.R p.O p.E)) : Type 0 where
    pub alone : (file : Text)
        → EachRun p (OfHeard h p (issue name file) (IsAcceptedAlone c bytes name file)) old events
    pub among : (file : Text) → EachRun p
        (OfHeard h p (issue_list name file) (IsAcceptedAmong c bytes name file)) old events

  -- Each certificate of a list is accepted. After an execution of a log's journal a run of `certs`
  -- or `light-certs` printed this text: it holds a certificate of the log for each index from the
  -- first to the last, without that, as PEM, and nothing else. Each is accepted as issued.
  abbrev pub ListedCertificatesAreAccepted : Type 0
  ListedCertificatesAreAccepted = OfExecutions h p (λ name start first old events new.
      (from to : ℕ) (run : Run p.R p.O p.E) (text : Text) → p.HasRun new run
      → AsksForCertificates name from to run → HasWritten h p run text
      → HoldsEach (λ index bytes. (c : CertifiesEntry name from to new run index bytes)
      × IsAcceptedAsIssued (listed_certificate c) bytes name old events) from to text)
