-- The command that writes a certificate.
use Rattle.std.proofs.Common.{◌≡◌, ◌≢◌, ℕ, ◌≤◌, [], Option, Some, None, IfSome, Result, Ok, Err}
use Rattle.std.proofs.Common.{length, slice_index_or, refl, sym, ap, ◌∙◌}
use Rattle.std.proofs.lemmas.Option.{IfSome_then}
use Rattle.byte_formats.specs.Types.{HashFunction, Text}
use Rattle.disk_core.specs.declared.disk.Disk.{Ghosts}
use Rattle.tree_core.specs.declared.hashing.TreeHash.{Ghosts as Hashes}
use Rattle.mtc_proof.specs.Proofs.{proof_text}
use Rattle.issuance_log.specs.Folds.{LogState, LogView, view_in}
use Rattle.issuance_log.specs.Words.{LogStays, log_disk, log_tiles_disk, modelled_by_both}
use Rattle.issuance_log.specs.Words.{modelled_state}
use Rattle.issuance_log.specs.Words.{view_of}
use Rattle.issuance_log.specs.declared.log.Log.{Log}
use Rattle.authority_core.specs.Certificates.{IsLightlyWritten, IsWritten, JournalCounts}
use Rattle.authority_core.specs.Certificates.{KeepsToLightRefusal, KeepsToRefusal, TilesCounts}
use Rattle.authority_core.specs.Certificates.{cert_refusal, covering_in, light_refusal, proof_for}
use Rattle.authority_core.specs.declared.writing.error.WriteError.{WriteError}
use Rattle.authority_core.specs.declared.writing.error.WriteError.TheVariants.{NoSuchEntry}
use Rattle.authority_core.specs.declared.writing.error.WriteError.TheVariants.{NullEntry}
use Rattle.authority_core.specs.declared.writing.error.WriteError.TheVariants.{BadSubtree}
use Rattle.authority_core.specs.declared.writing.error.WriteError.TheVariants.{Outside, Beyond}
use Rattle.authority_core.specs.declared.writing.error.WriteError.TheVariants.{NotCovered}
use Rattle.authority_core.specs.declared.writing.error.WriteError.TheVariants.{TooManySignatures}
use Rattle.authority_core.specs.declared.writing.error.WriteError.TheVariants.{JournalFailed}
use Rattle.authority_core.specs.declared.writing.error.WriteError.TheVariants.{TilesFailed}
use Rattle.authority_core.specs.declared.writing.error.WriteError.TheVariants.{Memory}
use Rattle.mtc_command.specs.Answers.{Reply, replied, room_failed, said, status_of, tiles_name}
use Rattle.mtc_command.specs.Steps.{Files, with_form}
use Rattle.mtc_command.specs.declared.answer.Said.TheVariants.{Done}
use Rattle.mtc_command.proofs.Inputs.{bytes_read}
use Rattle.mtc_authority.specs.CertCommand.{cert_outcome, signed_says}
use Rattle.mtc_authority.specs.CertOutcome.{certificate_in, certificate_with, cert_ending}
use Rattle.mtc_authority.specs.CertOutcome.{cert_refused}
use Rattle.mtc_authority.specs.CertOutcome.{cert_replies, cert_reply}
use Rattle.mtc_proof.specs.Reasons.{proof_fault_text}
use Rattle.mtc_authority.specs.CertOutcome.{light_reply, light_text}
use Rattle.mtc_authority.specs.CertOutcome.{signatures_in}
use Rattle.mtc_authority.specs.Works.{RepliesOnLog, log_outcome}
use Rattle.mtc_authority.specs.declared.work.Work.TheVariants.{Cert}
use Rattle.mtc_authority.proofs.Replied.{at_journal, at_tiles, both_so, shown_so, out_of_memory_so}
use Rattle.mtc_authority.proofs.Replied.{modelled_both}
use Rattle.mtc_authority.proofs.Replied.{modelled_so}

-- ---- the work

-- what was written is the certificate
pub certificate_is : (h : HashFunction) (s : LogState) (index start end : ℕ)
    (signatures bytes : Text) → IsWritten h s index start end signatures bytes
    → bytes ≡ certificate_in h index start end signatures s
certificate_is h s index start end signatures bytes is =
    is.written ∙ ap (certificate_with index (slice_index_or s.keys index [])
    (proof_text (proof_for h s index start end signatures))) (sym is.read)

-- A certificate is refused so: by the numbers of the log, unless a device failed or memory was
-- refused.
abbrev pub IsRefusedBy : Option WriteError → WriteError → Type 0
IsRefusedBy wanted JournalFailed = Unit {0}
IsRefusedBy wanted TilesFailed = Unit {0}
IsRefusedBy wanted Memory = Unit {0}
IsRefusedBy wanted why = wanted ≡ Some why

-- what is answered
abbrev pub failed : WriteError → Result Text WriteError
failed why = Err why

pub by_signatures : (wanted : Option WriteError) (why : WriteError)
    → KeepsToRefusal wanted (failed why) → IsRefusedBy wanted why
by_signatures wanted NoSuchEntry is = is
by_signatures wanted NullEntry is = is
by_signatures wanted BadSubtree is = is
by_signatures wanted Outside is = is
by_signatures wanted (Beyond size) is = is
by_signatures wanted NotCovered is = absurd is
by_signatures wanted TooManySignatures is = is
by_signatures wanted JournalFailed is = tt
by_signatures wanted TilesFailed is = tt
by_signatures wanted Memory is = tt

pub by_landmarks : (wanted : Option WriteError) (why : WriteError)
    → KeepsToLightRefusal wanted (failed why) → IsRefusedBy wanted why
by_landmarks wanted NoSuchEntry is = is
by_landmarks wanted NullEntry is = is
by_landmarks wanted BadSubtree is = absurd is
by_landmarks wanted Outside is = absurd is
by_landmarks wanted (Beyond size) is = absurd is
by_landmarks wanted NotCovered is = is
by_landmarks wanted TooManySignatures is = absurd is
by_landmarks wanted JournalFailed is = tt
by_landmarks wanted TilesFailed is = tt
by_landmarks wanted Memory is = tt

module _ {H D : Type 0} {hashes : Hashes H} {g : Ghosts D} (name : Text)
    (refusal : LogView → Option WriteError) (text : LogState → Text)
    (old new : Log H D D hashes g g) (stays : LogStays old new)
    (shows : IfSome (modelled_state old) (λ s. view_in s ≡ view_of old)) where
  abbrev wanted : LogState → Reply
  wanted s = cert_replies (refusal (view_in s)) (text s)

  refused_so : (why : WriteError) → refusal (view_of old) ≡ Some why
      → status_of (cert_refused why) ≢ 1
      → RepliesOnLog name wanted old new (replied (cert_refused why))
  refused_so why is code = shown_so name wanted old new stays (cert_refused why) code shows
      (λ s same. sym (ap (λ (o : Option WriteError). cert_replies o (text s))
      (ap refusal same ∙ is)))

  -- no certificate is written
  pub not_certified : (why : WriteError) → IsRefusedBy (refusal (view_of old)) why
      → JournalCounts (g.faults (log_disk old)) (g.faults (log_disk new)) (failed why)
      → TilesCounts (g.faults (log_tiles_disk old)) (g.faults (log_tiles_disk new)) (failed why)
      → RepliesOnLog name wanted old new (cert_ending name why)
  not_certified NoSuchEntry is journal tiles = refused_so NoSuchEntry is (λ e. absurd cc)
  not_certified NullEntry is journal tiles = refused_so NullEntry is (λ e. absurd cc)
  not_certified BadSubtree is journal tiles = refused_so BadSubtree is (λ e. absurd cc)
  not_certified Outside is journal tiles = refused_so Outside is (λ e. absurd cc)
  not_certified (Beyond size) is journal tiles = refused_so (Beyond size) is (λ e. absurd cc)
  not_certified NotCovered is journal tiles = refused_so NotCovered is (λ e. absurd cc)
  not_certified TooManySignatures is journal tiles =
      refused_so TooManySignatures is (λ e. absurd cc)
  not_certified JournalFailed is journal tiles =
      at_journal name wanted old new stays (room_failed name) (refl, journal)
  not_certified TilesFailed is journal tiles =
      at_tiles name wanted old new stays (room_failed (tiles_name name)) (refl, tiles)
  not_certified Memory is journal tiles = out_of_memory_so name wanted old new stays

  -- this certificate is written
  certified : (bytes : Text) → refusal (view_of old) ≡ None
      → IfSome (modelled_by_both old) (λ s. bytes ≡ text s)
      → RepliesOnLog name wanted old new (replied (said Done bytes))
  certified bytes none is = modelled_so name wanted old new stays (said Done bytes) (λ e. absurd cc)
      (IfSome_then (modelled_by_both old) (both_so (λ s. view_in s ≡ view_of old)
      (λ s. bytes ≡ text s) (modelled_by_both old) (modelled_both _ old shows) is)
      (λ s both. ap (said Done) both.1
      ∙ sym (ap (λ (o : Option WriteError). cert_replies o (text s))
      (ap refusal both.0 ∙ none))))

-- that with these signatures
pub signed_certified : {H D : Type 0} {hashes : Hashes H} {g : Ghosts D} (name : Text)
    (h : HashFunction) (index start end : ℕ) (signatures : Text) (old new : Log H D D hashes g g)
    → LogStays old new → IfSome (modelled_state old) (λ s. view_in s ≡ view_of old) → (bytes : Text)
    → cert_refusal (view_of old) index start end signatures ≡ None
    → IfSome (modelled_by_both old) (λ s. IsWritten h s index start end signatures bytes)
    → RepliesOnLog name (cert_reply h index start end signatures) old new
    (replied (said Done bytes))
signed_certified name h index start end signatures old new stays shows bytes none is =
    certified name (λ v. cert_refusal v index start end signatures)
    (certificate_in h index start end signatures) old new stays shows bytes none
    (IfSome_then (modelled_by_both old) is
    (λ s written. certificate_is h s index start end signatures bytes written))

-- that without signatures
pub lightly_certified : {H D : Type 0} {hashes : Hashes H} {g : Ghosts D} (name : Text)
    (h : HashFunction) (index : ℕ) (old new : Log H D D hashes g g)
    → LogStays old new → IfSome (modelled_state old) (λ s. view_in s ≡ view_of old) → (bytes : Text)
    → light_refusal (view_of old) index ≡ None
    → IfSome (modelled_by_both old) (λ s. IsLightlyWritten h s index bytes)
    → RepliesOnLog name (light_reply h index) old new (replied (said Done bytes))
lightly_certified name h index old new stays shows bytes none is =
    certified name (λ v. light_refusal v index)
    (λ s. light_text h index s (covering_in (view_in s) index)) old new stays shows bytes none
    (IfSome_then (modelled_by_both old) is (λ s light.
    certificate_is h s index light.span.start light.span.end [] bytes light.written
    ∙ ap (light_text h index s) (sym light.covering)))

-- ---- the command

module _ (h : HashFunction) (journal : Text) (index start end : ℕ) (file : Text) (files : Files)
    (bytes : Text) (is : files file ≡ Some bytes) (few : length bytes ≤ 16777216) where
  read_so : cert_outcome h journal index start end file files
      ≡ signed_says h journal index start end file (files journal) (files (tiles_name journal))
      bytes
  read_so = bytes_read 16777216 file (files file) bytes
      (signed_says h journal index start end file (files journal) (files (tiles_name journal))) is
      few

  -- the file holds signatures
  pub signed_so : (held tiles : Option Text) (signatures : Text)
      → signatures_in bytes ≡ Ok signatures → held ≡ files journal
      → tiles ≡ files (tiles_name journal)
      → log_outcome h journal held tiles (Cert index start end signatures)
      ≡ cert_outcome h journal index start end file files
  signed_so held tiles signatures read same same_tiles = sym (read_so
      ∙ ap (λ x. with_form proof_fault_text file x
      (λ q. log_outcome h journal (files journal) (files (tiles_name journal))
      (Cert index start end q))) read
      ∙ ap (λ x. log_outcome h journal x (files (tiles_name journal))
      (Cert index start end signatures)) (sym same)
      ∙ ap (λ x. log_outcome h journal held x (Cert index start end signatures)) (sym same_tiles))
