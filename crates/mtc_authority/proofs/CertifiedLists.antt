-- The commands that write the certificates of several entries.
use Rattle.std.proofs.Common.{◌≡◌, ◌≢◌, ℕ, suc, ◌+◌, ◌-◌, ◌<◌, ◌≤◌, List, [], ◌∷◌, ◌++◌, Option}
use Rattle.std.proofs.Common.{Some, None, IfSome, Result, Ok, Err, length, get_or, refl, sym, ap}
use Rattle.std.proofs.Common.{◌∙◌}
use Rattle.std.proofs.Common.{arith}
use Rattle.std.specs.List.{range_with_len}
use Rattle.std.specs.Prelude.{flat_map}
use Rattle.std.proofs.lemmas.Option.{IfSome_then}
use Rattle.byte_formats.specs.Types.{HashFunction, Text}
use Rattle.disk_core.specs.declared.disk.Disk.{Ghosts}
use Rattle.tree_core.specs.declared.hashing.TreeHash.{Ghosts as Hashes}
use Rattle.mtc_proof.specs.Reasons.{proof_fault_text}
use Rattle.issuance_log.specs.Folds.{LogState, LogView, view_in}
use Rattle.issuance_log.specs.Words.{LogStays, log_disk, log_tiles_disk, modelled_by_both}
use Rattle.issuance_log.specs.Words.{modelled_state, view_of}
use Rattle.issuance_log.specs.declared.log.Log.{Log}
use Rattle.authority_core.specs.Certificates.{covering_in}
use Rattle.authority_core.specs.Several.{HoldsEach, IsAcceptable, IsLightlyAcceptable}
use Rattle.authority_core.specs.Several.{certs_refusal}
use Rattle.authority_core.specs.Several.{SeveralCountJournal, SeveralCountTiles}
use Rattle.authority_core.specs.Several.{SeveralKeepLightlyTo, SeveralKeepTo, light_certs_refusal}
use Rattle.authority_core.specs.Several.{pem_of}
use Rattle.authority_core.specs.declared.writing.error.SeveralError.{SeveralError}
use Rattle.authority_core.specs.declared.writing.error.SeveralError.TheVariants as several
use Rattle.authority_core.specs.declared.writing.error.WriteError.{WriteError}
use Rattle.authority_core.specs.declared.writing.error.WriteError.TheVariants as write_error
use Rattle.mtc_command.specs.Answers.{Reply, replied, room_failed, said, status_of, tiles_name}
use Rattle.mtc_command.specs.Steps.{Files, with_form}
use Rattle.mtc_command.specs.declared.answer.Said.TheVariants.{Done}
use Rattle.mtc_command.proofs.Inputs.{bytes_read}
use Rattle.mtc_authority.specs.CertOutcome.{certificate_in, light_text, signatures_in}
use Rattle.mtc_authority.specs.ListCommands.{certs_outcome, signed_all_say}
use Rattle.mtc_authority.specs.ListOutcomes.{certs_reply, certs_text, light_certs_reply}
use Rattle.mtc_authority.specs.ListOutcomes.{light_certs_text, several_ending, several_refused}
use Rattle.mtc_authority.specs.ListOutcomes.{several_replies}
use Rattle.mtc_authority.specs.Works.{RepliesOnLog, log_outcome}
use Rattle.mtc_authority.specs.declared.work.Work.TheVariants.{Certs}
use Rattle.mtc_authority.proofs.Certified.{certificate_is}
use Rattle.mtc_authority.proofs.Replied.{at_journal, at_tiles, both_so, modelled_both, modelled_so}
use Rattle.mtc_authority.proofs.Replied.{out_of_memory_so, shown_so}

-- ---- the text

-- what was written of each index, one after the other
all_of : (write : ℕ → Text) (first : ℕ) (xs : List Text)
    → ((i : ℕ) → i < length xs → get_or xs i [] ≡ write (first + i))
    → flat_map pem_of xs ≡ flat_map (λ i. pem_of (write i)) (range_with_len first (length xs))
all_of write first [] each = refl
all_of write first (x ∷ xs) each =
    let here : x ≡ write first = each 0 (omega arith) ∙ ap write (omega arith) in
    ap (λ (t : Text). pem_of t ++ flat_map pem_of xs) here
    ∙ ap (λ (t : Text). pem_of (write first) ++ t) (all_of write (first + 1) xs
    (λ i below. each (suc i) (omega arith) ∙ ap write (omega arith)))

all_written : (P : ℕ → Text → Type 0) (write : ℕ → Text) (first last : ℕ) (text : Text)
    → ((i : ℕ) (bytes : Text) → P i bytes → bytes ≡ write i) → HoldsEach P first last text
    → text ≡ flat_map (λ i. pem_of (write i)) (range_with_len first (last - first))
all_written P write first last text each is =
    let count : length is.certificates ≡ last - first = omega (arith, is.count) in
    is.text_is
    ∙ all_of write first is.certificates (λ i below. each (first + i) _ (is.each i below))
    ∙ ap (λ (n : ℕ). flat_map (λ i. pem_of (write i)) (range_with_len first n)) count

-- ---- the work

-- Several are refused so: by the numbers of the log, unless a device failed or memory was refused.
abbrev pub AreRefusedBy : Option SeveralError → SeveralError → Type 0
AreRefusedBy wanted several.JournalFailed = Unit {0}
AreRefusedBy wanted several.TilesFailed = Unit {0}
AreRefusedBy wanted several.Memory = Unit {0}
AreRefusedBy wanted why = wanted ≡ Some why

-- what is answered
abbrev pub several_failed : SeveralError → Result Text SeveralError
several_failed why = Err why

pub by_signed : (wanted : Option SeveralError) (why : SeveralError)
    → SeveralKeepTo wanted (several_failed why) → AreRefusedBy wanted why
by_signed wanted several.NothingNew is = is
by_signed wanted (several.OfEntry why index) is = is
by_signed wanted several.JournalFailed is = tt
by_signed wanted several.TilesFailed is = tt
by_signed wanted several.Memory is = tt

pub by_marked : (wanted : Option SeveralError) (why : SeveralError)
    → SeveralKeepLightlyTo wanted (several_failed why) → AreRefusedBy wanted why
by_marked wanted several.NothingNew is = is
by_marked wanted (several.OfEntry why index) is = is
by_marked wanted several.JournalFailed is = tt
by_marked wanted several.TilesFailed is = tt
by_marked wanted several.Memory is = tt

of_entry_code : (why : WriteError) (index : ℕ)
    → status_of (several_refused (several.OfEntry why index)) ≢ 1
of_entry_code write_error.NoSuchEntry index = λ e. absurd cc
of_entry_code write_error.NullEntry index = λ e. absurd cc
of_entry_code write_error.BadSubtree index = λ e. absurd cc
of_entry_code write_error.Outside index = λ e. absurd cc
of_entry_code (write_error.Beyond size) index = λ e. absurd cc
of_entry_code write_error.NotCovered index = λ e. absurd cc
of_entry_code write_error.TooManySignatures index = λ e. absurd cc
of_entry_code write_error.JournalFailed index = λ e. absurd cc
of_entry_code write_error.TilesFailed index = λ e. absurd cc
of_entry_code write_error.Memory index = λ e. absurd cc

module _ {H D : Type 0} {hashes : Hashes H} {g : Ghosts D} (name : Text)
    (refusal : LogView → Option SeveralError) (text : LogState → Text)
    (old new : Log H D D hashes g g) (stays : LogStays old new)
    (shows : IfSome (modelled_state old) (λ s. view_in s ≡ view_of old)) where
  abbrev wanted : LogState → Reply
  wanted s = several_replies (refusal (view_in s)) (text s)

  refused_so : (why : SeveralError) → refusal (view_of old) ≡ Some why
      → status_of (several_refused why) ≢ 1
      → RepliesOnLog name wanted old new (replied (several_refused why))
  refused_so why is code = shown_so name wanted old new stays (several_refused why) code shows
      (λ s same. sym (ap (λ (o : Option SeveralError). several_replies o (text s))
      (ap refusal same ∙ is)))

  -- none is written
  pub not_all_certified : (why : SeveralError) → AreRefusedBy (refusal (view_of old)) why
      → SeveralCountJournal (g.faults (log_disk old)) (g.faults (log_disk new))
      (several_failed why)
      → SeveralCountTiles (g.faults (log_tiles_disk old)) (g.faults (log_tiles_disk new))
      (several_failed why) → RepliesOnLog name wanted old new (several_ending name why)
  not_all_certified several.NothingNew is journal tiles =
      refused_so several.NothingNew is (λ e. absurd cc)
  not_all_certified (several.OfEntry why index) is journal tiles =
      refused_so (several.OfEntry why index) is (of_entry_code why index)
  not_all_certified several.JournalFailed is journal tiles =
      at_journal name wanted old new stays (room_failed name) (refl, journal)
  not_all_certified several.TilesFailed is journal tiles =
      at_tiles name wanted old new stays (room_failed (tiles_name name)) (refl, tiles)
  not_all_certified several.Memory is journal tiles =
      out_of_memory_so name wanted old new stays

  -- these are written
  all_certified : (bytes : Text) → refusal (view_of old) ≡ None
      → IfSome (modelled_by_both old) (λ s. bytes ≡ text s)
      → RepliesOnLog name wanted old new (replied (said Done bytes))
  all_certified bytes none is =
      modelled_so name wanted old new stays (said Done bytes) (λ e. absurd cc)
      (IfSome_then (modelled_by_both old) (both_so (λ s. view_in s ≡ view_of old)
      (λ s. bytes ≡ text s) (modelled_by_both old) (modelled_both _ old shows) is)
      (λ s both. ap (said Done) both.1
      ∙ sym (ap (λ (o : Option SeveralError). several_replies o (text s))
      (ap refusal both.0 ∙ none))))

-- those with these signatures
pub all_signed_certified : {H D : Type 0} {hashes : Hashes H} {g : Ghosts D} (name : Text)
    (h : HashFunction) (first last start end : ℕ) (signatures : Text)
    (old new : Log H D D hashes g g) → LogStays old new
    → IfSome (modelled_state old) (λ s. view_in s ≡ view_of old) → (bytes : Text)
    → certs_refusal (view_of old) first last start end signatures ≡ None
    → IfSome (modelled_by_both old)
    (λ s. HoldsEach (IsAcceptable h s start end signatures) first last bytes)
    → RepliesOnLog name (certs_reply h first last start end signatures) old new
    (replied (said Done bytes))
all_signed_certified name h first last start end signatures old new stays shows bytes none is =
    all_certified name (λ v. certs_refusal v first last start end signatures)
    (certs_text h first last start end signatures) old new stays shows bytes none
    (IfSome_then (modelled_by_both old) is (λ s each.
    all_written (IsAcceptable h s start end signatures)
    (λ i. certificate_in h i start end signatures s) first last bytes
    (λ i der one. certificate_is h s i start end signatures der one.written) each))

-- those without signatures
pub all_lightly_certified : {H D : Type 0} {hashes : Hashes H} {g : Ghosts D} (name : Text)
    (h : HashFunction) (first last : ℕ) (old new : Log H D D hashes g g) → LogStays old new
    → IfSome (modelled_state old) (λ s. view_in s ≡ view_of old) → (bytes : Text)
    → light_certs_refusal (view_of old) first last ≡ None
    → IfSome (modelled_by_both old)
    (λ s. HoldsEach (IsLightlyAcceptable h s) first last bytes)
    → RepliesOnLog name (light_certs_reply h first last) old new (replied (said Done bytes))
all_lightly_certified name h first last old new stays shows bytes none is =
    all_certified name (λ v. light_certs_refusal v first last)
    (light_certs_text h first last) old new stays shows bytes none
    (IfSome_then (modelled_by_both old) is (λ s each. all_written (IsLightlyAcceptable h s)
    (λ i. light_text h i s (covering_in (view_in s) i)) first last bytes
    (λ i der one. certificate_is h s i one.written.span.start one.written.span.end [] der
    one.written.written ∙ ap (light_text h i s) (sym one.written.covering)) each))

-- ---- the command

module _ (h : HashFunction) (journal : Text) (first last start end : ℕ) (file : Text) (files :
    Files)
    (bytes : Text) (is : files file ≡ Some bytes) (few : length bytes ≤ 16777216) where
  read_so : certs_outcome h journal first last start end file files
      ≡ signed_all_say h journal first last start end file (files journal)
      (files (tiles_name journal)) bytes
  read_so = bytes_read 16777216 file (files file) bytes
      (signed_all_say h journal first last start end file (files journal)
      (files (tiles_name journal))) is few

  -- the file holds signatures
  pub all_signed_so : (held tiles : Option Text) (signatures : Text)
      → signatures_in bytes ≡ Ok signatures → held ≡ files journal
      → tiles ≡ files (tiles_name journal)
      → log_outcome h journal held tiles (Certs first last start end signatures)
      ≡ certs_outcome h journal first last start end file files
  all_signed_so held tiles signatures read same same_tiles = sym (read_so
      ∙ ap (λ x. with_form proof_fault_text file x
      (λ q. log_outcome h journal (files journal) (files (tiles_name journal))
      (Certs first last start end q))) read
      ∙ ap (λ x. log_outcome h journal x (files (tiles_name journal))
      (Certs first last start end signatures)) (sym same)
      ∙ ap (λ x. log_outcome h journal held x (Certs first last start end signatures))
      (sym same_tiles))
