-- The certificates of several entries of a log, as PEM, and why none is written.
use Rattle.std.specs.Prelude.{◌≡◌, ◌≢◌, ℕ, zero, suc, ◌+◌, ◌-◌, ◌<◌, ◌==◌, nat_le, List, []}
use Rattle.std.specs.Prelude.{◌++◌, codes, flat_map, length, take, drop, slice_index_or, Option}
use Rattle.std.specs.Prelude.{Some, None, Result, Ok, Err, if◌then◌else◌}
use Rattle.base64.specs.Engines.{standard}
use Rattle.base64.specs.GeneralPurpose.{encode_of}
use Rattle.byte_formats.specs.Types.{HashFunction, Text}
use Rattle.issuance_log.specs.Folds.{LogState, LogView}
use Rattle.mtc_io.specs.Counts.{Rose}
use Rattle.authority_core.specs.Acceptance.{StoresAccept, StoresAcceptLightly}
use Rattle.authority_core.specs.Certificates.{IsLightlyWritten, IsWritten, cert_refusal}
use Rattle.authority_core.specs.Certificates.{light_refusal}
use Rattle.authority_core.specs.declared.writing.error.SeveralError.{SeveralError}
use Rattle.authority_core.specs.declared.writing.error.SeveralError.TheVariants.{JournalFailed}
use Rattle.authority_core.specs.declared.writing.error.SeveralError.TheVariants.{Memory}
use Rattle.authority_core.specs.declared.writing.error.SeveralError.TheVariants.{NothingNew}
use Rattle.authority_core.specs.declared.writing.error.SeveralError.TheVariants.{OfEntry}
use Rattle.authority_core.specs.declared.writing.error.SeveralError.TheVariants.{TilesFailed}
use Rattle.authority_core.specs.declared.writing.error.WriteError.{WriteError}
use Rattle.authority_core.specs.declared.writing.error.WriteError.TheVariants as write_error

-- ---- PEM (RFC 7468, sections 2 and 5)

-- Text in lines of 64 characters, the last of which may be shorter, each ended by a newline. The
-- number is at least that of the characters.
unfoldable pub lines_of_64 : ℕ → Text → Text
lines_of_64 zero text = []
lines_of_64 (suc n) text =
    if length text == 0 then [] else take 64 text ++ codes "\n" ++ lines_of_64 n (drop 64 text)

-- A certificate: its DER in base64 (RFC 4648, section 4) between two lines that say what it is.
unfoldable pub pem_of : Text → Text
pem_of der =
    codes "-----BEGIN CERTIFICATE-----\n"
    ++ lines_of_64 (length (encode_of standard der)) (encode_of standard der)
    ++ codes "-----END CERTIFICATE-----\n"

-- The text holds one certificate for each index from the first on, up to the last without it, in
-- their order, with nothing between and after them; and this holds of each.
pub record HoldsEach (P : ℕ → Text → Type 0) (first last : ℕ) (text : Text) : Type 0 where
  pub certificates : List Text
  pub count : first + length certificates ≡ last
  pub text_is : text ≡ flat_map pem_of certificates
  pub each : (i : ℕ) → i < length certificates
      → P (first + i) (slice_index_or certificates i [])

-- One certificate more, of which this holds.
pub record AddsCertificate (P : Text → Type 0) (old new : Text) : Type 0 where
  pub der : Text
  pub text_is : new ≡ old ++ pem_of der
  pub holds : P der

-- The bytes are the certificate of the log's entry at this index in the subtree, and the stores
-- that are set up for it accept them.
pub record IsAcceptable (h : HashFunction) (s : LogState) (start end : ℕ) (signatures : Text)
    (index : ℕ) (bytes : Text) : Type 0 where
  pub written : IsWritten h s index start end signatures bytes
  pub accepted : StoresAccept h s index start end signatures bytes

-- The same without signatures, in the subtree of a landmark that holds the entry.
pub record IsLightlyAcceptable (h : HashFunction) (s : LogState) (index : ℕ) (bytes : Text)
    : Type 0 where
  pub written : IsLightlyWritten h s index bytes
  pub accepted : StoresAcceptLightly h s index bytes

-- ---- refusals

-- The refusal of several by that of one: with its index, unless a disk failed or memory was
-- refused.
abbrev pub several_error : WriteError → ℕ → SeveralError
several_error write_error.JournalFailed index = JournalFailed
several_error write_error.TilesFailed index = TilesFailed
several_error write_error.Memory index = Memory
several_error refused index = OfEntry refused index

-- The refusal at this index; where there is none, the first one after it.
abbrev pub or_later : Option WriteError → ℕ → Option SeveralError → Option SeveralError
or_later None index later = later
or_later (Some why) index later = Some (OfEntry why index)

-- The first refusal at one of so many indexes from one on.
unfoldable pub refusal_from : (ℕ → Option WriteError) → ℕ → ℕ → Option SeveralError
refusal_from refusal zero index = None
refusal_from refusal (suc count) index =
    or_later (refusal index) index (refusal_from refusal count (index + 1))

-- The refusal of certificates from an index up to the last without it, the first that holds: where
-- there is no index, and then that of the first index that has one.
abbrev pub several_refusal : (ℕ → Option WriteError) → ℕ → ℕ → Option SeveralError
several_refusal refusal first last =
    if nat_le last first then Some NothingNew else refusal_from refusal (last - first) first

unfoldable pub certs_refusal : LogView → ℕ → ℕ → ℕ → ℕ → Text → Option SeveralError
certs_refusal v first last start end signatures =
    several_refusal (λ index. cert_refusal v index start end signatures) first last

unfoldable pub light_certs_refusal : LogView → ℕ → ℕ → Option SeveralError
light_certs_refusal v first last = several_refusal (light_refusal v) first last

-- A disk failed, or memory was refused.
abbrev pub IsLastRefusal : SeveralError → Type 0
IsLastRefusal JournalFailed = Unit {0}
IsLastRefusal TilesFailed = Unit {0}
IsLastRefusal Memory = Unit {0}
IsLastRefusal other = ⊥

-- The answer follows it. After all tests, of all indexes, memory may be refused or a disk fail.
abbrev pub SeveralKeepTo : Option SeveralError → Result Text SeveralError → Type 0
SeveralKeepTo wanted (Ok text) = wanted ≡ None
SeveralKeepTo wanted (Err NothingNew) = wanted ≡ Some NothingNew
SeveralKeepTo wanted (Err (OfEntry why index)) = wanted ≡ Some (OfEntry why index)
SeveralKeepTo wanted (Err JournalFailed) = wanted ≡ None
SeveralKeepTo wanted (Err TilesFailed) = wanted ≡ None
SeveralKeepTo wanted (Err Memory) = wanted ≡ None

-- The same without signatures, but memory may be refused before the tests of indexes.
abbrev pub SeveralKeepLightlyTo : Option SeveralError → Result Text SeveralError → Type 0
SeveralKeepLightlyTo wanted (Err Memory) = wanted ≢ Some NothingNew
SeveralKeepLightlyTo wanted other = SeveralKeepTo wanted other

-- The count of failures of a journal's disk rose where it is named, and is as it was at any other
-- answer; and so that of the tiles' disk.
abbrev pub SeveralCountJournal : {X : Type 0} → ℕ → ℕ → Result X SeveralError → Type 0
SeveralCountJournal before after (Ok x) = after ≡ before
SeveralCountJournal before after (Err JournalFailed) = Rose before after
SeveralCountJournal before after (Err why) = after ≡ before

abbrev pub SeveralCountTiles : {X : Type 0} → ℕ → ℕ → Result X SeveralError → Type 0
SeveralCountTiles before after (Ok x) = after ≡ before
SeveralCountTiles before after (Err TilesFailed) = Rose before after
SeveralCountTiles before after (Err why) = after ≡ before
