-- What issuing answers, in addition to what the log answers when an entry is added.
use Rattle.std.specs.Prelude.{◌≡◌, ℕ, ◌+◌, List, map, slice_get, Option, Some, Result, Ok, Err}
use Rattle.byte_formats.specs.Types.{Text, HashFunction}
use Rattle.issuance_log.specs.Folds.{LogState, LogView, log_form, with_item, with_items}
use Rattle.issuance_log.specs.Records.{batch_record, entry_record}
use Rattle.issuance_log.specs.Refusals.{BatchKeepsTo, ItemKeepsTo}
use Rattle.issuance_log.specs.declared.error.LogError.{LogError}
use Rattle.issuance_log.specs.declared.error.LogError.TheVariants as log_error
use Rattle.authority_core.specs.Acceptance.{IsOwnEntry}
use Rattle.authority_core.specs.Issuing.{entry_for}
use Rattle.authority_core.specs.Requests.{RequestParts}
use Rattle.authority_core.specs.declared.issuing.error.IssueError.{IssueError}
use Rattle.authority_core.specs.declared.issuing.error.IssueError.TheVariants.{Log}

-- The entry that a log which shows this issues for a request: in the form of its next entry, under
-- its id.
abbrev pub issued_entry : HashFunction → LogView → RequestParts → Text
issued_entry h v r = entry_for h (log_form v) v.settings.id r

-- The record of that entry with the key of the request.
abbrev pub issued_record : HashFunction → LogView → RequestParts → Text
issued_record h v r = entry_record (issued_entry h v r) r.key

-- The log with that entry and its key.
abbrev pub issued_log : HashFunction → LogView → RequestParts → LogState → LogState
issued_log h v r s = with_item (issued_entry h v r) r.key s

-- The items that such a log issues for several requests, in their order: each entry in the form of
-- the next one, with the key of its request.
abbrev pub issued_items : HashFunction → LogView → List RequestParts → List (Text × Text)
issued_items h v requests = map (λ r. (issued_entry h v r, r.key)) requests

-- Their one record.
abbrev pub issued_batch : HashFunction → LogView → List RequestParts → Text
issued_batch h v requests = batch_record (issued_items h v requests)

-- The log with these items.
abbrev pub issued_log_of_all : HashFunction → LogView → List RequestParts → LogState → LogState
issued_log_of_all h v requests s = with_items (issued_items h v requests) s

-- The answer as one of the log.
abbrev pub of_log : Result ℕ IssueError → Result ℕ LogError
of_log (Ok index) = Ok index
of_log (Err (Log why)) = Err why

-- The answer is the refusal that the log's state and journal determine, but memory may be refused
-- before any test.
abbrev pub KeepsToOrMemory : Option LogError → Result ℕ LogError → Type 0
KeepsToOrMemory wanted (Err log_error.Memory) = Unit {0}
KeepsToOrMemory wanted other = ItemKeepsTo wanted other

-- The same of the answer to several requests.
abbrev pub BatchKeepsToOrMemory : Option LogError → Result ℕ LogError → Type 0
BatchKeepsToOrMemory wanted (Err log_error.Memory) = Unit {0}
BatchKeepsToOrMemory wanted other = BatchKeepsTo wanted other

-- From an index on the log has the entries of these requests, in their order, each with its key,
-- and each with the log's own name as issuer and no critical extension that is unknown.
pub record HasIssuedAll (h : HashFunction) (v : LogView) (requests : List RequestParts) (first : ℕ)
    (s : LogState) : Type 0 where
  pub entry : (i : ℕ) → (r : RequestParts) → slice_get requests i ≡ Some r
      → slice_get s.entries (first + i) ≡ Some (issued_entry h v r)
  pub key : (i : ℕ) → (r : RequestParts) → slice_get requests i ≡ Some r
      → slice_get s.keys (first + i) ≡ Some r.key
  pub own : (i : ℕ) → (r : RequestParts) → slice_get requests i ≡ Some r
      → IsOwnEntry s.settings.id (issued_entry h v r)
