-- What the calls of a cosigner refuse, as functions of what it shows: the first refusal that holds.
use Rattle.std.specs.Prelude.{◌≡◌, ℕ, ◌+◌, nat_le, nat_lt, not, Bool, length, Option, Some}
use Rattle.std.specs.Prelude.{None, Result, Ok, Err, if◌then◌else◌}
use Rattle.std.specs.Str.{bytes_eq}
use Rattle.byte_formats.specs.Types.{HashFunction, Text}
use Rattle.hss_keys.specs.Keys.{most_children}
use Rattle.journal_core.specs.Format.{most_bytes}
use Rattle.journal_core.specs.declared.error.AppendError.{AppendError}
use Rattle.journal_core.specs.declared.error.AppendError.TheVariants as append_error
use Rattle.tree_core.specs.Subtree.{is_subtree}
use Rattle.tree_proofs.specs.Checkpoints.{has_subtree, is_prefix_of}
use Rattle.cosigner_core.specs.Folds.{CosignerState, key_count}
use Rattle.cosigner_core.specs.Records.{advance_record, sign_record}
use Rattle.cosigner_core.specs.Requests.{AdvanceParts, SubtreeParts}
use Rattle.cosigner_core.specs.declared.error.CosignError.{CosignError}
use Rattle.cosigner_core.specs.declared.error.CosignError.TheVariants.{WrongLog, NotNewer}
use Rattle.cosigner_core.specs.declared.error.CosignError.TheVariants.{BadSubtree, Beyond, BadProof}
use Rattle.cosigner_core.specs.declared.error.CosignError.TheVariants.{NeedsChild, Exhausted}
use Rattle.cosigner_core.specs.declared.error.CosignError.TheVariants.{Append}

-- of a request to hold a larger log: another log, a size that isn't above the held one, and a proof
-- that doesn't show that what is held is a prefix of it
unfoldable pub advance_refusal : HashFunction → CosignerState → AdvanceParts → Option CosignError
advance_refusal h s r =
    if not (bytes_eq r.log s.log) then Some WrongLog
    else (if nat_le r.size s.held.size then Some (NotNewer s.held.size)
    else (if not (is_prefix_of h s.held r.size r.root r.proof) then Some BadProof else None))

-- what a key lacks whose one-time keys have all signed: the next lower tree, where the upper tree
-- has a one-time key for it, or any further one-time key
abbrev pub exhaustion : CosignerState → CosignError
exhaustion s =
    if nat_lt s.key.children (most_children s.key.key.top.lms s.key.key.low) then NeedsChild
    else Exhausted

-- of a request to sign a subtree: another log, an interval that is none, one that ends after what
-- is held, a proof that doesn't show its hash, and a key whose one-time keys have all signed
unfoldable pub subtree_refusal : HashFunction → CosignerState → SubtreeParts → Option CosignError
subtree_refusal h s r =
    if not (bytes_eq r.log s.log) then Some WrongLog
    else (if not (is_subtree r.start r.end) then Some BadSubtree
    else (if nat_lt s.held.size r.end then Some (Beyond s.held.size)
    else (if not (has_subtree h s.held r.start r.end r.hash r.proof) then Some BadProof
    else (if not (nat_lt s.key.next (key_count s)) then Some (exhaustion s) else None))))

-- of a record that is appended: a journal that an append has broken, and one whose file would pass
-- 2^33 bytes
abbrev pub append_refusal_as : {E : Type 0} → (AppendError → E) → Bool → ℕ → Text → Option E
append_refusal_as as_error broken end body =
    if broken then Some (as_error append_error.Broken)
    else (if nat_lt most_bytes (end + 5 + length body) then Some (as_error append_error.Full)
    else None)

-- the same as a refusal of a request
abbrev pub journal_refusal : Bool → ℕ → Text → Option CosignError
journal_refusal broken end body = append_refusal_as Append broken end body

-- the first of two
abbrev pub earlier : {E : Type 0} → Option E → Option E → Option E
earlier None second = second
earlier (Some refusal) second = Some refusal

-- The refusal of a request, and then of its record.
abbrev pub advance_refused : HashFunction → CosignerState → Bool → ℕ → AdvanceParts
    → Option CosignError
advance_refused h s broken end r =
    earlier (advance_refusal h s r)
    (journal_refusal broken end (advance_record r.size r.root r.proof))

abbrev pub cosign_refused : HashFunction → CosignerState → Bool → ℕ → SubtreeParts
    → Option CosignError
cosign_refused h s broken end r =
    earlier (subtree_refusal h s r)
    (journal_refusal broken end (sign_record s.key.next r.start r.end r.hash r.proof))

-- a refusal before the append
abbrev pub IsOfRequest : CosignError → Type 0
IsOfRequest WrongLog = Unit {0}
IsOfRequest (NotNewer held) = Unit {0}
IsOfRequest BadSubtree = Unit {0}
IsOfRequest (Beyond held) = Unit {0}
IsOfRequest BadProof = Unit {0}
IsOfRequest NeedsChild = Unit {0}
IsOfRequest Exhausted = Unit {0}
IsOfRequest (Append why) = ⊥

-- The answer follows that refusal. A failure may be reported if there is none.
abbrev pub CosignKeepsTo : Option CosignError → Result (Unit {0}) CosignError → Type 0
CosignKeepsTo wanted (Ok done) = wanted ≡ None
CosignKeepsTo wanted (Err WrongLog) = wanted ≡ Some WrongLog
CosignKeepsTo wanted (Err (NotNewer held)) = wanted ≡ Some (NotNewer held)
CosignKeepsTo wanted (Err BadSubtree) = wanted ≡ Some BadSubtree
CosignKeepsTo wanted (Err (Beyond held)) = wanted ≡ Some (Beyond held)
CosignKeepsTo wanted (Err BadProof) = wanted ≡ Some BadProof
CosignKeepsTo wanted (Err NeedsChild) = wanted ≡ Some NeedsChild
CosignKeepsTo wanted (Err Exhausted) = wanted ≡ Some Exhausted
CosignKeepsTo wanted (Err (Append append_error.Broken)) = wanted ≡ Some (Append append_error.Broken)
CosignKeepsTo wanted (Err (Append append_error.Full)) = wanted ≡ Some (Append append_error.Full)
CosignKeepsTo wanted (Err (Append append_error.Failed)) = wanted ≡ None
