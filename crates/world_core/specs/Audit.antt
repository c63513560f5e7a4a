-- Whether a list has the entry of a certificate that was accepted, or two strings have one hash.
use Rattle.std.specs.Prelude.{◌≡◌, ℕ, ◌-◌, ◌+◌, ◌≤◌, ◌==◌, ◌&&◌, ◌||◌, not, nat_lt, Bool, true}
use Rattle.std.specs.Prelude.{false, ℤ}
use Rattle.std.specs.Prelude.{List, [], ◌∷◌, ◌++◌, length, slice_get, slice_index_or, Option, Some}
use Rattle.std.specs.Prelude.{None, is_some, option_map, Ok, if◌then◌else◌}
use Rattle.std.specs.List.{position}
use Rattle.std.specs.Str.{bytes_eq}
use Rattle.byte_formats.specs.Types.{Hash, HashFunction, Text}
use Rattle.cert_fields.specs.Certificate.{Parts}
use Rattle.cert_fields.specs.Grammar.{IsCertificate}
use Rattle.tree_core.specs.Path.{part_of}
use Rattle.tree_core.specs.Tree.{tree_hash}
use Rattle.tree_proofs.specs.declared.checkpoint.Checkpoint.{Checkpoint}
use Rattle.entry_list.specs.Items.{ItemLists}
use Rattle.mtc_proof.specs.Proofs.{ProofParts}
use Rattle.mtc_proof.specs.Reading.{proof_in}
use Rattle.cosigner_core.specs.declared.step.Step.{Step}
use Rattle.cosigner_core.specs.declared.step.Step.TheVariants.{Advance, Child, Sign}
use Rattle.policy_core.specs.Counting.{is_in_set}
use Rattle.policy_core.specs.Judgement.{entry_by, judged}
use Rattle.policy_core.specs.declared.answer.Accepted.{Accepted}
use Rattle.policy_core.specs.declared.answer.By.{By}
use Rattle.policy_core.specs.declared.answer.By.TheVariants.{Cosigners, Landmark}
use Rattle.policy_core.specs.declared.cosigners.Known.{Known}
use Rattle.policy_core.specs.declared.store.Store.{Store}
use Rattle.collide.specs.Extraction.{IsCollision}
use Rattle.collide.specs.Inputs.{eval_inputs_of, inputs_of}
use Rattle.cosigner_core.specs.declared.lists.Export.{Export}
use Rattle.cosigner_steps.specs.Steps.{prefix_inputs, held_by, proof_inputs}
use Rattle.world_core.specs.declared.wanted.WantedHash.{WantedHash}
use Rattle.world_core.specs.declared.answer.Audit.{Audit}
use Rattle.world_core.specs.declared.answer.Audit.TheVariants.{Foreign, Pair, Stands, Unrecorded}

-- What an audit reads: a certificate that a store accepts by its proof, the items of a list, and
-- the export of a cosigner, if there is one.
pub record AuditCase : Type 0 where
  pub accepted : Accepted
  pub cert : Parts
  pub proof : ProofParts
  pub store : Store
  pub items : ItemLists
  pub kept : Option Export

-- The certificate has this proof, and the store accepts it so at some time.
pub record WasJudged (h : HashFunction) (store : Store) (c : Parts) (p : ProofParts) (a : Accepted)
    : Type 0 where
  pub certificate : IsCertificate c
  pub proof : proof_in c.proof ≡ Ok p
  pub unix_time : ℤ
  pub accepted : judged h store unix_time c ≡ Ok a

-- ---- the list

-- The hash that a part of the list has to have: by a landmark the accepted one of its interval, by
-- cosigners that of all that the exported one holds at last.
abbrev pub of_interval : Accepted → WantedHash
of_interval a = record { start = a.start; end = a.end; hash = a.hash }

abbrev pub of_checkpoint : Checkpoint → WantedHash
of_checkpoint c = record { start = 0; end = c.size; hash = c.root }

-- What is wanted: by a landmark the former, by cosigners the latter, where there is an export.
abbrev pub wanted_hash : HashFunction → Accepted → Option Export → By → Option WantedHash
wanted_hash h a kept Landmark = Some (of_interval a)
wanted_hash h a kept (Cosigners set) =
    option_map (λ e. of_checkpoint (held_by h e.steps)) kept

-- The hash that the list has there, of its entries as far as they are there.
abbrev pub hash_there : HashFunction → List Text → WantedHash → Hash
hash_there h entries w = tree_hash h (part_of entries w.start w.end)

-- The list is too short, or has another hash there.
abbrev pub is_lacking : HashFunction → List Text → WantedHash → Bool
is_lacking h entries w =
    nat_lt (length entries) w.end || not (bytes_eq (hash_there h entries w) w.hash)

-- The hash that is wanted and the one that is there, where the list is too short or they differ.
abbrev pub foreign_in : HashFunction → List Text → Option WantedHash → Option (Hash × Hash)
foreign_in h entries None = None
foreign_in h entries (Some w) =
    if is_lacking h entries w then Some (w.hash, hash_there h entries w) else None

abbrev pub foreign_of : HashFunction → AuditCase → Option (Hash × Hash)
foreign_of h x =
    foreign_in h x.items.entries (wanted_hash h x.accepted x.kept x.accepted.by)

-- ---- the export

-- The cosigner at this index counts, and has this id and this public key.
abbrev pub is_counted_as : ℕ → Text → Text → ℕ → Known → Bool
is_counted_as set id key place k =
    is_in_set set place && (bytes_eq k.id id && bytes_eq k.key key)

-- Some item passes, from this index on.
abbrev pub some_index : {A : Type 0} → (ℕ → A → Bool) → ℕ → List A → Bool
some_index passes place [] = false
some_index passes place (x ∷ xs) = passes place x || some_index passes (place + 1) xs

-- A cosigner of the set has the id and the public key of the export.
abbrev pub is_counted : Store → ℕ → Export → Bool
is_counted store set e = some_index (is_counted_as set e.cosigner e.public) 0 store.cosigners

-- A Sign of the accepted interval, with its hash.
abbrev pub is_sign_of : Accepted → Step → Bool
is_sign_of a (Advance size root proof) = false
is_sign_of a (Child child low) = false
is_sign_of a (Sign index start end hash proof) =
    (start == a.start) && ((end == a.end) && bytes_eq hash a.hash)

-- The export is of the store's log and of a cosigner that counts, who has signed the hash.
unfoldable pub is_recorded : Store → Accepted → ℕ → Export → Bool
is_recorded store a set e =
    bytes_eq e.log store.log
    && (is_counted store set e && is_some (position (is_sign_of a) e.steps))

-- A landmark wants no export; cosigners want one.
abbrev pub is_recorded_by : Store → Accepted → By → Option Export → Bool
is_recorded_by store a Landmark kept = true
is_recorded_by store a (Cosigners set) None = false
is_recorded_by store a (Cosigners set) (Some e) = is_recorded store a set e

-- This holds of what was accepted.
abbrev pub is_supported : AuditCase → Bool
is_supported x = is_recorded_by x.store x.accepted x.accepted.by x.kept

-- ---- the entry

-- The entry of the list at this index; no bytes where there is none.
abbrev pub listed_entry : ItemLists → ℕ → Text
listed_entry items index = slice_index_or items.entries index []

-- Its key.
abbrev pub listed_key : ItemLists → ℕ → Text
listed_key items index = slice_index_or items.keys index []

-- The list has the certificate's entry at the accepted index, in the form that the store gives it,
-- with the certificate's key.
abbrev pub has_own : HashFunction → Store → ItemLists → Accepted → Parts → Bool
has_own h store items a c =
    bytes_eq (listed_entry items a.index) (entry_by h store c)
    && bytes_eq (listed_key items a.index) c.spki

-- The same in plain words: there they stand.
pub record HasOwn (h : HashFunction) (x : AuditCase) : Type 0 where
  pub entry : slice_get x.items.entries x.accepted.index ≡ Some (entry_by h x.store x.cert)
  pub key : slice_get x.items.keys x.accepted.index ≡ Some x.cert.spki

-- ---- two strings

-- The strings that are hashed for prefixes of the list; none without an export.
abbrev pub prefix_inputs_of : HashFunction → List Text → Option Export → List Text
prefix_inputs_of h entries None = []
prefix_inputs_of h entries (Some e) = prefix_inputs h entries e.steps

-- Those that are hashed in the proofs of the export; none without one.
abbrev pub proof_inputs_of : HashFunction → Option Export → List Text
proof_inputs_of h None = []
proof_inputs_of h (Some e) = proof_inputs h e.steps

-- The strings of the list: those in the tree hash of its entries in the accepted interval, those in
-- the tree hash of so many of the first entries as a checkpoint of the cosigner has, and the key at
-- the index.
abbrev pub firsts_of : HashFunction → AuditCase → List Text
firsts_of h x =
    inputs_of h (part_of x.items.entries x.accepted.start x.accepted.end)
    ++ (prefix_inputs_of h x.items.entries x.kept ++ listed_key x.items x.accepted.index ∷ [])

-- The strings beside it: those in the evaluation of the certificate's path, those in the opening of
-- the cosigner's proofs, and the certificate's key.
abbrev pub seconds_of : HashFunction → AuditCase → List Text
seconds_of h x =
    eval_inputs_of h (x.accepted.index - x.accepted.start) (x.accepted.end - x.accepted.start)
    (entry_by h x.store x.cert) x.proof.path
    ++ (proof_inputs_of h x.kept ++ x.cert.spki ∷ [])

-- ---- the answers

-- No export supports the acceptance, and the list is the one that is wanted, if any.
pub record IsUnrecorded (h : HashFunction) (x : AuditCase) : Type 0 where
  pub list : foreign_of h x ≡ None
  pub lacks : is_supported x ≡ false

-- The list has the entry with its key, or else two different strings have one hash.
abbrev pub Decides : HashFunction → AuditCase → Audit → Type 0
Decides h x (Foreign wanted found) = ⊥
Decides h x Unrecorded = ⊥
Decides h x (Stands index) =
    (has_own h x.store x.items x.accepted x.cert ≡ true) × (index ≡ x.accepted.index)
Decides h x (Pair one other) =
    (has_own h x.store x.items x.accepted x.cert ≡ false)
    × IsCollision h (firsts_of h x) (seconds_of h x) one other

-- The list is the one that is wanted, an export that is wanted supports it, and this answer decides
-- the case.
pub record IsDecidedCase (h : HashFunction) (x : AuditCase) (answer : Audit) : Type 0 where
  pub list : foreign_of h x ≡ None
  pub supported : is_supported x ≡ true
  pub decides : Decides h x answer

-- The answer of an audit: the first of these that applies.
abbrev pub IsAudit : HashFunction → AuditCase → Audit → Type 0
IsAudit h x (Foreign wanted found) = foreign_of h x ≡ Some (wanted, found)
IsAudit h x Unrecorded = IsUnrecorded h x
IsAudit h x (Stands index) = IsDecidedCase h x (Stands index)
IsAudit h x (Pair one other) = IsDecidedCase h x (Pair one other)

-- ---- steps of it

-- The answer is that the list is another one, with these hashes.
abbrev pub IsForeign : Option (Hash × Hash) → Audit → Type 0
IsForeign there (Foreign wanted found) = there ≡ Some (wanted, found)
IsForeign there Unrecorded = ⊥
IsForeign there (Stands index) = ⊥
IsForeign there (Pair one other) = ⊥

-- The list has the accepted hash in the accepted interval.
pub record HasInterval (h : HashFunction) (items : ItemLists) (a : Accepted) : Type 0 where
  pub within : a.end ≤ length items.entries
  pub root : tree_hash h (part_of items.entries a.start a.end) ≡ a.hash

-- The export doesn't support the acceptance, or it does and this answer decides the case.
abbrev pub DecidesRecorded : HashFunction → ℕ → Export → AuditCase → Audit → Type 0
DecidesRecorded h set e x (Foreign wanted found) = ⊥
DecidesRecorded h set e x Unrecorded = is_recorded x.store x.accepted set e ≡ false
DecidesRecorded h set e x (Stands index) =
    (is_recorded x.store x.accepted set e ≡ true) × Decides h x (Stands index)
DecidesRecorded h set e x (Pair one other) =
    (is_recorded x.store x.accepted set e ≡ true) × Decides h x (Pair one other)
