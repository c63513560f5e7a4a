-- What a text says that is a store is valid. It should stand in policy_core.
use Rattle.std.proofs.Common.{◌≡◌, ℕ, ◌+◌, ◌<◌, ◌≤◌, ◌&&◌, nat_lt, List, [], ◌∷◌, length, codes}
use Rattle.std.proofs.Common.{Option, None, Some, Ok, Err, refl, subst, arith}
use Rattle.std.specs.List.{AllByRecursion}
use Rattle.std.proofs.lemmas.Bool.{and_parts, ltb-true}
use Rattle.byte_formats.specs.Types.{Text}
use Rattle.byte_formats.proofs.Steps.{bind_ok, guard_ok, ok_is, pass_ok, some_or_ok}
use Rattle.byte_formats.proofs.Values.{when_some}
use Rattle.cert_names.specs.LogNames.{name_with}
use Rattle.tls_wire.specs.Anchors.{text_of}
use Rattle.toml.specs.Data.{Data, Items, no_items, item, Members, get_member}
use Rattle.toml_fields.specs.Tree.{has_only, tree_of}
use Rattle.policy_core.specs.CosignerFields.{cosigner_data, cosigner_keys, cosigners_at}
use Rattle.policy_core.specs.CosignerFields.{cosigners_from, id_data_at, rule_data, rules_at}
use Rattle.policy_core.specs.Fields.{each_of, id_data, items_at, list_at, store_field, table_with}
use Rattle.policy_core.specs.Files.{are_inhabited, are_subtrees, checked_store, log_at, range_data}
use Rattle.policy_core.specs.Files.{root_keys, store_in, store_of, store_of_tree, subtree_data}
use Rattle.policy_core.specs.Limits.{most_cosigners}
use Rattle.policy_core.specs.Stores.{IsRule, IsValid, has_repeat, has_same_id, has_same_interval}
use Rattle.policy_core.specs.declared.cosigners.Known.{Known}
use Rattle.policy_core.specs.declared.error.Key.{Key}
use Rattle.policy_core.specs.declared.error.Key.TheVariants.{CosignerId}
use Rattle.policy_core.specs.declared.error.StoreError.{StoreError}
use Rattle.policy_core.specs.declared.error.StoreError.TheVariants.{RepeatedId, RepeatedSubtree}
use Rattle.policy_core.specs.declared.rules.Rule.{Rule}
use Rattle.policy_core.specs.declared.store.Store.{Store}
use Rattle.policy_core.proofs.FileRules.{each_is}
use Rattle.policy_core.proofs.Wholes.{whole}

-- a field that has to be there is read from its value
field_read : {A : Type 0} (key : Key) (read : Data → Option A) (o : Option Data) (x : A)
    → store_field key read o ≡ Ok x → (d : Data) × (read d ≡ Some x)
field_read key read None x is = absurd cc
field_read key read (Some d) x is = (d, some_or_ok _ (read d) x is)

-- ---- cosigners

below_most : (index : ℕ) (d : Data) (known : Known) → cosigner_data index d ≡ Ok known
    → index < most_cosigners
unfolding cosigner_data
below_most index d known is =
    let table = bind_ok (table_with cosigner_keys d) _ known is in
    let id = bind_ok (store_field CosignerId (id_data_at index)
    (get_member (codes "id") table.0)) _ known table.2 in
    let read = field_read CosignerId (id_data_at index) _ id.0 id.1 in
    ltb-true index most_cosigners
    (when_some (nat_lt index most_cosigners) (id_data read.0) id.0 read.1).0

few_cosigners : (index : ℕ) (ds : Items) (list : List Known) → index ≤ most_cosigners
    → cosigners_from index ds ≡ Ok list → index + length list ≤ most_cosigners
few_cosigners index no_items list few is =
    subst (λ (l : List Known). index + length l ≤ most_cosigners) (ok_is StoreError [] list is)
    (omega (arith, few))
few_cosigners index (item d ds) list few is =
    let one = bind_ok (cosigner_data index d) _ list is in
    let rest = bind_ok (cosigners_from (index + 1) ds) _ list one.2 in
    let below = below_most index d one.0 one.1 in
    let more = few_cosigners (index + 1) ds rest.0 (omega (arith, below)) rest.1 in
    subst (λ (l : List Known). index + length l ≤ most_cosigners)
    (ok_is StoreError (one.0 ∷ rest.0) list rest.2) (omega (arith, more))

few_at : (o : Option Data) (list : List Known) → cosigners_at o ≡ Ok list
    → length list ≤ most_cosigners
few_at o list is =
    let items = bind_ok (items_at o) (cosigners_from 0) list is in
    let few = few_cosigners 0 items.0 list (omega arith) items.2 in
    omega (arith, few)

rules_are : (known : List Known) (o : Option Data) (rules : List Rule) → rules_at known o ≡ Ok rules
    → AllByRecursion (IsRule (length known)) rules
rules_are known o rules is =
    let items = bind_ok (items_at o) (each_of (rule_data known)) rules is in
    each_is known items.0 rules items.2

-- ---- the store

checked_valid : (r s : Store) → r.name ≡ name_with (text_of r.log)
    → length r.cosigners ≤ most_cosigners
    → AllByRecursion (IsRule (length r.cosigners)) r.rules → checked_store r ≡ Ok s → IsValid s
unfolding checked_store
checked_valid r s name few rules is =
    let ids = guard_ok (has_repeat has_same_id r.cosigners) RepeatedId _ s is in
    let apart = guard_ok (has_repeat has_same_interval r.subtrees) RepeatedSubtree _ s ids.1 in
    let ranges = pass_ok (are_subtrees r.subtrees && are_inhabited r.revoked) (Ok r) _ s apart.1 in
    let both = and_parts (are_subtrees r.subtrees) (are_inhabited r.revoked) ranges.0 in
    subst IsValid (ok_is StoreError r s ranges.1)
    (whole r name few rules ids.0 apart.0 both.0 both.1)

valid_in : (ms : Members) (s : Store) → store_in ms ≡ Ok s → IsValid s
unfolding store_in
valid_in ms s is =
    let log = bind_ok (log_at (get_member (codes "log") ms)) _ s is in
    let known = bind_ok (cosigners_at (get_member (codes "cosigner") ms)) _ s log.2 in
    let rules = bind_ok (rules_at known.0 (get_member (codes "rule") ms)) _ s known.2 in
    let subtrees = bind_ok (list_at subtree_data (get_member (codes "subtree") ms)) _ s rules.2 in
    let revoked = bind_ok (list_at range_data (get_member (codes "revoked") ms)) _ s
    subtrees.2 in
    checked_valid (record {
      log = log.0.0;
      name = name_with (text_of log.0.0);
      algorithm_from = log.0.1;
      cosigners = known.0;
      rules = rules.0;
      subtrees = subtrees.0;
      revoked = revoked.0;
    }) s refl (few_at _ known.0 known.1) (rules_are known.0 _ rules.0 rules.1) revoked.2

no_store : (why : StoreError) (s : Store) → Err why ≡ Ok s → ⊥
no_store why s is = cc

pub store_valid : (text : Text) (s : Store) → store_of text ≡ Ok s → IsValid s
unfolding store_of
store_valid text s is = go (tree_of text) is
  where
    go : (o : Option Members) → store_of_tree o ≡ Ok s → IsValid s
    go None is = absurd (no_store _ s is)
    go (Some ms) is = valid_in ms s (pass_ok (has_only root_keys ms) (store_in ms) _ s is).1
