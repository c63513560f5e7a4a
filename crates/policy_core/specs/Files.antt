-- The store file: what a text says, or why it is none. The faults stand in the order of their
-- tests.
use Rattle.std.specs.Prelude.{ℕ, ◌&&◌, not, nat_lt, Bool, List, [], ◌∷◌, length, codes, Option}
use Rattle.std.specs.Prelude.{Some, None, Result, Ok, Err, if◌then◌else◌}
use Rattle.std.specs.List.{list_all}
use Rattle.std.specs.Str.{bytes_eq}
use Rattle.byte_formats.specs.Types.{Text}
use Rattle.byte_formats.specs.Readings.{◌>>=◌}
use Rattle.cert_names.specs.LogNames.{name_with}
use Rattle.tls_wire.specs.Anchors.{text_of}
use Rattle.toml.specs.Data.{Data, Members, get_member}
use Rattle.toml_fields.specs.Tree.{tree_of, has_only}
use Rattle.toml_fields.specs.Codes.{number_data, hash_data}
use Rattle.toml_fields.specs.Fields.{optional_field}
use Rattle.tree_core.specs.Subtree.{is_subtree}
use Rattle.tree_core.specs.declared.spans.Span.{Span}
use Rattle.policy_core.specs.declared.error.Key.TheVariants.{LogId, AlgorithmFrom, Cosigners}
use Rattle.policy_core.specs.declared.error.Key.TheVariants.{Start, End, Hash}
use Rattle.policy_core.specs.declared.error.StoreError.{StoreError}
use Rattle.policy_core.specs.declared.error.StoreError.TheVariants.{NotToml, UnknownKey, Missing}
use Rattle.policy_core.specs.declared.error.StoreError.TheVariants.{RepeatedId, RepeatedSubtree}
use Rattle.policy_core.specs.declared.error.StoreError.TheVariants.{BadRange, BadValue}
use Rattle.policy_core.specs.declared.lists.Trusted.{Trusted}
use Rattle.policy_core.specs.declared.rules.Rule.{Rule}
use Rattle.policy_core.specs.declared.store.Store.{Store}
use Rattle.policy_core.specs.Stores.{has_repeat, has_same_id, has_same_interval, is_rule}
use Rattle.policy_core.specs.Fields.{table_with, store_field, id_data, list_at}
use Rattle.policy_core.specs.CosignerFields.{cosigners_at, rules_at}

-- The keys of each table.
abbrev pub root_keys : List Text
root_keys =
    codes "log" ∷ codes "cosigner" ∷ codes "rule" ∷ codes "subtree" ∷ codes "revoked" ∷ []

abbrev pub log_keys : List Text
log_keys = codes "id" ∷ codes "algorithm_from" ∷ []

abbrev pub subtree_keys : List Text
subtree_keys = codes "start" ∷ codes "end" ∷ codes "hash" ∷ []

abbrev pub revoked_keys : List Text
revoked_keys = codes "start" ∷ codes "end" ∷ []

-- The log's table, which has to be there: its id, and from which index on entries name the
-- algorithm of the key, if that is said.
abbrev pub log_at : Option Data → Result (Text × Option ℕ) StoreError
log_at None = Err (Missing LogId)
log_at (Some d) =
    table_with log_keys d >>= λ ms.
    store_field LogId id_data (get_member (codes "id") ms) >>= λ id.
    optional_field (BadValue AlgorithmFrom) number_data (get_member (codes "algorithm_from") ms)
    >>= λ from. Ok (id, from)

-- One subtree, and one range.
unfoldable pub subtree_data : Data → Result Trusted StoreError
subtree_data d = do
  ms ← table_with subtree_keys d
  start ← store_field Start number_data (get_member (codes "start") ms)
  end ← store_field End number_data (get_member (codes "end") ms)
  hash ← store_field Hash hash_data (get_member (codes "hash") ms)
  Ok (record { start = start; end = end; hash = hash })

unfoldable pub range_data : Data → Result Span StoreError
range_data d = do
  ms ← table_with revoked_keys d
  start ← store_field Start number_data (get_member (codes "start") ms)
  end ← store_field End number_data (get_member (codes "end") ms)
  Ok (record { start = start; end = end })

-- Each interval is that of a subtree; each range holds a number.
abbrev pub are_subtrees : List Trusted → Bool
are_subtrees xs = list_all (λ x. is_subtree x.start x.end) xs

abbrev pub are_inhabited : List Span → Bool
are_inhabited xs = list_all (λ x. nat_lt x.start x.end) xs

-- The store as a whole.
unfoldable pub checked_store : Store → Result Store StoreError
checked_store s =
    if has_repeat has_same_id s.cosigners then Err RepeatedId
    else (if has_repeat has_same_interval s.subtrees then Err RepeatedSubtree
    else (if are_subtrees s.subtrees && are_inhabited s.revoked then Ok s else Err BadRange))

-- A store that a program filled: its name is that of its log, and each rule is one over its
-- cosigners; and then it is tested as a file's is.
unfoldable pub valid_store : Store → Result Store StoreError
valid_store s =
    if not (bytes_eq s.name (name_with (text_of s.log))) then Err (BadValue LogId)
    else (if not (list_all (is_rule (length s.cosigners)) s.rules) then Err (BadValue Cosigners)
    else checked_store s)

-- The rules, after the cosigners that they are over; the revoked ranges, after the subtrees.
abbrev pub rules_in : Members → Result (List Rule) StoreError
rules_in ms =
    cosigners_at (get_member (codes "cosigner") ms) >>= λ known.
    rules_at known (get_member (codes "rule") ms)

abbrev pub revoked_in : Members → Result (List Span) StoreError
revoked_in ms =
    list_at subtree_data (get_member (codes "subtree") ms) >>= λ subtrees.
    list_at range_data (get_member (codes "revoked") ms)

-- The store that the members of the root say.
unfoldable pub store_in : Members → Result Store StoreError
store_in ms = do
  log ← log_at (get_member (codes "log") ms)
  cosigners ← cosigners_at (get_member (codes "cosigner") ms)
  rules ← rules_at cosigners (get_member (codes "rule") ms)
  subtrees ← list_at subtree_data (get_member (codes "subtree") ms)
  revoked ← list_at range_data (get_member (codes "revoked") ms)
  checked_store (record {
    log = log.0;
    name = name_with (text_of log.0);
    algorithm_from = log.1;
    cosigners = cosigners;
    rules = rules;
    subtrees = subtrees;
    revoked = revoked;
  })

-- The store that a text says: it is TOML whose root has no other keys, and the root says a store.
abbrev pub store_of_tree : Option Members → Result Store StoreError
store_of_tree None = Err NotToml
store_of_tree (Some ms) = if has_only root_keys ms then store_in ms else Err UnknownKey

unfoldable pub store_of : Text → Result Store StoreError
store_of text = store_of_tree (tree_of text)
