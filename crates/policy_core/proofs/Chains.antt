-- The first fault of two fields of a store file is that of the store.
use Rattle.std.proofs.Common.{◌≡◌, ℕ, List, Option, Result, Ok, Err, refl}
use Rattle.std.specs.Prelude.{codes}
use Rattle.byte_formats.specs.Readings.{◌>>=◌}
use Rattle.byte_formats.specs.Types.{Text}
use Rattle.cert_names.specs.LogNames.{name_with}
use Rattle.tls_wire.specs.Anchors.{text_of}
use Rattle.toml.specs.Data.{Members, get_member}
use Rattle.tree_core.specs.declared.spans.Span.{Span}
use Rattle.policy_core.specs.declared.cosigners.Known.{Known}
use Rattle.policy_core.specs.declared.error.StoreError.{StoreError}
use Rattle.policy_core.specs.declared.lists.Trusted.{Trusted}
use Rattle.policy_core.specs.declared.rules.Rule.{Rule}
use Rattle.policy_core.specs.declared.store.Store.{Store}
use Rattle.policy_core.specs.Fields.{list_at}
use Rattle.policy_core.specs.CosignerFields.{cosigners_at, rules_at}
use Rattle.policy_core.specs.Files.{log_at, subtree_data, range_data, checked_store, rules_in}
use Rattle.policy_core.specs.Files.{revoked_in, store_in}

chain_err : {A B C E : Type 0} (r : Result A E) (f : A → Result B E) (g : A → B → Result C E)
    (e : E) → (r >>= f) ≡ Err e → (r >>= λ x. f x >>= λ y. g x y) ≡ Err e
chain_err (Ok x) f g e h = rw h refl
chain_err (Err d) f g e h = cc

abbrev made : Text × Option ℕ → List Known → List Rule → List Trusted → List Span → Store
made log known rules subtrees revoked = record {
  log = log.0;
  name = name_with (text_of log.0);
  algorithm_from = log.1;
  cosigners = known;
  rules = rules;
  subtrees = subtrees;
  revoked = revoked;
}

-- A fault of the cosigners or the rules.
pub rules_fault : (ms : Members) (log : Text × Option ℕ) (e : StoreError)
    → log_at (get_member (codes "log") ms) ≡ Ok log → rules_in ms ≡ Err e → store_in ms ≡ Err e
unfolding store_in
rules_fault ms log e l h =
    rw l (chain_err (cosigners_at (get_member (codes "cosigner") ms))
    (λ (known : List Known). rules_at known (get_member (codes "rule") ms))
    (λ (known : List Known) (rules : List Rule).
    list_at subtree_data (get_member (codes "subtree") ms) >>= λ subtrees.
    list_at range_data (get_member (codes "revoked") ms) >>= λ revoked.
    checked_store (made log known rules subtrees revoked)) e h)

-- A fault of the subtrees or the revoked ranges.
pub revoked_fault : (ms : Members) (log : Text × Option ℕ) (known : List Known) (rules : List Rule)
    (e : StoreError) → log_at (get_member (codes "log") ms) ≡ Ok log
    → cosigners_at (get_member (codes "cosigner") ms) ≡ Ok known
    → rules_at known (get_member (codes "rule") ms) ≡ Ok rules
    → revoked_in ms ≡ Err e → store_in ms ≡ Err e
unfolding store_in
revoked_fault ms log known rules e l k r h =
    rw (l, k, r) (chain_err (list_at subtree_data (get_member (codes "subtree") ms))
    (λ (subtrees : List Trusted). list_at range_data (get_member (codes "revoked") ms))
    (λ (subtrees : List Trusted) (revoked : List Span).
    checked_store (made log known rules subtrees revoked)) e h)
