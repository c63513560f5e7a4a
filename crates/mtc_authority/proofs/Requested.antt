-- Requests and refusals over what both devices have of a log, as the model knows it.
use Rattle.std.proofs.Common.{◌≡◌, ℕ, ◌<◌, ◌≤◌, ◌∙◌, length, take, ap, true, false, arith}
use Rattle.std.proofs.Common.{List, Option, Some, None, IfSome, option_map}
use Rattle.std.specs.Prelude.{codes}
use Rattle.std.proofs.lemmas.Grind.{common_steps}
use Rattle.byte_formats.specs.Types.{Hash, HashFunction, Text}
use Rattle.cosigner_core.specs.Requests.{advance_text, subtree_text}
use Rattle.tree_core.specs.Path.{part_of}
use Rattle.tree_core.specs.Subtree.{is_subtree}
use Rattle.tree_core.specs.Tree.{tree_hash}
use Rattle.issuance_log.specs.Folds.{LogState, LogView, view_in}
use Rattle.issuance_log.specs.Shown.{shown_with}
use Rattle.mtc_authority.specs.LogOutcomes.{beyond, not_allowed}
use Rattle.mtc_authority.specs.RequestOutcomes.{advance_by_log, consist_reply, growth_at}
use Rattle.mtc_authority.specs.RequestOutcomes.{prefix_proof}
use Rattle.mtc_authority.specs.RequestOutcomes.{subtree_of, subtree_reply}

module _ (h : HashFunction) (v : LogView) (id : Text) (same : id ≡ v.settings.id) where
  -- the request to hold more entries
  pub advance_modelled : (o : Option (List Text)) (old new : ℕ) (root : Hash) (proof : List Hash)
      (text : Text)
      → IfSome (option_map (shown_with v) o) (λ s. root ≡ tree_hash h (take new s.entries))
      → IfSome (option_map (shown_with v) o) (λ s. proof ≡ growth_at h s.entries old new)
      → text ≡ advance_text (record { log = id; size = new; root = root; proof = proof })
      → IfSome (option_map (shown_with v) o) (λ s. text ≡ advance_text (advance_by_log h s old new))
  advance_modelled None old new root proof text whole grown is = tt
  advance_modelled (Some list) old new root proof text whole grown is =
      is
      ∙ ap (λ (i : Text). advance_text (record {
        log = i;
        size = new;
        root = root;
        proof = proof;
      })) same
      ∙ ap (λ (r : Hash). advance_text (record {
        log = v.settings.id;
        size = new;
        root = r;
        proof = proof;
      })) whole
      ∙ ap (λ (p : List Hash). advance_text (record {
        log = v.settings.id;
        size = new;
        root = tree_hash h (take new (shown_with v list).entries);
        proof = p;
      })) grown

  -- the request to sign a subtree
  pub subtree_modelled : (o : Option (List Text)) (start end size : ℕ) (hash : Hash)
      (proof : List Hash) (text : Text)
      → IfSome (option_map (shown_with v) o)
      (λ s. hash ≡ tree_hash h (part_of s.entries start end))
      → IfSome (option_map (shown_with v) o)
      (λ s. proof ≡ prefix_proof h s.entries start end size)
      → text ≡ subtree_text (record {
        log = id;
        start = start;
        end = end;
        hash = hash;
        proof = proof;
      })
      → IfSome (option_map (shown_with v) o)
      (λ s. text ≡ subtree_text (subtree_of h s start end size))
  subtree_modelled None start end size hash proof text part grown is = tt
  subtree_modelled (Some list) start end size hash proof text part grown is =
      is
      ∙ ap (λ (i : Text). subtree_text (record {
        log = i;
        start = start;
        end = end;
        hash = hash;
        proof = proof;
      })) same
      ∙ ap (λ (r : Hash). subtree_text (record {
        log = v.settings.id;
        start = start;
        end = end;
        hash = r;
        proof = proof;
      })) part
      ∙ ap (λ (p : List Hash). subtree_text (record {
        log = v.settings.id;
        start = start;
        end = end;
        hash = tree_hash h (part_of (shown_with v list).entries start end);
        proof = p;
      })) grown

-- ---- refusals

pub nothing_new : (h : HashFunction) (s : LogState) (old new : ℕ) → new ≤ old
    → not_allowed (codes "NothingNew") ≡ consist_reply h old new s
nothing_new h s old new le = grind (arith, common_steps)

pub no_subtree : (h : HashFunction) (s : LogState) (start end size : ℕ)
    → is_subtree start end ≡ false
    → not_allowed (codes "BadSubtree") ≡ subtree_reply h start end size s
no_subtree h s start end size bad = grind (arith, common_steps)

pub subtree_short : (h : HashFunction) (s : LogState) (v : LogView) (start end size have : ℕ)
    → is_subtree start end ≡ true → have ≡ v.size → v.size < size → view_in s ≡ v
    → beyond have ≡ subtree_reply h start end size s
subtree_short h s v start end size have valid is less shows =
    let same : length s.entries ≡ v.size = ap (λ (u : LogView). u.size) shows in
    grind (arith, common_steps)

pub subtree_outside : (h : HashFunction) (s : LogState) (v : LogView) (start end size : ℕ)
    → is_subtree start end ≡ true → size ≤ v.size → size < end → view_in s ≡ v
    → beyond size ≡ subtree_reply h start end size s
subtree_outside h s v start end size valid within less shows =
    let same : length s.entries ≡ v.size = ap (λ (u : LogView). u.size) shows in
    grind (arith, common_steps)
