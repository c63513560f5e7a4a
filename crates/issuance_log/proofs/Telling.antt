-- What the model knows of a log: what its durable records make, and what one record more makes of
-- it.
use Rattle.std.proofs.Common.{◌≡◌, ℕ, true, false, List, [], ◌∷◌, ◌++◌, ◌∙◌, Option, Some}
use Rattle.std.proofs.Common.{None, IfSome, option_map, refl, ap}
use Rattle.std.specs.Prelude.{map, option_and_then, is_some}
use Rattle.std.proofs.lemmas.Option.{IfSome_then}
use Rattle.byte_formats.specs.Types.{Text, HashFunction}
use Rattle.tree_core.specs.Tree.{leaf_hash}
use Rattle.issuance_log.specs.Changes.{IsTakenAs}
use Rattle.issuance_log.specs.Folds.{LogState, LogView}
use Rattle.issuance_log.specs.Items.{AreKept}
use Rattle.issuance_log.specs.Shown.{shown_with}
use Rattle.issuance_log.proofs.Keeping.{shown_next}
use Rattle.issuance_log.proofs.Shown.{shown_view}

-- ---- what the model knows of a log

-- the hashes of the entries, if the model knows the bytes of the disk of the tiles
abbrev pub leaves_by : HashFunction → LogView → Option Text → Option (List Text)
    → Option (List (List ℕ))
leaves_by h v tiles list = option_map (λ (s : LogState). map (leaf_hash h) s.entries)
    (option_map (shown_with v) (option_and_then (λ (t : Text). list) tiles))

modelled_with : (v w : LogView) (body : Text) (next : LogState → LogState)
    (o new : Option (List Text))
    → new ≡ option_map (λ list. list ++ body ∷ []) o
    → IfSome o (λ list. shown_with w (list ++ body ∷ []) ≡ next (shown_with v list))
    → option_map (shown_with w) new ≡ option_map next (option_map (shown_with v) o)
modelled_with v w body next None new is shown = ap (option_map (shown_with w)) is
modelled_with v w body next (Some list) new is shown =
    ap (option_map (shown_with w)) is ∙ ap Some shown

leaves_with : (h : HashFunction) (v w : LogView) (next : LogState → LogState)
    (tiles later : Option Text) (o new : Option (List Text)) → is_some later ≡ is_some tiles
    → option_map (shown_with w) new ≡ option_map next (option_map (shown_with v) o)
    → leaves_by h w later new
    ≡ option_map (λ (s : LogState). map (leaf_hash h) (next s).entries)
    (option_map (shown_with v) (option_and_then (λ (t : Text). o) tiles))
leaves_with h v w next None None o new both contents = refl
leaves_with h v w next None (Some t) o new both contents = let wrong : true ≡ false =
    both in absurd cc
leaves_with h v w next (Some t) None o new both contents = let wrong : false ≡ true =
    both in absurd cc
leaves_with h v w next (Some t) (Some u) o new both contents =
    ap (option_map (λ (s : LogState). map (leaf_hash h) s.entries)) contents ∙ twice o
  where
    twice : (p : Option (List Text))
        → option_map (λ (s : LogState). map (leaf_hash h) s.entries)
        (option_map next (option_map (shown_with v) p))
        ≡ option_map (λ (s : LogState). map (leaf_hash h) (next s).entries)
        (option_map (shown_with v) p)
    twice None = refl
    twice (Some list) = refl

pub leaves_same : (h : HashFunction) (v w : LogView) (tiles later : Option Text)
    (o new : Option (List Text)) → is_some later ≡ is_some tiles
    → option_map (shown_with w) new ≡ option_map (shown_with v) o
    → leaves_by h w later new ≡ leaves_by h v tiles o
leaves_same h v w None None o new both contents = refl
leaves_same h v w None (Some t) o new both contents = let wrong : true ≡ false = both in absurd cc
leaves_same h v w (Some t) None o new both contents = let wrong : false ≡ true = both in absurd cc
leaves_same h v w (Some t) (Some u) o new both contents =
    ap (option_map (λ (s : LogState). map (leaf_hash h) s.entries)) contents

-- the model knows the leaves if it knows the bytes
pub some_modelled : (f f' : Text → List (List ℕ)) (contents later : Option Text)
    → option_map f' later ≡ option_map f contents → is_some later ≡ is_some contents
some_modelled f f' None None same = refl
some_modelled f f' None (Some b) same = let wrong : Some (f' b) ≡ None = same in absurd cc
some_modelled f f' (Some b) None same = let wrong : None ≡ Some (f b) = same in absurd cc
some_modelled f f' (Some b) (Some c) same = refl

-- ---- one record more

module _ (h : HashFunction) (v : LogView) (offsets : List ℕ) (leaves : Option (List (List ℕ)))
    (old new : Option (List Text)) (body : Text) (seen : LogView → LogView)
    (make : LogState → LogState) (grown : new ≡ option_map (λ list. list ++ body ∷ []) old)
    (taken : IsTakenAs h v body seen make) (kept : IfSome old (AreKept h v offsets leaves)) where
  pub grown_modelled : option_map (shown_with (seen v)) new
      ≡ option_map make (option_map (shown_with v) old)
  grown_modelled = modelled_with v (seen v) body make old new grown
      (IfSome_then old kept (λ list is.
      shown_next h v (seen v) list body (make (shown_with v list)) is.made is.all taken.shows
      (taken.makes (shown_with v list) (shown_view v list is.all))))

  pub grown_leaves : (tiles later : Option Text) → is_some later ≡ is_some tiles
      → leaves_by h (seen v) later new
      ≡ option_map (λ (s : LogState). map (leaf_hash h) (make s).entries)
      (option_map (shown_with v) (option_and_then (λ (t : Text). old) tiles))
  grown_leaves tiles later both =
      leaves_with h v (seen v) make tiles later old new both grown_modelled
