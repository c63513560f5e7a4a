-- What the model knows of a mirror: what its durable records make, and what one record more makes
-- of it.
use Rattle.std.proofs.Common.{◌≡◌, ℕ, true, false, List, [], ◌∷◌, ◌++◌, ◌∙◌, Option, Some}
use Rattle.std.proofs.Common.{None, IfSome, option_map, refl, ap}
use Rattle.std.specs.Prelude.{map, option_and_then, is_some}
use Rattle.std.proofs.lemmas.Option.{IfSome_then}
use Rattle.byte_formats.specs.Types.{Text, HashFunction}
use Rattle.tree_core.specs.Tree.{leaf_hash}
use Rattle.mirror_core.proofs.Keeping.{shown_next, shown_view}
use Rattle.mirror_core.specs.Folds.{MirrorState, MirrorView, entries_in_mirror}
use Rattle.mirror_core.specs.Folds.{mirror_with}
use Rattle.mirror_core.specs.Kept.{IsMirrored}
use Rattle.mirror_core.specs.Words.{IsMirroredAs}
use Rattle.mirror_core.specs.declared.kept.BatchPlace.{BatchPlace}

-- ---- what the model knows of a mirror

-- the hashes of the entries, if the model knows the bytes of the disk of the tiles
abbrev pub leaves_by : HashFunction → MirrorView → Option Text → Option (List Text)
    → Option (List (List ℕ))
leaves_by h v tiles list = option_map (λ (s : MirrorState). map (leaf_hash h) (entries_in_mirror s))
    (option_map (mirror_with v) (option_and_then (λ (t : Text). list) tiles))

modelled_with : (v w : MirrorView) (body : Text) (next : MirrorState → MirrorState)
    (o new : Option (List Text))
    → new ≡ option_map (λ list. list ++ body ∷ []) o
    → IfSome o (λ list. mirror_with w (list ++ body ∷ []) ≡ next (mirror_with v list))
    → option_map (mirror_with w) new ≡ option_map next (option_map (mirror_with v) o)
modelled_with v w body next None new is shown = ap (option_map (mirror_with w)) is
modelled_with v w body next (Some list) new is shown =
    ap (option_map (mirror_with w)) is ∙ ap Some shown

leaves_with : (h : HashFunction) (v w : MirrorView) (next : MirrorState → MirrorState)
    (tiles later : Option Text) (o new : Option (List Text)) → is_some later ≡ is_some tiles
    → option_map (mirror_with w) new ≡ option_map next (option_map (mirror_with v) o)
    → leaves_by h w later new
    ≡ option_map (λ (s : MirrorState). map (leaf_hash h) (entries_in_mirror (next s)))
    (option_map (mirror_with v) (option_and_then (λ (t : Text). o) tiles))
leaves_with h v w next None None o new both contents = refl
leaves_with h v w next None (Some t) o new both contents = let wrong : true ≡ false =
    both in absurd cc
leaves_with h v w next (Some t) None o new both contents = let wrong : false ≡ true =
    both in absurd cc
leaves_with h v w next (Some t) (Some u) o new both contents =
    ap (option_map (λ (s : MirrorState). map (leaf_hash h) (entries_in_mirror s))) contents ∙ twice
    o
  where
    twice : (p : Option (List Text))
        → option_map (λ (s : MirrorState). map (leaf_hash h) (entries_in_mirror s))
        (option_map next (option_map (mirror_with v) p))
        ≡ option_map (λ (s : MirrorState). map (leaf_hash h) (entries_in_mirror (next s)))
        (option_map (mirror_with v) p)
    twice None = refl
    twice (Some list) = refl

pub leaves_same : (h : HashFunction) (v w : MirrorView) (tiles later : Option Text)
    (o new : Option (List Text)) → is_some later ≡ is_some tiles
    → option_map (mirror_with w) new ≡ option_map (mirror_with v) o
    → leaves_by h w later new ≡ leaves_by h v tiles o
leaves_same h v w None None o new both contents = refl
leaves_same h v w None (Some t) o new both contents = let wrong : true ≡ false = both in absurd cc
leaves_same h v w (Some t) None o new both contents = let wrong : false ≡ true = both in absurd cc
leaves_same h v w (Some t) (Some u) o new both contents =
    ap (option_map (λ (s : MirrorState). map (leaf_hash h) (entries_in_mirror s))) contents

-- the model knows the leaves if it knows the bytes
pub some_modelled : (f f' : Text → List (List ℕ)) (contents later : Option Text)
    → option_map f' later ≡ option_map f contents → is_some later ≡ is_some contents
some_modelled f f' None None same = refl
some_modelled f f' None (Some b) same = let wrong : Some (f' b) ≡ None = same in absurd cc
some_modelled f f' (Some b) None same = let wrong : None ≡ Some (f b) = same in absurd cc
some_modelled f f' (Some b) (Some c) same = refl

-- ---- one record more

module _ (h : HashFunction) (v : MirrorView) (places : List BatchPlace)
    (leaves : Option (List (List ℕ)))
    (old new : Option (List Text)) (body : Text) (seen : MirrorView → MirrorView)
    (make : MirrorState → MirrorState) (grown : new ≡ option_map (λ list. list ++ body ∷ []) old)
    (taken : IsMirroredAs h v body seen make) (kept : IfSome old (IsMirrored h v places leaves))
  where
    pub grown_modelled : option_map (mirror_with (seen v)) new
        ≡ option_map make (option_map (mirror_with v) old)
    grown_modelled = modelled_with v (seen v) body make old new grown
        (IfSome_then old kept (λ list is.
        shown_next h v (seen v) list body (make (mirror_with v list)) is.all taken.shows
        (taken.makes (mirror_with v list) (shown_view v list is.all))))

    pub grown_leaves : (tiles later : Option Text) → is_some later ≡ is_some tiles
        → leaves_by h (seen v) later new
        ≡ option_map (λ (s : MirrorState). map (leaf_hash h) (entries_in_mirror (make s)))
        (option_map (mirror_with v) (option_and_then (λ (t : Text). old) tiles))
    grown_leaves tiles later both =
        leaves_with h v (seen v) make tiles later old new both grown_modelled
