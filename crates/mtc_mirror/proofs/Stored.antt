-- Items more leave it so that the tiles go with the records.
use Rattle.std.proofs.Common.{◌≡◌, ◌≤◌, ℕ, List, [], ◌∷◌, ◌++◌, length, Ok, ap, subst, sym, ◌∙◌}
use Rattle.std.specs.Prelude.{map}
use Rattle.std.proofs.lemmas.List.{length-map, map-append}
use Rattle.byte_formats.specs.Types.{HashFunction, Text}
use Rattle.byte_formats.proofs.Steps.{ok_is}
use Rattle.tile_store.specs.Contents.{HoldsTiles}
use Rattle.tile_store.proofs.Grown.{tile-longer}
use Rattle.tile_store.proofs.Numbers.{full-more}
use Rattle.tree_core.specs.Tree.{leaf_hash}
use Rattle.mirror_core.specs.Folds.{MirrorState, entries_in_mirror, mirror_of, with_mirrored}
use Rattle.mtc_mirror.specs.StoredTiles.{HasMirrorTilesOf}

module _ (h : HashFunction) (s : MirrorState) (within : s.tiled ≤ length s.items) (t : Text) where
  abbrev Holds : MirrorState → Type 0
  Holds u = HoldsTiles h (map (leaf_hash h) (entries_in_mirror u)) u.tiled t

  -- the tiles of more items
  longer : (new : List (Text × Text)) → Holds s → Holds (with_mirrored new s)
  longer new holds =
      let more = map (λ item. item.0) new in
      let leaves = map (leaf_hash h) (entries_in_mirror s) in
      let few : s.tiled ≤ length leaves =
      subst (λ (n : ℕ). s.tiled ≤ n) (sym (length-map (entries_in_mirror s) (leaf_hash h)
      ∙ length-map s.items (λ item. item.0))) within in
      subst (λ l. HoldsTiles h l s.tiled t)
      (sym (ap (map (leaf_hash h)) (map-append (λ item. item.0) s.items new)
      ∙ map-append (leaf_hash h) (entries_in_mirror s) more))
      (λ level place full. tile-longer h leaves (map (leaf_hash h) more) level place _
      (full-more s.tiled (length leaves) level place few full) (holds level place full))

  -- they go with a record of the items too
  pub mirrored_goes : (list : List Text) (body : Text) (new : List (Text × Text))
      → mirror_of h list ≡ Ok s → mirror_of h (list ++ body ∷ []) ≡ Ok (with_mirrored new s)
      → HasMirrorTilesOf h list t → HasMirrorTilesOf h (list ++ body ∷ []) t
  mirrored_goes list body new made next goes u is =
      subst Holds (ok_is ℕ (with_mirrored new s) u (sym next ∙ is)) (longer new (goes s made))
