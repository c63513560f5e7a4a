-- A record more of a journal that is read, as its items are held.
use Rattle.std.proofs.Common.{◌≡◌, ℕ, ◌+◌, List, [], ◌∷◌, ◌++◌, length, Option, Some}
use Rattle.std.proofs.Common.{None, IfSome, option_map, refl, ap, sym, subst, ◌∙◌, arith}
use Rattle.std.proofs.lemmas.List.{append-nil, length-append}
use Rattle.byte_formats.specs.Types.{Hash, HashFunction, Text}
use Rattle.journal_core.specs.Format.{following}
use Rattle.tree_core.specs.Tree.{leaf_hash}
use Rattle.tiled_items.specs.Blocks.{all_items, begun_at, block_places, block_places_after}
use Rattle.tiled_items.specs.Held.{ItemsAreHeld, leaves_of_items}
use Rattle.tiled_items.specs.declared.held.ItemPlace.{ItemPlace}
use Rattle.tiled_items.proofs.Blocks.{all_more, places_next}

-- the hashes that are retained are these, with more of them too
hashed_with : (leaves leaves' : Option (List Hash)) (old new more : List Hash)
    → IfSome leaves (λ l. l ≡ old) → leaves' ≡ option_map (λ l. l ++ more) leaves
    → new ≡ old ++ more → IfSome leaves' (λ l. l ≡ new)
hashed_with None leaves' old new more was are is =
    subst (λ o. IfSome o (λ l. l ≡ new)) (sym are) tt
hashed_with (Some l) leaves' old new more was are is =
    subst (λ o. IfSome o (λ l. l ≡ new)) (sym are) (ap (λ x. x ++ more) was ∙ sym is)

leaves_more : (h : HashFunction) (xs ys : List (Text × Text))
    → leaves_of_items h (xs ++ ys) ≡ leaves_of_items h xs ++ leaves_of_items h ys
leaves_more h [] ys = refl
leaves_more h (x ∷ xs) ys = ap (λ l. leaf_hash h x.0 ∷ l) (leaves_more h xs ys)

module _ (begin : List (Text × Text)) (added : Text → List (Text × Text)) (h : HashFunction) where
  -- One record more is held.
  pub held_more : (size size' : ℕ) (places places' : List ItemPlace)
      (leaves leaves' : Option (List Hash)) (list : List Text) (body : Text)
      → ItemsAreHeld begin added h size places leaves list
      → size' ≡ size + length (added body)
      → places' ≡ places ++ begun_at (following 16 list) size (length (added body))
      → leaves' ≡ option_map (λ l. l ++ leaves_of_items h (added body)) leaves
      → ItemsAreHeld begin added h size' places' leaves' (list ++ body ∷ [])
  held_more size size' places places' leaves leaves' list body is sum places_are leaves_are =
      let more = all_more begin added list body is.some in
      let longer = ap length more ∙ length-append (all_items begin added list) (added body) in
      record {
        some = let long = length-append list (body ∷ []) in omega (arith, long);
        all = let was = is.all in omega (arith, sum, longer, was);
        places_are = places_are
            ∙ ap (λ (l : List ItemPlace). l
            ++ begun_at (following 16 list) size (length (added body))) is.places_are
            ∙ ap (λ (n : ℕ). block_places begin added list
            ++ begun_at (following 16 list) n (length (added body))) is.all
            ∙ sym (places_next begin added list body is.some);
        hashed = hashed_with leaves leaves' (leaves_of_items h (all_items begin added list))
            (leaves_of_items h (all_items begin added (list ++ body ∷ [])))
            (leaves_of_items h (added body)) is.hashed leaves_are
            (ap (leaves_of_items h) more ∙ leaves_more h (all_items begin added list) (added body));
      }

  -- So is the first one.
  pub held_first : (size : ℕ) (places places' : List ItemPlace)
      (leaves leaves' : Option (List Hash)) (body : Text) → size ≡ length begin → places ≡ []
      → IfSome leaves (λ l. l ≡ []) → places' ≡ places ++ begun_at 16 0 (length begin)
      → leaves' ≡ option_map (λ l. l ++ leaves_of_items h begin) leaves
      → ItemsAreHeld begin added h size places' leaves' (body ∷ [])
  unfolding block_places_after
  held_first size places places' leaves leaves' body sum none no_leaves places_are leaves_are =
      let alone : all_items begin added (body ∷ []) ≡ begin = append-nil begin in
      record {
        some = omega arith;
        all = sum ∙ ap length (sym alone);
        places_are = places_are
            ∙ ap (λ (l : List ItemPlace). l ++ begun_at 16 0 (length begin)) none
            ∙ sym (append-nil (begun_at 16 0 (length begin)));
        hashed = hashed_with leaves leaves' []
            (leaves_of_items h (all_items begin added (body ∷ []))) (leaves_of_items h begin)
            no_leaves leaves_are (ap (leaves_of_items h) alone);
      }
