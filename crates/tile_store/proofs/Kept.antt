-- A store whose file was written after its tiles.
use Rattle.std.proofs.Common.{◌≡◌, ℕ, zero, suc, ◌+◌, ◌*◌, ◌/◌, ◌%◌, ◌^◌, ◌<◌, ◌≤◌, min, max, List}
use Rattle.std.proofs.Common.{[], ◌∷◌}
use Rattle.std.proofs.Common.{◌++◌, length, take, drop, Some, None, Ok, Err, ⊎_elim, refl, sym, ◌∙◌}
use Rattle.std.proofs.Common.{ap, subst, arith}
use Rattle.std.specs.Prelude.{IfSome, OnOk, Option, Result, is_some, option_map}
use Rattle.std.proofs.lemmas.Bool.{cases_lt}
use Rattle.std.proofs.lemmas.List.{length-drop, length-take, take_min}
use Rattle.disk_core.specs.Disk.{part}
use Rattle.frame_pool.specs.Frames.{HoldsKey, PoolState}
use Rattle.frame_pool.specs.declared.key.TileKey.{TileKey}
use Rattle.tile_store.proofs.Bytes.{part-prefix}
use Rattle.tile_store.proofs.Numbers.{full-low, full-more, full-number, full-there, number-full}
use Rattle.tile_store.specs.Contents.{HoldsTiles, IsTile, stored_leaves}
use Rattle.tile_store.specs.Layout.{IsFull, tile_at, tiles_end, tiles_in}
use Rattle.tile_store.specs.Sound.{IsSoundOver, leaves_with}
use Rattle.tile_store.specs.Writing.{HoldsFirst, KeepsPrefix}
use Rattle.tree_cache.specs.Rows.{AreRowsOf, RowsState, first_row}

-- a prefix that is all of the bytes stays
pub whole-prefix : (place : ℕ) (old new : List ℕ) → place ≤ length old → KeepsPrefix place old new
    → take place new ≡ take place old
whole-prefix place old new within keeps =
    let all : min place (length old) ≡ place = omega arith in
    ap (λ n. take n new) (sym all) ∙ keeps.prefix

-- leaves whose tiles lie in the same prefix
leaves-prefix : (n prefix : ℕ) (a b : List ℕ)
    → ((k : ℕ) → k < n → tile_at 0 (k / 256) + 8192 ≤ prefix) → take prefix a ≡ take prefix b
    → stored_leaves n a ≡ stored_leaves n b
unfolding stored_leaves
leaves-prefix zero prefix a b within same = refl
leaves-prefix (suc n) prefix a b within same =
    let here = within n (omega arith) in
    ap (λ l. l ++ part (tile_at 0 (n / 256) + 32 * (n % 256)) 32 a ∷ [])
    (leaves-prefix n prefix a b (λ k below. within k (omega arith)) same)
    ∙ ap (λ x. stored_leaves n b ++ x ∷ [])
    (part-prefix (tile_at 0 (n / 256) + 32 * (n % 256)) 32 prefix a b (omega arith) same)

-- the tiles of the adopted leaves
leaf-tile : (adopted stored k : ℕ) → adopted % 256 ≡ 0 → adopted ≤ stored → k < adopted
    → tile_at 0 (k / 256) + 8192 ≤ tiles_end stored
leaf-tile adopted stored k whole within below =
    let number = full-number stored 0 (k / 256) (omega arith) (omega arith) in
    omega arith

pub leaves-following : (adopted stored : ℕ) (rows : RowsState) (b after : List ℕ)
    → adopted % 256 ≡ 0 → adopted ≤ stored → tiles_end stored ≤ length b
    → KeepsPrefix (tiles_end stored) b after
    → leaves_with adopted rows after ≡ leaves_with adopted rows b
leaves-following adopted stored rows b after whole within there keeps =
    ap (λ l. l ++ first_row rows)
    (leaves-prefix adopted (tiles_end stored) after b
    (λ k below. leaf-tile adopted stored k whole within below)
    (whole-prefix (tiles_end stored) b after there keeps))

tile-following : (stored : ℕ) (b after : List ℕ) (level place : ℕ) → stored < 2 ^ 32
    → tiles_end stored ≤ length b → KeepsPrefix (tiles_end stored) b after
    → IsFull stored level place
    → part (tile_at level place) 8192 b ≡ part (tile_at level place) 8192 after
tile-following stored b after level place few there keeps full =
    part-prefix (tile_at level place) 8192 (tiles_end stored) b after
    (full-there stored stored (tiles_end stored) level place few (omega arith) (omega arith) full)
    (sym (whole-prefix (tiles_end stored) b after there keeps))

-- The tiles of a size stay if the prefix up to their end does.
pub tiles-kept : (h : List ℕ → List ℕ) (leaves : List (List ℕ)) (size : ℕ) (b after : List ℕ)
    → size < 2 ^ 32 → KeepsPrefix (tiles_end size) b after → HoldsTiles h leaves size b
    → HoldsTiles h leaves size after
tiles-kept h leaves size b after few keeps holds level place full =
    let tile = holds level place full in
    let begin = tile_at level place in
    let within = full-there size size (tiles_end size) level place few (omega arith) (omega arith)
    full in
    let cut = length-take 8192 (drop begin b) in
    let rest = length-drop begin b in
    let whole = tile.size in
    let there : begin + 8192 ≤ length b = grind (arith, cut, rest, whole) in
    subst (λ (x : List ℕ). IsTile h leaves level place x)
    (part-prefix begin 8192 (min (tiles_end size) (length b)) b after (omega arith)
    (take_min (tiles_end size) b ∙ sym keeps.prefix)) tile

pub sound-following : (h : List ℕ → List ℕ) (adopted stored : ℕ) (rows : RowsState)
    (pool : PoolState) (b after : List ℕ) → adopted % 256 ≡ 0 → adopted ≤ stored
    → stored < 2 ^ 32 → tiles_end stored ≤ length b → KeepsPrefix (tiles_end stored) b after
    → ((slot : ℕ) (key : TileKey) → HoldsKey pool slot key → IsFull adopted key.level key.place)
    → IsSoundOver h adopted stored rows pool b → IsSoundOver h adopted stored rows pool after
sound-following h adopted stored rows pool b after whole within few there keeps keys is =
    let same = leaves-following adopted stored rows b after whole within there keeps in
    record {
      stands = subst (λ l. AreRowsOf h l rows) (sym same) is.stands;
      tiles = λ level place full.
          subst (λ l. IsTile h l level place (part (tile_at level place) 8192 after)) (sym same)
          (subst (IsTile h (leaves_with adopted rows b) level place)
          (tile-following stored b after level place few there keeps full)
          (is.tiles level place full));
      frames = λ slot key holds.
          is.frames slot key holds
          ∙ tile-following stored b after key.level key.place few there keeps
          (full-more adopted stored key.level key.place within (keys slot key holds));
    }

-- the first tiles of the stored ones, and the stored ones out of the first
pub first-of : (h : List ℕ → List ℕ) (leaves : List (List ℕ)) (stored : ℕ) (b : List ℕ)
    → HoldsTiles h leaves stored b → HoldsFirst h leaves (tiles_in stored) b
first-of h leaves stored b tiles = λ level place low below full.
    tiles level place (number-full stored level place low below)

pub tiles-of : (h : List ℕ → List ℕ) (leaves : List (List ℕ)) (size : ℕ) (b : List ℕ)
    → size < 2 ^ 32 → size ≤ length leaves → HoldsFirst h leaves (tiles_in size) b
    → HoldsTiles h leaves size b
tiles-of h leaves size b few within first = λ level place full.
    let low = full-low size level place few full in
    first level place (omega arith) (full-number size level place (omega arith) full)
    (full-more size (length leaves) level place within full)

-- the model knows the bytes if it knew some before
pub contents-before : (old new : Option (List ℕ)) (after : List ℕ) → is_some new ≡ is_some old
    → new ≡ Some after → (b : List ℕ) × (old ≡ Some b)
contents-before None new after same is = let no : ⊥ = cc (ap is_some is) in absurd no
contents-before (Some b) new after same is = (b, refl)

pub contents-both : {B : Type 0} (old new : Option (List ℕ)) (f : List ℕ → B)
    → is_some new ≡ is_some old
    → ((b after : List ℕ) → old ≡ Some b → new ≡ Some after → f after ≡ f b)
    → option_map f new ≡ option_map f old
contents-both None None f same each = refl
contents-both None (Some after) f same each = let no : ⊥ = cc in absurd no
contents-both (Some b) None f same each = let no : ⊥ = cc in absurd no
contents-both (Some b) (Some after) f same each = ap Some (each b after refl refl)

-- what is said of an Ok
pub on-ok : {A E : Type 0} {P : Type 0} (r : Result A E) → P → OnOk r P
on-ok (Ok x) p = p
on-ok (Err e) p = tt

pub on-ok-from : {A E : Type 0} {P Q R : Type 0} (r : Result A E) → OnOk r P → OnOk r Q
    → (P → Q → R) → OnOk r R
on-ok-from (Ok x) p q from = from p q
on-ok-from (Err e) p q from = tt

-- more tiles are stored
pub sound-stored : (h : List ℕ → List ℕ) (adopted stored size most : ℕ) (rows : RowsState)
    (pool : PoolState) (b : List ℕ) → most ≡ max stored size
    → HoldsTiles h (leaves_with adopted rows b) size b → IsSoundOver h adopted stored rows pool b
    → IsSoundOver h adopted most rows pool b
sound-stored h adopted stored size most rows pool b is new old = record {
  stands = old.stands;
  tiles = λ level place full.
      ⊎_elim
      (λ (more : stored < size).
      new level place (full-more most size level place (omega arith) full))
      (λ (less : size ≤ stored).
      old.tiles level place (full-more most stored level place (omega arith) full))
      (cases_lt stored size);
  frames = old.frames;
}

-- what holds of the leaves if the model knows the bytes
pub when-these : {B : Type 0} (contents : Option (List ℕ)) (f : List ℕ → B) (P : B → Type 0)
    (b : List ℕ) → contents ≡ Some b → IfSome (option_map f contents) P → P (f b)
when-these contents f P b is holds = subst (λ t. IfSome (option_map f t) P) is holds
