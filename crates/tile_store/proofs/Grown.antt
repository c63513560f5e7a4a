-- A store that is new, with more capacity, or with one leaf more.
use Rattle.std.proofs.Common.{◌≡◌, ℕ, ◌+◌, ◌-◌, ◌*◌, ◌/◌, ◌%◌, ◌^◌, ◌≤◌, List, [], ◌∷◌, ◌++◌}
use Rattle.std.proofs.Common.{length}
use Rattle.std.proofs.Common.{take, drop, Some, None, append_assoc, sym, ◌∙◌, ap, refl, subst}
use Rattle.std.proofs.Common.{arith}
use Rattle.std.specs.Prelude.{Option, option_map}
use Rattle.std.proofs.Math.Nat.{lt_of_not-le, mul-le-mul_right, pow-succ', zero-div}
use Rattle.std.proofs.lemmas.List.{drop-append-le, get_or_past, length-drop}
use Rattle.std.proofs.lemmas.List.{take-append-le}
use Rattle.byte_formats.proofs.Digits.{power_pos}
use Rattle.disk_core.specs.Disk.{part}
use Rattle.frame_pool.specs.Frames.{HoldsKey, PoolState, key_at}
use Rattle.frame_pool.specs.Sound.{IsSoundPool}
use Rattle.frame_pool.specs.declared.key.TileKey.{TileKey}
use Rattle.tile_store.specs.Contents.{HoldsTiles, IsTile, stored_leaves}
use Rattle.tile_store.specs.Frames.{HasNoPins}
use Rattle.tile_store.specs.Layout.{IsFull, tile_at}
use Rattle.tile_store.specs.Sound.{IsSoundOver, leaves_with}
use Rattle.tree_cache.proofs.Filled.{count-rows, first-is}
use Rattle.tree_cache.proofs.Grows.{rows-none, whole-none}
use Rattle.tree_cache.specs.Rows.{AreRowsOf, IsEmpty, RowsState, count_of, first_row, gone_at}
use Rattle.tree_cache.specs.Tiled.{gone_of}
use Rattle.tree_core.specs.Path.{part_of}
use Rattle.tree_core.specs.Tree.{root_of}

-- parts of a longer list
part-longer : (leaves more : List (List ℕ)) (low high : ℕ) → low ≤ high → high ≤ length leaves
    → part_of (leaves ++ more) low high ≡ part_of leaves low high
part-longer leaves more low high order within =
    let size = length-drop low leaves in
    ap (take (high - low)) (drop-append-le low leaves more (omega arith))
    ∙ take-append-le (high - low) (drop low leaves) more (omega arith)

-- a tile of a list is that of each longer one
pub tile-longer : (h : List ℕ → List ℕ) (leaves more : List (List ℕ)) (level place : ℕ)
    (tile : List ℕ) → IsFull (length leaves) level place → IsTile h leaves level place tile
    → IsTile h (leaves ++ more) level place tile
tile-longer h leaves more level place tile full is = record {
  size = is.size;
  hashes = λ i inside.
      let power : 256 ^ (level + 1) ≡ 256 * 256 ^ level =
      ap (λ n. 256 ^ n) (omega arith) ∙ pow-succ' 256 level in
      let whole = ap (λ p. (place + 1) * p) power in
      let up = mul-le-mul_right {m = 256 * place + i + 1} {n = 256 * place + 256} (256 ^ level)
      (omega arith) in
      let step = mul-le-mul_right {m = 256 * place + i} {n = 256 * place + i + 1} (256 ^ level)
      (omega arith) in
      is.hashes i inside
      ∙ ap (root_of h) (sym (part-longer leaves more ((256 * place + i) * 256 ^ level)
      ((256 * place + i + 1) * 256 ^ level) step (omega arith)));
}

gone-first : (h : List ℕ → List ℕ) (leaves : List (List ℕ)) (rows : RowsState)
    → AreRowsOf h leaves rows → gone_at rows 0 ≤ length leaves
unfolding gone_at
gone-first h leaves rows are = are.first.within

-- a leaf after the others
pub leaves-pushed : (h : List ℕ → List ℕ) (adopted : ℕ) (old new : RowsState) (b leaf : List ℕ)
    → ((leaves : List (List ℕ)) → AreRowsOf h leaves old
    → AreRowsOf h (leaves ++ leaf ∷ []) new)
    → ((level : ℕ) → gone_at new level ≡ gone_at old level)
    → AreRowsOf h (leaves_with adopted old b) old
    → leaves_with adopted new b ≡ leaves_with adopted old b ++ leaf ∷ []
leaves-pushed h adopted old new b leaf pushed gone stands =
    let leaves = leaves_with adopted old b in
    let first : first_row new ≡ first_row old ++ leaf ∷ [] =
    first-is h (leaves_with adopted old b ++ leaf ∷ []) new
    (pushed (leaves_with adopted old b) stands)
    ∙ ap (λ n. drop n (leaves_with adopted old b ++ leaf ∷ [])) (gone 0)
    ∙ drop-append-le (gone_at old 0) (leaves_with adopted old b) (leaf ∷ [])
    (gone-first h (leaves_with adopted old b) old stands)
    ∙ ap (λ l. l ++ leaf ∷ []) (sym (first-is h (leaves_with adopted old b) old stands)) in
    ap (λ f. stored_leaves adopted b ++ f) first
    ∙ sym (append_assoc (stored_leaves adopted b) (first_row old) (leaf ∷ []))

pub sound-pushed : (h : List ℕ → List ℕ) (adopted stored : ℕ) (old new : RowsState)
    (pool : PoolState) (b leaf : List ℕ)
    → ((leaves : List (List ℕ)) → AreRowsOf h leaves old
    → AreRowsOf h (leaves ++ leaf ∷ []) new)
    → ((level : ℕ) → gone_at new level ≡ gone_at old level)
    → stored ≤ count_of old → IsSoundOver h adopted stored old pool b
    → IsSoundOver h adopted stored new pool b
sound-pushed h adopted stored old new pool b leaf pushed gone within is =
    let same = leaves-pushed h adopted old new b leaf pushed gone is.stands in
    let count = count-rows h (leaves_with adopted old b) old is.stands in
    record {
      stands = subst (λ l. AreRowsOf h l new) (sym same)
          (pushed (leaves_with adopted old b) is.stands);
      tiles = λ level place full.
          subst (λ l. IsTile h l level place (part (tile_at level place) 8192 b)) (sym same)
          (tile-longer h (leaves_with adopted old b) (leaf ∷ []) level place
          (part (tile_at level place) 8192 b) (omega arith) (is.tiles level place full));
      frames = is.frames;
    }

-- more capacity, or nodes over more of the leaves
pub sound-still : (h : List ℕ → List ℕ) (adopted stored : ℕ) (old new : RowsState)
    (pool : PoolState) (b : List ℕ) → first_row new ≡ first_row old
    → ((leaves : List (List ℕ)) → AreRowsOf h leaves old → AreRowsOf h leaves new)
    → IsSoundOver h adopted stored old pool b → IsSoundOver h adopted stored new pool b
sound-still h adopted stored old new pool b first still is =
    let same : leaves_with adopted new b ≡ leaves_with adopted old b =
    ap (λ f. stored_leaves adopted b ++ f) first in
    record {
      stands = subst (λ l. AreRowsOf h l new) (sym same)
          (still (leaves_with adopted old b) is.stands);
      tiles = subst (λ l. HoldsTiles h l stored b) (sym same) is.tiles;
      frames = is.frames;
    }

-- what holds if the model knows the bytes of the device
pub contents-same : {B C : Type 0} (contents : Option (List ℕ)) (f : List ℕ → C) (k : B → C)
    (before : List ℕ → B) → ((b : List ℕ) → contents ≡ Some b → f b ≡ k (before b))
    → option_map f contents ≡ option_map k (option_map before contents)
contents-same None f k before same = refl
contents-same (Some b) f k before same = ap Some (same b refl)

-- a store that is new
pub gone-none : (rows : RowsState) (level : ℕ) → IsEmpty rows.first → rows.above ≡ []
    → gone_at rows level ≡ gone_of 0 level
gone-none rows level empty none =
    let zero : 0 / 256 ^ (level / 8 + 1) ≡ 0 = zero-div (256 ^ (level / 8 + 1)) in
    let nothing : 0 * 2 ^ (8 - level % 8) ≡ 0 = omega arith in
    whole-none rows empty none level ∙ sym (ap (λ q. q * 2 ^ (8 - level % 8)) zero ∙ nothing)

pub no-pins : (pool : PoolState) → IsSoundPool pool
    → ((slot : ℕ) (key : TileKey) → HoldsKey pool slot key → ⊥) → HasNoPins pool
no-pins pool sound unheld = λ slot. sound.empty slot (none slot (key_at pool slot) refl)
  where
    none : (slot : ℕ) (key : Option TileKey) → key_at pool slot ≡ key → key_at pool slot ≡ None
    none slot None is = is
    none slot (Some key) is =
        absurd (unheld slot key (record {
          there = lt_of_not-le (λ outside.
              let past : key_at pool slot ≡ None = get_or_past pool.keys slot None outside in
              cc);
          held = is;
        }))

pub sound-new : (h : List ℕ → List ℕ) (rows : RowsState) (pool : PoolState) (b : List ℕ)
    → IsEmpty rows.first → rows.above ≡ []
    → ((slot : ℕ) (key : TileKey) → HoldsKey pool slot key → ⊥)
    → IsSoundOver h 0 0 rows pool b
unfolding stored_leaves
sound-new h rows pool b empty none unheld = record {
  stands = subst (λ l. AreRowsOf h l rows) (sym empty.kept) (rows-none h rows empty none);
  tiles = λ level place full.
      let positive = power_pos 256 (level + 1) (omega arith) in
      let no : ⊥ = omega arith in
      absurd no;
  frames = λ slot key holds. absurd (unheld slot key holds);
}

pub leaves-none : (rows : RowsState) (b : List ℕ) → IsEmpty rows.first
    → leaves_with 0 rows b ≡ []
unfolding stored_leaves
leaves-none rows b empty = empty.kept
