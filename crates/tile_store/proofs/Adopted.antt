-- Tiles that were found in the file, and nodes that are dropped for them.
use Rattle.std.proofs.Common.{◌≡◌, ℕ, zero, suc, ◌+◌, ◌-◌, ◌*◌, ◌/◌, ◌%◌, ◌^◌, ◌<◌, ◌≤◌}
use Rattle.std.proofs.Common.{⊎_elim, max, List, [], ◌∷◌, ◌++◌, length, take, drop, get_or, Some}
use Rattle.std.proofs.Common.{None}
use Rattle.std.proofs.Common.{Ok, Err, refl, sym, ◌∙◌, ap, subst, arith}
use Rattle.std.specs.Prelude.{IfErr, IfSome, OnOk, Option, Result, option_map}
use Rattle.std.proofs.Math.Nat.{div-mul-le_self, mul-le-mul_right}
use Rattle.std.proofs.Math.Seq.{take-suc}
use Rattle.std.proofs.lemmas.Bool.{cases_lt}
use Rattle.std.proofs.lemmas.List.{length-drop, length-take, take-append-drop}
use Rattle.std.proofs.lemmas.Nat.{le-div}
use Rattle.byte_formats.proofs.Digits.{power_pos}
use Rattle.disk_core.specs.Disk.{part}
use Rattle.disk_core.specs.declared.disk.Disk.{Ghosts}
use Rattle.frame_pool.specs.Frames.{PoolState}
use Rattle.tile_store.proofs.Bytes.{part-part}
use Rattle.tile_store.proofs.Kept.{sound-stored}
use Rattle.tile_store.proofs.Numbers.{full-low, full-more, full-number, number-full}
use Rattle.tile_store.specs.Causes.{BeginsWithin, HasCauseOf, IsFirstBad, IsNewTile, StandsIn}
use Rattle.tile_store.specs.Comparing.{BeginsBelow, HasTileReason, HaveMatched}
use Rattle.tile_store.specs.Contents.{HoldsTiles, IsTile, stored_leaves}
use Rattle.tile_store.specs.Frames.{FramesHold}
use Rattle.tile_store.specs.Layout.{tile_at, tile_number, tiles_in}
use Rattle.tile_store.specs.Sound.{IsSoundOver, leaves_with}
use Rattle.tile_store.specs.Store.{TilesStay, tiles_leaves}
use Rattle.tile_store.specs.declared.error.TileError.{TileError}
use Rattle.tile_store.specs.declared.error.TileError.TheVariants.{BadTile, Failed}
use Rattle.tile_store.specs.declared.store.Tiles.{Tiles}
use Rattle.tree_cache.proofs.Filled.{count-rows, first-is}
use Rattle.tree_cache.proofs.Fulls.{part-one}
use Rattle.tree_cache.specs.Rows.{AreRowsOf, RowsState, count_of, first_row, gone_at}
use Rattle.tree_cache.specs.Tiled.{gone_of}
use Rattle.tree_core.proofs.Roots.{root_of-one}
use Rattle.tree_core.specs.Path.{part_of}
use Rattle.tree_core.specs.Tree.{root_of}
use Rattle.tree_core.specs.declared.hashing.TreeHash.{Ghosts as Hashes}

-- a part that is whole lies within its bytes
part-there : (place count : ℕ) (bytes : List ℕ) → length (part place count bytes) ≡ count
    → 0 < count → place + count ≤ length bytes
part-there place count bytes whole some =
    let dropped = length-drop place bytes in
    let taken = length-take count (drop place bytes) in
    omega arith

-- a tile of the numbers in between is new, and a new one is of these
pub between : (adopted size level place : ℕ) → size < 2 ^ 32 → IsNewTile adopted size level place
    → (level ≤ 2) × ((tiles_in adopted ≤ tile_number level place)
    × (tile_number level place < tiles_in size))
between adopted size level place few new =
    let low = full-low size level place few new.full in
    let below = full-number size level place (omega arith) new.full in (
      omega arith,
      (
        ⊎_elim
            (λ (before : tile_number level place < tiles_in adopted).
            absurd (new.other (number-full adopted level place (omega arith) before)))
            (λ (following : tiles_in adopted ≤ tile_number level place). following)
            (cases_lt (tile_number level place) (tiles_in adopted)),
        below,
      ),
    )

new-between : (adopted size level place : ℕ) → level ≤ 2
    → tiles_in adopted ≤ tile_number level place → tile_number level place < tiles_in size
    → IsNewTile adopted size level place
new-between adopted size level place low following below = record {
  full = number-full size level place low below;
  other = λ full. let before = full-number adopted level place low full in omega arith;
}

pub stands : (h : List ℕ → List ℕ) (leaves : List (List ℕ)) (b : List ℕ) (level place : ℕ)
    → IsTile h leaves level place (part (tile_at level place) 8192 b)
    → StandsIn h leaves b level place
stands h leaves b level place tile = record {
  there = part-there (tile_at level place) 8192 b tile.size (omega arith);
  tile = tile;
}

-- what holds of the bytes and of the leaves, if the model knows both
pub both-contents : {B : Type 0} (contents : Option (List ℕ)) (f : List ℕ → B)
    (Q : List ℕ → B → Type 0) → ((b : List ℕ) → contents ≡ Some b → Q b (f b))
    → IfSome contents (λ bytes. IfSome (option_map f contents) (λ leaves. Q bytes leaves))
both-contents None f Q holds = tt
both-contents (Some b) f Q holds = holds b refl

pub these-contents : {B : Type 0} (contents : Option (List ℕ)) (f : List ℕ → B)
    (Q : List ℕ → B → Type 0) (b : List ℕ) → contents ≡ Some b
    → IfSome contents (λ bytes. IfSome (option_map f contents) (λ leaves. Q bytes leaves))
    → Q b (f b)
these-contents contents f Q b is holds =
    subst (λ t. IfSome t (λ bytes. IfSome (option_map f t) (λ leaves. Q bytes leaves))) is holds

pub contents-each : {B : Type 0} (old new : Option (List ℕ)) (f k : List ℕ → B) → new ≡ old
    → ((b : List ℕ) → new ≡ Some b → k b ≡ f b) → option_map k new ≡ option_map f old
contents-each old None f k same each = ap (option_map f) same
contents-each old (Some b) f k same each = ap Some (each b refl) ∙ ap (option_map f) same

pub on-ok-map : {A E : Type 0} {P Q : Type 0} (r : Result A E) → OnOk r P → (P → Q) → OnOk r Q
on-ok-map (Ok x) p from = from p
on-ok-map (Err e) p from = tt

pub if-err-both : {A E : Type 0} (P Q R : E → Type 0) (r : Result A E) → IfErr r P → IfErr r Q
    → ((e : E) → P e → Q e → R e) → IfErr r R
if-err-both P Q R (Ok x) p q from = tt
if-err-both P Q R (Err e) p q from = from e p q

pub if-err-map : {A E : Type 0} (P Q : E → Type 0) (r : Result A E) → IfErr r P
    → ((e : E) → P e → Q e) → IfErr r Q
if-err-map P Q (Ok x) p from = tt
if-err-map P Q (Err e) p from = from e p

module _ {T : Type 0} (g : Ghosts T) where
  -- the new tiles stand in the file
  pub stand-in : (h : List ℕ → List ℕ) (rows : RowsState) (adopted size : ℕ) (disk : T)
      (pool : PoolState) (b : List ℕ) (leaves : List (List ℕ)) → size < 2 ^ 32
      → HaveMatched g h rows (tiles_in adopted) (tiles_in size) disk pool
      → g.contents disk ≡ Some b → FramesHold b pool → AreRowsOf h leaves rows
      → (level place : ℕ) → IsNewTile adopted size level place → StandsIn h leaves b level place
  stand-in h rows adopted size disk pool b leaves few matched contents frames are level place new =
      let is = between adopted size level place few new in
      stands h leaves b level place
      (matched b contents frames leaves are level place is.0 is.1.0 is.1.1)

-- why the tiles of a size are not adopted
pub cause-from : {H T : Type 0} {hashes : Hashes H} {g : Ghosts T}
    (old : Tiles H T hashes g) (rows : RowsState) (disk : T) (size : ℕ) (e : TileError)
    → size < 2 ^ 32
    → ((leaves : List (List ℕ)) → AreRowsOf hashes.hash leaves old.rows
    → AreRowsOf hashes.hash leaves rows)
    → HasTileReason g hashes.hash rows (tiles_in old.adopted) (tiles_in size) old.disk disk
    old.pool e
    → HasCauseOf old disk size e
cause-from old rows disk size Failed few still reason = reason
cause-from {hashes = hashes} {g = g} old rows disk size (BadTile level place) few still reason = (
  reason.0,
  both-contents (g.contents old.disk) (leaves_with old.adopted old.rows)
      (λ bytes leaves. IsFirstBad hashes.hash leaves bytes old.adopted size level place)
      (λ b contents.
      let is = reason.1 in
      let sound = old.contents b contents in
      let h = hashes.hash in
      let leaves = leaves_with old.adopted old.rows b in
      record {
        new = new-between old.adopted size level place is.low is.following is.below;
        bad = λ standing.
            ⊎_elim
            (λ (short : length b < tile_at level place + 8192).
            let there = standing.there in omega arith)
            (λ (other : IsTile h (leaves_with old.adopted old.rows b) level place
            (part (tile_at level place) 8192 b) → ⊥). other standing.tile)
            (is.other b contents sound.frames leaves (still leaves sound.stands));
        first = λ l p tile earlier.
            let at = between old.adopted size l p few tile in
            stands h leaves b l p
            (is.before b contents sound.frames leaves (still leaves sound.stands) l p at.0 at.1.0
            earlier);
      }),
)

-- a bad tile is one of the new ones
pub begins-within : {T : Type 0} (g : Ghosts T) (h : List ℕ → List ℕ) (rows : RowsState)
    (adopted size : ℕ) (old new : T) (pool : PoolState) (e : TileError)
    → HasTileReason g h rows (tiles_in adopted) (tiles_in size) old new pool e
    → BeginsBelow (g.known new) e → BeginsWithin adopted size (g.known new) e
begins-within g h rows adopted size old new pool Failed reason begins = tt
begins-within g h rows adopted size old new pool (BadTile level place) reason begins =
    let is = reason.1 in
    (new-between adopted size level place is.low is.following is.below, begins)

-- more nodes stand in the tiles of more leaves
pub gone-more : (less more level : ℕ) → less ≤ more → gone_of less level ≤ gone_of more level
gone-more less more level order =
    let width = 256 ^ (level / 8 + 1) in
    let positive = power_pos 256 (level / 8 + 1) (omega arith) in
    let most = div-mul-le_self less (256 ^ (level / 8 + 1)) in
    let up : less / 256 ^ (level / 8 + 1) ≤ more / 256 ^ (level / 8 + 1) =
    le-div (less / 256 ^ (level / 8 + 1)) more (256 ^ (level / 8 + 1)) positive (omega arith) in
    mul-le-mul_right {m = less / 256 ^ (level / 8 + 1)} {n = more / 256 ^ (level / 8 + 1)}
    (2 ^ (8 - level % 8)) up

-- the tiles of more leaves: those that were stored, and the new ones
pub tiles-adopted : (h : List ℕ → List ℕ) (leaves : List (List ℕ)) (adopted stored size : ℕ)
    (b : List ℕ) → adopted ≤ stored → HoldsTiles h leaves stored b
    → ((level place : ℕ) → IsNewTile adopted size level place → StandsIn h leaves b level place)
    → HoldsTiles h leaves size b
tiles-adopted h leaves adopted stored size b within tiles new = λ level place full.
    ⊎_elim
    (λ (other : adopted < (place + 1) * 256 ^ (level + 1)).
    let one = new level place (record { full = full; other = λ old. omega arith }) in
    one.tile)
    (λ (old : (place + 1) * 256 ^ (level + 1) ≤ adopted).
    tiles level place (full-more adopted stored level place within old))
    (cases_lt adopted ((place + 1) * 256 ^ (level + 1)))

-- the leaves in the tiles of level 0 are the first ones
leaf-stored : (h : List ℕ → List ℕ) (leaves : List (List ℕ)) (size : ℕ) (b : List ℕ) (n : ℕ)
    → HoldsTiles h leaves size b → size % 256 ≡ 0 → size ≤ length leaves → n < size
    → part (tile_at 0 (n / 256) + 32 * (n % 256)) 32 b ≡ get_or leaves n []
leaf-stored h leaves size b n tiles whole within below =
    let tile = tiles 0 (n / 256) (omega arith) in
    let start : (256 * (n / 256) + n % 256) * 256 ^ 0 ≡ n = omega arith in
    let end : (256 * (n / 256) + n % 256 + 1) * 256 ^ 0 ≡ n + 1 = omega arith in
    sym (part-part (tile_at 0 (n / 256)) 8192 (32 * (n % 256)) 32 b (omega arith))
    ∙ tile.hashes (n % 256) (omega arith)
    ∙ ap (λ a. root_of h (part_of leaves a
    ((256 * (n / 256) + n % 256 + 1) * 256 ^ 0))) start
    ∙ ap (λ e. root_of h (part_of leaves n e)) end
    ∙ ap (root_of h) (part-one leaves n (omega arith))
    ∙ root_of-one h (get_or leaves n [])

first-stored : (h : List ℕ → List ℕ) (leaves : List (List ℕ)) (size : ℕ) (b : List ℕ) (n : ℕ)
    → HoldsTiles h leaves size b → size % 256 ≡ 0 → size ≤ length leaves → n ≤ size
    → stored_leaves n b ≡ take n leaves
unfolding stored_leaves
first-stored h leaves size b zero tiles whole within upto = refl
first-stored h leaves size b (suc n) tiles whole within upto =
    ap (λ l. l ++ part (tile_at 0 (n / 256) + 32 * (n % 256)) 32 b ∷ [])
    (first-stored h leaves size b n tiles whole within (omega arith))
    ∙ ap (λ x. take n leaves ++ x ∷ [])
    (leaf-stored h leaves size b n tiles whole within (omega arith))
    ∙ sym (take-suc leaves n [] (omega arith))

-- so the list stays where the nodes of these tiles are dropped
pub list-stays : (h : List ℕ → List ℕ) (leaves : List (List ℕ)) (size : ℕ) (new : RowsState)
    (b : List ℕ) → HoldsTiles h leaves size b → size % 256 ≡ 0 → size ≤ length leaves
    → AreRowsOf h leaves new → gone_at new 0 ≡ gone_of size 0
    → leaves_with size new b ≡ leaves
list-stays h leaves size new b tiles whole within are gone =
    let all : gone_of size 0 ≡ size = omega arith in
    ap (λ l. l ++ first_row new) (first-stored h leaves size b size tiles whole within
    (omega arith))
    ∙ ap (λ f. take size leaves ++ f)
    (first-is h leaves new are ∙ ap (λ n. drop n leaves) (gone ∙ all))
    ∙ take-append-drop size leaves

pub sound-adopted : (h : List ℕ → List ℕ) (adopted stored size most : ℕ) (old new : RowsState)
    (pool : PoolState) (b : List ℕ) → size % 256 ≡ 0 → most ≡ max stored size
    → size ≤ count_of old
    → ((leaves : List (List ℕ)) → AreRowsOf h leaves old → AreRowsOf h leaves new)
    → gone_at new 0 ≡ gone_of size 0 → HoldsTiles h (leaves_with adopted old b) size b
    → IsSoundOver h adopted stored old pool b → IsSoundOver h size most new pool b
sound-adopted h adopted stored size most old new pool b whole is within same gone tiles sound =
    let leaves = leaves_with adopted old b in
    let count = count-rows h (leaves_with adopted old b) old sound.stands in
    let rows = same (leaves_with adopted old b) sound.stands in
    let list = list-stays h (leaves_with adopted old b) size new b tiles whole (omega arith) rows
    gone in
    let more = sound-stored h adopted stored size most old pool b is tiles sound in
    record {
      stands = subst (λ l. AreRowsOf h l new) (sym list) rows;
      tiles = subst (λ l. HoldsTiles h l most b) (sym list) more.tiles;
      frames = sound.frames;
    }

-- no tile is new where no more leaves are asked for
pub none-new : (adopted size level place : ℕ) → size ≤ adopted
    → IsNewTile adopted size level place → ⊥
none-new adopted size level place within new =
    new.other (full-more size adopted level place within new.full)

module _ {H T : Type 0} {hashes : Hashes H} {g : Ghosts T} where
  -- the list of a store that stays
  pub same-leaves : (old mid : Tiles H T hashes g) (b : List ℕ) → TilesStay old mid
      → leaves_with mid.adopted mid.rows b ≡ leaves_with old.adopted old.rows b
  same-leaves old mid b stays =
      ap (λ a. leaves_with a mid.rows b) stays.adopted
      ∙ ap (λ f. stored_leaves old.adopted b ++ f) stays.rows.first

  -- once the new tiles were found, those of the size are in the file
  pub found-tiles : (old mid : Tiles H T hashes g) (size : ℕ) (b : List ℕ) → TilesStay old mid
      → IfSome (g.contents old.disk) (λ bytes. IfSome (tiles_leaves old) (λ leaves.
      (level place : ℕ) → IsNewTile old.adopted size level place
      → StandsIn hashes.hash leaves bytes level place))
      → g.contents mid.disk ≡ Some b
      → HoldsTiles hashes.hash (leaves_with mid.adopted mid.rows b) size b
  found-tiles old mid size b stays found contents =
      let h = hashes.hash in
      let sound = mid.contents b contents in
      let new = these-contents (g.contents old.disk) (leaves_with old.adopted old.rows)
      (λ bytes leaves. (level place : ℕ) → IsNewTile old.adopted size level place
      → StandsIn hashes.hash leaves bytes level place)
      b (sym stays.only_reads.contents ∙ contents) found in
      tiles-adopted h (leaves_with mid.adopted mid.rows b) mid.adopted mid.stored size b
      mid.written sound.tiles
      (λ level place fresh.
      subst (λ l. StandsIn hashes.hash l b level place) (sym (same-leaves old mid b stays))
      (new level place
      (subst (λ a. IsNewTile a size level place) stays.adopted fresh)))
