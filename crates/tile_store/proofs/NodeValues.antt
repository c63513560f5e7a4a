-- A node out of its tile.
use Rattle.std.proofs.Common.{◌≡◌, ℕ, ◌+◌, ◌-◌, ◌*◌, ◌/◌, ◌%◌, ◌^◌, ◌<◌, ◌≤◌, List}
use Rattle.std.proofs.Common.{length}
use Rattle.std.proofs.Common.{Some, None, sym, ◌∙◌, ap, refl, subst, arith}
use Rattle.std.specs.Prelude.{IfSome, Option, option_map}
use Rattle.std.proofs.Math.Nat.{mul-le-mul_right}
use Rattle.std.proofs.lemmas.Nat.{pow-add, pow_pos}
use Rattle.disk_core.specs.Disk.{part}
use Rattle.frame_pool.specs.Frames.{HoldsKey, PoolState, frame_at}
use Rattle.frame_pool.specs.declared.key.TileKey.{TileKey}
use Rattle.tile_store.specs.Contents.{IsTile}
use Rattle.tile_store.specs.Inside.{IsNodeIn}
use Rattle.tile_store.specs.Layout.{IsFull, tile_at}
use Rattle.tile_store.specs.Sound.{IsSoundOver, leaves_with}
use Rattle.tree_cache.proofs.Forgets.{bytes-of}
use Rattle.tree_cache.specs.Rows.{RowsState}
use Rattle.tree_core.specs.Path.{part_of}
use Rattle.tree_core.specs.Tree.{root_of}

-- the nodes of a level in a tile, times the hashes below each, are its 256 hashes
pub tile-width : (level : ℕ) → 2 ^ (8 - level % 8) * 2 ^ (level % 8) ≡ 256
tile-width level =
    let sum : 8 - level % 8 + level % 8 ≡ 8 = omega arith in
    sym (pow-add 2 (8 - level % 8) (level % 8)) ∙ ap (λ n. 2 ^ n) sum

pub below-within : (level place : ℕ)
    → place % 2 ^ (8 - level % 8) * 2 ^ (level % 8) + 2 ^ (level % 8) ≤ 256
below-within level place =
    let positive = pow_pos (8 - level % 8) in
    let below : place % 2 ^ (8 - level % 8) < 2 ^ (8 - level % 8) = omega arith in
    let up = mul-le-mul_right {m = place % 2 ^ (8 - level % 8) + 1} {n = 2 ^ (8 - level % 8)}
    (2 ^ (level % 8)) (omega arith) in
    let width = tile-width level in
    omega arith

-- where the hashes below a node lie in its tile
place-in : (level place i : ℕ)
    → 256 * (place / 2 ^ (8 - level % 8))
    + (place % 2 ^ (8 - level % 8) * 2 ^ (level % 8) + i)
    ≡ place * 2 ^ (level % 8) + i
place-in level place i =
    let positive = pow_pos (8 - level % 8) in
    let parts : 2 ^ (8 - level % 8) * (place / 2 ^ (8 - level % 8)) + place % 2 ^ (8 - level % 8)
    ≡ place = omega arith in
    let wide = ap (λ p. p * 2 ^ (level % 8)) parts in
    let width = ap (λ w. place / 2 ^ (8 - level % 8) * w) (tile-width level) in
    omega arith

level-parts : (level : ℕ) → 2 ^ level ≡ 2 ^ (level % 8) * 2 ^ (8 * (level / 8))
level-parts level =
    let sum : level ≡ level % 8 + 8 * (level / 8) = omega arith in
    ap (λ n. 2 ^ n) sum ∙ pow-add 2 (level % 8) (8 * (level / 8))

pub tile-node : (h : List ℕ → List ℕ) (leaves : List (List ℕ)) (level place : ℕ)
    (tile node : List ℕ)
    → IsTile h leaves (level / 8) (place / 2 ^ (8 - level % 8)) tile
    → IsNodeIn h tile (place % 2 ^ (8 - level % 8) * 2 ^ (level % 8)) (2 ^ (level % 8)) node
    → (place + 1) * 2 ^ level ≤ length leaves
    → node ≡ root_of h (part_of leaves (place * 2 ^ level) ((place + 1) * 2 ^ level))
tile-node h leaves level place tile node is over within =
    let width = 2 ^ (level % 8) in
    let base = 8 * (level / 8) in
    let parts = level-parts level in
    let start : place * 2 ^ (level % 8) * 2 ^ (8 * (level / 8)) ≡ place * 2 ^ level =
    let up = ap (λ p. place * p) parts in omega arith in
    let end : (place * 2 ^ (level % 8) + 2 ^ (level % 8)) * 2 ^ (8 * (level / 8))
    ≡ (place + 1) * 2 ^ level =
    let up = ap (λ p. (place + 1) * p) parts in omega arith in
    over leaves base (place * width)
    (λ i inside.
    let most = below-within level place in
    is.hashes (place % 2 ^ (8 - level % 8) * 2 ^ (level % 8) + i) (omega arith)
    ∙ ap (λ n. root_of h (part_of leaves (n * 256 ^ (level / 8)) ((n + 1) * 256 ^ (level / 8))))
    (place-in level place i)
    ∙ ap (λ p. root_of h (part_of leaves ((place * 2 ^ (level % 8) + i) * p)
    ((place * 2 ^ (level % 8) + i + 1) * p))) (sym (bytes-of (level / 8))))
    (omega arith)
    ∙ ap (λ a. root_of h (part_of leaves a
    ((place * 2 ^ (level % 8) + 2 ^ (level % 8)) * 2 ^ (8 * (level / 8))))) start
    ∙ ap (λ b. root_of h (part_of leaves (place * 2 ^ level) b)) end

-- the frame of a tile has it
pub frame-tile : (h : List ℕ → List ℕ) (adopted stored : ℕ) (rows : RowsState) (pool : PoolState)
    (b : List ℕ) (key : TileKey) (slot level place : ℕ) (frame : List ℕ)
    (leaves : List (List ℕ)) → IsSoundOver h adopted stored rows pool b → HoldsKey pool slot key
    → key.level ≡ level → key.place ≡ place → frame ≡ frame_at pool slot
    → IsFull stored level place → leaves_with adopted rows b ≡ leaves
    → IsTile h leaves level place frame
frame-tile h adopted stored rows pool b key slot level place frame leaves sound holds at here is
    full same =
    let bytes : frame ≡ part (tile_at level place) 8192 b =
    is ∙ sound.frames slot key holds ∙ ap (λ l. part (tile_at l key.place) 8192 b) at
    ∙ ap (λ p. part (tile_at level p) 8192 b) here in
    subst (IsTile h leaves level place) (sym bytes)
    (subst (λ l. IsTile h l level place (part (tile_at level place) 8192 b)) same
    (sound.tiles level place full))

-- what holds if the model knows the bytes of the device
pub when-contents : {B : Type 0} (contents : Option (List ℕ)) (f : List ℕ → B) (P : B → Type 0)
    → ((b : List ℕ) → contents ≡ Some b → P (f b)) → IfSome (option_map f contents) P
when-contents None f P holds = tt
when-contents (Some b) f P holds = holds b refl
