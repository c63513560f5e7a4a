-- Frames once a tile was read into one of them.
use Rattle.std.proofs.Common.{◌≡◌, ℕ, ◌<◌, List, [], length, get_or, set, Some, None, ⊎_elim}
use Rattle.std.proofs.Common.{sym, ◌∙◌, ap}
use Rattle.std.proofs.Common.{subst, arith, get_or-set_other, get_or-set_same}
use Rattle.std.specs.Prelude.{IfSome, Option}
use Rattle.std.proofs.Math.ListN.{length-set}
use Rattle.std.proofs.Math.Nat.{lt_of_not-le}
use Rattle.std.proofs.lemmas.Bool.{cases_eq}
use Rattle.std.proofs.lemmas.List.{get_or_past}
use Rattle.disk_core.specs.Disk.{part}
use Rattle.frame_pool.specs.Frames.{HoldsKey, PoolState, claimed, frame_at, released}
use Rattle.frame_pool.specs.Borrowing.{with_frame}
use Rattle.frame_pool.specs.declared.key.TileKey.{TileKey}
use Rattle.tile_store.specs.Frames.{FramesHold}
use Rattle.tile_store.specs.Layout.{tile_at}

-- a frame with bytes is one of the pool
pub frame-there : (pool : PoolState) (slot : ℕ) (bytes : List ℕ) → bytes ≡ frame_at pool slot
    → length bytes ≡ 8192 → slot < length pool.frames
frame-there pool slot bytes is size =
    lt_of_not-le (λ outside.
    let none : length bytes ≡ 0 = ap length (is ∙ get_or_past pool.frames slot [] outside) in
    omega arith)

frame-claimed : (b : List ℕ) (pool : PoolState) (slot : ℕ) (key : TileKey) (bytes : List ℕ)
    → slot < length pool.frames → bytes ≡ part (tile_at key.level key.place) 8192 b
    → slot < length pool.keys → FramesHold b pool
    → FramesHold b (with_frame (claimed pool slot key) slot bytes)
frame-claimed b pool slot key bytes framed read inside old = λ s k holds.
    ⊎_elim
    (λ (here : s ≡ slot).
    let mine : Some k ≡ Some key =
    sym holds.held ∙ ap (λ i. get_or (set pool.keys slot (Some key)) i None) here
    ∙ get_or-set_same pool.keys slot (Some key) None inside in
    let same : k ≡ key = cc in
    ap (λ i. get_or (set pool.frames slot bytes) i []) here
    ∙ get_or-set_same pool.frames slot bytes [] framed ∙ read
    ∙ ap (λ t. part (tile_at t.level t.place) 8192 b) (sym same))
    (λ (other : s ≡ slot → ⊥).
    let keys = length-set pool.keys slot (Some key) in
    let there = holds.there in
    let before : HoldsKey pool s k = record {
      there = omega arith;
      held = sym (get_or-set_other pool.keys slot s (Some key) None other) ∙ holds.held;
    } in
    get_or-set_other pool.frames slot s bytes [] other ∙ old s k before)
    (cases_eq s slot)

pub frames-loaded : (b : List ℕ) (pool mid : PoolState) (slot : ℕ) (key : TileKey)
    (bytes : List ℕ) → mid ≡ claimed pool slot key → slot < length mid.frames
    → bytes ≡ part (tile_at key.level key.place) 8192 b → slot < length pool.keys
    → FramesHold b pool → FramesHold b (with_frame mid slot bytes)
frames-loaded b pool mid slot key bytes is framed read inside old =
    let there : slot < length pool.frames = subst (λ p. slot < length p.frames) is framed in
    subst (λ p. FramesHold b (with_frame p slot bytes)) (sym is)
    (frame-claimed b pool slot key bytes there read inside old)

-- what was read of a device whose bytes the model knows
pub read-tile : (contents : Option (List ℕ)) (b out : List ℕ) (place size at : ℕ)
    → contents ≡ Some b
    → IfSome contents (λ bytes. out ≡ part place size bytes) → place ≡ at → size ≡ 8192
    → out ≡ part at 8192 b
read-tile contents b out place size at is read here whole =
    subst (λ t. IfSome t (λ bytes. out ≡ part place size bytes)) is read
    ∙ ap (λ p. part p size b) here ∙ ap (λ n. part at n b) whole

-- a frame that was made empty
pub holds-released : (pool : PoolState) (slot : ℕ) (s : ℕ) (key : TileKey)
    → slot < length pool.keys → HoldsKey (released pool slot) s key
    → (s ≡ slot → ⊥) × HoldsKey pool s key
holds-released pool slot s key inside holds =
    let other : s ≡ slot → ⊥ = λ here.
    let none : get_or (set pool.keys slot None) s None ≡ None =
    ap (λ i. get_or (set pool.keys slot None) i None) here
    ∙ get_or-set_same pool.keys slot None None inside in
    let held = holds.held in
    cc in
    let keys = length-set pool.keys slot None in
    let there = holds.there in (
      other,
      record {
        there = omega arith;
        held = sym (get_or-set_other pool.keys slot s None None other) ∙ holds.held;
      },
    )
