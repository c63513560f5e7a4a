-- Tiles that were written again from a bad one on.
use Rattle.std.proofs.Common.{◌≡◌, Some, ℕ, ◌+◌, ◌*◌, ◌^◌, ◌<◌, ◌≤◌, List, ⊎_elim, sym, subst}
use Rattle.std.proofs.Common.{arith}
use Rattle.std.specs.Prelude.{IfSome}
use Rattle.std.proofs.lemmas.Bool.{cases_lt}
use Rattle.byte_formats.specs.Types.{Text}
use Rattle.disk_core.specs.Disk.{Only}
use Rattle.disk_core.specs.declared.disk.Disk.{Ghosts}
use Rattle.tile_store.proofs.Adopted.{between, stands, these-contents}
use Rattle.tile_store.proofs.NodeValues.{when-contents}
use Rattle.tile_store.proofs.Numbers.{full-low, full-more, number-full}
use Rattle.tile_store.specs.Causes.{IsFirstBad}
use Rattle.tile_store.specs.Contents.{HoldsTiles}
use Rattle.tile_store.specs.Layout.{tile_number, tiles_end, tiles_in}
use Rattle.tile_store.specs.Sound.{leaves_with}
use Rattle.tile_store.specs.Store.{tiles_leaves}
use Rattle.tile_store.specs.Writing.{HoldsFirst}
use Rattle.tile_store.specs.declared.store.Tiles.{Tiles}
use Rattle.tree_core.specs.declared.hashing.TreeHash.{Ghosts as Hashes}

-- tiles of fewer leaves end no later
pub ends-before : (size stored : ℕ) → size ≤ stored → tiles_end size ≤ tiles_end stored
ends-before size stored within = omega arith

-- the file has the tiles before the first bad one
before-bad : (h : List ℕ → List ℕ) (leaves : List (List ℕ)) (adopted stored size : ℕ)
    (b : List ℕ) (level place : ℕ) → size < 2 ^ 32 → adopted ≤ stored
    → HoldsTiles h leaves stored b → IsFirstBad h leaves b adopted size level place
    → HoldsFirst h leaves (tile_number level place) b
before-bad h leaves adopted stored size b level place few within tiles is = λ l p low below full.
    let at = between adopted size level place few is.new in
    ⊎_elim
    (λ (other : adopted < (p + 1) * 256 ^ (l + 1)).
    let one = is.first l p (record {
      full = number-full size l p low (omega (arith, at.1.1));
      other = λ old. omega arith;
    }) below in
    one.tile)
    (λ (old : (p + 1) * 256 ^ (l + 1) ≤ adopted).
    tiles l p (full-more adopted stored l p within old))
    (cases_lt adopted ((p + 1) * 256 ^ (l + 1)))

-- and the stored tiles come before it
stored-before : (h : List ℕ → List ℕ) (leaves : List (List ℕ)) (adopted stored size : ℕ)
    (b : List ℕ) (level place : ℕ) → size < 2 ^ 32 → HoldsTiles h leaves stored b
    → IsFirstBad h leaves b adopted size level place → tiles_in stored ≤ tile_number level place
stored-before h leaves adopted stored size b level place few tiles is =
    let low = full-low size level place few is.new.full in
    ⊎_elim
    (λ (before : tile_number level place < tiles_in stored).
    absurd (is.bad (stands h leaves b level place
    (tiles level place (number-full stored level place (omega arith) before)))))
    (λ (after : tiles_in stored ≤ tile_number level place). after)
    (cases_lt (tile_number level place) (tiles_in stored))

module _ {H T : Type 0} {hashes : Hashes H} {g : Ghosts T} (tiles : Tiles H T hashes g) where
  -- the first new tile that the file doesn't have comes after the stored ones
  pub bad-after : (size level place : ℕ) → size < 2 ^ 32
      → IfSome (g.contents tiles.disk) (λ bytes. IfSome (tiles_leaves tiles) (λ leaves.
      IsFirstBad hashes.hash leaves bytes tiles.adopted size level place))
      → (b : Text) → g.contents tiles.disk ≡ Some b
      → tiles_in tiles.stored ≤ tile_number level place
  bad-after size level place few bad b contents =
      let h = hashes.hash in
      stored-before h (leaves_with tiles.adopted tiles.rows b) tiles.adopted tiles.stored size b
      level place few (tiles.contents b contents).tiles
      (these-contents (g.contents tiles.disk) (leaves_with tiles.adopted tiles.rows)
      (λ bytes leaves. IsFirstBad h leaves bytes tiles.adopted size level place) b contents bad)

  -- once the tiles were written from it on, all are there
  pub all-rewritten : (new : T) (size number level place : ℕ) → size < 2 ^ 32
      → number ≡ tile_number level place
      → IfSome (g.contents tiles.disk) (λ bytes. IfSome (tiles_leaves tiles) (λ leaves.
      IsFirstBad hashes.hash leaves bytes tiles.adopted size level place))
      → IfSome (g.contents tiles.disk) (λ before. IfSome (tiles_leaves tiles) (λ leaves.
      HoldsFirst hashes.hash leaves number before → (c : Text) → g.may_leave new c
      → HoldsTiles hashes.hash leaves size c))
      → IfSome (tiles_leaves tiles) (λ leaves. (c : Text) → g.may_leave new c
      → HoldsTiles hashes.hash leaves size c)
  all-rewritten new size number level place few is bad holds =
      let h = hashes.hash in
      when-contents (g.contents tiles.disk) (leaves_with tiles.adopted tiles.rows)
      (λ leaves. (c : Text) → g.may_leave new c → HoldsTiles h leaves size c)
      (λ b contents.
      let leaves = leaves_with tiles.adopted tiles.rows b in
      these-contents (g.contents tiles.disk) (leaves_with tiles.adopted tiles.rows)
      (λ before leaves. HoldsFirst h leaves number before → (c : Text) → g.may_leave new c
      → HoldsTiles h leaves size c) b contents holds
      (subst (λ n. HoldsFirst h leaves n b) (sym is)
      (before-bad h leaves tiles.adopted tiles.stored size b level place few tiles.written
      (tiles.contents b contents).tiles
      (these-contents (g.contents tiles.disk) (leaves_with tiles.adopted tiles.rows)
      (λ bytes leaves. IsFirstBad h leaves bytes tiles.adopted size level place) b contents
      bad))))

  -- each crash leaves stored tiles that are durable
  pub all-durable : (size : ℕ) → size ≤ tiles.stored
      → IfSome (g.contents tiles.disk) (λ b. Only b (g.may_leave tiles.disk))
      → IfSome (tiles_leaves tiles) (λ leaves. (c : Text) → g.may_leave tiles.disk c
      → HoldsTiles hashes.hash leaves size c)
  all-durable size within durable =
      let h = hashes.hash in
      when-contents (g.contents tiles.disk) (leaves_with tiles.adopted tiles.rows)
      (λ leaves. (c : Text) → g.may_leave tiles.disk c → HoldsTiles h leaves size c)
      (λ b contents c left.
      let only : Only b (g.may_leave tiles.disk) =
      subst (λ t. IfSome t (λ bytes. Only bytes (g.may_leave tiles.disk))) contents durable in
      let leaves = leaves_with tiles.adopted tiles.rows b in
      subst (HoldsTiles h leaves size) (sym (only c left)) (λ level place full.
      (tiles.contents b contents).tiles level place
      (full-more size tiles.stored level place within full)))
