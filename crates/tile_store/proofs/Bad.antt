-- The first bad tile of all tiles of a size, and the tiles that stand in the file.
use Rattle.std.proofs.Common.{ℕ, ◌+◌, ◌*◌, ◌^◌, ◌<◌, ◌≤◌, List, ⊎_elim, arith}
use Rattle.std.specs.Prelude.{IfSome}
use Rattle.std.proofs.lemmas.Bool.{cases_lt}
use Rattle.disk_core.specs.declared.disk.Disk.{Ghosts}
use Rattle.tile_store.proofs.Adopted.{both-contents, stands, these-contents}
use Rattle.tile_store.proofs.Numbers.{full-more}
use Rattle.tile_store.specs.Causes.{IsFirstBad, IsNewTile, StandsIn}
use Rattle.tile_store.specs.Contents.{HoldsTiles}
use Rattle.tile_store.specs.Sound.{leaves_with}
use Rattle.tile_store.specs.Store.{tiles_leaves}
use Rattle.tile_store.specs.declared.store.Tiles.{Tiles}
use Rattle.tree_core.specs.declared.hashing.TreeHash.{Ghosts as Hashes}

-- The tiles of the stored leaves stand in the file.
pub stored-stand : (h : List ℕ → List ℕ) (leaves : List (List ℕ)) (stored size : ℕ) (b : List ℕ)
    → HoldsTiles h leaves stored b → size ≤ stored → (adopted level place : ℕ)
    → IsNewTile adopted size level place → StandsIn h leaves b level place
stored-stand h leaves stored size b tiles within adopted level place new =
    stands h leaves b level place
    (tiles level place (full-more size stored level place within new.full))

-- Where the adopted tiles stand, the first new one that the file doesn't have is the first of all.
pub first-of-all : (h : List ℕ → List ℕ) (leaves : List (List ℕ)) (adopted stored size : ℕ)
    (b : List ℕ) (level place : ℕ) → HoldsTiles h leaves stored b → adopted ≤ stored
    → IsFirstBad h leaves b adopted size level place → IsFirstBad h leaves b 0 size level place
first-of-all h leaves adopted stored size b level place tiles within is = record {
  new = record {
    full = is.new.full;
    other = λ none. is.new.other (full-more 0 adopted level place (omega arith) none);
  };
  bad = is.bad;
  first = λ l p new earlier.
      ⊎_elim
      (λ (other : adopted < (p + 1) * 256 ^ (l + 1)).
      is.first l p (record { full = new.full; other = λ old. omega arith }) earlier)
      (λ (old : (p + 1) * 256 ^ (l + 1) ≤ adopted).
      stands h leaves b l p (tiles l p (full-more adopted stored l p within old)))
      (cases_lt adopted ((p + 1) * 256 ^ (l + 1)));
}

module _ {H T : Type 0} {hashes : Hashes H} {g : Ghosts T} (tiles : Tiles H T hashes g) where
  -- So the first tile that is not adopted is the first of all.
  pub bad-of-all : (size level place : ℕ)
      → IfSome (g.contents tiles.disk) (λ bytes. IfSome (tiles_leaves tiles) (λ leaves.
      IsFirstBad hashes.hash leaves bytes tiles.adopted size level place))
      → IfSome (g.contents tiles.disk) (λ bytes. IfSome (tiles_leaves tiles) (λ leaves.
      IsFirstBad hashes.hash leaves bytes 0 size level place))
  bad-of-all size level place bad =
      both-contents (g.contents tiles.disk) (leaves_with tiles.adopted tiles.rows)
      (λ bytes leaves. IsFirstBad hashes.hash leaves bytes 0 size level place)
      (λ b is. first-of-all hashes.hash (leaves_with tiles.adopted tiles.rows b) tiles.adopted
      tiles.stored size b level place (tiles.contents b is).tiles tiles.written
      (these-contents (g.contents tiles.disk) (leaves_with tiles.adopted tiles.rows)
      (λ bytes leaves. IsFirstBad hashes.hash leaves bytes tiles.adopted size level place) b is
      bad))

  -- And the file has each tile of the stored leaves.
  pub all-stand : (size : ℕ) → size ≤ tiles.stored
      → IfSome (g.contents tiles.disk) (λ bytes. IfSome (tiles_leaves tiles) (λ leaves.
      (level place : ℕ) → IsNewTile 0 size level place
      → StandsIn hashes.hash leaves bytes level place))
  all-stand size within =
      both-contents (g.contents tiles.disk) (leaves_with tiles.adopted tiles.rows)
      (λ bytes leaves. (level place : ℕ) → IsNewTile 0 size level place
      → StandsIn hashes.hash leaves bytes level place)
      (λ b is. stored-stand hashes.hash (leaves_with tiles.adopted tiles.rows b) tiles.stored size b
      (tiles.contents b is).tiles within 0)
