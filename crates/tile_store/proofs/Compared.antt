-- Tiles read back and compared.
use Rattle.std.proofs.Common.{◌≡◌, ℕ, zero, suc, ◌+◌, ◌*◌, ◌/◌, ◌<◌, ◌≤◌, ◌⊎◌, inl, inr}
use Rattle.std.proofs.Common.{⊎_elim}
use Rattle.std.proofs.Common.{max, List, length, take, ◌++◌, Some, None, refl, sym}
use Rattle.std.proofs.Common.{◌∙◌, ap}
use Rattle.std.proofs.Common.{subst, arith}
use Rattle.std.specs.Prelude.{IfSome}
use Rattle.std.proofs.Math.ListN.{length-set}
use Rattle.std.proofs.Math.Seq.{take-add}
use Rattle.std.proofs.lemmas.Bool.{cases_lt}
use Rattle.std.proofs.lemmas.List.{take_all}
use Rattle.disk_core.proofs.Times.{only_read_on}
use Rattle.disk_core.specs.Disk.{part}
use Rattle.disk_core.specs.Times.{OnlyReads}
use Rattle.disk_core.specs.declared.disk.Disk.{Ghosts}
use Rattle.frame_pool.specs.Frames.{HoldsKey, IsUnheld, PoolState, released}
use Rattle.frame_pool.specs.Sound.{IsSoundPool}
use Rattle.frame_pool.specs.declared.key.TileKey.{TileKey}
use Rattle.tile_store.proofs.Loads.{holds-released}
use Rattle.tile_store.proofs.Numbers.{same-number}
use Rattle.mtc_io.specs.Counts.{Rose}
use Rattle.tile_store.specs.Comparing.{HasTileReason, HaveCompared, HaveMatched, IsFirstOther}
use Rattle.tile_store.specs.Comparing.{OverEach}
use Rattle.tile_store.specs.declared.error.TileError.{TileError}
use Rattle.tile_store.specs.declared.error.TileError.TheVariants.{BadTile, Failed}
use Rattle.tile_store.specs.Contents.{IsTile, hash_in}
use Rattle.tile_store.specs.Frames.{FramesHold, HasNoPins}
use Rattle.tile_store.specs.Layout.{tile_at, tile_number}
use Rattle.tree_cache.specs.Rows.{RowsState}
use Rattle.byte_formats.specs.Types.{HashFunction}

-- bytes with the same hashes are the same
same-prefix : (a b : List ℕ) (n : ℕ) → ((i : ℕ) → i < n → hash_in i a ≡ hash_in i b)
    → take (32 * n) a ≡ take (32 * n) b
same-prefix a b zero same = refl
same-prefix a b (suc n) same =
    let more : 32 * suc n ≡ 32 * n + 32 = omega arith in
    ap (λ k. take k a) more ∙ take-add (32 * n) 32 a
    ∙ ap (λ x. x ++ hash_in n a) (same-prefix a b n (λ i inside. same i (omega arith)))
    ∙ ap (λ x. take (32 * n) b ++ x) (same n (omega arith))
    ∙ sym (take-add (32 * n) 32 b) ∙ sym (ap (λ k. take k b) more)

pub same-tile : (h : List ℕ → List ℕ) (leaves : List (List ℕ)) (level place : ℕ)
    (a b : List ℕ) → IsTile h leaves level place a → IsTile h leaves level place b → a ≡ b
same-tile h leaves level place a b one two =
    let first = one.size in
    let second = two.size in
    sym (take_all (32 * 256) a (omega arith))
    ∙ same-prefix a b 256 (λ i inside. one.hashes i inside ∙ sym (two.hashes i inside))
    ∙ take_all (32 * 256) b (omega arith)

-- one tile more was found
pub matched-more : (h : List ℕ → List ℕ) (leaves : List (List ℕ)) (from number l p : ℕ)
    (b : List ℕ) → l ≤ 2 → tile_number l p ≡ number
    → IsTile h leaves l p (part (tile_at l p) 8192 b)
    → ((level place : ℕ) → level ≤ 2 → from ≤ tile_number level place
    → tile_number level place < number
    → IsTile h leaves level place (part (tile_at level place) 8192 b))
    → (level place : ℕ) → level ≤ 2 → from ≤ tile_number level place
    → tile_number level place < number + 1
    → IsTile h leaves level place (part (tile_at level place) 8192 b)
matched-more h leaves from number l p b low is tile sofar level place less following below =
    ⊎_elim
    (λ (earlier : tile_number level place < number). sofar level place less following earlier)
    (λ (last : number ≤ tile_number level place).
    let same : tile_number l p ≡ tile_number level place = omega arith in
    let one = same-number l p level place low less same in
    subst (λ k. IsTile h leaves k place (part (tile_at k place) 8192 b)) one.0
    (subst (λ k. IsTile h leaves l k (part (tile_at l k) 8192 b)) one.1 tile))
    (cases_lt (tile_number level place) number)

module _ {T : Type 0} (g : Ghosts T) where
  -- no tile was read
  pub compared-only_read : (old new : T) (pool : PoolState) → OnlyReads g old new → HasNoPins pool
      → HaveCompared g old new pool pool
  compared-only_read old new pool only_reads free = record {
    only_reads = only_reads;
    frames = λ b contents holds. holds;
    keys = λ slot key holds. holds;
    free = free;
    count = refl;
  }

  -- a tile was read into a frame, which is empty again
  pub compared-one : (old new : T) (before mid : PoolState) (slot : ℕ) (key : TileKey)
      → OnlyReads g old new
      → ((b : List ℕ) → g.contents old ≡ Some b → FramesHold b before → FramesHold b mid)
      → ((s : ℕ) (k : TileKey) → HoldsKey mid s k → (k ≡ key) ⊎ HoldsKey before s k)
      → HasNoPins mid → length mid.keys ≡ length before.keys → IsSoundPool mid
      → HoldsKey mid slot key → HaveCompared g old new before (released mid slot)
  compared-one old new before mid slot key only_reads frames keys free count sound held =
      let set = length-set mid.keys slot None in
      record {
        only_reads = only_reads;
        frames = λ b contents holds s k was.
            let is = holds-released mid slot s k held.there was in
            frames b contents holds s k is.1;
        keys = λ s k was.
            let is = holds-released mid slot s k held.there was in
            ⊎_elim
            (λ (same : k ≡ key).
            let here : HoldsKey mid s key = subst (HoldsKey mid s) same is.1 in
            absurd (is.0 (sound.distinct s slot key here.there held.there here.held held.held)))
            (λ (old_one : HoldsKey before s k). old_one)
            (keys s k is.1);
        free = free;
        count = omega arith;
      }

  -- one comparison after another
  pub compared-on : (old mid new : T) (a b c : PoolState) → HaveCompared g old mid a b
      → HaveCompared g mid new b c → HaveCompared g old new a c
  compared-on old mid new a b c first second = record {
    only_reads = only_read_on g old mid new first.only_reads second.only_reads;
    frames = λ bytes contents holds.
        second.frames bytes (first.only_reads.contents ∙ contents)
        (first.frames bytes contents holds);
    keys = λ slot key holds. first.keys slot key (second.keys slot key holds);
    free = second.free;
    count = second.count ∙ first.count;
  }

  -- a key that no frame held
  pub unheld-still : (old new : T) (before after : PoolState) (key : TileKey)
      → HaveCompared g old new before after → IsUnheld before key → IsUnheld after key
  unheld-still old new before after key compared unheld = λ slot there held.
      let was = compared.keys slot key (record { there = there; held = held }) in
      unheld slot was.there was.held

  -- the tiles so far, from one number on up to another
  pub record HaveFound (h : HashFunction) (rows : RowsState) (from number : ℕ) (old now : T)
      (before after : PoolState) : Type 0 where
    pub compared : HaveCompared g old now before after
    pub faults : g.faults now ≡ g.faults old
    pub matched : HaveMatched g h rows from number old before

  pub found-none : (h : List ℕ → List ℕ) (rows : RowsState) (from : ℕ) (old : T)
      (pool : PoolState) → OnlyReads g old old → HasNoPins pool
      → HaveFound h rows from from old old pool pool
  found-none h rows from old pool only_reads free = record {
    compared = compared-only_read old old pool only_reads free;
    faults = refl;
    matched = λ b contents frames leaves are level place low following below.
        let no : ⊥ = omega arith in absurd no;
  }

  pub found-more : (h : List ℕ → List ℕ) (rows : RowsState) (from number l p : ℕ)
      (old mid new : T) (a b c : PoolState) → l ≤ 2 → tile_number l p ≡ number
      → HaveFound h rows from number old mid a b → HaveCompared g mid new b c
      → g.faults new ≡ g.faults mid
      → OverEach g h rows mid b (λ bytes leaves.
      IsTile h leaves l p (part (tile_at l p) 8192 bytes))
      → HaveFound h rows from (number + 1) old new a c
  found-more h rows from number l p old mid new a b c low is sofar step fine tile = record {
    compared = compared-on old mid new a b c sofar.compared step;
    faults = fine ∙ sofar.faults;
    matched = λ bytes contents frames leaves are.
        matched-more h leaves from number l p bytes low is
        (tile bytes (sofar.compared.only_reads.contents ∙ contents)
        (sofar.compared.frames bytes contents frames) leaves are)
        (sofar.matched bytes contents frames leaves are);
  }

  -- the first tile that has other hashes
  pub first-other : (h : List ℕ → List ℕ) (rows : RowsState) (from number to l p : ℕ)
      (old mid : T) (a b : PoolState) → l ≤ 2 → tile_number l p ≡ number → from ≤ number
      → number < to → HaveFound h rows from number old mid a b
      → OverEach g h rows mid b (λ bytes leaves.
      IsTile h leaves l p (part (tile_at l p) 8192 bytes) → ⊥)
      → IsFirstOther g h rows from to old a l p
  first-other h rows from number to l p old mid a b low is order less sofar other = record {
    low = low;
    following = omega arith;
    below = omega arith;
    before = λ bytes contents frames leaves are level place lower following below.
        sofar.matched bytes contents frames leaves are level place lower following (omega arith);
    other = λ bytes contents frames leaves are.
        inr (other bytes (sofar.compared.only_reads.contents ∙ contents)
        (sofar.compared.frames bytes contents frames) leaves are);
  }

  -- after a read
  pub only_read-compared : (old mid new : T) (before after : PoolState) → OnlyReads g old mid
      → HaveCompared g mid new before after → HaveCompared g old new before after
  only_read-compared old mid new before after only_reads compared = record {
    only_reads = only_read_on g old mid new only_reads compared.only_reads;
    frames = λ b contents. compared.frames b (only_reads.contents ∙ contents);
    keys = compared.keys;
    free = compared.free;
    count = compared.count;
  }

  other-only_read : (h : List ℕ → List ℕ) (rows : RowsState) (from near to l p : ℕ) (old mid : T)
      (pool : PoolState) → OnlyReads g old mid → near ≤ to
      → IsFirstOther g h rows from near mid pool l p → IsFirstOther g h rows from to old pool l p
  other-only_read h rows from near to l p old mid pool only_reads within is =
      let below = is.below in
      record {
        low = is.low;
        following = is.following;
        below = omega arith;
        before = λ b contents. is.before b (only_reads.contents ∙ contents);
        other = λ b contents. is.other b (only_reads.contents ∙ contents);
      }

  pub reason-only_read : (h : List ℕ → List ℕ) (rows : RowsState) (from near to : ℕ)
      (old mid new : T) (pool : PoolState) (e : TileError) → OnlyReads g old mid
      → g.faults mid ≡ g.faults old → near ≤ to
      → HasTileReason g h rows from near mid new pool e
      → HasTileReason g h rows from to old new pool e
  reason-only_read h rows from near to old mid new pool Failed only_reads fine within reason =
      subst (λ n. Rose n (g.faults new)) fine reason
  reason-only_read h rows from near to old mid new pool (BadTile level place) only_reads fine within
      reason = (
        reason.0 ∙ fine,
        other-only_read h rows from near to level place old mid pool only_reads within reason.1,
      )

  -- the first tile that ends past the end of the file
  pub first-short : (h : List ℕ → List ℕ) (rows : RowsState) (from to length_is whole l p : ℕ)
      (old mid : T) (pool : PoolState) → OnlyReads g old mid
      → IfSome (g.contents old) (λ b. length_is ≡ length b) → whole ≡ length_is / 8192
      → whole < to → from < to → l ≤ 2 → tile_number l p ≡ max whole from
      → HaveMatched g h rows from whole mid pool → IsFirstOther g h rows from to old pool l p
  first-short h rows from to length_is whole l p old mid pool only_reads long is short order low
      number matched = record {
        low = low;
        following = omega arith;
        below = omega arith;
        before = λ b contents frames leaves are level place lower following below.
            matched b (only_reads.contents ∙ contents) frames leaves are level place lower following
            (omega arith);
        other = λ b contents frames leaves are.
            let size : length_is ≡ length b =
            subst (λ t. IfSome t (λ bytes. length_is ≡ length bytes)) contents long in
            inl (omega arith);
      }
