-- Tiles written one after the other.
use Rattle.std.proofs.Common.{◌≡◌, ℕ, ◌+◌, ◌-◌, ◌*◌, ◌<◌, ◌≤◌, inl, inr, ⊎_elim, max, List}
use Rattle.std.proofs.Common.{length}
use Rattle.std.proofs.Common.{take, drop, ◌++◌, append_assoc, Some, None, refl, sym, ◌∙◌, ap, subst}
use Rattle.std.proofs.Common.{arith}
use Rattle.std.specs.Prelude.{IfSome, Option, is_some, option_map}
use Rattle.std.proofs.Math.Seq.{drop-append_seam, take-append_seam}
use Rattle.std.proofs.lemmas.Bool.{cases_lt}
use Rattle.std.proofs.lemmas.List.{drop-drop, length-append, length-take}
use Rattle.disk_core.proofs.Times.{joined, left_now, started, weaker}
use Rattle.disk_core.specs.Disk.{Only, overwritten, part}
use Rattle.disk_core.specs.Times.{LeavesOnly, OnlyReads}
use Rattle.disk_core.specs.declared.disk.Disk.{Ghosts}
use Rattle.tile_store.proofs.Bytes.{part-prefix}
use Rattle.tile_store.proofs.Prefixes.{following-now, prefix-less, prefix-on}
use Rattle.tile_store.proofs.Numbers.{same-number}
use Rattle.tile_store.specs.Contents.{IsTile}
use Rattle.tile_store.specs.Layout.{tile_at, tile_number}
use Rattle.tile_store.specs.Writing.{HoldsFirst, IsCrashStateAfter, IsTileWritten, KeepsPrefix}
use Rattle.tile_store.specs.Writing.{TilesAreWritten, WritesAfter}
use Rattle.tree_cache.specs.Rows.{RowsState}
use Rattle.byte_formats.specs.Types.{HashFunction, Text}

-- bytes that were written at an offset, and those before it
over-is : (place : ℕ) (piece old : List ℕ) → overwritten place piece old
    ≡ take place old ++ (piece ++ drop (place + length piece) old)
over-is place piece old = append_assoc (take place old) piece (drop (place + length piece) old)

over-prefix : (place : ℕ) (piece old : List ℕ) → place ≤ length old
    → take place (overwritten place piece old) ≡ take place old
over-prefix place piece old within =
    let size : length (take place old) ≡ place = length-take place old ∙ omega arith in
    ap (take place) (over-is place piece old)
    ∙ ap (λ n. take n (take place old ++ (piece ++ drop (place + length piece) old))) (sym size)
    ∙ take-append_seam (take place old) (piece ++ drop (place + length piece) old)

over-part : (place : ℕ) (piece old : List ℕ) → place ≤ length old
    → part place (length piece) (overwritten place piece old) ≡ piece
over-part place piece old within =
    let size : length (take place old) ≡ place = length-take place old ∙ omega arith in
    ap (part place (length piece)) (over-is place piece old)
    ∙ ap (take (length piece))
    (ap (λ n. drop n (take place old ++ (piece ++ drop (place + length piece) old))) (sym size)
    ∙ drop-append_seam (take place old) (piece ++ drop (place + length piece) old))
    ∙ take-append_seam piece (drop (place + length piece) old)

-- and those after them
over-after : (place : ℕ) (piece old : List ℕ) → place ≤ length old
    → drop (place + length piece) (overwritten place piece old)
    ≡ drop (place + length piece) old
over-after place piece old within =
    let size : length (take place old ++ piece) ≡ place + length piece =
    length-append (take place old) piece ∙ ap (λ n. n + length piece)
    (length-take place old ∙ omega arith) in
    ap (λ n. drop n (overwritten place piece old)) (sym size)
    ∙ drop-append_seam (take place old ++ piece) (drop (place + length piece) old)

-- what is the same from an offset on is the same from a later one on
pub same-after : (low high : ℕ) (a b : List ℕ) → low ≤ high → drop low a ≡ drop low b
    → drop high a ≡ drop high b
same-after low high a b within same =
    let rest : low + (high - low) ≡ high = omega arith in
    sym (drop-drop (high - low) low a ∙ ap (λ n. drop n a) rest)
    ∙ ap (drop (high - low)) same
    ∙ drop-drop (high - low) low b
    ∙ ap (λ n. drop n b) rest

-- a tile was written in between
after-more : (low high place : ℕ) (tile first mid : List ℕ) → low ≤ high
    → place + length tile ≤ high → place ≤ length mid → drop low mid ≡ drop low first
    → drop high (overwritten place tile mid) ≡ drop high first
after-more low high place tile first mid order end within same =
    same-after (place + length tile) high (overwritten place tile mid) mid end
    (over-after place tile mid within)
    ∙ same-after low high mid first order same

-- one tile more
pub holds-more : (h : List ℕ → List ℕ) (leaves : List (List ℕ)) (number l p : ℕ)
    (tile before : List ℕ) → l ≤ 2 → tile_number l p ≡ number → tile_at l p ≤ length before
    → IsTile h leaves l p tile → HoldsFirst h leaves number before
    → HoldsFirst h leaves (number + 1) (overwritten (tile_at l p) tile before)
holds-more h leaves number l p tile before low is within tile_is first = λ level place less below
    full.
    ⊎_elim
    (λ (earlier : tile_number level place < number).
    subst (IsTile h leaves level place)
    (part-prefix (tile_at level place) 8192 (tile_at l p) before
    (overwritten (tile_at l p) tile before) (omega arith)
    (sym (over-prefix (tile_at l p) tile before within)))
    (first level place less earlier full))
    (λ (same : tile_number level place ≡ number).
    let one = same-number l p level place low less (is ∙ sym same) in
    let here : part (tile_at l p) 8192 (overwritten (tile_at l p) tile before) ≡ tile =
    ap (λ n. part (tile_at l p) n (overwritten (tile_at l p) tile before)) (sym tile_is.size)
    ∙ over-part (tile_at l p) tile before within in
    subst (λ k. IsTile h leaves k place
    (part (tile_at k place) 8192 (overwritten (tile_at l p) tile before))) one.0
    (subst (λ k. IsTile h leaves l k
    (part (tile_at l k) 8192 (overwritten (tile_at l p) tile before))) one.1
    (subst (IsTile h leaves l p) (sym here) tile_is)))
    (⊎_elim (λ (less : tile_number level place < number). inl less)
    (λ (more : number ≤ tile_number level place). inr (omega arith))
    (cases_lt (tile_number level place) number))

-- what an option holds that was made of another
mapped-some : {A B : Type 0} (f : A → B) (o : Option A) (y : B) → Some y ≡ option_map f o
    → (x : A) × ((o ≡ Some x) × (y ≡ f x))
mapped-some f None y is = let no : ⊥ = cc in absurd no
mapped-some f (Some x) y is = (x, (refl, cc))

module _ {T : Type 0} (g : Ghosts T) where
  -- what was written so far, from one number on up to another
  pub record HavePut (h : HashFunction) (rows : RowsState) (from to number : ℕ) (old now : T)
      : Type 0 where
    pub most : number ≤ max from to
    pub following : WritesAfter g (8192 * from) old now
    pub written : TilesAreWritten g h rows from number old now
    pub faults : g.faults now ≡ g.faults old

  -- nothing was written yet
  pub put-none : (h : HashFunction) (rows : RowsState) (from to : ℕ) (disk : T)
      → ((c : Text) → g.left_since disk (g.clock_at disk) c → g.may_leave disk c)
      → 8192 * from ≤ g.known disk → HavePut h rows from to from disk disk
  put-none h rows from to disk only_now reach = record {
    most = omega arith;
    following = record {
      any_time = started g disk (IsCrashStateAfter g disk (8192 * from)) only_now
          (following-now g disk (8192 * from));
      contents = refl;
      known = omega arith;
    };
    written = record {
      known = omega arith;
      holds = λ before after contents_old contents_now leaves are first.
          let same : before ≡ after = cc in
          subst (HoldsFirst h leaves from) same first;
      after = λ before now contents_old contents_now.
          let same : before ≡ now = cc in
          ap (drop (8192 * max from from)) (sym same);
    };
    faults = refl;
  }

  -- crash states after one offset and then after a later one
  following-on : (old mid : T) (low high : ℕ) (crash_state : List ℕ) → low ≤ high
      → ((c : List ℕ) → g.may_leave mid c → IsCrashStateAfter g old low c)
      → IsCrashStateAfter g mid high crash_state → IsCrashStateAfter g old low crash_state
  following-on old mid low high crash_state within earlier is =
      let first = earlier is.before is.left in
      record {
        before = first.before;
        left = first.left;
        keeps = prefix-on low first.before is.before crash_state first.keeps
            (prefix-less low high is.before crash_state within is.keeps);
      }

  pub times-on : (old mid new : T) (low high : ℕ)
      → ((t : ℕ) (c : List ℕ) → t ≤ g.clock_at mid → g.may_leave mid c → g.left_since mid t c)
      → low ≤ high → LeavesOnly g old mid (IsCrashStateAfter g old low)
      → LeavesOnly g mid new (IsCrashStateAfter g mid high)
      → LeavesOnly g old new (IsCrashStateAfter g old low)
  times-on old mid new low high counts_now within first second =
      joined g old mid new (IsCrashStateAfter g old low) first
      (weaker g mid new (IsCrashStateAfter g mid high) (IsCrashStateAfter g old low)
      (λ c. following-on old mid low high c within
      (left_now g old mid (IsCrashStateAfter g old low) counts_now first)) second)

  -- what a write leaves after the others, even if it fails
  pub following-put : (old mid new : T) (from at : ℕ)
      → ((t : ℕ) (c : List ℕ) → t ≤ g.clock_at mid → g.may_leave mid c → g.left_since mid t c)
      → 8192 * from ≤ at → WritesAfter g (8192 * from) old mid
      → LeavesOnly g mid new (IsCrashStateAfter g mid at)
      → is_some (g.contents new) ≡ is_some (g.contents mid) → g.known mid ≤ g.known new
      → WritesAfter g (8192 * from) old new
  following-put old mid new from at counts_now order sofar times contents known =
      let before = sofar.known in
      record {
        any_time = times-on old mid new (8192 * from) at counts_now order sofar.any_time
            times;
        contents = contents ∙ sofar.contents;
        known = omega arith;
      }

  pub put-on : (h : List ℕ → List ℕ) (rows : RowsState) (from to number l p : ℕ)
      (old mid new : T)
      → ((t : ℕ) (c : List ℕ) → t ≤ g.clock_at mid → g.may_leave mid c → g.left_since mid t c)
      → ((b : List ℕ) → g.contents mid ≡ Some b → g.known mid ≤ length b)
      → from ≤ number → number < to → l ≤ 2 → tile_number l p ≡ number
      → HavePut h rows from to number old mid
      → LeavesOnly g mid new (IsCrashStateAfter g mid (tile_at l p))
      → is_some (g.contents new) ≡ is_some (g.contents mid)
      → g.known new ≡ max (tile_at l p + 8192) (g.known mid) → g.faults new ≡ g.faults mid
      → IsTileWritten h rows l p (g.contents mid) (g.contents new)
      → HavePut h rows from to (number + 1) old new
  put-on h rows from to number l p old mid new counts_now there order less low is sofar times
      contents
      known faults written =
      let sofar_known = sofar.written.known in
      record {
        most = omega arith;
        following =
            following-put old mid new from (tile_at l p) counts_now (omega arith) sofar.following
            times contents (omega arith);
        written = record {
          known = omega arith;
          holds = λ first after contents_old contents_new leaves are held.
              let at = mapped-some (overwritten (tile_at l p) written.tile) (g.contents mid) after
              (sym contents_new ∙ written.contents) in
              let within = there at.0 at.1.0 in
              subst (HoldsFirst h leaves (number + 1)) (sym at.1.1)
              (holds-more h leaves number l p written.tile at.0 low is (omega arith)
              (written.is leaves are)
              (sofar.written.holds first at.0 contents_old at.1.0 leaves are held));
          after = λ first now contents_old contents_now.
              let at = mapped-some (overwritten (tile_at l p) written.tile) (g.contents mid) now
              (sym contents_now ∙ written.contents) in
              let within = there at.0 at.1.0 in
              let size = written.size in
              ap (drop (8192 * max from (number + 1))) at.1.1
              ∙ after-more (8192 * max from number) (8192 * max from (number + 1)) (tile_at l p)
              written.tile first at.0 (omega arith) (omega arith) (omega arith)
              (sofar.written.after first at.0 contents_old at.1.0);
        };
        faults = faults ∙ sofar.faults;
      }

  -- a read writes nothing, so it may stand before writing and after it
  pub only_reads-following : (old new : T) (place : ℕ) → OnlyReads g old new
      → WritesAfter g place old new
  only_reads-following old new place only_reads = record {
    any_time = weaker g old new (g.may_leave old) (IsCrashStateAfter g old place)
        (following-now g old place) only_reads.times;
    contents = ap is_some only_reads.contents;
    known = only_reads.known;
  }

  pub writes-on : (old mid new : T) (place : ℕ)
      → ((t : ℕ) (c : List ℕ) → t ≤ g.clock_at mid → g.may_leave mid c → g.left_since mid t c)
      → WritesAfter g place old mid → WritesAfter g place mid new
      → WritesAfter g place old new
  writes-on old mid new place counts_now first second =
      let before = first.known in
      let after = second.known in
      record {
        any_time = times-on old mid new place place counts_now (omega arith)
            first.any_time second.any_time;
        contents = second.contents ∙ first.contents;
        known = omega arith;
      }

  -- over known bytes, the bytes that the model knows after writing have the same prefix
  pub prefix-contents : (old new : T) (place : ℕ) (before after : List ℕ)
      → ((t : ℕ) (c : List ℕ) → t ≤ g.clock_at new → g.may_leave new c → g.left_since new t c)
      → ((b : List ℕ) → g.contents new ≡ Some b → g.may_leave new b)
      → IfSome (g.contents old) (λ b. Only b (g.may_leave old)) → g.contents old ≡ Some before
      → g.contents new ≡ Some after → LeavesOnly g old new (IsCrashStateAfter g old place)
      → KeepsPrefix place before after
  prefix-contents old new place before after counts_now reads certain contents_old contents_new
      times =
      let is = left_now g old new (IsCrashStateAfter g old place) counts_now times after
      (reads after contents_new) in
      let only : Only before (g.may_leave old) =
      subst (λ t. IfSome t (λ b. Only b (g.may_leave old))) contents_old certain in
      subst (λ b. KeepsPrefix place b after) (only is.before is.left) is.keeps
