-- The tiles of a log that are written again, and the log that is found in its journal.
use Rattle.std.proofs.Common.{◌≡◌, ◌⊎◌, inl, inr, ⊎_elim, ℕ, ◌≤◌, List, Option, Some}
use Rattle.std.proofs.Common.{None, IfSome, option_map, map, Result, Ok, Err, OnOk, OnErr, drop}
use Rattle.std.proofs.Common.{refl, sym, ◌∙◌, ap, subst, arith}
use Rattle.std.specs.Prelude.{MatchResult}
use Rattle.byte_formats.specs.Types.{HashFunction, Text}
use Rattle.disk_core.proofs.Times.{only_read_on, weaker}
use Rattle.disk_core.specs.Times.{LeavesOnly, OnlyReads}
use Rattle.disk_core.specs.declared.disk.Disk.{Ghosts}
use Rattle.journal_core.proofs.Found.{read_standing}
use Rattle.journal_core.specs.Format.{Represents}
use Rattle.journal_core.specs.Words.{AllRepresent}
use Rattle.journal_core.specs.declared.error.OpenError.TheVariants as open_error
use Rattle.mtc_io.specs.Counts.{HasCause, Rose}
use Rattle.mtc_io.specs.declared.fault.Failed.{Failed as DiskFailed}
use Rattle.state_journal.specs.declared.error.StateOpenError.{StateOpenError}
use Rattle.state_journal.specs.declared.error.StateOpenError.TheVariants as state
use Rattle.tile_store.proofs.Adopted.{stands, these-contents}
use Rattle.tile_store.proofs.Bad.{bad-of-all}
use Rattle.tile_store.proofs.Kept.{when-these}
use Rattle.tile_store.proofs.Numbers.{full-low, full-number}
use Rattle.tile_store.proofs.Steps.{only_reads-following, times-on}
use Rattle.tile_store.specs.Calls.{TilesAreRenewed, WritesFromBadTile}
use Rattle.tile_store.specs.Causes.{IsFirstBad}
use Rattle.tile_store.specs.Contents.{HoldsTiles}
use Rattle.tile_store.specs.Layout.{tile_at, tiles_end}
use Rattle.tile_store.specs.Sound.{leaves_with}
use Rattle.tile_store.specs.Store.{tiles_disk, tiles_leaves}
use Rattle.tile_store.specs.declared.error.TileError.{TileError}
use Rattle.tile_store.specs.declared.error.TileError.TheVariants.{BadTile, Failed}
use Rattle.tile_store.specs.declared.store.Tiles.{Tiles}
use Rattle.tree_core.specs.Tree.{leaf_hash}
use Rattle.tree_core.specs.declared.hashing.TreeHash.{Ghosts as Hashes}
use Rattle.issuance_log.specs.Faults.{open_refusal}
use Rattle.issuance_log.specs.Folds.{LogState, LogView, log_fold}
use Rattle.issuance_log.specs.Items.{AreKept}
use Rattle.issuance_log.specs.Opened.{LogIsNotOpened}
use Rattle.issuance_log.specs.Openings.{FoundLog}
use Rattle.issuance_log.specs.Rebuilt.{FindsLog, HasRebuiltTiles, HoldsItsTiles, IsLogFound}
use Rattle.issuance_log.specs.Rebuilt.{LeavesRebuilt, RewritesTiles}
use Rattle.issuance_log.specs.Rebuilt.{TilesAreRebuilt, WritesFromBad, tiles_failed}
use Rattle.issuance_log.specs.Shown.{shown_with}
use Rattle.issuance_log.specs.declared.error.LogOpenError.{LogOpenError}

-- ---- the file of the tiles

module _ {T : Type 0} (k : Ghosts T) (h : HashFunction) (file file' : T) (s : LogState)
    (before : Text) (left : k.may_leave file before) where
  -- what would have left all tiles was not written
  keeps_from : OnlyReads k file file' ⊎ WritesFromBad k h file file' s before
      → ((c : Text) → k.may_leave file c → HoldsItsTiles h s c)
      → LeavesOnly k file file' (HoldsItsTiles h s)
  keeps_from writes held =
      ⊎_elim
      (λ (only : OnlyReads k file file').
      weaker k file file' (k.may_leave file) (HoldsItsTiles h s) held only.times)
      (λ (from : WritesFromBad k h file file' s before).
      let is = from.bad in
      absurd (is.bad (stands h (map (leaf_hash h) s.entries) before from.level from.place
      (held before left from.level from.place is.new.full))))
      writes

  rewrites_by : OnlyReads k file file' ⊎ WritesFromBad k h file file' s before
      → RewritesTiles k h file file' s before
  rewrites_by writes = record { writes = writes; keeps = keeps_from writes }

-- what holds of each value that an option may have
if_each : {A : Type 0} {P : A → Type 0} (o : Option A) → ((x : A) → o ≡ Some x → P x) → IfSome o P
if_each None each = tt
if_each (Some x) each = each x refl

module _ {H T : Type 0} {hashes : Hashes H} {k : Ghosts T} (file : T)
    (nodes nodes' : Tiles H T hashes k) (size : ℕ) (first : OnlyReads k file (tiles_disk nodes))
    (counts_now : (t : ℕ) (c : Text) → t ≤ k.clock_at (tiles_disk nodes)
    → k.may_leave (tiles_disk nodes) c → k.left_since (tiles_disk nodes) t c)
    (reads : (b : Text) → k.contents file ≡ Some b → k.may_leave file b)
    (s : LogState) (is : size ≡ s.tiled)
    (hashed : IfSome (tiles_leaves nodes) (λ l. l ≡ map (leaf_hash hashes.hash) s.entries))
    (renews : OnlyReads k (tiles_disk nodes) (tiles_disk nodes')
    ⊎ WritesFromBadTile size nodes nodes') where
  abbrev h : HashFunction
  h = hashes.hash

  abbrev new : T
  new = tiles_disk nodes'

  -- the hashes that the nodes are made of are those of the entries
  same_leaves : (before : Text) → k.contents (tiles_disk nodes) ≡ Some before
      → leaves_with nodes.adopted nodes.rows before ≡ map (leaf_hash h) s.entries
  same_leaves before contents =
      when-these (k.contents nodes.disk) (leaves_with nodes.adopted nodes.rows)
      (λ l. l ≡ map (leaf_hash h) s.entries) before contents hashed

  writes_since : (before : Text) → k.contents (tiles_disk nodes) ≡ Some before
      → OnlyReads k file new ⊎ WritesFromBad k h file new s before
  writes_since before contents =
      ⊎_elim
      (λ (only : OnlyReads k (tiles_disk nodes) (tiles_disk nodes')).
      inl (only_read_on k file nodes.disk nodes'.disk first only))
      (λ (from : WritesFromBadTile size nodes nodes').
      inr (record {
        level = from.level;
        place = from.place;
        bad = subst (λ l. IsFirstBad h l before 0 s.tiled from.level from.place)
            (same_leaves before contents)
            (subst (λ n. IsFirstBad h (leaves_with nodes.adopted nodes.rows before) before 0 n
            from.level from.place) is
            (these-contents (k.contents nodes.disk) (leaves_with nodes.adopted nodes.rows)
            (λ bytes leaves. IsFirstBad h leaves bytes 0 size from.level from.place) before
            contents (bad-of-all nodes size from.level from.place from.bad)));
        any_time =
            let at = tile_at from.level from.place in
            times-on k file nodes.disk nodes'.disk at at counts_now (omega arith)
            (only_reads-following k file nodes.disk at first).any_time from.any_time;
      }))
      renews

  rewrites_since : (before : Text) → k.contents file ≡ Some before
      → RewritesTiles k h file new s before
  rewrites_since before contents =
      rewrites_by k h file new s before (reads before contents)
      (writes_since before (first.contents ∙ contents))

  -- where their disk failed
  pub tiles_left : IfSome (k.contents file) (RewritesTiles k h file new s)
  tiles_left = if_each (k.contents file) rewrites_since

  -- and where it didn't
  pub tiles_rebuilt : TilesAreRenewed size nodes nodes'
      → IfSome (k.contents file) (HasRebuiltTiles k h file new s)
  tiles_rebuilt renewed = if_each (k.contents file) (λ before contents. record {
    rewrites = rewrites_since before contents;
    holds = λ c left.
        let mid = first.contents ∙ contents in
        subst (λ l. HoldsTiles h l s.tiled c) (same_leaves before mid)
        (subst (λ n. HoldsTiles h (leaves_with nodes.adopted nodes.rows before) n c) is
        (when-these (k.contents nodes.disk) (leaves_with nodes.adopted nodes.rows)
        (λ leaves. (c : Text) → k.may_leave new c → HoldsTiles h leaves size c) before mid
        renewed.holds c left));
    after = λ was now contents_old contents_now.
        subst (λ n. drop (tiles_end n) now ≡ drop (tiles_end n) was) is
        (renewed.after was now (first.contents ∙ contents_old) contents_now);
  })

-- no tile is full of no leaves
pub nothing_renewed : {H T : Type 0} {hashes : Hashes H} {k : Ghosts T} (nodes : Tiles H T hashes k)
    (size : ℕ) → size ≡ 0 → TilesAreRenewed size nodes nodes
nothing_renewed {hashes = hashes} {k = k} nodes size none = record {
  stored = omega arith;
  reach = omega arith;
  holds = if_each (tiles_leaves nodes) (λ leaves is c left level place full.
      let low = full-low size level place (omega arith) full in
      let below = full-number size level place (omega arith) full in
      absurd (omega arith));
  after = λ before now contents_old contents_now.
      let both : Some now ≡ Some before = sym contents_now ∙ contents_old in
      let same : now ≡ before = cc in
      ap (drop (tiles_end size)) same;
}

-- ---- the journal

module _ {D : Type 0} (g : Ghosts D) (h : HashFunction) (v : LogView) (offsets : List ℕ)
    (f : Text → List Text) (leaves : Option (List Text)) (later : D) where
  -- the log that its records make
  finds_in : (P : LogState → Type 0) (contents : Option Text)
      → IfSome contents (λ b. IfSome (option_map f contents) (Represents b))
      → IfSome (option_map f contents) (AllRepresent g later)
      → IfSome (option_map f contents) (AreKept h v offsets leaves)
      → ((list : List Text) → AreKept h v offsets leaves list → P (shown_with v list))
      → IfSome contents (λ bytes. (found : FoundLog)
      × (IsLogFound g h bytes later found × P found.state))
  finds_in P None reads all kept so = tt
  finds_in P (Some b) reads all kept so = (
    record { records = f b; state = shown_with v (f b) },
    (
      record {
        is = read_standing (log_fold h) b (f b) (shown_with v (f b)) reads kept.made;
        stands = reads;
        all = all;
      },
      so (f b) kept,
    ),
  )

  pub finds : (P : LogState → Type 0) (journal : D) → OnlyReads g journal later
      → IfSome (g.contents later) (λ b. IfSome (option_map f (g.contents later)) (Represents b))
      → IfSome (option_map f (g.contents later)) (AllRepresent g later)
      → IfSome (option_map f (g.contents later)) (AreKept h v offsets leaves)
      → ((list : List Text) → AreKept h v offsets leaves list → P (shown_with v list))
      → FindsLog g h journal later P
  finds P journal only_reads reads all kept so =
      subst (λ (o : Option Text). IfSome o (λ bytes. (found : FoundLog)
      × (IsLogFound g h bytes later found × P found.state))) only_reads.contents
      (finds_in P (g.contents later) reads all kept so)

-- ---- both

module _ {D T : Type 0} (g : Ghosts D) (k : Ghosts T) (h : HashFunction) (journal later : D)
    (file file' : T) where
  -- the journal was refused
  pub refused_left : (why : StateOpenError) (refusal : Option TileError)
      → LogIsNotOpened g k h journal later file file' (open_refusal why refusal)
      → LeavesRebuilt g k h journal later file file' (Err (open_refusal why refusal))
  refused_left (state.BadRecord n) refusal is = is
  refused_left (state.Open open_error.NotJournal) refusal is = is
  refused_left (state.Open (open_error.BadLength place)) refusal is = is
  refused_left (state.Open (open_error.CutShort place)) refusal is = is
  refused_left (state.Open open_error.Failed) refusal is = is
  refused_left (state.Open open_error.Memory) None is = is
  refused_left (state.Open open_error.Memory) (Some (BadTile level place)) is = is
  refused_left (state.Open open_error.Memory) (Some Failed) is = record {
    fine = is.fine (λ wrong. absurd cc);
    failed = is.cause;
    left = inl is.only_reads_tiles;
  }

  -- it was read, and the tiles were written again or failed
  pub rebuilt_left : (mid : T) (size : ℕ) (r : Result (Unit {0}) DiskFailed)
      (answer : Result ℕ LogOpenError)
      → MatchResult r (λ (_ : Unit {0}). answer ≡ Ok size)
      (λ (_ : DiskFailed). answer ≡ Err tiles_failed)
      → g.faults later ≡ g.faults journal → k.faults mid ≡ k.faults file
      → HasCause (k.faults mid) (k.faults file') r
      → OnOk r (TilesAreRebuilt g k h journal later file file' size)
      → OnErr r (OnlyReads k file file'
      ⊎ FindsLog g h journal later (λ s. IfSome (k.contents file) (RewritesTiles k h file file' s)))
      → LeavesRebuilt g k h journal later file file' answer
  rebuilt_left mid size (Ok done) answer is fine same cause ok err =
      subst (LeavesRebuilt g k h journal later file file') (sym is) ok
  rebuilt_left mid size (Err failed) answer is fine same cause ok err =
      subst (LeavesRebuilt g k h journal later file file') (sym is) (record {
        fine = fine;
        failed = subst (λ n. Rose n (k.faults file')) same cause.failed;
        left = err;
      })

-- what is said of a failure
pub on_err : {A E : Type 0} {P : Type 0} (r : Result A E) → P → OnErr r P
on_err (Ok x) p = tt
on_err (Err e) p = p
