-- What comes of storing tiles in the command of a mirror that was opened just now.
use Rattle.std.proofs.Common.{◌≡◌, ◌≤◌, ℕ, Bool, true, false, List, [], ◌∷◌, ◌++◌}
use Rattle.std.proofs.Common.{Option, None, Some, IfSome, IsOk, Result, Ok, Err, inl, inr}
use Rattle.std.proofs.Common.{option_map, refl, sym, subst, ap, ◌∙◌, arith, if◌then◌else◌}
use Rattle.std.specs.Prelude.{◌≢◌, map, option_and_then}
use Rattle.byte_formats.specs.Types.{Hash, Text}
use Rattle.byte_formats.proofs.Steps.{ok_is}
use Rattle.disk_core.specs.Times.{LeavesOnly, OnlyReads}
use Rattle.disk_core.specs.declared.disk.Disk.{Ghosts}
use Rattle.disk_core.proofs.Times.{nothing_read, started}
use Rattle.issuance_log.specs.Records.{tiles_record}
use Rattle.journal_core.specs.Format.{Represents, RepresentsEither, end_offset}
use Rattle.journal_core.specs.declared.error.AppendError.TheVariants as append_error
use Rattle.mtc_io.specs.Counts.{Rose}
use Rattle.tile_store.specs.Contents.{HoldsTiles}
use Rattle.tree_core.specs.Tree.{leaf_hash}
use Rattle.tree_core.specs.declared.hashing.TreeHash.{Ghosts as Hashes}
use Rattle.mirror_core.specs.Folds.{MirrorState, MirrorView, entries_in_mirror, mirror_of}
use Rattle.mirror_core.specs.Folds.{mirror_tiled_to, mirror_with, view_in_mirror}
use Rattle.mirror_core.specs.Folds.{with_mirror_tiles}
use Rattle.mirror_core.specs.Refusals.{MirrorCounts, MirrorTilesKeepTo, full_mirror_size}
use Rattle.mirror_core.specs.Refusals.{mirror_tile_refusal}
use Rattle.mirror_core.specs.Words.{KeepsMirrorTiles, MirrorAppends, MirrorTilesStandAfter}
use Rattle.mirror_core.specs.Words.{MirrorWouldTake, mirror_both_records, mirror_broken}
use Rattle.mirror_core.specs.Words.{mirror_disk, mirror_end, mirror_records}
use Rattle.mirror_core.specs.Words.{mirror_tiles_disk, mirror_view}
use Rattle.mirror_core.specs.declared.error.MirrorError.{MirrorError}
use Rattle.mirror_core.specs.declared.error.MirrorError.TheVariants.{Append, Failed, Memory}
use Rattle.mirror_core.specs.declared.error.MirrorError.TheVariants.{NothingNew}
use Rattle.mirror_core.specs.declared.mirror.Mirror.{Mirror}
use Rattle.mtc_command.specs.Answers.{no_memory, replied, room_failed, said, status_of, tiles_name}
use Rattle.mtc_command.specs.Made.{IsOpen, MayAdd}
use Rattle.mtc_command.specs.Steps.{Outcome}
use Rattle.mtc_command.specs.Stored.{HasStoredBoth, StoresBoth}
use Rattle.mtc_command.specs.Valid.{AddsValid}
use Rattle.mtc_command.specs.Works.{journaled_by}
use Rattle.mtc_command.specs.declared.answer.Said.TheVariants.{Done}
use Rattle.mtc_command.proofs.Made.{OnlyNow}
use Rattle.mtc_command.proofs.Works.{both_some, each_some}
use Rattle.mtc_tiled.specs.BadTiles.{tiled_line}
use Rattle.mtc_mirror.specs.MirrorOutcomes.{MayRefuseMirrorTiles, mirror_ending, mirror_tile_says}
use Rattle.mtc_mirror.specs.MirrorOutcomes.{mirror_tiled_by, not_mirrored}
use Rattle.mtc_mirror.specs.StoredTiles.{HasMirrorTilesOf, StoresMirror}
use Rattle.mtc_mirror.specs.Works.{HasWorkedOnMirror, IsMirror, IsReadyMirror, StaysMirror}
use Rattle.mtc_mirror.specs.Works.{found_mirror}
use Rattle.mtc_mirror.proofs.Appends.{lost_so, made_so, refused_so, spared_so}
use Rattle.mtc_mirror.proofs.Opened.{made_some}

-- a crash state of now is one of those since an earlier time
abbrev pub CountsNow : {D : Type 0} → Ghosts D → Type 0
CountsNow {D} g = (d : D) (t : ℕ) (c : Text) → t ≤ g.clock_at d → g.may_leave d c
    → g.left_since d t c

-- nothing was done
pub nothing_kept : {H D : Type 0} {hashes : Hashes H} {g : Ghosts D}
    (mirror : Mirror H D D hashes g g) → OnlyNow g → StoresMirror mirror_tile_says mirror mirror
nothing_kept {g = g} mirror only_now = each_some (mirror_both_records mirror) _
    (λ list opened made. inl (
      nothing_read g (mirror_disk mirror) (only_now (mirror_disk mirror)),
      nothing_read g (mirror_tiles_disk mirror) (only_now (mirror_tiles_disk mirror)),
    ))

tests : (nothing over : Bool)
    → (if nothing then Some NothingNew
    else option_map Append (if over then Some append_error.Full else None))
    ≡ Some (Append append_error.Broken) → ⊥
tests true over is = absurd cc
tests false true is = absurd cc
tests false false is = absurd cc

not_broken : (v : MirrorView) (end : ℕ)
    → mirror_tile_refusal v false end ≡ Some (Append append_error.Broken) → ⊥
unfolding mirror_tile_refusal
not_broken v end is = tests _ _ is

module _ {H D : Type 0} {hashes : Hashes H} {g : Ghosts D} (name : Text)
    (old : Mirror H D D hashes g g) (ready : IsReadyMirror old) (only_now : OnlyNow g) where
  abbrev v : MirrorView
  v = mirror_view old

  abbrev size : ℕ
  size = full_mirror_size v

  abbrev body : Text
  body = tiles_record size

  abbrev state : List Text → MirrorState
  state list = mirror_with v list

  abbrev refusal : Option MirrorError
  refusal = mirror_tile_refusal v (mirror_broken old) (mirror_end old)

  abbrev says : List Text → Outcome
  says list = mirror_tile_says (found_mirror (state list) list)

  -- what the mirror refuses is what the outcome of its records refuses
  same : (why : Option MirrorError) → refusal ≡ why
      → IfSome (mirror_records old) (λ list. mirror_tiled_by v list why ≡ says list)
  same why is = both_some (mirror_records old) ready.end
      (made_some (mirror_with v) (mirror_records old) (λ s. view_in_mirror s ≡ v) ready.view)
      (λ list end view. ap (mirror_tiled_by v list)
      (sym is ∙ (ap (λ b. mirror_tile_refusal v b (mirror_end old)) ready.sound
      ∙ ap (mirror_tile_refusal v false) end))
      ∙ ap (λ (u : MirrorView).
      mirror_tiled_by u list (mirror_tile_refusal u false (end_offset list))) (sym view))

  no_read : OnlyReads g (mirror_disk old) (mirror_disk old)
  no_read = nothing_read g (mirror_disk old) (only_now (mirror_disk old))

  -- memory was refused before
  pub unstored : HasWorkedOnMirror name mirror_tile_says old old no_memory
  unstored = spared_so name old old old ready no_read refl says no_read

  module _ (new : Mirror H D D hashes g g) where
    abbrev pub HasTiled : Result ℕ MirrorError → Type 0
    HasTiled result = MirrorAppends body (mirror_tiled_to size) (with_mirror_tiles size) old new
        result

    only : mirror_disk new ≡ mirror_disk old → OnlyReads g (mirror_disk old) (mirror_disk new)
    only kept = subst (OnlyReads g (mirror_disk old)) (sym kept) no_read

    -- ---- how it ends

    pub tiled_so : (answer : ℕ) → refusal ≡ None → HasTiled (Ok answer)
        → HasWorkedOnMirror name mirror_tile_says old new (replied (said Done (tiled_line size)))
    tiled_so answer free run = made_so name old old new ready no_read refl says body
        (tiled_line size) (same None free) run.journal.count (run.journal.any_time ready.sound)
        run.journal.kept

    refuses : (why : MirrorError) → status_of (not_mirrored why) ≢ 1 → refusal ≡ Some why
        → mirror_disk new ≡ mirror_disk old
        → HasWorkedOnMirror name mirror_tile_says old new (replied (not_mirrored why))
    refuses why code is kept = refused_so name old old new ready no_read refl says
        (not_mirrored why) (same (Some why) is) code (only kept)

    -- the device of the tiles failed, and that of the journal had no call
    may_add : (u : MirrorView) (list : List Text) (why : Option MirrorError)
        → IsOpen g (mirror_disk old) list
        → MayAdd g (journaled_by (mirror_tiled_by u list why)) (mirror_disk old) (mirror_disk old)
    may_add u list None opened = (
      opened,
      started g (mirror_disk old)
          (RepresentsEither list (tiles_record (full_mirror_size u)))
          (only_now (mirror_disk old)) (λ c left. inl (opened.all c left)),
      λ c left. inl (opened.all c left),
    )
    may_add u list (Some why) opened = (opened, inl refl)

    beside_so : Rose (g.faults (mirror_tiles_disk old)) (g.faults (mirror_tiles_disk new))
        → mirror_disk new ≡ mirror_disk old
        → HasWorkedOnMirror name mirror_tile_says old new (room_failed (tiles_name name))
    beside_so rose kept = record {
      ends = record {
        plain = tt;
        later = (let fine = ap g.faults kept in omega (arith, fine));
        fault = inr (refl, rose);
      };
      reply = tt;
      adds = each_some (mirror_both_records old) _ (λ list opened.
          subst (MayAdd g (journaled_by (says list)) (mirror_disk old)) (sym kept)
          (may_add (view_in_mirror (state list)) list _ opened));
    }

    pub not_tiled_so : (why : MirrorError) → MayRefuseMirrorTiles why → HasTiled (Err why)
        → MirrorTilesKeepTo refusal (Err why)
        → MirrorCounts {X = ℕ} (g.faults (mirror_tiles_disk old))
        (g.faults (mirror_tiles_disk new)) (Err why)
        → HasWorkedOnMirror name mirror_tile_says old new
        (mirror_ending name (tiles_name name) why)
    not_tiled_so NothingNew may run is counts =
        refuses NothingNew (λ e. absurd cc) is run.journal.leaves.disk
    not_tiled_so Failed may run is counts = beside_so counts run.journal.leaves.disk
    not_tiled_so (Append append_error.Full) may run is counts =
        refuses (Append append_error.Full) (λ e. absurd cc) is run.journal.leaves.disk
    not_tiled_so (Append append_error.Failed) may run is counts =
        lost_so name old old new ready no_read refl says body (tiled_line size) (same None is)
        run.journal.count (run.journal.any_time ready.sound) run.journal.leaves.cause
        (run.journal.afterwards ready.sound)
    not_tiled_so Memory may run is counts =
        spared_so name old old new ready no_read refl says (only run.journal.leaves.disk)
    not_tiled_so other may run is counts = absurd may

    pub may_refuse_tiles : (why : MirrorError) → MirrorTilesKeepTo refusal (Err why)
        → MayRefuseMirrorTiles why
    may_refuse_tiles NothingNew is = tt
    may_refuse_tiles Failed is = tt
    may_refuse_tiles Memory is = tt
    may_refuse_tiles (Append append_error.Failed) is = tt
    may_refuse_tiles (Append append_error.Full) is = tt
    may_refuse_tiles (Append append_error.Broken) is = not_broken v (mirror_end old)
        (sym (ap (λ b. mirror_tile_refusal v b (mirror_end old)) ready.sound) ∙ is)
    may_refuse_tiles other is = absurd is

    -- ---- what is left

    -- where tiles are refused, the device of the journal had no call
    kept_disk : (result : Result ℕ MirrorError) → MirrorTilesKeepTo refusal result
        → HasTiled result → refusal ≢ None → mirror_disk new ≡ mirror_disk old
    kept_disk (Ok answer) is run some = absurd (some is)
    kept_disk (Err NothingNew) is run some = run.journal.leaves.disk
    kept_disk (Err Failed) is run some = run.journal.leaves.disk
    kept_disk (Err (Append append_error.Full)) is run some = run.journal.leaves.disk
    kept_disk (Err (Append append_error.Broken)) is run some = run.journal.leaves.disk
    kept_disk (Err (Append append_error.Failed)) is run some = absurd (some is)
    kept_disk (Err Memory) is run some = run.journal.leaves.disk
    kept_disk (Err other) is run some = absurd is

    abbrev Made : List Text → Type 0
    Made list = mirror_of hashes.hash (list ++ body ∷ []) ≡ Ok (with_mirror_tiles size (state list))

    adds_by : (list : List Text) (why : Option MirrorError) → (why ≡ None → Made list)
        → AddsValid (IsMirror hashes.hash) (journaled_by (mirror_tiled_by v list why))
    adds_by list None made = subst IsOk (sym (made refl)) refl
    adds_by list (Some why) made = tt

    each_made : (o : Option (List Text)) → (refusal ≡ None → IfSome o Made)
        → IfSome o (λ list. refusal ≡ None → Made list)
    each_made None would = tt
    each_made (Some list) would = would

    pub tiled_valid : (refusal ≡ None → MirrorWouldTake body (with_mirror_tiles size) old)
        → StaysMirror hashes.hash mirror_tile_says old new
    tiled_valid would = inr (both_some (mirror_records old) (same refusal refl)
        (each_made (mirror_records old) would) (λ list equal made. subst (λ (o : Outcome).
        AddsValid (IsMirror hashes.hash) (journaled_by o)) equal (adds_by list refusal made)))

    abbrev leaves_in : List Text → List Hash
    leaves_in list = map (leaf_hash hashes.hash) (entries_in_mirror (state list))

    module _ (now : CountsNow g) (list : List Text)
        (made : mirror_of hashes.hash list ≡ Ok (state list))
        (opened : IsOpen g (mirror_disk old) list)
        (either : LeavesOnly g (mirror_disk old) (mirror_disk new) (RepresentsEither list body))
        (after : (c : Text) → g.may_leave (mirror_disk new) c → RepresentsEither list body c)
        (keeps : ((c : Text) → g.may_leave (mirror_tiles_disk old) c
        → HoldsTiles hashes.hash (leaves_in list) v.tiled c)
        → LeavesOnly g (mirror_tiles_disk old) (mirror_tiles_disk new)
        (HoldsTiles hashes.hash (leaves_in list) v.tiled))
        (following : (c : Text) → g.left_since (mirror_disk new) (g.clock_at (mirror_disk old)) c
        → Represents c (list ++ body ∷ []) → (d : Text) → g.may_leave (mirror_tiles_disk new) d
        → HoldsTiles hashes.hash (leaves_in list) size d) where
      abbrev Goes : List Text → Text → Type 0
      Goes = HasMirrorTilesOf hashes.hash

      abbrev Holds : Text → MirrorState → Type 0
      Holds c u = HoldsTiles hashes.hash (map (leaf_hash hashes.hash) (entries_in_mirror u)) u.tiled
          c

      keeps_going : ((c : Text) → g.may_leave (mirror_tiles_disk old) c → Goes list c) → (c : Text)
          → g.may_leave (mirror_tiles_disk new) c → Goes list c
      keeps_going all c at s is =
          let stays = keeps (λ d there. all d there (state list) made) in
          subst (Holds c) (ok_is ℕ (state list) s (sym made ∙ is))
          (stays.each c (now (mirror_tiles_disk new) (g.clock_at (mirror_tiles_disk old)) c
          stays.later at))

      goes_after : Made list → (c : Text) → g.may_leave (mirror_disk new) c
          → Represents c (list ++ body ∷ []) → (d : Text) → g.may_leave (mirror_tiles_disk new) d
          → Goes (list ++ body ∷ []) d
      goes_after taken c at stands d there s is =
          subst (Holds d) (ok_is ℕ (with_mirror_tiles size (state list)) s (sym taken ∙ is))
          (following c (now (mirror_disk new) (g.clock_at (mirror_disk old)) c either.later at)
          stands d there)

      stores_by : (why : Option MirrorError) → (why ≡ None → Made list)
          → (why ≢ None → mirror_disk new ≡ mirror_disk old)
          → StoresBoth Goes (IsMirror hashes.hash) (journaled_by (mirror_tiled_by v list why))
          (g.may_leave (mirror_disk new)) (g.may_leave (mirror_tiles_disk old))
          (g.may_leave (mirror_tiles_disk new))
      stores_by None taken kept = record {
        valid = subst IsOk (sym (taken refl)) refl;
        stands = after;
        left = record {
          keeps = keeps_going;
          following = λ all. goes_after (taken refl);
        };
      }
      stores_by (Some why) taken kept = record {
        valid = tt;
        stands = subst (λ d. (c : Text) → g.may_leave d c → Represents c list)
            (sym (kept (λ is. absurd cc))) opened.all;
        left = keeps_going;
      }

    abbrev Stored : List Text → Type 0
    Stored list = IsOpen g (mirror_disk old) list → mirror_of hashes.hash list ≡ Ok (state list)
        → HasStoredBoth (HasMirrorTilesOf hashes.hash) (IsMirror hashes.hash) g
        (journaled_by (says list)) (mirror_disk old) (mirror_disk new) (mirror_tiles_disk old)
        (mirror_tiles_disk new)

    abbrev leaves_of : Option (List Text) → Option Text → Option (List Hash)
    leaves_of records contents =
        option_map (λ s. map (leaf_hash hashes.hash) (entries_in_mirror s))
        (option_map (mirror_with v) (option_and_then (λ tiles. records) contents))

    stores_for : (records : Option (List Text)) (contents : Option Text) → CountsNow g
        → IfSome records (λ list. mirror_tiled_by v list refusal ≡ says list)
        → IfSome records (λ list.
        LeavesOnly g (mirror_disk old) (mirror_disk new) (RepresentsEither list body))
        → IfSome records (λ list. (c : Text) → g.may_leave (mirror_disk new) c
        → RepresentsEither list body c)
        → IfSome (leaves_of records contents) (λ leaves.
        ((c : Text) → g.may_leave (mirror_tiles_disk old) c
        → HoldsTiles hashes.hash leaves v.tiled c)
        → LeavesOnly g (mirror_tiles_disk old) (mirror_tiles_disk new)
        (HoldsTiles hashes.hash leaves v.tiled))
        → IfSome (leaves_of records contents) (λ leaves. IfSome records (λ list. (c : Text)
        → g.left_since (mirror_disk new) (g.clock_at (mirror_disk old)) c
        → Represents c (list ++ body ∷ [])
        → (d : Text) → g.may_leave (mirror_tiles_disk new) d
        → HoldsTiles hashes.hash leaves size d))
        → (refusal ≡ None → IfSome records Made)
        → (refusal ≢ None → mirror_disk new ≡ mirror_disk old)
        → IfSome (option_and_then (λ tiles. records) contents) Stored
    stores_for None None now equal either after keeps following taken kept = tt
    stores_for None (Some bytes) now equal either after keeps following taken kept = tt
    stores_for (Some list) None now equal either after keeps following taken kept = tt
    stores_for (Some list) (Some bytes) now equal either after keeps following taken kept =
        λ opened made. inr (subst (λ (o : Outcome). StoresBoth (HasMirrorTilesOf hashes.hash)
        (IsMirror hashes.hash) (journaled_by o) (g.may_leave (mirror_disk new))
        (g.may_leave (mirror_tiles_disk old)) (g.may_leave (mirror_tiles_disk new))) equal
        (stores_by now list made opened either after keeps following refusal taken kept))

    -- tiles were stored, or refused
    pub tiled_stored : (result : Result ℕ MirrorError) → CountsNow g → HasTiled result
        → MirrorTilesKeepTo refusal result → KeepsMirrorTiles v.tiled old new
        → MirrorTilesStandAfter body size old new
        → (refusal ≡ None → MirrorWouldTake body (with_mirror_tiles size) old)
        → StoresMirror mirror_tile_says old new
    tiled_stored result now run answer keeps following would =
        stores_for (mirror_records old) (g.contents (mirror_tiles_disk old)) now
        (same refusal refl) (run.journal.any_time ready.sound)
        (run.journal.afterwards ready.sound) keeps (following ready.sound) would
        (kept_disk result answer run)
