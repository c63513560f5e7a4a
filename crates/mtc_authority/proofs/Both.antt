-- What the work on a log leaves of its journal and of its tiles at once.
use Rattle.std.proofs.Common.{◌≡◌, ◌≢◌, ◌≤◌, ◌⊎◌, inl, inr, ℕ, Bool, false, List, [], ◌∷◌}
use Rattle.std.proofs.Common.{◌++◌, Option, None, Some, IfSome, IsOk, Result, Ok, Err, option_map}
use Rattle.std.proofs.Common.{refl, sym, subst, ap, ◌∙◌}
use Rattle.std.specs.Prelude.{map, option_and_then}
use Rattle.byte_formats.specs.Types.{Hash, Text}
use Rattle.byte_formats.proofs.Steps.{ok_is}
use Rattle.disk_core.specs.Times.{LeavesOnly, OnlyReads}
use Rattle.disk_core.specs.declared.disk.Disk.{Ghosts}
use Rattle.disk_core.proofs.Times.{nothing_read}
use Rattle.journal_core.specs.Format.{Represents, RepresentsEither, end_offset}
use Rattle.journal_core.specs.declared.error.AppendError.TheVariants as append_error
use Rattle.tile_store.specs.Contents.{HoldsTiles}
use Rattle.tree_core.specs.Tree.{leaf_hash}
use Rattle.tree_core.specs.declared.hashing.TreeHash.{Ghosts as Hashes}
use Rattle.issuance_log.specs.Folds.{LogState, LogView, log_of, tiled_to, view_in, with_tiles}
use Rattle.issuance_log.specs.Records.{tiles_record}
use Rattle.issuance_log.specs.Refusals.{TilesKeepTo, full_size, tile_refusal}
use Rattle.issuance_log.specs.Shown.{shown_with}
use Rattle.issuance_log.specs.Sound.{IsSound}
use Rattle.issuance_log.specs.Words.{KeepsTiles, LogAppends, TilesStandAfter, both_records}
use Rattle.issuance_log.specs.Words.{log_broken, log_disk, log_end, log_records}
use Rattle.issuance_log.specs.Words.{log_tiles_disk, modelled_state, view_of}
use Rattle.issuance_log.specs.declared.error.LogError.{LogError}
use Rattle.issuance_log.specs.declared.error.LogError.TheVariants.{NothingNew, Append, Memory}
use Rattle.issuance_log.specs.declared.error.LogError.TheVariants.{Failed as DiskFailed}
use Rattle.issuance_log.specs.declared.log.Log.{Log as OpenLog}
use Rattle.mtc_command.specs.Answers.{Ending, no_memory, replied, room_failed}
use Rattle.mtc_command.specs.Endings.{AddsBy}
use Rattle.mtc_command.specs.Made.{IsOpen, Journaled, appended, reads, started, untouched}
use Rattle.mtc_command.specs.Steps.{Outcome}
use Rattle.mtc_command.specs.Stored.{HasStoredBoth, StoresBoth}
use Rattle.mtc_command.specs.Valid.{AddsValid}
use Rattle.mtc_command.specs.Works.{journaled_by}
use Rattle.mtc_command.proofs.Beside.{only_reads_of}
use Rattle.mtc_command.proofs.Made.{OnlyNow}
use Rattle.mtc_command.proofs.Works.{each_some}
use Rattle.mtc_authority.specs.StoredTiles.{HasTilesOf, StoresLog, StoresTiles}
use Rattle.mtc_authority.specs.TileOutcome.{tile_says, tiled_by}
use Rattle.mtc_authority.specs.Works.{HasWorkedOnLog, IsLog, IsReadyLog, OnlyReadsTiles, StaysLog}
use Rattle.mtc_authority.specs.Works.{found_log, log_says}
use Rattle.mtc_authority.specs.declared.work.Work.{Work}
use Rattle.mtc_authority.specs.declared.work.Work.TheVariants.{Tile}
use Rattle.mtc_authority.proofs.Appends.{mapped_some}
use Rattle.mtc_authority.proofs.Plain.{IsPlain, says_plain}

-- a crash state of now is one of those since an earlier time
abbrev pub CountsNow : {D : Type 0} → Ghosts D → Type 0
CountsNow {D} g = (d : D) (t : ℕ) (c : Text) → t ≤ g.clock_at d → g.may_leave d c
    → g.left_since d t c

-- ---- `tile`

module _ {H D : Type 0} {hashes : Hashes H} {g : Ghosts D}
    (old new : OpenLog H D D hashes g g) (ready : IsReadyLog old) where
  abbrev refusal : Option LogError
  refusal = tile_refusal (view_of old) (log_broken old) (log_end old)

  abbrev size : ℕ
  size = full_size (view_of old)

  abbrev body : Text
  body = tiles_record size

  abbrev state : List Text → LogState
  state list = shown_with (view_of old) list

  abbrev leaves_in : List Text → List Hash
  leaves_in list = map (leaf_hash hashes.hash) (state list).entries

  abbrev HasTiled : Result ℕ LogError → Type 0
  HasTiled result = LogAppends body (tiled_to size) (with_tiles size) old new result

  abbrev IsTaken : List Text → Type 0
  IsTaken list = log_of hashes.hash (list ++ body ∷ []) ≡ Ok (with_tiles size (state list))

  -- where the log refuses the tiles, the device of the journal had no call
  same_disk : (result : Result ℕ LogError) → TilesKeepTo refusal result → HasTiled result
      → refusal ≢ None → log_disk new ≡ log_disk old
  same_disk (Ok answer) is run some = absurd (some is)
  same_disk (Err NothingNew) is run some = run.journal.leaves.disk
  same_disk (Err DiskFailed) is run some = run.journal.leaves.disk
  same_disk (Err (Append append_error.Full)) is run some = run.journal.leaves.disk
  same_disk (Err (Append append_error.Broken)) is run some = run.journal.leaves.disk
  same_disk (Err (Append append_error.Failed)) is run some = absurd (some is)
  same_disk (Err Memory) is run some = run.journal.leaves.disk
  same_disk (Err other) is run some = absurd is

  module _ (now : CountsNow g) (list : List Text)
      (made : log_of hashes.hash list ≡ Ok (state list)) (opened : IsOpen g (log_disk old) list)
      (either : LeavesOnly g (log_disk old) (log_disk new) (RepresentsEither list body))
      (after : (c : Text) → g.may_leave (log_disk new) c → RepresentsEither list body c)
      (keeps : ((c : Text) → g.may_leave (log_tiles_disk old) c
      → HoldsTiles hashes.hash (leaves_in list) (view_of old).tiled c)
      → LeavesOnly g (log_tiles_disk old) (log_tiles_disk new)
      (HoldsTiles hashes.hash (leaves_in list) (view_of old).tiled))
      (following : (c : Text) → g.left_since (log_disk new) (g.clock_at (log_disk old)) c
      → Represents c (list ++ body ∷ []) → (d : Text) → g.may_leave (log_tiles_disk new) d
      → HoldsTiles hashes.hash (leaves_in list) size d) where
    abbrev Goes : List Text → Text → Type 0
    Goes = HasTilesOf hashes.hash

    keeps_going : ((c : Text) → g.may_leave (log_tiles_disk old) c → Goes list c) → (c : Text)
        → g.may_leave (log_tiles_disk new) c → Goes list c
    keeps_going all c at s is =
        let stays = keeps (λ d there. all d there (state list) made) in
        subst (λ (u : LogState).
        HoldsTiles hashes.hash (map (leaf_hash hashes.hash) u.entries) u.tiled c)
        (ok_is ℕ (state list) s (sym made ∙ is))
        (stays.each c (now (log_tiles_disk new) (g.clock_at (log_tiles_disk old)) c stays.later at))

    goes_after : IsTaken list → (c : Text) → g.may_leave (log_disk new) c
        → Represents c (list ++ body ∷ []) → (d : Text) → g.may_leave (log_tiles_disk new) d
        → Goes (list ++ body ∷ []) d
    goes_after taken c at stands d there s is =
        subst (λ (u : LogState).
        HoldsTiles hashes.hash (map (leaf_hash hashes.hash) u.entries) u.tiled d)
        (ok_is ℕ (with_tiles size (state list)) s (sym taken ∙ is))
        (following c (now (log_disk new) (g.clock_at (log_disk old)) c either.later at) stands d
        there)

    stores_by : (why : Option LogError) → (why ≡ None → IsTaken list)
        → (why ≢ None → log_disk new ≡ log_disk old)
        → StoresBoth Goes (IsLog hashes.hash) (journaled_by (tiled_by (view_of old) list why))
        (g.may_leave (log_disk new)) (g.may_leave (log_tiles_disk old))
        (g.may_leave (log_tiles_disk new))
    stores_by None taken same = record {
      valid = subst IsOk (sym (taken refl)) refl;
      stands = after;
      left = record {
        keeps = keeps_going;
        following = λ all. goes_after (taken refl);
      };
    }
    stores_by (Some why) taken same = record {
      valid = tt;
      stands = subst (λ d. (c : Text) → g.may_leave d c → Represents c list)
          (sym (same (λ is. absurd cc))) opened.all;
      left = keeps_going;
    }

  abbrev leaves_of : Option (List Text) → Option Text → Option (List Hash)
  leaves_of records contents = option_map (λ s. map (leaf_hash hashes.hash) s.entries)
      (option_map state (option_and_then (λ tiles. records) contents))

  abbrev Stored : List Text → Type 0
  Stored list = IsOpen g (log_disk old) list → log_of hashes.hash list ≡ Ok (state list)
      → HasStoredBoth (HasTilesOf hashes.hash) (IsLog hashes.hash) g
      (journaled_by (tile_says (found_log (state list) list)))
      (log_disk old) (log_disk new) (log_tiles_disk old) (log_tiles_disk new)

  same_says : (list : List Text) → log_end old ≡ end_offset list
      → view_in (state list) ≡ view_of old
      → tiled_by (view_of old) list refusal ≡ tile_says (found_log (state list) list)
  same_says list end view =
      ap (tiled_by (view_of old) list)
      (ap (λ (b : Bool). tile_refusal (view_of old) b (log_end old)) ready.sound
      ∙ ap (tile_refusal (view_of old) false) end)
      ∙ ap (λ (v : LogView). tiled_by v list (tile_refusal v false (end_offset list))) (sym view)

  stores_for : (records : Option (List Text)) (contents : Option Text) → CountsNow g
      → IfSome records (λ list. log_end old ≡ end_offset list)
      → IfSome records (λ list. view_in (state list) ≡ view_of old)
      → IfSome records (λ list.
      LeavesOnly g (log_disk old) (log_disk new) (RepresentsEither list body))
      → IfSome records (λ list. (c : Text) → g.may_leave (log_disk new) c
      → RepresentsEither list body c)
      → IfSome (leaves_of records contents) (λ leaves.
      ((c : Text) → g.may_leave (log_tiles_disk old) c
      → HoldsTiles hashes.hash leaves (view_of old).tiled c)
      → LeavesOnly g (log_tiles_disk old) (log_tiles_disk new)
      (HoldsTiles hashes.hash leaves (view_of old).tiled))
      → IfSome (leaves_of records contents) (λ leaves. IfSome records (λ list. (c : Text)
      → g.left_since (log_disk new) (g.clock_at (log_disk old)) c → Represents c (list ++ body ∷ [])
      → (d : Text) → g.may_leave (log_tiles_disk new) d → HoldsTiles hashes.hash leaves size d))
      → (refusal ≡ None → IfSome records IsTaken)
      → (refusal ≢ None → log_disk new ≡ log_disk old)
      → IfSome (option_and_then (λ tiles. records) contents) Stored
  stores_for None None now end view either after keeps following taken same = tt
  stores_for None (Some bytes) now end view either after keeps following taken same = tt
  stores_for (Some list) None now end view either after keeps following taken same = tt
  stores_for (Some list) (Some bytes) now end view either after keeps following taken same =
      λ opened made. inr (subst (λ (o : Outcome). StoresBoth (HasTilesOf hashes.hash)
      (IsLog hashes.hash) (journaled_by o) (g.may_leave (log_disk new))
      (g.may_leave (log_tiles_disk old)) (g.may_leave (log_tiles_disk new)))
      (same_says list end view)
      (stores_by now list made opened either after keeps following refusal taken same))

  -- tiles were stored, or refused
  pub tiles_so : (result : Result ℕ LogError) → CountsNow g → HasTiled result
      → TilesKeepTo refusal result → KeepsTiles (view_of old).tiled old new
      → TilesStandAfter body size old new → (refusal ≡ None → IfSome (log_records old) IsTaken)
      → StoresLog tile_says old new
  tiles_so result now run answer keeps following taken =
      stores_for (log_records old) (g.contents (log_tiles_disk old)) now ready.end
      (mapped_some state (log_records old) (λ s. view_in s ≡ view_of old) ready.view)
      (run.journal.any_time ready.sound) (run.journal.afterwards ready.sound) keeps
      (following ready.sound) taken (same_disk result answer run)

module _ {H D : Type 0} {hashes : Hashes H} {g : Ghosts D} where
  -- nothing was done
  pub nothing_stored : (log : OpenLog H D D hashes g g) → OnlyNow g → StoresLog tile_says log log
  nothing_stored log only_now = each_some (both_records log) _ (λ list opened made. inl (
    nothing_read g (log_disk log) (only_now (log_disk log)),
    nothing_read g (log_tiles_disk log) (only_now (log_tiles_disk log)),
  ))

-- ---- the work of each other command

module _ {D : Type 0} (h : Text → Text) (g : Ghosts D) (mid new tiles tiles' : D)
    (only_now : OnlyNow g) (second : OnlyReads g tiles tiles') where
  abbrev Both : Journaled → Type 0
  Both did = HasStoredBoth (HasTilesOf h) (IsLog h) g did mid new tiles tiles'

  adds_both : (list : List Text) (body : Text) → AddsValid (IsLog h) (appended list body)
      → IsPlain h (appended list body)
      → ((c : Text) → g.may_leave new c → RepresentsEither list body c)
      → Both (appended list body)
  adds_both list body valid plain after = inr (record {
    valid = valid;
    stands = after;
    left = record {
      keeps = λ all c at. all c (second.crash c at);
      following = λ all c at stands t there. plain t (all t (second.crash t there));
    };
  })

  by_ending : (ending : Ending) (did : Journaled) → AddsBy g ending did mid new
      → AddsValid (IsLog h) did → IsPlain h did → Both did
  by_ending (replied reply) untouched adds valid plain = absurd adds
  by_ending (replied reply) (reads list) adds valid plain =
      inl (only_reads_of g mid new only_now adds.1, second)
  by_ending (replied reply) (appended list body) adds valid plain =
      adds_both list body valid plain (λ c at. inr (adds.2 c at))
  by_ending (replied reply) (started body) adds valid plain = absurd adds
  by_ending (room_failed file) untouched adds valid plain = absurd adds
  by_ending (room_failed file) (reads list) adds valid plain =
      inl (only_reads_of g mid new only_now adds.1, second)
  by_ending (room_failed file) (appended list body) adds valid plain =
      adds_both list body valid plain adds.2
  by_ending (room_failed file) (started body) adds valid plain = absurd adds
  by_ending no_memory did adds valid plain = inl (only_reads_of g mid new only_now adds, second)

module _ {H D : Type 0} {hashes : Hashes H} {g : Ghosts D} (name : Text)
    (old new : OpenLog H D D hashes g g) (only_now : OnlyNow g) where
  abbrev state_at : List Text → LogState
  state_at list = shown_with (view_of old) list

  abbrev says : Work → List Text → Outcome
  says work list = log_says hashes.hash work (found_log (state_at list) list)

  other_for : (work : Work) (ending : Ending) → work ≢ Tile
      → OnlyReads g (log_tiles_disk old) (log_tiles_disk new)
      → (records : Option (List Text)) (contents : Option Text)
      → IfSome records (λ list. AddsValid (IsLog hashes.hash) (journaled_by (says work list)))
      → IfSome (option_and_then (λ tiles. records) contents) (λ list. IsOpen g (log_disk old) list
      → AddsBy g ending (journaled_by (says work list)) (log_disk old) (log_disk new))
      → IfSome records (λ list. IsSound hashes.hash (state_at list))
      → IfSome (option_and_then (λ tiles. records) contents) (λ list. IsOpen g (log_disk old) list
      → log_of hashes.hash list ≡ Ok (state_at list)
      → HasStoredBoth (HasTilesOf hashes.hash) (IsLog hashes.hash) g (journaled_by (says work list))
      (log_disk old) (log_disk new) (log_tiles_disk old) (log_tiles_disk new))
  other_for work ending other second None None valid adds sound = tt
  other_for work ending other second None (Some bytes) valid adds sound = tt
  other_for work ending other second (Some list) None valid adds sound = tt
  other_for work ending other second (Some list) (Some bytes) valid adds sound = λ opened made.
      by_ending hashes.hash g (log_disk old) (log_disk new) (log_tiles_disk old)
      (log_tiles_disk new) only_now second ending (journaled_by (says work list)) (adds opened)
      valid
      (says_plain hashes.hash (state_at list) list sound.numbers.tiled made work other)

  other_so : (work : Work) (ending : Ending) → work ≢ Tile
      → HasWorkedOnLog name (log_says hashes.hash work) old new ending
      → StaysLog hashes.hash (log_says hashes.hash work) old new → OnlyReadsTiles work old new
      → IfSome (modelled_state old) (IsSound hashes.hash)
      → StoresLog (log_says hashes.hash work) old new
  other_so work ending other worked valid only sound =
      let second = only_reads_of g (log_tiles_disk old) (log_tiles_disk new) only_now
      (only other) in
      elim valid [
        | inl reads_only ↦ each_some (both_records old) _ (λ list opened made. inl (
          only_reads_of g (log_disk old) (log_disk new) only_now reads_only,
          second,
        ))
        | inr adds ↦ other_for work ending other second (log_records old)
            (g.contents (log_tiles_disk old)) adds worked.adds
            (mapped_some state_at (log_records old) (IsSound hashes.hash) sound)
      ]

  tile_or : (work : Work) → (work ≡ Tile) ⊎ (work ≢ Tile)
  tile_or Tile = inl refl
  tile_or other = inr (λ is. absurd cc)

  -- the work of each command
  pub log_stores : (work : Work) (ending : Ending)
      → HasWorkedOnLog name (log_says hashes.hash work) old new ending
      → StaysLog hashes.hash (log_says hashes.hash work) old new → OnlyReadsTiles work old new
      → StoresTiles work old new → IfSome (modelled_state old) (IsSound hashes.hash)
      → StoresLog (log_says hashes.hash work) old new
  unfolding log_says
  log_stores work ending worked valid only stores sound = elim (tile_or work) [
    | inl is ↦ subst (λ (w : Work). StoresLog (log_says hashes.hash w) old new) (sym is)
        (stores is)
    | inr other ↦ other_so work ending other worked valid only sound
  ]
