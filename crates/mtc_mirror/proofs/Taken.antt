-- What comes of a file of items in the command of a mirror that was opened just now.
use Rattle.std.proofs.Common.{◌≡◌, ◌⊎◌, ◌≤◌, ℕ, ◌+◌, Bool, true, false, List, [], ◌∷◌, ◌++◌, length}
use Rattle.std.proofs.Common.{Option, None, Some, IfSome, IsOk, Result, Ok, Err, inl, inr}
use Rattle.std.proofs.Common.{option_map, refl, sym, subst, ap, ◌∙◌, arith, if◌then◌else◌}
use Rattle.std.specs.Prelude.{◌≢◌, OnOk}
use Rattle.std.proofs.lemmas.Option.{IfSome_then}
use Rattle.byte_formats.specs.Types.{Text}
use Rattle.disk_core.specs.Times.{OnlyReads}
use Rattle.disk_core.specs.declared.disk.Disk.{Ghosts}
use Rattle.disk_core.proofs.Times.{nothing_read, weaker}
use Rattle.journal_core.specs.Format.{RepresentsEither, end_offset}
use Rattle.journal_core.specs.Owners.{OwnerLeaves}
use Rattle.journal_core.specs.Words.{AllRepresent}
use Rattle.mtc_io.specs.Counts.{Rose}
use Rattle.journal_core.specs.declared.error.AppendError.TheVariants as append_error
use Rattle.tree_core.specs.declared.hashing.TreeHash.{Ghosts as Hashes}
use Rattle.mirror_core.specs.Folds.{MirrorView, mirror_of, mirror_with, more_mirrored}
use Rattle.mirror_core.specs.Folds.{view_in_mirror, with_mirrored}
use Rattle.mirror_core.specs.Kept.{HasMirrorNumbers}
use Rattle.mirror_core.specs.Records.{all_mirrored, mirror_batch_record}
use Rattle.mirror_core.specs.Refusals.{MirrorCountsAll, TakeAnswers, TakeKeepsTo}
use Rattle.mirror_core.specs.Refusals.{first_difference, next_batch, take_refusal}
use Rattle.mirror_core.specs.Words.{MirrorReadsAndAppends, MirrorWouldTake, mirror_both_records}
use Rattle.mirror_core.specs.Words.{mirror_broken, mirror_disk, mirror_end, mirror_owner}
use Rattle.mirror_core.specs.Words.{mirror_records, mirror_tiles_disk, mirror_view}
use Rattle.mirror_core.specs.Words.{of_mirror_journal}
use Rattle.mirror_core.specs.declared.error.MirrorError.{MirrorError}
use Rattle.mirror_core.specs.declared.error.MirrorError.TheVariants.{Append, Differs}
use Rattle.mirror_core.specs.declared.error.MirrorError.TheVariants.{Failed, Memory, NothingNew}
use Rattle.mirror_core.specs.declared.error.MirrorError.TheVariants.{TooLarge}
use Rattle.mirror_core.specs.declared.mirror.Mirror.{Mirror}
use Rattle.mtc_command.specs.Answers.{replied, room_failed, said, status_of}
use Rattle.mtc_command.specs.Made.{IsOpen, MayAdd}
use Rattle.mtc_command.specs.Steps.{Outcome}
use Rattle.mtc_command.specs.Stored.{HasStoredBoth, StoresBoth}
use Rattle.mtc_command.specs.Valid.{AddsValid}
use Rattle.mtc_command.specs.Works.{journaled_by}
use Rattle.mtc_command.specs.declared.answer.Said.TheVariants.{Done}
use Rattle.mtc_command.proofs.Made.{OnlyNow}
use Rattle.mtc_command.proofs.Works.{both_some, each_some}
use Rattle.mtc_mirror.specs.MirrorOutcomes.{MayRefuseItems, mirror_ending, mirror_taken_by}
use Rattle.mtc_mirror.specs.MirrorOutcomes.{mirrored_line, not_mirrored, take_says}
use Rattle.mtc_mirror.specs.StoredTiles.{HasMirrorTilesOf, StoresMirror}
use Rattle.mtc_mirror.specs.Works.{HasWorkedOnMirror, IsMirror, IsReadyMirror, StaysMirror}
use Rattle.mtc_mirror.specs.Works.{found_mirror}
use Rattle.mtc_mirror.proofs.Appends.{known_more, lost_so, made_so, refused_so, same_records}
use Rattle.mtc_mirror.proofs.Appends.{spared_so}
use Rattle.mtc_mirror.proofs.Opened.{made_some}
use Rattle.mtc_mirror.proofs.Stored.{mirrored_goes}

-- ---- the refusal

-- items of which none is refused don't differ
no_difference : (d : Option ℕ) (size : ℕ) (broken : Bool) (end : ℕ) (items : List (Text × Text))
    → take_refusal d size broken end items ≡ None → take_refusal None size broken end items ≡ None
unfolding take_refusal
no_difference None size broken end items is = is
no_difference (Some number) size broken end items is =
    let wrong : Some (Differs number) ≡ None = is in absurd cc

tests : (nothing large over : Bool) (size : ℕ)
    → (if nothing then Some NothingNew else (if large then Some (TooLarge size)
    else option_map Append (if over then Some append_error.Full else None)))
    ≡ Some (Append append_error.Broken) → ⊥
tests true large over size is = absurd cc
tests false true over size is = absurd cc
tests false false true size is = absurd cc
tests false false false size is = absurd cc

not_broken : (d : Option ℕ) (size end : ℕ) (items : List (Text × Text))
    → take_refusal d size false end items ≡ Some (Append append_error.Broken) → ⊥
unfolding take_refusal
not_broken None size end items is = tests _ _ _ size is
not_broken (Some number) size end items is =
    let wrong : Some (Differs number) ≡ Some (Append append_error.Broken) = is in absurd cc

-- ---- the command

module _ {H D : Type 0} {hashes : Hashes H} {g : Ghosts D} (name : Text)
    (items : List (Text × Text)) (old new : Mirror H D D hashes g g) (ready : IsReadyMirror old)
    (result : Result ℕ MirrorError)
    (run : MirrorReadsAndAppends (mirror_batch_record (next_batch (mirror_view old).size items))
    (more_mirrored (length (next_batch (mirror_view old).size items)))
    (with_mirrored (next_batch (mirror_view old).size items)) old new result)
    (answers : TakeAnswers (option_map (mirror_with (mirror_view old)) (mirror_records old))
    (mirror_view old).size (mirror_broken old) (mirror_end old) items result) where
  abbrev v : MirrorView
  v = mirror_view old

  abbrev taken : List (Text × Text)
  taken = next_batch v.size items

  abbrev body : Text
  body = mirror_batch_record taken

  abbrev text : Text
  text = mirrored_line (v.size + length taken)

  abbrev read : Mirror H D D hashes g g
  read = run.read

  abbrev refusal : Option MirrorError
  refusal = take_refusal answers.difference v.size (mirror_broken old) (mirror_end old) items

  abbrev says : List Text → Outcome
  says list = take_says items (found_mirror (mirror_with v list) list)

  reads : OnlyReads g (mirror_disk old) (mirror_disk read)
  reads = run.reads.stays.only_reads

  records : mirror_records read ≡ mirror_records old
  records = same_records old read reads run.reads.stays.end

  sound : mirror_broken read ≡ false
  sound = run.reads.stays.broken ∙ ready.sound

  -- what the mirror refuses is what the outcome of its records refuses
  same_refusal : (list : List Text) → mirror_end old ≡ end_offset list
      → view_in_mirror (mirror_with v list) ≡ v
      → answers.difference ≡ first_difference (all_mirrored list) items
      → refusal ≡ take_refusal (first_difference (all_mirrored list) items)
      (length (all_mirrored list)) false (end_offset list) items
  same_refusal list end view first =
      ap (λ d. take_refusal d v.size (mirror_broken old) (mirror_end old) items) first
      ∙ (ap (λ n. take_refusal (first_difference (all_mirrored list) items) n (mirror_broken old)
      (mirror_end old) items) (sym (ap (λ (u : MirrorView). u.size) view))
      ∙ (ap (λ b. take_refusal (first_difference (all_mirrored list) items)
      (length (all_mirrored list)) b (mirror_end old) items) ready.sound
      ∙ ap (λ e. take_refusal (first_difference (all_mirrored list) items)
      (length (all_mirrored list)) false e items) end))

  -- what it shows is what its records make, and the difference is that of its items
  abbrev IsKnown : List Text → Type 0
  IsKnown list = (view_in_mirror (mirror_with v list) ≡ v)
      × (answers.difference ≡ first_difference (all_mirrored list) items)

  known : IfSome (mirror_records old) IsKnown
  known = both_some {R = IsKnown} (mirror_records old)
      (made_some (mirror_with v) (mirror_records old) (λ s. view_in_mirror s ≡ v) ready.view)
      (made_some (mirror_with v) (mirror_records old)
      (λ s. answers.difference ≡ first_difference s.items items) answers.first)
      (λ list view first. (view, first))

  same : (why : Option MirrorError) → refusal ≡ why
      → IfSome (mirror_records old) (λ list. mirror_taken_by items v list why ≡ says list)
  same why is = both_some (mirror_records old) ready.end known
      (λ list end both. ap (mirror_taken_by items v list)
      (sym is ∙ same_refusal list end both.0 both.1)
      ∙ ap (λ (u : MirrorView). mirror_taken_by items u list
      (take_refusal (first_difference (all_mirrored list) items) (length (all_mirrored list)) false
      (end_offset list) items)) (sym both.0))

  -- ---- what is left

  abbrev Leaves : Result ℕ MirrorError → Type 0
  Leaves r = OwnerLeaves g of_mirror_journal body (more_mirrored (length taken) (mirror_view read))
      (mirror_owner read) (mirror_owner new) r

  -- where it isn't lost, the journal was only read
  kept_disk : (why : MirrorError) → why ≢ Append append_error.Failed → Leaves (Err why)
      → mirror_disk new ≡ mirror_disk read
  kept_disk (Append append_error.Failed) other leaves = absurd (other refl)
  kept_disk (Append append_error.Full) other leaves = leaves.disk
  kept_disk (Append append_error.Broken) other leaves = leaves.disk
  kept_disk why other leaves = leaves.disk

  only_read : (why : MirrorError) → why ≢ Append append_error.Failed → Leaves (Err why)
      → OnlyReads g (mirror_disk old) (mirror_disk new)
  only_read why other leaves =
      subst (OnlyReads g (mirror_disk old)) (sym (kept_disk why other leaves)) reads

  -- nothing was refused, or the journal was only read
  abbrev WasTakenOrKept : Type 0
  WasTakenOrKept = OnlyReads g (mirror_disk old) (mirror_disk new) ⊎ (refusal ≡ None)

  by_result : (r : Result ℕ MirrorError) → Leaves r → TakeKeepsTo refusal r → WasTakenOrKept
  by_result (Ok size) leaves is = inr is
  by_result (Err (Append append_error.Failed)) leaves is = inr is
  by_result (Err (Append append_error.Full)) leaves is =
      inl (only_read (Append append_error.Full) (λ e. absurd cc) leaves)
  by_result (Err (Append append_error.Broken)) leaves is =
      inl (only_read (Append append_error.Broken) (λ e. absurd cc) leaves)
  by_result (Err why) leaves is = inl (only_read why (λ e. absurd cc) leaves)

  taken_or_kept : WasTakenOrKept
  taken_or_kept = by_result result run.appends.journal.leaves answers.answer

  after : IfSome (mirror_records old) (λ list. (c : Text) → g.may_leave (mirror_disk new) c
      → RepresentsEither list body c)
  after = subst (λ (o : Option (List Text)). IfSome o (λ list. (c : Text)
      → g.may_leave (mirror_disk new) c → RepresentsEither list body c)) records
      (run.appends.journal.afterwards sound)

  module _ (would : take_refusal None v.size (mirror_broken old) (mirror_end old) items ≡ None
      → MirrorWouldTake body (with_mirrored taken) old) where
    abbrev Made : List Text → Type 0
    Made list = mirror_of hashes.hash (list ++ body ∷ []) ≡ Ok (with_mirrored taken (mirror_with v
        list))

    it_makes : refusal ≡ None → IfSome (mirror_records old) Made
    it_makes free = would (no_difference answers.difference v.size (mirror_broken old)
        (mirror_end old) items free)

    -- the record makes a mirror with those before it
    pub taken_valid : StaysMirror hashes.hash (take_says items) old new
    taken_valid = elim taken_or_kept [
      | inl only ↦ inl (inr only)
      | inr free ↦ inr (both_some (mirror_records old) (same None free) (it_makes free)
          (λ list equal made. subst (λ (o : Outcome).
          AddsValid (IsMirror hashes.hash) (journaled_by o)) equal (subst IsOk (sym made) refl)))
    ]

    module _ (numbers : HasMirrorNumbers v) (only_now : OnlyNow g)
        (alone : mirror_tiles_disk new ≡ mirror_tiles_disk old) where
      still : OnlyReads g (mirror_tiles_disk old) (mirror_tiles_disk new)
      still = subst (OnlyReads g (mirror_tiles_disk old)) (sym alone)
          (nothing_read g (mirror_tiles_disk old) (only_now (mirror_tiles_disk old)))

      abbrev Stored : List Text → Type 0
      Stored list = IsOpen g (mirror_disk old) list
          → mirror_of hashes.hash list ≡ Ok (mirror_with v list)
          → HasStoredBoth (HasMirrorTilesOf hashes.hash) (IsMirror hashes.hash) g
          (journaled_by (says list)) (mirror_disk old) (mirror_disk new) (mirror_tiles_disk old)
          (mirror_tiles_disk new)

      goes_on : (list : List Text) → view_in_mirror (mirror_with v list) ≡ v → Made list
          → mirror_of hashes.hash list ≡ Ok (mirror_with v list) → (t : Text)
          → HasMirrorTilesOf hashes.hash list t
          → HasMirrorTilesOf hashes.hash (list ++ body ∷ []) t
      goes_on list view made is t =
          let same_size : length (all_mirrored list) ≡ v.size
          = ap (λ (u : MirrorView). u.size) view in
          let few = numbers.tiled in
          mirrored_goes hashes.hash (mirror_with v list) (omega (arith, few, same_size)) t list body
          taken is made

      abbrev IsLeft : List Text → Type 0
      IsLeft list = (mirror_taken_by items v list None ≡ says list)
          × ((c : Text) → g.may_leave (mirror_disk new) c → RepresentsEither list body c)

      abbrev IsMade : List Text → Type 0
      IsMade list = Made list × (view_in_mirror (mirror_with v list) ≡ v)

      stored : refusal ≡ None → IfSome (mirror_records old) Stored
      stored free = both_some {P = IsLeft} {Q = IsMade} (mirror_records old)
          (both_some {R = IsLeft} (mirror_records old) (same None free) after
          (λ list equal left. (equal, left)))
          (both_some {R = IsMade} (mirror_records old) (it_makes free)
          (made_some (mirror_with v) (mirror_records old) (λ s. view_in_mirror s ≡ v) ready.view)
          (λ list made view. (made, view)))
          (λ list first second opened is. inr (subst (λ (o : Outcome).
          StoresBoth (HasMirrorTilesOf hashes.hash) (IsMirror hashes.hash) (journaled_by o)
          (g.may_leave (mirror_disk new)) (g.may_leave (mirror_tiles_disk old))
          (g.may_leave (mirror_tiles_disk new))) first.0 (record {
            valid = subst IsOk (sym second.0) refl;
            stands = first.1;
            left = record {
              keeps = λ all c at. all c (still.crash c at);
              following = λ all c at stands t there. goes_on list second.1 second.0 is t
                  (all t (still.crash t there));
            };
          })))

      -- what is left of the tiles goes with the records
      pub taken_stored : StoresMirror (take_says items) old new
      taken_stored = elim taken_or_kept [
        | inl only ↦ each_some (mirror_both_records old) _ (λ list opened made. inl (only, still))
        | inr free ↦ known_more Stored (mirror_records old) (g.contents (mirror_tiles_disk old))
            (stored free)
      ]

  -- ---- how it ends

  abbrev Counts : Result ℕ MirrorError → Type 0
  Counts r = MirrorCountsAll (g.faults (mirror_disk old)) (g.faults (mirror_disk new)) r

  later_so : g.faults (mirror_disk old) ≤ g.faults (mirror_disk new)
  later_so =
      let first = reads.faults in
      let second = run.appends.journal.count in
      omega (arith, first, second)

  pub taken_so : (size : ℕ) → result ≡ Ok size
      → HasWorkedOnMirror name (take_says items) old new (replied (said Done text))
  taken_so size is =
      made_so name old read new ready reads records says body text (same None free) later_so
      (run.appends.journal.any_time sound) kept
    where
      free : refusal ≡ None
      free = subst (TakeKeepsTo refusal) is answers.answer

      kept : IfSome (mirror_records read) (λ list.
          AllRepresent g (mirror_disk new) (list ++ body ∷ []))
      kept = subst (λ (r : Result ℕ MirrorError). OnOk r (IfSome (mirror_records read) (λ list.
          AllRepresent g (mirror_disk new) (list ++ body ∷ [])))) is run.appends.journal.kept

  -- the device of the journal failed before anything was refused
  may_add : (list : List Text) (why : Option MirrorError)
      → OnlyReads g (mirror_disk old) (mirror_disk new) → IsOpen g (mirror_disk old) list
      → MayAdd g (journaled_by (mirror_taken_by items v list why)) (mirror_disk old)
      (mirror_disk new)
  may_add list None only opened = (
    opened,
    weaker g (mirror_disk old) (mirror_disk new) (g.may_leave (mirror_disk old))
        (RepresentsEither list body) (λ c left. inl (opened.all c left)) only.times,
    λ c left. inl (opened.all c (only.crash c left)),
  )
  may_add list (Some why) only opened = (opened, inr only)

  failed_so : OnlyReads g (mirror_disk old) (mirror_disk new)
      → Rose (g.faults (mirror_disk old)) (g.faults (mirror_disk new))
      → HasWorkedOnMirror name (take_says items) old new (room_failed name)
  failed_so only rose = record {
    ends = record { plain = tt; later = only.faults; fault = inl (refl, rose) };
    reply = tt;
    adds = known_more _ (mirror_records old) (g.contents (mirror_tiles_disk old))
        (IfSome_then (mirror_records old) (same refusal refl) (λ list equal opened.
        subst (λ (o : Outcome). MayAdd g (journaled_by o) (mirror_disk old) (mirror_disk new)) equal
        (may_add list refusal only opened)));
  }

  refuses : (why : MirrorError) → status_of (not_mirrored why) ≢ 1 → refusal ≡ Some why
      → OnlyReads g (mirror_disk old) (mirror_disk new)
      → HasWorkedOnMirror name (take_says items) old new (replied (not_mirrored why))
  refuses why code is only = refused_so name old read new ready reads records says
      (not_mirrored why) (same (Some why) is) code only

  ends_so : (why : MirrorError) → MayRefuseItems why → Leaves (Err why)
      → TakeKeepsTo refusal (Err why) → Counts (Err why) → result ≡ Err why
      → HasWorkedOnMirror name (take_says items) old new (mirror_ending name name why)
  ends_so (Differs number) may leaves is counts same_result = refuses (Differs number)
      (λ e. absurd cc) is (only_read (Differs number) (λ e. absurd cc) leaves)
  ends_so NothingNew may leaves is counts same_result = refuses NothingNew (λ e. absurd cc) is
      (only_read NothingNew (λ e. absurd cc) leaves)
  ends_so (TooLarge size) may leaves is counts same_result = refuses (TooLarge size)
      (λ e. absurd cc) is (only_read (TooLarge size) (λ e. absurd cc) leaves)
  ends_so (Append append_error.Full) may leaves is counts same_result =
      refuses (Append append_error.Full) (λ e. absurd cc) is
      (only_read (Append append_error.Full) (λ e. absurd cc) leaves)
  ends_so (Append append_error.Failed) may leaves is counts same_result =
      lost_so name old read new ready reads records says body text (same None is) later_so
      (run.appends.journal.any_time sound) counts (run.appends.journal.afterwards sound)
  ends_so Failed may leaves is counts same_result =
      failed_so (only_read Failed (λ e. absurd cc) leaves) counts
  ends_so Memory may leaves is counts same_result =
      spared_so name old read new ready reads records says
      (only_read Memory (λ e. absurd cc) leaves)
  ends_so other may leaves is counts same_result = absurd may

  pub not_taken_so : (why : MirrorError) → MayRefuseItems why → result ≡ Err why → Counts result
      → HasWorkedOnMirror name (take_says items) old new (mirror_ending name name why)
  not_taken_so why may is counts = ends_so why may
      (subst Leaves is run.appends.journal.leaves)
      (subst (TakeKeepsTo refusal) is answers.answer) (subst Counts is counts) is

  may_by : (why : MirrorError) → TakeKeepsTo refusal (Err why) → MayRefuseItems why
  may_by (Differs number) is = tt
  may_by NothingNew is = tt
  may_by (TooLarge size) is = tt
  may_by Failed is = tt
  may_by Memory is = tt
  may_by (Append append_error.Failed) is = tt
  may_by (Append append_error.Full) is = tt
  may_by (Append append_error.Broken) is =
      not_broken answers.difference v.size (mirror_end old) items
      (sym (ap (λ b. take_refusal answers.difference v.size b (mirror_end old) items) ready.sound)
      ∙ is)
  may_by other is = absurd is

  -- a mirror that was opened just now refuses items so
  pub may_refuse_items : (why : MirrorError) → result ≡ Err why → MayRefuseItems why
  may_refuse_items why is = may_by why (subst (TakeKeepsTo refusal) is answers.answer)
