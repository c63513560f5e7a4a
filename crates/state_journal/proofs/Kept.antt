-- The durable records of a journal, over an append and without one.
use Rattle.std.proofs.Common.{◌≡◌, ℕ, true, false, List, [], ◌∷◌, ◌++◌, Option, Some}
use Rattle.std.proofs.Common.{None, IfSome, option_map, Ok, Err, refl, sym, ap, ◌∙◌, subst}
use Rattle.std.specs.Prelude.{is_some}
use Rattle.std.proofs.lemmas.Option.{same_Some}
use Rattle.byte_formats.specs.Types.{Text}
use Rattle.disk_core.specs.declared.disk.Disk.{Ghosts}
use Rattle.journal_core.specs.Durable.{IsDurable}
use Rattle.journal_core.specs.Ends.{durable_of, durable_records}
use Rattle.journal_core.specs.Format.{RepresentsEither, end_offset, records_of}
use Rattle.journal_core.specs.Words.{IsUntouched, disk_of, end_of, is_broken, records}
use Rattle.journal_core.specs.declared.error.AppendError.{AppendError}
use Rattle.journal_core.specs.declared.error.AppendError.TheVariants.{Broken, Failed, Full}
use Rattle.journal_core.specs.declared.journal.Journal.{Journal}
use Rattle.journal_core.proofs.Ends.{HoldsUpTo, are_durable, of_either, of_durable, is_durable-are}
use Rattle.journal_core.proofs.Owners.{was_sound}
use Rattle.journal_core.specs.Appends.{JournalAppends}
use Rattle.state_journal.specs.Durable.{IsDurableWith}

-- ---- if the model knows the bytes of a disk

-- if the model knows the bytes, what holds of them
abbrev pub Each : Option Text → (Text → Type 0) → Type 0
Each contents P = (bytes : Text) → contents ≡ Some bytes → P bytes

only_some : (P : Text → Type 0) (bytes : Text) → P bytes → Each (Some bytes) P
only_some P bytes is other same = subst P (same_Some bytes other same) is

none_modelled : (P : Text → Type 0) → Each None P
none_modelled P other same = let wrong : None ≡ Some other = same in cc

durable_with : (P : List Text → Type 0) (bytes : Text) (list : List Text) (end : ℕ)
    → HoldsUpTo bytes list end → P list → IsDurableWith P end bytes
durable_with P bytes list end is holds = record {
  durable = are_durable bytes list end is;
  holds = subst P (sym (is_durable-are bytes list end is)) holds;
}

module _ (end : ℕ) (crash_states : Text → Type 0) where
  same_records : (contents : Option Text)
      → Each contents (λ bytes. IsDurable bytes crash_states end)
      → option_map (durable_of end) contents ≡ option_map records_of contents
  same_records None is_durable = refl
  same_records (Some bytes) is_durable =
      ap Some (is_durable-are bytes (records_of bytes) end
      (of_durable bytes crash_states end (is_durable bytes refl)))

  each_with : (P : List Text → Type 0) (contents : Option Text)
      → Each contents (λ bytes. IsDurable bytes crash_states end)
      → IfSome (option_map records_of contents) P → Each contents (IsDurableWith P end)
  each_with P None is_durable holds = none_modelled (IsDurableWith P end)
  each_with P (Some bytes) is_durable holds = only_some (IsDurableWith P end) bytes
      (durable_with P bytes (records_of bytes) end
      (of_durable bytes crash_states end (is_durable bytes refl)) holds)

  -- an append that failed
  failed_each : (P : List Text → Type 0) (body : Text) (old new : Option Text)
      → Each old (λ bytes. IsDurable bytes crash_states end) → Each old (IsDurableWith P end)
      → IfSome (option_map records_of old) (λ list. IfSome new (RepresentsEither list body))
      → is_some (option_map records_of new) ≡ is_some (option_map records_of old)
      → Each new (IsDurableWith P end)
      × (option_map (durable_of end) new ≡ option_map (durable_of end) old)
  failed_each P body None None is_durable kept either same =
      (none_modelled (IsDurableWith P end), refl)
  failed_each P body None (Some now) is_durable kept either same =
      let wrong : true ≡ false = same in absurd cc
  failed_each P body (Some was) None is_durable kept either same =
      let wrong : false ≡ true = same in absurd cc
  failed_each P body (Some was) (Some now) is_durable kept either same =
      let list = records_of was in
      let held = of_durable was crash_states end (is_durable was refl) in
      let holds = of_either now list body end held.last either in
      let of_list : P list = subst P (is_durable-are was list end held) (kept was refl).holds in (
        only_some (IsDurableWith P end) now (durable_with P now list end holds of_list),
        ap Some (is_durable-are now list end holds ∙ sym (is_durable-are was list end held)),
      )

-- what holds of both holds of other options that are equal to these
pub both_modelled : (P : Text → List Text → Type 0) (t u : Option Text) (o p : Option (List Text))
    → u ≡ t → p ≡ o → IfSome t (λ b. IfSome o (P b)) → IfSome u (λ b. IfSome p (P b))
both_modelled P t u o p first second is =
    subst (λ (x : Option Text). IfSome x (λ b. IfSome p (P b))) (sym first)
    (subst (λ (y : Option (List Text)). IfSome t (λ b. IfSome y (P b))) (sym second) is)

-- ---- of a journal

module _ {D : Type 0} {g : Ghosts D} where
  -- unless an append has failed they are all its records
  pub sound_records : (journal : Journal D g) → is_broken journal ≡ false
      → durable_records journal ≡ records journal
  sound_records journal sound =
      same_records (end_of journal) (g.may_leave (disk_of journal)) (g.contents (disk_of journal))
      (journal.is_durable sound)

  -- so what holds of all holds of them
  pub of_sound : (journal : Journal D g) (P : List Text → Type 0) → is_broken journal ≡ false
      → IfSome (records journal) P → IfSome (durable_records journal) P
  of_sound journal P sound is =
      subst (λ (o : Option (List Text)). IfSome o P) (sym (sound_records journal sound)) is

  module _ (P : List Text → Type 0) where
    -- this holds of the records before the end of a journal
    abbrev pub Keeps : Journal D g → Type 0
    Keeps journal = (bytes : Text) → g.contents (disk_of journal) ≡ Some bytes
        → IsDurableWith P (end_of journal) bytes

    pub keeps_sound : (journal : Journal D g) → is_broken journal ≡ false
        → IfSome (records journal) P → Keeps journal
    keeps_sound journal sound holds =
        each_with (end_of journal) (g.may_leave (disk_of journal)) P
        (g.contents (disk_of journal)) (journal.is_durable sound) holds

    -- so it does with the offset where they end
    pub holds_of : (journal : Journal D g) → Keeps journal
        → IfSome (durable_records journal) (λ list. P list × (end_of journal ≡ end_offset list))
    holds_of journal keeps = go (g.contents (disk_of journal)) keeps
      where
        go : (contents : Option Text) → Each contents (IsDurableWith P (end_of journal))
            → IfSome (option_map (durable_of (end_of journal)) contents)
            (λ list. P list × (end_of journal ≡ end_offset list))
        go None kept = tt
        go (Some bytes) kept =
            ((kept bytes refl).holds, (kept bytes refl).durable.last)

    pub holds_sound : (journal : Journal D g) → is_broken journal ≡ false → Keeps journal
        → IfSome (records journal) (λ list. P list × (end_of journal ≡ end_offset list))
    holds_sound journal sound keeps =
        subst (λ (o : Option (List Text)). IfSome o (λ list. P list
        × (end_of journal ≡ end_offset list))) (sound_records journal sound)
        (holds_of journal keeps)

    -- an append that failed leaves them as they were
    failed_keeps : (old new : Journal D g) (body : Text) → is_broken old ≡ false
        → end_of new ≡ end_of old
        → IfSome (records old)
        (λ list. IfSome (g.contents (disk_of new)) (RepresentsEither list body))
        → is_some (records new) ≡ is_some (records old) → Keeps old
        → Keeps new × (durable_records new ≡ durable_records old)
    failed_keeps old new body sound end either same keeps =
        let is = failed_each (end_of old) (g.may_leave (disk_of old)) P body
        (g.contents (disk_of old)) (g.contents (disk_of new)) (old.is_durable sound) keeps either
        same
        in
        let back = sym end in (
          subst (λ (n : ℕ). Each (g.contents (disk_of new)) (IsDurableWith P n)) back is.0,
          subst (λ (n : ℕ). option_map (durable_of n) (g.contents (disk_of new))
              ≡ durable_records old)
              back is.1,
        )

    -- a journal whose disk had no call
    unmoved : (old new : Journal D g) → IsUntouched old new → Keeps old
        → Keeps new × (durable_records new ≡ durable_records old)
    unmoved old new same keeps = (
      subst (λ (d : D). Each (g.contents d) (IsDurableWith P (end_of new))) (sym same.disk)
          (subst (λ (n : ℕ). Each (g.contents (disk_of old)) (IsDurableWith P n)) (sym same.end)
          keeps),
      ap (λ (d : D). option_map (durable_of (end_of new)) (g.contents d)) same.disk
          ∙ ap (λ (n : ℕ). option_map (durable_of n) (g.contents (disk_of old))) same.end,
    )

    -- where nothing was appended
    pub stay_kept : (old new : Journal D g) (body : Text) (why : AppendError)
        → JournalAppends body old new (Err why) → Keeps old
        → Keeps new × (durable_records new ≡ durable_records old)
    stay_kept old new body Failed did keeps =
        let sound = was_sound (is_broken old) did.broken.1 in
        failed_keeps old new body sound did.leaves.end (did.as_read sound) did.contents keeps
    stay_kept old new body Broken did keeps = unmoved old new did.leaves keeps
    stay_kept old new body Full did keeps = unmoved old new did.leaves keeps

  pub end_stays : (old new : Journal D g) (body : Text) (why : AppendError)
      → JournalAppends body old new (Err why) → end_of new ≡ end_of old
  end_stays old new body Failed did = did.leaves.end
  end_stays old new body Broken did = did.leaves.end
  end_stays old new body Full did = did.leaves.end

  -- where the record was appended, this holds of the records with it
  pub appended_keeps : (P Q : List Text → Type 0) (old new : Journal D g) (body : Text)
      → JournalAppends body old new (Ok tt)
      → ((list : List Text) → P list → end_of old ≡ end_offset list → Q (list ++ body ∷ []))
      → Keeps P old → Keeps Q new
  appended_keeps P Q old new body did next keeps =
      keeps_sound Q new did.leaves.sound
      (go (records old) (records new) did.leaves.records
      (holds_sound P old did.leaves.was_sound keeps))
    where
      go : (was now : Option (List Text)) → now ≡ option_map (λ list. list ++ body ∷ []) was
          → IfSome was (λ list. P list × (end_of old ≡ end_offset list)) → IfSome now Q
      go None now is holds = subst (λ (o : Option (List Text)). IfSome o Q) (sym is) tt
      go (Some list) now is holds =
          subst (λ (o : Option (List Text)). IfSome o Q) (sym is) (next list holds.0 holds.1)
