-- The steps of an opening, over its disk.
use Rattle.std.proofs.Common.{◌≡◌, ℕ, ◌+◌, List, [], ◌∷◌, ◌++◌, length, Option, Some, None, IfSome}
use Rattle.std.proofs.Common.{option_map, refl, ap, sym, ◌∙◌, subst}
use Rattle.disk_core.specs.Times.{OnlyReads}
use Rattle.disk_core.specs.declared.disk.Disk.{Ghosts}
use Rattle.journal_core.specs.Format.{IsRecordAt, end_offset, IsClosedAt, Represents, records_of}
use Rattle.journal_core.specs.Format.{records_before, IsBadLengthAt, IsCutShortAt}
use Rattle.journal_core.specs.Opens.{HasReason, IsOfRecord, IsWalkTo}
use Rattle.journal_core.specs.Walk.{walk_of, at_commit_byte, at_bad_length, at_cut}
use Rattle.journal_core.specs.Durable.{IsReading, IsDurable}
use Rattle.journal_core.specs.Words.{AllRepresent}
use Rattle.journal_core.specs.declared.error.OpenError.{OpenError}
use Rattle.journal_core.specs.declared.error.OpenError.TheVariants.{NotJournal, BadLength, CutShort}
use Rattle.journal_core.specs.declared.error.OpenError.TheVariants.{Failed, Memory}
use Rattle.journal_core.proofs.Modelled.{if_modelled, at_contents, of_records}
use Rattle.std.proofs.lemmas.List.{length_push}
use Rattle.journal_core.proofs.Records.{records_of-stands}
use Rattle.journal_core.proofs.Walk.{walk_closed, walk_bad, walk_cut}
use Rattle.journal_core.proofs.ReadOn.{header_length, more_list, more_read, read_same, read_all}
use Rattle.journal_core.proofs.ReadOn.{is_durable, not_bad, not_cut}

module _ {D : Type 0} (g : Ghosts D) (old new : D) (only_reads : OnlyReads g old new) (place : ℕ)
    (reading : (b : List ℕ) → g.contents old ≡ Some b → IsReading b (g.may_leave old) place) where
  -- one record more
  module _ (body : List ℕ) (found : IfSome (g.contents old) (λ b. IsRecordAt b place body))
      (next : ℕ)
      (next_is : next ≡ place + 5 + length body) where
    found_in : (b : List ℕ) → g.contents old ≡ Some b → IsRecordAt b place body
    found_in b contents = at_contents (λ (bytes : List ℕ). IsRecordAt bytes place body)
        (g.contents old) b contents found

    pub step_reading : (b : List ℕ) → g.contents new ≡ Some b → IsReading b (g.may_leave new) next
    step_reading b contents =
        let contents_old : g.contents old ≡ Some b = sym only_reads.contents ∙ contents in
        let was = reading b contents_old in
        subst (λ (n : ℕ). IsReading b (g.may_leave new) n) (sym next_is)
        (more_read b (g.may_leave old) place was body (found_in b contents_old) (g.may_leave new)
        (λ c left. was.only c (only_reads.crash c left)))

    pub step_list : option_map (λ b. records_before b next) (g.contents new)
        ≡ option_map (λ list. list ++ body ∷ []) (option_map (λ b. records_before b place)
        (g.contents old))
    step_list = rw only_reads.contents (go (g.contents old) refl)
      where
        go : (contents : Option (List ℕ)) → g.contents old ≡ contents
            → option_map (λ b. records_before b next) contents
            ≡ option_map (λ list. list ++ body ∷ [])
            (option_map (λ b. records_before b place) contents)
        go None is = refl
        go (Some b) is = ap Some (ap (records_before b) next_is
            ∙ more_list b (g.may_leave old) place (reading b is) body (found_in b is))

    -- the count of them
    pub step_count : (count : ℕ) → ((b : List ℕ) → g.contents old ≡ Some b
        → count ≡ length (records_before b place))
        → (b : List ℕ) → g.contents new ≡ Some b → count + 1 ≡ length (records_before b next)
    step_count count counted b contents =
        let contents_old : g.contents old ≡ Some b = sym only_reads.contents ∙ contents in
        let more : records_before b next ≡ records_before b place ++ body ∷ []
        = ap (records_before b) next_is
        ∙ more_list b (g.may_leave old) place (reading b contents_old)
        body (found_in b contents_old) in
        ap (λ (n : ℕ). n + 1) (counted b contents_old)
        ∙ sym (ap length more ∙ length_push (records_before b place) body)

  -- no record more
  pub same_reading : (b : List ℕ) → g.contents new ≡ Some b → IsReading b (g.may_leave new) place
  same_reading b contents = read_same b (g.may_leave old) (g.may_leave new) place only_reads.crash
      (reading b (sym only_reads.contents ∙ contents))

  pub same_list : option_map (λ b. records_before b place) (g.contents new)
      ≡ option_map (λ b. records_before b place) (g.contents old)
  same_list = ap (option_map (λ b. records_before b place)) only_reads.contents

  -- a file that represents records is refused only for a failure
  pub only_fails : (why : OpenError) → HasReason g old new place why → IsOfRecord why
      → IfSome (g.contents old)
      (λ bytes. (list : List (List ℕ)) → Represents bytes list → why ≡ Failed)
  only_fails why reason kind = if_modelled (λ (bytes : List ℕ). (list : List (List ℕ))
      → Represents bytes list → why ≡ Failed) (g.contents old)
      (λ b contents list stands. fault b contents list stands why reason kind)
    where
      fault : (b : List ℕ) → g.contents old ≡ Some b → (list : List (List ℕ)) → Represents b list
          → (why : OpenError) → HasReason g old new place why → IsOfRecord why → why ≡ Failed
      fault b contents list stands NotJournal reason kind = absurd kind
      fault b contents list stands (BadLength at) reason kind =
          absurd (not_bad b (g.may_leave old) place (reading b contents) list stands
          (at_contents (λ (bytes : List ℕ). IsBadLengthAt bytes place) (g.contents old) b contents
          reason.1))
      fault b contents list stands (CutShort at) reason kind =
          absurd (not_cut b (g.may_leave old) place (reading b contents) list stands
          (at_contents (λ (bytes : List ℕ). IsCutShortAt bytes place) (g.contents old) b contents
          reason.1))
      fault b contents list stands Failed reason kind = refl
      fault b contents list stands Memory reason kind = absurd kind

  -- the walk of the bytes ends as the refusal says
  pub refused_walk : (why : OpenError) → HasReason g old new place why
      → IfSome (g.contents old)
      (λ b. IfSome (option_map (λ b. records_before b place) (g.contents old))
      (IsWalkTo why b))
  refused_walk why reason = go (g.contents old) refl why reason
    where
      go : (contents : Option (List ℕ)) → g.contents old ≡ contents → (why : OpenError)
          → HasReason g old new place why
          → IfSome contents (λ b. IfSome (option_map (λ b. records_before b place) contents)
          (IsWalkTo why b))
      go None is why reason = tt
      go (Some b) is NotJournal reason = tt
      go (Some b) is (BadLength at) reason =
          let was = reading b is in
          subst (λ (n : ℕ). walk_of b ≡ record {
            records = records_before b place;
            end =
                at_bad_length n;
          }) (sym reason.0)
          (walk_bad b (records_before b place) place was.holds was.offset_is
          (header_length b was.begins)
          (at_contents (λ (bytes : List ℕ). IsBadLengthAt bytes place) (g.contents old) b is
          reason.1))
      go (Some b) is (CutShort at) reason =
          let was = reading b is in
          subst (λ (n : ℕ). walk_of b ≡ record {
            records = records_before b place;
            end =
                at_cut n;
          }) (sym reason.0)
          (walk_cut b (records_before b place) place was.holds was.offset_is
          (header_length b was.begins)
          (at_contents (λ (bytes : List ℕ). IsCutShortAt bytes place) (g.contents old) b is
          reason.1))
      go (Some b) is Failed reason = tt
      go (Some b) is Memory reason = tt

-- an opening that has ended
module _ {D : Type 0} (g : Ghosts D) (disk : D) (place : ℕ)
    (reading : (b : List ℕ) → g.contents disk ≡ Some b → IsReading b (g.may_leave disk) place)
    (closed : (b : List ℕ) → g.contents disk ≡ Some b → IsClosedAt b place) where
  pub ended_stands : IfSome (g.contents disk)
      (λ b. IfSome (option_map (λ b. records_before b place) (g.contents disk)) (Represents b))
  ended_stands = go (g.contents disk) refl
    where
      go : (contents : Option (List ℕ)) → g.contents disk ≡ contents
          → IfSome contents
          (λ b. IfSome (option_map (λ b. records_before b place) contents) (Represents b))
      go None is = tt
      go (Some b) is = read_all b (g.may_leave disk) place (reading b is) (closed b is)

  pub ended_walk : IfSome (g.contents disk)
      (λ b. IfSome (option_map (λ b. records_before b place) (g.contents disk)) (λ list. walk_of b
      ≡ record { records = list; end = at_commit_byte }))
  ended_walk = go (g.contents disk) refl
    where
      go : (contents : Option (List ℕ)) → g.contents disk ≡ contents
          → IfSome contents (λ b. IfSome (option_map (λ b. records_before b place) contents)
          (λ list. walk_of b ≡ record { records = list; end = at_commit_byte }))
      go None is = tt
      go (Some b) is =
          let was = reading b is in
          walk_closed b (records_before b place) place was.holds was.offset_is
          (header_length b was.begins) (closed b is)

  pub ended_durable : (b : List ℕ) → g.contents disk ≡ Some b
      → IsDurable b (g.may_leave disk) (place + 1)
  ended_durable b contents =
      is_durable b (g.may_leave disk) place (reading b contents) (closed b contents)

  pub ended_records : option_map records_of (g.contents disk)
      ≡ option_map (λ b. records_before b place)
      (g.contents disk)
  ended_records = go (g.contents disk) refl
    where
      go : (contents : Option (List ℕ)) → g.contents disk ≡ contents
          → option_map records_of contents ≡ option_map (λ b. records_before b place) contents
      go None is = refl
      go (Some b) is = ap Some (records_of-stands b _ (read_all b (g.may_leave disk) place
          (reading b is) (closed b is)))

  pub ended_all : IfSome (option_map records_of (g.contents disk)) (AllRepresent g disk)
  ended_all = of_records (AllRepresent g disk) (g.contents disk) (λ b contents. let is =
      ended_durable b contents in
      λ c left. subst (λ (bytes : List ℕ). Represents bytes (records_of b))
      (sym (is.only c left)) is.stands)

  pub ended_offset : IfSome (option_map records_of (g.contents disk)) (λ list. place + 1
      ≡ end_offset list)
  ended_offset =
      of_records (λ (list : List (List ℕ)). place + 1 ≡ end_offset list) (g.contents disk)
      (λ b contents. (ended_durable b contents).end_is)

-- the count of the records that were read, as one of their list
pub count_of_list : (contents : Option (List ℕ)) (place count : ℕ)
    → ((b : List ℕ) → contents ≡ Some b
    → count ≡ length (records_before b place))
    → IfSome (option_map (λ b. records_before b place) contents) (λ list. count ≡ length list)
count_of_list None place count counted = tt
count_of_list (Some b) place count counted = counted b refl
