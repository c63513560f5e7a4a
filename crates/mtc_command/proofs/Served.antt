-- What holds of each journal that a command works on, and of a command after what it has read.
use Rattle.std.proofs.Common.{◌≡◌, ◌≢◌, ◌≤◌, inl, inr, ℕ, List, [], ◌∷◌, ◌++◌, refl, sym, subst, ap}
use Rattle.std.proofs.Common.{◌∙◌}
use Rattle.std.proofs.Common.{arith}
use Rattle.disk_core.specs.declared.disk.Disk.{Ghosts as Disks}
use Rattle.mtc_io.specs.Counts.{Rose}
use Rattle.mtc_room.specs.declared.room.Room.{Ghosts as Rooms}
use Rattle.mtc_command.specs.Answers.{Ending, replied, room_failed, no_memory, IfReply, Reply}
use Rattle.mtc_command.specs.Answers.{status_of, IsEarly}
use Rattle.mtc_command.specs.Endings.{FailedOnly, IsNamed, LeftBy, Replies}
use Rattle.mtc_command.specs.Made.{Journaled, untouched, Leaves}
use Rattle.mtc_command.specs.Served.{Journals, OfEach, done_with, ClosesAll, IsOther}
use Rattle.mtc_command.specs.Served.{LeavesEach, LeavesJournals, HasDone}
use Rattle.mtc_command.specs.Steps.{Outcome, answers}
use Rattle.mtc_command.specs.Wanted.{Wanted, Meets}
use Rattle.mtc_command.proofs.Made.{OnlyNow, left_kept, still}

module _ (P Q : List ℕ → Journaled → Type 0) where
  pub each_so : ((name : List ℕ) (did : Journaled) → P name did → Q name did)
      → (journals : Journals) → OfEach P journals → OfEach Q journals
  each_so so [] all = tt
  each_so so (j ∷ js) all = (so j.0 j.1 all.0, each_so so js all.1)

pub each_is : (P : List ℕ → Journaled → Type 0) → ((name : List ℕ) (did : Journaled) → P name did)
    → (journals : Journals) → OfEach P journals
each_is P is [] = tt
each_is P is (j ∷ js) = (is j.0 j.1, each_is P is js)

module _ (P P' Q : List ℕ → Journaled → Type 0) where
  pub both_so : ((name : List ℕ) (did : Journaled) → P name did → P' name did → Q name did)
      → (journals : Journals) → OfEach P journals → OfEach P' journals → OfEach Q journals
  both_so so [] all each = tt
  both_so so (j ∷ js) all each = (so j.0 j.1 all.0 each.0, both_so so js all.1 each.1)

-- no journal is opened of which nothing is said
unopened : (P : List ℕ → Journaled → Type 0) → ((name : List ℕ) → P name untouched)
    → (names : List (List ℕ)) → OfEach P (done_with names [])
unopened P is [] = tt
unopened P is (name ∷ names) = (is name, unopened P is names)

module _ (wanted : Wanted) where
  not_bad : (ending : Ending) → Replies wanted ending
      → IfReply ending (λ reply. status_of reply ≡ 1 → ⊥)
  not_bad (replied reply) is = is.1
  not_bad (room_failed file) is = tt
  not_bad no_memory is = tt

  no_fault : (Fault : Type 0) (files : List (List ℕ)) (ending : Ending) → Replies wanted ending
      → FailedOnly Fault files ending
  no_fault Fault files (replied reply) is = tt
  no_fault Fault files (room_failed file) is = absurd is
  no_fault Fault files no_memory is = tt

  meets : (wanted' : Wanted) (Models : Type 0) (ending : Ending) → (Models → wanted ≡ wanted')
      → Replies wanted ending → IfReply ending (λ reply. Models → Meets wanted' reply)
  meets wanted' Models (replied reply) same is = λ t. subst (λ w. Meets w reply) (same t) is.0
  meets wanted' Models (room_failed file) same is = tt
  meets wanted' Models no_memory same is = tt

no_early : (Models : Type 0) (ending : Ending)
    → IfReply ending (λ reply. Models → OfEach (λ name did. did ≡ untouched
    → IsEarly (status_of reply)) [])
no_early Models (replied reply) = λ t. tt
no_early Models (room_failed file) = tt
no_early Models no_memory = tt

-- a fact of the reply gives another
pub reply_so : (ending : Ending) (P Q : Reply → Type 0) → ((reply : Reply) → P reply → Q reply)
    → IfReply ending P → IfReply ending Q
reply_so (replied reply) P Q so is = so reply is
reply_so (room_failed file) P Q so is = tt
reply_so no_memory P Q so is = tt

pub failed_so : (ending : Ending) (Fault Fault' : Type 0) (files files' : List (List ℕ))
    → (Fault → Fault') → ((file : List ℕ) → IsNamed files file → IsNamed files' file)
    → FailedOnly Fault files ending → FailedOnly Fault' files' ending
failed_so (replied reply) Fault Fault' files files' so more is = tt
failed_so (room_failed file) Fault Fault' files files' so more is = (so is.0, more file is.1)
failed_so no_memory Fault Fault' files files' so more is = tt

pub rose_since : (old mid new : ℕ) → old ≤ mid → Rose mid new → Rose old new
rose_since old mid new later rose = elim rose [
  | inl more ↦ inl (omega (arith, later, more))
  | inr last ↦ inr last
]

-- a name that is none of some and none of others is none of both
pub other_both : (leads_to : List ℕ → List ℕ) (xs ys : List (List ℕ)) (name : List ℕ)
    → IsOther leads_to xs name → IsOther leads_to ys name → IsOther leads_to (xs ++ ys) name
other_both leads_to [] ys name first second = second
other_both leads_to (x ∷ xs) ys name first second =
    (first.0, other_both leads_to xs ys name first.1 second)

-- and one that is none of both is none of the others
pub other_last : (leads_to : List ℕ → List ℕ) (xs ys : List (List ℕ)) (name : List ℕ)
    → IsOther leads_to (xs ++ ys) name → IsOther leads_to ys name
other_last leads_to [] ys name other = other
other_last leads_to (x ∷ xs) ys name other = other_last leads_to xs ys name other.1

module _ {R S D : Type 0} (rooms : Rooms R S D) (disks : Disks D) where
  -- More files may be changed than are.
  pub beside : (Bad : Type 0) (files names besides : List (List ℕ)) (wanted : Outcome) (old new : R)
      (ending : Ending) → HasDone rooms disks Bad files names [] wanted old new ending
      → HasDone rooms disks Bad files names besides wanted old new ending
  beside Bad files names besides wanted old new ending done = record {
    back = record {
      opened = done.back.opened;
      later = done.back.later;
      is_modelled = done.back.is_modelled;
      others = λ name other. done.back.others name
          (other_last rooms.leads_to besides names name other);
    };
    ends = done.ends;
    made = done.made;
  }

  -- A command that has closed what it read does the rest of its work.
  module _ (files files' names besides : List (List ℕ)) (wanted wanted' : Outcome) (old mid new : R)
      (ending : Ending) (read : ClosesAll rooms old mid []) where
    made_after : rooms.is_modelled old → wanted' ≡ wanted
        → LeavesJournals rooms disks mid new (done_with names wanted'.journals) ending
        → LeavesJournals rooms disks old new (done_with names wanted.journals) ending
    made_after is_modelled same made = subst
        (λ (w : Outcome). LeavesJournals rooms disks old new (done_with names w.journals) ending)
        same
        (record {
          no_file = each_so _ _ (λ name did is on none.
              is on ((read.others name tt).bytes ∙ none)) (done_with names wanted'.journals)
              made.no_file;
          unmade = λ memory. each_so _ _ (λ name did is none.
              is ((read.others name tt).bytes ∙ none)) (done_with names wanted'.journals)
              (made.unmade memory);
          left = each_so _ _ (λ name did is. subst
              (λ x. Leaves disks (LeftBy ending did) x (rooms.device new name))
              (read.others name tt).disk is) (done_with names wanted'.journals) made.left;
        })

    pub following : (rooms.is_modelled old → wanted' ≡ wanted)
        → ((file : List ℕ) → IsNamed files' file → IsNamed files file)
        → HasDone rooms disks ⊥ files' names besides wanted' mid new ending
        → HasDone rooms disks ⊥ files names besides wanted old new ending
    following same more done = record {
      back = record {
        opened = done.back.opened ∙ read.opened;
        later = omega (arith, read.later, done.back.later);
        is_modelled = λ t. done.back.is_modelled (read.is_modelled t);
        others = λ name other. record {
          bytes = (done.back.others name other).bytes ∙ (read.others name tt).bytes;
          disk = (done.back.others name other).disk ∙ (read.others name tt).disk;
        };
      };
      ends = record {
        reply = reply_so ending _ _ (λ reply is t. subst (λ (w : Outcome). Meets w.answer reply)
            (same t) (is (read.is_modelled t))) done.ends.reply;
        words = λ bad. absurd bad;
        not_words = done.ends.not_words;
        fault = failed_so ending _ _ files' files (rose_since _ _ _ read.later) more
            done.ends.fault;
        early = reply_so ending _ _ (λ reply is t. subst (λ (w : Outcome).
            OfEach (λ name did. did ≡ untouched → IsEarly (status_of reply))
            (done_with names w.journals)) (same t) (is (read.is_modelled t))) done.ends.early;
      };
      made = λ t. made_after t (same t) (done.made (read.is_modelled t));
    }

  -- A command that has closed what it read ends, and opens no journal.
  module _ (files names besides : List (List ℕ)) (wanted : Outcome) (old new : R)
      (read : ClosesAll rooms old new []) (only_now : OnlyNow disks) where
    alone : (ending : Ending) (name : List ℕ) (did : Journaled)
        → IfReply ending (λ reply. did ≡ untouched)
        → Leaves disks (LeftBy ending did) (rooms.device old name) (rooms.device new name)
    alone ending name did not = left_kept disks ending did _ _ not
        (still disks _ _ did only_now (read.others name tt).disk)

    left_each : (ending : Ending) → IfReply ending (λ reply. wanted.journals ≡ [])
        → LeavesEach rooms disks old new (done_with names wanted.journals) (LeftBy ending)
    left_each (replied reply) none = subst
        (λ dids. LeavesEach rooms disks old new (done_with names dids) (LeftBy (replied reply)))
        (sym none) (unopened _ (λ name. alone (replied reply) name untouched refl) names)
    left_each (room_failed file) none = each_is _
        (λ name did. alone (room_failed file) name did tt) (done_with names wanted.journals)
    left_each no_memory none = each_is _
        (λ name did. alone no_memory name did tt) (done_with names wanted.journals)

    left_alone : (ending : Ending) → IfReply ending (λ reply. wanted.journals ≡ [])
        → LeavesJournals rooms disks old new (done_with names wanted.journals) ending
    left_alone ending none = record {
      no_file = each_is _ (λ name did on is. (read.others name tt).bytes ∙ is)
          (done_with names wanted.journals);
      unmade = λ memory. each_is _ (λ name did is. (read.others name tt).bytes ∙ is)
          (done_with names wanted.journals);
      left = left_each ending none;
    }

    pub stopped : (ending : Ending)
        → FailedOnly (Rose (rooms.faults old) (rooms.faults new)) files ending
        → IfReply ending (λ reply. (status_of reply ≢ 1) × IsEarly (status_of reply)
        × (rooms.is_modelled old → wanted ≡ answers reply))
        → HasDone rooms disks ⊥ files names besides wanted old new ending
    stopped ending fault is = record {
      back = record {
        opened = read.opened;
        later = read.later;
        is_modelled = read.is_modelled;
        others = λ name other. read.others name tt;
      };
      ends = record {
        reply = reply_so ending _ _ (λ reply facts t.
            subst (λ (w : Outcome). Meets w.answer reply) (sym (facts.2 t)) refl) is;
        words = λ bad. absurd bad;
        not_words = reply_so ending _ _ (λ reply facts one. facts.0 one) is;
        fault = fault;
        early = reply_so ending _ _ (λ reply facts t. each_is _ (λ name did of. facts.1)
            (done_with names wanted.journals)) is;
      };
      made = λ t. left_alone ending (reply_so ending _ _
          (λ reply facts. ap (λ (w : Outcome). w.journals) (facts.2 t)) is);
    }

    -- a command without a journal that replies as it should
    pub answered : (ending : Ending) (reply : Wanted)
        → (rooms.is_modelled old → reply ≡ wanted.answer)
        → Replies reply ending → HasDone rooms disks ⊥ files [] [] wanted old new ending
    answered ending reply same is = record {
      back = read;
      ends = record {
        reply = meets reply wanted.answer (rooms.is_modelled old) ending same is;
        words = λ bad. absurd bad;
        not_words = not_bad reply ending is;
        fault = no_fault reply _ files ending is;
        early = no_early (rooms.is_modelled old) ending;
      };
      made = λ t. record { no_file = tt; unmade = λ memory. tt; left = tt };
    }
