-- A command on two journals that stops before its work: it has only read what it opened, and has
-- done what its outcome wants.
use Rattle.std.proofs.Common.{◌≡◌, ◌≢◌, inl, inr, false, List, [], ◌∷◌, Option, None, Some}
use Rattle.std.proofs.Common.{codes, subst, sym, ◌∙◌, ap, refl, true≢false}
use Rattle.byte_formats.specs.Types.{Text}
use Rattle.mtc_io.specs.Counts.{Rose}
use Rattle.disk_core.specs.Times.{OnlyReads}
use Rattle.disk_core.specs.declared.disk.Disk.{Ghosts}
use Rattle.mtc_room.specs.Places.{place_of}
use Rattle.mtc_room.specs.declared.room.Room.{Ghosts as Rooms}
use Rattle.mtc_command.specs.Answers.{Ending, IfReply, IsEarly, Reply, no_memory, refused}
use Rattle.mtc_command.specs.Answers.{said, status_of, tiles_name}
use Rattle.mtc_command.specs.Endings.{FailedOnly, LeftBy}
use Rattle.mtc_command.specs.Made.{Journaled, Leaves, untouched}
use Rattle.mtc_command.specs.Served.{ClosesAll, HasDone, first_journaled}
use Rattle.mtc_command.specs.Served.{rest_journaled}
use Rattle.mtc_command.specs.Steps.{Outcome, answers, with_file}
use Rattle.mtc_command.specs.Valid.{KeepsValid}
use Rattle.mtc_command.specs.Wanted.{Meets, formed}
use Rattle.mtc_command.specs.Works.{HasClosed, HasOpened}
use Rattle.mtc_command.specs.declared.answer.Said.TheVariants.{Done}
use Rattle.mtc_command.specs.declared.answer.Stopped.TheVariants.{Missing}
use Rattle.mtc_command.proofs.Beside.{ModelsAll}
use Rattle.mtc_command.proofs.Made.{OnlyNow, kept_of, left_kept, left_opened, still}
use Rattle.mtc_command.proofs.Served.{reply_so}
use Rattle.mtc_command.proofs.Valid.{contents_opened}
use Rattle.mtc_mirror_steps.specs.ReadSecond.{HasOnlyRead}
use Rattle.mtc_mirror_steps.proofs.Around.{OneDevice, around_done, around_reads, in_models}
use Rattle.mtc_mirror_steps.proofs.Around.{put_back}

-- A reply that the outcome wants, before which the journals weren't opened.
pub record IsEarlyReply (wanted : Outcome) (reply : Reply) : Type 0 where
  pub early : IsEarly (status_of reply)
  pub is : wanted ≡ answers reply

first_of : (wanted : Outcome) (reply : Reply) → wanted ≡ answers reply
    → first_journaled wanted.journals ≡ untouched
first_of wanted reply is = ap (λ (w : Outcome). first_journaled w.journals) is

second_of : (wanted : Outcome) (reply : Reply) → wanted ≡ answers reply
    → first_journaled (rest_journaled wanted.journals) ≡ untouched
second_of wanted reply is = ap (λ (w : Outcome). first_journaled (rest_journaled w.journals)) is

meets_of : (wanted : Outcome) (reply : Reply) → wanted ≡ answers reply
    → Meets wanted.answer reply
meets_of wanted reply is = subst (λ (w : Outcome). Meets w.answer reply) (sym is) refl

module _ {R S D : Type 0} (rooms : Rooms R S D) (g : Ghosts D) (only_now : OnlyNow g)
    (name second : Text) (files : List Text) (wanted : Outcome) where
  abbrev beside : Text
  beside = tiles_name second

  -- ---- nothing is open

  module _ (old new : R) (read : ClosesAll rooms old new []) (ending : Ending)
      (fault : FailedOnly (Rose (rooms.faults old) (rooms.faults new)) files ending)
      (plain : IfReply ending (λ reply. status_of reply ≢ 1))
      (is : rooms.is_modelled old → IfReply ending (IsEarlyReply wanted)) where
    left_closed : (of : Text) (did : Journaled) → IfReply ending (λ reply. did ≡ untouched)
        → Leaves g (LeftBy ending did) (rooms.device old of) (rooms.device new of)
    left_closed of did not = left_kept g ending did (rooms.device old of) (rooms.device new of) not
        (still g (rooms.device old of) (rooms.device new of) did only_now (read.others of tt).disk)

    pub closed_done :
        HasDone rooms g ⊥ files (name ∷ second ∷ []) (beside ∷ []) wanted old new ending
    closed_done = record {
      back = record {
        opened = read.opened;
        later = read.later;
        is_modelled = read.is_modelled;
        others = λ other apart. read.others other tt;
      };
      ends = record {
        reply = in_models (rooms.is_modelled old) ending _ (λ t. reply_so ending _ _
            (λ reply early. meets_of wanted reply early.is) (is t));
        words = λ bad. absurd bad;
        not_words = plain;
        fault = fault;
        early = in_models (rooms.is_modelled old) ending _ (λ t. reply_so ending _ _
            (λ reply early. (λ first. early.early, (λ then. early.early, tt))) (is t));
      };
      made = λ t. record {
        no_file = (
          λ on none. (read.others name tt).bytes ∙ none,
          (λ on none. (read.others second tt).bytes ∙ none, tt),
        );
        unmade = λ memory. (
          λ none. (read.others name tt).bytes ∙ none,
          (λ none. (read.others second tt).bytes ∙ none, tt),
        );
        left = (
          left_closed name (first_journaled wanted.journals)
              (reply_so ending _ _ (λ reply early. first_of wanted reply early.is) (is t)),
          (
            left_closed second (first_journaled (rest_journaled wanted.journals))
                (reply_so ending _ _ (λ reply early. second_of wanted reply early.is) (is t)),
            tt,
          ),
        );
      };
    }

  -- ---- the first journal was opened, and only read

  module _ (all : ModelsAll rooms g) (one : OneDevice rooms) (old mid kept new : R) (d d' : D)
      (opened : HasOpened rooms g name old mid d)
      (inner : HasOnlyRead rooms g second mid kept)
      (closed : HasClosed rooms g name kept new d')
      (apart : place_of rooms.leads_to name ≢ place_of rooms.leads_to (tiles_name second))
      (only : OnlyReads g d d') where
    pub stopped_done : (ending : Ending)
        → FailedOnly (Rose (rooms.faults old) (rooms.faults new)) files ending
        → IfReply ending (λ reply. status_of reply ≢ 1)
        → (rooms.is_modelled old → IfReply ending (IsEarlyReply wanted))
        → HasDone rooms g ⊥ files (name ∷ second ∷ []) (beside ∷ []) wanted old new ending
    stopped_done ending fault plain is =
        let did = first_journaled wanted.journals in
        let did_second = first_journaled (rest_journaled wanted.journals) in
        around_done rooms g all one name second old mid kept new d d' opened inner closed apart
        (λ t same. only) files wanted ending fault plain
        (λ t. reply_so ending _ _ (λ reply early. meets_of wanted reply early.is) (is t))
        (λ t. reply_so ending _ _ (λ reply early.
        (λ first. early.early, (λ then. early.early, tt))) (is t))
        (λ t. left_kept g ending did (Some d) (Some d')
        (reply_so ending _ _ (λ reply early. first_of wanted reply early.is) (is t))
        (kept_of g d d' did only))
        (λ t same. reply_so ending _ _ (λ reply early. second_of wanted reply early.is) (is t))
        (λ t two. left_kept g ending did_second (rooms.device mid second) (rooms.device kept second)
        (reply_so ending _ _ (λ reply early. second_of wanted reply early.is) (is t))
        (inner.journal_stays (opened.is_modelled t)).leaves)

    pub stopped_valid : (Valid : List Text → Type 0)
        → KeepsValid rooms g Valid (name ∷ second ∷ []) wanted old new
    stopped_valid Valid t =
        let put = put_back rooms g all one name second old mid kept new d d' opened inner closed
        apart t in
        let after = around_reads rooms g all one name second old mid kept new d d' opened inner
        closed apart (λ is_modelled same. only) t in (
          inl (
            left_opened g no_memory (first_journaled wanted.journals) (rooms.device old name)
                (rooms.device new name) d d' (opened.device t) put
                (kept_of g d d' (first_journaled wanted.journals) only),
            contents_opened g (rooms.device old name) (rooms.device new name) d d'
                (opened.device t) put only.contents,
          ),
          (
            inl (
              record { later = after.leaves.later; crash_states = after.leaves.crash_states },
              after.contents,
            ),
            tt,
          ),
        )

-- ---- a journal that isn't there

-- no reply meets this
abbrev pub unmet : Outcome
unmet = record { answer = formed Done (λ text. false); journals = [] }

pub never_met : (reply : Reply) → Meets unmet.answer reply → ⊥
never_met (said kind text) meets = absurd (true≢false (sym meets.1))
never_met (refused why file reason) meets = meets

-- a refusal that may come before the journals are opened
pub early_of : (wanted reply : Reply) → IsEarly (status_of wanted) → reply ≡ wanted
    → IsEarlyReply (answers wanted) reply
early_of wanted reply early is = record {
  early = subst (λ (r : Reply). IsEarly (status_of r)) (sym is) early;
  is = ap answers (sym is);
}

-- a file that isn't there is refused, whatever comes next
pub absent_early : (name : Text) (file : Option Text) (next : Text → Outcome) (reply : Reply)
    → Meets (with_file name file (λ bytes. unmet)).answer reply
    → IsEarlyReply (with_file name file next) reply
absent_early name None next reply meets = early_of (refused Missing (Some name) (codes "Absent"))
    reply (inr (inr (inr (inl refl)))) meets
absent_early name (Some bytes) next reply meets = absurd (never_met reply meets)
