-- A mirror and a cosigner agree, whatever happens to both.
use Rattle.std.proofs.Common.{◌≡◌, ◌⊎◌, inl, inr, List, [], ◌∷◌, ◌++◌, refl, sym, subst}
use Rattle.byte_formats.specs.Types.{Text}
use Rattle.disk_core.specs.Disk.{NoNew}
use Rattle.file_events.specs.Events.{CrashStates, Event, HalfDone, Happens, MayRecover, Journaled}
use Rattle.file_events.specs.Events.{WasFound, appended, broke, elsewhere, ran, reads, started}
use Rattle.file_events.specs.Events.{untouched}
use Rattle.file_events.specs.Executions.{IsExecution}
use Rattle.file_events.specs.Laws.{IsDurablePrefix}
use Rattle.file_events.specs.Mirrors.{Agree, AlwaysAgree, KeepsAgreement, LeadsMirror, MayDo}
use Rattle.file_events.specs.Mirrors.{MirrorEvent, MirrorHappens, MirrorLeads, broke as both_broke}
use Rattle.file_events.specs.Mirrors.{elsewhere as both_elsewhere, ran as both_ran}
use Rattle.file_events.proofs.Records.{not_empty, one_list, stay_durable, whole_is_half}

-- a run added this record to make the list
record IsAdded (Valid : List Text → Type 0) (did : Journaled) (before : CrashStates)
    (now : List Text) : Type 0 where
  pub list : List Text
  pub body : Text
  pub is : did ≡ appended list body
  pub now_is : now ≡ list ++ body ∷ []
  pub was : MayRecover before list
  pub valid : Valid (list ++ body ∷ [])

-- what was found may be recovered
was_recovered : (Valid : List Text → Type 0) (before : CrashStates) (list : List Text)
    → WasFound Valid before list → MayRecover before list
was_recovered Valid before list found = (found.bytes, (found.state, found.stands))

module _ (Valid : List Text → Type 0) (prefix : List Text) (before now : CrashStates)
    (durable : IsDurablePrefix Valid prefix before) where
  -- what is recovered after a run was so before it, or has the record that it added
  came : (did : Journaled) (others : List Text) → HalfDone Valid did before now
      → MayRecover now others → MayRecover before others ⊎ IsAdded Valid did before others
  came untouched others kept recovered =
      inl (recovered.0, (kept recovered.0 recovered.1.0, recovered.1.1))
  came (reads list) others done recovered =
      inl (subst (λ (l : List Text). MayRecover before l)
      (one_list recovered.0 list others (done.1 recovered.0 recovered.1.0) recovered.1.1)
      (was_recovered Valid before list done.0))
  came (appended list body) others done recovered =
      elim (done.1 recovered.0 recovered.1.0) [
        | inl old ↦ inl (subst (λ (l : List Text). MayRecover before l)
            (one_list recovered.0 list others old recovered.1.1)
            (was_recovered Valid before list done.0.found))
        | inr new ↦ inr (record {
          list = list;
          body = body;
          is = refl;
          now_is = one_list recovered.0 others (list ++ body ∷ []) recovered.1.1 new;
          was = was_recovered Valid before list done.0.found;
          valid = done.0.valid;
        })
      ]
  came (started body) others empty recovered =
      absurd (not_empty Valid prefix before durable empty)

-- the event of each journal
abbrev of_mirror : MirrorEvent → Event
of_mirror both_elsewhere = elsewhere
of_mirror (both_ran heard m s) = ran heard m
of_mirror (both_broke m s) = broke m

abbrev of_cosigner : MirrorEvent → Event
of_cosigner both_elsewhere = elsewhere
of_cosigner (both_ran heard m s) = ran heard s
of_cosigner (both_broke m s) = broke s

module _ (agrees : List Text → List Text → Type 0)
    (Computed : List Text → List Text → Text → Type 0) (Neutral : List Text → Text → Type 0)
    (ValidMirror ValidCosigner : List Text → Type 0) where
  abbrev Happen : MirrorEvent → CrashStates → CrashStates → CrashStates → CrashStates → Type 0
  Happen = MirrorHappens agrees Computed Neutral ValidMirror ValidCosigner

  abbrev Lead : MirrorEvent → CrashStates → CrashStates → CrashStates → CrashStates → Type 0
  Lead = MirrorLeads agrees Computed Neutral ValidMirror ValidCosigner

  mirror_happens : (event : MirrorEvent) (mirror cosigner mirror' cosigner' : CrashStates)
      → Happen event mirror cosigner mirror' cosigner'
      → Happens ValidMirror (of_mirror event) mirror mirror'
  mirror_happens both_elsewhere mirror cosigner mirror' cosigner' happens = happens.0
  mirror_happens (both_ran heard m s) mirror cosigner mirror' cosigner' happens = happens.1.0
  mirror_happens (both_broke m s) mirror cosigner mirror' cosigner' happens = elim happens [
    | inl kept ↦ inl kept.0
    | inr done ↦ inr done.1.0
  ]

  cosigner_happens : (event : MirrorEvent) (mirror cosigner mirror' cosigner' : CrashStates)
      → Happen event mirror cosigner mirror' cosigner'
      → Happens ValidCosigner (of_cosigner event) cosigner cosigner'
  cosigner_happens both_elsewhere mirror cosigner mirror' cosigner' happens = happens.1
  cosigner_happens (both_ran heard m s) mirror cosigner mirror' cosigner' happens = happens.1.1
  cosigner_happens (both_broke m s) mirror cosigner mirror' cosigner' happens = elim happens [
    | inl kept ↦ inl kept.1
    | inr done ↦ inr done.1.1
  ]

  module _ (keeps : KeepsAgreement agrees Computed Neutral ValidMirror ValidCosigner)
      (items steps : List Text) (mirror cosigner mirror' cosigner' : CrashStates)
      (durable : IsDurablePrefix ValidMirror items mirror)
      (durable' : IsDurablePrefix ValidCosigner steps cosigner)
      (agree : Agree agrees Computed Neutral mirror cosigner) where
    kept_agree : NoNew mirror mirror' → NoNew cosigner cosigner'
        → Agree agrees Computed Neutral mirror' cosigner'
    kept_agree kept kept' list others at at' =
        agree list others (at.0, (kept at.0 at.1.0, at.1.1))
        (at'.0, (kept' at'.0 at'.1.0, at'.1.1))

    came_mirror : (did : Journaled) (others : List Text) → HalfDone ValidMirror did mirror mirror'
        → MayRecover mirror' others
        → MayRecover mirror others ⊎ IsAdded ValidMirror did mirror others
    came_mirror = came ValidMirror items mirror mirror' durable

    came_cosigner : (did : Journaled) (others : List Text)
        → HalfDone ValidCosigner did cosigner cosigner' → MayRecover cosigner' others
        → MayRecover cosigner others ⊎ IsAdded ValidCosigner did cosigner others
    came_cosigner = came ValidCosigner steps cosigner cosigner' durable'

    -- a step is added
    with_step : (m : Journaled) (list others : List Text) (body : Text)
        → MayDo agrees Computed Neutral m (appended others body)
        → HalfDone ValidMirror m mirror mirror' → MayRecover mirror' list
        → MayRecover mirror list → MayRecover cosigner others
        → ValidCosigner (others ++ body ∷ []) → agrees list (others ++ body ∷ [])
    with_step untouched list others body may done at was was' valid =
        keeps.neutral list others body may valid (agree list others was was')
    with_step (reads found) list others body may done at was was' valid =
        let same = one_list at.0 found list (done.1 at.0 at.1.0) at.1.1 in
        keeps.computed list others body
        (subst (λ (l : List Text). Computed l others body) same may) valid
        (agree list others was was')
    with_step (appended found batch) list others body may done at was was' valid = absurd may
    with_step (started batch) list others body may done at was was' valid = absurd may

    never_both : (list others : List Text) (batch body : Text)
        → MayDo agrees Computed Neutral (appended list batch) (appended others body) → ⊥
    never_both list others batch body may = may

    half_agree : (m s : Journaled) → MayDo agrees Computed Neutral m s
        → HalfDone ValidMirror m mirror mirror' → HalfDone ValidCosigner s cosigner cosigner'
        → Agree agrees Computed Neutral mirror' cosigner'
    half_agree m s may done done' list others at at' =
        elim (came_mirror m list done at) [
          | inl was ↦ elim (came_cosigner s others done' at') [
            | inl was' ↦ agree list others was was'
            | inr added ↦ subst (λ (l : List Text). agrees list l) (sym added.now_is)
                (with_step m list added.list added.body
                (subst (λ (j : Journaled). MayDo agrees Computed Neutral m j) added.is may)
                done at was added.was added.valid)
          ]
          | inr more ↦ elim (came_cosigner s others done' at') [
            | inl was' ↦ subst (λ (l : List Text). agrees l others) (sym more.now_is)
                (keeps.more more.list others more.body more.valid
                (agree more.list others more.was was'))
            | inr added ↦ absurd (never_both more.list added.list more.body added.body
                (subst (λ (j : Journaled). MayDo agrees Computed Neutral j
                (appended added.list added.body)) more.is
                (subst (λ (j : Journaled). MayDo agrees Computed Neutral m j) added.is may)))
          ]
        ]

    one_event : (event : MirrorEvent) → Happen event mirror cosigner mirror' cosigner'
        → Agree agrees Computed Neutral mirror' cosigner'
    one_event both_elsewhere happens = kept_agree happens.0 happens.1
    one_event (both_ran heard m s) happens =
        half_agree m s happens.0 (whole_is_half ValidMirror m mirror mirror' happens.1.0)
        (whole_is_half ValidCosigner s cosigner cosigner' happens.1.1)
    one_event (both_broke m s) happens = elim happens [
      | inl kept ↦ kept_agree kept.0 kept.1
      | inr done ↦ half_agree m s done.0 done.1.0 done.1.1
    ]

  module _ {W : Type 0} (mirror cosigner : W → CrashStates)
      (keeps : KeepsAgreement agrees Computed Neutral ValidMirror ValidCosigner)
      (items steps : List Text) where
    after : (events : List MirrorEvent) (old new : W)
        → IsDurablePrefix ValidMirror items (mirror old)
        → IsDurablePrefix ValidCosigner steps (cosigner old)
        → Agree agrees Computed Neutral (mirror old) (cosigner old)
        → IsExecution (LeadsMirror agrees Computed Neutral ValidMirror ValidCosigner mirror
        cosigner) old events new
        → Agree agrees Computed Neutral (mirror new) (cosigner new)
    after [] old new durable durable' agree is =
        subst (λ (w : W). Agree agrees Computed Neutral (mirror w) (cosigner w)) (sym is) agree
    after (event ∷ events) old new durable durable' agree is =
        let happens = is.1.0.happens in
        after events is.0 new
        (stay_durable ValidMirror items (mirror old) durable (of_mirror event) (mirror is.0)
        (record {
          some = is.1.0.some_mirror;
          happens = mirror_happens event (mirror old) (cosigner old) (mirror is.0)
              (cosigner is.0) happens;
        }))
        (stay_durable ValidCosigner steps (cosigner old) durable' (of_cosigner event)
        (cosigner is.0) (record {
          some = is.1.0.some_cosigner;
          happens = cosigner_happens event (mirror old) (cosigner old) (mirror is.0)
              (cosigner is.0) happens;
        }))
        (one_event keeps items steps (mirror old) (cosigner old) (mirror is.0) (cosigner is.0)
        durable durable' agree event happens) is.1.1

  pub always_agree : {W : Type 0} (mirror cosigner : W → CrashStates)
      → AlwaysAgree agrees Computed Neutral ValidMirror ValidCosigner mirror cosigner
  always_agree mirror cosigner keeps items steps old new events durable durable' agree is =
      after mirror cosigner keeps items steps events old new durable durable' agree is
