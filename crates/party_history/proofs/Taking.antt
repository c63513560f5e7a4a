-- What runs and stops do to a journal are steps of its party's history.
use Rattle.std.proofs.Common.{◌≡◌, inl, inr, ℕ, ◌+◌, ◌&&◌, not, Bool, true, false, List, [], ◌∷◌}
use Rattle.std.proofs.Common.{◌++◌, length, Option, Some, None, Result, Ok, is_some, refl, ap, sym}
use Rattle.std.proofs.Common.{◌∙◌, subst, append_assoc, slice_get, map, if◌then◌else◌, IsOk, ◌≤◌}
use Rattle.std.proofs.Common.{arith}
use Rattle.std.proofs.lemmas.List.{append-nil, get_or_append_left, length-append, map-append}
use Rattle.std.proofs.lemmas.Option.{same_Some}
use Rattle.byte_formats.specs.Readings.{◌>>=◌, some_or}
use Rattle.byte_formats.specs.Types.{HashFunction, Text}
use Rattle.byte_formats.proofs.Steps.{bind_ok}
use Rattle.file_events.specs.Executions.{IsPrefix}
use Rattle.journal_core.specs.Folds.{Fold, state_after, taken_from}
use Rattle.cosigner_core.specs.Folds.{cosigner_fold}
use Rattle.file_events.specs.Histories.{History, ReachesAll, TakesSteps, recovered}
use Rattle.issuance_log.specs.Folds.{log_fold}
use Rattle.mirror_core.specs.Folds.{mirror_fold}
use Rattle.party_history.specs.Histories.{if_allowed, may_begin, moved}
use Rattle.party_history.specs.Journals.{Continues, HasHistory}
use Rattle.party_history.specs.Laws.{AreAtMost, LeadsTo, body_in, released_bodies}
use Rattle.party_history.specs.Parties.{HistoryState, begin, fresh_party, release, party_of_step}
use Rattle.party_history.specs.Parties.{make_durable}
use Rattle.party_history.specs.Parties.{stop, with_pending}
use Rattle.party_history.specs.Rules.{AreRecords, StartsWith, may_follow}
use Rattle.party_history.specs.declared.start.PartyStart.{PartyStart}
use Rattle.party_history.specs.declared.step.PartyStep.{PartyStep}
use Rattle.party_history.specs.declared.step.PartyStep.TheVariants.{Begin, MakeDurable, Release}
use Rattle.party_history.specs.declared.step.PartyStep.TheVariants.{Stop}
use Rattle.party_history.proofs.Agreement.{agree, alone, made_so}
use Rattle.party_history.proofs.Chains.{begins_fresh, continues}
use Rattle.party_history.proofs.Sound.{began_so, sound}
use Rattle.party_history.proofs.Steps.{begins_with, moved_grown}
use Rattle.std.proofs.Math.Seq.{get_or-append_seam}

-- the body of a number stays where more bodies are durable
one_there : (xs ys : List Text) (n : ℕ) → n ≤ length xs → body_in (xs ++ ys) n ≡ body_in xs n
one_there xs ys n few = get_or_append_left ([] ∷ xs) ys [] n (omega arith)

all_there : (xs ys : List Text) (ns : List ℕ) → AreAtMost (length xs) ns
    → map (body_in (xs ++ ys)) ns ≡ map (body_in xs) ns
all_there xs ys [] few = refl
all_there xs ys (n ∷ ns) few =
    ap (λ (x : Text). x ∷ map (body_in (xs ++ ys)) ns) (one_there xs ys n few.0)
    ∙ ap (λ (l : List Text). body_in xs n ∷ l) (all_there xs ys ns few.1)

pub same_released : (s : HistoryState) (durable : List Text)
    → AreAtMost (length s.durable) s.released
    → IsPrefix s.durable durable → map (body_in durable) s.released ≡ released_bodies s
same_released s durable few prefix =
    ap (λ (l : List Text). map (body_in l) s.released) (sym prefix.1)
    ∙ all_there s.durable prefix.0 s.released few

-- a record that is durable and released is one more
pub one_released : (s : HistoryState) (body : Text) → AreAtMost (length s.durable) s.released
    → map (body_in (s.durable ++ body ∷ [])) (s.released ++ length (s.durable ++ body ∷ []) ∷ [])
    ≡ released_bodies s ++ body ∷ []
one_released s body few =
    let all = s.durable ++ body ∷ [] in
    let grown = length-append s.durable (body ∷ []) in
    let last : length all ≡ length ([] ∷ s.durable) = omega (arith, grown) in
    map-append (body_in all) s.released (length all ∷ [])
    ∙ ap (λ (l : List Text). l ++ body_in all (length all) ∷ [])
    (same_released s all few (body ∷ [], refl))
    ∙ ap (λ (x : Text). released_bodies s ++ x ∷ [])
    (ap (λ (n : ℕ). body_in all n) last ∙ get_or-append_seam ([] ∷ s.durable) body [] [])

-- ---- a prefix of records makes a log, a cosigner or a mirror

module _ {S E : Type 0} (fold : Fold S E) where
  prefix_taken : (k : ℕ) (s : S) (xs ys : List Text) (t : S)
      → taken_from fold k s (xs ++ ys) ≡ Ok t → IsOk (taken_from fold k s xs)
  unfolding taken_from
  prefix_taken k s [] ys t is = refl
  prefix_taken k s (x ∷ xs) ys t is =
      let step = bind_ok (some_or k (fold.takes s x))
      (λ (u : S). taken_from fold (k + 1) u (xs ++ ys)) t is in
      subst (λ (r : Result S ℕ). IsOk (r >>= λ (u : S). taken_from fold (k + 1) u xs))
      (sym step.1) (prefix_taken (k + 1) step.0 xs ys t step.2)

  prefix_state : (x : Text) (xs ys : List Text) → IsOk (state_after fold (x ∷ (xs ++ ys)))
      → IsOk (state_after fold (x ∷ xs))
  unfolding state_after
  prefix_state x xs ys is =
      let made = made_so (state_after fold (x ∷ (xs ++ ys))) is in
      let step = bind_ok (some_or 0 (fold.begins x)) (λ (u : S). taken_from fold 1 u (xs ++ ys))
      made.0 made.1 in
      subst (λ (r : Result S ℕ). IsOk (r >>= λ (u : S). taken_from fold 1 u xs)) (sym step.1)
      (prefix_taken 1 step.0 xs ys made.0 step.2)

prefix_records : (h : HashFunction) (x : Text) (xs ys : List Text)
    → AreRecords h (x ∷ (xs ++ ys)) → AreRecords h (x ∷ xs)
prefix_records h x xs ys (inl is) = inl (prefix_state (log_fold h) x xs ys is)
prefix_records h x xs ys (inr (inl is)) = inr (inl (prefix_state (cosigner_fold h) x xs ys is))
prefix_records h x xs ys (inr (inr is)) = inr (inr (prefix_state (mirror_fold h) x xs ys is))

pub no_records : (h : HashFunction) → AreRecords h [] → ⊥
unfolding state_after
no_records h (inl is) = absurd cc
no_records h (inr (inl is)) = absurd cc
no_records h (inr (inr is)) = absurd cc

-- ---- what is durable after a stop

recovered_is : (kept : Bool) (first : Text) (durable : List Text) (pending : Option Text)
    → recovered kept (first ∷ durable) pending
    ≡ first ∷ (if kept then with_pending durable pending else durable)
recovered_is true first durable None = refl
recovered_is true first durable (Some body) = refl
recovered_is false first durable None = refl
recovered_is false first durable (Some body) = refl

-- ---- step by step

module _ (h : HashFunction) (starts : List PartyStart) (place : ℕ) (start : PartyStart)
    (there : slice_get starts place ≡ Some start) (first : Text) (begins : StartsWith start first)
    (steps : List PartyStep) where
  abbrev Goes : List Text → Option Text → List Text → Type 0
  Goes = Continues h starts place first steps

  module _ {list : List Text} {pending : Option Text} {out : List Text}
      (g : Goes list pending out) where
    few : AreAtMost (length g.state.durable) g.state.released
    few = (sound (may_follow h) (alone h) starts (steps ++ g.more) place g.state g.leads).there

    began : StartsWith g.state.start first
    began =
        subst (λ (n : PartyStart). StartsWith n first)
        (same_Some start g.state.start (sym there
        ∙ began_so (may_follow h) starts (steps ++ g.more) place g.state g.leads)) begins

    -- after one step more, which leaves the journal so
    abbrev goes_by : (step : PartyStep) (t : HistoryState) (list' : List Text)
        (pending' : Option Text) (out' : List Text) → party_of_step step ≡ place
        → moved (may_follow h) g.state step ≡ Some t → list' ≡ first ∷ t.durable
        → pending' ≡ t.pending → out' ≡ released_bodies t → Goes list' pending' out'
    goes_by step t list' pending' out' here moves list_is pending_is out_is = record {
      more = g.more ++ step ∷ [];
      state = t;
      leads = subst (λ (l : List PartyStep). LeadsTo (may_follow h) starts l place t)
          (append_assoc steps g.more (step ∷ []))
          (continues (may_follow h) starts (steps ++ g.more) place g.state t step g.leads here
          moves);
      list_is = list_is;
      pending_is = pending_is;
      out_is = out_is;
    }

    -- what was released stays where more is durable
    still_out : (durable : List Text) → IsPrefix g.state.durable durable
        → out ≡ map (body_in durable) g.state.released
    still_out durable prefix = g.out_is ∙ sym (same_released g.state durable few prefix)

  abbrev ended : (list : List Text) (body : Text) (out : List Text)
      → Goes list (Some body) out → Goes (list ++ body ∷ []) None out
  ended list body out g =
      goes_by g (MakeDurable place) (make_durable g.state) (list ++ body ∷ []) None out refl
      (ap (λ (p : Option Text). if_allowed (is_some p) (make_durable g.state)) (sym g.pending_is))
      (ap (λ (l : List Text). l ++ body ∷ []) g.list_is
      ∙ ap (λ (p : Option Text). first ∷ with_pending g.state.durable p) g.pending_is) refl
      (still_out g (make_durable g.state).durable (begins_with g.state.durable g.state.pending))

  pub takes : TakesSteps (AreRecords h) Goes
  takes = record {
    stops = λ kept list pending out g.
        let t = stop kept g.state in
        goes_by g (Stop place kept) t (recovered kept list pending) None out refl refl
        (ap (λ (l : List Text). recovered kept l pending) g.list_is
        ∙ ap (λ (p : Option Text). recovered kept (first ∷ g.state.durable) p) g.pending_is
        ∙ recovered_is kept first g.state.durable g.state.pending) refl
        (still_out g t.durable
        (moved_grown (may_follow h) g.state t (Stop place kept) refl).durable);
    begins = λ list body out records g.
        let valid = agree h g.state.start first (g.state.durable ++ body ∷ []) (began g)
        (subst (λ (l : List Text). AreRecords h (l ++ body ∷ [])) g.list_is records) in
        let may : may_begin (may_follow h) g.state body ≡ true
        = ap (λ (p : Option Text). not (is_some p)
        && may_follow h g.state.start (g.state.durable ++ body ∷ [])) (sym g.pending_is) ∙ valid in
        goes_by g (Begin place body) (begin body g.state) list (Some body) out refl
        (ap (λ (b : Bool). if_allowed b (begin body g.state)) may) g.list_is refl g.out_is;
    ends = ended;
    releases = λ list body out g.
        let e = ended list body out g in
        goes_by e (Release place) (release (make_durable g.state)) (list ++ body ∷ []) None
        (out ++ body ∷ [])
        refl refl e.list_is refl (ap (λ (o : List Text). o ++ body ∷ []) g.out_is
        ∙ sym (one_released g.state body (few g))
        ∙ ap (λ (p : Option Text). map (body_in (with_pending g.state.durable p))
        (g.state.released ++ length (with_pending g.state.durable p) ∷ [])) g.pending_is);
  }

-- ---- each valid list is reached, with no record released

module _ (h : HashFunction) (first : Text) (Reaches : History)
    (take : TakesSteps (AreRecords h) Reaches) where
  abbrev ReachesAfter : List Text → Type 0
  ReachesAfter bodies = Reaches (first ∷ bodies) None []

  more_reached : (rest bodies : List Text) → ReachesAfter bodies
      → AreRecords h (first ∷ (bodies ++ rest)) → ReachesAfter (bodies ++ rest)
  more_reached [] bodies was records = subst ReachesAfter (sym (append-nil bodies)) was
  more_reached (body ∷ rest) bodies was records =
      let joined = append_assoc bodies (body ∷ []) rest in
      let all = subst (λ (l : List Text). AreRecords h (first ∷ l)) (sym joined) records in
      let valid = prefix_records h first (bodies ++ body ∷ []) rest all in
      subst ReachesAfter joined (more_reached rest (bodies ++ body ∷ [])
      (take.ends (first ∷ bodies) body [] (take.begins (first ∷ bodies) body [] valid was)) all)

module _ (h : HashFunction) where
  pub reaches_all : ReachesAll (AreRecords h) (HasHistory h)
  reaches_all [] records = absurd (no_records h records)
  reaches_all (first ∷ durable) records = record {
    first = first;
    durable = durable;
    are = refl;
    of_party = λ start begins. more_reached h first (Continues h (start ∷ []) 0 first [])
        (takes h (start ∷ []) 0 start refl first begins []) durable [] (record {
          more = [];
          state = fresh_party start;
          leads = begins_fresh (may_follow h) (start ∷ []) 0 start refl;
          list_is = refl;
          pending_is = refl;
          out_is = refl;
        }) records;
  }

  -- each party's history continues
  module _ (list : List Text) (pending : Option Text) (out : List Text)
      (r : HasHistory h list pending out) where
    abbrev Each : List Text → Option Text → List Text → Type 0
    Each list' pending' out' = (start : PartyStart) → StartsWith start r.first
        → TakesSteps (AreRecords h) (Continues h (start ∷ []) 0 r.first [])
        → Continues h (start ∷ []) 0 r.first [] list pending out
        → Continues h (start ∷ []) 0 r.first [] list' pending' out'

    each_goes : (list' durable' : List Text) (pending' : Option Text) (out' : List Text)
        → list' ≡ r.first ∷ durable' → Each list' pending' out' → HasHistory h list' pending' out'
    each_goes list' durable' pending' out' are goes = record {
      first = r.first;
      durable = durable';
      are = are;
      of_party = λ start begins. goes start begins
          (takes h (start ∷ []) 0 start refl r.first begins []) (r.of_party start begins);
    }

  pub takes_steps : TakesSteps (AreRecords h) (HasHistory h)
  takes_steps = record {
    stops = λ kept list pending out r. each_goes list pending out r _ _ None out
        (ap (λ (l : List Text). recovered kept l pending) r.are
        ∙ recovered_is kept r.first r.durable pending)
        (λ start begins take. take.stops kept list pending out);
    begins = λ list body out records r. each_goes list None out r list r.durable (Some body) out
        r.are (λ start begins take. take.begins list body out records);
    ends = λ list body out r. each_goes list (Some body) out r _ (r.durable ++ body ∷ []) None out
        (ap (λ (l : List Text). l ++ body ∷ []) r.are)
        (λ start begins take. take.ends list body out);
    releases = λ list body out r. each_goes list (Some body) out r _ (r.durable ++ body ∷ []) None _
        (ap (λ (l : List Text). l ++ body ∷ []) r.are)
        (λ start begins take. take.releases list body out);
  }
