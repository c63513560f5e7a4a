-- The steps of one party keep what holds of it.
use Rattle.std.proofs.Common.{◌≡◌, ℕ, zero, suc, ◌+◌, ◌≤◌, not, Bool, true, false, List, []}
use Rattle.std.proofs.Common.{◌∷◌, ◌++◌, length, length-append, Option, Some, None, IfSome, refl}
use Rattle.std.proofs.Common.{ap, sym, ◌∙◌, subst, arith, append_assoc, inl, inr}
use Rattle.std.proofs.lemmas.List.{append-nil}
use Rattle.std.specs.Prelude.{is_some, Contains}
use Rattle.std.proofs.lemmas.Bool.{and_parts}
use Rattle.std.proofs.lemmas.Option.{cond_some, same_Some, IfSome_then}
use Rattle.byte_formats.specs.Types.{Text}
use Rattle.file_events.specs.Executions.{IsPrefix}
use Rattle.party_history.specs.Histories.{Valid, may_begin, moved}
use Rattle.party_history.specs.Laws.{AreAtMost, HasGrown, IsSoundParty, RisesFrom, WerePending}
use Rattle.party_history.specs.Parties.{HistoryState, begin, fresh_party, release, make_durable}
use Rattle.party_history.specs.Parties.{stop}
use Rattle.party_history.specs.Parties.{with_pending, party_of_step}
use Rattle.party_history.specs.declared.start.PartyStart.{PartyStart}
use Rattle.party_history.specs.declared.step.PartyStep.{PartyStep}
use Rattle.party_history.specs.declared.step.PartyStep.TheVariants.{Begin, MakeDurable, Release}
use Rattle.party_history.specs.declared.step.PartyStep.TheVariants.{Stop}
use Rattle.std.proofs.lemmas.List.Elements.{Contains-append_left, Contains-push}
use Rattle.std.proofs.lemmas.List.Elements.{Contains-push_cases}

no_true : {X : Type 0} → false ≡ true → X
no_true {X} is = absurd cc

-- ---- numbers of released records

at_most_more : (low high : ℕ) (ns : List ℕ) → low ≤ high → AreAtMost low ns → AreAtMost high ns
at_most_more low high [] more all = tt
at_most_more low high (n ∷ ns) more all =
    (omega (arith, all.0), at_most_more low high ns more all.1)

at_most_push : (high n : ℕ) (ns : List ℕ) → n ≤ high → AreAtMost high ns
    → AreAtMost high (ns ++ n ∷ [])
at_most_push high n [] few all = (few, tt)
at_most_push high n (m ∷ ns) few all = (all.0, at_most_push high n ns few all.1)

rises_push : (low before : ℕ) (ns : List ℕ) → low ≤ before → AreAtMost before ns
    → RisesFrom low ns → RisesFrom low (ns ++ (before + 1) ∷ [])
rises_push low before [] below all rise = (omega arith, tt)
rises_push low before (n ∷ ns) below all rise =
    (rise.0, rises_push n before ns all.0 all.1 rise.1)

-- ---- a pending record

longer : (list : List Text) (p : Option Text) → length list ≤ length (with_pending list p)
longer list None = omega arith
longer list (Some body) = omega (arith, length-append list (body ∷ []))

one_more : (list : List Text) (p : Option Text) → is_some p ≡ true
    → length (with_pending list p) ≡ length list + 1
one_more list None is = no_true is
one_more list (Some body) is = length-append list (body ∷ [])

pub begins_with : (list : List Text) (p : Option Text) → IsPrefix list (with_pending list p)
begins_with list None = ([], append-nil list)
begins_with list (Some body) = (body ∷ [], refl)

begins_same : {T : Type 0} (xs : List T) → IsPrefix xs xs
begins_same {T} xs = ([], append-nil xs)

begins_on : {T : Type 0} (xs ys zs : List T) → IsPrefix xs ys → IsPrefix ys zs → IsPrefix xs zs
begins_on {T} xs ys zs one two = (
  one.0 ++ two.0,
  sym (append_assoc xs one.0 two.0) ∙ ap (λ (l : List T). l ++ two.0) one.1 ∙ two.1,
)

grown_to : (s t : HistoryState) → t.start ≡ s.start → IsPrefix s.durable t.durable
    → IsPrefix s.released t.released → HasGrown s t
grown_to s t start durable released =
    record { start = start; durable = durable; released = released }

module _ (valid : Valid) where
  valid_with : (start : PartyStart) (list : List Text) (p : Option Text)
      → valid start list ≡ true
      → IfSome p (λ body. valid start (list ++ body ∷ []) ≡ true)
      → valid start (with_pending list p) ≡ true
  valid_with start list None is more = is
  valid_with start list (Some body) is more = more

  -- the pending record is durable, where there is one
  kept_sound : (s : HistoryState) (may : Bool) → IsSoundParty valid s
      → (may ≡ true → length (with_pending s.durable s.pending) ≡ length s.durable + 1)
      → IsSoundParty valid (record {
        start = s.start;
        durable = with_pending s.durable s.pending;
        pending = None;
        released = s.released;
        may_release = may;
      })
  kept_sound s may was one = record {
    durable = valid_with s.start s.durable s.pending was.durable was.pending;
    pending = tt;
    rise = was.rise;
    there = at_most_more (length s.durable) (length (with_pending s.durable s.pending)) s.released
        (longer s.durable s.pending) was.there;
    some = λ is. omega (arith, one is);
    may = λ is before last. at_most_more (length s.durable) before s.released
        (omega (arith, one is, last)) was.there;
  }

  release_sound : (s : HistoryState) (n : ℕ) → length s.durable ≡ n → IsSoundParty valid s
      → s.may_release ≡ true → IsSoundParty valid (release s)
  release_sound s zero same was is = absurd (omega (arith, was.some is))
  release_sound s (suc before) same was is =
      let last : before + 1 ≡ length s.durable = omega arith in record {
        durable = was.durable;
        pending = was.pending;
        rise = subst (λ (n : ℕ). RisesFrom 0 (s.released ++ n ∷ [])) last
            (rises_push 0 before s.released (omega arith) (was.may is before last) was.rise);
        there = at_most_push (length s.durable) (length s.durable) s.released (omega arith)
            was.there;
        some = λ wrong. no_true wrong;
        may = λ wrong. no_true wrong;
      }

  pub moved_sound : (s t : HistoryState) (step : PartyStep) → IsSoundParty valid s
      → moved valid s step ≡ Some t → IsSoundParty valid t
  moved_sound s t (Begin party body) was is =
      let went = cond_some (may_begin valid s body) (begin body s) t is in
      let tests = and_parts (not (is_some s.pending)) (valid s.start (s.durable ++ body ∷ []))
      went.0 in
      subst (IsSoundParty valid) went.1 (record {
        durable = was.durable;
        pending = tests.1;
        rise = was.rise;
        there = was.there;
        some = was.some;
        may = was.may;
      })
  moved_sound s t (MakeDurable party) was is =
      let went = cond_some (is_some s.pending) (make_durable s) t is in
      subst (IsSoundParty valid) went.1
      (kept_sound s true was (λ may. one_more s.durable s.pending went.0))
  moved_sound s t (Release party) was is =
      let went = cond_some s.may_release (release s) t is in
      subst (IsSoundParty valid) went.1 (release_sound s (length s.durable) refl was went.0)
  moved_sound s t (Stop party true) was is =
      subst (IsSoundParty valid) (same_Some (stop true s) t is)
      (kept_sound s false was (λ wrong. no_true wrong))
  moved_sound s t (Stop party false) was is =
      subst (IsSoundParty valid) (same_Some (stop false s) t is) (record {
        durable = was.durable;
        pending = tt;
        rise = was.rise;
        there = was.there;
        some = λ wrong. no_true wrong;
        may = λ wrong. no_true wrong;
      })

  pub fresh_sound : (start : PartyStart) → valid start [] ≡ true
      → IsSoundParty valid (fresh_party start)
  fresh_sound start is = record {
    durable = is;
    pending = tt;
    rise = tt;
    there = tt;
    some = λ wrong. no_true wrong;
    may = λ wrong. no_true wrong;
  }

  -- what is durable stays
  pub moved_grown : (s t : HistoryState) (step : PartyStep) → moved valid s step ≡ Some t
      → HasGrown s t
  moved_grown s t (Begin party body) is =
      subst (HasGrown s) (cond_some (may_begin valid s body) (begin body s) t is).1
      (grown_to s (begin body s) refl (begins_same s.durable) (begins_same s.released))
  moved_grown s t (MakeDurable party) is =
      subst (HasGrown s) (cond_some (is_some s.pending) (make_durable s) t is).1
      (grown_to s (make_durable s) refl (begins_with s.durable s.pending) (begins_same s.released))
  moved_grown s t (Release party) is =
      subst (HasGrown s) (cond_some s.may_release (release s) t is).1
      (grown_to s (release s) refl (begins_same s.durable) (length s.durable ∷ [], refl))
  moved_grown s t (Stop party true) is =
      subst (HasGrown s) (same_Some (stop true s) t is)
      (grown_to s (stop true s) refl (begins_with s.durable s.pending) (begins_same s.released))
  moved_grown s t (Stop party false) is =
      subst (HasGrown s) (same_Some (stop false s) t is)
      (grown_to s (stop false s) refl (begins_same s.durable) (begins_same s.released))

pub grown_same : (s : HistoryState) → HasGrown s s
grown_same s = grown_to s s refl (begins_same s.durable) (begins_same s.released)

pub grown_on : (s t u : HistoryState) → HasGrown s t → HasGrown t u → HasGrown s u
grown_on s t u one two =
    grown_to s u (two.start ∙ one.start) (begins_on s.durable t.durable u.durable one.durable
    two.durable) (begins_on s.released t.released u.released one.released two.released)

-- the bodies of a party with a pending one among them
among : (steps : List PartyStep) (place : ℕ) (list : List Text) (p : Option Text)
    → ((body : Text) → Contains list body → Contains steps (Begin place body))
    → IfSome p (λ body. Contains steps (Begin place body))
    → (body : Text) → Contains (with_pending list p) body → Contains steps (Begin place body)
among steps place list None durable pending body there = durable body there
among steps place list (Some last) durable pending body there =
    elim (Contains-push_cases list last body there) [
      | inl in_list ↦ durable body in_list
      | inr is ↦ subst (λ (b : Text). Contains steps (Begin place b)) is pending
    ]

pub pending_stays : (done : List PartyStep) (step : PartyStep) (place : ℕ) (s : HistoryState)
    → WerePending done place s → WerePending (done ++ step ∷ []) place s
pending_stays done step place s was =
    let more = λ (body : Text). Contains-append_left done (step ∷ []) (Begin place body) in record {
      durable = λ body there. more body (was.durable body there);
      pending = IfSome_then s.pending was.pending more;
    }

-- after a step with which no other record is pending
begun_kept : (steps : List PartyStep) (place : ℕ) (s : HistoryState) → WerePending steps place s
    → WerePending steps place (make_durable s)
begun_kept steps place s was = record {
  durable = among steps place s.durable s.pending was.durable was.pending;
  pending = tt;
}

pub pending_moves : (valid : Valid) (done : List PartyStep) (step : PartyStep) (s t : HistoryState)
    → WerePending done (party_of_step step) s → moved valid s step ≡ Some t
    → WerePending (done ++ step ∷ []) (party_of_step step) t
pending_moves valid done (Begin party body) s t was is =
    let here = pending_stays done (Begin party body) party s was in
    subst (WerePending (done ++ Begin party body ∷ []) party)
    (cond_some (may_begin valid s body) (begin body s) t is).1
    (record { durable = here.durable; pending = Contains-push done (Begin party body) })
pending_moves valid done (MakeDurable party) s t was is =
    subst (WerePending (done ++ MakeDurable party ∷ []) party)
    (cond_some (is_some s.pending) (make_durable s) t is).1
    (begun_kept (done ++ MakeDurable party ∷ []) party s
    (pending_stays done (MakeDurable party) party s was))
pending_moves valid done (Release party) s t was is =
    let here = pending_stays done (Release party) party s was in
    subst (WerePending (done ++ Release party ∷ []) party)
    (cond_some s.may_release (release s) t is).1
    (record { durable = here.durable; pending = here.pending })
pending_moves valid done (Stop party true) s t was is =
    let here = begun_kept (done ++ Stop party true ∷ []) party s
    (pending_stays done (Stop party true) party s was) in
    subst (WerePending (done ++ Stop party true ∷ []) party) (same_Some (stop true s) t is)
    (record { durable = here.durable; pending = tt })
pending_moves valid done (Stop party false) s t was is =
    let here = pending_stays done (Stop party false) party s was in
    subst (WerePending (done ++ Stop party false ∷ []) party) (same_Some (stop false s) t is)
    (record { durable = here.durable; pending = tt })

pub pending_fresh : (place : ℕ) (start : PartyStart) → WerePending [] place (fresh_party start)
pending_fresh place start =
    record { durable = λ body there. absurd (omega (arith, there.1)); pending = tt }
