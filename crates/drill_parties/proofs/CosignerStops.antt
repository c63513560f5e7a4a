-- What a stop within a call of a cosigner leaves.
use Rattle.std.proofs.Common.{◌≡◌, ◌∙◌, ◌⊎◌, ◌≤◌, ◌<◌, ◌^◌, ℕ, inl, inr, List, [], ◌∷◌, ◌++◌}
use Rattle.std.proofs.Common.{arith, Option, Some, None, Ok, Err, Bool, subst, sym, ap, refl, drop}
use Rattle.std.proofs.Common.{append_assoc, length}
use Rattle.std.specs.List.{Contains}
use Rattle.std.proofs.lemmas.List.{append-nil}
use Rattle.std.proofs.lemmas.List.Elements.{Contains-append_left, Contains-push}
use Rattle.byte_formats.specs.Types.{Hash, Text, HashFunction}
use Rattle.tls_wire.specs.Encoding.{AreHashes}
use Rattle.journal_core.specs.Folds.{state_after}
use Rattle.journal_core.specs.Format.{Represents}
use Rattle.cosigner_core.specs.Folds.{CosignerState, cosigner_of}
use Rattle.cosigner_core.specs.Records.{sign_record}
use Rattle.cosigner_core.specs.declared.requests.SubtreeRequest.{SubtreeRequest}
use Rattle.cosigner_core.specs.declared.step.Step.TheVariants.{Sign}
use Rattle.cosigner_core.proofs.Encoded.{step_again}
use Rattle.drill_parties.specs.CosignerCalls.{IsNumbered, IsSignature, body_called, cosigner_after}
use Rattle.drill_parties.specs.CosignerParties.{HasMore, HasRecorded, HasSign, HasSigned}
use Rattle.drill_parties.specs.CosignerParties.{IsAsBefore}
use Rattle.drill_parties.specs.CosignerParties.{IsAfterCall, IsLeftByStop, IsReopened, most_of}
use Rattle.drill_parties.specs.declared.cosigner_calls.CosignerCall.{CosignerCall}
use Rattle.drill_parties.specs.declared.cosigner_calls.CosignerCall.TheVariants.{Cosign}
use Rattle.drill_parties.specs.declared.turns.Stop.{Stop}

-- the cosigner that is opened again is one of the two, and the latter where the call was done
pub reopened_by : (h : HashFunction) (call : CosignerCall) (s t : CosignerState)
    (before after : List Text) (crash_states : Text → Type 0) (bytes out : Text) (done : Bool)
    → IsLeftByStop h call s before crash_states out done → crash_states bytes
    → ((list : List Text) (u : CosignerState) → Represents bytes list → cosigner_of h list ≡ Ok u
    → (t ≡ u) × (after ≡ list)) → IsReopened call s t before after out done
reopened_by h call s t before after crash_states bytes out done left crash_state opened =
    let either : IsAsBefore s t before after ⊎ IsAfterCall call s t before after =
    elim (left.either bytes crash_state) [
      | inl stands ↦ inl (opened before s stands left.old)
      | inr stands ↦ inr (opened (before ++ body_called s call ∷ []) (cosigner_after s call)
          stands left.new)
    ] in
    record {
      either = either;
      all = λ is. opened (before ++ body_called s call ∷ []) (cosigner_after s call)
          (left.all is bytes crash_state) left.new;
      signed = left.signed;
      numbered = left.numbered;
    }

-- ---- records

-- the records are those from before, or one more
pub reopened_more : (call : CosignerCall) (s t : CosignerState) (before after : List Text)
    (out : Text) (done : Bool) → IsReopened call s t before after out done → HasMore before after
reopened_more call s t before after out done is =
    elim is.either [
      | inl same ↦ ([], same.1 ∙ sym (append-nil before))
      | inr grown ↦ (body_called s call ∷ [], grown.1)
    ]

pub more_twice : (a b c : List Text) → HasMore a b → HasMore b c → HasMore a c
more_twice a b c first second = (
  first.0 ++ second.0,
  second.1 ∙ ap (λ (list : List Text). list ++ second.0) first.1
      ∙ append_assoc a first.0 second.0,
)

-- what follows the first record stays there
pub stays_after : (before after : List Text) (body : Text) → HasMore before after
    → Contains (drop 1 before) body → Contains (drop 1 after) body
stays_after [] after body more there = absurd (omega (arith, there.1))
stays_after (first ∷ bodies) after body more there =
    subst (λ (list : List Text). Contains (drop 1 list) body) (sym more.1)
    (Contains-append_left bodies more.0 body there)

-- records that make a cosigner have a first one
last_after : (h : HashFunction) (s : CosignerState) (before : List Text) (body : Text)
    → cosigner_of h before ≡ Ok s → Contains (drop 1 (before ++ body ∷ [])) body
unfolding state_after
last_after h s [] body is = let wrong : Err 0 ≡ Ok s = is in absurd cc
last_after h s (first ∷ bodies) body is = Contains-push bodies body

-- the Sign of a call that was done stands among the records
pub recorded_last : (h : HashFunction) (r : SubtreeRequest) (s : CosignerState)
    (before after : List Text) → cosigner_of h before ≡ Ok s → IsNumbered s (Cosign r)
    → after ≡ before ++ body_called s (Cosign r) ∷ [] → HasRecorded r after
recorded_last h r s before after made numbered is = record {
  index = s.key.next;
  small = numbered;
  there = subst (λ (list : List Text). Contains (drop 1 list) (body_called s (Cosign r))) (sym is)
      (last_after h s before (body_called s (Cosign r)) made);
}

-- it says a Sign
pub says_sign : (r : SubtreeRequest) (list : List Text) → HasRecorded r list
    → r.start < 2 ^ 64 → r.end < 2 ^ 64 → length r.hash ≡ 32 → AreHashes r.proof.now
    → HasSign r.start r.end r.hash list
says_sign r list is start end sized hashes = record {
  index = is.index;
  proof = r.proof.now;
  body = sign_record is.index r.start r.end r.hash r.proof.now;
  there = is.there;
  says = step_again (Sign is.index r.start r.end r.hash r.proof.now) (record {
    short_word = is.small;
    start_word = start;
    end_word = end;
    sized = sized;
    all_hashes = hashes;
  });
}

pub sign_stays : (start end : ℕ) (hash : Hash) (before after : List Text) → HasMore before after
    → HasSign start end hash before → HasSign start end hash after
sign_stays start end hash before after more is = record {
  index = is.index;
  proof = is.proof;
  body = is.body;
  there = stays_after before after is.body more is.there;
  says = is.says;
}

-- ---- signatures

some_most : (turn : Option Stop) → 1 ≤ most_of turn
some_most None = omega arith
some_most (Some stop) = omega arith

-- a cosigner that signs once
pub signed_once : (r : SubtreeRequest) (turn : Option Stop) (s t : CosignerState) (out : Text)
    → t ≡ cosigner_after s (Cosign r) → IsSignature s (Cosign r) out
    → HasSigned (Cosign r) turn s t out
signed_once r turn s t out is signed =
    let most = some_most turn in
    subst (λ (x : CosignerState). HasSigned (Cosign r) turn s x out) (sym is) (record {
      id = refl;
      log = refl;
      held = refl;
      key = refl;
      more = omega arith;
      few = omega (arith, most);
      signed = signed;
    })

-- a cosigner that signs again after a stop, and may have signed in it
pub signed_again : (r : SubtreeRequest) (turn : Option Stop) (stop : Stop) (s t u : CosignerState)
    (before after : List Text) (out given : Text) (done : Bool) → turn ≡ Some stop
    → IsReopened (Cosign r) s t before after out done → u ≡ cosigner_after t (Cosign r)
    → IsSignature t (Cosign r) given → HasSigned (Cosign r) turn s u given
signed_again r turn stop s t u before after out given done stopped is following signed =
    let next : (x : CosignerState) → t ≡ x → u ≡ cosigner_after x (Cosign r) =
    λ x same. following ∙ ap (λ (y : CosignerState). cosigner_after y (Cosign r)) same in
    let by : (x : CosignerState) → t ≡ x → IsSignature x (Cosign r) given =
    λ x same. subst (λ (y : CosignerState). IsSignature y (Cosign r) given) same signed in
    let most : most_of turn ≡ 2 = ap most_of stopped in
    elim is.either [
      | inl same ↦ signed_once r turn s u given (next s same.0) (by s same.0)
      | inr grown ↦
          subst (λ (x : CosignerState). HasSigned (Cosign r) turn s x given)
          (sym (next (cosigner_after s (Cosign r)) grown.0)) (record {
            id = refl;
            log = refl;
            held = refl;
            key = refl;
            more = omega arith;
            few = omega (arith, most);
            signed = by (cosigner_after s (Cosign r)) grown.0;
          })
    ]
