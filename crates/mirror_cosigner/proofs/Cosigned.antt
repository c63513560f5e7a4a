-- What comes of a call that has a cosigner sign a subtree of a mirror's items.
use Rattle.std.proofs.Common.{◌≡◌, ◌≢◌, ◌^◌, ◌<◌, ℕ, ◌∙◌, List, [], ◌∷◌, ◌++◌, length, Option, Some}
use Rattle.std.proofs.Common.{None}
use Rattle.std.proofs.Common.{IfSome, Result, Ok, Err, refl, sym, ap, subst}
use Rattle.std.specs.Prelude.{OnErr, OnOk}
use Rattle.std.proofs.lemmas.Option.{IfSome_then}
use Rattle.byte_formats.specs.Types.{Hash, HashFunction, Text}
use Rattle.disk_core.specs.declared.disk.Disk.{Ghosts}
use Rattle.hss_core.specs.Hss.{Verifies}
use Rattle.hss_keys.specs.Keys.{public_of}
use Rattle.journal_core.specs.Owners.{Owner, OwnerAppends}
use Rattle.journal_core.specs.Words.{disk_of}
use Rattle.mtc_proof.specs.Inputs.{signed_text}
use Rattle.tree_core.specs.declared.hashing.TreeHash.{Ghosts as Hashes}
use Rattle.tree_proofs.specs.declared.checkpoint.Checkpoint.{Checkpoint}
use Rattle.cosigner_core.specs.Folds.{CosignerState, cosigner_of, having_signed}
use Rattle.cosigner_core.specs.Keyless.{keyless_owner, of_cosigner_journal}
use Rattle.cosigner_core.specs.Records.{sign_record}
use Rattle.cosigner_core.specs.Refusals.{CosignKeepsTo, cosign_refused}
use Rattle.cosigner_core.specs.Requests.{SubtreeParts}
use Rattle.cosigner_core.specs.Signatures.{signature_by}
use Rattle.cosigner_core.specs.declared.error.CosignError.{CosignError}
use Rattle.cosigner_core.specs.declared.error.CosignError.TheVariants as cosign_error
use Rattle.cosigner_core.specs.declared.keyless.KeylessCosigner.{KeylessCosigner}
use Rattle.state_journal.proofs.Owners.{owner_stays}
use Rattle.mirror_core.specs.Folds.{MirrorState, MirrorView}
use Rattle.mirror_cosigner.specs.Refusals.{MirrorStepKeepsTo, MirrorTestsSo, cosign_refusal_at}
use Rattle.mirror_cosigner.specs.Refusals.{of_mirror_step, signing_refusal}
use Rattle.mirror_cosigner.specs.Requests.{own_root, subtree_by_mirror}
use Rattle.mirror_cosigner.specs.Works.{CosignsBySome, MakesSubtree, MirrorCosigns, mirror_cosigns}
use Rattle.mirror_cosigner.specs.declared.cosigning.Signing.{Signing}
use Rattle.mirror_cosigner.specs.declared.error.MirrorStepError.{MirrorStepError}
use Rattle.mirror_cosigner.specs.declared.error.MirrorStepError.TheVariants.{Cosign}
use Rattle.mirror_cosigner.proofs.Advanced.{by_cosigner, cosigner_keeps, none_second, step_appends}
use Rattle.mirror_cosigner.proofs.Proved.{never_bad_cosign}
use Rattle.mirror_cosigner.proofs.Tested.{signing_before, tests_keep, tests_none, tests_refuse}

module _ {C : Type 0} (g : Ghosts C) (h : HashFunction) where
  -- the mirror refuses, or the tiles failed
  pub cosign_untried : (X : Type 0) {H : Type 0} {hashes : Hashes H}
      (it : KeylessCosigner H C hashes g)
      (size : ℕ) (own : Hash) (r : SubtreeParts) (out : Text) (why : MirrorStepError)
      → MirrorTestsSo {X = X}
      (signing_refusal size own (keyless_owner it).state.held r.start r.end) (Err why)
      → ((c : Text) → g.left_since (disk_of it.journal) (g.clock_at (disk_of it.journal)) c
      → g.may_leave (disk_of it.journal) c)
      → MirrorCosigns g h size own r (keyless_owner it) (keyless_owner it) out (Err why)
  unfolding cosign_refusal_at
  cosign_untried X it size own r out why is only_now =
      let state = (keyless_owner it).state in
      let first = signing_refusal size own state.held r.start r.end in
      let before = signing_before size own state.held r.start r.end in
      record {
        appends = owner_stays g of_mirror_step
            (sign_record state.key.next r.start r.end r.hash r.proof) (having_signed state)
            it.journal it.machine.contents why (tests_none X first why before is) only_now;
        answer = tests_keep X (Unit {0}) first _ why before is;
        valid = λ plain none. absurd (tests_refuse X first _ why is plain none);
        number = λ plain none. absurd (tests_refuse X first _ why is plain none);
        records = refl;
        signature = tt;
        verifies = tt;
      }

  -- the cosigner answers
  pub cosign_tried : (size : ℕ) (own : Hash) (r : SubtreeParts) (old new : Owner C CosignerState)
      (out : Text) (result : Result (Unit {0}) CosignError)
      → signing_refusal size own old.state.held r.start r.end ≡ None
      → OwnerAppends g of_cosigner_journal
      (sign_record old.state.key.next r.start r.end r.hash r.proof) (having_signed old.state) old
      new result
      → CosignKeepsTo (cosign_refused h old.state old.broken old.end r) result
      → (cosign_refused h old.state old.broken old.end r ≡ None → IfSome old.records (λ list.
      cosigner_of h (list ++ sign_record old.state.key.next r.start r.end r.hash r.proof ∷ [])
      ≡ Ok (having_signed old.state)))
      → old.state.key.next < 2 ^ 32 → OnErr result (new.records ≡ old.records)
      → OnOk result (out ≡ signature_by old.state r.start r.end r.hash)
      → OnOk result (Verifies (public_of old.state.key.key)
      (signed_text old.state.id old.state.log r.start r.end r.hash) out)
      → MirrorCosigns g h size own r old new out (by_cosigner result)
  unfolding cosign_refusal_at
  cosign_tried size own r old new out result none appends keeps valid number kept signed verified
      =
      let first = signing_refusal size own old.state.held r.start r.end in
      record {
        appends = step_appends g _ _ old new result appends;
        answer = cosigner_keeps first _ result none keeps;
        valid = λ plain no. valid (none_second first _ none no);
        number = λ plain no. number;
        records = kept_by result kept;
        signature = on_ok _ result signed;
        verifies = on_ok _ result verified;
      }
    where
      kept_by : (x : Result (Unit {0}) CosignError) → OnErr x (new.records ≡ old.records)
          → OnErr (by_cosigner x) (new.records ≡ old.records)
      kept_by (Ok done) is = tt
      kept_by (Err why) is = is

      on_ok : (P : Type 0) (x : Result (Unit {0}) CosignError) → OnOk x P → OnOk (by_cosigner x) P
      on_ok P (Ok done) is = is
      on_ok P (Err why) is = tt

-- ---- the request

-- a request with the parts of the mirror's own is that one
pub subtree_request_is : (h : HashFunction) (known : Option MirrorState) (held : Checkpoint)
    (log : Text) (start end : ℕ) (hash : Hash) (proof shown : List Hash)
    → IfSome known (λ s. log ≡ s.log) → shown ≡ proof
    → IfSome known (λ s. (hash ≡ (subtree_by_mirror h s held start end).hash)
    × (proof ≡ (subtree_by_mirror h s held start end).proof))
    → IfSome known (λ s.
    record { log = log; start = start; end = end; hash = hash; proof = shown }
    ≡ subtree_by_mirror h s held start end)
subtree_request_is h None held log start end hash proof shown named same is = tt
subtree_request_is h (Some s) held log start end hash proof shown named same is =
    ap (λ (l : Text). record { log = l; start = start; end = end; hash = hash; proof = shown })
    named
    ∙ ap (λ (r : Hash). record {
      log = s.log;
      start = start;
      end = end;
      hash = r;
      proof = shown;
    }) is.0
    ∙ ap (λ (p : List Hash). record {
      log = s.log;
      start = start;
      end = end;
      hash = (subtree_by_mirror h s held start end).hash;
      proof = p;
    }) (same ∙ is.1)

-- some request, which is the mirror's own if the model knows it
pub record SomeSubtree (h : HashFunction) (known : Option MirrorState) (v : MirrorView)
    (held : Checkpoint) (start end : ℕ) : Type 0 where
  pub request : SubtreeParts
  pub log : request.log ≡ v.log
  pub from : request.start ≡ start
  pub to : request.end ≡ end
  pub is : IfSome known (λ s. request ≡ subtree_by_mirror h s held start end)

pub some_subtree : (h : HashFunction) (known : Option MirrorState) (v : MirrorView)
    (held : Checkpoint) (start end : ℕ) → IfSome known (λ s. s.log ≡ v.log)
    → SomeSubtree h known v held start end
some_subtree h None v held start end named = record {
  request = record { log = v.log; start = start; end = end; hash = []; proof = [] };
  log = refl;
  from = refl;
  to = refl;
  is = tt;
}
some_subtree h (Some s) v held start end named = record {
  request = subtree_by_mirror h s held start end;
  log = named;
  from = refl;
  to = refl;
  is = refl;
}

-- ---- what the call does by some request

module _ {C : Type 0} (g : Ghosts C) (h : HashFunction) (known : Option MirrorState)
    (v : MirrorView) (start end : ℕ) (held : Checkpoint)
    (named : IfSome known (λ s. s.log ≡ v.log)) where
  -- the mirror refuses, or the tiles failed
  pub cosign_refused_by : {H : Type 0} {hashes : Hashes H} (it : KeylessCosigner H C hashes g)
      (out : Text) (why : MirrorStepError) (result : Result (Unit {0}) MirrorStepError)
      → held ≡ (keyless_owner it).state.held → MakesSubtree h known v held start end (Err why)
      → Err why ≡ result
      → ((c : Text) → g.left_since (disk_of it.journal) (g.clock_at (disk_of it.journal)) c
      → g.may_leave (disk_of it.journal) c)
      → CosignsBySome g h known v start end (keyless_owner it) (keyless_owner it) out result
  cosign_refused_by it out why result is made answers only_now =
      let own_held = (keyless_owner it).state.held in
      let here = subst (λ (x : Checkpoint). MakesSubtree h known v x start end (Err why)) is made
      in
      let some = some_subtree h known v own_held start end named in
      let tests : MirrorTestsSo {X = Signing}
      (signing_refusal v.size here.own own_held some.request.start some.request.end) (Err why) =
      subst (λ (n : ℕ). MirrorTestsSo {X = Signing}
      (signing_refusal v.size here.own own_held n some.request.end) (Err why)) (sym some.from)
      (subst (λ (n : ℕ). MirrorTestsSo {X = Signing}
      (signing_refusal v.size here.own own_held start n) (Err why)) (sym some.to) here.answer) in
      record {
        own = here.own;
        request = some.request;
        log = some.log;
        from = some.from;
        to = some.to;
        own_is = here.own_is;
        request_is = some.is;
        cosigns = subst (λ (r : Result (Unit {0}) MirrorStepError). MirrorCosigns g h v.size
            here.own some.request (keyless_owner it) (keyless_owner it) out r) answers
            (cosign_untried g h Signing it v.size here.own some.request out why tests only_now);
      }

  -- the cosigner answers
  pub cosign_asked : (old new : Owner C CosignerState) (signing : Signing) (log : Text)
      (shown : List Hash) (out : Text) (result : Result (Unit {0}) CosignError)
      → held ≡ old.state.held
      → MakesSubtree h known v held start end (Ok signing) → log ≡ v.log
      → shown ≡ signing.proof
      → OwnerAppends g of_cosigner_journal
      (sign_record old.state.key.next start end signing.hash shown) (having_signed old.state) old
      new result
      → CosignKeepsTo (cosign_refused h old.state old.broken old.end
      (record { log = log; start = start; end = end; hash = signing.hash; proof = shown })) result
      → (cosign_refused h old.state old.broken old.end
      (record { log = log; start = start; end = end; hash = signing.hash; proof = shown }) ≡ None
      → IfSome old.records (λ list. cosigner_of h
      (list ++ sign_record old.state.key.next start end signing.hash shown ∷ [])
      ≡ Ok (having_signed old.state)))
      → old.state.key.next < 2 ^ 32 → OnErr result (new.records ≡ old.records)
      → OnOk result (out ≡ signature_by old.state start end signing.hash)
      → OnOk result (Verifies (public_of old.state.key.key)
      (signed_text old.state.id old.state.log start end signing.hash) out)
      → CosignsBySome g h known v start end old new out (by_cosigner result)
  cosign_asked old new signing log shown out result is made same proof appends keeps valid number
      kept signed verified =
      let here = subst (λ (x : Checkpoint). MakesSubtree h known v x start end (Ok signing)) is made
      in
      let request : SubtreeParts = record {
        log = log;
        start = start;
        end = end;
        hash = signing.hash;
        proof = shown;
      } in
      record {
        own = here.own;
        request = request;
        log = same;
        from = refl;
        to = refl;
        own_is = here.own_is;
        request_is = subtree_request_is h known old.state.held log start end signing.hash
            signing.proof shown (IfSome_then known named (λ s its. same ∙ sym its)) proof here.made;
        cosigns = cosign_tried g h v.size here.own request old new out result here.answer appends
            keeps valid number kept signed verified;
      }

-- ---- the mirror that the model knows

module _ {C : Type 0} (g : Ghosts C) (h : HashFunction) (v : MirrorView) (start end : ℕ)
    (old new : Owner C CosignerState) (out : Text) (result : Result (Unit {0}) MirrorStepError)
  where
    -- What it has the cosigner do by some request it does by its own.
    pub cosigns_known : (known : Option MirrorState) → IfSome known (λ s. length s.items ≡ v.size)
        → CosignsBySome g h known v start end old new out result
        → IfSome known (λ s. mirror_cosigns g h s start end old new out result)
    cosigns_known None sized is = tt
    cosigns_known (Some s) sized is =
        subst (λ (n : ℕ). MirrorCosigns g h n (own_root h s old.state.held)
        (subtree_by_mirror h s old.state.held start end) old new out result) (sym sized)
        (subst (λ (own : Hash). MirrorCosigns g h v.size own
        (subtree_by_mirror h s old.state.held start end) old new out result) is.own_is
        (subst (λ (r : SubtreeParts). MirrorCosigns g h v.size is.own r old new out result)
        is.request_is is.cosigns))

never_at : {C : Type 0} (g : Ghosts C) (h : HashFunction) (s : MirrorState) (start end : ℕ)
    (old new : Owner C CosignerState) (out : Text) (result : Result (Unit {0}) MirrorStepError)
    → mirror_cosigns g h s start end old new out result
    → result ≢ Err (Cosign cosign_error.BadProof)
never_at g h s start end old new out result is wrong =
    never_bad_cosign h s old.state old.broken old.end start end
    (subst (λ (x : Result (Unit {0}) MirrorStepError). MirrorStepKeepsTo
    (cosign_refusal_at h (length s.items) (own_root h s old.state.held) old.state old.broken
    old.end (subtree_by_mirror h s old.state.held start end)) x) wrong is.answer)

pub cosign_never : {C : Type 0} (g : Ghosts C) (h : HashFunction) (start end : ℕ)
    (old new : Owner C CosignerState) (out : Text) (result : Result (Unit {0}) MirrorStepError)
    (known : Option MirrorState)
    → IfSome known (λ s. mirror_cosigns g h s start end old new out result)
    → IfSome known (λ s. result ≢ Err (Cosign cosign_error.BadProof))
cosign_never g h start end old new out result None is = tt
cosign_never g h start end old new out result (Some s) is =
    never_at g h s start end old new out result is
