-- What comes of a call that has a cosigner hold the first items of a mirror.
use Rattle.std.proofs.Common.{◌≡◌, ◌≢◌, ℕ, ◌∙◌, List, [], length, Option, Some, None, IfSome}
use Rattle.std.proofs.Common.{Result}
use Rattle.std.proofs.Common.{Ok, Err, option_map, refl, sym, ap, subst, ◌∷◌, ◌++◌}
use Rattle.std.specs.Prelude.{OnErr}
use Rattle.std.proofs.lemmas.Option.{IfSome_then}
use Rattle.byte_formats.specs.Types.{Hash, HashFunction, Text}
use Rattle.disk_core.specs.declared.disk.Disk.{Ghosts}
use Rattle.journal_core.specs.Owners.{Owner, OwnerAppends}
use Rattle.journal_core.specs.Words.{disk_of}
use Rattle.journal_core.specs.declared.error.AppendError.TheVariants as append_error
use Rattle.tree_core.specs.declared.hashing.TreeHash.{Ghosts as Hashes}
use Rattle.tree_proofs.specs.declared.checkpoint.Checkpoint.{Checkpoint}
use Rattle.cosigner_core.specs.Folds.{CosignerState, cosigner_of, holding}
use Rattle.cosigner_core.specs.Keyless.{keyless_owner, of_cosigner_journal}
use Rattle.cosigner_core.specs.Records.{advance_record}
use Rattle.cosigner_core.specs.Refusals.{CosignKeepsTo, advance_refused, earlier}
use Rattle.cosigner_core.specs.Requests.{AdvanceParts}
use Rattle.cosigner_core.specs.declared.error.CosignError.{CosignError}
use Rattle.cosigner_core.specs.declared.error.CosignError.TheVariants as cosign_error
use Rattle.cosigner_core.specs.declared.keyless.KeylessCosigner.{KeylessCosigner}
use Rattle.state_journal.proofs.Owners.{owner_stays}
use Rattle.mirror_core.specs.Folds.{MirrorState, MirrorView}
use Rattle.mirror_cosigner.specs.Refusals.{MirrorStepKeepsTo, MirrorTestsSo, advance_refusal_at}
use Rattle.mirror_cosigner.specs.Refusals.{growth_refusal, of_mirror_step}
use Rattle.mirror_cosigner.specs.Requests.{advance_by_mirror, own_root}
use Rattle.mirror_cosigner.specs.Works.{AdvancesBySome, MakesAdvance, MirrorAdvances}
use Rattle.mirror_cosigner.specs.Works.{mirror_advances}
use Rattle.mirror_cosigner.specs.declared.advancing.Growth.{Growth}
use Rattle.mirror_cosigner.specs.declared.error.MirrorStepError.{MirrorStepError}
use Rattle.mirror_cosigner.specs.declared.error.MirrorStepError.TheVariants.{Cosign}
use Rattle.mirror_cosigner.proofs.Proved.{never_bad_advance}
use Rattle.mirror_cosigner.proofs.Tested.{growth_before, tests_keep, tests_none, tests_refuse}

-- ---- what the cosigner answers

-- an answer of the cosigner, as one of the mirror
abbrev pub by_cosigner : Result (Unit {0}) CosignError → Result (Unit {0}) MirrorStepError
by_cosigner (Ok done) = Ok done
by_cosigner (Err why) = Err (Cosign why)

step_keeps : (second : Option CosignError) (result : Result (Unit {0}) CosignError)
    → CosignKeepsTo second result
    → MirrorStepKeepsTo (option_map Cosign second) (by_cosigner result)
step_keeps second (Ok done) is = rw is refl
step_keeps second (Err cosign_error.WrongLog) is = rw is refl
step_keeps second (Err (cosign_error.NotNewer held)) is = rw is refl
step_keeps second (Err cosign_error.BadSubtree) is = rw is refl
step_keeps second (Err (cosign_error.Beyond held)) is = rw is refl
step_keeps second (Err cosign_error.BadProof) is = rw is refl
step_keeps second (Err cosign_error.NeedsChild) is = rw is refl
step_keeps second (Err cosign_error.Exhausted) is = rw is refl
step_keeps second (Err (cosign_error.Append append_error.Broken)) is = rw is refl
step_keeps second (Err (cosign_error.Append append_error.Full)) is = rw is refl
step_keeps second (Err (cosign_error.Append append_error.Failed)) is = rw is refl

pub cosigner_keeps : (first : Option MirrorStepError) (second : Option CosignError)
    (result : Result (Unit {0}) CosignError) → first ≡ None → CosignKeepsTo second result
    → MirrorStepKeepsTo (earlier first (option_map Cosign second)) (by_cosigner result)
cosigner_keeps first second result none is =
    subst (λ (o : Option MirrorStepError). MirrorStepKeepsTo
    (earlier o (option_map Cosign second)) (by_cosigner result)) (sym none)
    (step_keeps second result is)

unmapped : (second : Option CosignError) → option_map Cosign second ≡ None → second ≡ None
unmapped None is = refl
unmapped (Some why) is = cc

pub none_second : (first : Option MirrorStepError) (second : Option CosignError) → first ≡ None
    → earlier first (option_map Cosign second) ≡ None → second ≡ None
none_second None second none is = unmapped second is
none_second (Some why) second none is = cc

-- a call that appends does so in the mirror's answer too
pub step_appends : {C S : Type 0} (g : Ghosts C) (body : Text) (next : S) (old new : Owner C S)
    (result : Result (Unit {0}) CosignError)
    → OwnerAppends g of_cosigner_journal body next old new result
    → OwnerAppends g of_mirror_step body next old new (by_cosigner result)
step_appends g body next old new (Ok done) did = record {
  leaves = did.leaves;
  kept = did.kept;
  count = did.count;
  any_time = did.any_time;
  afterwards = did.afterwards;
}
step_appends g body next old new (Err why) did = record {
  leaves = did.leaves;
  kept = did.kept;
  count = did.count;
  any_time = did.any_time;
  afterwards = did.afterwards;
}

-- ---- advance

module _ {C : Type 0} (g : Ghosts C) (h : HashFunction) where
  -- the mirror refuses, or the tiles failed
  pub advance_untried : (X : Type 0) {H : Type 0} {hashes : Hashes H}
      (it : KeylessCosigner H C hashes g)
      (size : ℕ) (own : Hash) (r : AdvanceParts) (why : MirrorStepError)
      → MirrorTestsSo {X = X} (growth_refusal size own (keyless_owner it).state.held r.size)
      (Err why)
      → ((c : Text) → g.left_since (disk_of it.journal) (g.clock_at (disk_of it.journal)) c
      → g.may_leave (disk_of it.journal) c)
      → MirrorAdvances g h size own r (keyless_owner it) (keyless_owner it) (Err why)
  unfolding advance_refusal_at
  advance_untried X it size own r why is only_now =
      let held = (keyless_owner it).state.held in
      let before = growth_before size own held r.size in
      record {
        appends = owner_stays g of_mirror_step (advance_record r.size r.root r.proof)
            (holding r.size r.root (keyless_owner it).state) it.journal it.machine.contents why
            (tests_none X (growth_refusal size own held r.size) why before is) only_now;
        answer = tests_keep X (Unit {0}) (growth_refusal size own held r.size) _ why before is;
        valid = λ plain none. absurd (tests_refuse X (growth_refusal size own held r.size) _ why is
            plain none);
        records = refl;
      }

  -- the cosigner answers
  pub advance_tried : (size : ℕ) (own : Hash) (r : AdvanceParts) (old new : Owner C CosignerState)
      (result : Result (Unit {0}) CosignError)
      → growth_refusal size own old.state.held r.size ≡ None
      → OwnerAppends g of_cosigner_journal (advance_record r.size r.root r.proof)
      (holding r.size r.root old.state) old new result
      → CosignKeepsTo (advance_refused h old.state old.broken old.end r) result
      → (advance_refused h old.state old.broken old.end r ≡ None → IfSome old.records (λ list.
      cosigner_of h (list ++ advance_record r.size r.root r.proof ∷ [])
      ≡ Ok (holding r.size r.root old.state)))
      → OnErr result (new.records ≡ old.records)
      → MirrorAdvances g h size own r old new (by_cosigner result)
  unfolding advance_refusal_at
  advance_tried size own r old new result none appends keeps valid kept = record {
    appends = step_appends g _ _ old new result appends;
    answer = cosigner_keeps (growth_refusal size own old.state.held r.size) _ result none keeps;
    valid = λ plain no. valid (none_second (growth_refusal size own old.state.held r.size) _ none
        no);
    records = kept_by result kept;
  }
    where
      kept_by : (x : Result (Unit {0}) CosignError) → OnErr x (new.records ≡ old.records)
          → OnErr (by_cosigner x) (new.records ≡ old.records)
      kept_by (Ok done) is = tt
      kept_by (Err why) is = is

-- ---- the request

-- a request with the parts of the mirror's own is that one
pub advance_request_is : (h : HashFunction) (known : Option MirrorState) (held : Checkpoint)
    (log : Text) (size : ℕ) (root : Hash) (proof shown : List Hash)
    → IfSome known (λ s. log ≡ s.log) → shown ≡ proof
    → IfSome known (λ s. (root ≡ (advance_by_mirror h s held size).root)
    × (proof ≡ (advance_by_mirror h s held size).proof))
    → IfSome known (λ s. record { log = log; size = size; root = root; proof = shown }
    ≡ advance_by_mirror h s held size)
advance_request_is h None held log size root proof shown named same is = tt
advance_request_is h (Some s) held log size root proof shown named same is =
    ap (λ (l : Text). record { log = l; size = size; root = root; proof = shown }) named
    ∙ ap (λ (r : Hash). record { log = s.log; size = size; root = r; proof = shown }) is.0
    ∙ ap (λ (p : List Hash). record {
      log = s.log;
      size = size;
      root = (advance_by_mirror h s held size).root;
      proof = p;
    }) (same ∙ is.1)

-- some request, which is the mirror's own if the model knows it
pub record SomeAdvance (h : HashFunction) (known : Option MirrorState) (v : MirrorView)
    (held : Checkpoint) (size : ℕ) : Type 0 where
  pub request : AdvanceParts
  pub log : request.log ≡ v.log
  pub wanted : request.size ≡ size
  pub is : IfSome known (λ s. request ≡ advance_by_mirror h s held size)

pub some_advance : (h : HashFunction) (known : Option MirrorState) (v : MirrorView)
    (held : Checkpoint) (size : ℕ) → IfSome known (λ s. s.log ≡ v.log)
    → SomeAdvance h known v held size
some_advance h None v held size named = record {
  request = record { log = v.log; size = size; root = []; proof = [] };
  log = refl;
  wanted = refl;
  is = tt;
}
some_advance h (Some s) v held size named = record {
  request = advance_by_mirror h s held size;
  log = named;
  wanted = refl;
  is = refl;
}

-- what is held, as it is answered
pub held_is : (answer : ℕ × Hash) (held : Checkpoint) → answer ≡ (held.size, held.root)
    → record { size = answer.0; root = answer.1 } ≡ held
held_is answer held is =
    let checkpoint : ℕ × Hash → Checkpoint = λ x. record { size = x.0; root = x.1 } in
    ap checkpoint is

-- ---- what the call does by some request

module _ {C : Type 0} (g : Ghosts C) (h : HashFunction) (known : Option MirrorState)
    (v : MirrorView) (size : ℕ) (held : Checkpoint)
    (named : IfSome known (λ s. s.log ≡ v.log)) where
  -- the mirror refuses, or the tiles failed
  pub advance_refused_by : {H : Type 0} {hashes : Hashes H} (it : KeylessCosigner H C hashes g)
      (why : MirrorStepError) (result : Result (Unit {0}) MirrorStepError)
      → held ≡ (keyless_owner it).state.held → MakesAdvance h known v held size (Err why)
      → Err why ≡ result
      → ((c : Text) → g.left_since (disk_of it.journal) (g.clock_at (disk_of it.journal)) c
      → g.may_leave (disk_of it.journal) c)
      → AdvancesBySome g h known v size (keyless_owner it) (keyless_owner it) result
  advance_refused_by it why result is made answers only_now =
      let own_held = (keyless_owner it).state.held in
      let here = subst (λ (x : Checkpoint). MakesAdvance h known v x size (Err why)) is made in
      let some = some_advance h known v own_held size named in
      let tests : MirrorTestsSo {X = Growth}
      (growth_refusal v.size here.own own_held some.request.size) (Err why) =
      subst (λ (n : ℕ). MirrorTestsSo {X = Growth} (growth_refusal v.size here.own own_held n)
      (Err why)) (sym some.wanted) here.answer in
      record {
        own = here.own;
        request = some.request;
        log = some.log;
        wanted = some.wanted;
        own_is = here.own_is;
        request_is = some.is;
        advances = subst (λ (r : Result (Unit {0}) MirrorStepError). MirrorAdvances g h v.size
            here.own some.request (keyless_owner it) (keyless_owner it) r) answers
            (advance_untried g h Growth it v.size here.own some.request why tests only_now);
      }

  -- the cosigner answers
  pub advance_asked : (old new : Owner C CosignerState) (growth : Growth) (log : Text)
      (shown : List Hash) (result : Result (Unit {0}) CosignError) → held ≡ old.state.held
      → MakesAdvance h known v held size (Ok growth) → log ≡ v.log → shown ≡ growth.proof
      → OwnerAppends g of_cosigner_journal (advance_record size growth.root shown)
      (holding size growth.root old.state) old new result
      → CosignKeepsTo (advance_refused h old.state old.broken old.end
      (record { log = log; size = size; root = growth.root; proof = shown })) result
      → (advance_refused h old.state old.broken old.end
      (record { log = log; size = size; root = growth.root; proof = shown }) ≡ None
      → IfSome old.records (λ list.
      cosigner_of h (list ++ advance_record size growth.root shown ∷ [])
      ≡ Ok (holding size growth.root old.state)))
      → OnErr result (new.records ≡ old.records)
      → AdvancesBySome g h known v size old new (by_cosigner result)
  advance_asked old new growth log shown result is made same proof appends keeps valid kept =
      let here = subst (λ (x : Checkpoint). MakesAdvance h known v x size (Ok growth)) is made in
      let request : AdvanceParts = record {
        log = log;
        size = size;
        root = growth.root;
        proof = shown;
      } in
      record {
        own = here.own;
        request = request;
        log = same;
        wanted = refl;
        own_is = here.own_is;
        request_is = advance_request_is h known old.state.held log size growth.root growth.proof
            shown (IfSome_then known named (λ s its. same ∙ sym its)) proof here.made;
        advances = advance_tried g h v.size here.own request old new result here.answer appends
            keeps valid kept;
      }

-- ---- the mirror that the model knows

module _ {C : Type 0} (g : Ghosts C) (h : HashFunction) (v : MirrorView) (size : ℕ)
    (old new : Owner C CosignerState) (result : Result (Unit {0}) MirrorStepError) where
  -- What it has the cosigner do by some request it does by its own.
  pub advances_known : (known : Option MirrorState) → IfSome known (λ s. length s.items ≡ v.size)
      → AdvancesBySome g h known v size old new result
      → IfSome known (λ s. mirror_advances g h s size old new result)
  advances_known None sized is = tt
  advances_known (Some s) sized is =
      subst (λ (n : ℕ). MirrorAdvances g h n (own_root h s old.state.held)
      (advance_by_mirror h s old.state.held size) old new result) (sym sized)
      (subst (λ (own : Hash). MirrorAdvances g h v.size own
      (advance_by_mirror h s old.state.held size) old new result) is.own_is
      (subst (λ (r : AdvanceParts). MirrorAdvances g h v.size is.own r old new result)
      is.request_is is.advances))

never_at : {C : Type 0} (g : Ghosts C) (h : HashFunction) (s : MirrorState) (size : ℕ)
    (old new : Owner C CosignerState) (result : Result (Unit {0}) MirrorStepError)
    → mirror_advances g h s size old new result
    → result ≢ Err (Cosign cosign_error.BadProof)
never_at g h s size old new result is wrong =
    never_bad_advance h s old.state old.broken old.end size
    (subst (λ (x : Result (Unit {0}) MirrorStepError). MirrorStepKeepsTo
    (advance_refusal_at h (length s.items) (own_root h s old.state.held) old.state old.broken
    old.end (advance_by_mirror h s old.state.held size)) x) wrong is.answer)

pub advance_never : {C : Type 0} (g : Ghosts C) (h : HashFunction) (size : ℕ)
    (old new : Owner C CosignerState) (result : Result (Unit {0}) MirrorStepError)
    (known : Option MirrorState) → IfSome known (λ s. mirror_advances g h s size old new result)
    → IfSome known (λ s. result ≢ Err (Cosign cosign_error.BadProof))
advance_never g h size old new result None is = tt
advance_never g h size old new result (Some s) is = never_at g h s size old new result is
