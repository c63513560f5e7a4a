-- How a step ends that a mirror has a cosigner take that was opened just now.
use Rattle.std.proofs.Common.{◌≡◌, ◌≢◌, inl, inr, ℕ, Bool, false, List, Option, None, Some, IfSome}
use Rattle.std.proofs.Common.{option_map, Result, Ok, Err, nat_lt, not, refl, sym, subst, ap}
use Rattle.std.proofs.Common.{if◌then◌else◌, true, ◌∙◌}
use Rattle.std.proofs.lemmas.Option.{IfSome_then}
use Rattle.byte_formats.specs.Types.{Hash, HashFunction, Text}
use Rattle.mtc_io.specs.Counts.{Rose}
use Rattle.disk_core.specs.declared.disk.Disk.{Ghosts}
use Rattle.journal_core.specs.Owners.{Owner, OwnerAppends}
use Rattle.journal_core.specs.declared.error.AppendError.TheVariants as append_error
use Rattle.tree_core.specs.Subtree.{is_subtree}
use Rattle.tree_core.specs.declared.hashing.TreeHash.{Ghosts as Hashes}
use Rattle.mtc_proof.specs.Proofs.{signature_text}
use Rattle.tree_proofs.specs.declared.checkpoint.Checkpoint.{Checkpoint}
use Rattle.cosigner_core.specs.Folds.{CosignerState, having_signed, holding}
use Rattle.cosigner_core.specs.Records.{advance_record, sign_record}
use Rattle.cosigner_core.specs.Refusals.{earlier}
use Rattle.cosigner_core.specs.Requests.{AdvanceParts, SubtreeParts}
use Rattle.cosigner_core.specs.declared.error.CosignError.{CosignError}
use Rattle.cosigner_core.specs.declared.error.CosignError.TheVariants.{Append}
use Rattle.mirror_core.specs.Folds.{MirrorState, mirror_with}
use Rattle.mirror_core.specs.Words.{MirrorAsksTiles, mirror_both_records, mirror_by_both}
use Rattle.mirror_core.specs.Words.{mirror_tiles_disk, mirror_view}
use Rattle.mirror_core.specs.declared.mirror.Mirror.{Mirror}
use Rattle.mirror_cosigner.specs.Refusals.{MirrorStepCounts, advance_refusal_at}
use Rattle.mirror_cosigner.specs.Refusals.{cosign_refusal_at, growth_refusal, is_mine}
use Rattle.mirror_cosigner.specs.Refusals.{mirror_advance_refusal, mirror_cosign_refusal}
use Rattle.mirror_cosigner.specs.Refusals.{of_mirror_step, signing_refusal}
use Rattle.mirror_cosigner.specs.Requests.{advance_by_mirror, subtree_by_mirror}
use Rattle.mirror_cosigner.specs.Works.{mirror_advances, mirror_cosigns}
use Rattle.mirror_cosigner.specs.declared.error.MirrorStepError.{MirrorStepError}
use Rattle.mirror_cosigner.specs.declared.error.MirrorStepError.TheVariants.{Beyond, Cosign, Failed}
use Rattle.mirror_cosigner.specs.declared.error.MirrorStepError.TheVariants.{BadSubtree, NotMine}
use Rattle.mtc_command.specs.Answers.{IfReply, replied, said, status_of, tiles_name}
use Rattle.mtc_command.specs.Endings.{FailsAt}
use Rattle.mtc_command.specs.Valid.{WorksValidly}
use Rattle.mtc_command.specs.declared.answer.Said.TheVariants.{Done}
use Rattle.mtc_cosigner.specs.CosignerOutcomes.{advanced_text, cosigned_text}
use Rattle.mtc_cosigner.specs.Works.{IsCosigner, IsReadyCosigner}
use Rattle.mtc_cosigner.proofs.Asked.{advance_sound, cosign_sound}
use Rattle.mtc_mirror.proofs.Opened.{made_some}
use Rattle.mtc_mirror_steps.specs.StepOutcomes.{mirror_advance_says, mirror_cosign_says}
use Rattle.mtc_mirror_steps.specs.StepOutcomes.{mirror_step_ending}
use Rattle.mtc_mirror_steps.specs.StepWorks.{GivesOnFirst, HasTakenStep, step_says}
use Rattle.mtc_mirror_steps.proofs.Stepping.{its, step_made, step_refused, step_valid}

-- ---- a cosigner that no append has broken doesn't refuse as a broken one

abbrev broken_step : MirrorStepError
broken_step = Cosign (Append append_error.Broken)

unbroken : (first : Option MirrorStepError) (second : Option CosignError)
    → (first ≡ Some broken_step → ⊥) → (second ≡ Some (Append append_error.Broken) → ⊥)
    → earlier first (option_map Cosign second) ≡ Some broken_step → ⊥
unbroken None None no_first no_second is = absurd cc
unbroken None (Some why) no_first no_second is =
    let same : Some why ≡ Some (Append append_error.Broken) = cc in no_second same
unbroken (Some why) second no_first no_second is = no_first is

held_unbroken : (mine : Bool) (held own : Hash)
    → (if not mine then Some (NotMine held own) else None) ≡ Some broken_step → ⊥
held_unbroken true held own is = absurd cc
held_unbroken false held own is = absurd cc

growth_unbroken : (size : ℕ) (own : Hash) (held : Checkpoint) (wanted : ℕ)
    → growth_refusal size own held wanted ≡ Some broken_step → ⊥
growth_unbroken size own held wanted is = go (nat_lt size wanted) is
  where
    go : (b : Bool) → (if b then Some (Beyond size)
        else (if not (is_mine size own held) then Some (NotMine held.root own) else None))
        ≡ Some broken_step → ⊥
    go true is = absurd cc
    go false is = held_unbroken (is_mine size own held) held.root own is

signing_unbroken : (size : ℕ) (own : Hash) (held : Checkpoint) (start end : ℕ)
    → signing_refusal size own held start end ≡ Some broken_step → ⊥
signing_unbroken size own held start end is =
    go (is_mine size own held) (is_subtree start end) (nat_lt held.size end) is
  where
    go : (mine subtree over : Bool)
        → earlier (if not mine then Some (NotMine held.root own) else None)
        (if not subtree then Some BadSubtree
        else (if over then Some (Beyond held.size) else None)) ≡ Some broken_step → ⊥
    go false subtree over is = absurd cc
    go true false over is = absurd cc
    go true true true is = absurd cc
    go true true false is = absurd cc

pub mirror_advance_sound : (h : HashFunction) (size : ℕ) (own : Hash) (s : CosignerState)
    (broken : Bool) (end : ℕ) (r : AdvanceParts) → broken ≡ false
    → advance_refusal_at h size own s broken end r ≡ Some broken_step → ⊥
unfolding advance_refusal_at
mirror_advance_sound h size own s broken end r sound is =
    unbroken _ _ (growth_unbroken size own s.held r.size)
    (advance_sound h s broken end r sound) is

pub mirror_cosign_sound : (h : HashFunction) (size : ℕ) (own : Hash) (s : CosignerState)
    (broken : Bool) (end : ℕ) (r : SubtreeParts) → broken ≡ false
    → cosign_refusal_at h size own s broken end r ≡ Some broken_step → ⊥
unfolding cosign_refusal_at
mirror_cosign_sound h size own s broken end r sound is =
    unbroken _ _ (signing_unbroken size own s.held r.start r.end)
    (cosign_sound h s broken end r sound) is

-- ---- over any files

pub step_plain : (name second : Text) (why : MirrorStepError)
    → IfReply (mirror_step_ending name second why) (λ reply. status_of reply ≢ 1)
step_plain name second Failed = tt
step_plain name second (Cosign (Append append_error.Failed)) = tt
step_plain name second (Cosign (Append other)) = λ e. absurd cc
step_plain name second (Cosign other) = λ e. absurd cc
step_plain name second other = λ e. absurd cc

module _ {D : Type 0} (g : Ghosts D) (name second : Text) (old new : Owner D CosignerState)
    (body : Text) (next : CosignerState) (before after : ℕ) where
  pub step_fault : (why : MirrorStepError)
      → OwnerAppends {X = Unit {0}} g of_mirror_step body next old new (Err why)
      → MirrorStepCounts {X = Unit {0}} before after (Err why)
      → FailsAt (Rose (g.faults old.disk) (g.faults new.disk)) name (Rose before after)
      (tiles_name second) (mirror_step_ending name second why)
  step_fault Failed made counts = inr (refl, counts)
  step_fault (Cosign (Append append_error.Failed)) made counts = inl (refl, made.leaves.cause)
  step_fault (Cosign (Append other)) made counts = tt
  step_fault (Cosign other) made counts = tt
  step_fault other made counts = tt

abbrev IsNotFailed : Result (Unit {0}) MirrorStepError → Type 0
IsNotFailed result = result ≢ Err Failed

-- where the tiles failed the device of the cosigner had no call
refused_valid : {D : Type 0} (g : Ghosts D) (name : Text) (old new : Owner D CosignerState)
    (ready : IsReadyCosigner old) (body text : Text) (next : CosignerState)
    (refusal : Bool → ℕ → Option MirrorStepError) (second : List Text) (h : HashFunction)
    (why : MirrorStepError)
    → OwnerAppends {X = Unit {0}} g of_mirror_step body next old new (Err why)
    → (IsNotFailed (Err why) → WorksValidly g (IsCosigner h) old.records
    (its g name old new ready body text next refusal second) old.disk new.disk)
    → WorksValidly g (IsCosigner h) old.records
    (its g name old new ready body text next refusal second) old.disk new.disk
refused_valid g name old new ready body text next refusal second h Failed made valid =
    inl (inl made.leaves.disk)
refused_valid g name old new ready body text next refusal second h other made valid =
    valid (λ e. absurd cc)

-- ---- a cosigner and a mirror

module _ {H D : Type 0} {hashes : Hashes H} {g : Ghosts D} (name second : Text)
    (old new : Owner D CosignerState) (ready : IsReadyCosigner old)
    (mirror later : Mirror H D D hashes g g) where
  abbrev h : HashFunction
  h = hashes.hash

  abbrev state : List Text → MirrorState
  state m = mirror_with (mirror_view mirror) m

  -- ---- advance

  module _ (size : ℕ) where
    abbrev growth : List Text → AdvanceParts
    growth m = advance_by_mirror h (state m) old.state.held size

    abbrev growth_text : List Text → Text
    growth_text m = advance_record (growth m).size (growth m).root (growth m).proof

    abbrev growth_next : List Text → CosignerState
    growth_next m = holding (growth m).size (growth m).root old.state

    abbrev growth_refused : List Text → Bool → ℕ → Option MirrorStepError
    growth_refused m broken end =
        mirror_advance_refusal h (state m) old.state broken end size

    abbrev Advances : Result (Unit {0}) MirrorStepError → Type 0
    Advances result =
        IfSome (mirror_by_both mirror) (λ s. mirror_advances g h s size old new result)

    advances_by : (result : Result (Unit {0}) MirrorStepError) → Advances result
        → IfSome (mirror_both_records mirror)
        (λ m. mirror_advances g h (state m) size old new result)
    advances_by result is = made_some (mirror_with (mirror_view mirror))
        (mirror_both_records mirror) (λ s. mirror_advances g h s size old new result) is

    pub advance_made : Advances (Ok tt) → MirrorAsksTiles mirror later
        → HasTakenStep name second (mirror_advance_says h size) old new.disk mirror later
        (replied (said Done (advanced_text size)))
    advance_made is asks = record {
      plain = λ e. absurd cc;
      fault = tt;
      asks = asks;
      gives = IfSome_then (mirror_both_records mirror) (advances_by (Ok tt) is)
          (λ m adv. step_made g name old new ready (growth_text m) (advanced_text size)
          (growth_next m) (growth_refused m) m adv.answer adv.appends);
      valid = IfSome_then (mirror_both_records mirror) (advances_by (Ok tt) is)
          (λ m adv. step_valid g name old new ready (growth_text m) (advanced_text size)
          (growth_next m) (growth_refused m) m h (adv.valid (λ e. absurd cc)));
    }

    pub advance_not_made : (why : MirrorStepError) (body : Text) (next : CosignerState)
        → Advances (Err why)
        → OwnerAppends {X = Unit {0}} g of_mirror_step body next old new (Err why)
        → MirrorAsksTiles mirror later
        → MirrorStepCounts {X = Unit {0}} (g.faults (mirror_tiles_disk mirror))
        (g.faults (mirror_tiles_disk later)) (Err why)
        → HasTakenStep name second (mirror_advance_says h size) old new.disk mirror later
        (mirror_step_ending name second why)
    advance_not_made why body next is made asks counts = record {
      plain = step_plain name second why;
      fault = step_fault g name second old new body next _ _ why made counts;
      asks = asks;
      gives = IfSome_then (mirror_both_records mirror) (advances_by (Err why) is)
          (λ m adv. step_refused g name old new ready (growth_text m) (advanced_text size)
          (growth_next m) (growth_refused m) m second why adv.appends adv.answer);
      valid = IfSome_then (mirror_both_records mirror) (advances_by (Err why) is)
          (λ m adv. refused_valid g name old new ready (growth_text m) (advanced_text size)
          (growth_next m) (growth_refused m) m h why adv.appends
          (λ other. step_valid g name old new ready (growth_text m) (advanced_text size)
          (growth_next m) (growth_refused m) m h (adv.valid other)));
    }

  -- ---- cosign

  module _ (start end : ℕ) (out : Text) where
    abbrev subtree : List Text → SubtreeParts
    subtree m = subtree_by_mirror h (state m) old.state.held start end

    abbrev sign_text : List Text → Text
    sign_text m = sign_record old.state.key.next (subtree m).start (subtree m).end
        (subtree m).hash (subtree m).proof

    abbrev sign_refused : List Text → Bool → ℕ → Option MirrorStepError
    sign_refused m broken last =
        mirror_cosign_refusal h (state m) old.state broken last start end

    abbrev Cosigns : Result (Unit {0}) MirrorStepError → Type 0
    Cosigns result =
        IfSome (mirror_by_both mirror) (λ s. mirror_cosigns g h s start end old new out result)

    cosigns_by : (result : Result (Unit {0}) MirrorStepError) → Cosigns result
        → IfSome (mirror_both_records mirror)
        (λ m. mirror_cosigns g h (state m) start end old new out result)
    cosigns_by result is = made_some (mirror_with (mirror_view mirror))
        (mirror_both_records mirror) (λ s. mirror_cosigns g h s start end old new out result) is

    pub cosign_made : (text : Text)
        → (text ≡ signature_text (record { cosigner = new.state.id; signature = out }))
        → Cosigns (Ok tt) → MirrorAsksTiles mirror later
        → HasTakenStep name second (mirror_cosign_says h start end) old new.disk mirror later
        (replied (said Done text))
    cosign_made text printed is asks = record {
      plain = λ e. absurd cc;
      fault = tt;
      asks = asks;
      gives = IfSome_then (mirror_both_records mirror) (cosigns_by (Ok tt) is)
          (λ m sign. subst (λ (t : Text). GivesOnFirst g old.records
          (step_says (mirror_cosign_says h start end) old mirror m) old.disk new.disk
          (replied (said Done t)))
          (sym (printed
          ∙ ap (λ (s : CosignerState). signature_text (record {
            cosigner = s.id;
            signature = out;
          })) sign.appends.leaves.state
          ∙ ap (λ (t : Text). signature_text (record {
            cosigner = old.state.id;
            signature = t;
          })) sign.signature))
          (step_made g name old new ready (sign_text m) (cosigned_text old.state (subtree m))
          (having_signed old.state) (sign_refused m) m sign.answer sign.appends));
      valid = IfSome_then (mirror_both_records mirror) (cosigns_by (Ok tt) is)
          (λ m sign. step_valid g name old new ready (sign_text m)
          (cosigned_text old.state (subtree m)) (having_signed old.state) (sign_refused m) m h
          (sign.valid (λ e. absurd cc)));
    }

    pub cosign_not_made : (why : MirrorStepError) (body : Text) → Cosigns (Err why)
        → OwnerAppends {X = Unit {0}} g of_mirror_step body (having_signed old.state) old new
        (Err why) → MirrorAsksTiles mirror later
        → MirrorStepCounts {X = Unit {0}} (g.faults (mirror_tiles_disk mirror))
        (g.faults (mirror_tiles_disk later)) (Err why)
        → HasTakenStep name second (mirror_cosign_says h start end) old new.disk mirror later
        (mirror_step_ending name second why)
    cosign_not_made why body is made asks counts = record {
      plain = step_plain name second why;
      fault = step_fault g name second old new body (having_signed old.state) _ _ why made counts;
      asks = asks;
      gives = IfSome_then (mirror_both_records mirror) (cosigns_by (Err why) is)
          (λ m sign. step_refused g name old new ready (sign_text m)
          (cosigned_text old.state (subtree m)) (having_signed old.state) (sign_refused m) m second
          why sign.appends sign.answer);
      valid = IfSome_then (mirror_both_records mirror) (cosigns_by (Err why) is)
          (λ m sign. refused_valid g name old new ready (sign_text m)
          (cosigned_text old.state (subtree m)) (having_signed old.state) (sign_refused m) m h why
          sign.appends
          (λ other. step_valid g name old new ready (sign_text m)
          (cosigned_text old.state (subtree m)) (having_signed old.state) (sign_refused m) m h
          (sign.valid other)));
    }
