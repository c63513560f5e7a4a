-- A record that a cosigner takes brings its progress on.
use Rattle.std.proofs.Common.{◌≡◌, Bool, Option, Some, None, option_and_then, sym, ap, ◌∙◌, subst}
use Rattle.std.proofs.lemmas.Option.{same_Some}
use Rattle.std.specs.Prelude.{if◌then◌else◌}
use Rattle.byte_formats.specs.Types.{HashFunction, Text}
use Rattle.byte_formats.proofs.Values.{when_some}
use Rattle.lms_core.specs.declared.heights.LmsType.{LmsType}
use Rattle.hss_keys.specs.Keys.{CountsKeys}
use Rattle.cosigner_core.specs.Folds.{CosignerState, after_step, next_state, progress_of, terms_by}
use Rattle.cosigner_core.specs.Folds.{with_progress}
use Rattle.cosigner_core.specs.Progress.{is_allowed, progress_after, shown_low, with_step}
use Rattle.cosigner_core.specs.Records.{step_in}
use Rattle.cosigner_core.specs.Sound.{IsKey}
use Rattle.cosigner_core.specs.declared.progress.Progress.{Progress}
use Rattle.cosigner_core.specs.declared.step.Step.{Step}
use Rattle.cosigner_core.specs.declared.terms.KeyTerms.{KeyTerms}
use Rattle.cosigner_core.proofs.Brought.{comes_to}
use Rattle.cosigner_core.proofs.KeySteps.{counts_after}

-- the progress that a cosigner shows is how far it has come
abbrev pub shown_as : CosignerState → Option LmsType → Progress
shown_as s low =
    record { held = s.held; next = s.key.next; children = s.key.children; low = low }

pub shows_progress : (s : CosignerState) (p : Progress) → p ≡ shown_as s p.low
    → p.low ≡ shown_low s.key.children s.key.key.low → p ≡ progress_of s
shows_progress s p is low = is ∙ ap (shown_as s) low

pub record Takes (h : HashFunction) (s : CosignerState) (body : Text) (q : Progress) : Type 0 where
  pub next : next_state h s body ≡ Some (with_progress s q)
  pub key : IsKey (with_progress s q).key q

pub takes_on : (h : HashFunction) (s : CosignerState) (terms : KeyTerms) (p q : Progress)
    (body : Text) (said : Step) → CountsKeys s.key → p ≡ progress_of s → terms ≡ terms_by s
    → step_in body ≡ Some said → progress_after h terms p said ≡ Some q → Takes h s body q
unfolding next_state
takes_on h s terms p q body said counts shown same read after =
    let now : Progress = progress_of s in
    let own : progress_after h (terms_by s) now said ≡ Some q =
    ap (λ (t : KeyTerms). progress_after h t now said) (sym same)
    ∙ ap (λ (r : Progress). progress_after h terms r said) (sym shown) ∙ after in
    let made = when_some (is_allowed h (terms_by s) now said) (Some (with_step now said)) q own in
    let is : with_step now said ≡ q = same_Some (with_step now said) q made.1 in
    let came = comes_to h s said made.0 in
    let sound = counts_after h s said counts made.0 in
    let P : Progress → Type 0 = λ r. IsKey (with_progress s r).key r in
    record {
      next = ap (option_and_then (after_step h s)) read
          ∙ ap (λ (b : Bool). if b then Some (with_progress s (with_step now said)) else None)
          made.0
          ∙ ap (λ (r : Progress). Some (with_progress s r)) is;
      key = subst P is (record {
        counts = sound;
        shown = ap (λ (r : Progress). r.low) (sym came);
      });
    }
