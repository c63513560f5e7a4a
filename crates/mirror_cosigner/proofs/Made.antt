-- What is made of a mirror's first items before a cosigner is asked to hold their root.
use Rattle.std.proofs.Common.{◌≡◌, ◌↔◌, ℕ, ◌<◌, ◌≤◌, ◌∙◌, Option, Some, IfSome, Result, Ok, Err}
use Rattle.std.proofs.Common.{sym, ap, arith, IsErrOf}
use Rattle.byte_formats.specs.Types.{Hash, HashFunction}
use Rattle.tree_proofs.specs.declared.checkpoint.Checkpoint.{Checkpoint}
use Rattle.mirror_core.specs.Folds.{MirrorState, MirrorView}
use Rattle.mirror_cosigner.specs.Refusals.{MirrorTestsSo, held_refusal}
use Rattle.mirror_cosigner.specs.Requests.{own_root}
use Rattle.mirror_cosigner.specs.Works.{ComparesHeld, MakesAdvance}
use Rattle.mirror_cosigner.specs.declared.advancing.Growth.{Growth}
use Rattle.mirror_cosigner.specs.declared.error.MirrorStepError.{MirrorStepError}
use Rattle.mirror_cosigner.specs.declared.error.MirrorStepError.TheVariants.{BadSubtree, Beyond}
use Rattle.mirror_cosigner.specs.declared.error.MirrorStepError.TheVariants.{Cosign, Failed}
use Rattle.mirror_cosigner.specs.declared.error.MirrorStepError.TheVariants.{NotMine}
use Rattle.mirror_cosigner.proofs.Tested.{growth_beyond, growth_within, held_not_beyond}
use Rattle.mirror_cosigner.proofs.Tested.{tests_moved}

-- an answer of this call
abbrev no_growth : MirrorStepError → Result Growth MirrorStepError
no_growth why = Err why

abbrev with_growth : Growth → Result Growth MirrorStepError
with_growth growth = Ok growth

-- the mirror has fewer items
pub growth_refused : (h : HashFunction) (known : Option MirrorState) (v : MirrorView)
    (held : Checkpoint) (size have : ℕ) → have ≡ v.size → v.size < size → (own : Hash)
    → IfSome known (λ s. own ≡ own_root h s held)
    → MakesAdvance h known v held size (Err (Beyond have))
growth_refused h known v held size have same more own is = record {
  own = own;
  own_is = is;
  answer = growth_beyond v.size own held size more ∙ ap (λ (n : ℕ). Some (Beyond n)) (sym same);
  beyond = (λ e. more, λ l. ap (λ (n : ℕ). no_growth (Beyond n)) same);
  made = tt;
}

pub growth_not_beyond : (have size : ℕ) → size ≤ have → (growth : Growth)
    → IsErrOf (with_growth growth) (Beyond have) ↔ (have < size)
growth_not_beyond have size few growth =
    (λ e. let no : ⊥ = cc in absurd no, λ more. absurd (omega (arith, few, more)))

-- what is held is not of the items, or the tiles failed
pub growth_compared : (h : HashFunction) (known : Option MirrorState) (v : MirrorView)
    (held : Checkpoint) (size : ℕ) (why : MirrorStepError) → size ≤ v.size
    → ComparesHeld h known v held (Err why) → MakesAdvance h known v held size (Err why)
growth_compared h known v held size why few is = record {
  own = is.own;
  own_is = is.own_is;
  answer = tests_moved (Unit {0}) Growth (held_refusal v.size is.own held) _ why
      (growth_within v.size is.own held size few) is.answer;
  beyond = (
    λ e. absurd (never why e is.answer),
    λ more. absurd (omega (arith, few, more)),
  );
  made = tt;
}
  where
    never : (w : MirrorStepError) → no_growth w ≡ no_growth (Beyond v.size)
        → MirrorTestsSo {X = Unit {0}} (held_refusal v.size is.own held) (Err w) → ⊥
    never (Beyond n) e tests = held_not_beyond v.size is.own held n tests
    never (NotMine x y) e tests = cc
    never BadSubtree e tests = cc
    never Failed e tests = cc
    never (Cosign c) e tests = cc
