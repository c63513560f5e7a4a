-- The tests of a mirror before it asks a cosigner.
use Rattle.std.proofs.Common.{◌≡◌, ◌≢◌, ℕ, ◌<◌, ◌≤◌, ◌∙◌, Bool, true, false, not, []}
use Rattle.std.proofs.Common.{Option, Some, None, IfSome, Result, Err, refl, sym, ap, subst}
use Rattle.std.proofs.Common.{nat_lt}
use Rattle.std.specs.Prelude.{if◌then◌else◌}
use Rattle.std.proofs.lemmas.Bool.{cond-false, cond-true, le-ltb, lt-ltb}
use Rattle.byte_formats.specs.Types.{Hash, HashFunction}
use Rattle.cosigner_core.specs.Refusals.{earlier}
use Rattle.cosigner_core.specs.declared.error.CosignError.{CosignError}
use Rattle.mirror_core.specs.Folds.{MirrorState}
use Rattle.tree_core.specs.Subtree.{is_subtree}
use Rattle.tree_proofs.specs.declared.checkpoint.Checkpoint.{Checkpoint}
use Rattle.mirror_cosigner.specs.Refusals.{MirrorStepKeepsTo, MirrorTestsSo, growth_refusal}
use Rattle.mirror_cosigner.specs.Refusals.{held_refusal, is_mine, of_mirror_step, signing_refusal}
use Rattle.mirror_cosigner.specs.Requests.{own_root}
use Rattle.mirror_cosigner.specs.declared.error.MirrorStepError.{MirrorStepError}
use Rattle.mirror_cosigner.specs.declared.error.MirrorStepError.TheVariants.{BadSubtree, Beyond}
use Rattle.mirror_cosigner.specs.declared.error.MirrorStepError.TheVariants.{Cosign, Failed}
use Rattle.mirror_cosigner.specs.declared.error.MirrorStepError.TheVariants.{NotMine}

-- some root, which is the mirror's own if the model knows it
pub some_own : (h : HashFunction) (known : Option MirrorState) (held : Checkpoint)
    → (own : Hash) × IfSome known (λ s. own ≡ own_root h s held)
some_own h None held = ([], tt)
some_own h (Some s) held = (own_root h s held, refl)

not_when : {X : Type 0} (b : Bool) (x y : X) → b ≡ true → (if not b then x else y) ≡ y
not_when true x y is = refl
not_when false x y is = let no : ⊥ = cc in absurd no

not_unless : {X : Type 0} (b : Bool) (x y : X) → b ≡ false → (if not b then x else y) ≡ x
not_unless true x y is = let no : ⊥ = cc in absurd no
not_unless false x y is = refl

-- ---- the answers

-- an answer that a failure isn't is the refusal, whatever else would be answered
tests_as : (X Y : Type 0) (wanted : Option MirrorStepError) (why : MirrorStepError)
    → MirrorTestsSo {X = X} wanted (Err why) → MirrorTestsSo {X = Y} wanted (Err why)
tests_as X Y wanted (Beyond size) is = is
tests_as X Y wanted (NotMine held own) is = is
tests_as X Y wanted BadSubtree is = is
tests_as X Y wanted Failed is = tt
tests_as X Y wanted (Cosign why) is = is

pub tests_moved : (X Y : Type 0) (one two : Option MirrorStepError) (why : MirrorStepError)
    → one ≡ two → MirrorTestsSo {X = X} one (Err why) → MirrorTestsSo {X = Y} two (Err why)
tests_moved X Y one two why same is =
    subst (λ (o : Option MirrorStepError). MirrorTestsSo {X = Y} o (Err why)) same
    (tests_as X Y one why is)

-- no test before a request is the cosigner's
abbrev pub IsBefore : Option MirrorStepError → Type 0
IsBefore wanted = (e : CosignError) → wanted ≡ Some (Cosign e) → ⊥

pub tests_keep : (X Y : Type 0) (first second : Option MirrorStepError) (why : MirrorStepError)
    → IsBefore first → MirrorTestsSo {X = X} first (Err why)
    → MirrorStepKeepsTo {X = Y} (earlier first second) (Err why)
tests_keep X Y first second (Beyond size) before is = ap (λ o. earlier o second) is
tests_keep X Y first second (NotMine held own) before is = ap (λ o. earlier o second) is
tests_keep X Y first second BadSubtree before is = ap (λ o. earlier o second) is
tests_keep X Y first second Failed before is = tt
tests_keep X Y first second (Cosign why) before is = absurd (before why is)

pub tests_none : (X : Type 0) (first : Option MirrorStepError) (why : MirrorStepError)
    → IsBefore first → MirrorTestsSo {X = X} first (Err why) → of_mirror_step why ≡ None
tests_none X first (Beyond size) before is = refl
tests_none X first (NotMine held own) before is = refl
tests_none X first BadSubtree before is = refl
tests_none X first Failed before is = refl
tests_none X first (Cosign why) before is = absurd (before why is)

earlier_some : {E : Type 0} (first second : Option E) (why : E) → first ≡ Some why
    → earlier first second ≡ None → ⊥
earlier_some None second why is none = cc
earlier_some (Some other) second why is none = cc

-- the refusal of a step
abbrev no_step : MirrorStepError → Result (Unit {0}) MirrorStepError
no_step why = Err why

-- where a test refuses, and nothing failed, there is a refusal
pub tests_refuse : (X : Type 0) (first second : Option MirrorStepError) (why : MirrorStepError)
    → MirrorTestsSo {X = X} first (Err why) → no_step why ≢ no_step Failed
    → earlier first second ≡ None → ⊥
tests_refuse X first second (Beyond size) is plain none = earlier_some first second _ is none
tests_refuse X first second (NotMine held own) is plain none = earlier_some first second _ is none
tests_refuse X first second BadSubtree is plain none = earlier_some first second _ is none
tests_refuse X first second Failed is plain none = plain refl
tests_refuse X first second (Cosign why) is plain none = earlier_some first second _ is none

-- ---- what is held

pub held_passes : (size : ℕ) (own : Hash) (held : Checkpoint) → is_mine size own held ≡ true
    → held_refusal size own held ≡ None
held_passes size own held is = not_when (is_mine size own held) _ _ is

pub held_refused : (size : ℕ) (own : Hash) (held : Checkpoint) → is_mine size own held ≡ false
    → held_refusal size own held ≡ Some (NotMine held.root own)
held_refused size own held is = not_unless (is_mine size own held) _ _ is

-- ---- advance

pub growth_beyond : (size : ℕ) (own : Hash) (held : Checkpoint) (wanted : ℕ) → size < wanted
    → growth_refusal size own held wanted ≡ Some (Beyond size)
growth_beyond size own held wanted less = cond-true _ _ _ (lt-ltb size wanted less)

pub growth_within : (size : ℕ) (own : Hash) (held : Checkpoint) (wanted : ℕ) → wanted ≤ size
    → held_refusal size own held ≡ growth_refusal size own held wanted
growth_within size own held wanted few = sym (cond-false _ _ _ (le-ltb size wanted few))

growth_cases : (a b : Bool) (n : ℕ) (x y : Hash) (e : CosignError)
    → (if a then Some (Beyond n) else (if not b then Some (NotMine x y) else None))
    ≡ Some (Cosign e) → ⊥
growth_cases true b n x y e is = cc
growth_cases false true n x y e is = cc
growth_cases false false n x y e is = cc

pub growth_before : (size : ℕ) (own : Hash) (held : Checkpoint) (wanted : ℕ)
    → IsBefore (growth_refusal size own held wanted)
growth_before size own held wanted e is =
    growth_cases (nat_lt size wanted) (is_mine size own held) size held.root own e is

beyond_cases : (b : Bool) (x y : Hash) (n : ℕ)
    → (if not b then Some (NotMine x y) else None) ≡ Some (Beyond n) → ⊥
beyond_cases true x y n is = cc
beyond_cases false x y n is = cc

pub held_not_beyond : (size : ℕ) (own : Hash) (held : Checkpoint) (n : ℕ)
    → held_refusal size own held ≡ Some (Beyond n) → ⊥
held_not_beyond size own held n is = beyond_cases (is_mine size own held) held.root own n is

-- ---- cosign

signing_cases : (a b c : Bool) (n : ℕ) (x y : Hash) (e : CosignError)
    → earlier (if not a then Some (NotMine x y) else None)
    (if not b then Some BadSubtree else (if c then Some (Beyond n) else None))
    ≡ Some (Cosign e) → ⊥
signing_cases false b c n x y e is = cc
signing_cases true false c n x y e is = cc
signing_cases true true true n x y e is = cc
signing_cases true true false n x y e is = cc

pub signing_before : (size : ℕ) (own : Hash) (held : Checkpoint) (start end : ℕ)
    → IsBefore (signing_refusal size own held start end)
signing_before size own held start end e is =
    signing_cases (is_mine size own held) (is_subtree start end) (nat_lt held.size end) held.size
    held.root own e is

earlier_none : {E : Type 0} (first second : Option E) → first ≡ None
    → earlier first second ≡ second
earlier_none None second is = refl
earlier_none (Some why) second is = cc

earlier_is : {E : Type 0} (first second : Option E) (why : E) → first ≡ Some why
    → earlier first second ≡ Some why
earlier_is None second why is = cc
earlier_is (Some other) second why is = is

-- the refusal of what is held comes first
pub signing_held : (X Y : Type 0) (size : ℕ) (own : Hash) (held : Checkpoint) (start end : ℕ)
    (why : MirrorStepError) → MirrorTestsSo {X = X} (held_refusal size own held) (Err why)
    → MirrorTestsSo {X = Y} (signing_refusal size own held start end) (Err why)
signing_held X Y size own held start end (Beyond n) is = earlier_is _ _ _ is
signing_held X Y size own held start end (NotMine x y) is = earlier_is _ _ _ is
signing_held X Y size own held start end BadSubtree is = earlier_is _ _ _ is
signing_held X Y size own held start end Failed is = tt
signing_held X Y size own held start end (Cosign why) is = earlier_is _ _ _ is

pub signing_none : (size : ℕ) (own : Hash) (held : Checkpoint) (start end : ℕ)
    → held_refusal size own held ≡ None → is_subtree start end ≡ false
    → signing_refusal size own held start end ≡ Some BadSubtree
signing_none size own held start end mine bad =
    earlier_none _ _ mine ∙ not_unless (is_subtree start end) _ _ bad

pub signing_beyond : (size : ℕ) (own : Hash) (held : Checkpoint) (start end : ℕ)
    → held_refusal size own held ≡ None → is_subtree start end ≡ true → held.size < end
    → signing_refusal size own held start end ≡ Some (Beyond held.size)
signing_beyond size own held start end mine valid more =
    earlier_none _ _ mine ∙ not_when (is_subtree start end) _ _ valid
    ∙ cond-true _ _ _ (lt-ltb held.size end more)

pub signing_passes : (size : ℕ) (own : Hash) (held : Checkpoint) (start end : ℕ)
    → held_refusal size own held ≡ None → is_subtree start end ≡ true → end ≤ held.size
    → signing_refusal size own held start end ≡ None
signing_passes size own held start end mine valid within =
    earlier_none _ _ mine ∙ not_when (is_subtree start end) _ _ valid
    ∙ cond-false _ _ _ (le-ltb held.size end within)
