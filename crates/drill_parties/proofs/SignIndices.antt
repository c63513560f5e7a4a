-- Where the steps of a cosigner have a Sign that its records say.
use Rattle.std.proofs.Common.{◌≡◌, ◌∙◌, ◌<◌, ℕ, zero, suc, Bool, true, false, List, [], ◌∷◌}
use Rattle.std.proofs.Common.{length, Some, refl, sym, ap, subst, arith, get_or}
use Rattle.std.proofs.Common.{ltb-true, ltb-false, lt-ltb, slice_index_or}
use Rattle.std.proofs.lemmas.Option.{same_Some}
use Rattle.std.specs.Prelude.{nat_lt, option_map}
use Rattle.std.specs.List.{Contains, position, position_or_len}
use Rattle.std.specs.Option.{is_some}
use Rattle.std.proofs.lemmas.List.Sums.{fails_before_first}
use Rattle.byte_formats.specs.Types.{Text}
use Rattle.byte_formats.proofs.Values.{map_some, then_some}
use Rattle.cosigner_core.specs.Progress.{steps_in}
use Rattle.cosigner_core.specs.Records.{step_in}
use Rattle.cosigner_core.specs.declared.step.Step.{Step}

-- ---- a step among steps

found_first : (p : Step → Bool) (xs : List Step) (k : ℕ) (x : Step) → k < length xs
    → get_or xs k x ≡ x → p x ≡ true → position_or_len p xs < length xs
found_first p xs k x below at passes = go (nat_lt k (position_or_len p xs)) refl
  where
    go : (b : Bool) → nat_lt k (position_or_len p xs) ≡ b → position_or_len p xs < length xs
    go true is =
        let fails : p (get_or xs k x) ≡ false =
        fails_before_first p xs k x (ltb-true k (position_or_len p xs) is) in
        let wrong : true ≡ false = sym passes ∙ ap p (sym at) ∙ fails in
        absurd cc
    go false is = let few = ltb-false k (position_or_len p xs) is in omega (arith, few, below)

-- the first step that passes has an index
pub found : (p : Step → Bool) (xs : List Step) (x : Step) → Contains xs x → p x ≡ true
    → is_some (position p xs) ≡ true
found p xs x there passes =
    rw (lt-ltb (position_or_len p xs) (length xs)
    (found_first p xs there.0 x there.1 there.2 passes)) refl

-- ---- a step that records say

said_at : (bodies : List Text) (steps : List Step) (k : ℕ) (body : Text) (step : Step)
    → steps_in bodies ≡ Some steps → k < length bodies → slice_index_or bodies k body ≡ body
    → step_in body ≡ Some step → Contains steps step
unfolding steps_in
said_at [] steps k body step said below at says = absurd (omega (arith, below))
said_at (b ∷ bs) steps zero body step said below at says =
    let one = then_some (λ (s : Step). option_map (λ (rest : List Step). s ∷ rest) (steps_in bs))
    (step_in b) steps said in
    let two = map_some (λ (rest : List Step). one.0 ∷ rest) (steps_in bs) steps one.2 in
    let same : one.0 ≡ step = same_Some one.0 step (sym one.1 ∙ ap step_in at ∙ says) in
    subst (λ (list : List Step). Contains list step) two.2 (0, omega arith, same)
said_at (b ∷ bs) steps (suc k) body step said below at says =
    let one = then_some (λ (s : Step). option_map (λ (rest : List Step). s ∷ rest) (steps_in bs))
    (step_in b) steps said in
    let two = map_some (λ (rest : List Step). one.0 ∷ rest) (steps_in bs) steps one.2 in
    let less : k < length bs = omega (arith, below) in
    let there = said_at bs two.0 k body step two.1 less at says in
    let few = there.1 in
    let within : suc there.0 < length (one.0 ∷ two.0) = omega (arith, few) in
    subst (λ (list : List Step). Contains list step) two.2 (suc there.0, within, there.2)

pub said_there : (bodies : List Text) (steps : List Step) (body : Text) (step : Step)
    → steps_in bodies ≡ Some steps → Contains bodies body → step_in body ≡ Some step
    → Contains steps step
said_there bodies steps body step said there says =
    said_at bodies steps there.0 body step said there.1 there.2 says
