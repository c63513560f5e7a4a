-- One level of two computations: what is shown of the nodes below shows it of the node.
use Rattle.std.proofs.Common.{◌≡◌, List, [], ◌∷◌, Err, sym, ◌∙◌, ap, subst}
use Rattle.std.specs.Prelude.{Result}
use Rattle.std.specs.List.{Contains}
use Rattle.byte_formats.specs.Types.{Hash, HashFunction, Text}
use Rattle.tree_core.specs.Tree.{pair_hash}
use Rattle.collide.proofs.Compared.{collision_widened, compares_widened}
use Rattle.collide.proofs.Hashed.{only_in}
use Rattle.collide.specs.Comparison.{AreRoots, Compares}
use Rattle.collide.specs.declared.comparing.Halt.{Halt}
use Rattle.collide.specs.declared.comparing.Halt.TheVariants.{Found, Memory}
use Rattle.collide.specs.declared.comparing.Roots.{Roots}
use Rattle.collide.specs.Inputs.{pair_input}

-- one and other are the hashes of x and y, which are hashed on either side, as are the strings
-- below
pub record IsLevel (h : HashFunction) (one other : Hash) (x y : Text) (vs ws xs ys : List Text)
    : Type 0 where
  pub first : h x ≡ one
  pub second : h y ≡ other
  pub first_in : Contains xs x
  pub second_in : Contains ys y
  pub firsts : (t : Text) → Contains vs t → Contains xs t
  pub seconds : (t : Text) → Contains ws t → Contains ys t

pub level_found : (h : HashFunction) (this that : Type 0) (a b one other : Hash) (x y : Text)
    (vs ws xs ys : List Text) (halt : Halt) → IsLevel h one other x y vs ws xs ys
    → Compares h this a b vs ws (Err halt) → Compares h that one other xs ys (Err halt)
level_found h this that a b one other x y vs ws xs ys (Found t u) level is =
    collision_widened h vs ws xs ys t u (level.firsts t) (level.seconds u) is
level_found h this that a b one other x y vs ws xs ys Memory level is = tt

-- the left nodes are compared, and the right ones are b and z
pub level_left : (h : HashFunction) (this that : Type 0) (a b c z one other : Hash)
    (vs ws xs ys : List Text) (roots : Roots) (beside : Hash) (result : Result Roots Halt)
    → IsLevel h one other (pair_input a b) (pair_input c z) vs ws xs ys
    → AreRoots this a c roots → beside ≡ b → (this → b ≡ z → that)
    → Compares h ((roots.first ≡ roots.second) × (beside ≡ z)) (pair_hash h roots.first beside)
    (pair_hash h roots.second z) (pair_input roots.first beside ∷ [])
    (pair_input roots.second z ∷ []) result
    → Compares h that one other xs ys result
level_left h this that a b c z one other vs ws xs ys roots beside result level are beside_is so is =
    let first : pair_input roots.first beside ≡ pair_input a b =
    ap (λ l. pair_input l beside) are.first ∙ ap (pair_input a) beside_is in
    let second : pair_input roots.second z ≡ pair_input c z =
    ap (λ l. pair_input l z) are.second in
    compares_widened h _ that (pair_hash h roots.first beside) (pair_hash h roots.second z) one
    other
    (pair_input roots.first beside ∷ []) (pair_input roots.second z ∷ []) xs ys result
    (λ same. so (are.agree same.0) (sym beside_is ∙ same.1))
    (ap h first ∙ level.first)
    (ap h second ∙ level.second)
    (λ t within. subst (Contains xs) (sym (only_in _ t within ∙ first)) level.first_in)
    (λ t within. subst (Contains ys) (sym (only_in _ t within ∙ second)) level.second_in)
    is

-- the right nodes are compared, and the left ones are b and z
pub level_right : (h : HashFunction) (this that : Type 0) (a b c z one other : Hash)
    (vs ws xs ys : List Text) (roots : Roots) (beside : Hash) (result : Result Roots Halt)
    → IsLevel h one other (pair_input b a) (pair_input z c) vs ws xs ys
    → AreRoots this a c roots → beside ≡ b → (this → b ≡ z → that)
    → Compares h ((beside ≡ z) × (roots.first ≡ roots.second)) (pair_hash h beside roots.first)
    (pair_hash h z roots.second) (pair_input beside roots.first ∷ [])
    (pair_input z roots.second ∷ []) result
    → Compares h that one other xs ys result
level_right h this that a b c z one other vs ws xs ys roots beside result level are beside_is so is
    =
    let first : pair_input beside roots.first ≡ pair_input b a =
    ap (λ l. pair_input l roots.first) beside_is ∙ ap (pair_input b) are.first in
    let second : pair_input z roots.second ≡ pair_input z c =
    ap (pair_input z) are.second in
    compares_widened h _ that (pair_hash h beside roots.first) (pair_hash h z roots.second) one
    other
    (pair_input beside roots.first ∷ []) (pair_input z roots.second ∷ []) xs ys result
    (λ same. so (are.agree same.1) (sym beside_is ∙ same.0))
    (ap h first ∙ level.first)
    (ap h second ∙ level.second)
    (λ t within. subst (Contains xs) (sym (only_in _ t within ∙ first)) level.first_in)
    (λ t within. subst (Contains ys) (sym (only_in _ t within ∙ second)) level.second_in)
    is
