-- One step down a consistency proof beside a list, and what a comparison of the part shows of the
-- list.
use Rattle.std.proofs.Common.{◌≡◌, ℕ, ◌+◌, ◌<◌, ◌≤◌, ◌⊎◌, ⊎_elim, Bool}
use Rattle.std.proofs.Common.{true, false, List, [], ◌∷◌, ◌++◌, length, Some, None}
use Rattle.std.proofs.Common.{Ok, Err, sym, ◌∙◌, ap, refl, subst, arith}
use Rattle.std.specs.Prelude.{Option, IsSome, Result, is_some}
use Rattle.std.proofs.lemmas.Bool.{cases_lt, false≢true}
use Rattle.byte_formats.specs.Types.{Hash, HashFunction, Text}
use Rattle.tree_core.specs.Path.{part_of}
use Rattle.tree_core.specs.Split.{split_of}
use Rattle.tree_core.specs.Tree.{pair_hash, tree_hash}
use Rattle.tree_proofs.proofs.Opens.{open_of-left, open_of-none, open_of-over, open_of-right}
use Rattle.tree_proofs.proofs.Opens.{open_of-whole, part_from}
use Rattle.tree_proofs.proofs.Parts.{part-whole}
use Rattle.tree_proofs.specs.declared.outcome.Opened.{Opened}
use Rattle.tree_proofs.specs.Open.{both_right_of, open_of, open_whole, opened_at}
use Rattle.tree_proofs.specs.Open.{root_left_of, root_right_of}
use Rattle.collide.proofs.Levels.{IsLevel, level_found, level_left, level_right}
use Rattle.collide.proofs.Opening.{opened_below, open_level-left, open_level-right, open_level-over}
use Rattle.collide.proofs.Opening.{subtree_left, subtree_right, subtree_over}
use Rattle.collide.specs.Comparison.{Compares}
use Rattle.collide.specs.declared.comparing.Halt.{Halt}
use Rattle.collide.specs.declared.comparing.Roots.{Roots}
use Rattle.collide.specs.After.{IsFollowing}
use Rattle.tree_proofs.specs.Halves.{AreHalves}
use Rattle.collide.specs.Inputs.{inputs_of}
use Rattle.collide.specs.Inputs.{open_inputs_of, pair_input}

-- an interval that isn't the whole of a list, of which the length was counted
pub part_counted : (s e m n : ℕ) → m ≡ n → e ≤ n
    → ((s ≡ 0) × (e ≡ m → ⊥)) ⊎ (s ≡ 0 → ⊥) → (0 < s) ⊎ (e < n)
part_counted s e m n is within other =
    part_from s e n within
    (subst (λ k. ((s ≡ 0) × (e ≡ k → ⊥)) ⊎ (s ≡ 0 → ⊥)) is other)

-- One step down a proof: what it gave of a part of the list, and what that shows.
pub record HasStep (h : HashFunction) (xs part : List Text) (s e from to : ℕ) (given : Opened)
    (opening : Option Opened) (x : Text) (beside z : Hash) (y : Hash → Text) (ws ys : List Text)
    : Type 0 where
  pub below : Opened
  pub gives : opening ≡ Some below
  pub level : IsLevel h (tree_hash h xs) given.root x (y below.root) (inputs_of h part) ws
      (inputs_of h xs) ys
  pub so : tree_hash h (part_of part from to) ≡ below.subtree → beside ≡ z
      → tree_hash h (part_of xs s e) ≡ given.subtree

pub step_left : (h : HashFunction) (xs l r : List Text) (s e n k : ℕ) (known : Bool)
    (node z : Hash) (proof rest : List Hash) → AreHalves xs l r → proof ≡ rest ++ z ∷ []
    → n ≡ length xs → k ≡ length l → s < e → e ≤ k
    → (given : Opened) → open_of h s e n known node proof ≡ Some given
    → HasStep h xs l s e s e given (open_of h s e k known node rest)
    (pair_input (tree_hash h l) (tree_hash h r)) (tree_hash h r) z (λ a. pair_input a z)
    (open_inputs_of h s e k known node rest) (open_inputs_of h s e n known node proof)
step_left h xs l r s e n k known node z proof rest halves is n_is k_is order left given gives =
    let some = halves.some in
    let back = halves.rest in
    let all = halves.all in
    let more : 1 < n = omega arith in
    let split : k ≡ split_of n = k_is ∙ halves.count ∙ ap split_of (sym n_is) in
    let part = opened_below (root_left_of h z) _ _ given
    (ap (open_of h s e n known node) is
    ∙ open_of-left h s e n k known node z rest more (sym split) left) gives in
    record {
      below = part.below;
      gives = part.gives;
      level = open_level-left h xs l r s e n k known node z proof rest given part.below halves is
          more split left part.gives part.is;
      so = λ below beside. subtree_left h xs l r s e k halves (k_is ∙ halves.count) (omega arith)
          left ∙ below ∙ ap (λ o. o.subtree) part.is;
    }

pub step_right : (h : HashFunction) (xs l r : List Text) (s e n k a b c : ℕ) (known : Bool)
    (node z : Hash) (proof rest : List Hash) → AreHalves xs l r → proof ≡ rest ++ z ∷ []
    → n ≡ length xs → k ≡ length l → c ≡ length r → s ≡ k + a → e ≡ k + b → 0 < b
    → (given : Opened) → open_of h s e n known node proof ≡ Some given
    → HasStep h xs r s e a b given (open_of h a b c known node rest)
    (pair_input (tree_hash h l) (tree_hash h r)) (tree_hash h l) z (pair_input z)
    (open_inputs_of h a b c known node rest) (open_inputs_of h s e n known node proof)
step_right h xs l r s e n k a b c known node z proof rest halves is n_is k_is c_is s_is e_is inside
    given gives =
    let some = halves.some in
    let back = halves.rest in
    let all = halves.all in
    let more : 1 < n = omega arith in
    let size : n ≡ k + c = omega arith in
    let split : k ≡ split_of n = k_is ∙ halves.count ∙ ap split_of (sym n_is) in
    let part = opened_below (root_right_of h z) _ _ given
    (ap (open_of h s e n known node) is
    ∙ open_of-right h s e n k a b c known node z rest more (sym split) s_is e_is size inside) gives
    in
    record {
      below = part.below;
      gives = part.gives;
      level = open_level-right h xs l r s e n k a b c known node z proof rest given part.below
          halves is more split s_is e_is size inside part.gives part.is;
      so = λ below beside. subtree_right h xs l r s e k a b halves (k_is ∙ halves.count) s_is e_is
          ∙ below ∙ ap (λ o. o.subtree) part.is;
    }

-- a part that goes beyond the split is opened only where it begins with the list
opened_first : (h : HashFunction) (s e n k : ℕ) (known : Bool) (node z : Hash)
    (proof rest : List Hash) (given : Opened) → proof ≡ rest ++ z ∷ [] → 1 < n → k ≡ split_of n
    → s < k → k < e → open_of h s e n known node proof ≡ Some given → s ≡ 0
opened_first h s e n k known node z proof rest given is more split before past gives =
    ⊎_elim
    (λ (later : 0 < s).
    let none : None ≡ Some given = sym (ap (open_of h s e n known node) is
    ∙ open_of-none h s e n k known node z rest more (sym split) later before past) ∙ gives in cc)
    (λ (first : s ≤ 0). omega arith)
    (cases_lt 0 s)

pub step_over : (h : HashFunction) (xs l r : List Text) (s e n k b c : ℕ) (known : Bool)
    (node z : Hash) (proof rest : List Hash) → AreHalves xs l r → proof ≡ rest ++ z ∷ []
    → n ≡ length xs → k ≡ length l → c ≡ length r → s < k → e ≡ k + b → 0 < b → e ≤ n
    → (0 < s) ⊎ (e < n)
    → (given : Opened) → open_of h s e n known node proof ≡ Some given
    → HasStep h xs r s e 0 b given (open_of h 0 b c false node rest)
    (pair_input (tree_hash h l) (tree_hash h r)) (tree_hash h l) z (pair_input z)
    (open_inputs_of h 0 b c false node rest) (open_inputs_of h s e n known node proof)
step_over h xs l r s e n k b c known node z proof rest halves is n_is k_is c_is before e_is inside
    within other given gives =
    let some = halves.some in
    let back = halves.rest in
    let all = halves.all in
    let more : 1 < n = omega arith in
    let size : n ≡ k + c = omega arith in
    let split : k ≡ split_of n = k_is ∙ halves.count ∙ ap split_of (sym n_is) in
    let zeroth : s ≡ 0 = opened_first h s e n k known node z proof rest given is more split before
    (omega arith) gives in
    let part_is : e < n =
    ⊎_elim (λ (later : 0 < s). let none : ⊥ = omega arith in absurd none) (λ (lt : e < n). lt) other
    in
    let part = opened_below (both_right_of h z) _ _ given
    (ap (open_of h s e n known node) is
    ∙ open_of-over h s e n k b c known node z rest more (sym split) zeroth e_is size inside part_is)
    gives in
    record {
      below = part.below;
      gives = part.gives;
      level = open_level-over h xs l r s e n k b c known node z proof rest given part.below halves
          is
          more split before e_is size inside part_is part.gives part.is;
      so = λ below beside. subtree_over h xs l r s e k b halves (k_is ∙ halves.count) zeroth e_is
          inside (omega arith)
          ∙ ap (λ a. pair_hash h a (tree_hash h (part_of r 0 b))) beside ∙ ap (pair_hash h z) below
          ∙ ap (λ o. o.subtree) part.is;
    }

pub after_order : {k s e from to : ℕ} {known still : Bool} → IsFollowing k s e known from to still
    → s < e → k < e → from < to
after_order {k} {s} {e} {from} {to} following order past =
    let last = following.last in
    ⊎_elim
    (λ (before : s < k). let over = following.over before in let none : from ≡ 0 = over.0 in omega
    arith)
    (λ (le : k ≤ s). let right = following.following le in let first : s ≡ k + from = right.0 in
    omega arith)
    (cases_lt s k)

-- a step to the right part
abbrev pub StepsRight : HashFunction → List Text → List Text → List Text → ℕ → ℕ → ℕ → Bool → Hash
    → Hash → List Hash → List Hash → Opened → ℕ → ℕ → ℕ → Bool → Type 0
StepsRight h xs l r s e n known node z proof rest given from to c still =
    HasStep h xs r s e from to given (open_of h from to c still node rest)
    (pair_input (tree_hash h l) (tree_hash h r)) (tree_hash h l) z (pair_input z)
    (open_inputs_of h from to c still node rest) (open_inputs_of h s e n known node proof)

-- whether the interval lies after the split or holds all before it
pub step_following : (h : HashFunction) (xs l r : List Text) (s e n k c from to : ℕ)
    (known still : Bool)
    (node z : Hash) (proof rest : List Hash) → AreHalves xs l r → proof ≡ rest ++ z ∷ []
    → n ≡ length xs → k ≡ length l → c ≡ length r → e ≤ n → k < e
    → (0 < s) ⊎ (e < n) → IsFollowing k s e known from to still
    → (given : Opened) → open_of h s e n known node proof ≡ Some given
    → StepsRight h xs l r s e n known node z proof rest given from to c still
step_following h xs l r s e n k c from to known still node z proof rest halves is n_is k_is c_is
    within
    past other following given gives =
    let last = following.last in
    ⊎_elim
    (λ (before : s < k).
    let over = following.over before in
    subst (λ i. StepsRight h xs l r s e n known node z proof rest given i to c still) (sym over.0)
    (subst (StepsRight h xs l r s e n known node z proof rest given 0 to c) (sym over.1)
    (step_over h xs l r s e n k to c known node z proof rest halves is n_is k_is c_is before last
    (omega arith) within other given gives)))
    (λ (le : k ≤ s).
    let right = following.following le in
    subst (StepsRight h xs l r s e n known node z proof rest given from to c) (sym right.1)
    (step_right h xs l r s e n k from to c known node z proof rest halves is n_is k_is c_is right.0
    last (omega arith) given gives))
    (cases_lt s k)

-- What a comparison of the part shows of the list.

abbrev pub ComparesProof : HashFunction → List Text → ℕ → ℕ → ℕ → Bool → Hash → List Hash
    → Result Roots Halt → Type 0
ComparesProof h xs s e n known node proof result =
    (given : Opened) → open_of h s e n known node proof ≡ Some given
    → Compares h (tree_hash h (part_of xs s e) ≡ given.subtree) (tree_hash h xs) given.root
    (inputs_of h xs) (open_inputs_of h s e n known node proof) result

whole_same : (known : Bool) (node : Hash) (proof : List Hash) (given : Opened)
    → open_whole known node proof ≡ Some given → given.root ≡ given.subtree
whole_same true node [] given gives =
    let is : Some (opened_at node node) ≡ Some given = gives in
    whole_parts node given is
  where
    whole_parts : (x : Hash) (given : Opened) → Some (opened_at x x) ≡ Some given
        → given.root ≡ given.subtree
    whole_parts x given is = let same : opened_at x x ≡ given = cc in
        sym (ap (λ o. o.root) same) ∙ ap (λ o. o.subtree) same
whole_same true node (x ∷ rest) given gives = cc
whole_same false node [] given gives = cc
whole_same false node (x ∷ []) given gives =
    let same : opened_at x x ≡ given = cc in
    sym (ap (λ o. o.root) same) ∙ ap (λ o. o.subtree) same
whole_same false node (x ∷ y ∷ rest) given gives = cc

-- the subtree is the whole list
pub proof_whole : (h : HashFunction) (xs : List Text) (s e n : ℕ) (known : Bool) (node : Hash)
    (proof : List Hash) (roots : Roots) (found : Opened)
    → n ≡ length xs → s ≡ 0 → e ≡ n → roots.first ≡ tree_hash h xs → roots.second ≡ found.root
    → open_of h s e n known node proof ≡ Some found
    → ComparesProof h xs s e n known node proof (Ok roots)
proof_whole h xs s e n known node proof roots found n_is first last one other found_is given gives =
    let same : found ≡ given = one_value _ found given found_is gives in
    let root : given.root ≡ given.subtree = whole_same known node proof given
    (sym (open_of-whole h s e n known node proof first last) ∙ gives) in
    let part : part_of xs s e ≡ xs =
    ap (λ i. part_of xs i e) first ∙ ap (part_of xs 0) (last ∙ n_is) ∙ part-whole xs in
    let second : roots.second ≡ given.root = other ∙ ap (λ o. o.root) same in
    record {
      first = one;
      second = second;
      agree = λ agree. ap (tree_hash h) part ∙ sym one ∙ agree ∙ second ∙ root;
    }
  where
    one_value : (o : Option Opened) (a b : Opened) → o ≡ Some a → o ≡ Some b → a ≡ b
    one_value (Some x) a b first second = let is : Some a ≡ Some b = sym first ∙ second in cc
    one_value None a b first second = cc

-- what was found in the part
pub proof_found : (h : HashFunction) (xs part : List Text) (s e n from to c : ℕ)
    (known still : Bool)
    (node : Hash) (proof rest : List Hash) (x : Text) (beside z : Hash) (y : Hash → Text)
    (halt : Halt)
    → ((given : Opened) → open_of h s e n known node proof ≡ Some given
    → HasStep h xs part s e from to given (open_of h from to c still node rest) x beside z y
    (open_inputs_of h from to c still node rest) (open_inputs_of h s e n known node proof))
    → ComparesProof h part from to c still node rest (Err halt)
    → ComparesProof h xs s e n known node proof (Err halt)
proof_found h xs part s e n from to c known still node proof rest x beside z y halt steps is given
    gives =
    let step = steps given gives in
    level_found h (tree_hash h (part_of part from to) ≡ step.below.subtree)
    (tree_hash h (part_of xs s e) ≡ given.subtree) (tree_hash h part) step.below.root _ _ x
    (y step.below.root) _ _ _ _ halt step.level (is step.below step.gives)

-- the roots, by those of the part on the left and by the hashes beside it
pub proof_left : (h : HashFunction) (xs l r : List Text) (s e n k : ℕ) (known : Bool)
    (node beside z : Hash) (proof rest : List Hash) (roots : Roots) (result : Result Roots Halt)
    → ((given : Opened) → open_of h s e n known node proof ≡ Some given
    → HasStep h xs l s e s e given (open_of h s e k known node rest)
    (pair_input (tree_hash h l) (tree_hash h r)) (tree_hash h r) z (λ a. pair_input a z)
    (open_inputs_of h s e k known node rest) (open_inputs_of h s e n known node proof))
    → beside ≡ tree_hash h r
    → ComparesProof h l s e k known node rest (Ok roots)
    → Compares h ((roots.first ≡ roots.second) × (beside ≡ z)) (pair_hash h roots.first beside)
    (pair_hash h roots.second z) (pair_input roots.first beside ∷ [])
    (pair_input roots.second z ∷ []) result
    → ComparesProof h xs s e n known node proof result
proof_left h xs l r s e n k known node beside z proof rest roots result steps beside_is below is
    given
    gives =
    let step = steps given gives in
    level_left h _ _ (tree_hash h l) (tree_hash h r) step.below.root z _ _ _ _ _ _ roots beside
    result
    step.level (below step.below step.gives) beside_is step.so is

-- and by those of the part on the right
pub proof_right : (h : HashFunction) (xs l r : List Text) (s e n from to c : ℕ)
    (known still : Bool)
    (node beside z : Hash) (proof rest : List Hash) (roots : Roots) (result : Result Roots Halt)
    → ((given : Opened) → open_of h s e n known node proof ≡ Some given
    → HasStep h xs r s e from to given (open_of h from to c still node rest)
    (pair_input (tree_hash h l) (tree_hash h r)) (tree_hash h l) z (pair_input z)
    (open_inputs_of h from to c still node rest) (open_inputs_of h s e n known node proof))
    → beside ≡ tree_hash h l
    → ComparesProof h r from to c still node rest (Ok roots)
    → Compares h ((beside ≡ z) × (roots.first ≡ roots.second)) (pair_hash h beside roots.first)
    (pair_hash h z roots.second) (pair_input beside roots.first ∷ [])
    (pair_input z roots.second ∷ []) result
    → ComparesProof h xs s e n known node proof result
proof_right h xs l r s e n from to c known still node beside z proof rest roots result steps
    beside_is
    below is given gives =
    let step = steps given gives in
    level_right h _ _ (tree_hash h r) (tree_hash h l) step.below.root z _ _ _ _ _ _ roots beside
    result step.level (below step.below step.gives) beside_is step.so is

-- where a proof gives anything, a step's part does too
pub step_some : (o opening : Option Opened)
    → ((given : Opened) → o ≡ Some given → (below : Opened) × (opening ≡ Some below))
    → IsSome o → IsSome opening
step_some (Some given) opening so some =
    let below = so given refl in ap is_some below.1
step_some None opening so some = absurd (false≢true some)
