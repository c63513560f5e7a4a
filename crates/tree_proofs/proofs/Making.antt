-- A path or a proof in a list, by the one in a half of it and the root of the other half.
use Rattle.std.proofs.Common.{◌≡◌, ℕ, ◌+◌, ◌-◌, ◌^◌, ◌<◌, ◌≤◌, ◌⊎◌, ⊎_elim, inl, inr, Bool, true}
use Rattle.std.proofs.Common.{false, cond, List, [], ◌∷◌, ◌++◌, length, take, Some, None, sym, ◌∙◌}
use Rattle.std.proofs.Common.{ap, subst, arith}
use Rattle.std.specs.Prelude.{IfSome, OnOk, Option, Result}
use Rattle.std.proofs.lemmas.List.{length_push}
use Rattle.std.proofs.lemmas.Result.{on_ok_weaker}
use Rattle.mtc_io.specs.Counts.{HasCause}
use Rattle.tree_core.proofs.Powers.{half_within, split_bounds}
use Rattle.tree_core.specs.Path.{part_of}
use Rattle.tree_core.specs.Split.{split_of}
use Rattle.tree_core.specs.Tree.{root_of}
use Rattle.tree_proofs.proofs.Made.{part_proof-whole}
use Rattle.tree_proofs.proofs.Parts.{path-one}
use Rattle.tree_proofs.specs.Proof.{proof_of}
use Rattle.tree_proofs.specs.Modelled.{HasRootAfter, IsPathOf, IsProofIn, IsProofOf, IsRootOf}

-- the halves of an interval are not longer than its split
pub split_left : (start middle end : ℕ) → middle ≡ start + split_of (end - start)
    → middle - start ≤ split_of (end - start)
split_left start middle end is = omega arith

pub split_right : (start middle end : ℕ) → middle ≡ start + split_of (end - start)
    → end - middle ≤ split_of (end - start)
split_right start middle end is = let bounds = split_bounds (end - start) in let half =
    bounds.half in omega arith

-- one hash more than for a half
pub one_higher : {T E : Type 0} (r : Result T E) (h : List ℕ → List ℕ)
    (seen : Option (List (List ℕ))) (low high from to count more : ℕ) (out next : List (List ℕ))
    → low + 1 < high → count ≤ split_of (high - low)
    → ((height : ℕ) → count ≤ 2 ^ height → length out ≤ height + more)
    → OnOk r (HasRootAfter h seen from to out next)
    → OnOk r ((height : ℕ) → high - low ≤ 2 ^ height → length next ≤ height + more)
one_higher r h seen low high from to count more out next large within short =
    on_ok_weaker r following
  where
    following : HasRootAfter h seen from to out next
        → (height : ℕ) → high - low ≤ 2 ^ height → length next ≤ height + more
    following pushed height near =
        let half = half_within (high - low) height (omega arith) near in
        let some = half.some in
        let fits = half.half in
        let below = short (height - 1) (omega arith) in
        let size = ap length pushed.text ∙ length_push out pushed.node in
        omega arith

-- and where a half has no hash more than levels
pub not_higher : {T E : Type 0} (r : Result T E) (h : List ℕ → List ℕ)
    (seen : Option (List (List ℕ))) (low high from to count : ℕ) (out next : List (List ℕ))
    → low + 1 < high → count ≤ split_of (high - low)
    → ((height : ℕ) → count ≤ 2 ^ height → length out ≤ height)
    → OnOk r (HasRootAfter h seen from to out next)
    → OnOk r ((height : ℕ) → high - low ≤ 2 ^ height → length next ≤ height)
not_higher r h seen low high from to count out next large within short pushed =
    on_ok_weaker r (λ (all : (height : ℕ) → high - low ≤ 2 ^ height → length next ≤ height + 0).
    λ height near. let here = all height near in omega arith)
    (one_higher r h seen low high from to count 0 out next large within
    (λ height near. let here = short height near in omega arith) pushed)

-- what is made of a list is what is made of a half of it, and then the root of the other half
pub made_by : {T E : Type 0} (r : Result T E) (h : List ℕ → List ℕ)
    (modelled seen : Option (List (List ℕ))) (half all : List (List ℕ) → List (List ℕ))
    (end from to : ℕ) (out made : List (List ℕ))
    → ((xs : List (List ℕ)) → end ≤ length xs
    → all xs ≡ half xs ++ root_of h (part_of xs from to) ∷ [])
    → IfSome modelled (λ xs. end ≤ length xs) → seen ≡ modelled
    → IfSome modelled (λ xs. out ≡ half xs)
    → OnOk r (HasRootAfter h seen from to out made)
    → OnOk r (IfSome modelled (λ xs. made ≡ all xs))
made_by r h modelled seen half all end from to out made split within seen_is out_is =
    on_ok_weaker r (λ (pushed : HasRootAfter h seen from to out made). same modelled within out_is
    pushed.node (subst (λ t. IsRootOf h t from to pushed.node) seen_is pushed.root) pushed.text)
  where
    same : (modelled : Option (List (List ℕ))) → IfSome modelled (λ xs. end ≤ length xs)
        → IfSome modelled (λ xs. out ≡ half xs) → (node : List ℕ) → IsRootOf h modelled from to node
        → made ≡ out ++ node ∷ [] → IfSome modelled (λ xs. made ≡ all xs)
    same None within out_is node node_is made_is = tt
    same (Some xs) within out_is node node_is made_is =
        made_is ∙ ap (λ p. p ++ node ∷ []) out_is ∙ ap (λ r. half xs ++ r ∷ []) node_is
        ∙ sym (split xs within)

-- where the first call did not fail, the second one's cause is that of both
pub cause_on : {T E : Type 0} (r : Result T E) (before between after : ℕ) → between ≡ before
    → HasCause between after r → HasCause before after r
cause_on r before between after same cause = subst (λ n. HasCause n after r) same cause

-- the path of the only entry
pub path_of_one : (h : List ℕ → List ℕ) (modelled : Option (List (List ℕ))) (index start end : ℕ)
    (made : List (List ℕ)) → end ≤ start + 1 → IfSome modelled (λ xs. end ≤ length xs) → made ≡ []
    → IsPathOf h modelled index start end made
path_of_one h None index start end made one within none = tt
path_of_one h (Some xs) index start end made one within none =
    none ∙ sym (path-one h xs (index - start) start end within one)

-- the proof of the whole, whose hash is known
pub proof_of_known : (h : List ℕ → List ℕ) (modelled : Option (List (List ℕ)))
    (low high start end : ℕ)
    (known : Bool) (made : List (List ℕ)) → low < high → low ≡ start → high ≡ end
    → IfSome modelled (λ xs. high ≤ length xs) → known ≡ true → made ≡ []
    → IsProofIn h modelled low high start end known made
proof_of_known h None low high start end known made some first last within is_known none = tt
proof_of_known h (Some xs) low high start end known made some first last within is_known none =
    none
    ∙ ap (λ k. cond k [] (root_of h (part_of xs low high) ∷ [])) (sym is_known)
    ∙ sym (part_proof-whole h xs start end low high known within (sym first) (sym last) some)

-- or isn't
pub proof_of_root : {T E : Type 0} (r : Result T E) (h : List ℕ → List ℕ)
    (modelled : Option (List (List ℕ))) (low high start end : ℕ) (known : Bool)
    (cleared made : List (List ℕ)) → low < high → low ≡ start → high ≡ end
    → IfSome modelled (λ xs. high ≤ length xs) → known ≡ false → cleared ≡ []
    → OnOk r (HasRootAfter h modelled low high cleared made)
    → OnOk r (IsProofIn h modelled low high start end known made)
proof_of_root r h modelled low high start end known cleared made some first last within is_new
    none =
    on_ok_weaker r
    (λ (pushed : HasRootAfter h modelled low high cleared made). same modelled within
    pushed.node pushed.root (pushed.text ∙ ap (λ o. o ++ pushed.node ∷ []) none))
  where
    same : (modelled : Option (List (List ℕ))) → IfSome modelled (λ xs. high ≤ length xs)
        → (node : List ℕ) → IsRootOf h modelled low high node → made ≡ [] ++ node ∷ []
        → IsProofIn h modelled low high start end known made
    same None within node node_is made_is = tt
    same (Some xs) within node node_is made_is =
        made_is
        ∙ ap (λ r. r ∷ []) node_is
        ∙ ap (λ k. cond k [] (root_of h (part_of xs low high) ∷ [])) (sym is_new)
        ∙ sym (part_proof-whole h xs start end low high known within (sym first) (sym last) some)

-- one hash alone
pub one_alone : {T E : Type 0} (r : Result T E) (h : List ℕ → List ℕ)
    (modelled : Option (List (List ℕ))) (from to size : ℕ) (cleared made : List (List ℕ))
    → cleared ≡ [] → OnOk r (HasRootAfter h modelled from to cleared made)
    → OnOk r ((height : ℕ) → size ≤ 2 ^ height → length made ≤ height + 1)
one_alone r h modelled from to size cleared made none =
    on_ok_weaker r following
  where
    following : HasRootAfter h modelled from to cleared made
        → (height : ℕ) → size ≤ 2 ^ height → length made ≤ height + 1
    following pushed height near =
        let count = ap length pushed.text ∙ length_push cleared pushed.node in
        let empty = ap length none in
        omega arith

-- the part is not the whole, as the code tests it
pub part_from : (low high start end : ℕ) → low ≤ start → end ≤ high
    → ((low ≡ start) × (high ≡ end → ⊥)) ⊎ (low ≡ start → ⊥) → (low < start) ⊎ (end < high)
part_from low high start end from inside other =
    ⊎_elim
    (λ (ends : (low ≡ start) × (high ≡ end → ⊥)). let before = ends.1 in inr (omega arith))
    (λ (later : low ≡ start → ⊥). inl (omega arith))
    other

-- the proof in the first leaves of a list
pub proof_of_first : (h : List ℕ → List ℕ) (modelled : Option (List (List ℕ))) (start end size : ℕ)
    (made : List (List ℕ)) → IsProofIn h modelled 0 size start end true made
    → IsProofOf h modelled start end size made
proof_of_first h None start end size made is = tt
proof_of_first h (Some xs) start end size made is =
    let begin : start - 0 ≡ start = omega arith in
    let stop : end - 0 ≡ end = omega arith in
    let all : size - 0 ≡ size = omega arith in
    is
    ∙ ap (λ s. proof_of h s (end - 0) true (part_of xs 0 size)) begin
    ∙ ap (λ e. proof_of h start e true (part_of xs 0 size)) stop
    ∙ ap (λ n. proof_of h start end true (take n xs)) all
