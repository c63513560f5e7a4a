-- Two lists of one length, whatever they are: they are the same, or there are two strings with one
-- hash.
use Rattle.std.proofs.Common.{◌≡◌, ℕ, zero, suc, ◌<◌, ◌≤◌, ⊎_elim, inl, inr, List, [], ◌∷◌, length}
use Rattle.std.proofs.Common.{take, drop, sym, ◌∙◌, ap, refl, subst, arith}
use Rattle.std.specs.List.{Contains}
use Rattle.std.proofs.lemmas.Bool.{cases_lt}
use Rattle.byte_formats.specs.Types.{HashFunction, Text}
use Rattle.tree_core.proofs.Roots.{root_of-one}
use Rattle.tree_core.specs.Split.{split_of}
use Rattle.tree_core.specs.Tree.{leaf_hash, tree_hash}
use Rattle.collide.proofs.Extracting.{Agrees, IsSized, found_wider, level_agrees, pair_left}
use Rattle.collide.proofs.Extracting.{pair_right, tree_hash-sized}
use Rattle.collide.proofs.ExtractingPaths.{leaves_agree}
use Rattle.tree_proofs.proofs.Halving.{halves_of, halves_same}
use Rattle.collide.proofs.Hashed.{first_in, inputs_of-one, left_in, right_in, root_in}
use Rattle.tree_proofs.proofs.Halving.{halves_hash}
use Rattle.tree_proofs.specs.Halves.{AreHalves}
use Rattle.collide.specs.Inputs.{inputs_of, leaf_input}
use Rattle.collide.specs.Laws.{ListsExtract}

abbrev ListsAgree : HashFunction → List Text → List Text → Type 0
ListsAgree h xs ys =
    Agrees h (xs ≡ ys) (tree_hash h xs) (tree_hash h ys) (inputs_of h xs) (inputs_of h ys)

leaf_in : (h : HashFunction) (x : Text) → Contains (inputs_of h (x ∷ [])) (leaf_input x)
leaf_in h x =
    subst (λ (texts : List Text). Contains texts (leaf_input x)) (sym (inputs_of-one h x))
    (first_in (leaf_input x) [])

-- Lists of at most one entry.
few_agree : (h : HashFunction) (xs ys : List Text) → length xs ≤ 1 → length xs ≡ length ys
    → ListsAgree h xs ys
few_agree h [] [] few even = inl (λ is. refl)
few_agree h [] (y ∷ ys) few even = absurd (omega arith)
few_agree h (x ∷ xs) [] few even = absurd (omega arith)
few_agree h (x ∷ []) (y ∷ []) few even =
    leaves_agree h (x ∷ [] ≡ y ∷ []) (tree_hash h (x ∷ [])) (tree_hash h (y ∷ [])) x y
    (inputs_of h (x ∷ [])) (inputs_of h (y ∷ []))
    (sym (root_of-one h (leaf_hash h x))) (sym (root_of-one h (leaf_hash h y)))
    (leaf_in h x) (leaf_in h y) (λ same. ap (λ (t : Text). t ∷ []) same)
few_agree h (x ∷ []) (y ∷ z ∷ ys) few even = absurd (omega arith)
few_agree h (x ∷ w ∷ xs) ys few even = absurd (omega arith)

-- Lists of more, by their parts.
parts_agree : (h : HashFunction) → IsSized h → (xs xl xr ys yl yr : List Text)
    → AreHalves xs xl xr → AreHalves ys yl yr → length xs ≡ length ys → ListsAgree h xl yl
    → ListsAgree h xr yr → ListsAgree h xs ys
parts_agree h sized xs xl xr ys yl yr first second even left (inr found) =
    inr (found_wider h (inputs_of h xr) (inputs_of h yr) (inputs_of h xs) (inputs_of h ys)
    (λ t. right_in h xs xl xr t first) (λ t. right_in h ys yl yr t second) found)
parts_agree h sized xs xl xr ys yl yr first second even left (inl right) =
    let size : length (tree_hash h xr) ≡ length (tree_hash h yr) =
    tree_hash-sized h sized xr ∙ sym (tree_hash-sized h sized yr) in
    level_agrees h (xl ≡ yl) (xs ≡ ys) (tree_hash h xl) (tree_hash h yl) _ _ _ _ _ _ _ _
    (record {
      first = sym (halves_hash h xs xl xr first);
      second = sym (halves_hash h ys yl yr second);
      first_in = root_in h xs xl xr first;
      second_in = root_in h ys yl yr second;
      firsts = λ t. left_in h xs xl xr t first;
      seconds = λ t. left_in h ys yl yr t second;
    })
    (pair_left _ _ _ _ size)
    (λ same here. halves_same xs xl xr ys yl yr first second even here
    (right (pair_right _ _ _ _ size same)))
    left

-- By a number that is not below that of the entries.
lists_agree : (depth : ℕ) (h : HashFunction) → IsSized h → (xs ys : List Text)
    → length xs ≤ depth → length xs ≡ length ys → ListsAgree h xs ys
lists_agree zero h sized xs ys few even = few_agree h xs ys (omega arith) even
lists_agree (suc depth) h sized xs ys few even =
    ⊎_elim
    (λ (more : 1 < length xs).
    let xl = take (split_of (length xs)) xs in
    let xr = drop (split_of (length xs)) xs in
    let yl = take (split_of (length ys)) ys in
    let yr = drop (split_of (length ys)) ys in
    let first : AreHalves xs xl xr = halves_of xs more in
    let second : AreHalves ys yl yr = halves_of ys (omega arith) in
    let split : split_of (length xs) ≡ split_of (length ys) = ap split_of even in
    let xl_size = first.count in
    let yl_size = second.count in
    let x_all = first.all in
    let y_all = second.all in
    let x_some = first.some in
    let x_rest = first.rest in
    parts_agree h sized xs xl xr ys yl yr first second even
    (lists_agree depth h sized xl yl (omega arith) (omega arith))
    (lists_agree depth h sized xr yr (omega arith) (omega arith)))
    (λ (one : length xs ≤ 1). few_agree h xs ys one even)
    (cases_lt 1 (length xs))

pub ListsExtract_always : (h : HashFunction) → IsSized h → ListsExtract h
ListsExtract_always h sized first second even root =
    ⊎_elim (λ (agree : tree_hash h first ≡ tree_hash h second → first ≡ second).
    inl (agree root)) (λ found. inr found)
    (lists_agree (length first) h sized first second (omega arith) even)
