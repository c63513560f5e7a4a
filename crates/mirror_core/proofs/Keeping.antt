-- A record more of a journal that is read, as a mirror keeps it.
use Rattle.std.proofs.Common.{◌≡◌, ℕ, ◌+◌, List, [], ◌∷◌, ◌++◌, length}
use Rattle.std.proofs.Common.{Option, Some, None, IfSome, option_map, Ok, refl, ap, sym}
use Rattle.std.proofs.Common.{subst, ◌∙◌, arith}
use Rattle.std.specs.Option.{unwrap_or}
use Rattle.std.proofs.lemmas.Grind.{flat_map-append}
use Rattle.std.proofs.lemmas.List.{append-nil, append_assoc, length-append}
use Rattle.std.proofs.lemmas.Option.{same_Some}
use Rattle.byte_formats.specs.Types.{Hash, HashFunction, Text}
use Rattle.byte_formats.proofs.Values.{map_some, when_some}
use Rattle.journal_core.specs.Format.{following}
use Rattle.journal_core.proofs.Folds.{state_begins, state_next}
use Rattle.issuance_log.specs.Records.{tiled_in}
use Rattle.tree_core.specs.Tree.{leaf_hash}
use Rattle.mirror_core.specs.Folds.{MirrorState, MirrorStep, MirrorView, begun_mirror}
use Rattle.mirror_core.specs.Folds.{begun_mirror_view, mirror_by_step, mirror_fold, mirror_of}
use Rattle.mirror_core.specs.Folds.{mirror_step, mirror_step_in, mirror_with, mirrors_items}
use Rattle.mirror_core.specs.Folds.{mirrors_tiles, new_mirror, next_mirror, next_mirror_view}
use Rattle.mirror_core.specs.Folds.{no_mirror_step, takes_mirror_step, view_in_mirror}
use Rattle.mirror_core.specs.Kept.{IsMirrored, item_leaves}
use Rattle.mirror_core.specs.Places.{place_with, places_after, places_of_batches}
use Rattle.mirror_core.specs.Records.{all_mirrored, mirror_log_in, mirrored_by, mirrored_in}
use Rattle.mirror_core.specs.declared.kept.BatchPlace.{BatchPlace}
use Rattle.mirror_core.proofs.Encoded.{mirror_no_batch}
use Rattle.mirror_core.proofs.Views.{views_follow}

-- ---- items

pub items_are : (body : Text) (items : List (Text × Text)) → mirrored_in body ≡ Some items
    → mirrored_by body ≡ items
items_are body items is = ap (λ o. unwrap_or o []) is

pub no_items : (body : Text) → mirrored_in body ≡ None → mirrored_by body ≡ []
no_items body is = ap (λ o. unwrap_or o []) is

-- a record more has its items after the others
pub all_more : (list : List Text) (body : Text)
    → all_mirrored (list ++ body ∷ []) ≡ all_mirrored list ++ mirrored_by body
all_more list body =
    flat_map-append mirrored_by list (body ∷ [])
    ∙ ap (λ (l : List (Text × Text)). all_mirrored list ++ l) (append-nil (mirrored_by body))

-- ---- places

pub places_more : (place first : ℕ) (bodies : List Text) (body : Text)
    → places_after place first (bodies ++ body ∷ [])
    ≡ places_after place first bodies
    ++ place_with (following place bodies) (first + length (all_mirrored bodies)) (mirrored_in body)
unfolding places_after
places_more place first [] body =
    let none : first ≡ first + 0 = omega arith in
    append-nil (place_with place first (mirrored_in body))
    ∙ ap (λ (n : ℕ). place_with place n (mirrored_in body)) none
places_more place first (b ∷ bodies) body =
    let size = length-append (mirrored_by b) (all_mirrored bodies) in
    let sum : first + length (mirrored_by b) + length (all_mirrored bodies)
    ≡ first + length (mirrored_by b ++ all_mirrored bodies) = omega (arith, size) in
    let next = place + 5 + length b in
    let rest = places_after next (first + length (mirrored_by b)) bodies in
    ap (λ (l : List BatchPlace). place_with place first (mirrored_in b) ++ l)
    (places_more next (first + length (mirrored_by b)) bodies body
    ∙ ap (λ (n : ℕ). rest ++ place_with (following next bodies) n (mirrored_in body)) sum)
    ∙ sym (append_assoc (place_with place first (mirrored_in b)) rest
    (place_with (following next bodies) (first + length (mirrored_by b ++ all_mirrored bodies))
    (mirrored_in body)))

-- ---- what a record makes

abbrev items_of_step : MirrorStep → List (Text × Text)
items_of_step (mirrors_items items) = items
items_of_step (mirrors_tiles size) = []
items_of_step no_mirror_step = []

-- the items of a mirror are those of another one, and these after them
pub record HasMore (s t : MirrorState) (added : List (Text × Text)) : Type 0 where
  pub log : t.log ≡ s.log
  pub items : t.items ≡ s.items ++ added

step_more : (s : MirrorState) (x : MirrorStep) → HasMore s (mirror_by_step x s) (items_of_step x)
step_more s (mirrors_items items) = record { log = refl; items = refl }
step_more s (mirrors_tiles size) = record { log = refl; items = sym (append-nil s.items) }
step_more s no_mirror_step = record { log = refl; items = sym (append-nil s.items) }

step_items : (items : Option (List (Text × Text))) (size : Option ℕ)
    → items_of_step (mirror_step items size) ≡ unwrap_or items []
step_items (Some items) size = refl
step_items None (Some size) = refl
step_items None None = refl

pub next_more : (h : HashFunction) (s t : MirrorState) (body : Text)
    → next_mirror h s body ≡ Some t → HasMore s t (mirrored_by body)
unfolding next_mirror
next_more h s t body is =
    let x = mirror_step_in body in
    let made = when_some (takes_mirror_step h (view_in_mirror s) x) (Some (mirror_by_step x s)) t is
    in
    subst (λ (u : MirrorState). HasMore s u (mirrored_by body))
    (same_Some (mirror_by_step x s) t made.1)
    (subst (λ (l : List (Text × Text)). HasMore s (mirror_by_step x s) l)
    (step_items (mirrored_in body) (tiled_in body)) (step_more s x))

pub rebuilt : (s : MirrorState) (items : List (Text × Text)) → items ≡ s.items
    → record { log = s.log; items = items; tiled = s.tiled } ≡ s
rebuilt s items is =
    ap (λ (l : List (Text × Text)). record { log = s.log; items = l; tiled = s.tiled }) is

-- what is shown over every disk, of the mirror that is shown
pub shown_view : (v : MirrorView) (list : List Text) → v.size ≡ length (all_mirrored list)
    → view_in_mirror (mirror_with v list) ≡ v
shown_view v list all =
    ap (λ (n : ℕ). record { log = v.log; size = n; tiled = v.tiled }) (sym all)

-- The mirror that a record makes, of which this is shown.
pub next_of : (h : HashFunction) (v w : MirrorView) (list : List Text) (body : Text)
    → v.size ≡ length (all_mirrored list) → next_mirror_view h v body ≡ Some w
    → (t : MirrorState) × (next_mirror h (mirror_with v list) body ≡ Some t)
    × (view_in_mirror t ≡ w)
next_of h v w list body all is =
    map_some view_in_mirror (next_mirror h (mirror_with v list) body) w
    (sym (views_follow h (mirror_with v list) body)
    ∙ ap (λ (u : MirrorView). next_mirror_view h u body) (shown_view v list all) ∙ is)

-- It is what is shown after the record.
pub shown_next : (h : HashFunction) (v w : MirrorView) (list : List Text) (body : Text)
    (t : MirrorState) → v.size ≡ length (all_mirrored list) → next_mirror_view h v body ≡ Some w
    → next_mirror h (mirror_with v list) body ≡ Some t
    → mirror_with w (list ++ body ∷ []) ≡ t
shown_next h v w list body t all next is =
    let step = next_of h v w list body all next in
    let same : step.0 ≡ t = same_Some step.0 t (sym step.1 ∙ is) in
    let more = next_more h (mirror_with v list) t body is in
    ap (λ (u : MirrorView). mirror_with u (list ++ body ∷ [])) (sym (ap view_in_mirror (sym same)
    ∙ step.2))
    ∙ rebuilt t (all_mirrored (list ++ body ∷ [])) (all_more list body ∙ sym more.items)

-- the hashes that are retained are these, with more of them too
hashed_with : (leaves leaves' : Option (List Hash)) (old new more : List Hash)
    → IfSome leaves (λ l. l ≡ old) → leaves' ≡ option_map (λ l. l ++ more) leaves
    → new ≡ old ++ more → IfSome leaves' (λ l. l ≡ new)
hashed_with None leaves' old new more was are is =
    subst (λ o. IfSome o (λ l. l ≡ new)) (sym are) tt
hashed_with (Some l) leaves' old new more was are is =
    subst (λ o. IfSome o (λ l. l ≡ new)) (sym are) (ap (λ x. x ++ more) was ∙ sym is)

leaves_more : (h : HashFunction) (xs ys : List (Text × Text))
    → item_leaves h (xs ++ ys) ≡ item_leaves h xs ++ item_leaves h ys
leaves_more h [] ys = refl
leaves_more h (x ∷ xs) ys = ap (λ l. leaf_hash h x.0 ∷ l) (leaves_more h xs ys)

-- One record more, which the mirror takes, is retained.
pub kept_more : (h : HashFunction) (v w : MirrorView) (places places' : List BatchPlace)
    (leaves leaves' : Option (List Hash)) (list : List Text) (body : Text)
    → IsMirrored h v places leaves list → next_mirror_view h v body ≡ Some w
    → places' ≡ places ++ place_with (following 16 list) v.size (mirrored_in body)
    → leaves' ≡ option_map (λ l. l ++ item_leaves h (mirrored_by body)) leaves
    → IsMirrored h w places' leaves' (list ++ body ∷ [])
kept_more h v w places places' leaves leaves' list body is next places_are leaves_are =
    let more : List Text = list ++ body ∷ [] in
    let s = mirror_with v list in
    let step = next_of h v w list body is.all next in
    let t = step.0 in
    let log_is : mirror_of h more ≡ Ok t =
    state_next (mirror_fold h) list s body t is.made step.1 in
    let shown : mirror_with w more ≡ t = shown_next h v w list body t is.all next step.1 in
    let has = next_more h s t body step.1 in
    let first : v.size ≡ 0 + length (all_mirrored list) = omega (arith, is.all) in
    record {
      made = log_is ∙ ap Ok (sym shown);
      all = ap (λ (u : MirrorView). u.size) (sym step.2)
          ∙ ap (λ (u : MirrorState). length u.items) (sym shown);
      places_are = places_are
          ∙ ap (λ (l : List BatchPlace). l
          ++ place_with (following 16 list) v.size (mirrored_in body)) is.places_are
          ∙ ap (λ (n : ℕ). places_of_batches list
          ++ place_with (following 16 list) n (mirrored_in body)) first
          ∙ sym (places_more 16 0 list body);
      hashed = hashed_with leaves leaves' (item_leaves h (all_mirrored list))
          (item_leaves h (all_mirrored more)) (item_leaves h (mirrored_by body)) is.hashed
          leaves_are (ap (item_leaves h) (all_more list body)
          ∙ leaves_more h (all_mirrored list) (mirrored_by body));
    }

-- ---- the first record

begun_so : (o : Option Text) (v : MirrorView)
    → option_map view_in_mirror (option_map new_mirror o) ≡ Some v
    → (id : Text) × (o ≡ Some id) × (view_in_mirror (new_mirror id) ≡ v)
begun_so None v is = let wrong : None ≡ Some v = is in absurd cc
begun_so (Some id) v is = (id, refl, same_Some (view_in_mirror (new_mirror id)) v is)

-- The mirror that it begins is retained.
pub kept_first : (h : HashFunction) (v : MirrorView) (body : Text) (leaves : Option (List Hash))
    → begun_mirror_view body ≡ Some v → IfSome leaves (λ l. l ≡ [])
    → IsMirrored h v [] leaves (body ∷ [])
unfolding begun_mirror places_after
kept_first h v body leaves begun none =
    let first = begun_so (mirror_log_in body) v begun in
    let t = new_mirror first.0 in
    let other = mirror_no_batch body first.0 first.1 in
    let alone : all_mirrored (body ∷ []) ≡ [] =
    append-nil (mirrored_by body) ∙ no_items body other in
    let log_is : mirror_of h (body ∷ []) ≡ Ok t =
    state_begins (mirror_fold h) body t (ap (option_map new_mirror) first.1) in
    let shown : mirror_with v (body ∷ []) ≡ t =
    ap (λ (u : MirrorView). mirror_with u (body ∷ [])) (sym first.2) ∙ rebuilt t _ alone in
    record {
      made = log_is ∙ ap Ok (sym shown);
      all = ap (λ (u : MirrorView). u.size) (sym first.2)
          ∙ ap (λ (l : List (Text × Text)). length l) (sym alone);
      places_are = ap (λ o. place_with 16 0 o ++ []) (sym other);
      hashed = no_hashes leaves none alone;
    }
  where
    no_hashes : (o : Option (List Hash)) → IfSome o (λ l. l ≡ [])
        → all_mirrored (body ∷ []) ≡ []
        → IfSome o (λ l. l ≡ item_leaves h (all_mirrored (body ∷ [])))
    no_hashes None are alone = tt
    no_hashes (Some l) are alone = are ∙ ap (item_leaves h) (sym alone)
