-- Loops over the items of a list: what is read so far, and what the rest says, make the whole.
use Rattle.std.proofs.Common.{◌≡◌, ℕ, ◌+◌, ◌<◌, List, [], ◌∷◌, ◌++◌, length, get_or, drop}
use Rattle.std.proofs.Common.{Result, Ok, Err, Option, Some, None, refl, sym, ap, ◌∙◌, append_assoc}
use Rattle.std.proofs.Common.{add-one, drop-cons, length-append, arith}
use Rattle.std.specs.Prelude.{option_map}
use Rattle.byte_formats.specs.Readings.{◌>>=◌}
use Rattle.toml.specs.Data.{Data, item}
use Rattle.toml.specs.View.{items_view, view}
use Rattle.toml.specs.declared.value.Value.{Value}
use Rattle.policy_core.specs.declared.cosigners.Known.{Known}
use Rattle.policy_core.specs.declared.error.StoreError.{StoreError}
use Rattle.policy_core.specs.CosignerFields.{cosigner_data, cosigners_from, index_data}
use Rattle.policy_core.specs.CosignerFields.{indices_among}
use Rattle.policy_core.specs.Fields.{each_of}

rest_item : (values : List Value) (i : ℕ) (v : Value) → i < length values → v ≡ get_or values i v
    → items_view (drop i values) ≡ item (view v) (items_view (drop (i + 1) values))
rest_item values i v less is =
    let cut : drop i values ≡ get_or values i v ∷ drop (i + 1) values =
    rw (add-one, drop-cons values i v) refl in
    ap items_view cut
    ∙ ap (λ (w : Value). item (view w) (items_view (drop (i + 1) values))) (sym is)

join : {A : Type 0} (seen : List A) (x : A) (r : Result (List A) StoreError)
    → (r >>= λ xs. Ok ((seen ++ x ∷ []) ++ xs))
    ≡ ((r >>= λ xs. Ok (x ∷ xs)) >>= λ xs. Ok (seen ++ xs))
join seen x (Ok xs) = ap (λ ys. Ok ys) (append_assoc seen (x ∷ []) xs)
join seen x (Err e) = refl

-- One more item.
pub each_more : {A : Type 0} (read : Data → Result A StoreError)
    (total : Result (List A) StoreError) (values : List Value) (i : ℕ) (v : Value) (x : A)
    (seen now : List A) → i < length values → v ≡ get_or values i v → read (view v) ≡ Ok x
    → now ≡ seen ++ x ∷ []
    → (each_of read (items_view (drop i values)) >>= λ xs. Ok (seen ++ xs)) ≡ total
    → (each_of read (items_view (drop (i + 1) values)) >>= λ xs. Ok (now ++ xs)) ≡ total
each_more {A = A} read total values i v x seen now less is step more so_far =
    let rest : Result (List A) StoreError = each_of read (items_view (drop (i + 1) values)) in
    let cut = rest_item values i v less is in
    let before : (each_of read (items_view (drop i values)) >>= λ xs. Ok (seen ++ xs))
    ≡ ((rest >>= λ xs. Ok (x ∷ xs)) >>= λ xs. Ok (seen ++ xs)) = rw (cut, step) refl in
    rw more (join seen x rest ∙ (sym before ∙ so_far))

-- One more cosigner.
pub known_more : (total : Result (List Known) StoreError) (values : List Value) (i : ℕ) (v : Value)
    (k : Known) (seen now : List Known) → i < length values → v ≡ get_or values i v
    → cosigner_data (length seen) (view v) ≡ Ok k → now ≡ seen ++ k ∷ []
    → (cosigners_from (length seen) (items_view (drop i values)) >>= λ ks. Ok (seen ++ ks)) ≡ total
    → (cosigners_from (length now) (items_view (drop (i + 1) values)) >>= λ ks. Ok (now ++ ks))
    ≡ total
known_more total values i v k seen now less is step more so_far =
    let rest : Result (List Known) StoreError =
    cosigners_from (length seen + 1) (items_view (drop (i + 1) values)) in
    let cut = rest_item values i v less is in
    let before : (cosigners_from (length seen) (items_view (drop i values)) >>= λ ks.
    Ok (seen ++ ks)) ≡ ((rest >>= λ ks. Ok (k ∷ ks)) >>= λ ks. Ok (seen ++ ks)) =
    rw (cut, step) refl in
    let size : length (seen ++ k ∷ []) ≡ length seen + 1 =
    omega (arith, length-append seen (k ∷ [])) in
    rw (more, size) (join seen k rest ∙ (sym before ∙ so_far))

-- A fault of the next cosigner.
pub known_fault : (total : Result (List Known) StoreError) (values : List Value) (i : ℕ) (v : Value)
    (seen : List Known) (e : StoreError) → i < length values → v ≡ get_or values i v
    → cosigner_data (length seen) (view v) ≡ Err e
    → (cosigners_from (length seen) (items_view (drop i values)) >>= λ ks. Ok (seen ++ ks)) ≡ total
    → total ≡ Err e
known_fault total values i v seen e less is step so_far =
    let cut = rest_item values i v less is in
    let reported : (cosigners_from (length seen) (items_view (drop i values)) >>= λ ks.
    Ok (seen ++ ks)) ≡ Err e = rw (cut, step) refl in
    sym so_far ∙ reported

join_indices : (seen : List ℕ) (n : ℕ) (o : Option (List ℕ))
    → option_map (λ ns. (seen ++ n ∷ []) ++ ns) o
    ≡ option_map (λ ns. seen ++ ns) (option_map (λ ns. n ∷ ns) o)
join_indices seen n (Some ns) = ap (λ ms. Some ms) (append_assoc seen (n ∷ []) ns)
join_indices seen n None = refl

-- One more index.
pub indices_more : (known : List Known) (total : Option (List ℕ)) (values : List Value) (i : ℕ)
    (v : Value) (n : ℕ) (seen now : List ℕ) → i < length values → v ≡ get_or values i v
    → index_data known (view v) ≡ Some n → now ≡ seen ++ n ∷ []
    → option_map (λ ns. seen ++ ns) (indices_among known (items_view (drop i values))) ≡ total
    → option_map (λ ns. now ++ ns) (indices_among known (items_view (drop (i + 1) values))) ≡ total
indices_more known total values i v n seen now less is step more so_far =
    let rest : Option (List ℕ) = indices_among known (items_view (drop (i + 1) values)) in
    let cut = rest_item values i v less is in
    let before : option_map (λ ns. seen ++ ns) (indices_among known (items_view (drop i values)))
    ≡ option_map (λ ns. seen ++ ns) (option_map (λ ns. n ∷ ns) rest) = rw (cut, step) refl in
    rw more (join_indices seen n rest ∙ (sym before ∙ so_far))

-- A value that names no index.
pub indices_none : (known : List Known) (total : Option (List ℕ)) (values : List Value) (i : ℕ)
    (v : Value) (seen : List ℕ) → i < length values → v ≡ get_or values i v
    → index_data known (view v) ≡ None
    → option_map (λ ns. seen ++ ns) (indices_among known (items_view (drop i values))) ≡ total
    → None ≡ total
indices_none known total values i v seen less is step so_far =
    let cut = rest_item values i v less is in
    let reported : None
    ≡ option_map (λ ns. seen ++ ns) (indices_among known (items_view (drop i values))) =
    rw (cut, step) refl in
    reported ∙ so_far
