-- Cosigners that go round: each in its turn from the start of the list to its end.
use Rattle.std.proofs.Common.{◌≡◌, ◌∙◌, ◌+◌, ◌<◌, ◌≤◌, ℕ, suc, List, [], ◌∷◌, ◌++◌, length, take}
use Rattle.std.proofs.Common.{drop}
use Rattle.std.proofs.Common.{Option, Some, None, get_or, refl, sym, ap, subst, arith, add-one}
use Rattle.std.proofs.Math.Seq.{drop-cons}
use Rattle.std.proofs.lemmas.List.{drop_all, length-append, length-drop, take_all}
use Rattle.std.proofs.lemmas.List.Sums.{sum_by-append, sum_by-cons}
use Rattle.std.specs.List.{flat_map, remove, sum_by}
use Rattle.std.proofs.lemmas.Grind.{flat_map-append}
use Rattle.std.proofs.lemmas.List.{append-nil}
use Rattle.std.proofs.Common.{append_assoc}
use Rattle.byte_formats.specs.Types.{Hash, Text}
use Rattle.tree_core.specs.declared.hashing.TreeHash.{Ghosts as Hashes}
use Rattle.mtc_proof.specs.Proofs.{SigParts, signature_text}
use Rattle.drill_parties.specs.CosignerParties.{most_of}
use Rattle.drill_parties.specs.Cosigners.{HaveSigned, IsPut, IsSignatureBy, Paired}
use Rattle.drill_parties.specs.CosignerViews.{cosigner_shown}
use Rattle.drill_parties.specs.Rounds.{stops_in}
use Rattle.drill_parties.specs.declared.cosigner_party.CosignerParty.{CosignerParty}
use Rattle.drill_parties.specs.declared.turns.Stop.{Stop}
use Rattle.drill_parties.proofs.MadeStops.{next_stopped}
use Rattle.drill_parties.proofs.Pairs.{prefix_is, prefix_more, gone_on, paired_push}

-- So many have gone round: those that follow the others are what their turns made of them.
pub record HaveGone {A : Type 0} (R : A → A → Type 0) (i : ℕ) (old now : List A) : Type 0 where
  pub done : List A
  pub items : now ≡ drop i old ++ done
  pub each : Paired R (take i old) done

module _ {A : Type 0} (R : A → A → Type 0) where
  pub none_gone : (old : List A) → HaveGone R 0 old old
  none_gone old = record { done = []; items = sym (append-nil old); each = tt }

  -- there is a next one
  pub some_left : (i : ℕ) (old now : List A) → HaveGone R i old now → i < length old
      → 0 < length now
  some_left i old now gone below =
      let all : length now ≡ length (drop i old) + length gone.done =
      ap length gone.items ∙ length-append (drop i old) gone.done in
      omega (arith, all, length-drop i old, below)

  pub next_is : (i : ℕ) (old now : List A) (x : A) → HaveGone R i old now → i < length old
      → x ≡ get_or now 0 x → get_or old i x ≡ x
  next_is i old now x gone below at = prefix_is old gone.done now i x below gone.items at

  pub next_gone : (i : ℕ) (old now next : List A) (x y : A) → HaveGone R i old now
      → i < length old → x ≡ get_or now 0 x → next ≡ remove now 0 ++ y ∷ [] → R x y
      → HaveGone R (i + 1) old next
  next_gone i old now next x y gone below at next_is here =
      let more = prefix_more old i x below (prefix_is old gone.done now i x below gone.items at) in
      record {
        done = gone.done ++ y ∷ [];
        items = next_is ∙ gone_on old gone.done now i x y below gone.items;
        each = subst (λ (xs : List A). Paired R xs (gone.done ++ y ∷ [])) (sym more)
            (paired_push R (take i old) gone.done x y gone.each here);
      }

  -- all have gone round
  pub all_done : (i : ℕ) (old now : List A) (gone : HaveGone R i old now) → length old ≤ i
      → now ≡ gone.done
  all_done i old now gone all =
      gone.items ∙ ap (λ (xs : List A). xs ++ gone.done) (drop_all i old all)

  pub all_gone : (i : ℕ) (old now : List A) → HaveGone R i old now → length old ≤ i
      → Paired R old now
  all_gone i old now gone all =
      subst (λ (xs : List A). Paired R xs now) (take_all i old all)
      (subst (λ (ys : List A). Paired R (take i old) ys) (sym (all_done i old now gone all))
      gone.each)

-- ---- what is added up of them

-- the first one comes back as another one after the others
pub sum_round : {A : Type 0} (f : A → ℕ) (now next : List A) (x y : A) → 0 < length now
    → x ≡ get_or now 0 x → next ≡ remove now 0 ++ y ∷ []
    → sum_by f next + f x ≡ sum_by f now + f y
sum_round f [] next x y some at is = absurd (omega (arith, some))
sum_round f (z ∷ rest) next x y some at is =
    let whole : sum_by f next ≡ sum_by f rest + sum_by f (y ∷ []) =
    ap (sum_by f) is ∙ sum_by-append f rest (y ∷ []) in
    let last = sum_by-cons f y [] in
    let prefix = sum_by-cons f z rest in
    let same : f x ≡ f z = ap f at in
    omega (arith, whole, last, prefix, same)

pub length_round : {A : Type 0} (now next : List A) (y : A) → 0 < length now
    → next ≡ remove now 0 ++ y ∷ [] → length next ≡ length now
length_round [] next y some is = absurd (omega (arith, some))
length_round (z ∷ rest) next y some is =
    let whole = ap length is ∙ length-append rest (y ∷ []) in
    omega (arith, whole)

-- the stops of one turn more
pub stops_next : (turns items : List (Option Stop)) (i : ℕ) → items ≡ turns → i < length items
    → stops_in (take (i + 1) turns)
    ≡ stops_in (take i turns) + stops_in (get_or items i None ∷ [])
stops_next turns items i same below =
    rw (add-one i) (subst (λ (list : List (Option Stop)). stops_in (take (suc i) list)
    ≡ stops_in (take i list) + stops_in (get_or items i None ∷ [])) same
    (next_stopped items i below))

pub most_is : (turn : Option Stop) → most_of turn ≡ 1 + stops_in (turn ∷ [])
most_is None = refl
most_is (Some stop) = refl

-- ---- signatures

one_text : (x : SigParts) → flat_map signature_text (x ∷ []) ≡ signature_text x
one_text x = append-nil (signature_text x)

module _ {H : Type 0} {hashes : Hashes H} (size : ℕ) (hash : Hash) where
  pub none_put : (before : Text) → HaveSigned {H = H} {hashes = hashes} size hash [] before before
  none_put before = record { parts = []; signed = tt; put = sym (append-nil before) }

  -- one more after the others
  pub put_next : (parties : List (CosignerParty H hashes)) (party : CosignerParty H hashes)
      (before mid after : Text) → HaveSigned size hash parties before mid
      → IsPut size hash party mid after → HaveSigned size hash (parties ++ party ∷ []) before after
  put_next parties party before mid after all one = record {
    parts = all.parts ++ one.part ∷ [];
    signed = paired_push (λ (n : CosignerParty H hashes) (p : SigParts).
        IsSignatureBy size hash (cosigner_shown n) p) parties all.parts party one.part all.signed
        one.signed;
    put = one.put ∙ ap (λ (t : Text). t ++ signature_text one.part) all.put
        ∙ append_assoc before (flat_map signature_text all.parts) (signature_text one.part)
        ∙ ap (λ (t : Text). before ++ (flat_map signature_text all.parts ++ t))
        (sym (one_text one.part))
        ∙ ap (λ (t : Text). before ++ t)
        (sym (flat_map-append signature_text all.parts (one.part ∷ [])));
  }

-- ---- a list whose first items are taken away, one by one

pub left_prefix : {A : Type 0} (old now : List A) (i : ℕ) (x : A) → i < length old
    → now ≡ drop i old → x ≡ get_or now 0 x → get_or old i x ≡ x
left_prefix old now i x below are at =
    prefix_is old [] now i x below (are ∙ sym (append-nil (drop i old))) at

pub left_next : {A : Type 0} (old now : List A) (i : ℕ) (x : A) → i < length old
    → now ≡ drop i old → remove now 0 ≡ drop (i + 1) old
left_next {A = A} old now i x below are =
    rw (add-one i) (ap (λ (xs : List A). drop 1 xs) (are ∙ drop-cons old i x below))
