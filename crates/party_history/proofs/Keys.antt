-- Records of one journal that use one one-time key are one record.
use Rattle.std.proofs.Common.{◌≡◌, ◌⊎◌, inl, inr, ℕ, ◌<◌, true, List, []}
use Rattle.std.proofs.Common.{◌∷◌, ◌++◌, length, Option, None, Some, refl, ap, sym, subst, ◌∙◌}
use Rattle.std.proofs.Common.{arith, slice_get, eqb-true, Bool, false}
use Rattle.std.specs.Prelude.{◌==◌, Result, Ok, Err, if◌then◌else◌}
use Rattle.std.specs.Int.{w8}
use Rattle.std.proofs.lemmas.List.{length-append}
use Rattle.byte_formats.specs.Offsets.{At, at}
use Rattle.byte_formats.specs.Types.{Hash, HashFunction, Text}
use Rattle.tls_wire.specs.Reading.{number_at}
use Rattle.tls_wire.specs.declared.cursor.Short.{Short}
use Rattle.lms_core.specs.declared.heights.LmsType.{LmsType}
use Rattle.cosigner_core.specs.Counts.{AreNumbered, child_before, children_in, index_before}
use Rattle.cosigner_core.specs.Counts.{indices_in}
use Rattle.cosigner_core.specs.Progress.{may_follow_cosigner, terms_of}
use Rattle.cosigner_core.specs.Records.{cosigner_in, first_by_tag, step_by_tag, step_in}
use Rattle.cosigner_core.specs.declared.settings.CosignerSettings.{CosignerSettings}
use Rattle.cosigner_core.specs.declared.step.Step.{Step}
use Rattle.cosigner_core.specs.declared.step.Step.TheVariants.{Advance, Child, Sign}
use Rattle.cosigner_core.proofs.After.{after_its_tree, once_each}
use Rattle.file_events.proofs.Uses.{head_is, tail_is}
use Rattle.party_history.specs.KeyUses.{UseKeysInOrder, UseOneKey}
use Rattle.party_history.proofs.Chains.{at_seam, no_some}

pub keys_in_order : (h : HashFunction) (settings : CosignerSettings) (bodies : List Text)
    → may_follow_cosigner h (terms_of settings.lms settings.low) bodies ≡ true
    → UseKeysInOrder settings bodies
keys_in_order h settings bodies may = record {
  counted = once_each h settings bodies may;
  trees = λ before after body index start end hash proof same said.
      after_its_tree h settings before body after index start end hash proof
      (subst (λ (l : List Text).
      may_follow_cosigner h (terms_of settings.lms settings.low) l ≡ true) same may)
      said;
}

-- ---- the numbers of more records follow those of the records before them

signs_append : (xs ys : List Text) → indices_in (xs ++ ys) ≡ indices_in xs ++ indices_in ys
unfolding indices_in
signs_append [] ys = refl
signs_append (x ∷ xs) ys =
    ap (index_before (step_in x)) (signs_append xs ys)
    ∙ before_append (step_in x) (indices_in xs) (indices_in ys)
  where
    before_append : (o : Option Step) (ns ms : List ℕ)
        → index_before o (ns ++ ms) ≡ index_before o ns ++ ms
    before_append None ns ms = refl
    before_append (Some (Advance size root proof)) ns ms = refl
    before_append (Some (Sign index start end hash proof)) ns ms = refl
    before_append (Some (Child child low)) ns ms = refl

children_append : (xs ys : List Text) → children_in (xs ++ ys) ≡ children_in xs ++ children_in ys
unfolding children_in
children_append [] ys = refl
children_append (x ∷ xs) ys =
    ap (child_before (step_in x)) (children_append xs ys)
    ∙ before_append (step_in x) (children_in xs) (children_in ys)
  where
    before_append : (o : Option Step) (ns ms : List ℕ)
        → child_before o (ns ++ ms) ≡ child_before o ns ++ ms
    before_append None ns ms = refl
    before_append (Some (Advance size root proof)) ns ms = refl
    before_append (Some (Sign index start end hash proof)) ns ms = refl
    before_append (Some (Child child low)) ns ms = refl

-- ---- two records with one number

-- of two records of one list they are one, or one stands before the other
two_places : (list list' : List Text) (body body' : Text) (rest rest' : List Text)
    → list ++ body ∷ rest ≡ list' ++ body' ∷ rest' → (body ≡ body')
    ⊎ (((more : List Text) × (list' ≡ list ++ body ∷ more))
    ⊎ ((more : List Text) × (list ≡ list' ++ body' ∷ more)))
two_places [] [] body body' rest rest' is = inl cc
two_places [] (x ∷ list') body body' rest rest' is = inr (inl (list', cc))
two_places (x ∷ list) [] body body' rest rest' is = inr (inr (list, cc))
two_places (x ∷ list) (y ∷ list') body body' rest rest' is =
    let following : list ++ body ∷ rest ≡ list' ++ body' ∷ rest' = cc in
    elim (two_places list list' body body' rest rest' following) [
      | inl same ↦ inl same
      | inr (inl p) ↦ inr (inl (p.0, let q = p.1 in cc))
      | inr (inr p) ↦ inr (inr (p.0, let q = p.1 in cc))
    ]

-- Numbers of records that count up: of those that some have, or of all.
module _ (numbers : List Text → List ℕ)
    (appended : (xs ys : List Text) → numbers (xs ++ ys) ≡ numbers xs ++ numbers ys)
    (bodies : List Text) (counted : AreNumbered (numbers bodies)) (number : ℕ) where
  adds : (list : List Text) (body : Text) (rest : List Text) → numbers (body ∷ []) ≡ number ∷ []
      → numbers (list ++ body ∷ rest) ≡ numbers list ++ number ∷ numbers rest
  adds list body rest is =
      appended list (body ∷ rest)
      ∙ ap (λ (ns : List ℕ). numbers list ++ ns) (appended (body ∷ []) rest
      ∙ ap (λ (ns : List ℕ). ns ++ numbers rest) is)

  -- a number counts those before it
  at_place : (list : List Text) (body : Text) (rest : List Text) → list ++ body ∷ rest ≡ bodies
      → numbers (body ∷ []) ≡ number ∷ [] → number ≡ length (numbers list)
  at_place list body rest here is =
      counted (length (numbers list)) number
      (ap (λ (ns : List ℕ). slice_get ns (length (numbers list)))
      (ap numbers (sym here) ∙ adds list body rest is)
      ∙ at_seam (numbers list) number (numbers rest))

  above : (list : List Text) (body : Text) (more list' : List Text) → list' ≡ list ++ body ∷ more
      → numbers (body ∷ []) ≡ number ∷ [] → length (numbers list) < length (numbers list')
  above list body more list' same is =
      let all = ap (λ (l : List Text). length (numbers l)) same
      ∙ ap (λ (ns : List ℕ). length ns) (adds list body more is)
      ∙ length-append (numbers list) (number ∷ numbers more) in
      omega (arith, all)

  one_number : (list list' : List Text) (body body' : Text) (rest rest' : List Text)
      → list ++ body ∷ rest ≡ bodies → list' ++ body' ∷ rest' ≡ bodies
      → numbers (body ∷ []) ≡ number ∷ [] → numbers (body' ∷ []) ≡ number ∷ [] → body ≡ body'
  one_number list list' body body' rest rest' here here' is is' =
      let place = at_place list body rest here is in
      let place' = at_place list' body' rest' here' is' in
      elim (two_places list list' body body' rest rest' (here ∙ sym here')) [
        | inl same ↦ same
        | inr (inl p) ↦ absurd (omega (arith, place, place', above list body p.0 list' p.1 is))
        | inr (inr p) ↦ absurd (omega (arith, place, place', above list' body' p.0 list p.1 is'))
      ]

-- ---- two records with one key

sign_number : (body : Text) (index start end : ℕ) (hash : Hash) (proof : List Hash)
    → step_in body ≡ Some (Sign index start end hash proof)
    → indices_in (body ∷ []) ≡ index ∷ []
unfolding indices_in
sign_number body index start end hash proof is = ap (λ (o : Option Step). index_before o []) is

child_number : (body : Text) (child : ℕ) (low : LmsType) → step_in body ≡ Some (Child child low)
    → children_in (body ∷ []) ≡ child ∷ []
unfolding children_in
child_number body child low is = ap (λ (o : Option Step). child_before o []) is

module _ (settings : CosignerSettings) (bodies : List Text) (order : UseKeysInOrder settings bodies)
    (list list' : List Text) (body body' : Text) (rest rest' : List Text)
    (here : list ++ body ∷ rest ≡ bodies) (here' : list' ++ body' ∷ rest' ≡ bodies) where
  one_key : (s t : Step) → step_in body ≡ Some s → step_in body' ≡ Some t → UseOneKey s t
      → body ≡ body'
  one_key (Advance a b c) t says says' same = absurd same
  one_key (Sign a b c d e) (Advance i j k) says says' same = absurd same
  one_key (Child a b) (Advance i j k) says says' same = absurd same
  one_key (Sign a b c d e) (Child i j) says says' same = absurd same
  one_key (Child i j) (Sign a b c d e) says says' same = absurd same
  one_key (Sign a b c d e) (Sign i j k l m) says says' same =
      one_number indices_in signs_append bodies order.counted.signs a list list' body body' rest
      rest' here here' (sign_number body a b c d e says)
      (sign_number body' i j k l m says' ∙ ap (λ (n : ℕ). n ∷ []) (sym same))
  one_key (Child a b) (Child i j) says says' same =
      one_number children_in children_append bodies order.counted.children a list list' body body'
      rest rest' here here' (child_number body a b says)
      (child_number body' i j says' ∙ ap (λ (n : ℕ). n ∷ []) (sym same))

-- ---- the first record uses none

-- a tag of a first record is none of a later one
no_tag : {X Y : Type 0} (n : ℕ) (x : X) (y : Y) (one two : Option X) (three four five : Option Y)
    → (if n == 17 then one else (if n == 21 then two else None)) ≡ Some x
    → (if n == 18 then three else (if n == 19 then four else (if n == 20 then five else None)))
    ≡ Some y → ⊥
no_tag {X} {Y} n x y one two three four five first later = by (n == 17) (n == 21) refl refl first
  where
    none_at : (k : ℕ) → n ≡ k
        → (if k == 18 then three else (if k == 19 then four else (if k == 20 then five else None)))
        ≡ None → ⊥
    none_at k is none =
        let there = ap (λ (m : ℕ). if m == 18 then three
        else (if m == 19 then four else (if m == 20 then five else None))) is in
        no_some y (sym none ∙ (sym there ∙ later))

    by : (b c : Bool) → (n == 17) ≡ b → (n == 21) ≡ c
        → (if b then one else (if c then two else None)) ≡ Some x → ⊥
    by true c e f is = none_at 17 (eqb-true n 17 e) refl
    by false true e f is = none_at 21 (eqb-true n 21 f) refl
    by false false e f is = no_some x is

no_first : (body : Text) (x : CosignerSettings × Text) (s : Step) → cosigner_in body ≡ Some x
    → step_in body ≡ Some s → ⊥
unfolding cosigner_in step_in
no_first body x s = by_tag (number_at w8 (at body 0))
  where
    by_tag : (r : Result (ℕ × At) Short) → first_by_tag r ≡ Some x → step_by_tag r ≡ Some s → ⊥
    by_tag (Err short) first later = no_some x first
    by_tag (Ok tag) first later = no_tag tag.0 x s _ _ _ _ _ first later

-- Two records of a journal that use one key are one.
pub one_record : (settings : CosignerSettings) (first secret : Text) (bodies : List Text)
    (list list' : List Text) (body body' : Text) (rest rest' : List Text) (s t : Step)
    → cosigner_in first ≡ Some (settings, secret) → UseKeysInOrder settings bodies
    → list ++ body ∷ rest ≡ first ∷ bodies → list' ++ body' ∷ rest' ≡ first ∷ bodies
    → step_in body ≡ Some s → step_in body' ≡ Some t → UseOneKey s t → body ≡ body'
one_record settings first secret bodies [] list' body body' rest rest' s t begins order here here'
    says says' same =
    absurd (no_first body (settings, secret) s
    (ap cosigner_in (head_is body first rest bodies here) ∙ begins) says)
one_record settings first secret bodies (x ∷ list) [] body body' rest rest' s t begins order here
    here' says says' same =
    absurd (no_first body' (settings, secret) t
    (ap cosigner_in (head_is body' first rest' bodies here') ∙ begins) says')
one_record settings first secret bodies (x ∷ list) (y ∷ list') body body' rest rest' s t begins
    order here here' says says' same =
    one_key settings bodies order list list' body body' rest rest'
    (tail_is x first (list ++ body ∷ rest) bodies here)
    (tail_is y first (list' ++ body' ∷ rest') bodies here') s t says says' same
