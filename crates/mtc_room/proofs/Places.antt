-- Places of names: an end without a slash is one of the file's name.
use Rattle.std.proofs.Common.{◌≡◌, ◌<◌, ℕ, ◌==◌, ◌&&◌, Bool, true, false, [], ◌∷◌, ◌++◌, length}
use Rattle.std.proofs.Common.{if◌then◌else◌, refl, sym, ap, ◌∙◌, arith, true≢false}
use Rattle.std.proofs.lemmas.List.{append_assoc, append_cancel_right, length-append}
use Rattle.std.proofs.lemmas.Slice.Eq.{bytes_eq-Decides}
use Rattle.std.specs.Str.{bytes_eq}
use Rattle.byte_formats.specs.Types.{Text}
use Rattle.mtc_room.specs.MemoryLaws.{split_joined}
use Rattle.mtc_room.specs.Places.{is_one_place, place_of, split_name, with_letter}

-- ---- the test

both_true : (one other : Bool) → (one && other) ≡ true → (one ≡ true) × (other ≡ true)
both_true true other is = (refl, is)
both_true false other is = absurd (true≢false (sym is))

true_both : (one other : Bool) → one ≡ true → other ≡ true → (one && other) ≡ true
true_both true other first second = second
true_both false other first second = absurd (true≢false (sym first))

module _ (leads_to : Text → Text) (one other : Text) where
  pub one_place_is : is_one_place leads_to one other ≡ true
      → place_of leads_to one ≡ place_of leads_to other
  one_place_is is =
      let both = both_true (bytes_eq (place_of leads_to one).0 (place_of leads_to other).0)
      (bytes_eq (place_of leads_to one).1 (place_of leads_to other).1) is in
      let path = (bytes_eq-Decides (place_of leads_to one).0 (place_of leads_to other).0).0
      both.0 in
      let file = (bytes_eq-Decides (place_of leads_to one).1 (place_of leads_to other).1).0
      both.1 in
      λ i. (path i, file i)

  pub one_place_of : place_of leads_to one ≡ place_of leads_to other
      → is_one_place leads_to one other ≡ true
  one_place_of same =
      true_both (bytes_eq (place_of leads_to one).0 (place_of leads_to other).0)
      (bytes_eq (place_of leads_to one).1 (place_of leads_to other).1)
      ((bytes_eq-Decides (place_of leads_to one).0 (place_of leads_to other).0).1
      (ap (λ (parts : Text × Text). parts.0) same))
      ((bytes_eq-Decides (place_of leads_to one).1 (place_of leads_to other).1).1
      (ap (λ (parts : Text × Text). parts.1) same))

-- ---- a name with an end

abbrev letter_by : Bool → ℕ → Text → Text × Text
letter_by slash letter file = if slash then (letter ∷ [], file) else ([], letter ∷ file)

letter_end : (letter : ℕ) (path file end : Text) → with_letter letter path (file ++ end)
    ≡ ((with_letter letter path file).0, (with_letter letter path file).1 ++ end)
letter_end letter [] file end = go (letter == 47)
  where
    go : (slash : Bool) → letter_by slash letter (file ++ end)
        ≡ ((letter_by slash letter file).0, (letter_by slash letter file).1 ++ end)
    go true = refl
    go false = refl
letter_end letter (first ∷ path) file end = refl

pub split_end : (name end : Text) → split_name end ≡ ([], end)
    → split_name (name ++ end) ≡ ((split_name name).0, (split_name name).1 ++ end)
unfolding split_name
split_end [] end plain = plain
split_end (letter ∷ rest) end plain =
    ap (λ (parts : Text × Text). with_letter letter parts.0 parts.1) (split_end rest end plain)
    ∙ letter_end letter (split_name rest).0 (split_name rest).1 end

module _ (leads_to : Text → Text) (end : Text) (plain : split_name end ≡ ([], end)) where
  place_end : (name : Text) → place_of leads_to (name ++ end)
      ≡ ((place_of leads_to name).0, (place_of leads_to name).1 ++ end)
  place_end name =
      ap (λ (parts : Text × Text). (leads_to parts.0, parts.1)) (split_end name end plain)

  -- names of one place are of one place with it, and without it
  pub ends_alike : (one other : Text) → place_of leads_to one ≡ place_of leads_to other
      → place_of leads_to (one ++ end) ≡ place_of leads_to (other ++ end)
  ends_alike one other same = place_end one
      ∙ (ap (λ (parts : Text × Text). (parts.0, parts.1 ++ end)) same ∙ sym (place_end other))

  pub begin_alike : (one other : Text)
      → place_of leads_to (one ++ end) ≡ place_of leads_to (other ++ end)
      → place_of leads_to one ≡ place_of leads_to other
  begin_alike one other same =
      let both = sym (place_end one) ∙ (same ∙ place_end other) in
      let path = ap (λ (parts : Text × Text). parts.0) both in
      let file = append_cancel_right (place_of leads_to one).1 (place_of leads_to other).1 end
      (ap (λ (parts : Text × Text). parts.1) both) in
      λ i. (path i, file i)

  -- a name isn't of the place of that with it
  pub longer_place : (name : Text) → 0 < length end
      → place_of leads_to name ≡ place_of leads_to (name ++ end) → ⊥
  longer_place name some same =
      let file : (place_of leads_to name).1 ≡ (place_of leads_to name).1 ++ end
      = ap (λ (parts : Text × Text). parts.1) (same ∙ place_end name) in
      omega (arith, some, ap length file, length-append (place_of leads_to name).1 end)

  -- a name of such a place has the end
  pub has_end : (name other : Text) → place_of leads_to name ≡ place_of leads_to (other ++ end)
      → (begins : Text) × (name ≡ begins ++ end)
  has_end name other same =
      let file : (split_name name).1 ≡ (split_name other).1 ++ end
      = ap (λ (parts : Text × Text). parts.1) (same ∙ place_end other) in (
        (split_name name).0 ++ (split_name other).1,
        sym (split_joined name) ∙ (ap (λ (text : Text). (split_name name).0 ++ text) file
            ∙ sym (append_assoc (split_name name).0 (split_name other).1 end)),
      )
