-- The items of a mirror as they go out, Batch by Batch.
use Rattle.std.proofs.Common.{◌≡◌, ◌⊎◌, inl, inr, ℕ, zero, suc, ◌+◌, ◌-◌, ◌<◌, ◌≤◌, List, [], ◌∷◌}
use Rattle.std.proofs.Common.{◌++◌, length, take, drop, Option, Some, None, IfSome, Result}
use Rattle.std.proofs.Common.{Err, refl, ap, sym, subst, ◌∙◌, arith, append_assoc, append-nil}
use Rattle.std.proofs.Common.{slice_index_or, option_map}
use Rattle.std.specs.Prelude.{flat_map}
use Rattle.std.specs.Option.{unwrap_or}
use Rattle.std.specs.Io.KnownBytes.{Appends}
use Rattle.std.proofs.KnownBytes.{Appends-nil, Appends-trans}
use Rattle.std.proofs.Math.Seq.{take-append_seam, take-nil}
use Rattle.std.proofs.lemmas.Grind.{flat_map-append}
use Rattle.std.proofs.lemmas.List.{drop_all, get_or-map, length-append, length-take-le}
use Rattle.std.proofs.lemmas.List.{take-append-drop, take_all, take_more}
use Rattle.byte_formats.specs.Offsets.{IsBytes}
use Rattle.byte_formats.specs.Types.{Hash, HashFunction, Text}
use Rattle.entry_list.specs.Items.{file_text, listed_text, lists_of}
use Rattle.entry_list.proofs.OwnKeys.{items_more}
use Rattle.issuance_log.specs.Batches.{leading_item, leading_items}
use Rattle.issuance_log.specs.Records.{item_text}
use Rattle.issuance_log.proofs.Fitting.{four_each}
use Rattle.journal_core.proofs.Copies.{prefix_following, prefix_of_prefix}
use Rattle.mtc_io.specs.Streams.{AppendsPrefix}
use Rattle.mirror_core.specs.Folds.{MirrorView, mirror_with}
use Rattle.mirror_core.specs.Kept.{IsMirrored}
use Rattle.mirror_core.specs.Places.{no_place, place_with, places_after, places_of_batches}
use Rattle.mirror_core.specs.Records.{all_mirrored, mirrored_in}
use Rattle.mirror_core.specs.Refusals.{IsNoMirrorAnswer}
use Rattle.mirror_core.specs.Written.{ItemsWentOut, mirrored_file}
use Rattle.mirror_core.specs.declared.error.MirrorError.TheVariants as mirror_error
use Rattle.mirror_core.specs.declared.error.MirrorError.{MirrorError}
use Rattle.mtc_io.specs.declared.fault.Failed.{Failed}
use Rattle.mirror_core.specs.declared.kept.BatchPlace.{BatchPlace}
use Rattle.mirror_core.proofs.Differing.{as_many, batch_with, batches_in, joined, joined_are}
use Rattle.issuance_log.proofs.Leading.{begins, leading_none, leading_on}

abbrev texts : List (Text × Text) → Text
texts items = flat_map item_text items

-- ---- the first items that begin bytes

-- The bytes begin with the texts of these items. What is left begins with those after them, and as
-- many as are left may follow.
pub record IsPassed (list rest : Text) (count left : ℕ) : Type 0 where
  pub passed : List (Text × Text)
  pub bytes : IsBytes rest
  pub parts : list ≡ flat_map item_text passed ++ rest
  pub items : leading_items list ≡ passed ++ leading_items rest
  pub counted : length passed + left ≡ count

pub none_passed : (list : Text) (count : ℕ) → IsBytes list → IsPassed list list count count
none_passed list count bytes = record {
  passed = [];
  bytes = bytes;
  parts = refl;
  items = refl;
  counted = omega arith;
}

module _ (list rest : Text) (count left : ℕ) (so_far : IsPassed list rest count left) where
  pub one_passed : (x : Text × Text) (later : Text) → leading_item rest ≡ Some (x, later)
      → (next : ℕ) → left ≡ next + 1 → IsPassed list later count next
  one_passed x later is next less =
      let one = begins rest x later so_far.bytes is in
      let on = leading_on rest x later so_far.bytes is in
      let passed = so_far.passed in
      let sum = length-append passed (x ∷ []) in
      let all : texts (passed ++ x ∷ []) ≡ texts passed ++ item_text x =
      flat_map-append item_text passed (x ∷ [])
      ∙ ap (λ (t : Text). texts passed ++ t) (append-nil (item_text x)) in
      record {
        passed = passed ++ x ∷ [];
        bytes = one.left;
        parts = so_far.parts ∙ ap (λ (t : Text). texts passed ++ t) one.parts
            ∙ sym (ap (λ (t : Text). t ++ later) all ∙ append_assoc (texts passed) (item_text x)
            later);
        items = so_far.items ∙ ap (λ (l : List (Text × Text)). passed ++ l) on
            ∙ sym (append_assoc passed (x ∷ []) (leading_items later));
        counted = omega (arith, sum, so_far.counted, less);
      }

  -- there are no more, or none is left to follow
  pub all_passed : (leading_item rest ≡ None) ⊎ (left ≡ 0)
      → take (length list - length rest) list ≡ texts (take count (leading_items list))
  all_passed ends =
      let passed = so_far.passed in
      let long = ap length so_far.parts ∙ length-append (texts passed) rest in
      let size : length list - length rest ≡ length (texts passed) = omega (arith, long) in
      ap (λ (n : ℕ). take n list) size
      ∙ ap (λ (t : Text). take (length (texts passed)) t) so_far.parts
      ∙ take-append_seam (texts passed) rest
      ∙ ap texts (sym (same ends))
    where
      same : (leading_item rest ≡ None) ⊎ (left ≡ 0)
          → take count (leading_items list) ≡ so_far.passed
      same (inl none) =
          ap (take count) (so_far.items
          ∙ ap (λ (l : List (Text × Text)). so_far.passed ++ l) (leading_none rest none)
          ∙ append-nil so_far.passed)
          ∙ take_all count so_far.passed (omega (arith, so_far.counted))
      same (inr none) =
          let size : count ≡ length so_far.passed = omega (arith, so_far.counted, none) in
          ap (take count) so_far.items
          ∙ ap (λ (n : ℕ). take n (so_far.passed ++ leading_items rest)) size
          ∙ take-append_seam so_far.passed (leading_items rest)

-- ---- the Batches up to a number

-- the text of so many items, as far as they are in the Batches before a number
abbrev pub text_before : ℕ → ℕ → List Text → Text
text_before size i list = texts (take size (joined (take i (batches_in list))))

-- the number of the first item of a Batch
first_at : (place first : ℕ) (list : List Text) (i : ℕ)
    → i < length (places_after place first list)
    → (slice_index_or (places_after place first list) i no_place).first
    ≡ first + length (joined (take i (batches_in list)))
unfolding places_after
first_at place first [] i there = absurd (omega (arith, there))
first_at place first (body ∷ list) i there =
    by_body (mirrored_in body) i there
    (λ n j below. first_at (place + 5 + length body) n list j below)
  where
    later : ℕ → List BatchPlace
    later n = places_after (place + 5 + length body) n list

    Again : Type 0
    Again = (n j : ℕ) → j < length (later n) → (slice_index_or (later n) j no_place).first
        ≡ n + length (joined (take j (batches_in list)))

    by_body : (o : Option (List (Text × Text))) → (i : ℕ)
        → i < length (place_with place first o ++ later (first + length (unwrap_or o []))) → Again
        → (slice_index_or (place_with place first o ++ later (first + length (unwrap_or o []))) i
        no_place).first
        ≡ first + length (joined (take i (batch_with o ++ batches_in list)))
    by_body None i there again = let is = again (first + 0) i there in omega (arith, is)
    by_body (Some items) zero there again = omega arith
    by_body (Some items) (suc i) there again =
        let is = again (first + length items) i (omega (arith, there)) in
        let sum = length-append items (joined (take i (batches_in list))) in
        omega (arith, is, sum)

-- the first of two lists, one after the other
take_both : (n : ℕ) (xs ys : List (Text × Text))
    → take n (xs ++ ys) ≡ take n xs ++ take (n - length xs) ys
take_both n [] ys =
    let whole : n - 0 ≡ n = omega arith in
    sym (ap (λ (l : List (Text × Text)). l ++ take (n - 0) ys) (take-nil n)
    ∙ ap (λ (m : ℕ). take m ys) whole)
take_both zero (x ∷ xs) ys =
    let none : 0 - suc (length xs) ≡ 0 = omega arith in
    sym (ap (λ (m : ℕ). take m ys) none)
take_both (suc n) (x ∷ xs) ys =
    let same : n - length xs ≡ suc n - suc (length xs) = omega arith in
    ap (λ (l : List (Text × Text)). x ∷ l) (take_both n xs ys)
    ∙ ap (λ (m : ℕ). x ∷ (take n xs ++ take m ys)) same

some_text : (items : List (Text × Text)) → 1 ≤ length items → 0 < length (texts items)
some_text items some = let each = four_each items in omega (arith, each, some)

module _ (size : ℕ) (list : List Text) (i : ℕ) where
  abbrev before : List (Text × Text)
  before = joined (take i (batches_in list))

  abbrev after : List (Text × Text)
  after = joined (drop i (batches_in list))

  abbrev total : Text
  total = texts (take size (all_mirrored list))

  all_are : all_mirrored list ≡ before ++ after
  all_are =
      sym (joined_are list)
      ∙ ap joined (sym (take-append-drop i (batches_in list)))
      ∙ flat_map-append (λ (items : List (Text × Text)). items) (take i (batches_in list))
      (drop i (batches_in list))

  -- what is to follow
  to_follow : total ≡ text_before size i list ++ texts (take (size - length before) after)
  to_follow =
      ap (λ (l : List (Text × Text)). texts (take size l)) all_are
      ∙ ap texts (take_both size before after)
      ∙ flat_map-append item_text (take size before) (take (size - length before) after)

  -- nothing
  none_follows : take (size - length before) after ≡ [] → text_before size i list ≡ total
  none_follows none =
      sym (to_follow ∙ ap (λ (l : List (Text × Text)). text_before size i list ++ texts l) none
      ∙ append-nil (text_before size i list))

  -- something
  some_follows : length before < size → size ≤ length (all_mirrored list)
      → 0 < length (texts (take (size - length before) after))
  some_follows less few =
      let count = ap length all_are ∙ length-append before after in
      let enough : size - length before ≤ length after = omega (arith, count, few) in
      let long = length-take-le (size - length before) after enough in
      some_text (take (size - length before) after) (omega (arith, long, less))

  -- the text of the items of the next Batch
  text_more : (xs : List (Text × Text)) → i < length (batches_in list)
      → xs ≡ slice_index_or (batches_in list) i [] → (n : ℕ) → n ≡ length before → n ≤ size
      → text_before size (i + 1) list ≡ text_before size i list ++ texts (take (size - n) xs)
  text_more xs there xs_are n is le =
      let one : joined (take (i + 1) (batches_in list)) ≡ before ++ xs =
      ap joined (take_more (batches_in list) i [] there)
      ∙ flat_map-append (λ (items : List (Text × Text)). items) (take i (batches_in list))
      (slice_index_or (batches_in list) i [] ∷ [])
      ∙ ap (λ (l : List (Text × Text)). before ++ l)
      (append-nil (slice_index_or (batches_in list) i []) ∙ sym xs_are) in
      ap (λ (l : List (Text × Text)). texts (take size l)) one
      ∙ ap texts (take_both size before xs)
      ∙ flat_map-append item_text (take size before) (take (size - length before) xs)
      ∙ ap (λ (m : ℕ). text_before size i list ++ texts (take (size - m) xs)) (sym is)

-- ---- by the records, where they are known

-- what holds of the records, where the Batches are at these places and have so many items
abbrev pub OfBatches : Option (List Text) → List BatchPlace → ℕ → (List Text → Type 0) → Type 0
OfBatches o places size P =
    IfSome o (λ list. places ≡ places_of_batches list → size ≤ length (all_mirrored list) → P list)

-- The text of so many items went out, as far as they are in the Batches before a number.
abbrev pub HaveGone : Option Text → Option Text → ℕ → ℕ → List Text → Type 0
HaveGone before now size i list = Appends before now (text_before size i list)

-- that of all of them
abbrev pub AllHaveGone : Option Text → Option Text → ℕ → List Text → Type 0
AllHaveGone before now size list = Appends before now (texts (take size (all_mirrored list)))

from_both : (o : Option (List Text)) (places : List BatchPlace) (size : ℕ)
    (P Q R : List Text → Type 0) → OfBatches o places size P → OfBatches o places size Q
    → ((list : List Text) → places ≡ places_of_batches list → size ≤ length (all_mirrored list)
    → P list → Q list → R list) → OfBatches o places size R
from_both None places size P Q R one two holds = tt
from_both (Some list) places size P Q R one two holds =
    λ same few. holds list same few (one same few) (two same few)

pub none_gone : (o : Option (List Text)) (places : List BatchPlace) (size : ℕ)
    (taken : Option Text) → OfBatches o places size (HaveGone taken taken size 0)
none_gone None places size taken = tt
none_gone (Some list) places size taken = λ same few.
    subst (Appends taken taken) (sym (ap texts (take-nil size))) (Appends-nil taken)

module _ (o : Option (List Text)) (places : List BatchPlace) (size i : ℕ) (p : BatchPlace)
    (before now : Option Text)
    (so_far : OfBatches o places size (HaveGone before now size i)) where
  -- the number of the first item of the Batch
  abbrev IsFirst : List Text → Type 0
  IsFirst list = p.first ≡ length (joined (take i (batches_in list)))

  -- after the last Batch
  pub all_gone : length places ≤ i → OfBatches o places size (AllHaveGone before now size)
  all_gone past = from_both o places size (HaveGone before now size i)
      (HaveGone before now size i) (AllHaveGone before now size) so_far so_far
      (λ list same few gone again.
      let count = ap (λ (l : List BatchPlace). length l) same in
      let many = as_many 16 0 list in
      let none : take (size - length (joined (take i (batches_in list))))
      (joined (drop i (batches_in list))) ≡ [] =
      ap (λ (l : List (List (Text × Text))).
      take (size - length (joined (take i (batches_in list)))) (joined l))
      (drop_all i (batches_in list) (omega (arith, count, many, past)))
      ∙ take-nil (size - length (joined (take i (batches_in list)))) in
      subst (Appends before now) (none_follows size list i none) gone)

  module _ (there : i < length places) (p_is : p ≡ slice_index_or places i no_place) where
    first_is : OfBatches o places size IsFirst
    first_is = go o
      where
        go : (q : Option (List Text)) → OfBatches q places size IsFirst
        go None = tt
        go (Some list) = λ same few.
            let count = ap (λ (l : List BatchPlace). length l) same in
            let at = ap (λ (q : BatchPlace). q.first)
            (p_is ∙ ap (λ (l : List BatchPlace). slice_index_or l i no_place) same) in
            let first = first_at 16 0 list i (omega (arith, there, count)) in
            omega (arith, at, first)

    -- before a Batch whose items are not among these
    pub enough_gone : size ≤ p.first → OfBatches o places size (AllHaveGone before now size)
    enough_gone past = from_both o places size (HaveGone before now size i) IsFirst
        (AllHaveGone before now size) so_far first_is
        (λ list same few gone is.
        let nothing : size - length (joined (take i (batches_in list))) ≡ 0 =
        omega (arith, is, past) in
        subst (Appends before now) (none_follows size list i
        (ap (λ (n : ℕ). take n (joined (drop i (batches_in list)))) nothing)) gone)

    module _ (less : p.first < size) where
      -- some are missing
      pub some_gone : OfBatches o places size (λ list. (prefix : AppendsPrefix before now
          (texts (take size (all_mirrored list))))
          × (prefix.0 < length (texts (take size (all_mirrored list)))))
      some_gone = from_both o places size (HaveGone before now size i) IsFirst
          (λ list. (prefix : AppendsPrefix before now (texts (take size (all_mirrored list))))
          × (prefix.0 < length (texts (take size (all_mirrored list))))) so_far first_is
          (λ list same few gone is.
          let first = text_before size i list in
          let rest = texts (take (size - length (joined (take i (batches_in list))))
          (joined (drop i (batches_in list)))) in
          let whole = to_follow size list i in
          let some = some_follows size list i (omega (arith, is, less)) few in
          let long = ap length whole ∙ length-append first rest in (
            (
              length first,
              subst (Appends before now) (sym (ap (take (length first)) whole
                  ∙ take-append_seam first rest)) gone,
            ),
            omega (arith, long, some),
          ))

      module _ (xs : List (Text × Text)) (then : Option Text) (batch : IfSome o (λ list.
          places ≡ places_of_batches list → (i < length (batches_in list))
          × (xs ≡ slice_index_or (batches_in list) i []))) where
        abbrev IsBatch : List Text → Type 0
        IsBatch list = (i < length (batches_in list))
            × (xs ≡ slice_index_or (batches_in list) i [])

        next_is : OfBatches o places size
            (λ list. text_before size (i + 1) list
            ≡ text_before size i list ++ texts (take (size - p.first) xs))
        next_is = go o batch first_is
          where
            go : (q : Option (List Text))
                → IfSome q (λ list. places ≡ places_of_batches list → IsBatch list)
                → OfBatches q places size IsFirst
                → OfBatches q places size
                (λ list. text_before size (i + 1) list
                ≡ text_before size i list ++ texts (take (size - p.first) xs))
            go None at is = tt
            go (Some list) at is = λ same few.
                let here = at same in
                text_more size list i xs here.0 here.1 p.first (is same few)
                (omega (arith, less))

        -- those of one Batch more
        pub more_gone : Appends now then (texts (take (size - p.first) xs))
            → OfBatches o places size (HaveGone before then size (i + 1))
        more_gone one = from_both o places size (HaveGone before now size i) _
            (HaveGone before then size (i + 1)) so_far next_is
            (λ list same few gone next. subst (Appends before then) (sym next)
            (Appends-trans before now then (text_before size i list)
            (texts (take (size - p.first) xs)) gone one))

        -- a part of them
        pub part_gone : AppendsPrefix now then (texts (take (size - p.first) xs))
            → OfBatches o places size (λ list. AppendsPrefix before then
            (texts (take size (all_mirrored list)))
            × (0 < length (texts (take size (all_mirrored list)))))
        part_gone one = from_both o places size _ _
            (λ list. AppendsPrefix before then (texts (take size (all_mirrored list)))
            × (0 < length (texts (take size (all_mirrored list))))) some_gone
            (from_both o places size (HaveGone before now size i) _
            (λ list. AppendsPrefix before then (text_before size (i + 1) list)) so_far next_is
            (λ list same few gone next. subst (AppendsPrefix before then) (sym next)
            (prefix_following before now then (text_before size i list)
            (texts (take (size - p.first) xs)) gone one)))
            (λ list same few short prefix. (
              subst (AppendsPrefix before then) (sym (to_follow size list (i + 1)))
                  (prefix_of_prefix before then (text_before size (i + 1) list)
                  (texts (take (size - length (joined (take (i + 1) (batches_in list))))
                  (joined (drop (i + 1) (batches_in list))))) prefix),
              omega (arith, short.1),
            ))

-- ---- by the answer

module _ (o : Option (List Text)) (places : List BatchPlace) (size : ℕ)
    (before after : Option Text) (short : OfBatches o places size
    (λ list. (prefix : AppendsPrefix before after (texts (take size (all_mirrored list))))
    × (prefix.0 < length (texts (take size (all_mirrored list)))))) where
  -- the disk failed, or memory was refused
  pub not_read : (why : MirrorError) → IsNoMirrorAnswer why → OfBatches o places size
      (λ list. ItemsWentOut before after (texts (take size (all_mirrored list))) (Err why))
  not_read mirror_error.Failed is = short
  not_read mirror_error.Memory is = short
  not_read (mirror_error.Differs number) is = absurd is
  not_read mirror_error.NothingNew is = absurd is
  not_read (mirror_error.TooLarge number) is = absurd is
  not_read (mirror_error.Beyond number) is = absurd is
  not_read (mirror_error.Append why) is = absurd is

-- ---- the file of the first items

file_is : (items : List (Text × Text)) (n : ℕ) → n ≤ length items
    → file_text (lists_of items) n ≡ texts (take n items)
file_is items zero le = refl
file_is items (suc n) le =
    let next : suc n ≡ n + 1 = omega arith in
    let below : n < length items = omega (arith, le) in
    let x = slice_index_or items n ([], []) in
    let here : listed_text (lists_of items) n ≡ item_text x =
    rw (
      get_or-map (λ (y : Text × Text). y.0) items n ([], []) [] below,
      get_or-map (λ (y : Text × Text). y.1) items n ([], []) [] below,
    ) refl in
    ap (file_text (lists_of items)) next
    ∙ items_more (lists_of items) n
    ∙ ap (λ (t : Text). t ++ listed_text (lists_of items) n)
    (file_is items n (omega (arith, le)))
    ∙ ap (λ (t : Text). texts (take n items) ++ t) here
    ∙ sym (ap (λ (m : ℕ). texts (take m items)) next
    ∙ ap texts (take_more items n ([], []) below)
    ∙ flat_map-append item_text (take n items) (x ∷ [])
    ∙ ap (λ (t : Text). texts (take n items) ++ t) (append-nil (item_text x)))

pub file_went : (h : HashFunction) (v : MirrorView) (places given : List BatchPlace)
    (leaves : Option (List Hash)) (o : Option (List Text)) → IfSome o (IsMirrored h v places leaves)
    → (size : ℕ) (before after : Option Text)
    (result : Result (Result (Unit {0}) Failed) MirrorError)
    → given ≡ places → size ≤ v.size
    → OfBatches o given size (λ list. ItemsWentOut before after
    (texts (take size (all_mirrored list))) result)
    → IfSome (option_map (mirror_with v) o)
    (λ s. ItemsWentOut before after (mirrored_file size s) result)
file_went h v places given leaves None kept size before after result same few went = tt
file_went h v places given leaves (Some list) kept size before after result same few went =
    subst (λ (t : Text). ItemsWentOut before after t result)
    (sym (file_is (all_mirrored list) size (omega (arith, kept.all, few))))
    (went (same ∙ kept.places_are) (omega (arith, kept.all, few)))
