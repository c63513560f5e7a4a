-- The body of a Batch, item by item.
use Rattle.std.proofs.Common.{◌≡◌, ℕ, zero, suc, ◌+◌, ◌<◌, ◌≤◌, List, [], ◌∷◌, ◌++◌, length}
use Rattle.std.proofs.Common.{take, drop, ap, sym, ◌∙◌, arith, append_assoc, slice_index_or}
use Rattle.std.specs.Prelude.{flat_map}
use Rattle.std.specs.Int.{w8, w16}
use Rattle.std.proofs.lemmas.List.{drop_all, drop_more, get_or-drop, get_or-take, length-drop}
use Rattle.std.proofs.lemmas.List.{length-take-le, append-nil}
use Rattle.byte_formats.specs.Types.{Text}
use Rattle.entry_list.specs.Items.{ItemLists}
use Rattle.issuance_log.specs.Records.{HaveShortItems, IsShort, item_text}
use Rattle.tls_wire.specs.Encoding.{number, vector}
use Rattle.mirror_core.specs.Records.{mirror_batch_record, mirror_batch_tag}
use Rattle.mirror_core.specs.Refusals.{pairs_of}
use Rattle.mirror_core.proofs.Differing.{few_pairs, pair_at}

module _ (items : ItemLists) (from count : ℕ) (within : from + count ≤ length (pairs_of items))
  where
    -- so many from a number on
    pub count_is : length (take count (drop from (pairs_of items))) ≡ count
    count_is =
        let left = length-drop from (pairs_of items) in
        length-take-le count (drop from (pairs_of items)) (omega (arith, within, left))

    pub there_is : (done : ℕ) → done < count → from + done < length items.entries
    there_is done there = omega (arith, within, there, few_pairs items)

    pub item_is : (done : ℕ) (entry key : Text) → done < count
        → entry ≡ slice_index_or items.entries (from + done) []
        → key ≡ slice_index_or items.keys (from + done) []
        → (entry, key) ≡ slice_index_or (take count (drop from (pairs_of items))) done ([], [])
    item_is done entry key there one two =
        ap (λ (t : Text). (t, key)) one
        ∙ ap (λ (t : Text). (slice_index_or items.entries (from + done) [], t)) two
        ∙ sym (get_or-take count (drop from (pairs_of items)) done ([], []) there
        ∙ get_or-drop from (pairs_of items) done ([], [])
        ∙ pair_at items (from + done) (omega (arith, within, there)))

pub put_first : (items : List (Text × Text)) (count : ℕ) (start first second : Text)
    → start ≡ [] → first ≡ start ++ number w8 mirror_batch_tag
    → second ≡ first ++ number w16 count → length items ≡ count
    → second ++ flat_map item_text (drop 0 items) ≡ mirror_batch_record items
unfolding mirror_batch_record
put_first items count start first second none one two size =
    ap (λ (t : Text). t ++ flat_map item_text items)
    (two ∙ ap (λ (t : Text). t ++ number w16 count)
    (one ∙ ap (λ (t : Text). t ++ number w8 mirror_batch_tag) none))
    ∙ ap (λ (n : ℕ). (number w8 mirror_batch_tag ++ number w16 n) ++ flat_map item_text items)
    (sym size)
    ∙ append_assoc (number w8 mirror_batch_tag) (number w16 (length items))
    (flat_map item_text items)

pub put_on : (items : List (Text × Text)) (done : ℕ) (body first second entry key : Text)
    → done < length items → (entry, key) ≡ slice_index_or items done ([], [])
    → first ≡ body ++ vector w16 entry → second ≡ first ++ vector w16 key
    → body ++ flat_map item_text (drop done items) ≡ mirror_batch_record items
    → second ++ flat_map item_text (drop (done + 1) items) ≡ mirror_batch_record items
put_on items done body first second entry key there is one two so_far =
    let rest = flat_map item_text (drop (done + 1) items) in
    let next : drop done items ≡ (entry, key) ∷ drop (done + 1) items =
    drop_more items done ([], []) there
    ∙ ap (λ (z : Text × Text). z ∷ drop (done + 1) items) (sym is) in
    ap (λ (t : Text). t ++ rest) (two ∙ ap (λ (t : Text). t ++ vector w16 key) one
    ∙ append_assoc body (vector w16 entry) (vector w16 key))
    ∙ append_assoc body (vector w16 entry ++ vector w16 key) rest
    ∙ sym (ap (λ (l : List (Text × Text)). body ++ flat_map item_text l) next)
    ∙ so_far

pub put_all : (items : List (Text × Text)) (done : ℕ) (body : Text) → length items ≤ done
    → body ++ flat_map item_text (drop done items) ≡ mirror_batch_record items
    → body ≡ mirror_batch_record items
put_all items done body past so_far =
    sym (append-nil body)
    ∙ sym (ap (λ (l : List (Text × Text)). body ++ flat_map item_text l) (drop_all done items past))
    ∙ so_far

pub short_at : (items : List (Text × Text)) (done : ℕ) (entry key : Text) → HaveShortItems items
    → done < length items → (entry, key) ≡ slice_index_or items done ([], [])
    → IsShort entry × IsShort key
short_at [] done entry key short there is = absurd (omega (arith, there))
short_at (x ∷ items) zero entry key short there is =
    let one = ap (λ (y : Text × Text). length y.0) is in
    let two = ap (λ (y : Text × Text). length y.1) is in
    (omega (arith, one, short.0.0), omega (arith, two, short.0.1))
short_at (x ∷ items) (suc done) entry key short there is =
    short_at items done entry key short.1 (omega (arith, there)) is
