-- Bodies of records that are read back from a journal, and the items in them.
use Rattle.std.proofs.Common.{◌≡◌, ℕ, suc, ◌+◌, ◌<◌, ◌≤◌, List, [], ◌∷◌, ◌++◌, length, take, drop}
use Rattle.std.proofs.Common.{Option, Some, None, IfSome, option_map, refl, ap, sym, subst, ◌∙◌}
use Rattle.std.proofs.Common.{arith, append_assoc, slice_index_or}
use Rattle.std.proofs.lemmas.List.{take-append-le, take_all}
use Rattle.byte_formats.specs.Offsets.{IsBytes}
use Rattle.byte_formats.specs.Types.{Text}
use Rattle.issuance_log.specs.Batches.{leading_item, leading_items}
use Rattle.journal_core.specs.Ends.{AreDurable, durable_of}
use Rattle.journal_core.specs.Format.{AreRecordsAt, IsClosedAt, Represents, following, records_of}
use Rattle.journal_core.specs.Words.{HasSize, HoldsBody}
use Rattle.journal_core.proofs.Records.{body_found}
use Rattle.tiled_items.specs.Walk.{IsRecordBodyAt}
use Rattle.issuance_log.proofs.Leading.{begins, leading_none, leading_on}

-- ---- a body, by its length and its bytes

body_is : (place size : ℕ) (out : Text) (list : List Text) → HasSize (place + 1) size list
    → HoldsBody (place + 5) out list → length out ≡ size → IsRecordBodyAt place out list
body_is place size out list sized holds long prefix body back split place_is =
    let same = (sized prefix body back split (omega (arith, place_is))).0 in
    let count : length out ≡ length body = long ∙ same in
    holds prefix body back 0 split (omega (arith, place_is)) (omega (arith, count))
    ∙ take_all (length out) body (omega (arith, count))

pub body_back : (place size : ℕ) (out items : Text) (o mid : Option (List Text)) (len : ℕ)
    → IfSome o (HasSize (place + 1) size) → mid ≡ o → IfSome mid (HoldsBody (place + 5) out)
    → length out ≡ size → length items ≡ size → len ≡ size
    → IfSome o (IsRecordBodyAt place (take len (out ++ drop (length out) items)))
body_back place size out items o mid len sized same holds of_out of_items of_len =
    each o sized (subst (λ p. IfSome p (HoldsBody (place + 5) out)) same holds)
  where
    whole : out ≡ take len (out ++ drop (length out) items)
    whole =
        sym (take-append-le len out (drop (length out) items) (omega arith)
        ∙ take_all len out (omega arith))

    each : (p : Option (List Text)) → IfSome p (HasSize (place + 1) size)
        → IfSome p (HoldsBody (place + 5) out)
        → IfSome p (IsRecordBodyAt place (take len (out ++ drop (length out) items)))
    each None first second = tt
    each (Some list) first second =
        subst (λ (t : Text). IsRecordBodyAt place t list) whole
        (body_is place size out list first second of_out)

-- ---- of the durable records, which are a prefix of those in the bytes

-- Of two lists of records in the same bytes, the one that a closed commit byte follows begins with
-- the other.
prefix_of : (bytes : Text) (place : ℕ) (list all : List Text) → AreRecordsAt bytes place list
    → AreRecordsAt bytes place all → IsClosedAt bytes (following place all)
    → (rest : List Text) × (all ≡ list ++ rest)
prefix_of bytes place [] all are others closed = (all, refl)
prefix_of bytes place (body ∷ bodies) [] are others closed =
    absurd (are.0.open_commit_byte closed.shut)
prefix_of bytes place (body ∷ bodies) (other ∷ others) are stand closed =
    let same : other ≡ body =
    sym (body_found bytes place other stand.0) ∙ body_found bytes place body are.0 in
    let more = prefix_of bytes (place + 5 + length other) bodies others
    (subst (λ (b : Text). AreRecordsAt bytes (place + 5 + length b) bodies) (sym same) are.1)
    stand.1 closed in (
      more.0,
      ap (λ (b : Text). b ∷ others) same ∙ ap (λ (l : List Text). body ∷ l) more.1,
    )

pub body_durable : (contents : Option Text) (end place : ℕ) (read : Text)
    → ((b : Text) → contents ≡ Some b → Represents b (records_of b))
    → ((b : Text) → contents ≡ Some b → AreDurable end b)
    → IfSome (option_map records_of contents) (IsRecordBodyAt place read)
    → IfSome (option_map (durable_of end) contents) (IsRecordBodyAt place read)
body_durable None end place read stands durable is = tt
body_durable (Some b) end place read stands durable is = λ prefix body back split place_is.
    let whole = stands b refl in
    let more = prefix_of b 16 (durable_of end b) (records_of b) (durable b refl).there whole.holds
    whole.ends in
    is prefix body (back ++ more.0)
    (more.1 ∙ ap (λ (l : List Text). l ++ more.0) split ∙ append_assoc prefix (body ∷ back) more.0)
    place_is

-- the durable records stay where the contents and the end do
pub durable_stays : (contents later : Option Text) (end end' : ℕ) → later ≡ contents
    → end' ≡ end → option_map (durable_of end') later ≡ option_map (durable_of end) contents
durable_stays contents later end end' same ends =
    ap (option_map (durable_of end')) same
    ∙ ap (λ (n : ℕ). option_map (durable_of n) contents) ends

-- an item by its number, of which these are left
pub record IsLeft (items rest : Text) (number left : ℕ) : Type 0 where
  pub bytes : IsBytes rest
  pub same : slice_index_or (leading_items rest) left ([], [])
      ≡ slice_index_or (leading_items items) number ([], [])
  pub counted : number + length (leading_items rest) ≡ left + length (leading_items items)

later_is : (x : Text × Text) (items : List (Text × Text)) (left next : ℕ) → left ≡ next + 1
    → slice_index_or (x ∷ items) left ([], []) ≡ slice_index_or items next ([], [])
later_is x items left next is =
    let one : left ≡ suc next = omega (arith, is) in
    ap (λ (n : ℕ). slice_index_or (x ∷ items) n ([], [])) one

module _ (items rest : Text) (number left : ℕ) (so_far : IsLeft items rest number left) where
  module _ (x : Text × Text) (later : Text) (is : leading_item rest ≡ Some (x, later)) where
    on : leading_items rest ≡ x ∷ leading_items later
    on = leading_on rest x later so_far.bytes is

    pub left_on : (next : ℕ) → left ≡ next + 1 → IsLeft items later number next
    left_on next less =
        let more = ap length on in
        record {
          bytes = (begins rest x later so_far.bytes is).left;
          same = sym (ap (λ (l : List (Text × Text)). slice_index_or l left ([], [])) on
              ∙ later_is x (leading_items later) left next less) ∙ so_far.same;
          counted = omega (arith, so_far.counted, more, less);
        }

    pub left_here : left ≡ 0 → x ≡ slice_index_or (leading_items items) number ([], [])
    left_here none =
        sym (ap (λ (l : List (Text × Text)). slice_index_or l left ([], [])) on
        ∙ ap (λ (n : ℕ). slice_index_or (x ∷ leading_items later) n ([], [])) none) ∙ so_far.same

    pub left_there : left ≡ 0 → number < length (leading_items items)
    left_there none = let more = ap length on in omega (arith, so_far.counted, more, none)

  pub left_none : leading_item rest ≡ None → length (leading_items items) ≤ number
  left_none none =
      let nothing = ap length (leading_none rest none) in omega (arith, so_far.counted, nothing)
