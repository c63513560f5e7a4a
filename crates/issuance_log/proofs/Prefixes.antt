-- The durable records are a prefix of those in the bytes of a journal's disk.
use Rattle.std.proofs.Common.{◌≡◌, ℕ, ◌+◌, List, [], ◌∷◌, ◌++◌, length, Option, Some, None, IfSome}
use Rattle.std.proofs.Common.{option_map, Result, append_assoc, refl, ap, sym, subst, ◌∙◌}
use Rattle.std.specs.Prelude.{OnOk}
use Rattle.std.proofs.lemmas.Result.{on_ok_weaker}
use Rattle.byte_formats.specs.Types.{Text}
use Rattle.journal_core.specs.Ends.{AreDurable, durable_of}
use Rattle.journal_core.specs.Format.{AreRecordsAt, IsClosedAt, Represents, following, records_of}
use Rattle.journal_core.proofs.Records.{body_found}
use Rattle.issuance_log.specs.ItemOffsets.{IsAtOffset}

-- Of two lists of records in the same bytes, the one that a closed commit byte follows begins with
-- the other.
prefix_of : (bytes : Text) (place : ℕ) (list all : List Text) → AreRecordsAt bytes place list
    → AreRecordsAt bytes place all → IsClosedAt bytes (following place all)
    → (rest : List Text) × (all ≡ list ++ rest)
prefix_of bytes place [] all are others closed = (all, refl)
prefix_of bytes place (body ∷ bodies) [] are others closed =
    absurd (are.0.open_commit_byte closed.shut)
prefix_of bytes place (body ∷ bodies) (other ∷ others) are stand closed =
    let same : other ≡ body =
    sym (body_found bytes place other stand.0) ∙ body_found bytes place body are.0 in
    let more = prefix_of bytes (place + 5 + length other) bodies others
    (subst (λ (b : Text). AreRecordsAt bytes (place + 5 + length b) bodies) (sym same) are.1)
    stand.1 closed in (
      more.0,
      ap (λ (b : Text). b ∷ others) same ∙ ap (λ (l : List Text). body ∷ l) more.1,
    )

-- the item at an offset of the prefix is at this offset of the whole list
placed_prefix : (list all rest : List Text) (place : ℕ) (item : Text × Text) → all ≡ list ++ rest
    → IsAtOffset list place item → IsAtOffset all place item
placed_prefix list all rest place item is at = record {
  prefix = at.prefix;
  body = at.body;
  back = at.back ++ rest;
  inside = at.inside;
  later = at.later;
  split = is ∙ ap (λ (l : List Text). l ++ rest) at.split
      ∙ append_assoc at.prefix (at.body ∷ at.back) rest;
  offset_is = at.offset_is;
  is = at.is;
}

-- So what is read of all records in the bytes is read of the durable ones.
read_prefix : (contents : Option Text) (end place : ℕ) (wanted : Text × Text)
    → ((b : Text) → contents ≡ Some b → Represents b (records_of b))
    → ((b : Text) → contents ≡ Some b → AreDurable end b)
    → IfSome (option_map records_of contents) (λ list. (item : Text × Text)
    → IsAtOffset list place item → item ≡ wanted)
    → IfSome (option_map (durable_of end) contents) (λ list. (item : Text × Text)
    → IsAtOffset list place item → item ≡ wanted)
read_prefix None end place wanted stands durable read = tt
read_prefix (Some b) end place wanted stands durable read = λ item at.
    let whole = stands b refl in
    let more = prefix_of b 16 (durable_of end b) (records_of b) (durable b refl).there whole.holds
    whole.ends in
    read item (placed_prefix (durable_of end b) (records_of b) more.0 place item more.1 at)

pub read_durable : {E : Type 0} (result : Result (Unit {0}) E) (contents : Option Text)
    (end place : ℕ) (wanted : Text × Text)
    → ((b : Text) → contents ≡ Some b → Represents b (records_of b))
    → ((b : Text) → contents ≡ Some b → AreDurable end b)
    → OnOk result (IfSome (option_map records_of contents) (λ list. (item : Text × Text)
    → IsAtOffset list place item → item ≡ wanted))
    → OnOk result (IfSome (option_map (durable_of end) contents) (λ list. (item : Text × Text)
    → IsAtOffset list place item → item ≡ wanted))
read_durable result contents end place wanted stands durable read =
    on_ok_weaker result (read_prefix contents end place wanted stands durable) read
