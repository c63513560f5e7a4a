-- An entry that is read back from the journal.
use Rattle.std.proofs.Common.{◌≡◌, ℕ, ◌+◌, ◌<◌, ◌≤◌, true, false, List, [], ◌∷◌, ◌++◌}
use Rattle.std.proofs.Common.{length, take, drop}
use Rattle.std.proofs.Common.{slice_index_or, Option, Some, None, IfSome, option_map, Ok, Err, refl}
use Rattle.std.proofs.Common.{ap, subst, sym, ◌∙◌, arith, nat_lt}
use Rattle.std.specs.Prelude.{if◌then◌else◌, Bool, IfErr, OnOk, Result}
use Rattle.std.proofs.lemmas.Bool.{le-ltb, lt-ltb}
use Rattle.std.specs.Result.{IsErrAnd}
use Rattle.std.proofs.lemmas.List.{drop-drop, drop-take, get_or-map, get_or-take, length-take}
use Rattle.std.proofs.lemmas.List.{length-take-le, take-append-le, take-take, take_all, take_min}
use Rattle.std.proofs.lemmas.Option.{same_Some}
use Rattle.disk_core.specs.Disk.{part}
use Rattle.byte_formats.specs.Types.{Hash, HashFunction, Text}
use Rattle.byte_formats.specs.Offsets.{At, at}
use Rattle.byte_formats.proofs.Steps.{bind_ok, ok_is}
use Rattle.byte_formats.proofs.Values.{err_is}
use Rattle.tls_wire.specs.Reading.{vector_at}
use Rattle.tls_wire.specs.declared.cursor.Short.{Short}
use Rattle.disk_core.specs.declared.disk.Disk.{Ghosts}
use Rattle.journal_core.specs.Format.{Represents, following, records_of}
use Rattle.journal_core.specs.Words.{HoldsBody}
use Rattle.journal_core.proofs.Steps.{read_body}
use Rattle.std.specs.Int.{w16, from_be_bytes}
use Rattle.issuance_log.specs.Batches.{item_and_rest, leading_item}
use Rattle.issuance_log.specs.Entries.{AgreesWithBody, IsNoAnswer}
use Rattle.issuance_log.specs.Folds.{LogState, LogView, null_entry}
use Rattle.issuance_log.specs.Items.{AreKept}
use Rattle.issuance_log.specs.ItemOffsets.{IsAtOffset, offsets_of}
use Rattle.issuance_log.specs.Records.{entry_at}
use Rattle.issuance_log.specs.Refusals.{GivesItem, item_at}
use Rattle.issuance_log.specs.Shown.{recorded_items, shown_with}
use Rattle.issuance_log.specs.declared.error.LogError.{LogError}
use Rattle.issuance_log.specs.declared.error.LogError.TheVariants.{NoSuchEntry}
use Rattle.issuance_log.specs.declared.error.LogError.TheVariants.{Failed}
use Rattle.issuance_log.specs.declared.error.LogError.TheVariants.{Memory}
use Rattle.issuance_log.proofs.After.{entries_of, keys_of}
use Rattle.issuance_log.proofs.Inside.{vector_read}
use Rattle.issuance_log.proofs.Shown.{shown_size}
use Rattle.issuance_log.proofs.Standing.{placed_of}

item_is : (s : LogState) (index : ℕ) (b : Bool) → nat_lt index (length s.entries) ≡ b
    → item_at s index
    ≡ (if b then Ok (slice_index_or s.entries index [], slice_index_or s.keys index [])
    else Err NoSuchEntry)
unfolding item_at
item_is s index b is = ap (λ (t : Bool). if t
    then Ok (slice_index_or s.entries index [], slice_index_or s.keys index [])
    else Err NoSuchEntry) is

there_is : (s : LogState) (index : ℕ) → index < length s.entries
    → item_at s index ≡ Ok (slice_index_or s.entries index [], slice_index_or s.keys index [])
there_is s index there = item_is s index true (lt-ltb index (length s.entries) there)

none_is : (s : LogState) (index : ℕ) → length s.entries ≤ index
    → item_at s index ≡ Err NoSuchEntry
none_is s index past = item_is s index false (le-ltb index (length s.entries) past)

-- the answers that say nothing of an item, at an index that has one
no_answer : (s : LogState) (index : ℕ) (why : LogError) (entry key : Text)
    → index < length s.entries → IsNoAnswer why → GivesItem (item_at s index) (Err why) entry key
no_answer s index Failed entry key there is = (
  λ not_memory not_failed. absurd (not_failed refl),
  λ none. let wrong = sym (there_is s index there) ∙ none in absurd cc,
)
no_answer s index Memory entry key there is = (
  λ not_memory not_failed. absurd (not_memory refl),
  λ none. let wrong = sym (there_is s index there) ∙ none in absurd cc,
)
no_answer s index other entry key there is = absurd is

-- what holds of the log that is shown
pub shown_of : (v : LogView) (P : LogState → Type 0) {K : List Text → Type 0}
    (o : Option (List Text)) → IfSome o K → ((list : List Text) → K list → P (shown_with v list))
    → IfSome (option_map (shown_with v) o) P
shown_of v P None kept holds = tt
shown_of v P (Some list) kept holds = holds list kept

module _ (h : HashFunction) (v : LogView) (offsets : List ℕ) (leaves : Option (List Hash))
    (o : Option (List Text)) (kept : IfSome o (AreKept h v offsets leaves)) where
  -- an index past the size
  pub gives_none : (index : ℕ) (entry key : Text) → v.size ≤ index
      → IfSome (option_map (shown_with v) o)
      (λ s. GivesItem (item_at s index) (Err NoSuchEntry) entry key)
  gives_none index entry key past = shown_of v
      (λ s. GivesItem (item_at s index) (Err NoSuchEntry) entry key) o kept (λ list is.
      let none = none_is (shown_with v list) index
      (subst (λ (n : ℕ). n ≤ index) (sym (shown_size v list is.all)) past) in
      (λ not_memory not_failed. none, λ is. refl))

  -- the null entry
  pub gives_first : (index : ℕ) (entry key : Text) → index ≡ 0 → entry ≡ null_entry → key ≡ []
      → IfSome (option_map (shown_with v) o)
      (λ s. GivesItem (item_at s index) (Ok tt) entry key)
  gives_first index entry key first one two = shown_of v
      (λ s. GivesItem (item_at s index) (Ok tt) entry key) o kept (λ list is.
      let s = shown_with v list in
      ap (item_at s) first ∙ there_is s 0 (omega (arith, is.sound.numbers.some))
      ∙ ap (λ (e : Text). Ok (e, slice_index_or s.keys 0 [])) (is.sound.first_entry ∙ sym one)
      ∙ ap (λ (k : Text). Ok (entry, k)) (is.sound.first_key ∙ sym two))

  -- memory was refused, or the disk failed
  gives_nothing : (index : ℕ) (why : LogError) (entry key : Text) → index < v.size
      → IsNoAnswer why → IfSome (option_map (shown_with v) o)
      (λ s. GivesItem (item_at s index) (Err why) entry key)
  gives_nothing index why entry key there none = shown_of v
      (λ s. GivesItem (item_at s index) (Err why) entry key) o kept (λ list is.
      no_answer (shown_with v list) index why entry key
      (subst (λ (n : ℕ). index < n) (sym (shown_size v list is.all)) there) none)

  pub gives_error : (index : ℕ) (result : Result (Unit {0}) LogError) (why : LogError)
      (entry key : Text) → IsErrAnd result (λ e. e ≡ why) → index < v.size → IsNoAnswer why
      → IfSome (option_map (shown_with v) o) (λ s. GivesItem (item_at s index) result entry key)
  gives_error index result why entry key is there none =
      subst (λ (r : Result (Unit {0}) LogError). IfSome (option_map (shown_with v) o)
      (λ s. GivesItem (item_at s index) r entry key)) (err_is result why is)
      (gives_nothing index why entry key there none)

  -- the item of the record at the offset
  item_read : (index place : ℕ) (list : List Text) (entry key : Text) → 1 ≤ index
      → index < v.size → place ≡ slice_index_or offsets index 0 → AreKept h v offsets leaves list
      → ((item : Text × Text) → IsAtOffset list place item → item ≡ (entry, key))
      → item_at (shown_with v list) index ≡ Ok (entry, key)
  item_read index place [] entry key some there is kept gives = absurd (omega (arith, kept.all))
  item_read index place (first ∷ bodies) entry key some there is kept gives =
      let list : List Text = first ∷ bodies in
      let items = recorded_items list in
      let all = kept.all in
      let item = slice_index_or items index ([], []) in
      let offset_is : place ≡ slice_index_or (offsets_of list) index 0 =
      is ∙ ap (λ (l : List ℕ). slice_index_or l index 0) kept.offsets_are in
      let same : item ≡ (entry, key) = gives item
      (subst (λ (n : ℕ). IsAtOffset list n item) (sym offset_is)
      (placed_of first bodies index some (omega arith))) in
      let entry_is : slice_index_or (take v.size (entries_of items)) index [] ≡ entry =
      get_or-take v.size (entries_of items) index [] there
      ∙ get_or-map (λ (x : Text × Text). x.0) items index ([], []) [] (omega arith)
      ∙ ap (λ (x : Text × Text). x.0) same in
      let key_is : slice_index_or (take v.size (keys_of items)) index [] ≡ key =
      get_or-take v.size (keys_of items) index [] there
      ∙ get_or-map (λ (x : Text × Text). x.1) items index ([], []) [] (omega arith)
      ∙ ap (λ (x : Text × Text). x.1) same in
      there_is (shown_with v list) index
      (subst (λ (n : ℕ). index < n) (sym (shown_size v list all)) there)
      ∙ ap (λ (e : Text). Ok (e, slice_index_or (take v.size (keys_of items)) index [])) entry_is
      ∙ ap (λ (x : Text). Ok (entry, x)) key_is

-- what was read, by the answer
pub gives_item : (h : HashFunction) (v : LogView) (offsets : List ℕ) (leaves : Option (List Hash))
    (o : Option (List Text)) → IfSome o (AreKept h v offsets leaves) → (index place : ℕ)
    (entry key : Text) → 1 ≤ index → index < v.size → place ≡ slice_index_or offsets index 0
    → (result : Result (Unit {0}) LogError) → IfErr result IsNoAnswer
    → OnOk result (IfSome o (λ list. (item : Text × Text)
    → IsAtOffset list place item → item ≡ (entry, key)))
    → IfSome (option_map (shown_with v) o) (λ s. GivesItem (item_at s index) result entry key)
gives_item h v offsets leaves None kept index place entry key some there is result none gives = tt
gives_item h v offsets leaves (Some list) kept index place entry key some there is (Ok done) none
    gives =
    item_read h v offsets leaves (Some list) kept index place list entry key some there is kept
    gives
gives_item h v offsets leaves (Some list) kept index place entry key some there is (Err why) none
    gives = gives_nothing h v offsets leaves (Some list) kept index why entry key there none

-- ---- what was read

each_count : (P : ℕ → List Text → Type 0) (o : Option (List Text)) → ((n : ℕ) → IfSome o (P n))
    → IfSome o (λ list. (n : ℕ) → P n list)
each_count P None holds = tt
each_count P (Some list) holds = holds

-- so many of the first bytes
first_read : (contents : Option Text) (place size count : ℕ) (read : Text) → length read ≡ size
    → IfSome contents (λ b. read ≡ part place size b)
    → IfSome contents (λ b. take count read ≡ part place (length (take count read)) b)
first_read None place size count read long is = tt
first_read (Some b) place size count read long is =
    let few = length-take count read in
    sym (take_min count read) ∙ ap (λ (n : ℕ). take n read) (sym few)
    ∙ ap (take (length (take count read))) is
    ∙ take-take (length (take count read)) size (drop place b) (omega (arith, few, long))

-- what was read, into the bytes that had been there
pub bytes_back : {D : Type 0} (g : Ghosts D) (disk : D) (place size len : ℕ) (out items : Text)
    → ((b : Text) → g.contents disk ≡ Some b → Represents b (records_of b))
    → length out ≡ size → length items ≡ size → len ≡ size
    → IfSome (g.contents disk) (λ b. out ≡ part place size b)
    → IfSome (option_map records_of (g.contents disk))
    (AgreesWithBody place (take len (out ++ drop (length out) items)))
bytes_back g disk place size len out items stands of_out of_items of_len is =
    subst (λ (t : Text). IfSome (option_map records_of (g.contents disk)) (AgreesWithBody place t))
    (sym (take-append-le len out (drop (length out) items) (omega arith)
    ∙ take_all len out (omega arith)))
    (each_count (λ (n : ℕ) (list : List Text). HoldsBody place (take n out) list)
    (option_map records_of (g.contents disk)) (λ count.
    read_body g disk place (take count out) stands
    (first_read (g.contents disk) place size count out of_out is)))

-- the item that was read
was_read : (read : Text) (x : Text × Text) (rest : Text) → leading_item read ≡ Some (x, rest)
    → (later : At) × (entry_at (at read 0) ≡ Ok (x, later))
was_read read x rest is = go (entry_at (at read 0)) is
  where
    go : (r : Result ((Text × Text) × At) Short) → item_and_rest r ≡ Some (x, rest)
        → (later : At) × (r ≡ Ok (x, later))
    go (Err short) e = let wrong : None ≡ Some (x, rest) = e in absurd cc
    go (Ok v) e =
        let same = same_Some (v.0, v.1.rest) (x, rest) e in
        (v.1, ap (λ (y : Text × Text). Ok (y, v.1)) (ap (λ (y : (Text × Text) × Text). y.0) same))

module _ (place : ℕ) (read body : Text) (prefix back : List Text) (inside : ℕ)
    (list : List Text) (agrees : AgreesWithBody place read list)
    (split : list ≡ prefix ++ body ∷ back) (offset_is : place ≡ following 16 prefix + 5 + inside)
  where
    -- the same part of both
    same_part : (n m : ℕ) → n + m ≤ length read → inside + n + m ≤ length body
        → take m (drop n read) ≡ take m (drop (inside + n) body)
    same_part n m in_read in_body =
        let long = length-take-le (n + m) read in_read in
        let first : take (n + m) read ≡ take (n + m) (drop inside body) =
        agrees (n + m) prefix body back inside split (omega (arith, offset_is))
        (omega (arith, long, in_body))
        ∙ ap (λ (k : ℕ). take k (drop inside body)) long in
        sym (drop-take n m read) ∙ ap (drop n) first ∙ drop-take n m (drop inside body)
        ∙ ap (take m) (drop-drop n inside body)

    same_item : (x item : Text × Text) (b later : At) → entry_at (at read 0) ≡ Ok (x, b)
        → entry_at (at body inside) ≡ Ok (item, later) → item ≡ x
    unfolding entry_at
    same_item x item b later one two =
        let head = bind_ok (vector_at w16 (at read 0)) _ (x, b) one in
        let tail = bind_ok (vector_at w16 head.0.1) _ (x, b) head.2 in
        let x_is = ok_is Short ((head.0.0, tail.0.0), tail.0.1) (x, b) tail.2 in
        let entry = vector_read read 0 head.0.0 head.0.1 head.1 in
        let key = vector_read read (0 + 2 + length head.0.0) tail.0.0 tail.0.1
        (ap (vector_at w16) (sym entry.next) ∙ tail.1) in
        let head' = bind_ok (vector_at w16 (at body inside)) _ (item, later) two in
        let tail' = bind_ok (vector_at w16 head'.0.1) _ (item, later) head'.2 in
        let item_is = ok_is Short ((head'.0.0, tail'.0.0), tail'.0.1) (item, later) tail'.2 in
        let entry' = vector_read body inside head'.0.0 head'.0.1 head'.1 in
        let key' = vector_read body (inside + 2 + length head'.0.0) tail'.0.0 tail'.0.1
        (ap (vector_at w16) (sym entry'.next) ∙ tail'.1) in
        let size : length head.0.0 ≡ length head'.0.0 =
        entry.counted ∙ ap (from_be_bytes w16)
        (same_part 0 2 (omega (arith, entry.within)) (omega (arith, entry'.within))
        ∙ ap (λ (n : ℕ). take 2 (drop n body)) (omega arith)) ∙ sym entry'.counted in
        let entry_is : head'.0.0 ≡ head.0.0 =
        entry'.part ∙ ap (λ (n : ℕ). take n (drop (inside + 2) body)) (sym size)
        ∙ sym (same_part 2 (length head.0.0) (omega (arith, entry.within))
        (omega (arith, entry'.within, size)))
        ∙ sym entry.part in
        let far : inside + (0 + 2 + length head.0.0) ≡ inside + 2 + length head'.0.0 =
        omega (arith, size) in
        let key_size : length tail.0.0 ≡ length tail'.0.0 =
        key.counted ∙ ap (from_be_bytes w16)
        (same_part (0 + 2 + length head.0.0) 2 (omega (arith, key.within))
        (omega (arith, key'.within, size))
        ∙ ap (λ (n : ℕ). take 2 (drop n body)) far) ∙ sym key'.counted in
        let further : inside + (0 + 2 + length head.0.0 + 2) ≡ inside + 2 + length head'.0.0 + 2 =
        omega (arith, size) in
        let key_is : tail'.0.0 ≡ tail.0.0 =
        key'.part
        ∙ ap (λ (n : ℕ). take n (drop (inside + 2 + length head'.0.0 + 2) body)) (sym key_size)
        ∙ ap (λ (n : ℕ). take (length tail.0.0) (drop n body)) (sym further)
        ∙ sym (same_part (0 + 2 + length head.0.0 + 2) (length tail.0.0)
        (omega (arith, key.within)) (omega (arith, key'.within, key_size, size)))
        ∙ sym key.part in
        sym (ap (λ (v : (Text × Text) × At). v.0) item_is)
        ∙ ap (λ (t : Text). (t, tail'.0.0)) entry_is
        ∙ ap (λ (t : Text). (head.0.0, t)) key_is
        ∙ ap (λ (v : (Text × Text) × At). v.0) x_is

pub item_back : (place : ℕ) (read : Text) (x y : Text × Text) (rest : Text)
    (o : Option (List Text)) → IfSome o (AgreesWithBody place read)
    → leading_item read ≡ Some (x, rest) → x ≡ y
    → IfSome o (λ list. (item : Text × Text) → IsAtOffset list place item → item ≡ y)
item_back place read x y rest None agrees is same = tt
item_back place read x y rest (Some list) agrees is same = λ item there.
    let found = was_read read x rest is in
    same_item place read there.body there.prefix there.back there.inside list agrees there.split
    there.offset_is x item found.0 there.later found.1 there.is ∙ same
