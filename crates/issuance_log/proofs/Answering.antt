-- The answers of the calls of a log that append a record.
use Rattle.std.proofs.Common.{◌≡◌, ℕ, ◌+◌, ◌<◌, ◌≤◌, ◌==◌, nat_lt, if◌then◌else◌, Bool, true, false}
use Rattle.std.specs.Prelude.{nat_le}
use Rattle.std.proofs.Common.{List, length, Option, Some, None, option_map, Result, Ok, Err, refl}
use Rattle.std.proofs.Common.{sym, ◌∙◌, ap, subst, arith}
use Rattle.std.specs.Prelude.{◌↔◌, IsErrOf, IsTrue}
use Rattle.std.proofs.lemmas.Bool.{le-ltb}
use Rattle.std.proofs.lemmas.Bool.Decides.{nat_tests}
use Rattle.byte_formats.specs.Types.{Text}
use Rattle.journal_core.specs.Format.{most_bytes}
use Rattle.journal_core.specs.declared.error.AppendError.{AppendError}
use Rattle.journal_core.specs.declared.error.AppendError.TheVariants.{Broken, Failed, Full}
use Rattle.state_journal.proofs.Answered.{AnswersSo, answered_so}
use Rattle.issuance_log.specs.Batches.{fitting, has_large, most_listed}
use Rattle.issuance_log.specs.Changes.{IsJournalAnswer, KeepsToJournal}
use Rattle.issuance_log.specs.Entries.{LogCounts}
use Rattle.issuance_log.specs.Folds.{LogView}
use Rattle.issuance_log.specs.Marks.{last_mark}
use Rattle.issuance_log.specs.Records.{batch_record, entry_record, landmark_record, switch_record}
use Rattle.issuance_log.specs.Records.{tiles_record}
use Rattle.issuance_log.specs.Refusals.{BatchKeepsTo, ItemKeepsTo, MarkKeepsTo, SwitchKeepsTo}
use Rattle.issuance_log.specs.Refusals.{TilesKeepTo, add_refusal, append_refusal, batch_refusal}
use Rattle.issuance_log.specs.Refusals.{full_size, mark_refusal}
use Rattle.issuance_log.specs.Refusals.{switch_refusal, tile_refusal, unless_switched}
use Rattle.issuance_log.specs.Settings.{most_item}
use Rattle.issuance_log.specs.declared.error.LogError.{LogError}
use Rattle.issuance_log.specs.declared.error.LogError.TheVariants.{AlreadySwitched, Append}
use Rattle.issuance_log.specs.declared.error.LogError.TheVariants.{NothingNew}

-- a test that fails
else_is : {E : Type 0} (b : Bool) (e : E) (o : Option E) → b ≡ false
    → (if b then Some e else o) ≡ o
else_is true e o is = let no : ⊥ = cc in absurd no
else_is false e o is = refl

apart_test : (a b : ℕ) → a < b → (a == b) ≡ false
apart_test a b less = grind (arith, nat_tests)

-- ---- what the journal answers

pub appended_none : (broken : Bool) (end : ℕ) (body : Text) (done : Unit {0})
    → (IsErrOf {T = Unit {0}} (Ok done) Broken ↔ IsTrue broken)
    → (IsErrOf {T = Unit {0}} (Ok done) Full
    ↔ (broken ≡ false) × (most_bytes < end + 5 + length body))
    → append_refusal broken end body ≡ None
appended_none broken end body done by_broken by_full =
    let is = answered_so broken most_bytes (end + 5 + length body) (Ok done) by_broken by_full in
    rw (is.0, is.1) refl

pub refused_keeps : (broken : Bool) (end : ℕ) (body : Text) (why : AppendError)
    → (IsErrOf {T = Unit {0}} (Err why) Broken ↔ IsTrue broken)
    → (IsErrOf {T = Unit {0}} (Err why) Full
    ↔ (broken ≡ false) × (most_bytes < end + 5 + length body))
    → IsJournalAnswer (append_refusal broken end body) why
refused_keeps broken end body why by_broken by_full =
    at why (answered_so broken most_bytes (end + 5 + length body) (Err why) by_broken by_full)
  where
    at : (e : AppendError) → AnswersSo (Err e) broken (nat_lt most_bytes (end + 5 + length body))
        → IsJournalAnswer (append_refusal broken end body) e
    at Failed is = rw (is.0, is.1) refl
    at Broken is = rw is refl
    at Full is = rw (is.0, is.1) refl

-- ---- after the tests of a call

-- What the journal alone may refuse follows a refusal of the journal, by how it is reported.
by_answer : {X : Type 0} (KeepsTo : Option LogError → Result X LogError → Type 0)
    → ((answer : X) (wanted : Option LogError) → wanted ≡ None → KeepsTo wanted (Ok answer))
    → ((wanted : Option LogError) → wanted ≡ None → KeepsTo wanted (Err (Append Failed)))
    → ((wanted : Option LogError) → wanted ≡ Some (Append Broken)
    → KeepsTo wanted (Err (Append Broken)))
    → ((wanted : Option LogError) → wanted ≡ Some (Append Full)
    → KeepsTo wanted (Err (Append Full)))
    → (o : Option AppendError) (result : Result X LogError) → KeepsToJournal o result
    → KeepsTo (option_map Append o) result
by_answer KeepsTo done failed broken full o (Ok answer) is =
    done answer (option_map Append o) (ap (option_map Append) is)
by_answer KeepsTo done failed broken full o (Err why) is =
    subst (λ (e : LogError). KeepsTo (option_map Append o) (Err e)) (sym is.1.0)
    (each is.0 is.1.1)
  where
    each : (why : AppendError) → IsJournalAnswer o why
        → KeepsTo (option_map Append o) (Err (Append why))
    each Failed is = failed (option_map Append o) (ap (option_map Append) is)
    each Broken is = broken (option_map Append o) (ap (option_map Append) is)
    each Full is = full (option_map Append o) (ap (option_map Append) is)

pub added_answer : (v : LogView) (broken : Bool) (end : ℕ) (entry key text : Text)
    → text ≡ entry_record entry key → v.size < v.settings.limit
    → length entry + length key ≤ most_item → (result : Result ℕ LogError)
    → KeepsToJournal (append_refusal broken end text) result
    → ItemKeepsTo (add_refusal v broken end entry key) result
unfolding add_refusal
added_answer v broken end entry key text encoded capacity few result is =
    let by = append_refusal broken end in
    subst (λ (o : Option LogError). ItemKeepsTo o result)
    (ap (λ (t : Text). option_map Append (by t)) encoded
    ∙ sym (else_is (v.size == v.settings.limit) _ _ (apart_test v.size v.settings.limit capacity)
    ∙ else_is (nat_lt most_item (length entry + length key)) _ _
    (le-ltb most_item (length entry + length key) few)))
    (by_answer ItemKeepsTo (λ answer o is. is) (λ o is. is) (λ o is. is) (λ o is. is) (by text)
    result is)

pub batch_answer : (v : LogView) (broken : Bool) (end : ℕ) (items : List (Text × Text))
    (text : Text) → text ≡ batch_record items → v.size + length items ≤ v.settings.limit
    → fitting most_listed items ≡ length items → has_large items ≡ false
    → (result : Result ℕ LogError) → KeepsToJournal (append_refusal broken end text) result
    → BatchKeepsTo (batch_refusal v broken end items) result
unfolding batch_refusal
batch_answer v broken end items text encoded capacity fit large result is =
    let by = append_refusal broken end in
    subst (λ (o : Option LogError). BatchKeepsTo o result)
    (ap (λ (t : Text). option_map Append (by t)) encoded
    ∙ sym (else_is (nat_lt v.settings.limit (v.size + length items)) _ _
    (le-ltb v.settings.limit (v.size + length items) capacity)
    ∙ else_is (nat_lt (fitting most_listed items) (length items)) _ _
    (le-ltb (fitting most_listed items) (length items) (omega (arith, fit)))
    ∙ else_is (has_large items) _ _ large))
    (by_answer BatchKeepsTo (λ answer o is. is) (λ o is. is) (λ o is. is) (λ o is. is) (by text)
    result is)

pub marked_answer : (v : LogView) (broken : Bool) (end : ℕ) (text : Text)
    → text ≡ landmark_record v.size → last_mark v.marks < v.size
    → (result : Result (ℕ × ℕ) LogError) → KeepsToJournal (append_refusal broken end text) result
    → MarkKeepsTo (mark_refusal v broken end) result
unfolding mark_refusal
marked_answer v broken end text encoded above result is =
    let by = append_refusal broken end in
    subst (λ (o : Option LogError). MarkKeepsTo o result)
    (ap (λ (t : Text). option_map Append (by t)) encoded
    ∙ sym (else_is (last_mark v.marks == v.size) _ _
    (apart_test (last_mark v.marks) v.size above)))
    (by_answer MarkKeepsTo (λ answer o is. is) (λ o is. is) (λ o is. is) (λ o is. is) (by text)
    result is)

-- the refusal of a first switch is that of the journal
first_switch : (switched : Option ℕ) (refusal : Option AppendError) → switched ≡ None
    → option_map Append refusal ≡ unless_switched switched refusal
first_switch None refusal first = refl
first_switch (Some index) refusal first =
    let wrong : Some index ≡ None = first in absurd cc

pub switched_answer : (v : LogView) (broken : Bool) (end : ℕ) (text : Text)
    → text ≡ switch_record v.size → v.switched ≡ None → (result : Result ℕ LogError)
    → KeepsToJournal (append_refusal broken end text) result
    → SwitchKeepsTo (switch_refusal v broken end) result
unfolding switch_refusal
switched_answer v broken end text encoded first result is =
    let by = append_refusal broken end in
    subst (λ (o : Option LogError). SwitchKeepsTo o result)
    (ap (λ (t : Text). option_map Append (by t)) encoded
    ∙ first_switch v.switched (by (switch_record v.size)) first)
    (by_answer SwitchKeepsTo (λ answer o is. is) (λ o is. is) (λ o is. is) (λ o is. is) (by text)
    result is)

-- nothing else is answered for it
pub not_already : (v : LogView) (broken : Bool) (end : ℕ) → v.switched ≡ None → (index : ℕ)
    → switch_refusal v broken end ≡ Some (AlreadySwitched index) → ⊥
unfolding switch_refusal
not_already v broken end first index is =
    by_journal (append_refusal broken end (switch_record v.size))
    (first_switch v.switched (append_refusal broken end (switch_record v.size)) first ∙ is)
  where
    by_journal : (o : Option AppendError) → option_map Append o ≡ Some (AlreadySwitched index) → ⊥
    by_journal None is = absurd cc
    by_journal (Some why) is = absurd cc

-- a log that was switched refuses it
pub already : (v : LogView) (broken : Bool) (end index : ℕ) → v.switched ≡ Some index
    → switch_refusal v broken end ≡ Some (AlreadySwitched index)
unfolding switch_refusal
already v broken end index is =
    ap (λ o. unless_switched o (append_refusal broken end (switch_record v.size))) is

new_test : (a b : ℕ) → b < a → nat_le a b ≡ false
new_test a b less = grind (arith, nat_tests)

-- the refusal of tiles that are new is that of the journal
tiles_new : (v : LogView) (broken : Bool) (end : ℕ) → v.tiled < full_size v
    → option_map Append (append_refusal broken end (tiles_record (full_size v)))
    ≡ tile_refusal v broken end
unfolding tile_refusal
tiles_new v broken end above =
    sym (else_is (nat_le (full_size v) v.tiled) _ _ (new_test (full_size v) v.tiled above))

pub tiled_answer : (v : LogView) (broken : Bool) (end : ℕ) (text : Text)
    → text ≡ tiles_record (full_size v) → v.tiled < full_size v → (result : Result ℕ LogError)
    → KeepsToJournal (append_refusal broken end text) result
    → TilesKeepTo (tile_refusal v broken end) result
tiled_answer v broken end text encoded above result is =
    let by = append_refusal broken end in
    subst (λ (o : Option LogError). TilesKeepTo o result)
    (ap (λ (t : Text). option_map Append (by t)) encoded ∙ tiles_new v broken end above)
    (by_answer TilesKeepTo (λ answer o is. is) (λ o is. is) (λ o is. is) (λ o is. is) (by text)
    result is)

-- after that test nothing else is answered for it
pub tiles_not_old : (v : LogView) (broken : Bool) (end : ℕ) → v.tiled < full_size v
    → tile_refusal v broken end ≡ Some NothingNew → ⊥
tiles_not_old v broken end above is =
    by_journal (append_refusal broken end (tiles_record (full_size v)))
    (tiles_new v broken end above ∙ is)
  where
    by_journal : (o : Option AppendError) → option_map Append o ≡ Some NothingNew → ⊥
    by_journal None is = absurd cc
    by_journal (Some why) is = absurd cc

old_test : (a b : ℕ) → a ≤ b → nat_le a b ≡ true
old_test a b le = grind (arith, nat_tests)

-- there are no new ones
pub tiles_old : (v : LogView) (broken : Bool) (end : ℕ) → full_size v ≤ v.tiled
    → tile_refusal v broken end ≡ Some NothingNew
unfolding tile_refusal
tiles_old v broken end le =
    ap (λ (b : Bool). if b then Some NothingNew
    else option_map Append (append_refusal broken end (tiles_record (full_size v))))
    (old_test (full_size v) v.tiled le)

-- it counts no failure of another disk
pub counts_none : {X : Type 0} (o : Option AppendError) (before after : ℕ)
    (result : Result X LogError) → KeepsToJournal o result → after ≡ before
    → LogCounts before after result
counts_none o before after (Ok answer) is same = same
counts_none {X = X} o before after (Err why) is same =
    subst (λ (e : LogError). LogCounts {X = X} before after (Err e)) (sym is.1.0) same
