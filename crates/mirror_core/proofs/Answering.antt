-- The answers of the calls of a mirror that append a record.
use Rattle.std.proofs.Common.{◌≡◌, ℕ, ◌+◌, ◌<◌, ◌≤◌, nat_lt, if◌then◌else◌, Bool, true, false, List}
use Rattle.std.proofs.Common.{length, drop, Option, Some, None, IfSome, option_map, Result, Ok, Err}
use Rattle.std.proofs.Common.{refl, sym, ◌∙◌, ap, subst, arith}
use Rattle.std.specs.Prelude.{◌↔◌, IsErrOf, IsTrue, nat_le}
use Rattle.std.proofs.lemmas.Bool.Decides.{nat_tests}
use Rattle.byte_formats.specs.Types.{Text}
use Rattle.issuance_log.specs.Changes.{IsJournalAnswer}
use Rattle.issuance_log.specs.Records.{tiles_record}
use Rattle.issuance_log.specs.Refusals.{append_refusal}
use Rattle.journal_core.specs.Format.{most_bytes}
use Rattle.journal_core.specs.declared.error.AppendError.{AppendError}
use Rattle.journal_core.specs.declared.error.AppendError.TheVariants.{Broken, Failed, Full}
use Rattle.state_journal.proofs.Answered.{AnswersSo, answered_so}
use Rattle.mirror_core.specs.Folds.{MirrorState, MirrorView}
use Rattle.mirror_core.specs.Records.{mirror_batch_record}
use Rattle.mirror_core.specs.Refusals.{KeepsToMirrorJournal, MirrorCounts, MirrorTilesKeepTo}
use Rattle.mirror_core.specs.Refusals.{TakeAnswers, TakeKeepsTo, begins_large, first_difference}
use Rattle.mirror_core.specs.Refusals.{IsNoMirrorAnswer, full_mirror_size, mirror_tile_refusal}
use Rattle.mirror_core.specs.Refusals.{next_batch, take_refusal}
use Rattle.mirror_core.specs.Words.{of_mirror_journal}
use Rattle.mirror_core.specs.declared.error.MirrorError.{MirrorError}
use Rattle.mirror_core.specs.declared.error.MirrorError.TheVariants as mirror_error
use Rattle.mirror_core.specs.declared.error.MirrorError.TheVariants.{Append, NothingNew, TooLarge}

-- a test that fails
else_is : {E : Type 0} (b : Bool) (e : E) (o : Option E) → b ≡ false
    → (if b then Some e else o) ≡ o
else_is true e o is = let no : ⊥ = cc in absurd no
else_is false e o is = refl

-- ---- what the journal answers

pub appended_none : (broken : Bool) (end : ℕ) (body : Text) (done : Unit {0})
    → (IsErrOf {T = Unit {0}} (Ok done) Broken ↔ IsTrue broken)
    → (IsErrOf {T = Unit {0}} (Ok done) Full
    ↔ (broken ≡ false) × (most_bytes < end + 5 + length body))
    → append_refusal broken end body ≡ None
appended_none broken end body done by_broken by_full =
    let is = answered_so broken most_bytes (end + 5 + length body) (Ok done) by_broken by_full in
    rw (is.0, is.1) refl

pub refused_keeps : (broken : Bool) (end : ℕ) (body : Text) (why : AppendError)
    → (IsErrOf {T = Unit {0}} (Err why) Broken ↔ IsTrue broken)
    → (IsErrOf {T = Unit {0}} (Err why) Full
    ↔ (broken ≡ false) × (most_bytes < end + 5 + length body))
    → IsJournalAnswer (append_refusal broken end body) why
refused_keeps broken end body why by_broken by_full =
    at why (answered_so broken most_bytes (end + 5 + length body) (Err why) by_broken by_full)
  where
    at : (e : AppendError) → AnswersSo (Err e) broken (nat_lt most_bytes (end + 5 + length body))
        → IsJournalAnswer (append_refusal broken end body) e
    at Failed is = rw (is.0, is.1) refl
    at Broken is = rw is refl
    at Full is = rw (is.0, is.1) refl

-- ---- after the tests of a call

-- What the journal alone may refuse follows a refusal of the journal, by how it is reported.
by_answer : {X : Type 0} (KeepsTo : Option MirrorError → Result X MirrorError → Type 0)
    → ((answer : X) (wanted : Option MirrorError) → wanted ≡ None → KeepsTo wanted (Ok answer))
    → ((wanted : Option MirrorError) → wanted ≡ None → KeepsTo wanted (Err (Append Failed)))
    → ((wanted : Option MirrorError) → wanted ≡ Some (Append Broken)
    → KeepsTo wanted (Err (Append Broken)))
    → ((wanted : Option MirrorError) → wanted ≡ Some (Append Full)
    → KeepsTo wanted (Err (Append Full)))
    → (o : Option AppendError) (result : Result X MirrorError) → KeepsToMirrorJournal o result
    → KeepsTo (option_map Append o) result
by_answer KeepsTo done failed broken full o (Ok answer) is =
    done answer (option_map Append o) (ap (option_map Append) is)
by_answer KeepsTo done failed broken full o (Err why) is =
    subst (λ (e : MirrorError). KeepsTo (option_map Append o) (Err e)) (sym is.1.0)
    (each is.0 is.1.1)
  where
    each : (why : AppendError) → IsJournalAnswer o why
        → KeepsTo (option_map Append o) (Err (Append why))
    each Failed is = failed (option_map Append o) (ap (option_map Append) is)
    each Broken is = broken (option_map Append o) (ap (option_map Append) is)
    each Full is = full (option_map Append o) (ap (option_map Append) is)

-- ---- tiles

new_test : (a b : ℕ) → b < a → nat_le a b ≡ false
new_test a b less = grind (arith, nat_tests)

-- the refusal of tiles that are new is that of the journal
tiles_new : (v : MirrorView) (broken : Bool) (end : ℕ) → v.tiled < full_mirror_size v
    → option_map Append (append_refusal broken end (tiles_record (full_mirror_size v)))
    ≡ mirror_tile_refusal v broken end
unfolding mirror_tile_refusal
tiles_new v broken end above =
    sym (else_is (nat_le (full_mirror_size v) v.tiled) _ _
    (new_test (full_mirror_size v) v.tiled above))

pub tiled_answer : (v : MirrorView) (broken : Bool) (end : ℕ) (text : Text)
    → text ≡ tiles_record (full_mirror_size v) → v.tiled < full_mirror_size v
    → (result : Result ℕ MirrorError)
    → KeepsToMirrorJournal (append_refusal broken end text) result
    → MirrorTilesKeepTo (mirror_tile_refusal v broken end) result
tiled_answer v broken end text encoded above result is =
    let by = append_refusal broken end in
    subst (λ (o : Option MirrorError). MirrorTilesKeepTo o result)
    (ap (λ (t : Text). option_map Append (by t)) encoded ∙ tiles_new v broken end above)
    (by_answer MirrorTilesKeepTo (λ answer o is. is) (λ o is. is) (λ o is. is) (λ o is. is)
    (by text) result is)

-- after that test nothing else is answered for it
pub tiles_not_old : (v : MirrorView) (broken : Bool) (end : ℕ) → v.tiled < full_mirror_size v
    → mirror_tile_refusal v broken end ≡ Some NothingNew → ⊥
tiles_not_old v broken end above is =
    by_journal (append_refusal broken end (tiles_record (full_mirror_size v)))
    (tiles_new v broken end above ∙ is)
  where
    by_journal : (o : Option AppendError) → option_map Append o ≡ Some NothingNew → ⊥
    by_journal None is = absurd cc
    by_journal (Some why) is = absurd cc

old_test : (a b : ℕ) → a ≤ b → nat_le a b ≡ true
old_test a b le = grind (arith, nat_tests)

-- there are no new ones
pub tiles_old : (v : MirrorView) (broken : Bool) (end : ℕ) → full_mirror_size v ≤ v.tiled
    → mirror_tile_refusal v broken end ≡ Some NothingNew
unfolding mirror_tile_refusal
tiles_old v broken end le =
    ap (λ (b : Bool). if b then Some NothingNew
    else option_map Append (append_refusal broken end (tiles_record (full_mirror_size v))))
    (old_test (full_mirror_size v) v.tiled le)

-- it counts no failure of another disk
pub counts_none : {X : Type 0} (o : Option AppendError) (before after : ℕ)
    (result : Result X MirrorError) → KeepsToMirrorJournal o result → after ≡ before
    → MirrorCounts before after result
counts_none o before after (Ok answer) is same = same
counts_none {X = X} o before after (Err why) is same =
    subst (λ (e : MirrorError). MirrorCounts {X = X} before after (Err e)) (sym is.1.0) same

-- ---- items

-- where none differs, there are new ones, and the first isn't large
pub taken_answer : (size : ℕ) (broken : Bool) (end : ℕ) (items : List (Text × Text)) (text : Text)
    → text ≡ mirror_batch_record (next_batch size items) → size < length items
    → begins_large (drop size items) ≡ false → (result : Result ℕ MirrorError)
    → KeepsToMirrorJournal (append_refusal broken end text) result
    → TakeKeepsTo (take_refusal None size broken end items) result
unfolding take_refusal
taken_answer size broken end items text encoded new small result is =
    let by = append_refusal broken end in
    subst (λ (o : Option MirrorError). TakeKeepsTo o result)
    (ap (λ (t : Text). option_map Append (by t)) encoded
    ∙ sym (else_is (nat_le (length items) size) _ _ (new_test (length items) size new)
    ∙ else_is (begins_large (drop size items)) _ _ small))
    (by_answer TakeKeepsTo (λ answer o is. is) (λ o is. is) (λ o is. is) (λ o is. is) (by text)
    result is)

pub none_new : (size : ℕ) (broken : Bool) (end : ℕ) (items : List (Text × Text))
    → length items ≤ size → take_refusal None size broken end items ≡ Some NothingNew
unfolding take_refusal
none_new size broken end items few =
    ap (λ (b : Bool). if b then Some NothingNew
    else (if begins_large (drop size items) then Some (TooLarge size)
    else option_map Append (append_refusal broken end
    (mirror_batch_record (next_batch size items))))) (old_test (length items) size few)

pub first_large : (size : ℕ) (broken : Bool) (end : ℕ) (items : List (Text × Text))
    → size < length items → begins_large (drop size items) ≡ true
    → take_refusal None size broken end items ≡ Some (TooLarge size)
unfolding take_refusal
first_large size broken end items new large =
    else_is (nat_le (length items) size) _ _ (new_test (length items) size new)
    ∙ ap (λ (b : Bool). if b then Some (TooLarge size) else option_map Append
    (append_refusal broken end (mirror_batch_record (next_batch size items)))) large

-- by what the mirror showed before
pub take_same : (size size' : ℕ) (broken broken' : Bool) (end end' : ℕ)
    (items : List (Text × Text)) (result : Result ℕ MirrorError) → size' ≡ size
    → broken' ≡ broken → end' ≡ end
    → TakeKeepsTo (take_refusal None size' broken' end' items) result
    → TakeKeepsTo (take_refusal None size broken end items) result
take_same size size' broken broken' end end' items result one two three is =
    subst (λ (n : ℕ). TakeKeepsTo (take_refusal None n broken end items) result) one
    (subst (λ (b : Bool). TakeKeepsTo (take_refusal None size' b end items) result) two
    (subst (λ (e : ℕ). TakeKeepsTo (take_refusal None size' broken' e items) result) three is))

-- what says nothing of the items is no refusal of the journal
pub no_journal : (why : MirrorError) → IsNoMirrorAnswer why → of_mirror_journal why ≡ None
no_journal mirror_error.Failed is = refl
no_journal mirror_error.Memory is = refl
no_journal (mirror_error.Differs number) is = absurd is
no_journal mirror_error.NothingNew is = absurd is
no_journal (mirror_error.TooLarge size) is = absurd is
no_journal (mirror_error.Beyond size) is = absurd is
no_journal (mirror_error.Append why) is = absurd is

-- ---- with the difference

-- the difference that is known, or none
abbrev some_difference : Option MirrorState → List (Text × Text) → Option ℕ
some_difference None items = None
some_difference (Some s) items = first_difference s.items items

difference_known : (known : Option MirrorState) (items : List (Text × Text))
    → IfSome known (λ s. some_difference known items ≡ first_difference s.items items)
difference_known None items = tt
difference_known (Some s) items = refl

-- an answer that says nothing of the items
pub answers_nothing : (known : Option MirrorState) (size : ℕ) (broken : Bool) (end : ℕ)
    (items : List (Text × Text)) (why : MirrorError) → IsNoMirrorAnswer why
    → TakeAnswers known size broken end items (Err why)
answers_nothing known size broken end items why is = record {
  difference = some_difference known items;
  first = difference_known known items;
  answer = by_why why is;
}
  where
    by_why : (e : MirrorError) → IsNoMirrorAnswer e
        → TakeKeepsTo (take_refusal (some_difference known items) size broken end items) (Err e)
    by_why mirror_error.Failed is = tt
    by_why mirror_error.Memory is = tt
    by_why (mirror_error.Differs number) is = absurd is
    by_why mirror_error.NothingNew is = absurd is
    by_why (mirror_error.TooLarge size) is = absurd is
    by_why (mirror_error.Beyond size) is = absurd is
    by_why (mirror_error.Append why) is = absurd is

-- an item differs
pub answers_differs : (known : Option MirrorState) (size : ℕ) (broken : Bool) (end : ℕ)
    (items : List (Text × Text)) (number : ℕ)
    → IfSome known (λ s. Some number ≡ first_difference s.items items)
    → TakeAnswers known size broken end items (Err (mirror_error.Differs number))
unfolding take_refusal
answers_differs known size broken end items number first =
    record { difference = Some number; first = first; answer = refl }

-- none does
pub answers_next : (known : Option MirrorState) (size : ℕ) (broken : Bool) (end : ℕ)
    (items : List (Text × Text)) (result : Result ℕ MirrorError)
    → IfSome known (λ s. None ≡ first_difference s.items items)
    → TakeKeepsTo (take_refusal None size broken end items) result
    → TakeAnswers known size broken end items result
answers_next known size broken end items result first answer =
    record { difference = None; first = first; answer = answer }
