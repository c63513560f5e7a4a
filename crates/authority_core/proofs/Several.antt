-- Certificates of several entries: the first refusal, and what was written.
use Rattle.std.proofs.Common.{◌≡◌, ◌⊎◌, inl, inr, ℕ, zero, suc, ◌+◌, ◌-◌, ◌<◌, ◌≤◌, [], ◌∷◌}
use Rattle.std.proofs.Common.{◌++◌, length, get_or, Option, Some, None, IfSome, Result, Ok, Err}
use Rattle.std.proofs.Common.{Bool, IfErr, refl, ap, sym, subst, ◌∙◌, append-nil, arith, nat_le}
use Rattle.std.proofs.Common.{false}
use Rattle.std.proofs.Math.Seq.{get_or-append_seam}
use Rattle.std.proofs.lemmas.Bool.Decides.{nat_tests}
use Rattle.std.proofs.lemmas.Grind.{flat_map-append}
use Rattle.std.proofs.lemmas.List.{get_or_append_left, length_push}
use Rattle.std.specs.Prelude.{flat_map, if◌then◌else◌}
use Rattle.std.specs.Result.{IsErrAnd}
use Rattle.byte_formats.specs.Types.{HashFunction, Text}
use Rattle.issuance_log.specs.Folds.{LogState}
use Rattle.authority_core.specs.Acceptance.{StoresAccept}
use Rattle.authority_core.specs.Certificates.{IsWritten}
use Rattle.authority_core.specs.Several.{AddsCertificate, HoldsEach, IsAcceptable, IsLastRefusal}
use Rattle.authority_core.specs.Several.{SeveralCountJournal}
use Rattle.authority_core.specs.Several.{SeveralCountTiles, SeveralKeepLightlyTo, SeveralKeepTo}
use Rattle.authority_core.specs.Several.{or_later, pem_of, refusal_from}
use Rattle.authority_core.specs.Several.{several_refusal}
use Rattle.authority_core.specs.declared.writing.error.SeveralError.{SeveralError}
use Rattle.authority_core.specs.declared.writing.error.SeveralError.TheVariants as several
use Rattle.authority_core.specs.declared.writing.error.WriteError.{WriteError}

-- ---- the first refusal

-- It is the refusal of an index.
abbrev pub IsOfEntry : SeveralError → Type 0
IsOfEntry (several.OfEntry why index) = Unit {0}
IsOfEntry other = ⊥

module _ (refusal : ℕ → Option WriteError) where
  refusal_step : (last index : ℕ) → index < last → refusal_from refusal (last - index) index
      ≡ or_later (refusal index) index (refusal_from refusal (last - (index + 1)) (index + 1))
  unfolding refusal_from
  refusal_step last index below =
      let count : last - index ≡ suc (last - (index + 1)) = omega arith in
      ap (λ (n : ℕ). refusal_from refusal n index) count

  pub no_refusal : (o : Option WriteError) → ((why : WriteError) → o ≡ Some why → ⊥) → o ≡ None
  no_refusal None other = refl
  no_refusal (Some why) other = absurd (other why refl)

  pub refusal_later : (last index : ℕ) (wanted : Option SeveralError)
      → index < last → refusal_from refusal (last - index) index ≡ wanted
      → refusal index ≡ None → refusal_from refusal (last - (index + 1)) (index + 1) ≡ wanted
  refusal_later last index wanted below so_far is =
      sym (refusal_step last index below ∙ ap (λ (o : Option WriteError). or_later o index
      (refusal_from refusal (last - (index + 1)) (index + 1))) is) ∙ so_far

  later_none : (o : Option WriteError) (index : ℕ) (later : Option SeveralError)
      → or_later o index later ≡ None → (o ≡ None) × (later ≡ None)
  later_none None index later is = (refl, is)
  later_none (Some why) index later is = absurd cc

  -- where there is none, none of the indexes has one
  pub none_at : (count index : ℕ) → refusal_from refusal count index ≡ None → (i : ℕ) → index ≤ i
      → i < index + count → refusal i ≡ None
  unfolding refusal_from
  none_at zero index is i from below = absurd (omega arith)
  none_at (suc count) index is i from below =
      at (where_at from) (λ later. none_at count (index + 1) both.1 i later (omega arith))
    where
      both : (refusal index ≡ None) × (refusal_from refusal count (index + 1) ≡ None)
      both = later_none (refusal index) index (refusal_from refusal count (index + 1)) is

      where_at : index ≤ i → (i ≡ index) ⊎ (index + 1 ≤ i)
      where_at from = grind arith

      at : (i ≡ index) ⊎ (index + 1 ≤ i) → (index + 1 ≤ i → refusal i ≡ None) → refusal i ≡ None
      at (inl same) rest = ap refusal same ∙ both.0
      at (inr later) rest = rest later

  of_entry_or_later : (o : Option WriteError) (index : ℕ) (later : Option SeveralError)
      → IfSome later IsOfEntry → IfSome (or_later o index later) IsOfEntry
  of_entry_or_later None index later is = is
  of_entry_or_later (Some why) index later is = tt

  -- It is the refusal of an index.
  pub of_entries : (count index : ℕ) → IfSome (refusal_from refusal count index) IsOfEntry
  unfolding refusal_from
  of_entries zero index = tt
  of_entries (suc count) index =
      of_entry_or_later (refusal index) index (refusal_from refusal count (index + 1))
      (of_entries count (index + 1))

  -- where there are indexes at all
  pub refusal_is : (first last : ℕ) (wanted : Option SeveralError) → first < last
      → refusal_from refusal (last - first) first ≡ wanted
      → several_refusal refusal first last ≡ wanted
  refusal_is first last wanted some is =
      ap (λ (b : Bool). if b then Some several.NothingNew
      else refusal_from refusal (last - first) first) (lt-leb last first some) ∙ is
    where
      lt-leb : (a b : ℕ) → b < a → nat_le a b ≡ false
      lt-leb a b less = grind (arith, nat_tests)

  pub several_of_entries : (first last : ℕ) → first < last
      → IfSome (several_refusal refusal first last) IsOfEntry
  several_of_entries first last some =
      subst (λ (o : Option SeveralError). IfSome o IsOfEntry)
      (sym (refusal_is first last (refusal_from refusal (last - first) first) some refl))
      (of_entries (last - first) first)

-- The refusal of an index counts no failure.
pub journal_first : (count : ℕ) (why : SeveralError) → IsOfEntry why
    → SeveralCountJournal {X = Text} count count (Err why)
journal_first count several.NothingNew of = absurd of
journal_first count (several.OfEntry why index) of = refl
journal_first count several.JournalFailed of = absurd of
journal_first count several.TilesFailed of = absurd of
journal_first count several.Memory of = absurd of

pub tiles_first : (count : ℕ) (why : SeveralError) → IsOfEntry why
    → SeveralCountTiles {X = Text} count count (Err why)
tiles_first count several.NothingNew of = absurd of
tiles_first count (several.OfEntry why index) of = refl
tiles_first count several.JournalFailed of = absurd of
tiles_first count several.TilesFailed of = absurd of
tiles_first count several.Memory of = absurd of

-- ---- after all tests

pub several_after : (wanted : Option SeveralError) (result : Result Text SeveralError)
    → wanted ≡ None → IfErr result IsLastRefusal → SeveralKeepTo wanted result
several_after wanted (Ok text) none is = none
several_after wanted (Err several.NothingNew) none is = absurd is
several_after wanted (Err (several.OfEntry why index)) none is = absurd is
several_after wanted (Err several.JournalFailed) none is = none
several_after wanted (Err several.TilesFailed) none is = none
several_after wanted (Err several.Memory) none is = none

pub several_lightly : (wanted : Option SeveralError) (result : Result Text SeveralError)
    → wanted ≡ None → IfErr result IsLastRefusal → SeveralKeepLightlyTo wanted result
several_lightly wanted (Ok text) none is = none
several_lightly wanted (Err several.NothingNew) none is = absurd is
several_lightly wanted (Err (several.OfEntry why index)) none is = absurd is
several_lightly wanted (Err several.JournalFailed) none is = none
several_lightly wanted (Err several.TilesFailed) none is = none
several_lightly wanted (Err several.Memory) none is = λ wrong. cc

pub kept_first : (wanted : Option SeveralError) (why : SeveralError) → wanted ≡ Some why
    → IfSome wanted IsOfEntry → SeveralKeepTo wanted (Err why)
kept_first wanted why is all =
    go wanted why is (subst (λ (o : Option SeveralError). IfSome o IsOfEntry) is all)
  where
    go : (o : Option SeveralError) (e : SeveralError) → o ≡ Some e → IsOfEntry e
        → SeveralKeepTo o (Err e)
    go o several.NothingNew same of = absurd of
    go o (several.OfEntry w index) same of = same
    go o several.JournalFailed same of = absurd of
    go o several.TilesFailed same of = absurd of
    go o several.Memory same of = absurd of

pub lightly_first : (wanted : Option SeveralError) (why : SeveralError) → wanted ≡ Some why
    → IfSome wanted IsOfEntry → SeveralKeepLightlyTo wanted (Err why)
lightly_first wanted why is all =
    go wanted why is (subst (λ (o : Option SeveralError). IfSome o IsOfEntry) is all)
  where
    go : (o : Option SeveralError) (e : SeveralError) → o ≡ Some e → IsOfEntry e
        → SeveralKeepLightlyTo o (Err e)
    go o several.NothingNew same of = absurd of
    go o (several.OfEntry w index) same of = same
    go o several.JournalFailed same of = absurd of
    go o several.TilesFailed same of = absurd of
    go o several.Memory same of = absurd of

-- memory before the tests of indexes
pub memory_first : (wanted : Option SeveralError) (result : Result Text SeveralError)
    → IsErrAnd result (λ e. e ≡ several.Memory) → IfSome wanted IsOfEntry
    → SeveralKeepLightlyTo wanted result
memory_first wanted (Ok text) is all = absurd is
memory_first wanted (Err why) is all =
    subst (λ (e : SeveralError). SeveralKeepLightlyTo wanted (Err e)) (sym is)
    (λ wrong. subst (λ (o : Option SeveralError). IfSome o IsOfEntry) wrong all)

-- ---- what was written

module _ (P : ℕ → Text → Type 0) (first : ℕ) where
  -- one certificate more, that of the next index
  holds_more : (index : ℕ) (old new : Text) → HoldsEach P first index old
      → AddsCertificate (P index) old new → HoldsEach P first (index + 1) new
  holds_more index old new so_far more = record {
    certificates = so_far.certificates ++ more.der ∷ [];
    count = omega (arith, length_push so_far.certificates more.der, so_far.count);
    text_is = more.text_is ∙ ap (λ (t : Text). t ++ pem_of more.der) so_far.text_is ∙ sym joined;
    each = λ i below. at i (where_at i below);
  }
    where
      joined : flat_map pem_of (so_far.certificates ++ more.der ∷ [])
          ≡ flat_map pem_of so_far.certificates ++ pem_of more.der
      joined =
          flat_map-append pem_of so_far.certificates (more.der ∷ [])
          ∙ ap (λ (t : Text). flat_map pem_of so_far.certificates ++ t)
          (append-nil (pem_of more.der))

      where_at : (i : ℕ) → i < length (so_far.certificates ++ more.der ∷ [])
          → (i < length so_far.certificates) ⊎ (i ≡ length so_far.certificates)
      where_at i below =
          let size = length_push so_far.certificates more.der in grind (arith, size)

      at : (i : ℕ) → (i < length so_far.certificates) ⊎ (i ≡ length so_far.certificates)
          → P (first + i) (get_or (so_far.certificates ++ more.der ∷ []) i [])
      at i (inl before) =
          rw (get_or_append_left so_far.certificates (more.der ∷ []) [] i before)
          (so_far.each i before)
      at i (inr last) =
          let here : more.der ≡ get_or (so_far.certificates ++ more.der ∷ []) i [] =
          sym (ap (λ (n : ℕ). get_or (so_far.certificates ++ more.der ∷ []) n []) last
          ∙ get_or-append_seam so_far.certificates more.der [] []) in
          let place : index ≡ first + i = omega (arith, so_far.count) in
          subst (P (first + i)) here (subst (λ (n : ℕ). P n more.der) place more.holds)

module _ (P : LogState → ℕ → Text → Type 0) (first : ℕ) where
  -- So it is of what the model knows.
  pub known_more : (o : Option LogState) (index : ℕ) (old new : Text)
      → IfSome o (λ s. HoldsEach (P s) first index old)
      → IfSome o (λ s. AddsCertificate (P s index) old new)
      → IfSome o (λ s. HoldsEach (P s) first (index + 1) new)
  known_more None index old new so_far more = tt
  known_more (Some s) index old new so_far more =
      holds_more (P s) first index old new so_far more

module _ (h : HashFunction) (index : ℕ) (o : Option LogState) (old new der piece : Text)
    (grown : new ≡ old ++ pem_of piece) (same : piece ≡ der) where
  pub adds_written : (start end : ℕ) (signatures : Text)
      → IfSome o (λ s. IsWritten h s index start end signatures der)
      → IfSome o (λ s. StoresAccept h s index start end signatures der)
      → IfSome o (λ s. AddsCertificate (IsAcceptable h s start end signatures index) old new)
  adds_written start end signatures = go o
    where
      go : (p : Option LogState) → IfSome p (λ s. IsWritten h s index start end signatures der)
          → IfSome p (λ s. StoresAccept h s index start end signatures der)
          → IfSome p (λ s. AddsCertificate (IsAcceptable h s start end signatures index) old new)
      go None written accepted = tt
      go (Some s) written accepted = record {
        der = der;
        text_is = grown ∙ ap (λ (t : Text). old ++ pem_of t) same;
        holds = record { written = written; accepted = accepted };
      }
