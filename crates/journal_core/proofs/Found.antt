-- What is read of a file whose walk is known.
use Rattle.std.proofs.Common.{◌≡◌, ◌≢◌, ℕ, Bool, true, false, List, [], ◌∷◌, ◌++◌, take, Result, Ok}
use Rattle.std.proofs.Common.{Err, refl, ap, ◌∙◌}
use Rattle.std.specs.Str.{bytes_eq}
use Rattle.std.proofs.lemmas.Slice.Eq.{bytes_eq-Decides}
use Rattle.byte_formats.specs.Readings.{◌>>=◌, lifted}
use Rattle.journal_core.specs.Folds.{Fold, Found, state_after, closing, tested, walked, read_by}
use Rattle.journal_core.specs.Format.{header, following, Represents}
use Rattle.journal_core.specs.Walk.{FileEnd, walk_of, at_commit_byte}
use Rattle.journal_core.specs.declared.error.OpenError.TheVariants.{NotJournal}
use Rattle.journal_core.proofs.ReadOn.{header_length}
use Rattle.journal_core.proofs.Walk.{walk_closed}

module _ {S E : Type 0} (fold : Fold S E) where
  -- a file with the header is read as its walk
  read_walked : (bytes : List ℕ) → take 16 bytes ≡ header
      → read_by fold bytes ≡ walked fold (walk_of bytes)
  unfolding read_by
  read_walked bytes begins =
      let test : bytes_eq (take 16 bytes) header ≡ true =
      (bytes_eq-Decides (take 16 bytes) header).1 begins in
      rw test refl

  -- records that make a state, and how they end
  tested_good : (list : List (List ℕ)) (end : FileEnd) (s : S) → state_after fold list ≡ Ok s
      → tested fold list end ≡ closing fold end (Ok s)
  unfolding state_after
  tested_good [] end s is = cc
  tested_good (first ∷ list) end s is =
      ap (λ (r : Result S ℕ). lifted fold.bad_record r >>= λ (t : S). closing fold end (Ok t)) is

  -- a record that breaks the rules, whatever follows
  tested_bad : (prefix : List (List ℕ)) (body : List ℕ) (rest : List (List ℕ)) (end : FileEnd)
      (k : ℕ) → state_after fold (prefix ++ body ∷ rest) ≡ Err k
      → tested fold (prefix ++ body ∷ rest) end ≡ Err (fold.bad_record k)
  tested_bad [] body rest end k is = ap (λ (r : Result S ℕ). lifted fold.bad_record r >>= λ (t : S).
      closing fold end (Ok t)) is
  tested_bad (first ∷ prefix) body rest end k is =
      ap (λ (r : Result S ℕ). lifted fold.bad_record r >>= λ (t : S). closing fold end (Ok t)) is

  abbrev pub kept : List (List ℕ) → Result S E → Result (Found S) E
  kept list r = r >>= λ (s : S). Ok (record { records = list; state = s })

  pub read_ends : (bytes : List ℕ) (list : List (List ℕ)) (end : FileEnd) (s : S)
      → take 16 bytes ≡ header
      → walk_of bytes ≡ record { records = list; end = end } → state_after fold list ≡ Ok s
      → read_by fold bytes ≡ kept list (closing fold end (Ok s))
  read_ends bytes list end s begins walk is =
      read_walked bytes begins ∙ ap (walked fold) walk ∙ ap (kept list) (tested_good list end s is)

  pub read_none : (bytes : List ℕ) (end : FileEnd) → take 16 bytes ≡ header
      → walk_of bytes ≡ record { records = []; end = end }
      → read_by fold bytes ≡ kept [] (closing fold end (Err (fold.bad_record 0)))
  read_none bytes end begins walk = read_walked bytes begins ∙ ap (walked fold) walk

  pub read_bad : (bytes : List ℕ) (prefix : List (List ℕ)) (body : List ℕ) (rest : List (List ℕ))
      (k : ℕ) → take 16 bytes ≡ header
      → (walk_of bytes).records ≡ prefix ++ body ∷ rest → state_after fold (prefix ++ body ∷ rest)
      ≡ Err k → read_by fold bytes ≡ Err (fold.bad_record k)
  read_bad bytes prefix body rest k begins walk is =
      let end = (walk_of bytes).end in
      read_walked bytes begins
      ∙ ap (λ (list : List (List ℕ)). kept list (tested fold list end)) walk
      ∙ ap (kept (prefix ++ body ∷ rest)) (tested_bad prefix body rest end k is)

  pub read_other : (bytes : List ℕ) → take 16 bytes ≢ header
      → read_by fold bytes ≡ Err (fold.not_read NotJournal)
  unfolding read_by
  read_other bytes other =
      let test : bytes_eq (take 16 bytes) header ≡ false =
      fails (bytes_eq (take 16 bytes) header) (take 16 bytes ≡ header)
      (bytes_eq-Decides (take 16 bytes) header).0 other in
      rw test refl
    where
      fails : (b : Bool) (P : Type 0) → (b ≡ true → P) → (P → ⊥) → b ≡ false
      fails true P is never = absurd (never (is refl))
      fails false P is never = refl

  -- a file that represents records of which a state is made
  pub read_standing : (bytes : List ℕ) (list : List (List ℕ)) (s : S) → Represents bytes list
      → state_after fold list ≡ Ok s
      → read_by fold bytes ≡ Ok (record { records = list; state = s })
  read_standing bytes list s stands is =
      read_ends bytes list at_commit_byte s stands.begins
      (walk_closed bytes list (following 16 list) stands.holds refl
      (header_length bytes stands.begins)
      stands.ends) is
