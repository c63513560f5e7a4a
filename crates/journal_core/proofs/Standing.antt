-- A file whose walk ends at a closed commit byte represents the records of the walk.
use Rattle.std.proofs.Common.{◌≡◌, ◌≢◌, ◌⊎◌, inl, inr, ℕ, zero, suc, ◌+◌, ◌≤◌, ◌==◌, ◌||◌, nat_lt}
use Rattle.std.proofs.Common.{if◌then◌else◌, Bool, true, false, List, [], ◌∷◌, length, take}
use Rattle.std.proofs.Common.{slice_index, Result, Ok, Err, refl, ap, sym, subst, ◌∙◌, arith}
use Rattle.std.specs.Int.{w32, to_be_bytes}
use Rattle.std.specs.Str.{bytes_eq}
use Rattle.std.proofs.lemmas.Bool.{eqb-true, eqb-false, ltb-true, ltb-false}
use Rattle.std.proofs.lemmas.List.{length-take, length-drop}
use Rattle.std.proofs.lemmas.Nat.{be_bytes_4}
use Rattle.std.proofs.lemmas.Slice.Eq.{bytes_eq-Decides}
use Rattle.byte_formats.specs.Offsets.{IsBytes}
use Rattle.byte_formats.specs.Readings.{◌>>=◌, lifted}
use Rattle.byte_formats.proofs.Steps.{bind_ok, ok_is, IsBytes-drop, IsBytes-take}
use Rattle.disk_core.specs.Disk.{part}
use Rattle.journal_core.specs.Folds.{Fold, Found, state_after, closing, tested, walked, read_by}
use Rattle.journal_core.specs.Format.{header, IsRecordAt, AreRecordsAt, following, IsClosedAt}
use Rattle.journal_core.specs.Format.{Represents, size_at, body_at}
use Rattle.journal_core.specs.Walk.{FileEnd, at_commit_byte, at_bad_length, at_cut, FileWalk}
use Rattle.journal_core.specs.Walk.{walk_from}
use Rattle.journal_core.specs.Walk.{walk_of}
use Rattle.journal_core.specs.declared.error.OpenError.TheVariants.{NotJournal}

-- a length that was read is encoded by its four bytes
size_encoded : (bytes : List ℕ) (place : ℕ) → IsBytes bytes → place + 5 ≤ length bytes
    → to_be_bytes w32 (size_at bytes place) ≡ part (place + 1) 4 bytes
size_encoded bytes place are there =
    let four : length (part (place + 1) 4 bytes) ≡ 4 =
    simp (length-take, length-drop) (omega arith) in
    be_bytes_4 (part (place + 1) 4 bytes) (size_at bytes place) four
    (IsBytes-take 4 _ (IsBytes-drop (place + 1) bytes are)) refl

-- a record whose length was read
record_here : (bytes : List ℕ) (place : ℕ) → IsBytes bytes → slice_index bytes place ≢ 0
    → 1 ≤ size_at bytes place → size_at bytes place ≤ 131072
    → place + 5 + size_at bytes place ≤ length bytes
    → (length (body_at bytes place) ≡ size_at bytes place)
    × IsRecordAt bytes place (body_at bytes place)
record_here bytes place are opened some few within =
    let size : length (body_at bytes place) ≡ size_at bytes place =
    simp (length-take, length-drop) (omega arith) in (
      size,
      record {
        some = omega arith;
        few = omega arith;
        open_commit_byte = opened;
        size = sym (size_encoded bytes place are (omega arith)) ∙ ap (to_be_bytes w32) (sym size);
        body_is = ap (λ (n : ℕ). part (place + 5) n bytes) size;
      },
    )

abbrev Closes : FileWalk → List (List ℕ) → Type 0
Closes walk list = (walk.records ≡ list) × (walk.end ≡ at_commit_byte)

abbrev Stand : List ℕ → ℕ → List (List ℕ) → Type 0
Stand bytes place list = AreRecordsAt bytes place list × IsClosedAt bytes (following place list)

not_cut : (place : ℕ) → at_cut place ≡ at_commit_byte → ⊥
not_cut place is = cc

not_bad : (place : ℕ) → at_bad_length place ≡ at_commit_byte → ⊥
not_bad place is = cc

-- which way a test went
went : (b : Bool) → (b ≡ true) ⊎ (b ≡ false)
went true = inl refl
went false = inr refl

sized : (n : ℕ) → ((n == 0) || nat_lt 131072 n) ≡ false → (1 ≤ n) × (n ≤ 131072)
sized n is = go (n == 0) (nat_lt 131072 n) refl refl is
  where
    go : (a b : Bool) → (n == 0) ≡ a → nat_lt 131072 n ≡ b → (a || b) ≡ false → (1 ≤ n)
        × (n ≤ 131072)
    go true b zero_ above is = let wrong : true ≡ false = is in cc
    go false true zero_ above is = let wrong : true ≡ false = is in cc
    go false false zero_ above is = (
      (let some = eqb-false n 0 zero_ in omega arith),
      ltb-false 131072 n above,
    )

walk_stands : (most : ℕ) (bytes : List ℕ) (place : ℕ) (list : List (List ℕ)) → IsBytes bytes
    → Closes (walk_from most bytes place) list → Stand bytes place list
walk_stands zero bytes place list are is = absurd (not_cut place is.1)
walk_stands (suc most) bytes place list are is = elim (went (nat_lt place (length bytes))) [
  | inr outside ↦ absurd (not_cut place (rw outside at is).1)
  | inl inside ↦ elim (went (slice_index bytes place == 0)) [
    | inl shut ↦
        let ends = rw (inside, shut) at is in
        subst (Stand bytes place) ends.0 (
          tt,
          record {
            there = ltb-true _ _ inside;
            shut =
                eqb-true _ _ shut;
          },
        )
    | inr opened ↦ elim (went (nat_lt (length bytes) (place + 5))) [
      | inl short ↦ absurd (not_cut place (rw (inside, opened, short) at is).1)
      | inr head ↦ elim (went ((size_at bytes place == 0) || nat_lt 131072 (size_at bytes place))) [
        | inl bad ↦ absurd (not_bad place (rw (inside, opened, head, bad) at is).1)
        | inr good ↦ elim (went (nat_lt (length bytes) (place + 5 + size_at bytes place))) [
          | inl cut ↦ absurd (not_cut place (rw (inside, opened, head, good, cut) at is).1)
          | inr whole ↦
              let goes = rw (inside, opened, head, good, whole) at is in
              let size = sized (size_at bytes place) good in
              let here = record_here bytes place are (eqb-false _ _ opened) size.0 size.1
              (ltb-false _ _ whole) in
              let far : place + 5 + size_at bytes place ≡ place + 5 + length (body_at bytes place) =
              omega (arith, here.0) in
              let rest = walk_stands most bytes (place + 5 + size_at bytes place)
              (walk_from most bytes (place + 5 + size_at bytes place)).records are (
                refl,
                goes.1,
              ) in
              let moved = subst (λ (n : ℕ). Stand bytes n
              (walk_from most bytes (place + 5 + size_at bytes place)).records) far rest in
              subst (Stand bytes place) goes.0 ((here.1, moved.0), moved.1)
        ]
      ]
    ]
  ]
]

module _ {S E : Type 0} (fold : Fold S E) where
  -- where a state was found after the header, its records were tested and end at the closed commit
  -- byte
  closing_ok : {X : Type 0} (end : FileEnd) (r : Result X E) (x : X) → closing fold end r ≡ Ok x
      → (end ≡ at_commit_byte) × (r ≡ Ok x)
  closing_ok {X} at_commit_byte r x is = (refl, is)
  closing_ok {X} (at_bad_length place) r x is = cc
  closing_ok {X} (at_cut place) r x is = cc

  lifted_ok : (r : Result S ℕ) (end : FileEnd) (s : S)
      → (lifted fold.bad_record r >>= λ (t : S). closing fold end (Ok t)) ≡ Ok s
      → (end ≡ at_commit_byte) × (r ≡ Ok s)
  lifted_ok (Ok t) end s is =
      let closed = closing_ok end (Ok t) s is in
      let same : t ≡ s = ok_is E t s closed.1 in
      (closed.0, ap Ok same)
  lifted_ok (Err k) end s is = cc

  tested_ok : (list : List (List ℕ)) (end : FileEnd) (s : S) → tested fold list end ≡ Ok s
      → (end ≡ at_commit_byte) × (state_after fold list ≡ Ok s)
  tested_ok [] end s is =
      let closed = closing_ok end (Err (fold.bad_record 0)) s is in
      let wrong : Err (fold.bad_record 0) ≡ Ok s = closed.1 in cc
  tested_ok (first ∷ list) end s is = lifted_ok (state_after fold (first ∷ list)) end s is

  pub found_stands : (bytes : List ℕ) (found : Found S) → IsBytes bytes
      → read_by fold bytes ≡ Ok found
      → Represents bytes found.records × (state_after fold found.records ≡ Ok found.state)
  unfolding read_by walk_of
  found_stands bytes found are is = go (bytes_eq (take 16 bytes) header) refl is
    where
      after_header : take 16 bytes ≡ header → walked fold (walk_of bytes) ≡ Ok found
          → Represents bytes found.records × (state_after fold found.records ≡ Ok found.state)
      after_header begins is =
          let walk = walk_of bytes in
          let step = bind_ok (tested fold walk.records walk.end) (λ (s : S). Ok (record {
            records =
                walk.records;
            state = s;
          })) found is in
          let made : record { records = walk.records; state = step.0 } ≡ found =
          ok_is E _ _ step.2 in
          let state = tested_ok walk.records walk.end step.0 step.1 in
          let stand = walk_stands (length bytes) bytes 16 walk.records are (refl, state.0) in
          let P : Found S → Type 0 = λ f. Represents bytes f.records
          × (state_after fold f.records ≡ Ok f.state) in
          subst P made (record { begins = begins; holds = stand.0; ends = stand.1 }, state.1)

      go : (b : Bool) → bytes_eq (take 16 bytes) header ≡ b
          → (if b then walked fold (walk_of bytes) else Err (fold.not_read NotJournal)) ≡ Ok found
          → Represents bytes found.records × (state_after fold found.records ≡ Ok found.state)
      go true test is = after_header ((bytes_eq-Decides (take 16 bytes) header).0 test) is
      go false test is = cc
