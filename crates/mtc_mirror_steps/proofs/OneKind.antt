-- A file that is read as a cosigner's journal isn't read as a mirror's: their first records have
-- different tags.
use Rattle.std.proofs.Common.{◌≡◌, ℕ, ◌==◌, Bool, true, false, if◌then◌else◌, List, [], ◌∷◌, take}
use Rattle.std.proofs.Common.{Option, None, Some, IsSome, option_map, Result, Ok, Err, refl}
use Rattle.std.proofs.Common.{subst}
use Rattle.std.specs.Int.{w8}
use Rattle.std.specs.Prelude.{option_and_then}
use Rattle.std.specs.Str.{bytes_eq}
use Rattle.std.proofs.lemmas.Bool.{eqb-true}
use Rattle.std.proofs.lemmas.Slice.Eq.{bytes_eq-Decides}
use Rattle.byte_formats.specs.Offsets.{At, at}
use Rattle.byte_formats.specs.Readings.{◌>>=◌, lifted, some_or, whole_of}
use Rattle.byte_formats.specs.Types.{HashFunction, Text}
use Rattle.byte_formats.proofs.Steps.{bind_ok}
use Rattle.journal_core.specs.Folds.{Fold, Found, closing, read_by, state_after, tested, walked}
use Rattle.journal_core.specs.Folds.{taken_from}
use Rattle.journal_core.specs.Format.{header}
use Rattle.journal_core.specs.declared.error.OpenError.TheVariants.{NotJournal}
use Rattle.journal_core.specs.Walk.{FileEnd, at_bad_length, at_commit_byte, at_cut, walk_of}
use Rattle.tls_wire.specs.Anchors.{anchor_of}
use Rattle.tls_wire.specs.Reading.{number_at, vector_at}
use Rattle.tls_wire.specs.declared.cursor.Short.{Short}
use Rattle.issuance_log.specs.Records.{tagged}
use Rattle.cosigner_core.specs.Folds.{begun_cosigner, cosigner_fold, new_cosigner}
use Rattle.cosigner_core.specs.Openings.{FoundCosigner, cosigner_read}
use Rattle.cosigner_core.specs.Records.{cosigner_at, cosigner_in, first_by_tag, founded}
use Rattle.mirror_core.specs.Folds.{begun_mirror, mirror_fold, new_mirror}
use Rattle.mirror_core.specs.Openings.{FoundMirror, mirror_read}
use Rattle.mirror_core.specs.Records.{anchor_or_none, mirror_log_in, mirror_tag}

-- ---- the first record of a journal

-- The first of these records begins a journal of this kind.
abbrev pub BeginsKind : {S E : Type 0} → Fold S E → List Text → Type 0
BeginsKind fold [] = ⊥
BeginsKind fold (first ∷ rest) = IsSome (fold.begins first)

module _ {S E : Type 0} (fold : Fold S E) where
  not_closed : (end : FileEnd) (why : E) (s : S) → closing fold end (Err why) ≡ Ok s → ⊥
  not_closed at_commit_byte why s is = absurd cc
  not_closed (at_bad_length place) why s is = absurd cc
  not_closed (at_cut place) why s is = absurd cc

  begun_by : (begun : Option S) (rest : List Text) (end : FileEnd) (s : S)
      → (lifted fold.bad_record (some_or 0 begun >>= λ x. taken_from fold 1 x rest)
      >>= λ t. closing fold end (Ok t)) ≡ Ok s → IsSome begun
  begun_by None rest end s is = absurd cc
  begun_by (Some x) rest end s is = refl

  tested_begins : (list : List Text) (end : FileEnd) (s : S) → tested fold list end ≡ Ok s
      → BeginsKind fold list
  unfolding state_after
  tested_begins [] end s is = not_closed end (fold.bad_record 0) s is
  tested_begins (first ∷ rest) end s is = begun_by (fold.begins first) rest end s is

  pub read_begins : (bytes : Text) (found : Found S) → read_by fold bytes ≡ Ok found
      → (take 16 bytes ≡ header) × BeginsKind fold (walk_of bytes).records
  unfolding read_by
  read_begins bytes found is = go (bytes_eq (take 16 bytes) header) refl is
    where
      go : (b : Bool) → bytes_eq (take 16 bytes) header ≡ b
          → (if b then walked fold (walk_of bytes) else Err (fold.not_read NotJournal)) ≡ Ok found
          → (take 16 bytes ≡ header) × BeginsKind fold (walk_of bytes).records
      go true test is =
          let walk = walk_of bytes in
          let step = bind_ok (tested fold walk.records walk.end) (λ (s : S). Ok (record {
            records = walk.records;
            state = s;
          })) found is in (
            (bytes_eq-Decides (take 16 bytes) header).0 test,
            tested_begins walk.records walk.end step.0 step.1,
          )
      go false test is = absurd cc

-- ---- the tags

module _ {X Y Z V W : Type 0} (f : X → V) (g : Z → W) (k : Y → Option Z) where
  -- a number is one tag
  one_tag : (n : ℕ) (one two : Option X) (other : Option Y)
      → IsSome (option_map f (if n == 0x11 then one else (if n == 0x15 then two else None)))
      → IsSome (option_map g (option_and_then k (if n == 0x21 then other else None))) → ⊥
  one_tag n one two other first second = go (n == 0x21) refl second
    where
      go : (b : Bool) → (n == 0x21) ≡ b
          → IsSome (option_map g (option_and_then k (if b then other else None))) → ⊥
      go true is there =
          let never = subst (λ (m : ℕ). IsSome (option_map f
          (if m == 0x11 then one else (if m == 0x15 then two else None)))) (eqb-true n 0x21 is)
          first in
          absurd cc
      go false is there = absurd cc

-- a record begins a cosigner or a mirror
begins_one : (h : HashFunction) (first : Text) → IsSome (begun_cosigner h first)
    → IsSome (begun_mirror first) → ⊥
unfolding begun_cosigner begun_mirror cosigner_in mirror_log_in
begins_one h first cosigner mirror = go (number_at w8 (at first 0)) cosigner mirror
  where
    go : (r : Result (ℕ × At) Short)
        → IsSome (option_map (λ x. new_cosigner h x.0 x.1) (first_by_tag r))
        → IsSome (option_map new_mirror (option_and_then (λ id. anchor_or_none (anchor_of id))
        (tagged mirror_tag (vector_at w8) r))) → ⊥
    go (Ok tag) one other = one_tag (λ x. new_cosigner h x.0 x.1) new_mirror
        (λ id. anchor_or_none (anchor_of id)) tag.0
        (option_and_then founded (whole_of (cosigner_at false tag.1)))
        (option_and_then founded (whole_of (cosigner_at true tag.1)))
        (whole_of (vector_at w8 tag.1)) one other
    go (Err short) one other = absurd cc

-- ---- whole files

one_kind : (h : HashFunction) (list : List Text) → BeginsKind (cosigner_fold h) list
    → BeginsKind (mirror_fold h) list → ⊥
one_kind h [] cosigner mirror = cosigner
one_kind h (first ∷ rest) cosigner mirror = begins_one h first cosigner mirror

-- a file that is read as a cosigner's isn't read as a mirror's
pub cosigner_is_no_mirror : (h : HashFunction) (bytes : Text) (cosigner : FoundCosigner)
    (mirror : FoundMirror) → cosigner_read h bytes ≡ Ok cosigner → mirror_read h bytes ≡ Ok mirror
    → ⊥
cosigner_is_no_mirror h bytes cosigner mirror first second =
    one_kind h (walk_of bytes).records (read_begins (cosigner_fold h) bytes cosigner first).1
    (read_begins (mirror_fold h) bytes mirror second).1
