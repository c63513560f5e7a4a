-- The export of a cosigner: what stands before its records, and the records after the first one.
use Rattle.std.proofs.Common.{◌≡◌, ℕ, min, List, [], ◌∷◌, ◌++◌, length, drop, Option, Some}
use Rattle.std.proofs.Common.{None, IfSome, option_map, Ok, Err, refl, ap, subst}
use Rattle.std.specs.Io.KnownBytes.{Appends}
use Rattle.std.proofs.KnownBytes.{Appends-trans}
use Rattle.byte_formats.specs.Types.{HashFunction, Text}
use Rattle.byte_formats.specs.Offsets.{IsBytes}
use Rattle.journal_core.specs.Copies.{sized, sized_text}
use Rattle.journal_core.specs.Ends.{StandBetween, durable_of}
use Rattle.journal_core.specs.Folds.{state_after}
use Rattle.journal_core.specs.Format.{AreRecordsAt, end_offset}
use Rattle.journal_core.proofs.Copies.{following_first, first_are_bytes, prefix_following}
use Rattle.journal_core.proofs.Copies.{prefix_of_prefix}
use Rattle.mtc_io.specs.Streams.{AppendsPrefix}
use Rattle.hss_keys.specs.Keys.{public_of}
use Rattle.cosigner_core.specs.Exports.{export_text, prefix_text, records_text}
use Rattle.cosigner_core.specs.Folds.{CosignerState, cosigner_of}
use Rattle.cosigner_core.specs.DurableRecords.{IsDurableAs}
use Rattle.cosigner_core.proofs.Names.{first-long}
use Rattle.cosigner_core.specs.Records.{first_record_length}

abbrev pub prefix_of : CosignerState → Text
prefix_of s = prefix_text s.id s.log (public_of s.key.key)

-- the records of an export are encoded as the copies of a journal's
pub same_text : (bodies : List Text) → sized_text bodies ≡ records_text bodies
same_text [] = refl
same_text (body ∷ bodies) = ap (λ (rest : Text). sized body ++ rest) (same_text bodies)

-- this is the end after the first record of such a cosigner, or that of its journal
abbrev pub IsFirstEnd : CosignerState → ℕ → ℕ → Type 0
IsFirstEnd s from end = (first : Text)
    → length first ≡ first_record_length s.id s.log s.key.key.low
    → from ≡ min (end_offset (first ∷ [])) end

module _ (h : HashFunction) (s : CosignerState) (from end : ℕ) (is : IsFirstEnd s from end) where
  -- the records that are exported
  second : (bytes : Text) (list : List Text) → IsBytes bytes → AreRecordsAt bytes 16 list
      → end ≡ end_offset list → cosigner_of h list ≡ Ok s
      → StandBetween bytes from end (drop 1 list)
  unfolding state_after
  second bytes [] are_bytes there last made = let wrong : Err 0 ≡ Ok s = made in absurd cc
  second bytes (first ∷ bodies) are_bytes there last made =
      following_first bytes first bodies from end there last (is first
      (first-long h first bodies s (first_are_bytes bytes first bodies are_bytes there) made))

module _ (h : HashFunction) (s : CosignerState) (from end : ℕ) (is : IsFirstEnd s from end)
    (contents : Option Text) (a b c : Option (List ℕ))
    (kept : (bytes : Text) → contents ≡ Some bytes → IsDurableAs h s end bytes)
    (are_bytes : (bytes : Text) → contents ≡ Some bytes → IsBytes bytes)
    (prefix : Appends a b (prefix_of s)) where
  -- of the records that are copied to what is exported
  exported : (P : Text → Type 0) (Q : List Text → Type 0)
      → ((list : List Text) → P (records_text (drop 1 list)) → Q list)
      → IfSome contents (λ bytes. (bodies : List Text) → StandBetween bytes from end bodies
      → P (sized_text bodies))
      → IfSome (option_map (durable_of end) contents) Q
  exported P Q then rest = go contents kept are_bytes rest
    where
      go : (o : Option Text) → ((bytes : Text) → o ≡ Some bytes → IsDurableAs h s end bytes)
          → ((bytes : Text) → o ≡ Some bytes → IsBytes bytes)
          → IfSome o (λ bytes. (bodies : List Text) → StandBetween bytes from end bodies
          → P (sized_text bodies))
          → IfSome (option_map (durable_of end) o) Q
      go None keeps are copied = tt
      go (Some bytes) keeps are copied =
          let k = keeps bytes refl in
          let list = durable_of end bytes in
          let there = second h s from end is bytes list (are bytes refl) k.is_durable.there
          k.is_durable.last k.made in
          then list (subst P (same_text (drop 1 list)) (copied (drop 1 list) there))

  pub export_whole : IfSome contents
      (λ bytes. (bodies : List Text) → StandBetween bytes from end bodies
      → Appends b c (sized_text bodies))
      → IfSome (option_map (durable_of end) contents) (λ list. Appends a c (export_text s list))
  export_whole rest = exported (Appends b c) (λ list. Appends a c (export_text s list))
      (λ list is. Appends-trans a b c (prefix_of s) (records_text (drop 1 list)) prefix is) rest

  pub export_prefix : IfSome contents (λ bytes. (bodies : List Text)
      → StandBetween bytes from end bodies → AppendsPrefix b c (sized_text bodies))
      → IfSome (option_map (durable_of end) contents)
      (λ list. AppendsPrefix a c (export_text s list))
  export_prefix rest = exported (AppendsPrefix b c)
      (λ list. AppendsPrefix a c (export_text s list))
      (λ list is. prefix_following a b c (prefix_of s) (records_text (drop 1 list)) prefix is) rest

-- A prefix of what stands before the records.
pub export_begun : (s : CosignerState) (contents : Option (List Text)) (a b : Option (List ℕ))
    → AppendsPrefix a b (prefix_of s)
    → IfSome contents (λ list. AppendsPrefix a b (export_text s list))
export_begun s None a b is = tt
export_begun s (Some list) a b is =
    prefix_of_prefix a b (prefix_of s) (records_text (drop 1 list)) is
