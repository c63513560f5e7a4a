-- Requests are encoded as the bytes from which they were read, and each encoding is read again.
use Rattle.std.proofs.Common.{◌≡◌, ℕ, ◌^◌, ◌<◌, true, List, length, Ok, Err, refl}
use Rattle.std.proofs.Common.{subst, eqb-true}
use Rattle.std.specs.Prelude.{if◌then◌else◌, ◌==◌}
use Rattle.std.specs.Int.{w8, w64}
use Rattle.std.proofs.lemmas.List.{nil_from_length}
use Rattle.byte_formats.specs.Types.{Hash, Text}
use Rattle.byte_formats.specs.Offsets.{At, IsBytes, at, has_bytes}
use Rattle.byte_formats.specs.Readings.{Reading, both_at}
use Rattle.byte_formats.specs.Forms.{Anything, FitsBoth, IsForm, both, itself}
use Rattle.byte_formats.proofs.Steps.{bind_ok, has_bytes-some, ok_is, pass_ok, some-has_bytes}
use Rattle.byte_formats.proofs.FormLaws.{fits_form, lifted_form, mapped_form, tested_form}
use Rattle.byte_formats.proofs.FormLaws.{then_form}
use Rattle.byte_formats.proofs.FormLaws.{to_end_again, to_end_takes}
use Rattle.tls_wire.specs.Encoding.{AreHashes, hashes, number, vector}
use Rattle.tls_wire.proofs.Hashes.{hashes_form}
use Rattle.tls_wire.proofs.Numbers.{bytes_form, wide8, word_form}
use Rattle.tls_wire.proofs.Vectors.{vector_form}
use Rattle.cosigner_core.specs.declared.fault.FormError.{FormError}
use Rattle.cosigner_core.specs.declared.fault.FormError.TheVariants.{EmptyId, Trailing}
use Rattle.cosigner_core.specs.Reading.{advance_at, advance_in, hash_at, log_id_at, hashes_fault}
use Rattle.cosigner_core.specs.Reading.{short_fault, proof_at, subtree_at, subtree_in, to_advance}
use Rattle.cosigner_core.specs.Reading.{to_subtree, whole_in, u64_at}
use Rattle.cosigner_core.specs.Requests.{AdvanceParts, IsAdvance, IsSubtreeRequest, SubtreeParts}
use Rattle.cosigner_core.specs.Requests.{advance_text, subtree_text}

-- ---- the parts

abbrev IsId : Text → Type 0
IsId id = (length id < 2 ^ 8) × (has_bytes id ≡ true)

abbrev pub IsWord : ℕ → Type 0
IsWord n = n < 2 ^ 64

abbrev pub IsHash : Text → Type 0
IsHash hash = length hash ≡ 32

id_form : IsForm (vector w8) IsId Anything log_id_at
id_form = tested_form (lifted_form (vector_form w8 (2 ^ 8) wide8) short_fault) has_bytes EmptyId

pub size_form : IsForm (number w64) IsWord Anything u64_at
size_form = lifted_form word_form short_fault

pub hash_form : IsForm itself IsHash Anything hash_at
hash_form = lifted_form (bytes_form 32) short_fault

pub proof_form : IsForm hashes AreHashes Anything proof_at
proof_form = lifted_form hashes_form hashes_fault

-- ---- to hold a larger log

abbrev pub Root : Type 0
Root = Text × List Hash

abbrev pub root_text : Root → Text
root_text = both itself hashes

abbrev pub IsRoot : Root → Type 0
IsRoot = FitsBoth IsHash AreHashes

pub sized_form : IsForm (both (number w64) root_text) (FitsBoth IsWord IsRoot) Anything
    (both_at u64_at (both_at hash_at proof_at))
sized_form = then_form size_form (then_form hash_form proof_form)

abbrev Advance : Type 0
Advance = Text × (ℕ × Root)

abbrev from_advance : AdvanceParts → Advance
from_advance r = (r.log, (r.size, (r.root, r.proof)))

abbrev AreAdvance : Advance → Type 0
AreAdvance = FitsBoth IsId (FitsBoth IsWord IsRoot)

advance_to : (r : AdvanceParts) → AreAdvance (from_advance r) → IsAdvance r
advance_to r f = record {
  some = has_bytes-some r.log f.0.1;
  log = f.0.0;
  size = f.1.0;
  root = f.1.1.0;
  proof = f.1.1.1;
}

advance_from : (r : AdvanceParts) → IsAdvance r → AreAdvance (from_advance r)
advance_from r f = ((f.log, some-has_bytes r.log f.some), (f.size, (f.root, f.proof)))

pub advance_form : IsForm advance_text IsAdvance Anything advance_at
unfolding advance_at
advance_form =
    fits_form (mapped_form (then_form id_form sized_form) to_advance from_advance (λ x f. refl)
    (λ r f. refl)) advance_to advance_from

-- ---- to sign a subtree

pub spanned_form : IsForm (both (number w64) (both (number w64) root_text))
    (FitsBoth IsWord (FitsBoth IsWord IsRoot)) Anything
    (both_at u64_at (both_at u64_at (both_at hash_at proof_at)))
spanned_form = then_form size_form sized_form

abbrev Subtree : Type 0
Subtree = Text × (ℕ × (ℕ × Root))

abbrev from_subtree : SubtreeParts → Subtree
from_subtree r = (r.log, (r.start, (r.end, (r.hash, r.proof))))

abbrev AreSubtree : Subtree → Type 0
AreSubtree = FitsBoth IsId (FitsBoth IsWord (FitsBoth IsWord IsRoot))

subtree_to : (r : SubtreeParts) → AreSubtree (from_subtree r) → IsSubtreeRequest r
subtree_to r f = record {
  some = has_bytes-some r.log f.0.1;
  log = f.0.0;
  start = f.1.0;
  end = f.1.1.0;
  hash = f.1.1.1.0;
  proof = f.1.1.1.1;
}

subtree_from : (r : SubtreeParts) → IsSubtreeRequest r → AreSubtree (from_subtree r)
subtree_from r f = ((f.log, some-has_bytes r.log f.some), (f.start, (f.end, (f.hash, f.proof))))

pub subtree_form : IsForm subtree_text IsSubtreeRequest Anything subtree_at
unfolding subtree_at
subtree_form =
    fits_form (mapped_form (then_form id_form spanned_form) to_subtree from_subtree (λ x f. refl)
    (λ r f. refl)) subtree_to subtree_from

-- ---- all of the bytes

module _ {X : Type 0} {encode : X → Text} {Fits : X → Type 0} {read : Reading X FormError}
    (form : IsForm encode Fits Anything read) where
  whole_only : (bytes : Text) (r : X) → IsBytes bytes → whole_in read bytes ≡ Ok r
      → (bytes ≡ encode r) × Fits r
  whole_only bytes r h e =
      let s = bind_ok (read (at bytes 0)) (λ (x : X × At). if length x.1.rest == 0 then Ok x.0
      else Err Trailing) r e in
      let g = pass_ok (length s.0.1.rest == 0) (Ok s.0.0) Trailing r s.2 in
      let P : X → Type 0 = λ x. (bytes ≡ encode x) × Fits x in
      subst P (ok_is FormError s.0.0 r g.1) (to_end_takes form (at bytes 0) s.0.0 s.0.1 h s.1
      (nil_from_length s.0.1.rest (eqb-true (length s.0.1.rest) 0 g.0)))

  whole_again : (r : X) → Fits r → whole_in read (encode r) ≡ Ok r
  whole_again r f = rw (to_end_again form tt r 0 f) refl

pub advance_only : (bytes : Text) (r : AdvanceParts) → IsBytes bytes → advance_in bytes ≡ Ok r
    → (bytes ≡ advance_text r) × IsAdvance r
unfolding advance_in
advance_only = whole_only advance_form

pub advance_again : (r : AdvanceParts) → IsAdvance r → advance_in (advance_text r) ≡ Ok r
unfolding advance_in
advance_again = whole_again advance_form

pub subtree_only : (bytes : Text) (r : SubtreeParts) → IsBytes bytes → subtree_in bytes ≡ Ok r
    → (bytes ≡ subtree_text r) × IsSubtreeRequest r
unfolding subtree_in
subtree_only = whole_only subtree_form

pub subtree_again : (r : SubtreeParts) → IsSubtreeRequest r → subtree_in (subtree_text r) ≡ Ok r
unfolding subtree_in
subtree_again = whole_again subtree_form
