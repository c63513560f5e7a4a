-- Signatures and proofs are encoded as the bytes from which they were read, and each encoding is
-- read again.
use Rattle.std.proofs.Common.{◌≡◌, ℕ, ◌+◌, ◌-◌, ◌^◌, ◌<◌, true, List, [], ◌++◌, length, Result, Ok}
use Rattle.std.proofs.Common.{Err, IfOk, refl, sym, ap, subst, ◌∙◌, append_assoc, arith}
use Rattle.std.proofs.Common.{eqb-true}
use Rattle.std.specs.Prelude.{if◌then◌else◌, ◌==◌, OnOk, IsOk}
use Rattle.std.specs.List.{flat_map, AllByRecursion}
use Rattle.std.specs.Int.{w8, w16, w64}
use Rattle.std.proofs.lemmas.List.{length-append, nil_from_length}
use Rattle.byte_formats.specs.Types.{Hash, Text}
use Rattle.byte_formats.specs.Offsets.{At, IsBytes, at, has_bytes}
use Rattle.byte_formats.specs.Readings.{◌>>=◌, discarded, tested_at, Gives}
use Rattle.byte_formats.specs.Lists.{up_to_end}
use Rattle.byte_formats.specs.Forms.{IsForm, Anything, Nothing, FitsBoth}
use Rattle.byte_formats.proofs.Steps.{bind_ok, pass_ok, ok_is, IsBytes-back, discarded_ok}
use Rattle.byte_formats.proofs.Steps.{has_bytes-some, some-has_bytes}
use Rattle.byte_formats.proofs.FormLaws.{fits_form, then_form, mapped_form, tested_form}
use Rattle.byte_formats.proofs.FormLaws.{lifted_form}
use Rattle.byte_formats.proofs.FormLaws.{to_end_takes, to_end_again}
use Rattle.byte_formats.proofs.FormLists.{many_form, up_to_end_drains}
use Rattle.tls_wire.specs.Encoding.{number, vector, hashes, AreHashes}
use Rattle.tls_wire.proofs.Numbers.{wide8, wide16, word_form}
use Rattle.tls_wire.proofs.Vectors.{vector_form}
use Rattle.tls_wire.proofs.Hashes.{hashes_form}
use Rattle.mtc_proof.specs.Proofs.{SigParts, signature_text, IsMtcSignature, AreSignatures}
use Rattle.mtc_proof.specs.Proofs.{ProofParts, proof_text, IsProof}
use Rattle.mtc_proof.specs.Reading.{of_short, of_hashes, word_at, text_at, path_at, id_at}
use Rattle.mtc_proof.specs.Reading.{to_signature, mtc_signature_at, checked_signatures, to_proof}
use Rattle.mtc_proof.specs.Reading.{proof_parts_at, inside_list, proof_in}
use Rattle.mtc_proof.specs.Views.{proof_parts}
use Rattle.mtc_proof.specs.declared.proof.Proof.{Proof}
use Rattle.mtc_proof.specs.declared.fault.ProofError.{ProofError}
use Rattle.mtc_proof.specs.declared.fault.ProofError.TheVariants.{EmptyId, Trailing}

-- ---- one signature

abbrev IsShort : Text → Type 0
IsShort bytes = length bytes < 2 ^ 16

abbrev IsId : Text → Type 0
IsId id = (length id < 2 ^ 8) × (has_bytes id ≡ true)

id_tested : (fault : ProofError) → IsForm (vector w8) IsId Anything
    (tested_at has_bytes fault (text_at w8))
id_tested fault =
    tested_form (lifted_form (vector_form w8 (2 ^ 8) wide8) of_short) has_bytes fault

id_form : IsForm (vector w8) IsId Anything id_at
id_form = record {
  takes = λ a x b h e. (id_tested (EmptyId a.place)).takes a x b h e;
  again = λ x p rest f q. (id_tested (EmptyId p)).again x p rest f q;
}

long_form : IsForm (vector w16) IsShort Anything (text_at w16)
long_form = lifted_form (vector_form w16 (2 ^ 16) wide16) of_short

abbrev from_signature : SigParts → Text × Text
from_signature s = (s.cosigner, s.signature)

signature_to : (s : SigParts) → FitsBoth IsId IsShort (from_signature s) → IsMtcSignature s
signature_to s f = record {
  some = has_bytes-some s.cosigner f.0.1;
  cosigner =
      f.0.0;
  signature = f.1;
}

signature_from : (s : SigParts) → IsMtcSignature s → FitsBoth IsId IsShort (from_signature s)
signature_from s f = ((f.cosigner, some-has_bytes s.cosigner f.some), f.signature)

pub signature_form : IsForm signature_text IsMtcSignature Anything mtc_signature_at
unfolding mtc_signature_at
signature_form =
    fits_form (mapped_form (then_form id_form long_form) to_signature from_signature
    (λ x f. refl) (λ s f. refl)) signature_to signature_from

-- ---- signatures up to the end

pub signature_some : (s : SigParts) → IsMtcSignature s → 0 < length (signature_text s)
signature_some s f =
    omega (
      arith,
      length-append (vector w8 s.cosigner) (vector w16 s.signature),
      length-append (number w8 (length s.cosigner)) s.cosigner,
      f.some,
    )

pub list_form : IsForm (flat_map signature_text) (AllByRecursion IsMtcSignature) Nothing
    (up_to_end mtc_signature_at)
list_form = many_form signature_form signature_some

pub checked_only : (a : At) (done : Unit {0}) → IsBytes a.rest → checked_signatures a ≡ Ok done
    → AreSignatures a.rest
checked_only a done h e =
    let s = bind_ok (discarded (up_to_end mtc_signature_at a)) (λ (end : At). Ok tt) done e in
    let t = discarded_ok (up_to_end mtc_signature_at a) s.0 s.1 in
    let known = to_end_takes list_form a t.0 s.0 h t.1
    (up_to_end_drains signature_form signature_some a t.0 s.0 h t.1) in
    record { list = t.0; each = known.1; encoded = known.0 }

pub checked_again : (place : ℕ) (bytes : Text) → AreSignatures bytes
    → checked_signatures (record { place = place; rest = bytes }) ≡ Ok tt
checked_again place bytes f =
    ap (λ (c : Text). checked_signatures (record { place = place; rest = c })) f.encoded
    ∙ rw (to_end_again list_form refl f.list place f.each) refl

-- ---- proofs

abbrev Four : Type 0
Four = ℕ × (ℕ × (List Hash × Text))

abbrev IsWord : ℕ → Type 0
IsWord n = n < 2 ^ 64

abbrev AreFour : Four → Type 0
AreFour = FitsBoth IsWord (FitsBoth IsWord (FitsBoth AreHashes IsShort))

start_form : IsForm (number w64) IsWord Anything word_at
start_form = lifted_form word_form of_short

path_form : IsForm hashes AreHashes Anything path_at
path_form = lifted_form hashes_form of_hashes

abbrev from_proof : ProofParts → Four
from_proof p = (p.start, (p.end, (p.path, p.signatures)))

-- The parts, whose signatures aren't read.
pub parts_form : IsForm proof_text (λ p. AreFour (from_proof p)) Anything proof_parts_at
unfolding proof_parts_at
parts_form =
    mapped_form (then_form start_form (then_form start_form (then_form path_form long_form)))
    to_proof from_proof (λ x f. refl) (λ p f. refl)

-- All before the signatures.
abbrev prefix : ProofParts → Text
prefix p = number w64 p.start ++ (number w64 p.end
    ++ (hashes p.path ++ number w16 (length p.signatures)))

regrouped : (p : ProofParts) → proof_text p ≡ prefix p ++ p.signatures
regrouped p = simp append_assoc

proof_to : (p : ProofParts) → AreFour (from_proof p) → AreSignatures p.signatures → IsProof p
proof_to p f list = record {
  start = f.0;
  end = f.1.0;
  path = f.1.1.0;
  short =
      f.1.1.1;
  signatures = list;
}

pub proofs_only : (bytes : Text) (p : ProofParts) → IsBytes bytes → proof_in bytes ≡ Ok p
    → (bytes ≡ proof_text p) × IsProof p
unfolding proof_in
proofs_only bytes p h e =
    let s = bind_ok (proof_parts_at (at bytes 0)) (λ (x : ProofParts
    × At). checked_signatures (inside_list x) >>= λ (done : Unit {0}). if length x.1.rest == 0
    then Ok x.0 else Err Trailing) p e in
    let q : ProofParts = s.0.0 in
    let t = bind_ok (checked_signatures (inside_list s.0))
    (λ (done : Unit {0}). if length s.0.1.rest == 0 then Ok q else Err Trailing) p s.2 in
    let g = pass_ok (length s.0.1.rest == 0) (Ok q) Trailing p t.2 in
    let none : s.0.1.rest ≡ [] = nil_from_length s.0.1.rest (eqb-true (length s.0.1.rest) 0 g.0) in
    let known = to_end_takes parts_form (at bytes 0) q s.0.1 h s.1 none in
    let inner : IsBytes q.signatures =
    IsBytes-back (prefix q) q.signatures (subst IsBytes (known.0 ∙ regrouped q) h) in
    let list = checked_only (inside_list s.0) t.0 inner t.1 in
    let P : ProofParts → Type 0 = λ v. (bytes ≡ proof_text v) × IsProof v in
    subst P (ok_is ProofError q p g.1) (known.0, proof_to q known.1 list)

pub proofs_again : (p : ProofParts) → IsProof p → proof_in (proof_text p) ≡ Ok p
unfolding proof_in
proofs_again p f =
    let end : At = record { place = 0 + length (proof_text p); rest = [] } in
    let step = to_end_again parts_form tt p 0 (f.start, (f.end, (f.path, f.short))) in
    let list : checked_signatures (inside_list (p, end)) ≡ Ok tt =
    checked_again (end.place - length p.signatures) p.signatures f.signatures in
    rw step (rw list refl)

pub one_proof : (p q : ProofParts) → IsProof p → IsProof q → proof_text p ≡ proof_text q → p ≡ q
one_proof p q x y same = ok_is ProofError p q (sym (proofs_again p x)
    ∙ (ap proof_in same ∙ proofs_again q y))

-- ---- an answer that is exactly what is wanted

pub gives_found : (bytes : Text) (r : Result Proof ProofError) → IsBytes bytes
    → Gives proof_parts r (proof_in bytes)
    → IfOk r (λ p. (bytes ≡ proof_text (proof_parts p)) × IsProof (proof_parts p))
gives_found bytes (Ok p) h e = proofs_only bytes (proof_parts p) h e
gives_found bytes (Err fault) h e = tt

pub gives_only : (bytes : Text) (r : Result Proof ProofError) → Gives proof_parts r (proof_in bytes)
    → (p : ProofParts) → IsProof p → bytes ≡ proof_text p → Gives proof_parts r (Ok p)
gives_only bytes r given p f same =
    let P : Result ProofParts ProofError → Type 0 = λ wanted. Gives proof_parts r wanted in
    subst P (ap proof_in same ∙ proofs_again p f) given

-- ---- a list of signatures

pub list_found : (bytes : Text) (r : Result (Unit {0}) ProofError) → IsBytes bytes
    → Gives (λ x. x) r (checked_signatures (at bytes 0)) → OnOk r (AreSignatures bytes)
list_found bytes (Ok done) h e = checked_only (at bytes 0) done h e
list_found bytes (Err fault) h e = tt

pub list_only : (bytes : Text) (r : Result (Unit {0}) ProofError)
    → Gives (λ x. x) r (checked_signatures (at bytes 0)) → AreSignatures bytes → IsOk r
list_only bytes (Ok done) e list = refl
list_only bytes (Err fault) e list = let read = checked_again 0 bytes list in absurd cc
