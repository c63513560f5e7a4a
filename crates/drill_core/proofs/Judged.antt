-- The certificates of a drill are accepted by all three cosigners.
use Rattle.std.proofs.Common.{◌≡◌, ◌∙◌, ◌+◌, ◌<◌, ◌≤◌, ◌^◌, ◌||◌, ℕ, Bool, None}
use Rattle.std.proofs.Common.{true, false, List, [], ◌∷◌, length, Option}
use Rattle.std.proofs.Common.{Ok, inr, refl, ap, subst, arith}
use Rattle.std.specs.Prelude.{if◌then◌else◌}
use Rattle.std.specs.List.{AllByRecursion, IsDistinct, flat_map, list_any}
use Rattle.std.specs.Option.{is_none}
use Rattle.byte_formats.specs.Types.{Hash, HashFunction, Text}
use Rattle.tree_core.specs.Tree.{tree_hash}
use Rattle.tree_proofs.specs.declared.checkpoint.Checkpoint.{Checkpoint}
use Rattle.hss_core.specs.Hss.{Verifies}
use Rattle.hss_keys.specs.Keys.{SigningKey, public_of}
use Rattle.mtc_proof.specs.Inputs.{signed_text}
use Rattle.mtc_proof.specs.Proofs.{IsMtcSignature, ProofParts, SigParts, signature_text}
use Rattle.cosigner_core.specs.Folds.{CosignerState}
use Rattle.log_entry.specs.declared.entry.Form.TheVariants.{One}
use Rattle.policy_core.specs.Counting.{counted, counts, has_signed, is_signature_of}
use Rattle.policy_core.specs.Stores.{IsValid}
use Rattle.policy_core.specs.Acceptance.{accepted_by}
use Rattle.policy_core.specs.declared.answer.By.{By}
use Rattle.policy_core.specs.declared.answer.By.TheVariants.{Cosigners}
use Rattle.policy_core.proofs.Sets.{signed_as_encoded}
use Rattle.authority_core.specs.Acceptance.{IsSetUpFor}
use Rattle.authority_core.specs.Certificates.{proof_for}
use Rattle.drill_parties.specs.Cosigners.{IsSignatureBy, Paired}
use Rattle.drill_parties.specs.Ids.{drill_log_id, id_of}
use Rattle.drill_core.specs.Entries.{entries_to, log_with}
use Rattle.drill_core.specs.Played.{IsCosignerWithin, cosigner_arcs}
use Rattle.drill_core.specs.Stores.{IsAcceptedByAll, IsDrillEntry, StoresAcceptNow, drill_public}
use Rattle.drill_core.specs.Stores.{drill_known, drill_store}
use Rattle.drill_core.proofs.EntryCounts.{entries_length}
use Rattle.drill_core.proofs.Requested.{is_entry}

-- ---- the store

is_valid : (number : ℕ) → IsValid (drill_store number)
unfolding IsDistinct
is_valid number = record {
  name = refl;
  few = omega arith;
  cosigners = ((refl, (refl, tt)), ((refl, tt), (tt, tt)));
  rules = (
    record {
      indices = (omega arith, (omega arith, (omega arith, tt)));
      different = ((refl, (refl, tt)), ((refl, tt), (tt, tt)));
      some = omega arith;
      most = omega arith;
    },
    tt,
  );
  subtrees = tt;
  different = tt;
  revoked = tt;
}

-- ---- signatures

-- a signature under the id 32473.N
abbrev under : ℕ → Text → SigParts
under last signature = record { cosigner = id_of last; signature = signature }

abbrev three_of : Text → Text → Text → List SigParts
three_of a b c = under 2 a ∷ under 3 b ∷ under 4 c ∷ []

abbrev text_of_three : Text → Text → Text → Text
text_of_three a b c = flat_map signature_text (three_of a b c)

is_signature : (last : ℕ) (signature : Text) → length signature ≤ 17748
    → IsMtcSignature (under last signature)
is_signature last signature short =
    record { some = omega arith; cosigner = omega arith; signature = omega (arith, short) }

-- what the cosigner 32473.N signs of a proof's interval
abbrev text_by : ℕ → ProofParts → Hash → Text
text_by last p hash = signed_text (id_of last) drill_log_id p.start p.end hash

-- the cosigner's signature over the proof's interval
abbrev SignsAs : ℕ → ℕ → ProofParts → Hash → Text → Type 0
SignsAs number last p hash signature =
    Verifies (drill_public last number) (text_by last p hash) signature

first_signs : (number : ℕ) (p : ProofParts) (hash : Hash) (a b c : Text)
    → AllByRecursion IsMtcSignature (three_of a b c)
    → p.signatures ≡ text_of_three a b c → SignsAs number 2 p hash a
    → has_signed drill_log_id p hash (drill_known number 2) ≡ true
first_signs number p hash a b c each encoded signs =
    signed_as_encoded drill_log_id p hash (drill_known number 2) (three_of a b c) each encoded
    ∙ ap (λ (r : Option _). is_none r
    || list_any (is_signature_of (drill_known number 2) (text_by 2 p hash))
    (under 3 b ∷ under 4 c ∷ [])) signs

second_signs : (number : ℕ) (p : ProofParts) (hash : Hash) (a b c : Text)
    → AllByRecursion IsMtcSignature (three_of a b c)
    → p.signatures ≡ text_of_three a b c → SignsAs number 3 p hash b
    → has_signed drill_log_id p hash (drill_known number 3) ≡ true
second_signs number p hash a b c each encoded signs =
    signed_as_encoded drill_log_id p hash (drill_known number 3) (three_of a b c) each encoded
    ∙ ap (λ (r : Option _). is_none r
    || list_any (is_signature_of (drill_known number 3) (text_by 3 p hash)) (under 4 c ∷ []))
    signs

third_signs : (number : ℕ) (p : ProofParts) (hash : Hash) (a b c : Text)
    → AllByRecursion IsMtcSignature (three_of a b c)
    → p.signatures ≡ text_of_three a b c → SignsAs number 4 p hash c
    → has_signed drill_log_id p hash (drill_known number 4) ≡ true
third_signs number p hash a b c each encoded signs =
    signed_as_encoded drill_log_id p hash (drill_known number 4) (three_of a b c) each encoded
    ∙ ap (λ (r : Option _). is_none r || false) signs

three_bits : (x y z : Bool) → x ≡ true → y ≡ true → z ≡ true
    → (if x then 2 ^ 0 else 0) + ((if y then 2 ^ (0 + 1) else 0)
    + ((if z then 2 ^ (0 + 1 + 1) else 0) + 0)) ≡ 7
three_bits x y z first second third = rw (first, second, third) refl

-- all three count
all_count : (number : ℕ) (p : ProofParts) (hash : Hash) (a b c : Text)
    → length a ≤ 17748 → length b ≤ 17748 → length c ≤ 17748
    → p.signatures ≡ text_of_three a b c
    → SignsAs number 2 p hash a → SignsAs number 3 p hash b → SignsAs number 4 p hash c
    → counted (drill_store number) p hash ≡ 7
unfolding counted
all_count number p hash a b c short_a short_b short_c encoded first second third =
    let each : AllByRecursion IsMtcSignature (three_of a b c) =
    (is_signature 2 a short_a, (is_signature 3 b short_b, (is_signature 4 c short_c, tt))) in
    three_bits (counts (drill_store number) p hash 0 (drill_known number 2))
    (counts (drill_store number) p hash (0 + 1) (drill_known number 3))
    (counts (drill_store number) p hash (0 + 1 + 1) (drill_known number 4))
    (first_signs number p hash a b c each encoded first)
    (second_signs number p hash a b c each encoded second)
    (third_signs number p hash a b c each encoded third)

-- ---- the judgement

set_up : (number index : ℕ) (p : ProofParts) (hash : Hash)
    → counted (drill_store number) p hash ≡ 7
    → IsSetUpFor drill_log_id index One p hash (drill_store number)
set_up number index p hash all = record {
  valid = is_valid number;
  log = refl;
  form = refl;
  not_revoked = tt;
  no_other = tt;
  enough = inr (record { some = omega arith; met = rw all (omega arith, tt) });
}

by_all : (number : ℕ) (p : ProofParts) (hash : Hash) → counted (drill_store number) p hash ≡ 7
    → accepted_by (drill_store number) p hash ≡ Cosigners 7
unfolding accepted_by
by_all number p hash all = ap Cosigners all

-- the certificate of an entry with signatures of all three is accepted
accepted_now : (h : HashFunction) (number index size : ℕ) (marks : List ℕ) (a b c cert : Text)
    → IsDrillEntry h (log_with h size marks) index
    → StoresAcceptNow h (log_with h size marks) index (text_of_three a b c) cert
    → counted (drill_store number) (proof_for h (log_with h size marks) index 0
    (length (entries_to h size)) (text_of_three a b c))
    (tree_hash h (entries_to h size)) ≡ 7
    → IsAcceptedByAll h number index size cert
accepted_now h number index size marks a b c cert entry accepts all =
    let p : ProofParts = proof_for h (log_with h size marks) index 0 (length (entries_to h size))
    (text_of_three a b c) in
    let hash : Hash = tree_hash h (entries_to h size) in
    accepts entry (drill_store number) (set_up number index p hash all)
    ∙ ap (λ (by : By). Ok (record { index = index; start = 0; end = p.end; hash = hash; by = by }))
    (by_all number p hash all)
    ∙ ap (λ (n : ℕ). Ok (record {
      index = index;
      start = 0;
      end = n;
      hash = hash;
      by = Cosigners 7;
    })) (entries_length h size)

-- ---- what the cosigners have signed

-- The signature stands under the id 32473.N of the drill, and verifies under its key.
pub record SignsUnder (number size : ℕ) (hash : Hash) (last : ℕ) (part : SigParts) : Type 0 where
  pub cosigner : part.cosigner ≡ id_of last
  pub verifies : Verifies (drill_public last number)
      (signed_text (id_of last) drill_log_id 0 size hash) part.signature
  pub short : length part.signature ≤ 17748

pub signs_under : (number last count size : ℕ) (hash : Hash) (held : Checkpoint)
    (s : CosignerState) (part : SigParts) → IsCosignerWithin number last count held s
    → IsSignatureBy size hash s part → SignsUnder number size hash last part
signs_under number last count size hash held s part is by = record {
  cosigner = by.cosigner ∙ is.id;
  verifies = subst (λ (id : Text). Verifies (drill_public last number)
      (signed_text id drill_log_id 0 size hash) part.signature) is.id
      (subst (λ (id : Text). Verifies (drill_public last number)
      (signed_text s.id id 0 size hash) part.signature) is.log_id
      (subst (λ (k : SigningKey). Verifies (public_of k)
      (signed_text s.id s.log 0 size hash) part.signature) is.key by.verifies));
  short = by.short;
}

as_under : (last : ℕ) (part : SigParts) → part.cosigner ≡ id_of last
    → part ≡ under last part.signature
as_under last part is =
    ap (λ (id : Text). record { cosigner = id; signature = part.signature }) is

encoded_so : (a b c : SigParts) → a.cosigner ≡ id_of 2 → b.cosigner ≡ id_of 3
    → c.cosigner ≡ id_of 4
    → flat_map signature_text (a ∷ b ∷ c ∷ [])
    ≡ text_of_three a.signature b.signature c.signature
encoded_so a b c first second third =
    ap (λ (x : SigParts). flat_map signature_text (x ∷ b ∷ c ∷ [])) (as_under 2 a first)
    ∙ ap (λ (x : SigParts). flat_map signature_text (under 2 a.signature ∷ x ∷ c ∷ []))
    (as_under 3 b second)
    ∙ ap (λ (x : SigParts). flat_map signature_text
    (under 2 a.signature ∷ under 3 b.signature ∷ x ∷ [])) (as_under 4 c third)

-- The certificate of a round is accepted by all three.
pub is_accepted : (h : HashFunction) (number size index : ℕ) (marks : List ℕ)
    (signatures cert : Text) (parts : List SigParts)
    → Paired (SignsUnder number (length (entries_to h size)) (tree_hash h (entries_to h size)))
    cosigner_arcs parts
    → signatures ≡ flat_map signature_text parts
    → StoresAcceptNow h (log_with h size marks) index signatures cert
    → 1 ≤ index → index < size → size ≤ 64 → IsAcceptedByAll h number index size cert
is_accepted h number size index marks signatures cert [] are encoded accepts some below few =
    absurd are
is_accepted h number size index marks signatures cert (a ∷ []) are encoded accepts some below few =
    absurd are.1
is_accepted h number size index marks signatures cert (a ∷ b ∷ []) are encoded accepts some below
    few = absurd are.1.1
is_accepted h number size index marks signatures cert (a ∷ b ∷ c ∷ d ∷ ds) are encoded accepts some
    below few = absurd are.1.1.1
is_accepted h number size index marks signatures cert (a ∷ b ∷ c ∷ []) are encoded accepts some
    below few =
    let first = are.0 in
    let second = are.1.0 in
    let third = are.1.1.0 in
    let text = encoded ∙ encoded_so a b c first.cosigner second.cosigner third.cosigner in
    let all : Text = text_of_three a.signature b.signature c.signature in
    accepted_now h number index size marks a.signature b.signature c.signature cert
    (is_entry h size index marks some below few)
    (subst (λ (t : Text). StoresAcceptNow h (log_with h size marks) index t cert) text accepts)
    (all_count number (proof_for h (log_with h size marks) index 0 (length (entries_to h size))
    all) (tree_hash h (entries_to h size)) a.signature b.signature c.signature first.short
    second.short third.short refl first.verifies second.verifies third.verifies)
