-- Which cosigners of a store count for a proof, and whether its rules are met.
use Rattle.std.specs.Prelude.{ℕ, ◌+◌, ◌^◌, ◌==◌, ◌&&◌, Bool, not, nat_le, List, [], ◌∷◌, length}
use Rattle.std.specs.Prelude.{Option, Some, option_map, if◌then◌else◌}
use Rattle.std.specs.Int.{bit_at}
use Rattle.std.specs.List.{list_any, count_by, position}
use Rattle.std.specs.Option.{is_none}
use Rattle.std.specs.Str.{bytes_eq}
use Rattle.byte_formats.specs.Offsets.{at}
use Rattle.byte_formats.specs.Types.{Hash, Text}
use Rattle.hss_core.specs.Hss.{hss_refusal}
use Rattle.mtc_proof.specs.Inputs.{signed_text}
use Rattle.mtc_proof.specs.Proofs.{SigParts, ProofParts}
use Rattle.mtc_proof.specs.Reading.{signatures_left}
use Rattle.policy_core.specs.declared.cosigners.Known.{Known}
use Rattle.policy_core.specs.declared.rules.Rule.{Rule}
use Rattle.policy_core.specs.declared.store.Store.{Store}

-- The signature has the cosigner's id, and verifies these bytes under its key (RFC 8554, 6.3).
abbrev pub is_signature_of : Known → Text → SigParts → Bool
is_signature_of k text s =
    bytes_eq s.cosigner k.id && is_none (hss_refusal k.key text s.signature)

-- The proof has a signature of the cosigner over its interval with this hash.
abbrev pub has_signed : Text → ProofParts → Hash → Known → Bool
has_signed log p hash k =
    list_any (is_signature_of k (signed_text k.id log p.start p.end hash))
    (signatures_left (at p.signatures 0))

-- The cosigner at this index stands in some rule.
abbrev pub is_named : List Rule → ℕ → Bool
is_named rules place = list_any (λ r. list_any (λ n. n == place) r.cosigners) rules

-- The cosigner at this index counts: it stands in some rule, and has signed.
abbrev pub counts : Store → ProofParts → Hash → ℕ → Known → Bool
counts store p hash place k = is_named store.rules place && has_signed store.log p hash k

-- The indices from this one on at which an item passes, as a set of bits: 2 ^ i for index i.
abbrev pub set_from : {A : Type 0} → (ℕ → A → Bool) → ℕ → List A → ℕ
set_from passes place [] = 0
set_from passes place (x ∷ xs) =
    (if passes place x then 2 ^ place else 0) + set_from passes (place + 1) xs

-- The cosigners that count, as a set of bits.
unfoldable pub counted : Store → ProofParts → Hash → ℕ
counted store p hash = set_from (counts store p hash) 0 store.cosigners

-- The set has this index.
abbrev pub is_in_set : ℕ → ℕ → Bool
is_in_set set place = bit_at set place == 1

-- At least as many of the rule's cosigners are in the set as it asks for.
abbrev pub is_met : ℕ → Rule → Bool
is_met set r = nat_le r.count (count_by (is_in_set set) r.cosigners)

-- The first rule that isn't met, counted from 1. It is 0 if there is no rule.
abbrev pub first_unmet : ℕ → List Rule → Option ℕ
first_unmet set rules =
    if length rules == 0 then Some 0
    else option_map (λ i. i + 1) (position (λ r. not (is_met set r)) rules)
