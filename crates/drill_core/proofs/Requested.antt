-- The entries of a drill can be issued, and the log has them.
use Rattle.std.proofs.Common.{◌≡◌, ◌∙◌, ◌%◌, ◌^◌, ◌<◌, ◌≤◌, ◌==◌, ◌&&◌, ◌++◌, ℕ, zero, suc}
use Rattle.std.proofs.Common.{Bool, true, false, List, [], ◌∷◌, length, refl, ap, arith}
use Rattle.std.proofs.Common.{get_or, inl}
use Rattle.std.proofs.lemmas.Bool.{and_parts}
use Rattle.std.proofs.lemmas.Bool.Decides.{nat_tests}
use Rattle.std.proofs.lemmas.List.{get_or_append_left}
use Rattle.std.proofs.Math.Seq.{get_or-append_seam}
use Rattle.std.specs.Int.{to_be_bytes, w64}
use Rattle.std.specs.Fmt.{digits}
use Rattle.byte_formats.specs.Types.{HashFunction, Text}
use Rattle.tls_wire.specs.Arcs.{IsAnchorId, arc}
use Rattle.der_core.specs.Elements.{element}
use Rattle.cert_fields.specs.Grammar.{IsAlgorithm, IsBits, IsPublicKey}
use Rattle.cert_names.specs.Hosts.{is_host_name, is_label, labels_of}
use Rattle.authority_core.specs.Requests.{CanBeIssued}
use Rattle.drill_parties.specs.Ids.{drill_log_id}
use Rattle.drill_core.specs.Entries.{drill_entry, entries_to, host_of, key_of, log_with}
use Rattle.drill_core.specs.Entries.{request_for}
use Rattle.drill_core.specs.Stores.{IsDrillEntry}
use Rattle.drill_core.proofs.EntryCounts.{entries_length}

-- ---- what is so of all numbers below one

all_below : (ℕ → Bool) → ℕ → Bool
all_below passes zero = true
all_below passes (suc n) = passes n && all_below passes n

below_or_last : (passes : ℕ → Bool) (n i : ℕ) (b : Bool) → (i == n) ≡ b → i < suc n
    → passes n ≡ true → (i < n → passes i ≡ true) → passes i ≡ true
below_or_last passes n i true is below last before =
    let same : i ≡ n = grind (arith, nat_tests, is) in ap passes same ∙ last
below_or_last passes n i false is below last before =
    before (grind (arith, nat_tests, is, below))

one_below : (passes : ℕ → Bool) (n i : ℕ) → all_below passes n ≡ true → i < n
    → passes i ≡ true
unfolding all_below
one_below passes zero i all below = absurd (omega (arith, below))
one_below passes (suc n) i all below =
    let parts = and_parts (passes n) (all_below passes n) all in
    below_or_last passes n i (i == n) refl below parts.0 (one_below passes n i parts.1)

-- ---- names and keys

are_hosts : all_below (λ i. is_host_name (host_of i)) 64 ≡ true
unfolding host_of is_host_name labels_of is_label digits all_below
are_hosts = refl

algorithm : Text
algorithm = 0x30 ∷ 0x05 ∷ 0x06 ∷ 0x03 ∷ 0x2B ∷ 0x65 ∷ 0x70 ∷ []

is_algorithm : IsAlgorithm algorithm
unfolding element algorithm
is_algorithm = (
  (0x2B ∷ 0x65 ∷ 0x70 ∷ [], []),
  (
    (
      (
        record {
          arcs = (0x2B ∷ []) ∷ (0x65 ∷ []) ∷ (0x70 ∷ []) ∷ [];
          are_arcs = (
            record { ends = omega arith; fewest = omega arith },
            (
              record { ends = omega arith; fewest = omega arith },
              (record { ends = omega arith; fewest = omega arith }, tt),
            ),
          );
          encoded = refl;
          some = omega arith;
        },
        omega arith,
      ),
      inl refl,
    ),
    omega arith,
  ),
  refl,
)

-- the bits of the key at an index
bits : ℕ → Text
bits i =
    (0 ∷ 0 ∷ 0 ∷ 0 ∷ 0 ∷ 0 ∷ 0 ∷ 0 ∷ 0 ∷ 0 ∷ 0 ∷ 0 ∷ 0 ∷ 0 ∷ 0 ∷ 0 ∷ 0 ∷ 0 ∷ 0 ∷ 0 ∷ 0 ∷ 0 ∷ 0 ∷ 0
    ∷ []) ++ to_be_bytes w64 i

no_remainder : (n : ℕ) → (n % 2 ^ 0 == 0) ≡ true
no_remainder n =
    let none : n % 2 ^ 0 ≡ 0 = omega arith in ap (λ (k : ℕ). k == 0) none

are_bits : (i : ℕ) → IsBits (0, bits i)
unfolding bits
are_bits i = (record { few = omega arith; zero = no_remainder _ }, omega arith)

is_key : (i : ℕ) → IsPublicKey (key_of i)
unfolding key_of element algorithm bits
is_key i = ((algorithm, (0, bits i)), ((is_algorithm, are_bits i), omega arith), refl)

-- ---- requests

can_issue : (i : ℕ) → i < 64 → CanBeIssued (request_for i)
can_issue i below = record {
  validity = record {
    not_before = (omega arith, omega arith);
    not_after = (omega arith, omega arith);
  };
  dates = omega arith;
  some = omega arith;
  names = record {
    few = omega arith;
    each = (record { labels = one_below (λ n. is_host_name (host_of n)) 64 i are_hosts below }, tt);
  };
  common_name = tt;
  key = is_key i;
}

-- ---- entries

is_log_id : IsAnchorId drill_log_id
unfolding arc
is_log_id = record {
  arcs = 32473 ∷ 1 ∷ [];
  are_arcs = (omega arith, (omega arith, tt));
  encoded = refl;
  some = omega arith;
  short = omega arith;
}

entry_or_last : (h : HashFunction) (size index : ℕ) (b : Bool) → (index == size) ≡ b
    → index < suc size
    → (index < size → get_or (entries_to h size) index [] ≡ drill_entry h index)
    → get_or (entries_to h size ++ drill_entry h size ∷ []) index [] ≡ drill_entry h index
entry_or_last h size index true is below before =
    let all = entries_length h size in
    let last : index ≡ length (entries_to h size) = grind (arith, nat_tests, is, all) in
    let at : size ≡ index = grind (arith, nat_tests, is) in
    ap (λ (k : ℕ). get_or (entries_to h size ++ drill_entry h size ∷ []) k []) last
    ∙ get_or-append_seam (entries_to h size) (drill_entry h size) [] []
    ∙ ap (drill_entry h) at
entry_or_last h size index false is below before =
    let less : index < size = grind (arith, nat_tests, is, below) in
    let within : index < length (entries_to h size) =
    omega (arith, less, entries_length h size) in
    get_or_append_left (entries_to h size) (drill_entry h size ∷ []) [] index within ∙ before less

entry_at : (h : HashFunction) (size index : ℕ) → index < size
    → get_or (entries_to h size) index [] ≡ drill_entry h index
unfolding entries_to
entry_at h zero index below = absurd (omega (arith, below))
entry_at h (suc size) index below =
    entry_or_last h size index (index == size) refl below (entry_at h size index)

pub is_entry : (h : HashFunction) (size index : ℕ) (marks : List ℕ) → 1 ≤ index → index < size
    → size ≤ 64 → IsDrillEntry h (log_with h size marks) index
is_entry h size zero marks some below few = absurd (omega (arith, some))
is_entry h size (suc before) marks some below few = record {
  id = is_log_id;
  can = can_issue (suc before) (omega (arith, below, few));
  entry = entry_at h size (suc before) below;
}
