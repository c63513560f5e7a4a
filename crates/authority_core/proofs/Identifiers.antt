-- Object identifiers, by their arcs, and the algorithm of certificates.
use Rattle.std.proofs.Common.{ℕ, ◌<◌, [], ◌∷◌, refl, lit<, arith, inl}
use Rattle.byte_formats.specs.Types.{Text}
use Rattle.der_core.specs.Elements.{element}
use Rattle.der_core.specs.Forms.{IsSubidentifier, IsOid}
use Rattle.cert_names.specs.LogNames.{log_id}
use Rattle.cert_fields.specs.Given.{mtc_proof}
use Rattle.cert_fields.specs.Grammar.{IsAlgorithm}
use Rattle.cert_fields.specs.Identifiers.{subject_alt_name}
use Rattle.authority_core.specs.Issuing.{common_name_id}

-- An arc of one byte.
short_arc : (b : ℕ) → b < 128 → IsSubidentifier (b ∷ [])
short_arc b small = record { ends = small; fewest = λ same. absurd (omega (arith, small, same)) }

pub common_name_oid : IsOid common_name_id
common_name_oid = record {
  arcs = (85 ∷ []) ∷ (4 ∷ []) ∷ (3 ∷ []) ∷ [];
  are_arcs = (short_arc 85 (lit< tt), (short_arc 4 (lit< tt), (short_arc 3 (lit< tt), tt)));
  encoded = refl;
  some = lit< tt;
}

pub alt_name_oid : IsOid subject_alt_name
alt_name_oid = record {
  arcs = (85 ∷ []) ∷ (29 ∷ []) ∷ (17 ∷ []) ∷ [];
  are_arcs = (short_arc 85 (lit< tt), (short_arc 29 (lit< tt), (short_arc 17 (lit< tt), tt)));
  encoded = refl;
  some = lit< tt;
}

-- The arc 44363.
long_arc : IsSubidentifier (130 ∷ 218 ∷ 75 ∷ [])
long_arc = record {
  ends = (omega arith, (omega arith, lit< tt));
  fewest =
      λ same. absurd (omega (arith, same));
}

-- 1.3.6.1.4.1.44363.47, with one arc more.
trees_oid : (last : ℕ) → last < 128
    → IsOid (43 ∷ 6 ∷ 1 ∷ 4 ∷ 1 ∷ 130 ∷ 218 ∷ 75 ∷ 47 ∷ last ∷ [])
trees_oid last small = record {
  arcs = (43 ∷ []) ∷ (6 ∷ []) ∷ (1 ∷ []) ∷ (4 ∷ []) ∷ (1 ∷ []) ∷ (130 ∷ 218 ∷ 75 ∷ []) ∷ (47 ∷ [])
      ∷ (last ∷ []) ∷ [];
  are_arcs = (
    short_arc 43 (lit< tt),
    (
      short_arc 6 (lit< tt),
      (
        short_arc 1 (lit< tt),
        (
          short_arc 4 (lit< tt),
          (
            short_arc 1 (lit< tt),
            (long_arc, (short_arc 47 (lit< tt), (short_arc last small, tt))),
          ),
        ),
      ),
    ),
  );
  encoded = refl;
  some = lit< tt;
}

pub log_oid : IsOid log_id
log_oid = trees_oid 1 (lit< tt)

-- The algorithm of Merkle tree proofs has no parameters.
pub proof_algorithm : IsAlgorithm mtc_proof
unfolding element
proof_algorithm =
    let identifier : Text = 43 ∷ 6 ∷ 1 ∷ 4 ∷ 1 ∷ 130 ∷ 218 ∷ 75 ∷ 47 ∷ 0 ∷ [] in
    ((identifier, []), (((trees_oid 0 (lit< tt), lit< tt), inl refl), lit< tt), refl)
