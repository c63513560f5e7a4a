-- What holds of an entry whose certificate nothing refuses. It should stand in authority_core.
use Rattle.std.proofs.Common.{◌≡◌, ℕ, ◌≤◌, ◌==◌, ◌||◌, not, Bool, true, false, nat_le, nat_lt}
use Rattle.std.proofs.Common.{length, Option, None, Some, refl, if◌then◌else◌}
use Rattle.std.specs.Prelude.{is_none}
use Rattle.std.proofs.lemmas.Bool.{leb-false, ltb-false, not-false, or_parts}
use Rattle.byte_formats.specs.Types.{Text}
use Rattle.byte_formats.proofs.Values.{not_zero}
use Rattle.tree_core.specs.Subtree.{is_subtree}
use Rattle.issuance_log.specs.Folds.{LogView}
use Rattle.authority_core.specs.Certificates.{HoldsEntry, cert_refusal, covering_in, light_refusal}
use Rattle.authority_core.specs.Certificates.{most_signatures}
use Rattle.authority_core.specs.declared.writing.error.WriteError.{WriteError}
use Rattle.authority_core.specs.declared.writing.error.WriteError.TheVariants.{BadSubtree, Beyond}
use Rattle.authority_core.specs.declared.writing.error.WriteError.TheVariants.{NoSuchEntry}
use Rattle.authority_core.specs.declared.writing.error.WriteError.TheVariants.{NotCovered}
use Rattle.authority_core.specs.declared.writing.error.WriteError.TheVariants.{NullEntry, Outside}
use Rattle.authority_core.specs.declared.writing.error.WriteError.TheVariants.{TooManySignatures}

none_so : (b : Bool) (why : WriteError) (rest : Option WriteError)
    → (if b then Some why else rest) ≡ None → (b ≡ false) × (rest ≡ None)
none_so true why rest is = let wrong : Some why ≡ None = is in absurd cc
none_so false why rest is = (refl, is)

-- It is an entry after the first, in this subtree of the log, and the signatures are few.
pub record IsUnrefused (v : LogView) (index start end : ℕ) (signatures : Text) : Type 0 where
  pub some : 1 ≤ index
  pub holds : HoldsEntry v.size index (record { start = start; end = end })
  pub short : length signatures ≤ most_signatures

pub cert_unrefused : (v : LogView) (index start end : ℕ) (signatures : Text)
    → cert_refusal v index start end signatures ≡ None → IsUnrefused v index start end signatures
unfolding cert_refusal
cert_unrefused v index start end signatures is =
    let there = none_so (nat_le v.size index) NoSuchEntry _ is in
    let some = none_so (index == 0) NullEntry _ there.1 in
    let valid = none_so (not (is_subtree start end)) BadSubtree _ some.1 in
    let inside = none_so (nat_lt index start || nat_le end index) Outside _ valid.1 in
    let within = none_so (nat_lt v.size end) (Beyond v.size) _ inside.1 in
    let short = none_so (nat_lt most_signatures (length signatures)) TooManySignatures None
    within.1 in
    let sides = or_parts (nat_lt index start) (nat_le end index) inside.0 in
    record {
      some = not_zero index some.0;
      holds = record {
        valid = not-false (is_subtree start end) valid.0;
        from = ltb-false index start sides.0;
        below = leb-false end index sides.1;
        within = ltb-false v.size end within.0;
      };
      short = ltb-false most_signatures (length signatures) short.0;
    }

pub light_unrefused : (v : LogView) (index : ℕ) → light_refusal v index ≡ None → 1 ≤ index
unfolding light_refusal
light_unrefused v index is =
    let there = none_so (nat_le v.size index) NoSuchEntry _ is in
    let some = none_so (index == 0) NullEntry
    (if is_none (covering_in v index) then Some NotCovered else None) there.1 in
    not_zero index some.0
