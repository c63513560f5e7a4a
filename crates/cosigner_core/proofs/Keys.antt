-- How many one-time keys a cosigner has.
use Rattle.std.proofs.Common.{◌≡◌, ℕ, ◌*◌, ◌≤◌, ◌^◌, List, Ok, arith}
use Rattle.std.specs.Prelude.{Option, Some, None, IfSome}
use Rattle.byte_formats.specs.Types.{HashFunction, Text}
use Rattle.lms_core.specs.Heights.{IsSigningHeight, height}
use Rattle.lms_core.specs.declared.heights.LmsType.{LmsType}
use Rattle.lms_core.specs.declared.heights.LmsType.TheVariants.{H5, H10, H15, H20, H25}
use Rattle.hss_keys.specs.Keys.{CountsKeys, SigningState, keys_there, most_children}
use Rattle.cosigner_core.specs.Folds.{CosignerState, cosigner_of, key_count}
use Rattle.cosigner_core.proofs.Counts.{counts_up}

-- ---- keys with trees of height 5 or 10

pub small_leaves : (l : LmsType) → height l ≤ 10 → 2 ^ height l ≤ 1024
small_leaves H5 small = omega arith
small_leaves H10 small = omega arith
small_leaves H15 small = absurd (omega arith)
small_leaves H20 small = absurd (omega arith)
small_leaves H25 small = absurd (omega arith)

small_below : (l : LmsType) (children : ℕ) → height l ≤ 10 → children ≤ 1024
    → children * 2 ^ height l ≤ 2 ^ 20
small_below H5 children small few = omega (arith, few)
small_below H10 children small few = omega (arith, few)
small_below H15 children small few = absurd (omega arith)
small_below H20 children small few = absurd (omega arith)
small_below H25 children small few = absurd (omega arith)

-- They are at most 2^20.
pub few_keys_there : (s : SigningState) → CountsKeys s
    → keys_there s.key.top.lms s.key.low s.children ≤ 2 ^ 20
few_keys_there s counts =
    go s.key.low counts.low counts.few
  where
    go : (low : Option LmsType) → IfSome low IsSigningHeight
        → s.children ≤ most_children s.key.top.lms low
        → keys_there s.key.top.lms low s.children ≤ 2 ^ 20
    go None small few =
        let leaves = small_leaves s.key.top.lms counts.top in omega (arith, leaves)
    go (Some low) small few =
        let leaves = small_leaves s.key.top.lms counts.top in
        small_below low s.children small (omega (arith, leaves, few))

-- So are those that have signed.
pub few_there : (s : SigningState) → CountsKeys s → s.next ≤ 2 ^ 20
few_there s counts =
    let all = few_keys_there s counts in
    let to = counts.to in
    omega arith

-- A cosigner that records make has few enough that each number of one fits in four bytes.
pub few_keys : (h : HashFunction) (list : List Text) (s : CosignerState)
    → cosigner_of h list ≡ Ok s → key_count s ≤ 2 ^ 25
few_keys h list s is =
    let few = few_keys_there s.key (counts_up h list s is).1 in omega (arith, few)
