-- The parts of a signature of several levels, one after the other.
use Rattle.std.proofs.Common.{◌≡◌, ℕ, suc, ◌+◌, ◌≤◌, Bool, true, false, ◌&&◌, length, take, Option}
use Rattle.std.proofs.Common.{Some, None, Ok, Err, refl}
use Rattle.std.proofs.lemmas.Bool.{le-leb, leb-true}
use Rattle.std.specs.Prelude.{nat_le}
use Rattle.byte_formats.specs.Types.{Text}
use Rattle.byte_formats.specs.Refusals.{answer_of}
use Rattle.lms_core.specs.declared.refusals.SigError.{SigError}
use Rattle.lms_core.specs.Refusals.{check_refusal}
use Rattle.hss_core.specs.Hss.{after_next_key, prefix_length, next_public_key, levels_refusal}
use Rattle.hss_core.specs.Hss.{parts_fit}

-- one pair less
pub parts_fit-pair : (n m size : ℕ) (s : Text) → m ≡ suc n → prefix_length s ≡ Some size
    → size + 56 ≤ length s
    → parts_fit m s ≡ parts_fit n (after_next_key size s)
unfolding parts_fit
parts_fit-pair n m size s more found long =
    rw (more, found, le-leb (size + 56) (length s) long) refl

and-true : (a b : Bool) → (a && b) ≡ true → (a ≡ true) × (b ≡ true)
and-true true b both = (refl, both)
and-true false b both = cc

-- where one more pair fits, it is there
pub parts_fit-more : (n m size : ℕ) (s : Text) → m ≡ suc n → prefix_length s ≡ Some size
    → parts_fit m s ≡ true
    → (size + 56 ≤ length s) × (parts_fit n (after_next_key size s) ≡ true)
unfolding parts_fit
parts_fit-more n m size s more found fit =
    let both = and-true (nat_le (size + 56) (length s)) (parts_fit n (after_next_key size s)) (rw (
      more,
      found,
    ) at fit) in
    (leb-true (size + 56) (length s) both.0, both.1)

pub answer_of-err : (d : Option SigError) (e : SigError) → answer_of d ≡ Err e → d ≡ Some e
answer_of-err None e same = cc
answer_of-err (Some d) e same = cc

pub answer_of-ok : (d : Option SigError) → answer_of d ≡ Ok tt → d ≡ None
answer_of-ok None same = refl
answer_of-ok (Some d) same = cc

-- the first level that is refused is the answer
pub levels_refusal-refused : (n m size : ℕ) (key message s : Text) (e : SigError) → m ≡ suc n
    → prefix_length s ≡ Some size
    → check_refusal key (next_public_key size s) (take size s) ≡ Some e
    → levels_refusal m key message s ≡ Some e
unfolding levels_refusal
levels_refusal-refused n m size key message s e more found refused = rw (more, found, refused) refl

-- one that passes leaves the answer to those below it
pub levels_refusal-passed : (n m size : ℕ) (key message s : Text) → m ≡ suc n
    → prefix_length s ≡ Some size
    → check_refusal key (next_public_key size s) (take size s) ≡ None
    → levels_refusal m key message s ≡ levels_refusal n (next_public_key size s) message
    (after_next_key size s)
unfolding levels_refusal
levels_refusal-passed n m size key message s more found passed = rw (more, found, passed) refl
