-- What a step of a chain hashes, after its two writes into the 55 bytes.
use Rattle.std.proofs.Common.{◌≡◌, ℕ, [], ◌∷◌, ◌++◌, length, take, set, refl, arith, append-nil}
use Rattle.std.proofs.Common.{length-set}
use Rattle.std.proofs.lemmas.List.{drop_all, drop-drop}
use Rattle.std.proofs.lemmas.Grind.{take-set_at}
use Rattle.byte_formats.specs.Types.{Text}
use borrow.Rule.Slice.PartMut.{put_mid, post_of}

pub put_mid-step : (b v : Text) (j : ℕ) → length b ≡ 55 → length v ≡ 32
    → put_mid 23 32 (set b 22 j) v ≡ take 22 b ++ j ∷ [] ++ v
put_mid-step b v j size small =
    let prefix : take 23 (set b 22 j) ≡ take 22 b ++ j ∷ [] =
    take-set_at b 22 23 j refl (omega arith) in
    let back : post_of 23 32 (set b 22 j) ≡ [] =
    rw drop-drop (drop_all 55 (set b 22 j) (omega (arith, length-set {A = ℕ}))) in
    rw (prefix, back) (rw append-nil)
