-- Lemmas on bytes taken piece by piece. std's stand in `Rattle.std.proofs.KnownBytes`.
use Rattle.std.proofs.Common.{ℕ, ◌+◌, ◌-◌, ◌≡◌, ◌<◌, min, Bor, List, Option, ◌++◌, length, take}
use Rattle.std.proofs.Common.{drop, subst, sym, ap, ◌∙◌, slice_index_or}
use Rattle.std.specs.Io.KnownBytes.{Appends}
use Rattle.std.proofs.KnownBytes.{Appends-trans}
use Rattle.std.proofs.Math.Nat.{min-le_right}
use Rattle.std.proofs.Math.Seq.{take-add, take-append-add, take-length}
use Rattle.std.proofs.lemmas.Grind.{flat_map-append}
use Rattle.std.proofs.lemmas.List.{take_rest, take-append-le, take-append-drop, take_min, drop_more}
use Rattle.byte_formats.specs.Types.{Text}
use Rattle.mtc_io.specs.Streams.{AppendsPrefix, joined}

-- the first n of a list, and then the first k of the rest, as a slice gives it
pub take-more : (n k : ℕ) (xs : Text)
    → take (n + k) xs ≡ take n xs ++ take k (take (length xs - n) (drop n xs))
take-more n k xs = take-add n k xs ∙ ap (λ rest. take n xs ++ take k rest) (sym (take_rest xs n))

-- the first n bytes of a piece were taken, and then k more
pub taken_more : (a b c : Option Text) (n k : ℕ) (xs : Text) → Appends a b (take n xs)
    → Appends b c (take k (take (length xs - n) (drop n xs))) → Appends a c (take (n + k) xs)
taken_more a b c n k xs first second =
    subst (Appends a c) (sym (take-more n k xs)) (Appends-trans a b c _ _ first second)

-- what was taken whole was taken as a prefix
pub prefix_whole : (a b : Option Text) (xs : Text) → Appends a b xs → AppendsPrefix a b xs
prefix_whole a b xs whole = (length xs, subst (Appends a b) (sym (take-length xs)) whole)

-- a piece was taken whole, and then a prefix of the next one
pub prefix_more : (a b c : Option Text) (xs ys zs : Text) → Appends a b xs
    → AppendsPrefix b c ys → AppendsPrefix a c (xs ++ (ys ++ zs))
prefix_more a b c xs ys zs first second =
    let k = min second.0 (length ys) in
    let prefix : take k (ys ++ zs) ≡ take second.0 ys =
    take-append-le k ys zs (min-le_right second.0 (length ys)) ∙ take_min second.0 ys in
    let all : take (length xs + k) (xs ++ (ys ++ zs)) ≡ xs ++ take second.0 ys =
    take-append-add xs (ys ++ zs) k ∙ ap (λ l. xs ++ l) prefix in
    (length xs + k, subst (Appends a c) (sym all) (Appends-trans a b c _ _ first second.1))

-- pieces: those before one, that one, and the others
pub joined_at : (pieces : List (Bor Text)) (i : ℕ) (d : Bor (List ℕ)) → i < length pieces
    → joined pieces ≡ joined (take i pieces) ++ ((slice_index_or pieces i d).now
    ++ joined (drop (i + 1) pieces))
joined_at pieces i d below =
    ap joined (sym (take-append-drop i pieces))
    ∙ flat_map-append (λ piece. piece.now) (take i pieces) (drop i pieces)
    ∙ ap (λ rest. joined (take i pieces) ++ joined rest) (drop_more pieces i d below)

-- a prefix of the pieces was taken, where those before one were and a prefix of that one
pub pieces_prefix : (a b c : Option Text) (pieces : List (Bor Text)) (i : ℕ)
    (d : Bor (List ℕ)) → i < length pieces
    → Appends a b (joined (take i pieces)) → AppendsPrefix b c (slice_index_or pieces i d).now
    → AppendsPrefix a c (joined pieces)
pieces_prefix a b c pieces i d below first second =
    subst (AppendsPrefix a c) (sym (joined_at pieces i d below))
    (prefix_more a b c _ _ _ first second)
