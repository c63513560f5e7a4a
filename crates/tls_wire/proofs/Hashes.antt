-- Vectors of hashes as a form.
use Rattle.std.proofs.Common.{◌≡◌, ℕ, zero, suc, ◌+◌, ◌*◌, ◌/◌, ◌%◌, ◌==◌, ◌^◌, ◌<◌, ◌≤◌, true}
use Rattle.std.proofs.Common.{List, [], ◌∷◌, ◌++◌, length, take, drop, get_or, Ok, Err, refl, sym}
use Rattle.std.proofs.Common.{ap, subst, ◌∙◌, arith, rules, if◌then◌else◌}
use Rattle.std.specs.List.{AllByRecursion, concat}
use Rattle.std.specs.Simd.{first_chunks}
use Rattle.std.specs.Int.{w16}
use Rattle.std.proofs.Math.Seq.{take-add, take-length}
use Rattle.std.proofs.lemmas.List.{length-append, length-take-le, length-drop, take_at, drop_at}
use Rattle.byte_formats.specs.Offsets.{At}
use Rattle.byte_formats.specs.Readings.{lifted}
use Rattle.byte_formats.specs.Forms.{Stands, IsForm, Anything}
use Rattle.byte_formats.proofs.Steps.{bind_ok, lifted_ok, pass_ok, ok_is}
use Rattle.tls_wire.specs.declared.cursor.HashesError.{HashesError}
use Rattle.tls_wire.specs.declared.cursor.HashesError.TheVariants.{HashLength, Short as NotFitting}
use Rattle.tls_wire.specs.Reading.{vector_at, hashes_in, hashes_at}
use Rattle.tls_wire.specs.Encoding.{vector, hashes, AreHashes}
use Rattle.tls_wire.proofs.Numbers.{wide16}
use Rattle.tls_wire.proofs.Vectors.{vector_form}

abbrev Are32 : List (List ℕ) → Type 0
Are32 items = AllByRecursion (λ hash. length hash ≡ 32) items

-- So many chunks, one after the other, are the prefix.
chunks_joined : (k : ℕ) (bytes : List ℕ) → concat (first_chunks 32 k bytes) ≡ take (k * 32) bytes
chunks_joined zero bytes = refl
chunks_joined (suc k) bytes =
    let more : suc k * 32 ≡ 32 + k * 32 = omega arith in
    ap (λ rest. take 32 bytes ++ rest) (chunks_joined k (drop 32 bytes))
    ∙ sym (ap (λ n. take n bytes) more ∙ take-add 32 (k * 32) bytes)

-- They are whole where there are bytes enough.
chunks_whole : (k : ℕ) (bytes : List ℕ) → k * 32 ≤ length bytes → Are32 (first_chunks 32 k bytes)
    × (length (first_chunks 32 k bytes) ≡ k)
chunks_whole zero bytes long = (tt, refl)
chunks_whole (suc k) bytes long =
    let more : suc k * 32 ≡ 32 + k * 32 = omega arith in
    let rest = chunks_whole k (drop 32 bytes) (omega (arith, long, more, length-drop 32 bytes)) in
    ((length-take-le 32 bytes (omega (arith, long, more)), rest.0), ap suc rest.1)

-- Hashes that stand one after the other have 32 bytes each.
pub joined_length : (items : List (List ℕ)) → Are32 items
    → length (concat items) ≡ length items * 32
joined_length [] all = refl
joined_length (item ∷ items) all =
    let more : suc (length items) * 32 ≡ 32 + length items * 32 = omega arith in
    omega (arith, length-append item (concat items), all.0, joined_length items all.1, more)

-- Items of 32 bytes by their index are hashes of 32 bytes.
pub each_hash : (items : List (List ℕ))
    → ((i : ℕ) → i < length items → length (get_or items i []) ≡ 32)
    → AllByRecursion (λ hash. length hash ≡ 32) items
each_hash [] sized = tt
each_hash (item ∷ items) sized = (
  sized 0 (omega arith),
  each_hash items (λ i here. sized (suc i) (omega arith)),
)

-- And are cut into themselves.
joined_chunks : (items : List (List ℕ)) → Are32 items
    → first_chunks 32 (length items) (concat items) ≡ items
joined_chunks [] all = refl
joined_chunks (item ∷ items) all =
    let tail : first_chunks 32 (length items) (drop 32 (item ++ concat items)) ≡ items =
    ap (first_chunks 32 (length items)) (drop_at item (concat items) 32 all.0)
    ∙ joined_chunks items all.1 in
    ap (λ prefix. prefix ∷ first_chunks 32 (length items) (drop 32 (item ++ concat items)))
    (take_at item (concat items) 32 all.0) ∙ ap (λ rest. item ∷ rest) tail

in_whole : (bytes : List ℕ) → length bytes % 32 ≡ 0 → length bytes < 2 ^ 16
    → (concat (hashes_in bytes) ≡ bytes) × AreHashes (hashes_in bytes)
in_whole bytes even small =
    let count : (length bytes / 32) * 32 ≡ length bytes = omega (arith, even) in
    let whole = chunks_whole (length bytes / 32) bytes (omega (arith, count)) in (
      chunks_joined (length bytes / 32) bytes ∙ ap (λ n. take n bytes) count ∙ take-length bytes,
      (whole.0, omega (arith, whole.1, count, small)),
    )

pub hashes_form : IsForm hashes AreHashes Anything hashes_at
unfolding hashes_at
hashes_form = record {
  takes = λ a items b h e.
      let s = bind_ok (lifted NotFitting (vector_at w16 a)) (λ (v : List ℕ
      × At). if length v.0 % 32 == 0 then Ok (hashes_in v.0, v.1) else Err HashLength) (
        items,
        b,
      ) e in
      let one = (vector_form w16 (2 ^ 16) wide16).takes a s.0.0 s.0.1 h
      (lifted_ok NotFitting (vector_at w16 a) s.0 s.1) in
      let two = pass_ok (length s.0.0 % 32 == 0) (Ok (hashes_in s.0.0, s.0.1)) HashLength (
        items,
        b,
      ) s.2 in
      let even : length s.0.0 % 32 ≡ 0 = grind (rules, two.0) in
      let all = in_whole s.0.0 even one.1 in
      let P : List (List ℕ) × At → Type 0 = λ v. Stands a (hashes v.0) v.1 × AreHashes v.0 in
      subst P (ok_is HashesError (hashes_in s.0.0, s.0.1) (items, b) two.1)
      (subst (λ bytes. Stands a (vector w16 bytes) s.0.1) (sym all.0) one.0, all.1);
  again = λ items p rest f q.
      let long = joined_length items f.0 in
      let one = (vector_form w16 (2 ^ 16) wide16).again (concat items) p rest (omega (
        arith,
        long,
        f.1,
      )) tt in
      let zeros : length (concat items) % 32 ≡ 0 = omega (arith, long) in
      let even : (length (concat items) % 32 == 0) ≡ true = ap (λ n. n == 0) zeros in
      let count : length (concat items) / 32 ≡ length items = omega (arith, long) in
      rw (one, even, count, joined_chunks items f.0) refl;
}
