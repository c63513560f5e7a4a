-- Parts of bytes.
use Rattle.std.proofs.Common.{◌≡◌, ℕ, ◌+◌, ◌-◌, ◌*◌, ◌<◌, ◌≤◌, List, length, take, drop, sym, ◌∙◌}
use Rattle.std.proofs.Common.{ap, arith}
use Rattle.std.proofs.lemmas.List.{drop-drop, drop-take, length-drop, length-take, take-take}
use Rattle.disk_core.specs.Disk.{part}
use Rattle.tile_store.specs.Contents.{hash_in}

pub part-take : (place count prefix : ℕ) (bytes : List ℕ) → place + count ≤ prefix
    → part place count (take prefix bytes) ≡ part place count bytes
part-take place count prefix bytes within =
    let size : prefix ≡ place + (prefix - place) = omega arith in
    ap (λ n. take count (drop place (take n bytes))) size
    ∙ ap (take count) (drop-take place (prefix - place) bytes)
    ∙ take-take count (prefix - place) (drop place bytes) (omega arith)

pub part-drop : (place count prefix : ℕ) (bytes : List ℕ)
    → part place count (drop prefix bytes) ≡ part (prefix + place) count bytes
part-drop place count prefix bytes = ap (take count) (drop-drop place prefix bytes)

-- a part of a part
pub part-part : (place count inner width : ℕ) (bytes : List ℕ) → inner + width ≤ count
    → part inner width (part place count bytes) ≡ part (place + inner) width bytes
part-part place count inner width bytes within =
    part-take inner width count (drop place bytes) within ∙ part-drop inner width place bytes

pub length-part : (place count : ℕ) (bytes : List ℕ) → place + count ≤ length bytes
    → length (part place count bytes) ≡ count
length-part place count bytes within =
    let dropped = length-drop place bytes in
    let taken = length-take count (drop place bytes) in
    omega arith

-- bytes with the same prefix have the same parts there
pub part-prefix : (place count prefix : ℕ) (a b : List ℕ) → place + count ≤ prefix
    → take prefix a ≡ take prefix b → part place count a ≡ part place count b
part-prefix place count prefix a b within same =
    sym (part-take place count prefix a within) ∙ ap (part place count) same
    ∙ part-take place count prefix b within

-- the hashes of the first bytes, and those after so many hashes
pub hash-left : (i half : ℕ) (bytes : List ℕ) → i + 1 ≤ half
    → hash_in i (take (32 * half) bytes) ≡ hash_in i bytes
hash-left i half bytes within = part-take (32 * i) 32 (32 * half) bytes (omega arith)

pub hash-right : (i half : ℕ) (bytes : List ℕ)
    → hash_in i (drop (32 * half) bytes) ≡ hash_in (half + i) bytes
hash-right i half bytes =
    let sum : 32 * half + 32 * i ≡ 32 * (half + i) = omega arith in
    part-drop (32 * i) 32 (32 * half) bytes ∙ ap (λ p. part p 32 bytes) sum

-- some of the hashes
pub hash-part : (i first count : ℕ) (bytes : List ℕ) → i < count
    → hash_in i (take (32 * (first + count) - 32 * first) (drop (32 * first) bytes))
    ≡ hash_in (first + i) bytes
hash-part i first count bytes within =
    let size : 32 * (first + count) - 32 * first ≡ 32 * count = omega arith in
    ap (λ n. hash_in i (take n (drop (32 * first) bytes))) size
    ∙ hash-left i count (drop (32 * first) bytes) (omega arith) ∙ hash-right i first bytes
