-- A signature leads back to the key that made it: each chain is finished from where the signature
-- left it.
use Rattle.std.proofs.Common.{◌∙◌, zero-add, add-zero, add-suc, add_assoc, ◌≡◌, ℕ, zero, suc, ◌+◌}
use Rattle.std.proofs.Common.{◌-◌, ◌*◌, ◌^◌, ◌<◌, ◌≤◌, ◌++◌, length, drop, Some, refl, ap, arith}
use Rattle.std.proofs.Common.{append_assoc, length-append, length-drop, inl, inr}
use Rattle.std.proofs.lemmas.Bool.{cases_eq}
use Rattle.std.proofs.lemmas.List.{take_all, take_at, drop_at, drop-drop, take-append-le}
use Rattle.std.proofs.lemmas.List.{drop-append-le}
use Rattle.std.proofs.lemmas.Nat.{from_be_bytes-to_be_bytes_4}
use Rattle.std.specs.Int.{w32, to_be_bytes}
use Rattle.byte_formats.specs.Types.{Text}
use Rattle.sha2.proofs.Facts256.{length-sha256}
use Rattle.lmots_core.specs.declared.parameters.OtsType.{OtsType}
use Rattle.lmots_core.specs.declared.parameters.OtsType.TheVariants.{W1, W2, W4, W8}
use Rattle.lmots_core.specs.Parameters.{chains, signature_length, steps, typecode, type_of_code}
use Rattle.lmots_core.specs.Strings.{value_at, concatenated, u32_at}
use Rattle.lmots_core.specs.Ots.{candidate_key, candidate_of, chain, chain_end, chain_prefix}
use Rattle.lmots_core.specs.Ots.{chain_step, coded_hash, digit, finished_link, message_hash}
use Rattle.lmots_core.specs.Ots.{public_key, randomizer, secret_start, signature, signed_link}
use Rattle.lmots_core.specs.Ots.{SignatureYieldsKey}

-- steps made in two goes are steps made in one
pub chain-add : (p : Text) (a n m : ℕ) (x : Text)
    → chain p (a + n) m (chain p a n x) ≡ chain p a (n + m) x
unfolding chain
chain-add p a n zero x = rw add-zero
chain-add p a n (suc m) x = rw (add-suc, ← chain-add p a n m x, add_assoc a n m)

-- a chain's value has 32 bytes wherever its start has
pub length-chain : (p : Text) (a n : ℕ) (x : Text) → length x ≡ 32 → length (chain p a n x) ≡ 32
unfolding chain chain_step
length-chain p a zero x size = size
length-chain p a (suc n) x size = length-sha256 _

pub length-secret_start : (id : Text) (q : ℕ) (seed : Text) (i : ℕ)
    → length (secret_start id q seed i) ≡ 32
unfolding secret_start
length-secret_start id q seed i = length-sha256 _

-- pieces of 32 bytes, one after the other
pub length-concatenated : (f : ℕ → Text) (n : ℕ) → ((i : ℕ) → length (f i) ≡ 32)
    → length (concatenated f n) ≡ 32 * n
unfolding concatenated
length-concatenated f zero size = refl
length-concatenated f (suc n) size = omega (
  arith,
  length-append (concatenated f n) (f n),
  length-concatenated f n size,
  size n,
)

-- piece i is where it is looked for
pub concatenated-part : (f : ℕ → Text) (n i : ℕ) → ((i : ℕ) → length (f i) ≡ 32) → i < n
    → value_at (concatenated f n) (32 * i) ≡ f i
unfolding concatenated
concatenated-part f zero i size below = absurd (omega arith)
concatenated-part f (suc n) i size below =
    let all : length (concatenated f n) ≡ 32 * n = length-concatenated f n size in
    elim (cases_eq i n) [
      | inl same ↦ rw (same, drop_at (concatenated f n) (f n) (32 * n) all)
          (take_all 32 (f n) (omega (arith, size n)))
      | inr differ ↦
          let earlier : i < n = omega arith in
          let prefix = drop-append-le (32 * i) (concatenated f n) (f n) (omega (arith, all)) in
          let within = take-append-le 32 (drop (32 * i) (concatenated f n)) (f n) (omega (
            arith,
            all,
            length-drop (32 * i) (concatenated f n),
          )) in
          rw (prefix, within) (concatenated-part f n i size earlier)
    ]

-- pieces that agree make the same whole
pub concatenated-same : (f g : ℕ → Text) (n : ℕ) → ((i : ℕ) → i < n → f i ≡ g i)
    → concatenated f n ≡ concatenated g n
unfolding concatenated
concatenated-same f g zero same = refl
concatenated-same f g (suc n) same =
    let before = concatenated-same f g n (λ i below. same i (omega arith)) in
    rw (before, same n (omega arith))

-- no digit is above the steps of a chain
pub digit_small : (t : OtsType) (coded : Text) (i : ℕ) → digit t coded i ≤ steps t
digit_small W1 coded i = omega arith
digit_small W2 coded i = omega arith
digit_small W4 coded i = omega arith
digit_small W8 coded i = omega arith

pub type_of_code-typecode : (t : OtsType) → type_of_code (typecode t) ≡ Some t
type_of_code-typecode W1 = refl
type_of_code-typecode W2 = refl
type_of_code-typecode W4 = refl
type_of_code-typecode W8 = refl

-- the chain's end, reached from where the signature left it
pub finished_end : (t : OtsType) (id : Text) (q : ℕ) (seed coded s : Text) (i : ℕ)
    → value_at s (36 + 32 * i) ≡ signed_link t id q seed coded i
    → finished_link t id q coded s i ≡ chain_end t id q seed i
finished_end t id q seed coded s i reported =
    let p = chain_prefix id q i in
    let d = digit t coded i in
    let all : d + (steps t - d) ≡ steps t = omega (arith, digit_small t coded i) in
    let on : chain p (0 + d) (steps t - d) (chain p 0 d (secret_start id q seed i))
    ≡ chain p 0 (d + (steps t - d)) (secret_start id q seed i) =
    chain-add p 0 d (steps t - d) (secret_start id q seed i) in
    rw reported (rw (zero-add, all) at on)

-- the parts of a signature, after its first 36 bytes
pub signature-part : (code c : Text) (f : ℕ → Text) (n i : ℕ) → length code ≡ 4 → length c ≡ 32
    → ((k : ℕ) → length (f k) ≡ 32) → i < n
    → value_at (code ++ c ++ concatenated f n) (36 + 32 * i) ≡ f i
signature-part code c f n i four size sizes below =
    let head : length (code ++ c) ≡ 36 = omega (arith, length-append code c) in
    rw (
      ← drop-drop (32 * i) 36 (code ++ c ++ concatenated f n),
      drop_at (code ++ c) (concatenated f n) 36 head,
    )
    (concatenated-part f n i sizes below)

-- the randomizer of a signature, after its first 4 bytes
pub second_part : (code c rest : Text) → length code ≡ 4 → length c ≡ 32
    → value_at (code ++ c ++ rest) 4 ≡ c
second_part code c rest four size =
    rw (append_assoc, drop_at code (c ++ rest) 4 four) (take_at c rest 32 size)

-- a signature of a known type and of its length has a candidate key
pub candidate_key-whole : (t : OtsType) (id : Text) (q : ℕ) (message s : Text)
    → u32_at s 0 ≡ typecode t
    → length s ≡ signature_length t → candidate_key id q message s
    ≡ Some (candidate_of t id q message s)
unfolding candidate_key
candidate_key-whole W1 id q message s code size = rw (code, size) refl
candidate_key-whole W2 id q message s code size = rw (code, size) refl
candidate_key-whole W4 id q message s code size = rw (code, size) refl
candidate_key-whole W8 id q message s code size = rw (code, size) refl

pub typecode_small : (t : OtsType) → typecode t < 2 ^ 32
typecode_small W1 = omega arith
typecode_small W2 = omega arith
typecode_small W4 = omega arith
typecode_small W8 = omega arith

-- what the signature has of a chain has 32 bytes
length-signed_link : (t : OtsType) (id : Text) (q : ℕ) (seed coded : Text) (i : ℕ)
    → length (signed_link t id q seed coded i) ≡ 32
length-signed_link t id q seed coded i =
    length-chain (chain_prefix id q i) 0 (digit t coded i) (secret_start id q seed i)
    (length-secret_start id q seed i)

-- a signature has the length of its type
pub length-signature : (t : OtsType) (id : Text) (q : ℕ) (seed message : Text)
    → length (signature t id q seed message) ≡ signature_length t
unfolding signature
length-signature t id q seed message =
    let c = randomizer id q seed in
    let coded = coded_hash t (message_hash id q c message) in
    let links = concatenated (signed_link t id q seed coded) (chains t) in
    let size = length-secret_start id q seed 65533 in
    let sizes = length-concatenated (signed_link t id q seed coded) (chains t)
    (length-signed_link t id q seed coded) in
    omega (arith, length-append (to_be_bytes w32 (typecode t) ++ c) links, size, sizes)

-- and begins with its typecode
pub signature-typecode : (t : OtsType) (id : Text) (q : ℕ) (seed message : Text)
    → u32_at (signature t id q seed message) 0 ≡ typecode t
unfolding signature u32_at
signature-typecode t id q seed message = from_be_bytes-to_be_bytes_4 (typecode t) (typecode_small t)

-- whatever the secret, the signature of a message yields the public key
pub signature_yields_key : (t : OtsType) (id seed message : Text) (q : ℕ)
    → SignatureYieldsKey t id q seed message
unfolding candidate_of signature public_key
signature_yields_key t id seed message q =
    let c = randomizer id q seed in
    let coded = coded_hash t (message_hash id q c message) in
    let code = to_be_bytes w32 (typecode t) in
    let reported = signed_link t id q seed coded in
    let links = concatenated reported (chains t) in
    let size = length-secret_start id q seed 65533 in
    let sizes = length-signed_link t id q seed coded in
    let kept : value_at (code ++ c ++ links) 4 ≡ c = second_part code c links refl size in
    let whole = candidate_key-whole t id q message (signature t id q seed message)
    (signature-typecode t id q seed message) (length-signature t id q seed message) in
    let ends = concatenated-same (finished_link t id q coded (code ++ c ++ links))
    (chain_end t id q seed) (chains t)
    (λ i below. finished_end t id q seed coded (code ++ c ++ links) i
    (signature-part code c reported (chains t) i refl size sizes below)) in
    whole ∙ ap Some (rw (kept, ends) refl)
