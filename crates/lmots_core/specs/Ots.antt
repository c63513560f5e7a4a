-- LM-OTS, the one-time signatures of RFC 8554, with SHA-256. id is the identifier I of 16 bytes, q
-- the number of the one-time key under it, seed the secret of 32 bytes.
use Rattle.std.specs.Prelude.{◌≡◌, ℕ, zero, suc, ◌+◌, ◌-◌, ◌*◌, ◌/◌, ◌%◌, ◌^◌, ◌==◌, if◌then◌else◌}
use Rattle.std.specs.Prelude.{nat_lt, [], ◌∷◌, ◌++◌, length, slice_index, Option, Some, None}
use Rattle.std.specs.Int.{w16, w32, to_be_bytes}
use Rattle.byte_formats.specs.Types.{Hash, Text}
use Rattle.sha2.specs.Sha256.{sha256}
use Rattle.lmots_core.specs.declared.parameters.OtsType.{OtsType}
use Rattle.lmots_core.specs.Parameters.{width, chains, shift, typecode, type_of_code, steps}
use Rattle.lmots_core.specs.Parameters.{signature_length}
use Rattle.lmots_core.specs.Strings.{value_at, u32_at, concatenated}

-- ---- chains (4.3)

-- What every hash along chain i of a one-time key begins with: I, q and i.
abbrev pub chain_prefix : Text → ℕ → ℕ → Text
chain_prefix id q i = id ++ to_be_bytes w32 q ++ to_be_bytes w16 i

-- One step of a chain, from step j to step j + 1.
unfoldable pub chain_step : Text → ℕ → Hash → Hash
chain_step prefix j x = sha256 (prefix ++ j ∷ [] ++ x)

-- n steps of a chain from step a on, beginning with x.
unfoldable pub chain : Text → ℕ → ℕ → Hash → Hash
chain prefix a zero x = x
chain prefix a (suc n) x = chain_step prefix (a + n) (chain prefix a n x)

-- The secret start of chain i, derived from the seed (appendix A).
unfoldable pub secret_start : Text → ℕ → Text → ℕ → Hash
secret_start id q seed i = sha256 (chain_prefix id q i ++ 0xFF ∷ [] ++ seed)

-- The public end of chain i: its start after all its steps.
abbrev pub chain_end : OtsType → Text → ℕ → Text → ℕ → Hash
chain_end t id q seed i = chain (chain_prefix id q i) 0 (steps t) (secret_start id q seed i)

-- ---- public keys (4.3)

-- The key K of which these, one after the other, are the chains' ends.
unfoldable pub key_of_ends : Text → ℕ → Text → Hash
key_of_ends id q ends = sha256 (id ++ to_be_bytes w32 q ++ 0x80 ∷ 0x80 ∷ [] ++ ends)

-- The one-time public key K.
unfoldable pub public_key : OtsType → Text → ℕ → Text → Hash
public_key t id q seed = key_of_ends id q (concatenated (chain_end t id q seed) (chains t))

-- ---- digits and checksum

-- Digit i of width w, the highest bits first (3.1.3).
abbrev pub coef : Text → ℕ → ℕ → ℕ
coef s i w = slice_index s (i * w / 8) / 2 ^ (8 - (w * (i % (8 / w)) + w)) % 2 ^ w

-- What the first n digits lack of the largest digit, in all (4.4).
unfoldable pub checksum_sum : Text → ℕ → ℕ → ℕ
checksum_sum s w zero = 0
checksum_sum s w (suc n) = checksum_sum s w n + (2 ^ w - 1 - coef s n w)

-- Cksm, over the digits of a hash (4.4).
abbrev pub checksum : OtsType → Hash → ℕ
checksum t s = checksum_sum s (width t) (256 / width t) * 2 ^ shift t

-- Q || Cksm(Q), whose digits say how far each chain goes (4.5).
unfoldable pub coded_hash : OtsType → Hash → Text
coded_hash t s = s ++ to_be_bytes w16 (checksum t s)

-- How far chain i goes.
abbrev pub digit : OtsType → Text → ℕ → ℕ
digit t coded i = coef coded i (width t)

-- ---- signatures (4.5)

-- Q, the hash of the message under the randomizer C.
unfoldable pub message_hash : Text → ℕ → Hash → Text → Hash
message_hash id q c message = sha256 (id ++ to_be_bytes w32 q ++ 0x81 ∷ 0x81 ∷ [] ++ c ++ message)

-- C is derived from the seed, with a number that no chain has: one key and message have one
-- signature.
abbrev pub randomizer : Text → ℕ → Text → Hash
randomizer id q seed = secret_start id q seed 65533

-- What the signature has of chain i: its value after as many steps as the digit says.
abbrev pub signed_link : OtsType → Text → ℕ → Text → Text → ℕ → Hash
signed_link t id q seed coded i =
    chain (chain_prefix id q i) 0 (digit t coded i) (secret_start id q seed i)

-- The signature of a message by one-time key q.
unfoldable pub signature : OtsType → Text → ℕ → Text → Text → Text
signature t id q seed message =
    let c = randomizer id q seed in
    let coded = coded_hash t (message_hash id q c message) in
    to_be_bytes w32 (typecode t) ++ c ++ concatenated (signed_link t id q seed coded) (chains t)

-- ---- verification (4.6)

-- The end of chain i, reached from what the signature s has of it.
abbrev pub finished_link : OtsType → Text → ℕ → Text → Text → ℕ → Hash
finished_link t id q coded s i =
    let done = digit t coded i in
    chain (chain_prefix id q i) done (steps t - done) (value_at s (36 + 32 * i))

-- Kc, the candidate key of a whole signature.
unfoldable pub candidate_of : OtsType → Text → ℕ → Text → Text → Hash
candidate_of t id q message s =
    let coded = coded_hash t (message_hash id q (value_at s 4) message) in
    key_of_ends id q (concatenated (finished_link t id q coded s) (chains t))

-- The candidate key, where the signature's length is that of its type.
abbrev pub candidate_for : Option OtsType → Text → ℕ → Text → Text → Option Hash
candidate_for None id q message s = None
candidate_for (Some t) id q message s =
    if length s == signature_length t then Some (candidate_of t id q message s) else None

-- The candidate key of a message and a signature (algorithm 4b): none where the signature has fewer
-- than 4 bytes, an unknown typecode, or another length than that of its typecode.
unfoldable pub candidate_key : Text → ℕ → Text → Text → Option Hash
candidate_key id q message s =
    if nat_lt (length s) 4 then None else candidate_for (type_of_code (u32_at s 0)) id q message s

-- ---- the law: the signature of a message leads back to the key that made it
abbrev pub SignatureYieldsKey : OtsType → Text → ℕ → Text → Text → Type 0
SignatureYieldsKey t id q seed message =
    candidate_key id q message (signature t id q seed message) ≡ Some (public_key t id q seed)
