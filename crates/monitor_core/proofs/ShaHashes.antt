-- Each value of SHA-256 is 32 bytes.
use Rattle.std.proofs.Common.{ℕ, zero, suc, ◌<◌, ◌/◌, ◌%◌, ◌^◌, List, [], ◌∷◌, ◌++◌, arith}
use Rattle.std.specs.Int.{byte_at, bytes_high_first, to_be_bytes, w32}
use Rattle.std.specs.Prelude.{slice_index}
use Rattle.sha2.specs.Sha256.{digest_bytes, final_hash, initial_hash_256, sha256}
use Rattle.sha2.proofs.Facts256.{length-sha256}
use Rattle.byte_formats.specs.Offsets.{IsBytes}
use Rattle.byte_formats.specs.Types.{Text}
use Rattle.monitor_core.specs.Chains.{GivesHashes}

remainder : (x : ℕ) → x % 256 < 256
remainder x = omega arith

byte_small : (k n : ℕ) → byte_at k n < 256
byte_small zero n = remainder n
byte_small (suc k) n = remainder (n / 256 ^ suc k)

word_bytes : (k n : ℕ) → IsBytes (bytes_high_first k n)
word_bytes zero n i = omega arith
word_bytes (suc k) n zero = byte_small k n
word_bytes (suc k) n (suc i) = word_bytes k n i

both_bytes : (a b : Text) → IsBytes a → IsBytes b → IsBytes (a ++ b)
both_bytes [] b one other i = other i
both_bytes (x ∷ xs) b one other zero = one 0
both_bytes (x ∷ xs) b one other (suc i) = both_bytes xs b (λ k. one (suc k)) other i

digest_are_bytes : (words : List ℕ) (n : ℕ) → IsBytes (digest_bytes words n)
unfolding digest_bytes
digest_are_bytes words zero i = omega arith
digest_are_bytes words (suc n) i =
    both_bytes (digest_bytes words n) (to_be_bytes w32 (slice_index words n))
    (digest_are_bytes words n) (word_bytes 4 (slice_index words n)) i

pub sha256_gives : GivesHashes sha256
unfolding sha256
sha256_gives text =
    (length-sha256 text, digest_are_bytes (final_hash initial_hash_256 text) 8)
