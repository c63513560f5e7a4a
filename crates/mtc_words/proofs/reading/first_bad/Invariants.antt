use Rattle.std.proofs.Common.{◌≡◌, ◌+◌, map, drop, string_bytes}
use Rattle.mtc_words.specs.Words.{bad_word}
use Rattle.mtc_words.proofs.reading.first_bad.Given as goal

-- the arguments that are left give what all give
abbrev pub invariant-loop-i : goal.invariant-loop-i
invariant-loop-i l = bad_word (l.i + 1) (map string_bytes (drop l.i l.words))
    ≡ bad_word 1 (map string_bytes l.words)
