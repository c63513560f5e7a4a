-- the sum so far is that of the bytes so far, added to the one before
use Rattle.std.proofs.Common.{◌≡◌, ◌+◌, ◌%◌, take, sum}
use Rattle.tree_core.proofs.sum.ToyTreeHash.add.Given as goal

abbrev pub invariant-loop-byte : goal.invariant-loop-byte
invariant-loop-byte l = l.sum ≡ (l.initial.sum + sum (take l.byte-index l.piece)) % 256
