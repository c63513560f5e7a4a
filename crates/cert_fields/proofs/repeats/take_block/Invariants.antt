use Rattle.std.proofs.Common.{◌≡◌, ◌-◌, ◌≤◌, length, take}
use Rattle.cert_fields.specs.Views.{texts}
use Rattle.cert_fields.proofs.Walks.{Taken}
use Rattle.cert_fields.proofs.repeats.take_block.Given as goal

-- The block begins with the identifiers that were taken.
abbrev pub invariant-loop-taken : goal.invariant-loop-taken
invariant-loop-taken l =
    (length l.block ≡ length l.fn.block) × (l.taken ≤ l.fn.most) × (l.taken ≤ length l.block)
    × Taken l.fn.reader l.taken (texts (take l.taken l.block)) l.reader

abbrev pub decreases-loop-taken : goal.decreases-loop-taken
decreases-loop-taken l = l.fn.most - l.taken
