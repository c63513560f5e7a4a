use Rattle.std.proofs.Common.{◌≡◌, ◌+◌, ◌*◌, ◌++◌, length}
use Rattle.lmots_core.specs.Strings.{concatenated}
use Rattle.lmots_core.specs.Ots.{signed_link}
use Rattle.lmots_core.proofs.signing.put_links.Given as goal

abbrev pub invariant-loop-i : goal.invariant-loop-i
invariant-loop-i l =
    (l.out ≡ l.initial.out ++ concatenated (signed_link l.ots l.id l.q l.secret l.coded) l.i)
    × (length l.out ≡ length l.initial.out + 32 * l.i)
