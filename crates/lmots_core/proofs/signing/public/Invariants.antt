use Rattle.std.proofs.Common.{[], ◌∷◌, ◌++◌}
use Rattle.std.specs.Int.{w32, to_be_bytes}
use Rattle.sha2.specs.Hashers.{Holds256}
use Rattle.lmots_core.specs.Strings.{concatenated}
use Rattle.lmots_core.specs.Ots.{chain_end}
use Rattle.lmots_core.proofs.signing.public.Given as goal

abbrev pub invariant-loop-i : goal.invariant-loop-i
invariant-loop-i l = Holds256 l.hasher
    (((l.id ++ to_be_bytes w32 l.q) ++ 0x80 ∷ 0x80 ∷ [])
    ++ concatenated (chain_end l.ots l.id l.q l.secret) l.i)
