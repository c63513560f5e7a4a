use Rattle.quarrel_core.proofs.Seeking.{IsSought}
use Rattle.quarrel_core.specs.Firsts.{first_sign_in}
use Rattle.quarrel_core.proofs.conflicting.conflict.Given as goal

abbrev pub invariant-loop-place : goal.invariant-loop-place
invariant-loop-place l = IsSought l.steps l.place (first_sign_in l.firsts)
