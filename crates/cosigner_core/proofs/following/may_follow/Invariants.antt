use Rattle.std.proofs.Common.{◌≡◌, [], ◌∷◌, ◌++◌, drop}
use Rattle.cosigner_core.specs.Progress.{progress_in}
use Rattle.cosigner_core.proofs.After.{brought}
use Rattle.cosigner_core.proofs.following.may_follow.Given as goal

-- the rest of the records and the last one decide
abbrev pub invariant-loop-earlier : goal.invariant-loop-earlier
invariant-loop-earlier g l =
    brought g.H.TreeHash.hash l.terms l.progress
    (drop l.earlier-index l.bodies ++ l.body ∷ [])
    ≡ progress_in g.H.TreeHash.hash l.terms (l.bodies ++ l.body ∷ [])
