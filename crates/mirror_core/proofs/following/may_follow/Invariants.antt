use Rattle.std.proofs.Common.{◌≡◌, ◌+◌, [], ◌∷◌, ◌++◌, drop}
use Rattle.journal_core.specs.Folds.{taken_from}
use Rattle.mirror_core.specs.Folds.{new_mirror, view_in_mirror}
use Rattle.mirror_core.proofs.Views.{view_fold}
use Rattle.mirror_core.proofs.following.may_follow.Given as goal

-- the records so far make what the mirror shows, and the rest of them and the last one decide
abbrev pub invariant-loop-earlier : goal.invariant-loop-earlier
invariant-loop-earlier g l =
    taken_from (view_fold g.H.TreeHash.hash) (1 + l.earlier-index) l.numbers
    (drop l.earlier-index l.bodies ++ l.body ∷ [])
    ≡ taken_from (view_fold g.H.TreeHash.hash) 1 (view_in_mirror (new_mirror l.fn.log))
    (l.bodies ++ l.body ∷ [])
