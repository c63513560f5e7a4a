use Rattle.std.proofs.Common.{◌≡◌, ◌+◌, [], ◌∷◌, ◌++◌, drop}
use Rattle.journal_core.specs.Folds.{taken_from}
use Rattle.issuance_log.specs.Folds.{new_log, view_in}
use Rattle.issuance_log.proofs.Views.{view_fold}
use Rattle.issuance_log.proofs.following.may_follow.Given as goal

-- the records so far make what the log shows, and the rest of them and the last one decide
abbrev pub invariant-loop-earlier : goal.invariant-loop-earlier
invariant-loop-earlier g l =
    taken_from (view_fold g.H.TreeHash.hash) (1 + l.earlier-index) l.numbers.view
    (drop l.earlier-index l.bodies ++ l.body ∷ [])
    ≡ taken_from (view_fold g.H.TreeHash.hash) 1 (view_in (new_log l.settings))
    (l.bodies ++ l.body ∷ [])
