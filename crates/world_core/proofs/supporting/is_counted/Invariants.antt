use Rattle.std.proofs.Common.{◌≡◌, drop}
use Rattle.world_core.specs.Audit.{is_counted_as, some_index}
use Rattle.world_core.proofs.supporting.is_counted.Given as goal

-- none of the cosigners so far
abbrev pub invariant-loop-place : goal.invariant-loop-place
invariant-loop-place l =
    some_index (is_counted_as l.set l.export.cosigner l.export.public) l.place
    (drop l.place l.store.cosigners)
    ≡ some_index (is_counted_as l.set l.export.cosigner l.export.public) 0 l.store.cosigners
