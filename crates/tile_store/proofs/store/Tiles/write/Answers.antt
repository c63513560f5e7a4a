use Rattle.std.proofs.Common.{sym, subst}
use Rattle.byte_formats.specs.Types.{Text}
use Rattle.tile_store.proofs.Adopted.{on-ok-map, these-contents}
use Rattle.tile_store.proofs.Kept.{first-of}
use Rattle.tile_store.proofs.NodeValues.{when-contents}
use Rattle.tile_store.specs.Calls.{OnlyWrites}
use Rattle.tile_store.specs.Contents.{HoldsTiles}
use Rattle.tile_store.specs.Sound.{leaves_with}
use Rattle.tile_store.specs.Writing.{HoldsFirst}
use Rattle.tile_store.proofs.store.Tiles.write.Goals as goal

pub returns-clause-only : goal.returns-clause-only
returns-clause-only g c =
    subst (λ n. OnlyWrites n c.args.size c.args.self.now c.write_from.new.self)
    c.count_tiles.ensures c.write_from.ensures.only

pub returns-clause-holds : goal.returns-clause-holds
returns-clause-holds g c =
    let tiles = c.args.self.now in
    let h = g.H.TreeHash.hash in
    let new = c.write_from.new.self.disk in
    on-ok-map c.write_from.result c.write_from.ensures.holds (λ holds.
    when-contents (g.T.Disk.contents tiles.disk) (leaves_with tiles.adopted tiles.rows)
    (λ leaves. (crash_state : Text) → g.T.Disk.may_leave new crash_state
    → HoldsTiles h leaves c.args.size crash_state)
    (λ b contents.
    let leaves = leaves_with tiles.adopted tiles.rows b in
    these-contents (g.T.Disk.contents tiles.disk) (leaves_with tiles.adopted tiles.rows)
    (λ before leaves. HoldsFirst h leaves c.count_tiles.result before → (crash_state : Text)
    → g.T.Disk.may_leave new crash_state → HoldsTiles h leaves c.args.size crash_state)
    b contents holds
    (subst (λ n. HoldsFirst h leaves n b) (sym c.count_tiles.ensures)
    (first-of h leaves tiles.stored b (tiles.contents b contents).tiles))))
