use Rattle.std.proofs.Common.{◌/◌, ◌<◌, arith, length}
use Rattle.std.proofs.lemmas.Result.{on_ok_weaker}
use Rattle.journal_core.specs.Ends.{durable_records}
use Rattle.journal_core.specs.Words.{disk_of, end_of}
use Rattle.tiled_items.specs.Held.{held_leaves, held_places}
use Rattle.tiled_items.proofs.Opening.{held_in_known}
use Rattle.tiled_items.proofs.Walking.{item_so}
use Rattle.tiled_items.proofs.tiled.TiledItems.item.Goals as goal

pub read_item-requires : goal.read_item-requires
read_item-requires g c = record {
  before = omega (arith, c.if-start-index.false);
  durable = λ b contents. (c.args.self.now.durable b contents).durable;
  entry = c.truncate.ensures;
  spki = c.truncate-2.ensures;
}

pub returns-clause-item : goal.returns-clause-item
returns-clause-item g c =
    let rules = g.R.ItemRules in
    let h = g.H.TreeHash.hash in
    let it = c.args.self.now in
    let v = rules.view it.machine.numbers in
    let places = held_places it.machine.held in
    let leaves = held_leaves it.machine.held in
    let begun = it.begun in
    let inside = c.requires in
    let there : c.args.index / 256 < length places = omega (arith, begun, inside) in
    on_ok_weaker c.read_item.result
    (item_so rules.first rules.added h (rules.size v) places leaves (durable_records it.journal)
    c.args.index c.index-start.result.now (c.read_item.new.entry, c.read_item.new.spki)
    (held_in_known rules h v places leaves (end_of it.journal)
    (g.D.Disk.contents (disk_of it.journal)) it.durable)
    inside there c.index-start.ensures) c.read_item.ensures.item
