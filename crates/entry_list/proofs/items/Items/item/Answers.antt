use Rattle.std.proofs.Common.{◌<◌, length, subst, sym}
use Rattle.entry_list.specs.Items.{ItemLists}
use Rattle.entry_list.specs.Offsets.{lists_at}
use Rattle.entry_list.proofs.Kept.{kept_belongs}
use Rattle.entry_list.proofs.items.Items.item.Goals as goal

pub returns-clause-own : goal.returns-clause-own
returns-clause-own g c =
    let file = c.self.inside.file.now in
    let offsets = c.self.inside.offsets.items in
    let below : c.args.index < length (lists_at file offsets).entries =
    subst (λ (l : ItemLists). c.args.index < length l.entries) (sym c.self.view_is) c.requires in
    rw (c.entry_from.ensures, c.key_from.ensures) (kept_belongs g.H.TreeHash.hash file offsets
    c.args.index c.index-place.result.now c.self.invariant below c.index-place.ensures)
