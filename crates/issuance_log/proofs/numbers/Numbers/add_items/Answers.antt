use Rattle.std.proofs.Common.{◌+◌, ◌≤◌, subst, sym}
use Rattle.issuance_log.specs.Folds.{LogNumbers, LogView}
use Rattle.issuance_log.proofs.Growth.{numbers_more}
use Rattle.issuance_log.proofs.numbers.Numbers.add_items.Goals as goal

pub invariant_of-self : goal.invariant_of-self
invariant_of-self c =
    let n = c.self.inside in
    let v : LogView = record {
      settings = n.settings;
      size = n.size;
      marks = n.marks.items;
      tiled = n.tiled;
      switched = n.switched;
    } in
    numbers_more v c.args.count c.self.invariant
    (subst (λ (m : LogNumbers). m.view.size + c.args.count ≤ m.view.settings.limit)
    (sym c.self.view_is) c.requires)
