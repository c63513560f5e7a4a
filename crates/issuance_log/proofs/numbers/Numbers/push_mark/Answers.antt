use Rattle.std.proofs.Common.{◌<◌, ℕ, List, subst, sym}
use Rattle.issuance_log.specs.Folds.{LogNumbers, LogView}
use Rattle.issuance_log.specs.Marks.{last_mark}
use Rattle.issuance_log.specs.Sound.{HasSoundNumbers}
use Rattle.issuance_log.proofs.Growth.{numbers_marked}
use Rattle.issuance_log.proofs.numbers.Numbers.push_mark.Goals as goal

pub invariant_of-self : goal.invariant_of-self
invariant_of-self c =
    let n = c.self.inside in
    let v : LogView = record {
      settings = n.settings;
      size = n.size;
      marks = n.marks.items;
      tiled = n.tiled;
      switched = n.switched;
    } in
    subst (λ (marks : List ℕ). HasSoundNumbers (record {
      settings = n.settings;
      size = n.size;
      marks = marks;
      tiled = n.tiled;
      switched = n.switched;
    })) (sym c.put.ensures)
    (numbers_marked v c.self.invariant
    (subst (λ (m : LogNumbers). last_mark m.view.marks < m.view.size) (sym c.self.view_is)
    c.requires.above))
