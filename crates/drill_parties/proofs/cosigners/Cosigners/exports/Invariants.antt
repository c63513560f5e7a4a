use Rattle.std.proofs.Common.{take}
use Rattle.drill_parties.specs.Cosigners.{Paired}
use Rattle.drill_parties.specs.CosignerViews.{IsExportOf, IsStill}
use Rattle.drill_parties.proofs.Going.{HaveGone}
use Rattle.drill_parties.proofs.cosigners.Cosigners.exports.Given as goal

abbrev pub invariant-loop-contents : goal.invariant-loop-contents
invariant-loop-contents g l = record {
  gone : HaveGone IsStill l._contents l.fn.self.parties.items l.self.parties.items;
  read : Paired (IsExportOf g.H.TreeHash.hash) (take l._contents l.fn.self.parties.items)
      l.texts.items;
}
