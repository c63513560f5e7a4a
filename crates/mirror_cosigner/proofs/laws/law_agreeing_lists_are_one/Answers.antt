use Rattle.mirror_cosigner.proofs.Audited.{never_foreign}
use Rattle.mirror_cosigner.proofs.Growing.{agreeing_are_one, agreeing_is_mine}
use Rattle.mirror_cosigner.proofs.laws.law_agreeing_lists_are_one.Goals as goal

pub returns : goal.returns
returns c = record {
  one = agreeing_are_one;
  mine = agreeing_is_mine;
  never_foreign = never_foreign;
}
