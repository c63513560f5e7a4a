use Rattle.std.proofs.Common.{refl}
use Rattle.std.proofs.lemmas.Iterator.Consumers.{YieldsList-from_first, nth_from_yields_List}
use Rattle.mtc_c.proofs.pieces.numbered.Goals as goal

pub returns : goal.returns
returns c = nth_from_yields_List c.nth.result _ _ c.nth.ensures.ran
    (YieldsList-from_first (λ x. x.now) (λ names. names) _ refl)
