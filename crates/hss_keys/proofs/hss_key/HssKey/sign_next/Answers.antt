use Rattle.std.proofs.Common.{◌∙◌, sym}
use Rattle.hss_keys.proofs.Newest.{size_below}
use Rattle.hss_keys.proofs.hss_key.HssKey.sign_next.Goals as goal

pub returns-in-Some-clause-size : goal.returns-in-Some-clause-size
returns-in-Some-clause-size c =
    let key = c.self.inside in
    rw (← c.self.view_is) (c.sign_below.ensures.size
    ∙ size_below key.top key.low key.children c.in-Some.lower
    (sym c.self.invariant.newest ∙ c.in-Some.is))
