use Rattle.std.proofs.Common.{sym, true≢false, ◌∙◌}
use Rattle.cosigner_steps.proofs.Holding.{sign_long}
use Rattle.world_core.proofs.Walks.{ok_still, shows_extracts}
use Rattle.world_core.proofs.signed.find_signed.Goals as goal

pub is_of_list-requires : goal.is_of_list-requires
is_of_list-requires g c =
    sign_long g.H.TreeHash.hash c.args.entries.now c.args.steps.now c.args.place c.args.step.now
    c.requires.allowed c.requires.within c.requires.step c.requires.whole

pub returns : goal.returns
returns g c =
    ok_still _ _ c.at_advance.result (λ f. shows_extracts g.H.TreeHash.hash _ _ _ f (λ own.
    true≢false (sym (c.is_of_list.ensures.1 own) ∙ c.if-is_of_list.false))) c.at_advance.ensures
