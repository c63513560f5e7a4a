use Rattle.std.proofs.Common.{◌∙◌, ap}
use Rattle.issuance_log.specs.Folds.{LogState}
use Rattle.issuance_log.specs.Staying.{stays_both}
use Rattle.drill_core.specs.Parties.{log_seen}
use Rattle.drill_core.specs.LightStores.{with_hash}
use Rattle.drill_core.proofs.OwnSubtrees.{put_both}
use Rattle.drill_core.proofs.OnlyRead.{seen_stays}
use Rattle.drill_core.proofs.light.put_cover.Goals as goal

pub returns-in_err-push-2-clause-stays : goal.returns-in_err-push-2-clause-stays
returns-in_err-push-2-clause-stays g c =
    stays_both _ _ _ c.trusted.ensures.stays c.trusted-2.ensures.stays

pub returns-clause-stays : goal.returns-clause-stays
returns-clause-stays g c =
    stays_both _ _ _ c.trusted.ensures.stays c.trusted-2.ensures.stays

pub returns-clause-put : goal.returns-clause-put
returns-clause-put g c =
    let h = g.H.TreeHash.hash in
    put_both h (log_seen c.args.log.now).entries c.args.cover.now c.in-Some.span
    c.args.trust.now.items c.push.new.self.items c.push-2.new.self.items c.in_ok-first.first
    c.in_ok-second.second c.in-Some.is c.in_ok-first.ensures.hash
    (c.in_ok-second.ensures.hash
    ∙ ap (λ (s : LogState). with_hash h s.entries c.in-Some.span)
    (seen_stays _ _ c.trusted.ensures.stays))
    c.in_ok-push.ensures.items c.in_ok-push-2.ensures.items

pub returns-in_err-second-clause-stays : goal.returns-in_err-second-clause-stays
returns-in_err-second-clause-stays g c =
    stays_both _ _ _ c.trusted.ensures.stays c.trusted-2.ensures.stays
