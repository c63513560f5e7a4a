use Rattle.std.proofs.Common.{◌≡◌, sym, subst}
use Rattle.std.specs.Prelude.{IfOk}
use Rattle.issuance_log.specs.Folds.{LogState}
use Rattle.issuance_log.specs.Staying.{stays_both}
use Rattle.drill_core.specs.LightStores.{IsDue, IsLit, TrustsActive}
use Rattle.drill_core.proofs.OnlyRead.{seen_stays}
use Rattle.drill_core.proofs.light.one_light.Goals as goal

pub lit_by-requires : goal.lit_by-requires
lit_by-requires g c =
    subst (λ (s : LogState). TrustsActive g.H.TreeHash.hash s c.in_ok-store.store)
    (sym (seen_stays _ _ c.landmark_store.ensures.stays)) c.in_ok-store.ensures.trusts

pub returns-clause-accepted : goal.returns-clause-accepted
returns-clause-accepted g c =
    subst (λ (s : LogState). IfOk c.lit_by.result (λ count. IsDue g.H.TreeHash.hash s → count ≡ 1))
    (seen_stays _ _ c.landmark_store.ensures.stays) c.lit_by.ensures.accepted

pub returns-clause-only : goal.returns-clause-only
returns-clause-only g c =
    subst (λ (s : LogState). IfOk c.lit_by.result (λ count. count ≡ 1 → IsLit g.H.TreeHash.hash s))
    (seen_stays _ _ c.landmark_store.ensures.stays) c.lit_by.ensures.only

pub returns-clause-stays : goal.returns-clause-stays
returns-clause-stays g c =
    stays_both _ _ _ c.landmark_store.ensures.stays c.lit_by.ensures.stays
