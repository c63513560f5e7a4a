use Rattle.std.proofs.Common.{◌<◌, ◌∙◌, ℕ, length, refl, sym, subst}
use Rattle.std.specs.List.{AllByRecursion}
use Rattle.std.specs.Prelude.{OnOk}
use Rattle.byte_formats.specs.Types.{Hash}
use Rattle.drill_parties.specs.Cosigners.{IsAdvanced, Paired}
use Rattle.drill_parties.specs.CosignerViews.{cosigner_shown}
use Rattle.drill_core.specs.LogParties.{log_shown}
use Rattle.drill_core.specs.Played.{log_root}
use Rattle.drill_core.proofs.OnlyRead.{seen_stays, still_stands}
use Rattle.drill_core.proofs.Turns.{first_few}
use Rattle.drill_core.proofs.play.hold_all.Goals as goal

pub root_and_proof-requires : goal.root_and_proof-requires
root_and_proof-requires g c =
    first_few (length (log_shown c.args.log.now).entries) c.args.cosigners.now.parties.items
    c.held-held.result c.held-held.ensures c.requires.some c.requires.larger

pub invariant_of-log : goal.invariant_of-log
invariant_of-log g c = record {
  sound = c.root_and_proof.ensures.stays.broken ∙ c.args.log.now.sound;
  stands = still_stands g.H.TreeHash.hash c.args.log.now.log c.root_and_proof.new.log
      c.root_and_proof.ensures.stays c.args.log.now.stands;
}

pub returns-in_err-root-clause-same : goal.returns-in_err-root-clause-same
returns-in_err-root-clause-same g c =
    record { shown = seen_stays _ _ c.root_and_proof.ensures.stays; stops = refl }

pub returns-clause-same : goal.returns-clause-same
returns-clause-same g c =
    record { shown = seen_stays _ _ c.root_and_proof.ensures.stays; stops = refl }

pub returns-clause-stops : goal.returns-clause-stops
returns-clause-stops g c = c.advance.ensures.stops

pub advance-requires-clause-larger : goal.advance-requires-clause-larger
advance-requires-clause-larger g c =
    subst (λ (n : ℕ). AllByRecursion (λ party. (cosigner_shown party).held.size < n)
    c.args.cosigners.now.parties.items) (sym c.size_of-size.ensures.value) c.requires.larger

pub returns-clause-each : goal.returns-clause-each
returns-clause-each g c =
    let h = g.H.TreeHash.hash in
    let old = c.args.cosigners.now.parties.items in
    let new = c.advance.new.self.parties.items in
    subst (λ (n : ℕ). OnOk c.advance.result
    (Paired (IsAdvanced n (log_root h (log_shown c.args.log.now))) old new))
    c.size_of-size.ensures.value
    (subst (λ (x : Hash). OnOk c.advance.result
    (Paired (IsAdvanced c.size_of-size.result x) old new))
    c.in_ok-root.ensures.hash c.advance.ensures.each)
