use Rattle.std.proofs.Common.{◌∙◌, ℕ, refl, subst}
use Rattle.std.specs.Prelude.{OnOk}
use Rattle.byte_formats.specs.Types.{Hash}
use Rattle.drill_parties.specs.Cosigners.{HaveSigned, IsSigned, Paired}
use Rattle.drill_core.specs.LogParties.{log_shown}
use Rattle.drill_core.specs.Played.{log_root}
use Rattle.drill_core.proofs.OnlyRead.{seen_stays, still_stands}
use Rattle.drill_core.proofs.Numbers.{no_more}
use Rattle.drill_core.proofs.play.sign_all.Goals as goal

pub root_and_proof-requires : goal.root_and_proof-requires
root_and_proof-requires g c = no_more _ _ c.size_of-size.ensures.value

pub invariant_of-log : goal.invariant_of-log
invariant_of-log g c = record {
  sound = c.root_and_proof.ensures.stays.broken ∙ c.args.log.now.sound;
  stands = still_stands g.H.TreeHash.hash c.args.log.now.log c.root_and_proof.new.log
      c.root_and_proof.ensures.stays c.args.log.now.stands;
}

pub cosign-requires-clause-few : goal.cosign-requires-clause-few
cosign-requires-clause-few g c = c.as_slice.ensures.few

pub cosign-requires-clause-turns : goal.cosign-requires-clause-turns
cosign-requires-clause-turns g c = c.requires

pub returns-in_err-hash-clause-same : goal.returns-in_err-hash-clause-same
returns-in_err-hash-clause-same g c =
    record { shown = seen_stays _ _ c.root_and_proof.ensures.stays; stops = refl }

pub returns-clause-same : goal.returns-clause-same
returns-clause-same g c =
    record { shown = seen_stays _ _ c.root_and_proof.ensures.stays; stops = refl }

pub returns-clause-keys : goal.returns-clause-keys
returns-clause-keys g c = c.cosign.ensures.keys

pub returns-clause-stops : goal.returns-clause-stops
returns-clause-stops g c = c.cosign.ensures.stops

pub returns-clause-each : goal.returns-clause-each
returns-clause-each g c =
    let h = g.H.TreeHash.hash in
    let old = c.args.cosigners.now.parties.items in
    let new = c.cosign.new.self.parties.items in
    subst (λ (n : ℕ). OnOk c.cosign.result
    (Paired (IsSigned n (log_root h (log_shown c.args.log.now))) old new))
    c.size_of-size.ensures.value
    (subst (λ (x : Hash). OnOk c.cosign.result
    (Paired (IsSigned c.size_of-size.result x) old new))
    c.in_ok-hash.ensures.hash c.cosign.ensures.each)

pub returns-clause-signed : goal.returns-clause-signed
returns-clause-signed g c =
    let h = g.H.TreeHash.hash in
    let old = c.args.cosigners.now.parties.items in
    let before = c.args.signatures.now in
    let after = c.cosign.new.signatures in
    subst (λ (n : ℕ). OnOk c.cosign.result
    (HaveSigned n (log_root h (log_shown c.args.log.now)) old before after))
    c.size_of-size.ensures.value
    (subst (λ (x : Hash). OnOk c.cosign.result
    (HaveSigned c.size_of-size.result x old before after))
    c.in_ok-hash.ensures.hash c.cosign.ensures.signed)
