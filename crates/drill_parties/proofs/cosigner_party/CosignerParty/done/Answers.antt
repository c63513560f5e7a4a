use Rattle.std.proofs.Common.{◌∙◌, List, [], ◌∷◌, ◌++◌, Some, sym, subst, ap, refl}
use Rattle.std.proofs.lemmas.Option.{same_Some}
use Rattle.byte_formats.specs.Types.{Text}
use Rattle.disk_core.specs.Memory.{bytes_of}
use Rattle.cosigner_core.specs.Folds.{CosignerState}
use Rattle.journal_core.specs.Ends.{durable_of}
use Rattle.cosigner_core.specs.Words.{cosigner_disk, cosigner_end}
use Rattle.drill_parties.specs.CosignerCalls.{body_called, cosigner_after}
use Rattle.drill_parties.specs.CosignerParties.{IsCosignerDisk}
use Rattle.drill_parties.specs.CosignerViews.{cosigner_shown, records_shown}
use Rattle.drill_parties.proofs.GrownDisks.{is_disk, records_grown}
use Rattle.drill_parties.proofs.cosigner_party.CosignerParty.done.Goals as goal

pub invariant_of-result : goal.invariant_of-result
invariant_of-result g c =
    let called = c.in_ok-call_cosigner.ensures in
    let grown = called.grown c.if-branch.true in
    let disk = cosigner_disk c.call_cosigner.new.cosigner in
    let list : List Text =
    durable_of (cosigner_end c.args.self.cosigner) (bytes_of (cosigner_disk c.args.self.cosigner))
    ++ body_called (cosigner_shown c.args.self) c.args.call.now ∷ [] in
    record {
      sound = grown.sound;
      is_durable = grown.records
          ∙ ap Some (sym (records_grown disk list called.reads (called.kept c.if-branch.true)));
      stands = subst (λ (s : CosignerState). IsCosignerDisk g.H.TreeHash.hash s disk)
          (sym grown.state)
          (is_disk g.H.TreeHash.hash (cosigner_after (cosigner_shown c.args.self) c.args.call.now)
          disk list called.reads (called.kept c.if-branch.true) called.valid);
    }

pub returns-then-branch-clause-records : goal.returns-then-branch-clause-records
returns-then-branch-clause-records g c =
    let called = c.in_ok-call_cosigner.ensures in
    let body = body_called (cosigner_shown c.args.self) c.args.call.now in
    let list : List Text =
    durable_of (cosigner_end c.args.self.cosigner) (bytes_of (cosigner_disk c.args.self.cosigner))
    in
    records_grown (cosigner_disk c.call_cosigner.new.cosigner) (list ++ body ∷ []) called.reads
    (called.kept c.if-branch.true)
    ∙ ap (λ (xs : List Text). xs ++ body ∷ [])
    (same_Some list (records_shown c.args.self) c.args.self.is_durable)

pub returns-then-branch-clause-state : goal.returns-then-branch-clause-state
returns-then-branch-clause-state g c = (c.in_ok-call_cosigner.ensures.grown c.if-branch.true).state

pub returns-then-branch-clause-signed : goal.returns-then-branch-clause-signed
returns-then-branch-clause-signed g c = c.in_ok-call_cosigner.ensures.signed c.if-branch.true

pub returns-then-branch-clause-numbered : goal.returns-then-branch-clause-numbered
returns-then-branch-clause-numbered g c = c.in_ok-call_cosigner.ensures.numbered c.if-branch.true

pub returns-then-branch-clause-stops : goal.returns-then-branch-clause-stops
returns-then-branch-clause-stops g c = refl
