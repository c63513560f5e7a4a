use Rattle.std.proofs.Common.{refl, ap, ◌∙◌}
use Rattle.cosigner_core.specs.Records.{advance_record}
use Rattle.cosigner_core.specs.Folds.{CosignerState}
use Rattle.cosigner_core.specs.Keyless.{keyless_owner}
use Rattle.cosigner_core.specs.Refusals.{advance_refusal}
use Rattle.cosigner_core.specs.Views.{advance_parts}
use Rattle.cosigner_core.proofs.Adds.{grown, keeps_append, keeps_second, not_appended}
use Rattle.cosigner_core.proofs.Adds.{refused, some_body}
use Rattle.cosigner_core.proofs.Allowed.{advance_taken, advance_valid, is_allowed}
use Rattle.cosigner_core.proofs.Keeps.{made_of}
use Rattle.cosigner_core.proofs.Encoded.{length-advance}
use Rattle.state_journal.proofs.Refusals.{on_err}
use Rattle.cosigner_core.proofs.keyless.KeylessCosigner.advance.Goals as goal

pub returns-in_err-test_advance-clause-appends : goal.returns-in_err-test_advance-clause-appends
returns-in_err-test_advance-clause-appends g c =
    refused c.args.self.now _ _ c.from_residual.result c.in_err-test_advance.field-0.0
    c.from_residual.ensures.1 c.in_err-test_advance.ensures.kind (g.met.D.Disk.only_now _)

pub append_to-requires-clause-some : goal.append_to-requires-clause-some
append_to-requires-clause-some g c =
    let r = advance_parts c.args.request.now in
    some_body c.as_slice.result.now (advance_record r.size r.root r.proof)
    (c.as_slice.ensures.value ∙ c.advance-body.ensures.bytes)
    (length-advance r.size r.root r.proof)

pub returns-in_err-test_advance-clause-records : goal.returns-in_err-test_advance-clause-records
returns-in_err-test_advance-clause-records g c = on_err c.from_residual.result _ refl

pub returns-in_err-append_to-clause-answer : goal.returns-in_err-append_to-clause-answer
returns-in_err-append_to-clause-answer g c =
    let old = keyless_owner c.args.self.now in
    let r = advance_parts c.args.request.now in
    keeps_second (advance_refusal g.H.TreeHash.hash old.state r) _
    c.from_residual-in_err-append_to.result c.in_ok-test_advance.ensures.exact
    (keeps_append old.broken old.end c.as_slice.result.now
    (advance_record r.size r.root r.proof) c.from_residual-in_err-append_to.result
    c.in_err-append_to.field-0.0 c.from_residual-in_err-append_to.ensures.1
    (c.as_slice.ensures.value ∙ c.advance-body.ensures.bytes) c.in_err-append_to.ensures.broken
    c.in_err-append_to.ensures.full)

pub returns-in_err-append_to-clause-valid : goal.returns-in_err-append_to-clause-valid
returns-in_err-append_to-clause-valid g c =
    let it = c.args.self.now in
    let old = keyless_owner it in
    advance_valid g.H.TreeHash.hash old.state (advance_parts c.args.request.now)
    c.advance-body.ensures.fits old.records _
    (made_of g.H.TreeHash.hash old.state it.journal it.is_durable)

pub returns-clause-valid : goal.returns-clause-valid
returns-clause-valid g c =
    let it = c.args.self.now in
    let old = keyless_owner it in
    advance_valid g.H.TreeHash.hash old.state (advance_parts c.args.request.now)
    c.advance-body.ensures.fits old.records _
    (made_of g.H.TreeHash.hash old.state it.journal it.is_durable)

-- the record is a step that is allowed
pub append_to-requires-clause-allowed : goal.append_to-requires-clause-allowed
append_to-requires-clause-allowed g c =
    let old = keyless_owner c.args.self.now in
    let written = c.as_slice.ensures.value ∙ c.advance-body.ensures.bytes in
    is_allowed _ _
    (advance_taken g.H.TreeHash.hash old.state (advance_parts c.args.request.now)
    c.advance-body.ensures.fits c.as_slice.result.now written c.in_ok-test_advance.ensures.exact)

pub returns-in_err-append_to-clause-appends : goal.returns-in_err-append_to-clause-appends
returns-in_err-append_to-clause-appends g c =
    let old = keyless_owner c.args.self.now in
    let written = c.as_slice.ensures.value ∙ c.advance-body.ensures.bytes in
    not_appended g.D.Disk _ _ _ c.as_slice.result.now _ c.from_residual-in_err-append_to.result
    c.in_err-append_to.field-0.0 c.from_residual-in_err-append_to.ensures.1 written
    (c.in_err-append_to.ensures.appends _
    (advance_taken g.H.TreeHash.hash old.state (advance_parts c.args.request.now)
    c.advance-body.ensures.fits c.as_slice.result.now written c.in_ok-test_advance.ensures.exact))

pub returns-clause-appends : goal.returns-clause-appends
returns-clause-appends g c =
    let old = keyless_owner c.args.self.now in
    let written = c.as_slice.ensures.value ∙ c.advance-body.ensures.bytes in
    grown g.D.Disk _ _ _ c.as_slice.result.now _ written (c.in_ok-append_to.ensures.appends _
    (advance_taken g.H.TreeHash.hash old.state (advance_parts c.args.request.now)
    c.advance-body.ensures.fits c.as_slice.result.now written c.in_ok-test_advance.ensures.exact))

-- what is held is new, and the key is as it was
pub returns-clause-key : goal.returns-clause-key
returns-clause-key g c =
    let old = keyless_owner c.args.self.now in
    let written = c.as_slice.ensures.value ∙ c.advance-body.ensures.bytes in
    let did = c.in_ok-append_to.ensures.appends _
    (advance_taken g.H.TreeHash.hash old.state (advance_parts c.args.request.now)
    c.advance-body.ensures.fits c.as_slice.result.now written
    c.in_ok-test_advance.ensures.exact) in
    ap (λ (s : CosignerState). s.key) did.leaves.state

-- the journal makes the cosigner
pub invariant_of-self : goal.invariant_of-self
invariant_of-self g c =
    record {
      is_durable = λ b contents.
          let is = c.append_to.ensures.made.durable b contents in
          record { is_durable = is.durable; made = is.holds.made };
    }
