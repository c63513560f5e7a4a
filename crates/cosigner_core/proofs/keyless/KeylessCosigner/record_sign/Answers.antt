use Rattle.std.proofs.Common.{refl, ◌∙◌}
use Rattle.cosigner_core.specs.Records.{sign_record}
use Rattle.cosigner_core.specs.Keyless.{keyless_owner}
use Rattle.cosigner_core.specs.Refusals.{subtree_refusal}
use Rattle.cosigner_core.specs.Views.{subtree_parts}
use Rattle.cosigner_core.proofs.Adds.{grown, keeps_append, keeps_second, not_appended}
use Rattle.cosigner_core.proofs.Adds.{refused, some_body}
use Rattle.cosigner_core.proofs.Allowed.{is_allowed, sign_taken, sign_valid}
use Rattle.cosigner_core.proofs.Keeps.{made_of}
use Rattle.cosigner_core.proofs.Encoded.{length-sign}
use Rattle.state_journal.proofs.Refusals.{on_err}
use Rattle.cosigner_core.proofs.keyless.KeylessCosigner.record_sign.Goals as goal

pub returns-in_err-test_subtree-clause-appends : goal.returns-in_err-test_subtree-clause-appends
returns-in_err-test_subtree-clause-appends g c =
    refused c.args.self.now _ _ c.from_residual.result c.in_err-test_subtree.field-0.0
    c.from_residual.ensures.1 c.in_err-test_subtree.ensures.kind (g.met.D.Disk.only_now _)

pub append_to-requires-clause-some : goal.append_to-requires-clause-some
append_to-requires-clause-some g c =
    let old = keyless_owner c.args.self.now in
    let r = subtree_parts c.args.request.now in
    some_body c.as_slice.result.now (sign_record old.state.key.next r.start r.end
    r.hash r.proof)
    (c.as_slice.ensures.value ∙ c.record_of-body.ensures.bytes)
    (length-sign old.state.key.next r.start r.end r.hash r.proof)

pub returns-in_err-test_subtree-clause-records : goal.returns-in_err-test_subtree-clause-records
returns-in_err-test_subtree-clause-records g c = on_err c.from_residual.result _ refl

pub returns-in_err-append_to-clause-answer : goal.returns-in_err-append_to-clause-answer
returns-in_err-append_to-clause-answer g c =
    let old = keyless_owner c.args.self.now in
    let r = subtree_parts c.args.request.now in
    keeps_second (subtree_refusal g.H.TreeHash.hash old.state r) _
    c.from_residual-in_err-append_to.result c.in_ok-test_subtree.ensures.exact
    (keeps_append old.broken old.end c.as_slice.result.now
    (sign_record old.state.key.next r.start r.end r.hash r.proof)
    c.from_residual-in_err-append_to.result
    c.in_err-append_to.field-0.0 c.from_residual-in_err-append_to.ensures.1
    (c.as_slice.ensures.value ∙ c.record_of-body.ensures.bytes)
    c.in_err-append_to.ensures.broken c.in_err-append_to.ensures.full)

pub returns-in_err-append_to-clause-valid : goal.returns-in_err-append_to-clause-valid
returns-in_err-append_to-clause-valid g c =
    let it = c.args.self.now in
    let old = keyless_owner it in
    sign_valid g.H.TreeHash.hash old.state (subtree_parts c.args.request.now)
    c.record_of-body.ensures.fits old.records _
    (made_of g.H.TreeHash.hash old.state it.journal it.is_durable)

pub returns-clause-valid : goal.returns-clause-valid
returns-clause-valid g c =
    let it = c.args.self.now in
    let old = keyless_owner it in
    sign_valid g.H.TreeHash.hash old.state (subtree_parts c.args.request.now)
    c.record_of-body.ensures.fits old.records _
    (made_of g.H.TreeHash.hash old.state it.journal it.is_durable)

-- the record is a step that is allowed
pub append_to-requires-clause-allowed : goal.append_to-requires-clause-allowed
append_to-requires-clause-allowed g c =
    let old = keyless_owner c.args.self.now in
    let written = c.as_slice.ensures.value ∙ c.record_of-body.ensures.bytes in
    is_allowed _ _
    (sign_taken g.H.TreeHash.hash old.state (subtree_parts c.args.request.now)
    c.record_of-body.ensures.fits c.as_slice.result.now written
    c.in_ok-test_subtree.ensures.exact)

pub returns-in_err-append_to-clause-appends : goal.returns-in_err-append_to-clause-appends
returns-in_err-append_to-clause-appends g c =
    let old = keyless_owner c.args.self.now in
    let written = c.as_slice.ensures.value ∙ c.record_of-body.ensures.bytes in
    not_appended g.D.Disk _ _ _ c.as_slice.result.now _
    c.from_residual-in_err-append_to.result
    c.in_err-append_to.field-0.0 c.from_residual-in_err-append_to.ensures.1 written
    (c.in_err-append_to.ensures.appends _
    (sign_taken g.H.TreeHash.hash old.state (subtree_parts c.args.request.now)
    c.record_of-body.ensures.fits c.as_slice.result.now written
    c.in_ok-test_subtree.ensures.exact))

pub returns-clause-appends : goal.returns-clause-appends
returns-clause-appends g c =
    let old = keyless_owner c.args.self.now in
    let written = c.as_slice.ensures.value ∙ c.record_of-body.ensures.bytes in
    grown g.D.Disk _ _ _ c.as_slice.result.now _ written (c.in_ok-append_to.ensures.appends _
    (sign_taken g.H.TreeHash.hash old.state (subtree_parts c.args.request.now)
    c.record_of-body.ensures.fits c.as_slice.result.now written
    c.in_ok-test_subtree.ensures.exact))

-- the journal makes the cosigner
pub invariant_of-self : goal.invariant_of-self
invariant_of-self g c =
    record {
      is_durable = λ b contents.
          let is = c.append_to.ensures.made.durable b contents in
          record { is_durable = is.durable; made = is.holds.made };
    }
