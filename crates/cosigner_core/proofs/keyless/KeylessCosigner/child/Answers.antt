use Rattle.std.proofs.Common.{◌≡◌, ℕ, ◌∙◌, ap, sym}
use Rattle.byte_formats.specs.Types.{Text}
use Rattle.lms_core.specs.declared.heights.LmsType.{LmsType}
use Rattle.cosigner_core.specs.Keyless.{keyless_owner}
use Rattle.cosigner_core.specs.Records.{child_record}
use Rattle.cosigner_core.proofs.Adds.{some_body}
use Rattle.cosigner_core.proofs.Allowed.{is_allowed}
use Rattle.cosigner_core.proofs.Children.{child_grown, child_not_appended, child_taken, child_valid}
use Rattle.cosigner_core.proofs.Children.{next_is}
use Rattle.cosigner_core.proofs.Encoded.{length-child}
use Rattle.cosigner_core.proofs.Keeps.{made_of}
use Rattle.cosigner_core.proofs.keyless.KeylessCosigner.child.Goals as goal

-- the record that was written has the number of the next lower tree
written_so : (children child : ℕ) (low : LmsType) (written : Text) → child ≡ children
    → written ≡ child_record child low → written ≡ child_record children low
written_so children child low written same is =
    is ∙ ap (λ (n : ℕ). child_record n low) same

pub append_to-requires-clause-some : goal.append_to-requires-clause-some
append_to-requires-clause-some g c =
    some_body c.as_slice.result.now (child_record c.children-number.result c.in_ok-low.low)
    (c.as_slice.ensures.value ∙ c.child-body.ensures.bytes)
    (length-child c.children-number.result c.in_ok-low.low)

-- the record is a step that is allowed
pub append_to-requires-clause-allowed : goal.append_to-requires-clause-allowed
append_to-requires-clause-allowed g c =
    let s = (keyless_owner c.args.self.now).state in
    let written = c.as_slice.ensures.value ∙ c.child-body.ensures.bytes in
    is_allowed _ _ (child_taken g.H.TreeHash.hash s c.test_child.ensures.counts
    c.in_ok-low.ensures.tests.0 c.in_ok-low.low c.in_ok-low.ensures.tests.1 c.as_slice.result.now
    (written_so c.args.self.now.machine.contents.key.children c.children-number.result
    c.in_ok-low.low c.as_slice.result.now c.children-number.ensures written))

pub returns-in_err-append_to-clause-valid : goal.returns-in_err-append_to-clause-valid
returns-in_err-append_to-clause-valid g c =
    let it = c.args.self.now in
    let old = keyless_owner it in
    child_valid g.H.TreeHash.hash old.state c.test_child.ensures.counts old.records _
    (made_of g.H.TreeHash.hash old.state it.journal it.is_durable)

pub returns-clause-valid : goal.returns-clause-valid
returns-clause-valid g c =
    let it = c.args.self.now in
    let old = keyless_owner it in
    child_valid g.H.TreeHash.hash old.state c.test_child.ensures.counts old.records _
    (made_of g.H.TreeHash.hash old.state it.journal it.is_durable)

pub returns-in_err-append_to-clause-appends : goal.returns-in_err-append_to-clause-appends
returns-in_err-append_to-clause-appends g c =
    let s = (keyless_owner c.args.self.now).state in
    let written = written_so s.key.children c.children-number.result c.in_ok-low.low
    c.as_slice.result.now c.children-number.ensures
    (c.as_slice.ensures.value ∙ c.child-body.ensures.bytes) in
    let next = next_is g.H.TreeHash.hash s c.test_child.ensures.counts c.in_ok-low.ensures.tests.0
    c.in_ok-low.low c.in_ok-low.ensures.tests.1 in
    child_not_appended g.D.Disk _ _ _ c.as_slice.result.now _
    c.from_residual-in_err-append_to.result c.in_err-append_to.field-0.0
    c.from_residual-in_err-append_to.ensures.1 (written ∙ sym next)
    (c.in_err-append_to.ensures.appends _ (child_taken g.H.TreeHash.hash s
    c.test_child.ensures.counts c.in_ok-low.ensures.tests.0 c.in_ok-low.low
    c.in_ok-low.ensures.tests.1 c.as_slice.result.now written))

pub returns-clause-appends : goal.returns-clause-appends
returns-clause-appends g c =
    let s = (keyless_owner c.args.self.now).state in
    let written = written_so s.key.children c.children-number.result c.in_ok-low.low
    c.as_slice.result.now c.children-number.ensures
    (c.as_slice.ensures.value ∙ c.child-body.ensures.bytes) in
    let next = next_is g.H.TreeHash.hash s c.test_child.ensures.counts c.in_ok-low.ensures.tests.0
    c.in_ok-low.low c.in_ok-low.ensures.tests.1 in
    child_grown g.D.Disk _ _ _ c.as_slice.result.now _ c.children-number.result
    (written ∙ sym next)
    (c.in_ok-append_to.ensures.appends _ (child_taken g.H.TreeHash.hash s
    c.test_child.ensures.counts c.in_ok-low.ensures.tests.0 c.in_ok-low.low
    c.in_ok-low.ensures.tests.1 c.as_slice.result.now written))
