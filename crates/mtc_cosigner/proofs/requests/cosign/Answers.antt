use Rattle.std.proofs.Common.{[], ◌∷◌, ◌≡◌, ◌∙◌, Ok, Err, ap, inl, inr, refl, subst, sym}
use Rattle.std.proofs.lemmas.Result.{err_from_is_err_and}
use Rattle.byte_formats.specs.Types.{Text}
use Rattle.cosigner_core.specs.Reading.{subtree_in}
use Rattle.cosigner_core.specs.Requests.{SubtreeParts}
use Rattle.cosigner_core.specs.Views.{subtree_parts}
use Rattle.mtc_command.specs.Answers.{ending_of}
use Rattle.mtc_command.specs.Steps.{with_form}
use Rattle.mtc_command.proofs.Served.{following}
use Rattle.mtc_command.proofs.Valid.{after_valid, kept_valid}
use Rattle.mtc_cosigner.specs.CosignerOutcomes.{cosign_says}
use Rattle.cosigner_core.specs.Reasons.{form_fault_text}
use Rattle.mtc_cosigner.specs.Works.{IsCosigner, cosign_outcome, cosigner_outcome}
use Rattle.mtc_cosigner.specs.Works.{cosigner_says}
use Rattle.mtc_cosigner.proofs.Asked.{asked_so, no_request}
use Rattle.mtc_cosigner.proofs.requests.cosign.Goals as goal

pub returns-in_err-bytes-clause-serves : goal.returns-in_err-bytes-clause-serves
unfolding Rattle.mtc_cosigner.specs.Works.cosign_outcome
returns-in_err-bytes-clause-serves g c =
    let h = g.H.TreeHash.hash in
    let journal = c.args.journal.now in
    let file = c.args.file.now in
    let at = g.R.Room.file c.args.room.now journal in
    let stopped = err_from_is_err_and c.from_residual.result c.from_residual.ensures.1 in
    rw (stopped.1, stopped.2) (c.in_err-bytes.ensures.stops (journal ∷ (file ∷ []))
    (journal ∷ []) (λ bytes. with_form form_fault_text file (subtree_in bytes)
    (λ r. cosigner_outcome h journal at (cosign_says h r))) (inr (inl refl)))

pub returns-in-Ok-clause-serves : goal.returns-in-Ok-clause-serves
unfolding Rattle.mtc_cosigner.specs.Works.cosign_outcome
    Rattle.mtc_cosigner.specs.Works.cosigner_says
returns-in-Ok-clause-serves g c =
    let h = g.H.TreeHash.hash in
    let rooms = g.R.Room in
    let journal = c.args.journal.now in
    let file = c.args.file.now in
    let old = c.args.room.now in
    let mid = c.read_input.new.room in
    let read = c.in_ok-bytes.ensures in
    let wanted = λ (q : SubtreeParts).
    cosigner_outcome h journal (rooms.file old journal) (cosign_says h q) in
    let r = subtree_parts c.in-Ok.request in
    let is : subtree_in c.in_ok-bytes.bytes ≡ Ok r =
    subst (λ (t : Text). subtree_in t ≡ Ok r) c.as_slice.ensures c.in-Ok.ensures in
    following rooms g.R.Dsk.Disk (journal ∷ (file ∷ [])) (journal ∷ []) (journal ∷ []) []
    (cosign_outcome h journal file (rooms.file old))
    (cosigner_outcome h journal (rooms.file mid journal) (cosign_says h r)) old mid
    c.on_cosigner.new.room (ending_of c.on_cosigner.result) read.all_closed
    (λ t. ap (λ x. cosigner_outcome h journal x (cosign_says h r))
    (read.all_closed.others journal tt).bytes
    ∙ sym (asked_so subtree_in
    wanted file (rooms.file old file) c.in_ok-bytes.bytes r (read.bytes t).0 (read.bytes t).1 is))
    (λ name among. elim among [ inl same ↦ inl same | inr never ↦ absurd never ])
    c.on_cosigner.ensures.serves

pub returns-clause-serves : goal.returns-clause-serves
unfolding Rattle.mtc_cosigner.specs.Works.cosign_outcome
returns-clause-serves g c =
    let h = g.H.TreeHash.hash in
    let rooms = g.R.Room in
    let journal = c.args.journal.now in
    let file = c.args.file.now in
    let old = c.args.room.now in
    let read = c.in_ok-bytes.ensures in
    let wanted = λ (q : SubtreeParts).
    cosigner_outcome h journal (rooms.file old journal) (cosign_says h q) in
    let is : subtree_in c.in_ok-bytes.bytes ≡ Err c.in-Err.why =
    subst (λ (t : Text). subtree_in t ≡ Err c.in-Err.why) c.as_slice.ensures c.in-Err.ensures in
    no_request subtree_in wanted
    file rooms g.R.Dsk.Disk (journal ∷ (file ∷ [])) (journal ∷ []) old c.read_input.new.room
    c.in_ok-bytes.bytes _ c.in-Err.why _ read.all_closed g.met.R.Dsk.Disk.only_now read.bytes is
    c.form_reason.ensures c.refuse_file.ensures

pub returns-in_err-bytes-clause-valid : goal.returns-in_err-bytes-clause-valid
returns-in_err-bytes-clause-valid g c =
    let h = g.H.TreeHash.hash in
    kept_valid g.R.Room g.R.Dsk.Disk (IsCosigner h) (c.args.journal.now ∷ [])
    (cosign_outcome h c.args.journal.now c.args.file.now (g.R.Room.file c.args.room.now))
    c.args.room.now c.read_input.new.room c.in_err-bytes.ensures.all_closed
    g.met.R.Dsk.Disk.only_now

pub returns-in-Ok-clause-valid : goal.returns-in-Ok-clause-valid
unfolding Rattle.mtc_cosigner.specs.Works.cosign_outcome
    Rattle.mtc_cosigner.specs.Works.cosigner_says
returns-in-Ok-clause-valid g c =
    let h = g.H.TreeHash.hash in
    let rooms = g.R.Room in
    let journal = c.args.journal.now in
    let file = c.args.file.now in
    let old = c.args.room.now in
    let mid = c.read_input.new.room in
    let read = c.in_ok-bytes.ensures in
    let wanted = λ (q : SubtreeParts).
    cosigner_outcome h journal (rooms.file old journal) (cosign_says h q) in
    let r = subtree_parts c.in-Ok.request in
    let is : subtree_in c.in_ok-bytes.bytes ≡ Ok r =
    subst (λ (t : Text). subtree_in t ≡ Ok r) c.as_slice.ensures c.in-Ok.ensures in
    after_valid rooms g.R.Dsk.Disk (IsCosigner h) (journal ∷ [])
    (cosign_outcome h journal file (rooms.file old))
    (cosigner_outcome h journal (rooms.file mid journal) (cosign_says h r)) old mid
    c.on_cosigner.new.room read.all_closed
    (λ t. ap (λ x. cosigner_outcome h journal x (cosign_says h r))
    (read.all_closed.others journal tt).bytes
    ∙ sym (asked_so subtree_in
    wanted file (rooms.file old file) c.in_ok-bytes.bytes r (read.bytes t).0 (read.bytes t).1 is))
    c.on_cosigner.ensures.valid

pub returns-clause-valid : goal.returns-clause-valid
returns-clause-valid g c =
    let h = g.H.TreeHash.hash in
    kept_valid g.R.Room g.R.Dsk.Disk (IsCosigner h) (c.args.journal.now ∷ [])
    (cosign_outcome h c.args.journal.now c.args.file.now (g.R.Room.file c.args.room.now))
    c.args.room.now c.read_input.new.room c.in_ok-bytes.ensures.all_closed
    g.met.R.Dsk.Disk.only_now
