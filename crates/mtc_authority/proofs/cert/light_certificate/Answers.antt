use Rattle.std.proofs.Common.{subst, sym}
use Rattle.issuance_log.specs.Folds.{view_in}
use Rattle.authority_core.specs.Certificates.{covering_in, light_refusal}
use Rattle.mtc_command.specs.Answers.{Ending}
use Rattle.mtc_authority.specs.CertOutcome.{light_reply, light_text}
use Rattle.mtc_authority.specs.Works.{RepliesOnLog}
use Rattle.mtc_authority.proofs.Certified.{by_landmarks, lightly_certified, not_certified}
use Rattle.mtc_authority.proofs.cert.light_certificate.Goals as goal

pub returns-in-Ok : goal.returns-in-Ok
returns-in-Ok g c = lightly_certified c.args.journal.now g.H.TreeHash.hash c.args.index
    c.args.log.now c.light_cert.new.log c.in-Ok.ensures.stays c.law_sound.ensures.view c.in-Ok.text
    c.in-Ok.ensures.answer c.in-Ok.ensures.written

pub returns-in-Err : goal.returns-in-Err
returns-in-Err g c =
    let log = c.args.log.now in
    let new = c.light_cert.new.log in
    let h = g.H.TreeHash.hash in
    let name = c.args.journal.now in
    subst (λ (e : Ending). RepliesOnLog name (light_reply h c.args.index) log new e)
    (sym c.refuse_certificate.ensures)
    (not_certified name (λ v. light_refusal v c.args.index)
    (λ s. light_text h c.args.index s (covering_in (view_in s) c.args.index)) log new
    c.in-Err.ensures.stays c.law_sound.ensures.view c.in-Err.why
    (by_landmarks _ c.in-Err.why c.in-Err.ensures.answer) c.in-Err.ensures.journal
    c.in-Err.ensures.tiles)
