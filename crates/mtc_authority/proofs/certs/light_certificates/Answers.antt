use Rattle.std.proofs.Common.{subst, sym}
use Rattle.authority_core.specs.Several.{light_certs_refusal}
use Rattle.mtc_command.specs.Answers.{Ending}
use Rattle.mtc_authority.specs.ListOutcomes.{light_certs_reply, light_certs_text}
use Rattle.mtc_authority.specs.Works.{RepliesOnLog}
use Rattle.mtc_authority.proofs.CertifiedLists.{all_lightly_certified, by_marked, not_all_certified}
use Rattle.mtc_authority.proofs.certs.light_certificates.Goals as goal

pub returns-in-Ok : goal.returns-in-Ok
returns-in-Ok g c = all_lightly_certified c.args.journal.now g.H.TreeHash.hash c.args.first
    c.args.last c.args.log.now c.light_certs.new.log c.in-Ok.ensures.stays c.law_sound.ensures.view
    c.in-Ok.text c.in-Ok.ensures.answer c.in-Ok.ensures.written

pub returns-in-Err : goal.returns-in-Err
returns-in-Err g c =
    let log = c.args.log.now in
    let new = c.light_certs.new.log in
    let h = g.H.TreeHash.hash in
    let name = c.args.journal.now in
    subst (λ (e : Ending). RepliesOnLog name (light_certs_reply h c.args.first c.args.last) log
    new e) (sym c.refuse_certificates.ensures)
    (not_all_certified name (λ v. light_certs_refusal v c.args.first c.args.last)
    (light_certs_text h c.args.first c.args.last) log new c.in-Err.ensures.stays
    c.law_sound.ensures.view c.in-Err.why (by_marked _ c.in-Err.why c.in-Err.ensures.answer)
    c.in-Err.ensures.journal c.in-Err.ensures.tiles)
