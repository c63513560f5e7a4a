use Rattle.std.proofs.Common.{◌≡◌, None, IfSome, subst, sym}
use Rattle.byte_formats.specs.Types.{Text}
use Rattle.issuance_log.specs.Words.{modelled_by_both, view_of}
use Rattle.authority_core.specs.Several.{HoldsEach, IsAcceptable, SeveralKeepTo, certs_refusal}
use Rattle.mtc_command.specs.Answers.{Ending}
use Rattle.mtc_authority.specs.ListOutcomes.{certs_reply, certs_text}
use Rattle.mtc_authority.specs.Works.{RepliesOnLog}
use Rattle.mtc_authority.proofs.CertifiedLists.{by_signed, not_all_certified, all_signed_certified}
use Rattle.mtc_authority.proofs.CertifiedLists.{several_failed}
use Rattle.mtc_authority.proofs.certs.certificates.Goals as goal

pub returns-in-Ok : goal.returns-in-Ok
returns-in-Ok g c =
    let log = c.args.log.now in
    let h = g.H.TreeHash.hash in
    let opened = c.as_slice.ensures.value in
    all_signed_certified c.args.journal.now h c.args.first c.args.last c.args.start c.args.end
    c.args.signatures.now log c.certs.new.log c.in-Ok.ensures.stays c.law_sound.ensures.view
    c.in-Ok.text
    (subst (λ (t : Text). certs_refusal (view_of log) c.args.first c.args.last c.args.start
    c.args.end t ≡ None) opened c.in-Ok.ensures.answer)
    (subst (λ (t : Text). IfSome (modelled_by_both log) (λ s. HoldsEach (IsAcceptable h s
    c.args.start c.args.end t) c.args.first c.args.last c.in-Ok.text)) opened
    c.in-Ok.ensures.written)

pub returns-in-Err : goal.returns-in-Err
returns-in-Err g c =
    let log = c.args.log.now in
    let new = c.certs.new.log in
    let h = g.H.TreeHash.hash in
    let name = c.args.journal.now in
    let signatures = c.args.signatures.now in
    subst (λ (e : Ending). RepliesOnLog name (certs_reply h c.args.first c.args.last c.args.start
    c.args.end signatures) log new e) (sym c.refuse_certificates.ensures)
    (not_all_certified name
    (λ v. certs_refusal v c.args.first c.args.last c.args.start c.args.end signatures)
    (certs_text h c.args.first c.args.last c.args.start c.args.end signatures) log new
    c.in-Err.ensures.stays c.law_sound.ensures.view c.in-Err.why
    (by_signed _ c.in-Err.why (subst (λ (t : Text). SeveralKeepTo (certs_refusal (view_of log)
    c.args.first c.args.last c.args.start c.args.end t) (several_failed c.in-Err.why))
    c.as_slice.ensures.value c.in-Err.ensures.answer)) c.in-Err.ensures.journal
    c.in-Err.ensures.tiles)
