use Rattle.std.proofs.Common.{◌≡◌, None, IfSome, subst, sym}
use Rattle.byte_formats.specs.Types.{Text}
use Rattle.issuance_log.specs.Words.{modelled_by_both, view_of}
use Rattle.authority_core.specs.Certificates.{IsWritten, KeepsToRefusal, cert_refusal}
use Rattle.mtc_command.specs.Answers.{Ending}
use Rattle.mtc_authority.specs.CertOutcome.{cert_reply, certificate_in}
use Rattle.mtc_authority.specs.Works.{RepliesOnLog}
use Rattle.mtc_authority.proofs.Certified.{by_signatures, failed, not_certified, signed_certified}
use Rattle.mtc_authority.proofs.cert.certificate.Goals as goal

pub returns-in-Ok : goal.returns-in-Ok
returns-in-Ok g c =
    let log = c.args.log.now in
    let h = g.H.TreeHash.hash in
    let opened = c.as_slice.ensures.value in
    signed_certified c.args.journal.now h c.args.index c.args.start c.args.end
    c.args.signatures.now log c.cert.new.log c.in-Ok.ensures.stays c.law_sound.ensures.view
    c.in-Ok.text
    (subst (λ (t : Text). cert_refusal (view_of log) c.args.index c.args.start c.args.end t ≡ None)
    opened c.in-Ok.ensures.answer)
    (subst
    (λ (t : Text). IfSome (modelled_by_both log) (λ s. IsWritten h s c.args.index c.args.start
    c.args.end t c.in-Ok.text)) opened c.in-Ok.ensures.written)

pub returns-in-Err : goal.returns-in-Err
returns-in-Err g c =
    let log = c.args.log.now in
    let new = c.cert.new.log in
    let h = g.H.TreeHash.hash in
    let name = c.args.journal.now in
    let signatures = c.args.signatures.now in
    subst (λ (e : Ending). RepliesOnLog name (cert_reply h c.args.index c.args.start c.args.end
    signatures) log new e) (sym c.refuse_certificate.ensures)
    (not_certified name (λ v. cert_refusal v c.args.index c.args.start c.args.end signatures)
    (certificate_in h c.args.index c.args.start c.args.end signatures) log new
    c.in-Err.ensures.stays c.law_sound.ensures.view c.in-Err.why
    (by_signatures _ c.in-Err.why (subst (λ (t : Text). KeepsToRefusal
    (cert_refusal (view_of log) c.args.index c.args.start c.args.end t) (failed c.in-Err.why))
    c.as_slice.ensures.value c.in-Err.ensures.answer)) c.in-Err.ensures.journal
    c.in-Err.ensures.tiles)
