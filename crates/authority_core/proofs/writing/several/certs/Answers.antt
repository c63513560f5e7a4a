use Rattle.std.proofs.Common.{◌<◌, ◌-◌, Option, IfSome, Some, sym, subst, ◌∙◌, arith}
use Rattle.issuance_log.specs.Words.{view_of}
use Rattle.authority_core.specs.Certificates.{cert_refusal}
use Rattle.authority_core.specs.Several.{certs_refusal}
use Rattle.authority_core.specs.declared.writing.error.SeveralError.{SeveralError}
use Rattle.authority_core.proofs.Several.{IsOfEntry, journal_first, kept_first, of_entries}
use Rattle.authority_core.proofs.Several.{refusal_is, several_of_entries, tiles_first}
use Rattle.authority_core.proofs.writing.several.certs.Goals as goal

pub returns-in-Some-clause-answer : goal.returns-in-Some-clause-answer
unfolding certs_refusal
returns-in-Some-clause-answer g c =
    let log = c.args.log.now in
    let some : c.args.first < c.args.last = omega arith in
    kept_first _ c.in-Some.why
    (refusal_is (λ i. cert_refusal (view_of log) i c.args.start c.args.end c.args.signatures.now)
    c.args.first c.args.last (Some c.in-Some.why) some
    (sym c.first_refused.ensures ∙ c.in-Some.is))
    (several_of_entries (λ i. cert_refusal (view_of log) i c.args.start c.args.end
    c.args.signatures.now) c.args.first c.args.last some)

pub returns-in-Some-clause-journal : goal.returns-in-Some-clause-journal
returns-in-Some-clause-journal g c =
    let log = c.args.log.now in
    journal_first _ c.in-Some.why (subst (λ (o : Option SeveralError). IfSome o IsOfEntry)
    (sym c.first_refused.ensures ∙ c.in-Some.is)
    (of_entries (λ i. cert_refusal (view_of log) i c.args.start c.args.end
    c.args.signatures.now) (c.args.last - c.args.first) c.args.first))

pub returns-in-Some-clause-tiles : goal.returns-in-Some-clause-tiles
returns-in-Some-clause-tiles g c =
    let log = c.args.log.now in
    tiles_first _ c.in-Some.why (subst (λ (o : Option SeveralError). IfSome o IsOfEntry)
    (sym c.first_refused.ensures ∙ c.in-Some.is)
    (of_entries (λ i. cert_refusal (view_of log) i c.args.start c.args.end
    c.args.signatures.now) (c.args.last - c.args.first) c.args.first))
