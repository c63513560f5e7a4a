use Rattle.std.proofs.Common.{suc, ◌<◌, ◌-◌, Option, IfSome, None, Some, sym, subst, ◌∙◌, arith}
use Rattle.issuance_log.specs.Words.{view_of}
use Rattle.authority_core.specs.Certificates.{light_refusal}
use Rattle.authority_core.specs.Several.{light_certs_refusal}
use Rattle.authority_core.specs.declared.writing.error.SeveralError.{SeveralError}
use Rattle.authority_core.proofs.Several.{IsOfEntry, journal_first, lightly_first, of_entries}
use Rattle.authority_core.proofs.Several.{refusal_is, several_of_entries, tiles_first}
use Rattle.authority_core.proofs.Several.{memory_first, several_lightly}
use Rattle.authority_core.proofs.Marks.{bounded, strictly}
use Rattle.authority_core.proofs.writing.several.light_certs.Goals as goal

pub returns-in-Some-clause-answer : goal.returns-in-Some-clause-answer
unfolding light_certs_refusal
returns-in-Some-clause-answer g c =
    let log = c.args.log.now in
    let some : c.args.first < c.args.last = omega arith in
    lightly_first _ c.in-Some.why
    (refusal_is (light_refusal (view_of log)) c.args.first c.args.last (Some c.in-Some.why) some
    (sym c.first_light_refused.ensures ∙ c.in-Some.is))
    (several_of_entries (light_refusal (view_of log)) c.args.first c.args.last some)

pub returns-in-Some-clause-journal : goal.returns-in-Some-clause-journal
returns-in-Some-clause-journal g c =
    let log = c.args.log.now in
    journal_first _ c.in-Some.why (subst (λ (o : Option SeveralError). IfSome o IsOfEntry)
    (sym c.first_light_refused.ensures ∙ c.in-Some.is)
    (of_entries (light_refusal (view_of log)) (c.args.last - c.args.first) c.args.first))

pub returns-in-Some-clause-tiles : goal.returns-in-Some-clause-tiles
returns-in-Some-clause-tiles g c =
    let log = c.args.log.now in
    tiles_first _ c.in-Some.why (subst (λ (o : Option SeveralError). IfSome o IsOfEntry)
    (sym c.first_light_refused.ensures ∙ c.in-Some.is)
    (of_entries (light_refusal (view_of log)) (c.args.last - c.args.first) c.args.first))

pub returns-clause-answer : goal.returns-clause-answer
unfolding light_certs_refusal
returns-clause-answer g c =
    let log = c.args.log.now in
    let some : c.args.first < c.args.last = omega arith in
    several_lightly _ c.light_certs_between.result
    (refusal_is (light_refusal (view_of log)) c.args.first c.args.last None some
    (sym c.first_light_refused.ensures ∙ c.in-None.is)) c.light_certs_between.ensures.refused

pub returns-in_err-landmarks-clause-answer : goal.returns-in_err-landmarks-clause-answer
unfolding light_certs_refusal
returns-in_err-landmarks-clause-answer g c =
    let log = c.args.log.now in
    let some : c.args.first < c.args.last = omega arith in
    memory_first _ c.from_residual.result c.from_residual.ensures.1
    (several_of_entries (light_refusal (view_of log)) c.args.first c.args.last some)

pub of_marks-requires-clause-rise : goal.of_marks-requires-clause-rise
of_marks-requires-clause-rise g c =
    strictly 0 (view_of c.args.log.now).size c.marks.result.now c.marks.ensures.rising

pub of_marks-requires-clause-small : goal.of_marks-requires-clause-small
of_marks-requires-clause-small g c = λ i.
    let few = bounded 0 (view_of c.args.log.now).size c.marks.result.now
    c.marks.ensures.rising (suc i) in
    omega (arith, few, c.law_sound.ensures.numbers.few, c.law_sound.ensures.numbers.allowed.few)
