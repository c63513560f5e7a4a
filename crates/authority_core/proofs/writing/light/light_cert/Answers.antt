use Rattle.std.proofs.Common.{rules, sym, ◌∙◌}
use Rattle.issuance_log.specs.Staying.{stays_alone}
use Rattle.issuance_log.specs.Words.{log_records, log_tiles_disk, modelled_by_both, view_of}
use Rattle.authority_core.specs.Certificates.{light_refusal}
use Rattle.authority_core.proofs.Answered.{lightly_after}
use Rattle.authority_core.proofs.Modelled.{accepted_lightly, both_of, lightly_modelled}
use Rattle.authority_core.proofs.writing.light.light_cert.Goals as goal

pub returns-in-Some-clause-written : goal.returns-in-Some-clause-written
returns-in-Some-clause-written g c =
    let log = c.args.log.now in
    lightly_modelled g.H.TreeHash.hash c.args.index (view_of log) c.in-Some.span
    (sym c.in_ok-span.ensures.exact ∙ c.in-Some.is) c.written.result (modelled_by_both log)
    (both_of _ (view_of log) (g.T.Disk.contents (log_tiles_disk log)) (log_records log)
    c.law_sound.ensures.view) c.written.ensures.written

pub returns-in-Some-clause-accepted : goal.returns-in-Some-clause-accepted
returns-in-Some-clause-accepted g c =
    let log = c.args.log.now in
    accepted_lightly g.H.TreeHash.hash c.args.index (view_of log) c.in-Some.span
    (sym c.in_ok-span.ensures.exact ∙ c.in-Some.is) c.written.result (modelled_by_both log)
    (both_of _ (view_of log) (g.T.Disk.contents (log_tiles_disk log)) (log_records log)
    c.law_sound.ensures.view) c.written.ensures.accepted

pub returns-then-size-index-clause-stays : goal.returns-then-size-index-clause-stays
returns-then-size-index-clause-stays g c =
    stays_alone c.args.log.now (g.met.D.Disk.only_now _) (g.met.T.Disk.only_now _)

pub returns-then-index-eq0-clause-stays : goal.returns-then-index-eq0-clause-stays
returns-then-index-eq0-clause-stays g c =
    stays_alone c.args.log.now (g.met.D.Disk.only_now _) (g.met.T.Disk.only_now _)

pub returns-in_err-span-clause-stays : goal.returns-in_err-span-clause-stays
returns-in_err-span-clause-stays g c =
    stays_alone c.args.log.now (g.met.D.Disk.only_now _) (g.met.T.Disk.only_now _)

pub returns-in-None-clause-stays : goal.returns-in-None-clause-stays
returns-in-None-clause-stays g c =
    stays_alone c.args.log.now (g.met.D.Disk.only_now _) (g.met.T.Disk.only_now _)

pub returns-in-Some-clause-answer : goal.returns-in-Some-clause-answer
unfolding light_refusal
returns-in-Some-clause-answer g c =
    lightly_after _ c.written.result (search rules) c.written.ensures.why

pub returns-in-Some-clause-stays : goal.returns-in-Some-clause-stays
returns-in-Some-clause-stays g c = c.written.ensures.stays
