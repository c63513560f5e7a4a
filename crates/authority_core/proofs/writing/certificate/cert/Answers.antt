use Rattle.std.proofs.Common.{rules}
use Rattle.issuance_log.specs.Staying.{stays_alone}
use Rattle.authority_core.specs.Certificates.{cert_refusal}
use Rattle.authority_core.proofs.Answered.{kept_after}
use Rattle.authority_core.proofs.writing.certificate.cert.Goals as goal

pub returns-then-size-index-clause-stays : goal.returns-then-size-index-clause-stays
returns-then-size-index-clause-stays g c =
    stays_alone c.args.log.now (g.met.D.Disk.only_now _) (g.met.T.Disk.only_now _)

pub returns-then-index-eq0-clause-stays : goal.returns-then-index-eq0-clause-stays
returns-then-index-eq0-clause-stays g c =
    stays_alone c.args.log.now (g.met.D.Disk.only_now _) (g.met.T.Disk.only_now _)

pub returns-then-not-subtree_ok-clause-stays : goal.returns-then-not-subtree_ok-clause-stays
returns-then-not-subtree_ok-clause-stays g c =
    stays_alone c.args.log.now (g.met.D.Disk.only_now _) (g.met.T.Disk.only_now _)

pub returns-then-index-start-clause-stays : goal.returns-then-index-start-clause-stays
returns-then-index-start-clause-stays g c =
    stays_alone c.args.log.now (g.met.D.Disk.only_now _) (g.met.T.Disk.only_now _)

pub returns-then-size-end-clause-stays : goal.returns-then-size-end-clause-stays
returns-then-size-end-clause-stays g c =
    stays_alone c.args.log.now (g.met.D.Disk.only_now _) (g.met.T.Disk.only_now _)

pub returns-then-signatures-gt-MOST_SIGNATURES-clause-stays :
    goal.returns-then-signatures-gt-MOST_SIGNATURES-clause-stays
returns-then-signatures-gt-MOST_SIGNATURES-clause-stays g c =
    stays_alone c.args.log.now (g.met.D.Disk.only_now _) (g.met.T.Disk.only_now _)

pub returns-clause-answer : goal.returns-clause-answer
unfolding cert_refusal
returns-clause-answer g c =
    kept_after _ c.written.result (search rules) c.written.ensures.why
