use Rattle.std.proofs.Common.{inl, inr, subst, sym, ◌∙◌}
use Rattle.issuance_log.specs.Folds.{LogState, view_in}
use Rattle.mtc_command.specs.Answers.{ending_of}
use Rattle.mtc_authority.specs.CertOutcome.{cert_reply, light_reply}
use Rattle.mtc_authority.specs.LandmarkOutcomes.{landmarks_reply}
use Rattle.mtc_authority.specs.ListOutcomes.{certs_reply, light_certs_reply}
use Rattle.mtc_authority.specs.LogOutcomes.{checkpoint_reply}
use Rattle.mtc_authority.specs.RequestOutcomes.{consist_reply, subtree_reply}
use Rattle.mtc_authority.specs.Works.{HasWorkedOnLog, StaysLog, log_says}
use Rattle.mtc_authority.specs.declared.work.Work.{Work}
use Rattle.mtc_authority.proofs.Worked.{landmarks_so, worked_by}
use Rattle.mtc_authority.proofs.work.carry_out.Goals as goal

pub returns-in-Checkpoint-clause-works : goal.returns-in-Checkpoint-clause-works
unfolding Rattle.mtc_authority.specs.Works.log_says
returns-in-Checkpoint-clause-works g c = subst
    (λ (w : Work). HasWorkedOnLog c.args.journal.now (log_says g.H.TreeHash.hash w)
    c.args.log.now c.checkpoint.new.log (ending_of c.checkpoint.result)) (sym c.in-Checkpoint.is)
    (worked_by _ _ _ _ (λ (s : LogState). checkpoint_reply g.H.TreeHash.hash s.entries)
    c.checkpoint.ensures)

pub returns-in-Issue-clause-works : goal.returns-in-Issue-clause-works
unfolding Rattle.mtc_authority.specs.Works.log_says
returns-in-Issue-clause-works g c = subst
    (λ (w : Work). HasWorkedOnLog c.args.journal.now (log_says g.H.TreeHash.hash w)
    c.args.log.now
    c.issue_on.new.log (ending_of c.issue_on.result)) (sym c.in-Issue.is)
    c.issue_on.ensures.works

pub returns-in-Consist-clause-works : goal.returns-in-Consist-clause-works
unfolding Rattle.mtc_authority.specs.Works.log_says
returns-in-Consist-clause-works g c = subst
    (λ (w : Work). HasWorkedOnLog c.args.journal.now (log_says g.H.TreeHash.hash w)
    c.args.log.now c.consist.new.log (ending_of c.consist.result)) (sym c.in-Consist.is)
    (worked_by _ _ _ _ (consist_reply g.H.TreeHash.hash _ _) c.consist.ensures)

pub returns-in-Subtree-clause-works : goal.returns-in-Subtree-clause-works
unfolding Rattle.mtc_authority.specs.Works.log_says
returns-in-Subtree-clause-works g c = subst
    (λ (w : Work). HasWorkedOnLog c.args.journal.now (log_says g.H.TreeHash.hash w)
    c.args.log.now c.subtree.new.log (ending_of c.subtree.result)) (sym c.in-Subtree.is)
    (worked_by _ _ _ _ (subtree_reply g.H.TreeHash.hash _ _ _) c.subtree.ensures)

pub returns-in-Landmark-clause-works : goal.returns-in-Landmark-clause-works
unfolding Rattle.mtc_authority.specs.Works.log_says
returns-in-Landmark-clause-works g c = subst
    (λ (w : Work). HasWorkedOnLog c.args.journal.now (log_says g.H.TreeHash.hash w)
    c.args.log.now
    c.set_landmark.new.log (ending_of c.set_landmark.result)) (sym c.in-Landmark.is)
    c.set_landmark.ensures.works

pub returns-in-Switch-clause-works : goal.returns-in-Switch-clause-works
unfolding Rattle.mtc_authority.specs.Works.log_says
returns-in-Switch-clause-works g c = subst
    (λ (w : Work). HasWorkedOnLog c.args.journal.now (log_says g.H.TreeHash.hash w)
    c.args.log.now
    c.switch_on.new.log (ending_of c.switch_on.result)) (sym c.in-Switch.is)
    c.switch_on.ensures.works

pub returns-in-LightCert-clause-works : goal.returns-in-LightCert-clause-works
unfolding Rattle.mtc_authority.specs.Works.log_says
returns-in-LightCert-clause-works g c = subst
    (λ (w : Work). HasWorkedOnLog c.args.journal.now (log_says g.H.TreeHash.hash w)
    c.args.log.now c.light_certificate.new.log (ending_of c.light_certificate.result))
    (sym c.in-LightCert.is)
    (worked_by _ _ _ _ (light_reply g.H.TreeHash.hash _) c.light_certificate.ensures)

pub returns-in-Cert-clause-works : goal.returns-in-Cert-clause-works
unfolding Rattle.mtc_authority.specs.Works.log_says
returns-in-Cert-clause-works g c = subst
    (λ (w : Work). HasWorkedOnLog c.args.journal.now (log_says g.H.TreeHash.hash w)
    c.args.log.now c.certificate.new.log (ending_of c.certificate.result)) (sym c.in-Cert.is)
    (worked_by _ _ _ _ (cert_reply g.H.TreeHash.hash _ _ _ _) c.certificate.ensures)

pub returns-in-Tile-clause-works : goal.returns-in-Tile-clause-works
unfolding Rattle.mtc_authority.specs.Works.log_says
returns-in-Tile-clause-works g c = subst
    (λ (w : Work). HasWorkedOnLog c.args.journal.now (log_says g.H.TreeHash.hash w)
    c.args.log.now c.tile_on.new.log (ending_of c.tile_on.result)) (sym c.in-Tile.is)
    c.tile_on.ensures.works

pub returns-in-Landmarks-clause-works : goal.returns-in-Landmarks-clause-works
unfolding Rattle.mtc_authority.specs.Works.log_says
returns-in-Landmarks-clause-works g c =
    let log = c.args.log.now in
    let ending = ending_of c.list_landmarks.result in
    subst (λ (w : Work). HasWorkedOnLog c.args.journal.now (log_says g.H.TreeHash.hash w)
    log c.list_landmarks.new.log ending) (sym c.in-Landmarks.is)
    (worked_by _ _ _ _ (λ (s : LogState). landmarks_reply (view_in s))
    (landmarks_so c.args.journal.now log c.list_landmarks.new.log ending
    c.list_landmarks.ensures.stays c.requires.ready.view c.list_landmarks.ensures.reply))

pub returns-in-Checkpoint-clause-valid : goal.returns-in-Checkpoint-clause-valid
returns-in-Checkpoint-clause-valid g c = inl (inr c.checkpoint.ensures.stays.only_reads)

pub returns-in-Consist-clause-valid : goal.returns-in-Consist-clause-valid
returns-in-Consist-clause-valid g c = inl (inr c.consist.ensures.stays.only_reads)

pub returns-in-Subtree-clause-valid : goal.returns-in-Subtree-clause-valid
returns-in-Subtree-clause-valid g c = inl (inr c.subtree.ensures.stays.only_reads)

pub returns-in-Landmarks-clause-valid : goal.returns-in-Landmarks-clause-valid
returns-in-Landmarks-clause-valid g c = inl (inr c.list_landmarks.ensures.stays.only_reads)

pub returns-in-LightCert-clause-valid : goal.returns-in-LightCert-clause-valid
returns-in-LightCert-clause-valid g c = inl (inr c.light_certificate.ensures.stays.only_reads)

pub returns-in-Cert-clause-valid : goal.returns-in-Cert-clause-valid
returns-in-Cert-clause-valid g c = inl (inr c.certificate.ensures.stays.only_reads)

pub returns-in-Issue-clause-valid : goal.returns-in-Issue-clause-valid
unfolding Rattle.mtc_authority.specs.Works.log_says
returns-in-Issue-clause-valid g c = subst
    (λ (w : Work). StaysLog g.H.TreeHash.hash (log_says g.H.TreeHash.hash w) c.args.log.now
    c.issue_on.new.log) (sym c.in-Issue.is) c.issue_on.ensures.valid

pub returns-in-Landmark-clause-valid : goal.returns-in-Landmark-clause-valid
unfolding Rattle.mtc_authority.specs.Works.log_says
returns-in-Landmark-clause-valid g c = subst
    (λ (w : Work). StaysLog g.H.TreeHash.hash (log_says g.H.TreeHash.hash w) c.args.log.now
    c.set_landmark.new.log) (sym c.in-Landmark.is) c.set_landmark.ensures.valid

pub returns-in-Switch-clause-valid : goal.returns-in-Switch-clause-valid
unfolding Rattle.mtc_authority.specs.Works.log_says
returns-in-Switch-clause-valid g c = subst
    (λ (w : Work). StaysLog g.H.TreeHash.hash (log_says g.H.TreeHash.hash w) c.args.log.now
    c.switch_on.new.log) (sym c.in-Switch.is) c.switch_on.ensures.valid

pub returns-in-Tile-clause-valid : goal.returns-in-Tile-clause-valid
unfolding Rattle.mtc_authority.specs.Works.log_says
returns-in-Tile-clause-valid g c = subst
    (λ (w : Work). StaysLog g.H.TreeHash.hash (log_says g.H.TreeHash.hash w) c.args.log.now
    c.tile_on.new.log) (sym c.in-Tile.is) c.tile_on.ensures.valid

pub returns-in-Checkpoint-clause-only_read : goal.returns-in-Checkpoint-clause-only_read
returns-in-Checkpoint-clause-only_read g c = λ other. inr c.checkpoint.ensures.stays.tiles

pub returns-in-Consist-clause-only_read : goal.returns-in-Consist-clause-only_read
returns-in-Consist-clause-only_read g c = λ other. inr c.consist.ensures.stays.tiles

pub returns-in-Subtree-clause-only_read : goal.returns-in-Subtree-clause-only_read
returns-in-Subtree-clause-only_read g c = λ other. inr c.subtree.ensures.stays.tiles

pub returns-in-Landmarks-clause-only_read : goal.returns-in-Landmarks-clause-only_read
returns-in-Landmarks-clause-only_read g c = λ other. inr c.list_landmarks.ensures.stays.tiles

pub returns-in-LightCert-clause-only_read : goal.returns-in-LightCert-clause-only_read
returns-in-LightCert-clause-only_read g c = λ other. inr c.light_certificate.ensures.stays.tiles

pub returns-in-Cert-clause-only_read : goal.returns-in-Cert-clause-only_read
returns-in-Cert-clause-only_read g c = λ other. inr c.certificate.ensures.stays.tiles

pub returns-in-Issue-clause-only_read : goal.returns-in-Issue-clause-only_read
returns-in-Issue-clause-only_read g c = λ other. inl c.issue_on.ensures.tiles

pub returns-in-Landmark-clause-only_read : goal.returns-in-Landmark-clause-only_read
returns-in-Landmark-clause-only_read g c = λ other. inl c.set_landmark.ensures.tiles

pub returns-in-Switch-clause-only_read : goal.returns-in-Switch-clause-only_read
returns-in-Switch-clause-only_read g c = λ other. inl c.switch_on.ensures.tiles

pub returns-in-Tile-clause-only_read : goal.returns-in-Tile-clause-only_read
returns-in-Tile-clause-only_read g c = λ other. absurd (other c.in-Tile.is)

pub returns-in-Checkpoint-clause-stores : goal.returns-in-Checkpoint-clause-stores
returns-in-Checkpoint-clause-stores g c =
    λ tile. absurd (let wrong = sym c.in-Checkpoint.is ∙ tile in cc)

pub returns-in-Issue-clause-stores : goal.returns-in-Issue-clause-stores
returns-in-Issue-clause-stores g c =
    λ tile. absurd (let wrong = sym c.in-Issue.is ∙ tile in cc)

pub returns-in-Consist-clause-stores : goal.returns-in-Consist-clause-stores
returns-in-Consist-clause-stores g c =
    λ tile. absurd (let wrong = sym c.in-Consist.is ∙ tile in cc)

pub returns-in-Subtree-clause-stores : goal.returns-in-Subtree-clause-stores
returns-in-Subtree-clause-stores g c =
    λ tile. absurd (let wrong = sym c.in-Subtree.is ∙ tile in cc)

pub returns-in-Landmark-clause-stores : goal.returns-in-Landmark-clause-stores
returns-in-Landmark-clause-stores g c =
    λ tile. absurd (let wrong = sym c.in-Landmark.is ∙ tile in cc)

pub returns-in-Switch-clause-stores : goal.returns-in-Switch-clause-stores
returns-in-Switch-clause-stores g c =
    λ tile. absurd (let wrong = sym c.in-Switch.is ∙ tile in cc)

pub returns-in-Landmarks-clause-stores : goal.returns-in-Landmarks-clause-stores
returns-in-Landmarks-clause-stores g c =
    λ tile. absurd (let wrong = sym c.in-Landmarks.is ∙ tile in cc)

pub returns-in-LightCert-clause-stores : goal.returns-in-LightCert-clause-stores
returns-in-LightCert-clause-stores g c =
    λ tile. absurd (let wrong = sym c.in-LightCert.is ∙ tile in cc)

pub returns-in-Cert-clause-stores : goal.returns-in-Cert-clause-stores
returns-in-Cert-clause-stores g c =
    λ tile. absurd (let wrong = sym c.in-Cert.is ∙ tile in cc)

pub returns-in-Tile-clause-stores : goal.returns-in-Tile-clause-stores
returns-in-Tile-clause-stores g c = λ tile. c.tile_on.ensures.stores

pub returns-in-LightCerts-clause-works : goal.returns-in-LightCerts-clause-works
unfolding Rattle.mtc_authority.specs.Works.log_says
returns-in-LightCerts-clause-works g c = subst
    (λ (w : Work). HasWorkedOnLog c.args.journal.now (log_says g.H.TreeHash.hash w)
    c.args.log.now c.light_certificates.new.log (ending_of c.light_certificates.result))
    (sym c.in-LightCerts.is)
    (worked_by _ _ _ _ (light_certs_reply g.H.TreeHash.hash _ _) c.light_certificates.ensures)

pub returns-in-Certs-clause-works : goal.returns-in-Certs-clause-works
unfolding Rattle.mtc_authority.specs.Works.log_says
returns-in-Certs-clause-works g c = subst
    (λ (w : Work). HasWorkedOnLog c.args.journal.now (log_says g.H.TreeHash.hash w)
    c.args.log.now c.certificates.new.log (ending_of c.certificates.result))
    (sym c.in-Certs.is)
    (worked_by _ _ _ _ (certs_reply g.H.TreeHash.hash _ _ _ _ _) c.certificates.ensures)

pub returns-in-IssueList-clause-works : goal.returns-in-IssueList-clause-works
unfolding Rattle.mtc_authority.specs.Works.log_says
returns-in-IssueList-clause-works g c = subst
    (λ (w : Work). HasWorkedOnLog c.args.journal.now (log_says g.H.TreeHash.hash w)
    c.args.log.now
    c.issue_list_on.new.log (ending_of c.issue_list_on.result)) (sym c.in-IssueList.is)
    c.issue_list_on.ensures.works

pub returns-in-LightCerts-clause-valid : goal.returns-in-LightCerts-clause-valid
returns-in-LightCerts-clause-valid g c = inl (inr c.light_certificates.ensures.stays.only_reads)

pub returns-in-Certs-clause-valid : goal.returns-in-Certs-clause-valid
returns-in-Certs-clause-valid g c = inl (inr c.certificates.ensures.stays.only_reads)

pub returns-in-IssueList-clause-valid : goal.returns-in-IssueList-clause-valid
unfolding Rattle.mtc_authority.specs.Works.log_says
returns-in-IssueList-clause-valid g c = subst
    (λ (w : Work). StaysLog g.H.TreeHash.hash (log_says g.H.TreeHash.hash w) c.args.log.now
    c.issue_list_on.new.log) (sym c.in-IssueList.is) c.issue_list_on.ensures.valid

pub returns-in-LightCerts-clause-only_read : goal.returns-in-LightCerts-clause-only_read
returns-in-LightCerts-clause-only_read g c = λ other. inr c.light_certificates.ensures.stays.tiles

pub returns-in-Certs-clause-only_read : goal.returns-in-Certs-clause-only_read
returns-in-Certs-clause-only_read g c = λ other. inr c.certificates.ensures.stays.tiles

pub returns-in-IssueList-clause-only_read : goal.returns-in-IssueList-clause-only_read
returns-in-IssueList-clause-only_read g c = λ other. inl c.issue_list_on.ensures.tiles

pub returns-in-LightCerts-clause-stores : goal.returns-in-LightCerts-clause-stores
returns-in-LightCerts-clause-stores g c =
    λ tile. absurd (let wrong = sym c.in-LightCerts.is ∙ tile in cc)

pub returns-in-Certs-clause-stores : goal.returns-in-Certs-clause-stores
returns-in-Certs-clause-stores g c =
    λ tile. absurd (let wrong = sym c.in-Certs.is ∙ tile in cc)

pub returns-in-IssueList-clause-stores : goal.returns-in-IssueList-clause-stores
returns-in-IssueList-clause-stores g c =
    λ tile. absurd (let wrong = sym c.in-IssueList.is ∙ tile in cc)
