use Rattle.std.proofs.Common.{◌≡◌, IfSome, Ok, subst, arith}
use Rattle.byte_formats.specs.Types.{Text}
use Rattle.issuance_log.specs.Refusals.{item_at}
use Rattle.issuance_log.specs.Words.{log_records, log_tiles_disk, view_of}
use Rattle.issuance_log.proofs.Asked.{asks_stays, asks_modelled}
use Rattle.authority_core.specs.Certificates.{IsCertificateOf}
use Rattle.authority_core.proofs.Modelled.{accepts_modelled, asks_then, written_modelled}
use Rattle.authority_core.proofs.writing.item.written.Goals as goal

pub returns-in-Ok-clause-written : goal.returns-in-Ok-clause-written
returns-in-Ok-clause-written g c =
    let log = c.args.log.now in
    let h = g.H.TreeHash.hash in
    let made = c.in_ok-certificate-in-Ok in
    let item = subst (λ o. IfSome o (λ s. item_at s c.args.index
    ≡ Ok (c.entry.new.entry, c.entry.new.spki)))
    (asks_modelled log c.proof_of.new.log c.in_ok-proof.ensures.asks) c.in-Ok.ensures.item in
    written_modelled h c.args.index c.args.start c.args.end c.args.signatures.now
    c.entry.new.entry c.entry.new.spki c.in_ok-proof.proof made.certificate
    (view_of log) (g.T.Disk.contents (log_tiles_disk log)) (log_records log) (omega arith)
    (subst (λ (e : Text). IsCertificateOf h c.args.index e c.entry.new.spki c.in_ok-proof.proof
    made.certificate) c.as_slice.ensures
    (subst (λ (k : Text). IsCertificateOf h c.args.index c.as_slice.result.now k
    c.in_ok-proof.proof made.certificate) c.as_slice-in-Ok.ensures made.ensures))
    c.in_ok-proof.ensures.proof item c.law_sound.ensures.view

pub returns-in-Ok-clause-accepted : goal.returns-in-Ok-clause-accepted
returns-in-Ok-clause-accepted g c =
    let log = c.args.log.now in
    let h = g.H.TreeHash.hash in
    let made = c.in_ok-certificate-in-Ok in
    let item = subst (λ o. IfSome o (λ s. item_at s c.args.index
    ≡ Ok (c.entry.new.entry, c.entry.new.spki)))
    (asks_modelled log c.proof_of.new.log c.in_ok-proof.ensures.asks) c.in-Ok.ensures.item in
    accepts_modelled h c.args.index c.args.start c.args.end c.args.signatures.now
    made.certificate (view_of log) (g.T.Disk.contents (log_tiles_disk log))
    (log_records log) c.requires.valid c.requires.from c.requires.below c.requires.within
    c.law_sound.ensures.view c.in_ok-proof.ensures.fits
    (written_modelled h c.args.index c.args.start c.args.end c.args.signatures.now
    c.entry.new.entry c.entry.new.spki c.in_ok-proof.proof made.certificate
    (view_of log) (g.T.Disk.contents (log_tiles_disk log)) (log_records log) (omega arith)
    (subst (λ (e : Text). IsCertificateOf h c.args.index e c.entry.new.spki c.in_ok-proof.proof
    made.certificate) c.as_slice.ensures
    (subst (λ (k : Text). IsCertificateOf h c.args.index c.as_slice.result.now k
    c.in_ok-proof.proof made.certificate) c.as_slice-in-Ok.ensures made.ensures))
    c.in_ok-proof.ensures.proof item c.law_sound.ensures.view)

pub returns-in_err-proof-clause-stays : goal.returns-in_err-proof-clause-stays
returns-in_err-proof-clause-stays g c =
    asks_stays c.args.log.now c.proof_of.new.log (g.met.D.Disk.only_now _) c.proof_of.ensures.asks

pub returns-in_err-certificate-in-Ok-clause-stays :
    goal.returns-in_err-certificate-in-Ok-clause-stays
returns-in_err-certificate-in-Ok-clause-stays g c =
    asks_then c.args.log.now c.proof_of.new.log c.entry.new.self c.proof_of.ensures.asks
    c.entry.ensures.stays c.entry.ensures.tiles

pub returns-in-Ok-clause-stays : goal.returns-in-Ok-clause-stays
returns-in-Ok-clause-stays g c =
    asks_then c.args.log.now c.proof_of.new.log c.entry.new.self c.proof_of.ensures.asks
    c.entry.ensures.stays c.entry.ensures.tiles

pub returns-in-Err-Failed-clause-stays : goal.returns-in-Err-Failed-clause-stays
returns-in-Err-Failed-clause-stays g c =
    asks_then c.args.log.now c.proof_of.new.log c.entry.new.self c.proof_of.ensures.asks
    c.entry.ensures.stays c.entry.ensures.tiles
