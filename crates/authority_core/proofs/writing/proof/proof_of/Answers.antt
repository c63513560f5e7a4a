use Rattle.std.proofs.Common.{◌≤◌, ap, length, subst, sym}
use Rattle.tls_wire.specs.Encoding.{AreHashes}
use Rattle.mtc_proof.specs.Proofs.{ProofParts}
use Rattle.issuance_log.specs.Words.{modelled_by_both}
use Rattle.authority_core.proofs.Certificates.{proof_within}
use Rattle.authority_core.proofs.Modelled.{fits_modelled, text_modelled}
use Rattle.authority_core.proofs.writing.proof.proof_of.Goals as goal

pub returns-in_ok-write_proof-in-Ok-clause-proof : goal.returns-in_ok-write_proof-in-Ok-clause-proof
returns-in_ok-write_proof-in-Ok-clause-proof g c =
    text_modelled g.H.TreeHash.hash c.args.index c.args.start c.args.end c.args.signatures.now
    c.include.new.out _ (modelled_by_both c.args.log.now) c.in_ok-write_proof-in-Ok.ensures.text
    c.in-Ok.ensures.path

pub returns-in_ok-write_proof-in-Ok-clause-fits : goal.returns-in_ok-write_proof-in-Ok-clause-fits
returns-in_ok-write_proof-in-Ok-clause-fits g c =
    let hashes = subst AreHashes c.as_slice.ensures.value c.law_are_hashes.ensures in
    fits_modelled g.H.TreeHash.hash c.args.index c.args.start c.args.end c.args.signatures.now
    c.include.new.out (modelled_by_both c.args.log.now) (record {
      start = c.ranges.start.fits;
      end = c.ranges.end.fits;
      path = hashes;
      short = c.requires.short;
      signatures = c.requires.signed;
    }) c.in-Ok.ensures.path

pub returns-in_ok-write_proof-in-Ok-clause-few : goal.returns-in_ok-write_proof-in-Ok-clause-few
returns-in_ok-write_proof-in-Ok-clause-few g c =
    let proof : ProofParts = record {
      start = c.args.start;
      end = c.args.end;
      path = c.include.new.out;
      signatures = c.args.signatures.now;
    } in
    subst (λ n. n ≤ 200000) (sym (ap length c.in_ok-write_proof-in-Ok.ensures.text))
    (proof_within proof (subst AreHashes c.as_slice.ensures.value c.law_are_hashes.ensures)
    c.requires.short)
