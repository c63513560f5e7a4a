use Rattle.std.proofs.Common.{◌∙◌, ap, append_assoc, refl, subst}
use Rattle.tls_wire.specs.Encoding.{AreHashes}
use Rattle.mtc_proof.specs.Reading.{proof_in}
use Rattle.mtc_proof.proofs.Forms.{proofs_again}
use Rattle.mtc_proof.proofs.writing.write_proof.Goals as goal

pub returns-clause-text : goal.returns-clause-text
returns-clause-text c = simp (
  c.in_ok-put_vec16.ensures.ok,
  c.in_ok-put_path.ensures.text,
  c.as_slice.ensures.value,
  c.in_ok-put_u64-2.ensures.ok,
  c.in_ok-put_u64.ensures.ok,
  c.new-out.ensures,
  append_assoc,
) refl

pub returns-clause-read : goal.returns-clause-read
returns-clause-read c =
    ap proof_in (returns-clause-text c)
    ∙ proofs_again _ (record {
      start = c.ranges.start.fits;
      end = c.ranges.end.fits;
      path = subst AreHashes c.as_slice.ensures.value c.put_path.ensures.sized;
      short = c.requires.short;
      signatures = c.requires.signed;
    })
