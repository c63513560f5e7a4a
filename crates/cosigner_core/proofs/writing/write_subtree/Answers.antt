use Rattle.std.proofs.Common.{◌∙◌, ap, subst}
use Rattle.std.specs.Int.{w8, w64}
use Rattle.tls_wire.specs.Encoding.{AreHashes, number, vector}
use Rattle.cosigner_core.proofs.Writes.{five_pieces}
use Rattle.cosigner_core.proofs.Forms.{subtree_again}
use Rattle.cosigner_core.specs.Reading.{subtree_in}
use Rattle.cosigner_core.proofs.writing.write_subtree.Goals as goal

pub returns-clause-text : goal.returns-clause-text
returns-clause-text c =
    five_pieces c.new-out.result c.put_vec8.new.out c.put_u64.new.out c.put_u64-2.new.out
    c.put_bytes.new.out
    c.put_proof.new.out
    (vector w8 c.args.log.now) (number w64 c.args.start) (number w64 c.args.end) c.args.hash.now
    c.as_slice.result.now c.args.proof.now
    c.new-out.ensures c.in_ok-put_vec8.ensures.ok c.in_ok-put_u64.ensures.ok
    c.in_ok-put_u64-2.ensures.ok
    c.in_ok-put_bytes.ensures.ok c.in_ok-put_proof.ensures.text c.as_slice.ensures.value

pub returns-clause-read : goal.returns-clause-read
returns-clause-read c =
    ap subtree_in (returns-clause-text c)
    ∙ subtree_again _ (record {
      some = c.requires.some;
      log = c.requires.short;
      start = c.ranges.start.fits;
      end = c.ranges.end.fits;
      hash = c.told-hash;
      proof = subst AreHashes c.as_slice.ensures.value c.put_proof.ensures.sized;
    })
