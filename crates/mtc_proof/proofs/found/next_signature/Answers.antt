use Rattle.mtc_proof.specs.Views.{sig_parts}
use Rattle.mtc_proof.proofs.Sequence.{signatures_next, signatures_end, signatures_none}
use Rattle.mtc_proof.proofs.found.next_signature.Goals as goal

pub returns-in-Ok : goal.returns-in-Ok
returns-in-Ok c = signatures_next c.args.cursor.now (sig_parts c.in-Ok.next) c.signature.new.cursor
    c.in-Ok.ensures.exact

pub returns-in-Err : goal.returns-in-Err
returns-in-Err c = (
  signatures_end c.args.cursor.now _ c.in-Err.ensures.exact,
  signatures_none c.new.result c.new.ensures,
)
