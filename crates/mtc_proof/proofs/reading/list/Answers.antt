use Rattle.std.specs.Int.{w16}
use Rattle.tls_wire.proofs.Vectors.{inner_end}
use Rattle.mtc_proof.proofs.reading.list.Goals as goal

pub returns-clause-place : goal.returns-clause-place
returns-clause-place c = inner_end w16 c.args.cursor.now c.inner16.new.self c.inner16.result
    c.inner16.ensures
