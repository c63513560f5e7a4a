use Rattle.std.proofs.Common.{◌+◌, ◌≤◌, length, arith}
use Rattle.std.specs.Int.{w32}
use Rattle.tls_wire.proofs.Vectors.{vector_forward}
use Rattle.cosigner_core.proofs.export_reading.read_record.Goals as goal

pub returns-in-Some-clause-forward : goal.returns-in-Some-clause-forward
returns-in-Some-clause-forward g c =
    let body : length c.vec32.new.cursor.rest + 4 ≤ length c.args.cursor.now.rest =
    vector_forward w32 c.args.cursor.now _ c.vec32.new.cursor c.in_ok-body.ensures in
    omega arith
