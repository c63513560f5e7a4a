use Rattle.std.proofs.Common.{◌+◌, ◌≤◌, length, arith}
use Rattle.std.specs.Int.{w8, w16}
use Rattle.tls_wire.proofs.Vectors.{vector_forward}
use Rattle.mtc_proof.proofs.list.signature.Goals as goal

pub returns-clause-forward : goal.returns-clause-forward
returns-clause-forward c =
    let id : length c.vec8.new.self.rest + 1 ≤ length c.args.cursor.now.rest =
    vector_forward w8 c.args.cursor.now _ c.vec8.new.self c.in_ok-cosigner.ensures in
    let long : length c.vec16.new.self.rest + 2 ≤ length c.vec8.new.self.rest =
    vector_forward w16 c.vec8.new.self _ c.vec16.new.self c.in_ok-signature.ensures in
    omega arith
