use Rattle.std.proofs.Common.{◌+◌, ◌≤◌, length, arith}
use Rattle.std.specs.Int.{w16}
use Rattle.tls_wire.proofs.Vectors.{vector_forward}
use Rattle.entry_list.proofs.reading.read_item.Goals as goal

pub returns-clause-forward : goal.returns-clause-forward
returns-clause-forward g c =
    let entry : length c.vec16.new.self.rest + 2 ≤ length c.args.cursor.now.rest =
    vector_forward w16 c.args.cursor.now _ c.vec16.new.self c.in_ok-entry.ensures in
    let key : length c.vec16-2.new.self.rest + 2 ≤ length c.vec16.new.self.rest =
    vector_forward w16 c.vec16.new.self _ c.vec16-2.new.self c.in_ok-spki.ensures in
    omega arith
