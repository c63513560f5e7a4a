use Rattle.std.proofs.Common.{true, is_ok}
use Rattle.disk_core.specs.declared.memory.call.Call.TheVariants.{Write}
use Rattle.disk_core.proofs.Replay.{bytes_noted}
use Rattle.disk_core.proofs.memory.history.History.write.Goals as goal

pub returns-clause-time : goal.returns-clause-time
returns-clause-time c = c.write_noted.ensures.time c.args.self.now.first

pub invariant_of-self-2-clause-are_bytes : goal.invariant_of-self-2-clause-are_bytes
invariant_of-self-2-clause-are_bytes c = bytes_noted _ _ _ (Write c.args.place c.args.piece.now)
    true (is_ok c.write_noted.result) c.write_noted.ensures.calls
    (λ i. (c.type_inv.piece i).fits) c.args.self.now.are_bytes
