use Rattle.std.proofs.Common.{ap, arith, length}
use Rattle.std.proofs.lemmas.List.{length_push}
use Rattle.disk_core.specs.Calls.{calls_in, only_read}
use Rattle.disk_core.proofs.Calls.{more_only_read, only_reads_few}
use Rattle.disk_core.proofs.memory.calls.Calls.note_read.Goals as goal

pub invariant_of-self : goal.invariant_of-self
invariant_of-self c =
    let it = c.args.self.now in
    let more = ap length (more_only_read it.changes.items it.only_reads) in
    let longer = length_push (calls_in it.changes.items it.only_reads) only_read in
    record { counted = omega (arith, more, longer, it.counted); kept = it.kept }

pub overflow_add-self : goal.overflow_add-self
overflow_add-self c =
    let it = c.args.self.now in
    let few = only_reads_few it.changes.items it.only_reads in
    omega (arith, few, it.counted)

pub returns-clause-calls : goal.returns-clause-calls
returns-clause-calls c = more_only_read c.args.self.now.changes.items c.args.self.now.only_reads
