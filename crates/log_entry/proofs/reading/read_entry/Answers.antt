use Rattle.log_entry.proofs.EntryForm.{gives_found, gives_only}
use Rattle.log_entry.proofs.reading.read_entry.Goals as goal

pub returns-clause-found : goal.returns-clause-found
returns-clause-found c = gives_found c.args.bytes.now c.whole.result
    (λ i. (c.type_inv.bytes i).fits) c.whole.ensures

pub returns-clause-only : goal.returns-clause-only
returns-clause-only c = gives_only c.args.bytes.now c.whole.result c.whole.ensures
