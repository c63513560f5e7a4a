use Rattle.cert_names.proofs.LogForms.{found, only}
use Rattle.cert_names.proofs.reading.log_of.Goals as goal

pub returns-clause-found : goal.returns-clause-found
returns-clause-found c = found c.args.name.now c.id_in.result (λ i. (c.type_inv.name i).fits)
    c.id_in.ensures

pub returns-clause-only : goal.returns-clause-only
returns-clause-only c = only c.args.name.now c.id_in.result c.id_in.ensures
