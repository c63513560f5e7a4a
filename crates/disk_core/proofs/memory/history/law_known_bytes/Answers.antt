use Rattle.disk_core.proofs.memory.history.law_known_bytes.Goals as goal

pub returns : goal.returns
returns c = λ i. (c.type_inv.bytes i).fits
