use Rattle.std.proofs.Common.{sym}
use Rattle.issuance_log.proofs.Ids.{id_again}
use Rattle.party_history.proofs.start.copy_of.Goals as goal

pub returns-in-Ok : goal.returns-in-Ok
returns-in-Ok c =
    sym (id_again c.args.id.now c.as_bytes.result.now c.in-Ok.copy c.as_bytes.ensures.value
    c.as_bytes.ensures.anchor c.in-Ok.ensures)
