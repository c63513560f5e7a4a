use Rattle.std.specs.Prelude.{option_map}
use Rattle.mtc_relying.proofs.Audited.{audit_meets, modelled_meets}
use Rattle.mtc_relying.specs.AuditOutcome.{audit_says, case_of}
use Rattle.mtc_relying.specs.Views.{accepted_parts, audit_reply}
use Rattle.mtc_relying.proofs.found.audited.Goals as goal

pub returns : goal.returns
returns g c =
    let h = g.H.TreeHash.hash in
    let x = case_of c.args.store.now c.args.items.now (option_map (λ e. e.now) c.args.kept)
    (accepted_parts c.args.accepted.now) in
    modelled_meets (audit_says h x).answer (audit_reply c.in_ok-found.found) c.answer_to.result
    (audit_meets h x c.in_ok-found.found c.in_ok-found.ensures) c.answer_to.ensures
