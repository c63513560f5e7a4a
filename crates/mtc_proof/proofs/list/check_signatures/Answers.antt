use Rattle.std.proofs.Common.{subst}
use Rattle.byte_formats.specs.Offsets.{At}
use Rattle.byte_formats.specs.Readings.{Gives}
use Rattle.mtc_proof.specs.Reading.{checked_signatures}
use Rattle.mtc_proof.proofs.Forms.{list_found, list_only}
use Rattle.mtc_proof.proofs.list.check_signatures.Goals as goal

pub returns-clause-found : goal.returns-clause-found
returns-clause-found c =
    let P : At → Type 0 = λ a. Gives (λ x. x) c.check_rest.result (checked_signatures a) in
    list_found c.args.bytes.now c.check_rest.result (λ i. (c.type_inv.bytes i).fits)
    (subst P c.new.ensures c.check_rest.ensures)

pub returns-clause-only : goal.returns-clause-only
returns-clause-only c =
    let P : At → Type 0 = λ a. Gives (λ x. x) c.check_rest.result (checked_signatures a) in
    list_only c.args.bytes.now c.check_rest.result (subst P c.new.ensures c.check_rest.ensures)
