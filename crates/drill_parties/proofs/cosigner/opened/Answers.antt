use Rattle.std.proofs.Common.{◌∙◌, sym}
use Rattle.std.proofs.lemmas.Option.{same_Some}
use Rattle.cosigner_core.specs.Words.{cosigner_disk}
use Rattle.drill_parties.specs.Disks.{records_on}
use Rattle.drill_parties.proofs.cosigner.opened.Goals as goal

pub returns-clause-state : goal.returns-clause-state
returns-clause-state g c = λ list s stands is.
    let found = c.in_ok-open_cosigner.ensures.found list s stands is in (
      found.1,
      same_Some (records_on (cosigner_disk c.in_ok-open_cosigner.field-0)) list
          (sym c.in_ok-open_cosigner.ensures.list ∙ found.0),
    )
