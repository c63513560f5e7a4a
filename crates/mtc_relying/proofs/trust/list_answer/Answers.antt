use Rattle.std.proofs.Common.{◌∙◌}
use Rattle.mtc_relying.proofs.Closing.{listed}
use Rattle.mtc_relying.proofs.Listed.{listed_replies}
use Rattle.mtc_relying.proofs.trust.list_answer.Goals as goal

pub returns-in-Ok : goal.returns-in-Ok
returns-in-Ok g c = λ items many are.
    let a = c.args in
    let l = c.in-Ok._landmarks in
    let read = c.in-Ok.ensures in
    listed_replies g.H.TreeHash.hash a.list.now a.text.now a.max_active a.count l items.entries _ _
    read many
    (c.into_text.ensures
    ∙ listed g.H.TreeHash.hash a.text.now a.max_active a.count l items.entries a.tables read many
    (c.requires a.count l read) are)
    c.of_text.ensures
