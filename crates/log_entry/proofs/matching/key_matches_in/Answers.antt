use Rattle.std.proofs.Common.{sym, ◌∙◌}
use Rattle.std.proofs.lemmas.Bool.{and_parts}
use Rattle.log_entry.specs.Matching.{has_form, matches}
use Rattle.log_entry.proofs.matching.key_matches_in.Goals as goal

pub returns-clause-form : goal.returns-clause-form
returns-clause-form g c = λ is.
    (and_parts (has_form c.args.form c.args.entry.now)
    (matches g.H.TreeHash.hash c.args.entry.now c.args.spki.now)
    (sym c.compared_in.ensures ∙ is)).0

pub returns-clause-belongs : goal.returns-clause-belongs
returns-clause-belongs g c = λ is.
    (and_parts (has_form c.args.form c.args.entry.now)
    (matches g.H.TreeHash.hash c.args.entry.now c.args.spki.now)
    (sym c.compared_in.ensures ∙ is)).1
