use Rattle.std.proofs.Common.{sym, ◌∙◌}
use Rattle.log_entry.proofs.Matches.{matches_only, matches_again}
use Rattle.log_entry.proofs.matching.key_matches.Goals as goal

pub returns-clause-meaning : goal.returns-clause-meaning
returns-clause-meaning g c = (
  λ t. matches_only g.H.TreeHash.hash c.args.entry.now c.args.spki.now
      (λ i. (c.type_inv.entry i).fits) (λ i. (c.type_inv.spki i).fits) (sym c.compared.ensures ∙ t),
  λ m. c.compared.ensures ∙ matches_again g.H.TreeHash.hash c.args.entry.now c.args.spki.now m,
)
