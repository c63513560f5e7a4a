use Rattle.tls_wire.proofs.Cuts.{cut_parts, cut_lacks, cut_again}
use Rattle.tls_wire.proofs.laws.law_texts_are_cut_at_their_first_byte.Goals as goal

pub returns-clause-parts : goal.returns-clause-parts
returns-clause-parts c = λ mark text cut e. (cut_parts mark text cut e, cut_lacks mark text cut e)

pub returns-clause-again : goal.returns-clause-again
returns-clause-again c = cut_again
