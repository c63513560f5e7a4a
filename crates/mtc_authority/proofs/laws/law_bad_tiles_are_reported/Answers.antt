use Rattle.mtc_authority.proofs.BadTiles.{bad_is, has_all, none_bad}
use Rattle.mtc_authority.proofs.laws.law_bad_tiles_are_reported.Goals as goal

pub returns-clause-none : goal.returns-clause-none
returns-clause-none c = none_bad

pub returns-clause-all : goal.returns-clause-all
returns-clause-all c = has_all

pub returns-clause-first : goal.returns-clause-first
returns-clause-first c = bad_is
