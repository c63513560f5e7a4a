use Rattle.mtc_plans.proofs.Streams.{streams_add_none, streams_make_none}
use Rattle.mtc_plans.proofs.laws.law_streams_add_no_record.Goals as goal

pub returns-clause-records : goal.returns-clause-records
returns-clause-records c = streams_add_none

pub returns-clause-journals : goal.returns-clause-journals
returns-clause-journals c = streams_make_none
