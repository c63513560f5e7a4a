use Rattle.file_events.proofs.Apart.{clocks_go_apart, one_by_one}
use Rattle.file_events.proofs.laws.law_files_go_apart_one_by_one.Goals as goal

pub returns-clause-files : goal.returns-clause-files
returns-clause-files c = one_by_one

pub returns-clause-clocks : goal.returns-clause-clocks
returns-clause-clocks c = clocks_go_apart
