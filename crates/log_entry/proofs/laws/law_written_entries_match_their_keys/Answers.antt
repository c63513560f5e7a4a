use Rattle.log_entry.proofs.Matches.{written_matches}
use Rattle.log_entry.proofs.laws.law_written_entries_match_their_keys.Goals as goal

pub returns : goal.returns
returns c = written_matches
