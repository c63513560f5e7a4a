use Rattle.log_entry.proofs.EntryForm.{one_entry}
use Rattle.log_entry.proofs.laws.law_entries_have_one_encoding.Goals as goal

pub returns : goal.returns
returns c = one_entry
