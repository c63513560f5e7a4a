use Rattle.log_entry.proofs.EntryForm.{entries_only, entries_again}
use Rattle.log_entry.proofs.laws.law_entries_decode_as_encoded.Goals as goal

pub returns : goal.returns
returns c = record { only = entries_only; again = entries_again }
