use Rattle.log_entry.proofs.Matches.{form_alone}
use Rattle.log_entry.proofs.laws.law_entries_have_one_form.Goals as goal

pub returns : goal.returns
returns c = form_alone
