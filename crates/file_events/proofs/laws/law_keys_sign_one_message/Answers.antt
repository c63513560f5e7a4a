use Rattle.file_events.proofs.Uses.{one_message}
use Rattle.file_events.proofs.laws.law_keys_sign_one_message.Goals as goal

pub returns : goal.returns
returns g c =
    one_message g.D.Disk.may_leave g.J.JournalRules.valid g.J.JournalRules.use_of
