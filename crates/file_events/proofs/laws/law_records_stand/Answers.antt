use Rattle.file_events.proofs.Stays.{durable_stay, held_stand, recovered_valid, released_stand}
use Rattle.file_events.proofs.laws.law_records_stand.Goals as goal

pub returns-clause-stay : goal.returns-clause-stay
returns-clause-stay g c = durable_stay g.D.Disk.may_leave g.J.JournalRules.valid

pub returns-clause-held : goal.returns-clause-held
returns-clause-held g c = held_stand g.D.Disk.may_leave g.J.JournalRules.valid

pub returns-clause-released : goal.returns-clause-released
returns-clause-released g c = released_stand g.D.Disk.may_leave g.J.JournalRules.valid

pub returns-clause-valid : goal.returns-clause-valid
returns-clause-valid g c = recovered_valid g.D.Disk.may_leave g.J.JournalRules.valid
