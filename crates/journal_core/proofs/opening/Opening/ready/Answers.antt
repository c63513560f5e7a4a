use Rattle.journal_core.proofs.OpeningSteps.{ended_durable, ended_records, ended_all, ended_offset}
use Rattle.journal_core.proofs.opening.Opening.ready.Goals as goal

pub invariant_of-result-clause-is_durable : goal.invariant_of-result-clause-is_durable
invariant_of-result-clause-is_durable g c = λ sound b contents.
    ended_durable g.D.Disk c.args.self.disk c.args.self.place c.args.self.reading
    (c.args.self.closed c.requires) b contents

pub invariant_of-result-clause-stands : goal.invariant_of-result-clause-stands
invariant_of-result-clause-stands g c = λ b contents.
    (ended_durable g.D.Disk c.args.self.disk c.args.self.place c.args.self.reading
    (c.args.self.closed c.requires) b contents).stands

pub returns-clause-list : goal.returns-clause-list
returns-clause-list g c = ended_records g.D.Disk c.args.self.disk c.args.self.place
    c.args.self.reading (c.args.self.closed c.requires)

pub returns-clause-all : goal.returns-clause-all
returns-clause-all g c = ended_all g.D.Disk c.args.self.disk c.args.self.place c.args.self.reading
    (c.args.self.closed c.requires)

pub returns-clause-end : goal.returns-clause-end
returns-clause-end g c =
    ended_offset g.D.Disk c.args.self.disk c.args.self.place c.args.self.reading
    (c.args.self.closed c.requires)
