use Rattle.file_events.proofs.Owners.{new_survive, tiles_survive}
use Rattle.file_events.proofs.laws.law_tiles_survive.Goals as goal

pub returns-clause-new : goal.returns-clause-new
returns-clause-new g c = λ name tiles.
    new_survive g.P.Programs.program g.J.JournalRules.goes g.J.JournalRules.plain
    g.J.JournalRules.valid name tiles g.P.Programs.how_of

pub returns-clause-survive : goal.returns-clause-survive
returns-clause-survive g c = λ name tiles.
    tiles_survive g.P.Programs.program g.J.JournalRules.goes g.J.JournalRules.plain
    g.J.JournalRules.valid name tiles g.P.Programs.how_of
