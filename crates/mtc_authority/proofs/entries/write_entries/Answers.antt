use Rattle.std.proofs.Common.{sym, subst}
use Rattle.mtc_lines.specs.Outputs.{Streams}
use Rattle.mtc_lines.proofs.Outputs.{streams_so}
use Rattle.mtc_authority.specs.LogOutcomes.{entries_from_reply, entries_reply}
use Rattle.mtc_authority.specs.Works.{HasWorkedOnLog, log_says}
use Rattle.mtc_authority.specs.declared.work.Work.{Work}
use Rattle.mtc_authority.proofs.Worked.{worked_by}
use Rattle.mtc_authority.proofs.entries.write_entries.Goals as goal

pub returns-in-Entries-clause-streams : goal.returns-in-Entries-clause-streams
unfolding Rattle.mtc_authority.specs.Works.log_says
returns-in-Entries-clause-streams g c =
    let log = c.args.log.now in
    let name = c.args.journal.now in
    subst (λ (w : Work). Streams g.O.Sink c.args.out.now c.entries.new.out (HasWorkedOnLog name
    (log_says g.H.TreeHash.hash w) log c.entries.new.log) c.entries.result) (sym c.in-Entries.is)
    (streams_so g.O.Sink c.args.out.now c.entries.new.out _ _ (λ ending. worked_by name log
    c.entries.new.log ending (entries_reply _)) c.entries.result c.entries.ensures.streams)

pub returns-in-EntriesFrom-clause-streams : goal.returns-in-EntriesFrom-clause-streams
unfolding Rattle.mtc_authority.specs.Works.log_says
returns-in-EntriesFrom-clause-streams g c =
    let log = c.args.log.now in
    let name = c.args.journal.now in
    subst (λ (w : Work). Streams g.O.Sink c.args.out.now c.entries_from.new.out (HasWorkedOnLog name
    (log_says g.H.TreeHash.hash w) log c.entries_from.new.log) c.entries_from.result)
    (sym c.in-EntriesFrom.is)
    (streams_so g.O.Sink c.args.out.now c.entries_from.new.out _ _ (λ ending. worked_by name log
    c.entries_from.new.log ending (entries_from_reply _ _)) c.entries_from.result
    c.entries_from.ensures.streams)
