use Rattle.std.proofs.Common.{◌≡◌, ℕ, ◌≤◌, ◌<◌, length, ap, sym, subst, arith}
use Rattle.std.proofs.lemmas.Grind.{common_steps}
use Rattle.std.proofs.lemmas.Option.{IfSome_then}
use Rattle.entry_list.specs.Items.{file_part}
use Rattle.issuance_log.specs.Folds.{LogState, LogView, view_in}
use Rattle.issuance_log.specs.Staying.{stays_alone}
use Rattle.issuance_log.specs.Words.{log_disk, log_tiles_disk, modelled_by_both, view_of}
use Rattle.mtc_command.specs.Answers.{Ending, said}
use Rattle.mtc_command.specs.declared.answer.Said.TheVariants.{Done}
use Rattle.mtc_lines.proofs.Outputs.{stopped_before, streams_so}
use Rattle.mtc_authority.specs.LogOutcomes.{beyond, entries_reply, items_of}
use Rattle.mtc_authority.specs.Works.{RepliesOnLog}
use Rattle.mtc_authority.proofs.Listed.{replies_so}
use Rattle.mtc_authority.proofs.Replied.{modelled_both, shown_so}
use Rattle.mtc_authority.proofs.entries.entries.Goals as goal

too_few : (s : LogState) (v : LogView) (size have : ℕ) → have ≡ v.size → v.size < size
    → view_in s ≡ v → beyond have ≡ entries_reply size s
too_few s v size have is less shows =
    let same : length s.entries ≡ v.size = ap (λ (u : LogView). u.size) shows in
    grind (arith, common_steps)

listed : (s : LogState) (v : LogView) (size : ℕ) → size ≤ v.size → view_in s ≡ v
    → said Done (file_part (items_of s) 0 size) ≡ entries_reply size s
listed s v size le shows =
    let same : length s.entries ≡ v.size = ap (λ (u : LogView). u.size) shows in
    grind (arith, common_steps)

pub returns-then-size-clause-streams : goal.returns-then-size-clause-streams
returns-then-size-clause-streams g c =
    let log = c.args.log.now in
    let wanted = entries_reply c.args.size in
    stopped_before g.O.Sink c.args.out.now (RepliesOnLog c.args.journal.now wanted log log)
    c.too_many.result
    (subst (λ (e : Ending). RepliesOnLog c.args.journal.now wanted log log e)
    (sym c.too_many.ensures)
    (shown_so c.args.journal.now wanted log log
    (stays_alone log (g.met.D.Disk.only_now (log_disk log))
    (g.met.D.Disk.only_now (log_tiles_disk log)))
    (beyond c.size-then-size.result) (λ e. absurd cc) c.law_sound.ensures.view
    (λ s shows. too_few s (view_of log) c.args.size _ c.size-then-size.ensures.value (omega arith)
    shows)))

pub returns-then-size-clause-stays : goal.returns-then-size-clause-stays
returns-then-size-clause-stays g c = stays_alone c.args.log.now
    (g.met.D.Disk.only_now (log_disk c.args.log.now))
    (g.met.D.Disk.only_now (log_tiles_disk c.args.log.now))

pub returns-clause-streams : goal.returns-clause-streams
returns-clause-streams g c =
    let log = c.args.log.now in
    let size = c.args.size in
    streams_so g.O.Sink c.args.out.now c.write_items.new.out _ _
    (replies_so c.args.journal.now log c.write_items.new.log
    (λ s. said Done (file_part (items_of s) 0 size)) (entries_reply size)
    (IfSome_then (modelled_by_both log)
    (modelled_both (λ s. view_in s ≡ view_of log) log c.law_sound.ensures.view)
    (λ s shows. listed s (view_of log) size (omega arith) shows)))
    c.write_items.result c.write_items.ensures.streams
