use Rattle.std.proofs.Common.{◌≡◌, ℕ, ◌-◌, ◌<◌, ◌≤◌, ◌∙◌, None, length, ap, sym, subst, arith}
use Rattle.std.proofs.lemmas.Grind.{common_steps}
use Rattle.std.specs.Prelude.{codes}
use Rattle.std.proofs.lemmas.Option.{IfSome_then}
use Rattle.byte_formats.specs.Types.{Text}
use Rattle.entry_list.specs.Items.{file_part}
use Rattle.issuance_log.specs.Folds.{LogState, LogView, view_in}
use Rattle.issuance_log.specs.Staying.{stays_alone}
use Rattle.issuance_log.specs.Words.{log_disk, log_tiles_disk, modelled_by_both, view_of}
use Rattle.mtc_command.specs.Answers.{Ending, refused, replied, said}
use Rattle.mtc_command.specs.declared.answer.Said.TheVariants.{Done}
use Rattle.mtc_command.specs.declared.answer.Stopped.TheVariants.{NotAllowed}
use Rattle.mtc_lines.proofs.Outputs.{stopped_before, streams_so}
use Rattle.mtc_authority.specs.LogOutcomes.{beyond, entries_from_reply, items_of, not_allowed}
use Rattle.mtc_authority.specs.Works.{RepliesOnLog}
use Rattle.mtc_authority.proofs.Listed.{replies_so}
use Rattle.mtc_authority.proofs.Replied.{modelled_both, shown_so}
use Rattle.mtc_authority.proofs.entries.entries_from.Goals as goal

no_items : (s : LogState) (first size : ℕ) → size ≤ first
    → not_allowed (codes "NothingNew") ≡ entries_from_reply first size s
no_items s first size le = grind (arith, common_steps)

too_few : (s : LogState) (v : LogView) (first size have : ℕ) → have ≡ v.size → first < size
    → v.size < size → view_in s ≡ v → beyond have ≡ entries_from_reply first size s
too_few s v first size have is more less shows =
    let same : length s.entries ≡ v.size = ap (λ (u : LogView). u.size) shows in
    grind (arith, common_steps)

listed : (s : LogState) (v : LogView) (first size : ℕ) → first < size → size ≤ v.size
    → view_in s ≡ v
    → said Done (file_part (items_of s) first (size - first)) ≡ entries_from_reply first size s
listed s v first size more le shows =
    let same : length s.entries ≡ v.size = ap (λ (u : LogView). u.size) shows in
    grind (arith, common_steps)

pub returns-then-size-first-clause-streams : goal.returns-then-size-first-clause-streams
returns-then-size-first-clause-streams g c =
    let log = c.args.log.now in
    let wanted = entries_from_reply c.args.first c.args.size in
    stopped_before g.O.Sink c.args.out.now (RepliesOnLog c.args.journal.now wanted log log)
    c.refuse.result
    (subst (λ (e : Ending). RepliesOnLog c.args.journal.now wanted log log e)
    (sym (c.refuse.ensures ∙ ap (λ (t : Text). replied (refused NotAllowed None t))
    c.named.ensures))
    (shown_so c.args.journal.now wanted log log
    (stays_alone log (g.met.D.Disk.only_now (log_disk log))
    (g.met.D.Disk.only_now (log_tiles_disk log)))
    (not_allowed (codes "NothingNew")) (λ e. absurd cc) c.law_sound.ensures.view
    (λ s shows. no_items s c.args.first c.args.size c.if-size-first.true)))

pub returns-then-size-first-clause-stays : goal.returns-then-size-first-clause-stays
returns-then-size-first-clause-stays g c = stays_alone c.args.log.now
    (g.met.D.Disk.only_now (log_disk c.args.log.now))
    (g.met.D.Disk.only_now (log_tiles_disk c.args.log.now))

pub returns-then-size-clause-streams : goal.returns-then-size-clause-streams
returns-then-size-clause-streams g c =
    let log = c.args.log.now in
    let first = c.args.first in
    let size = c.args.size in
    let wanted = entries_from_reply first size in
    stopped_before g.O.Sink c.args.out.now (RepliesOnLog c.args.journal.now wanted log log)
    c.too_many.result
    (subst (λ (e : Ending). RepliesOnLog c.args.journal.now wanted log log e)
    (sym c.too_many.ensures)
    (shown_so c.args.journal.now wanted log log
    (stays_alone log (g.met.D.Disk.only_now (log_disk log))
    (g.met.D.Disk.only_now (log_tiles_disk log)))
    (beyond c.size-then-size.result) (λ e. absurd cc) c.law_sound.ensures.view
    (λ s shows. too_few s (view_of log) first size _ c.size-then-size.ensures.value
    (omega arith) (omega arith) shows)))

pub returns-then-size-clause-stays : goal.returns-then-size-clause-stays
returns-then-size-clause-stays g c = stays_alone c.args.log.now
    (g.met.D.Disk.only_now (log_disk c.args.log.now))
    (g.met.D.Disk.only_now (log_tiles_disk c.args.log.now))

pub returns-clause-streams : goal.returns-clause-streams
returns-clause-streams g c =
    let log = c.args.log.now in
    let first = c.args.first in
    let size = c.args.size in
    streams_so g.O.Sink c.args.out.now c.write_items.new.out _ _
    (replies_so c.args.journal.now log c.write_items.new.log
    (λ s. said Done (file_part (items_of s) first (size - first)))
    (entries_from_reply first size)
    (IfSome_then (modelled_by_both log)
    (modelled_both (λ s. view_in s ≡ view_of log) log c.law_sound.ensures.view)
    (λ s shows. listed s (view_of log) first size (omega arith) (omega arith) shows)))
    c.write_items.result c.write_items.ensures.streams
