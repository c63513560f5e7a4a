use Rattle.std.proofs.Common.{◌≡◌, ℕ, ◌<◌, ◌≤◌, ◌∙◌, None, length, ap, sym, subst, arith}
use Rattle.std.proofs.lemmas.Grind.{common_steps}
use Rattle.std.specs.Prelude.{codes}
use Rattle.std.proofs.lemmas.Option.{IfSome_then}
use Rattle.std.proofs.lemmas.Result.{err_from_is_err_and}
use Rattle.byte_formats.specs.Types.{HashFunction, Text}
use Rattle.cosigner_core.specs.Requests.{advance_text}
use Rattle.issuance_log.specs.Folds.{LogState, LogView, view_in}
use Rattle.issuance_log.specs.Staying.{stays_alone}
use Rattle.issuance_log.specs.Words.{log_disk, log_tiles_disk, modelled_by_both, view_of}
use Rattle.issuance_log.proofs.Asked.{asks_stays}
use Rattle.mtc_command.specs.Answers.{Ending, refused, replied, said, stop_ending}
use Rattle.mtc_command.specs.declared.answer.Said.TheVariants.{Done}
use Rattle.mtc_command.specs.declared.answer.Stopped.TheVariants.{NotAllowed}
use Rattle.mtc_authority.specs.LogOutcomes.{beyond, not_allowed}
use Rattle.mtc_authority.specs.RequestOutcomes.{advance_by_log, consist_reply}
use Rattle.mtc_authority.specs.Works.{RepliesOnLog}
use Rattle.mtc_authority.proofs.Replied.{at_tiles, both_so, shown_so, modelled_both, modelled_so}
use Rattle.mtc_authority.proofs.Requested.{nothing_new}
use Rattle.mtc_authority.proofs.requests.consist.Goals as goal

too_few : (h : HashFunction) (s : LogState) (v : LogView) (old new have : ℕ) → have ≡ v.size
    → old < new → v.size < new → view_in s ≡ v → beyond have ≡ consist_reply h old new s
too_few h s v old new have is more less shows =
    let same : length s.entries ≡ v.size = ap (λ (u : LogView). u.size) shows in
    grind (arith, common_steps)

pub returns-then-size-new : goal.returns-then-size-new
returns-then-size-new g c =
    let h = g.H.TreeHash.hash in
    let log = c.args.log.now in
    let wanted = consist_reply h c.args.old c.args.new in
    subst (λ (e : Ending). RepliesOnLog c.args.journal.now wanted log log e)
    (sym c.too_many.ensures)
    (shown_so c.args.journal.now wanted log log
    (stays_alone log (g.met.D.Disk.only_now (log_disk log))
    (g.met.D.Disk.only_now (log_tiles_disk log)))
    (beyond c.size-then-size-new.result) (λ e. absurd cc) c.law_sound.ensures.view
    (λ s shows. too_few h s (view_of log) c.args.old c.args.new _
    c.size-then-size-new.ensures.value (omega arith) (omega arith) shows))

asked : (h : HashFunction) (s : LogState) (v : LogView) (old new : ℕ) (text : Text) → old < new
    → new ≤ v.size → view_in s ≡ v → text ≡ advance_text (advance_by_log h s old new)
    → said Done text ≡ consist_reply h old new s
asked h s v old new text more within shows is =
    let same : length s.entries ≡ v.size = ap (λ (u : LogView). u.size) shows in
    grind (arith, common_steps)

pub returns : goal.returns
returns g c =
    let h = g.H.TreeHash.hash in
    let log = c.args.log.now in
    let text = c.in_ok-advance_request.field-0 in
    let old = c.args.old in
    let new = c.args.new in
    modelled_so c.args.journal.now (consist_reply h old new) log c.advance_request.new.log
    (asks_stays log c.advance_request.new.log (g.met.D.Disk.only_now (log_disk log))
    c.advance_request.ensures.asks)
    (said Done text) (λ e. absurd cc)
    (IfSome_then (modelled_by_both log)
    (both_so (λ s. view_in s ≡ view_of log)
    (λ s. text ≡ advance_text (advance_by_log h s old new))
    (modelled_by_both log) (modelled_both _ log c.law_sound.ensures.view)
    c.in_ok-advance_request.ensures.text)
    (λ s is. asked h s (view_of log) old new text (omega arith) (omega arith) is.0 is.1))

pub returns-then-new-old : goal.returns-then-new-old
returns-then-new-old g c =
    let h = g.H.TreeHash.hash in
    let log = c.args.log.now in
    let wanted = consist_reply h c.args.old c.args.new in
    subst (λ (e : Ending). RepliesOnLog c.args.journal.now wanted log log e)
    (sym (c.refuse.ensures ∙ ap (λ (t : Text). replied (refused NotAllowed None t))
    c.named.ensures))
    (shown_so c.args.journal.now wanted log log
    (stays_alone log (g.met.D.Disk.only_now (log_disk log))
    (g.met.D.Disk.only_now (log_tiles_disk log)))
    (not_allowed (codes "NothingNew")) (λ e. absurd cc) c.law_sound.ensures.view
    (λ s shows. nothing_new h s c.args.old c.args.new c.if-new-old.true))

pub returns-in_err-advance_request : goal.returns-in_err-advance_request
returns-in_err-advance_request g c =
    let h = g.H.TreeHash.hash in
    let log = c.args.log.now in
    let new = c.advance_request.new.log in
    let stopped = err_from_is_err_and c.from_residual.result c.from_residual.ensures.1 in
    rw (stopped.1, stopped.2) (at_tiles c.args.journal.now
    (consist_reply h c.args.old c.args.new) log new
    (asks_stays log new (g.met.D.Disk.only_now (log_disk log)) c.advance_request.ensures.asks)
    (stop_ending c.in_err-advance_request.field-0.0) c.in_err-advance_request.ensures.stops)
