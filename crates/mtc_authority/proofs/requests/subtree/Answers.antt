use Rattle.std.proofs.Common.{◌≡◌, ℕ, ◌≤◌, ◌∙◌, None, true, length, ap, arith, subst, sym}
use Rattle.std.proofs.lemmas.Grind.{common_steps}
use Rattle.std.specs.Prelude.{codes}
use Rattle.std.proofs.lemmas.Option.{IfSome_then}
use Rattle.std.proofs.lemmas.Result.{err_from_is_err_and}
use Rattle.byte_formats.specs.Types.{HashFunction, Text}
use Rattle.cosigner_core.specs.Requests.{subtree_text}
use Rattle.tree_core.specs.Subtree.{is_subtree}
use Rattle.issuance_log.specs.Folds.{LogState, LogView, view_in}
use Rattle.issuance_log.specs.Staying.{stays_alone}
use Rattle.issuance_log.specs.Words.{log_disk, log_tiles_disk, modelled_by_both, view_of}
use Rattle.issuance_log.proofs.Asked.{asks_stays}
use Rattle.mtc_command.specs.Answers.{Ending, refused, replied, said, stop_ending}
use Rattle.mtc_command.specs.declared.answer.Said.TheVariants.{Done}
use Rattle.mtc_command.specs.declared.answer.Stopped.TheVariants.{NotAllowed}
use Rattle.mtc_authority.specs.LogOutcomes.{beyond, not_allowed}
use Rattle.mtc_authority.specs.RequestOutcomes.{subtree_of, subtree_reply}
use Rattle.mtc_authority.specs.Works.{RepliesOnLog}
use Rattle.mtc_authority.proofs.Replied.{at_tiles, both_so, shown_so, modelled_both, modelled_so}
use Rattle.mtc_authority.proofs.Requested.{no_subtree, subtree_outside, subtree_short}
use Rattle.mtc_authority.proofs.requests.subtree.Goals as goal

asked : (h : HashFunction) (s : LogState) (v : LogView) (start end size : ℕ) (text : Text)
    → is_subtree start end ≡ true → size ≤ v.size → end ≤ size → view_in s ≡ v
    → text ≡ subtree_text (subtree_of h s start end size)
    → said Done text ≡ subtree_reply h start end size s
asked h s v start end size text valid within inside shows is =
    let same : length s.entries ≡ v.size = ap (λ (u : LogView). u.size) shows in
    grind (arith, common_steps)

pub returns : goal.returns
returns g c =
    let h = g.H.TreeHash.hash in
    let log = c.args.log.now in
    let text = c.in_ok-subtree_request.field-0 in
    let start = c.args.start in
    let end = c.args.end in
    let size = c.args.size in
    modelled_so c.args.journal.now (subtree_reply h start end size) log c.subtree_request.new.log
    (asks_stays log c.subtree_request.new.log (g.met.D.Disk.only_now (log_disk log))
    c.subtree_request.ensures.asks)
    (said Done text) (λ e. absurd cc)
    (IfSome_then (modelled_by_both log)
    (both_so (λ s. view_in s ≡ view_of log)
    (λ s. text ≡ subtree_text (subtree_of h s start end size))
    (modelled_by_both log) (modelled_both _ log c.law_sound.ensures.view)
    c.in_ok-subtree_request.ensures.text)
    (λ s is. asked h s (view_of log) start end size text
    (sym c.subtree_ok.ensures ∙ c.if-not-subtree_ok.false) (omega arith) (omega arith) is.0 is.1))

pub returns-then-not-subtree_ok : goal.returns-then-not-subtree_ok
returns-then-not-subtree_ok g c =
    let h = g.H.TreeHash.hash in
    let log = c.args.log.now in
    let wanted = subtree_reply h c.args.start c.args.end c.args.size in
    subst (λ (e : Ending). RepliesOnLog c.args.journal.now wanted log log e)
    (sym (c.refuse.ensures ∙ ap (λ (t : Text). replied (refused NotAllowed None t))
    c.named.ensures))
    (shown_so c.args.journal.now wanted log log
    (stays_alone log (g.met.D.Disk.only_now (log_disk log))
    (g.met.D.Disk.only_now (log_tiles_disk log)))
    (not_allowed (codes "BadSubtree")) (λ e. absurd cc) c.law_sound.ensures.view
    (λ s shows. no_subtree h s c.args.start c.args.end c.args.size
    (sym c.subtree_ok.ensures ∙ c.if-not-subtree_ok.true)))

pub returns-then-size : goal.returns-then-size
returns-then-size g c =
    let h = g.H.TreeHash.hash in
    let log = c.args.log.now in
    let wanted = subtree_reply h c.args.start c.args.end c.args.size in
    subst (λ (e : Ending). RepliesOnLog c.args.journal.now wanted log log e)
    (sym c.too_many.ensures)
    (shown_so c.args.journal.now wanted log log
    (stays_alone log (g.met.D.Disk.only_now (log_disk log))
    (g.met.D.Disk.only_now (log_tiles_disk log)))
    (beyond c.size-then-size.result) (λ e. absurd cc) c.law_sound.ensures.view
    (λ s shows. subtree_short h s (view_of log) c.args.start c.args.end c.args.size _
    (sym c.subtree_ok.ensures ∙ c.if-not-subtree_ok.false) c.size-then-size.ensures.value
    (omega arith) shows))

pub returns-then-size-end : goal.returns-then-size-end
returns-then-size-end g c =
    let h = g.H.TreeHash.hash in
    let log = c.args.log.now in
    let wanted = subtree_reply h c.args.start c.args.end c.args.size in
    subst (λ (e : Ending). RepliesOnLog c.args.journal.now wanted log log e)
    (sym c.too_many-then-size-end.ensures)
    (shown_so c.args.journal.now wanted log log
    (stays_alone log (g.met.D.Disk.only_now (log_disk log))
    (g.met.D.Disk.only_now (log_tiles_disk log)))
    (beyond c.args.size) (λ e. absurd cc) c.law_sound.ensures.view
    (λ s shows. subtree_outside h s (view_of log) c.args.start c.args.end c.args.size
    (sym c.subtree_ok.ensures ∙ c.if-not-subtree_ok.false) (omega arith) (omega arith) shows))

pub returns-in_err-subtree_request : goal.returns-in_err-subtree_request
returns-in_err-subtree_request g c =
    let h = g.H.TreeHash.hash in
    let log = c.args.log.now in
    let new = c.subtree_request.new.log in
    let stopped = err_from_is_err_and c.from_residual.result c.from_residual.ensures.1 in
    rw (stopped.1, stopped.2) (at_tiles c.args.journal.now
    (subtree_reply h c.args.start c.args.end c.args.size) log new
    (asks_stays log new (g.met.D.Disk.only_now (log_disk log)) c.subtree_request.ensures.asks)
    (stop_ending c.in_err-subtree_request.field-0.0) c.in_err-subtree_request.ensures.stops)
