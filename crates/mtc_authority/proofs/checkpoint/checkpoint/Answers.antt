use Rattle.std.proofs.Common.{◌≡◌, ℕ, length, take, ap, arith}
use Rattle.std.proofs.lemmas.Grind.{common_steps}
use Rattle.std.proofs.lemmas.Option.{IfSome_then}
use Rattle.std.proofs.lemmas.Result.{err_from_is_err_and}
use Rattle.byte_formats.specs.Types.{Hash, HashFunction, Text}
use Rattle.tree_core.specs.Tree.{tree_hash}
use Rattle.issuance_log.specs.Folds.{LogState, LogView, view_in}
use Rattle.issuance_log.specs.Words.{log_disk, modelled_by_both, view_of}
use Rattle.issuance_log.proofs.Asked.{asks_stays}
use Rattle.mtc_command.specs.Answers.{said}
use Rattle.mtc_command.specs.declared.answer.Said.TheVariants.{Done}
use Rattle.mtc_authority.specs.LogOutcomes.{checkpoint_reply}
use Rattle.mtc_lines.specs.CheckpointLines.{checkpoint_lines}
use Rattle.mtc_authority.proofs.Replied.{both_so, out_of_memory_so, modelled_both, modelled_so}
use Rattle.mtc_authority.proofs.checkpoint.checkpoint.Goals as goal

hashed : (h : HashFunction) (s : LogState) (v : LogView) (size : ℕ) (root : Hash) (text : Text)
    → size ≡ v.size → text ≡ checkpoint_lines size root → view_in s ≡ v
    → root ≡ tree_hash h (take size s.entries) → said Done text ≡ checkpoint_reply h s.entries
hashed h s v size root text is lines shows whole =
    let same : length s.entries ≡ v.size = ap (λ (u : LogView). u.size) shows in
    grind (arith, common_steps)

pub returns-in_ok-checkpoint_text-in-Ok : goal.returns-in_ok-checkpoint_text-in-Ok
returns-in_ok-checkpoint_text-in-Ok g c =
    let h = g.H.TreeHash.hash in
    let log = c.args.log.now in
    let text = c.in_ok-checkpoint_text-in-Ok.field-0 in
    let size = c.size-size.result in
    modelled_so c.args.journal.now (λ s. checkpoint_reply h s.entries) log c.root_of.new.log
    (asks_stays log c.root_of.new.log (g.met.D.Disk.only_now (log_disk log)) c.root_of.ensures.asks)
    (said Done text) (λ e. absurd cc)
    (IfSome_then (modelled_by_both log)
    (both_so (λ s. view_in s ≡ view_of log) (λ s. c.in-Ok.root ≡ tree_hash h (take size s.entries))
    (modelled_by_both log) (modelled_both _ log c.law_sound.ensures.view) c.in-Ok.ensures.hash)
    (λ s is. hashed h s (view_of log) size c.in-Ok.root text c.size-size.ensures.value
    c.in_ok-checkpoint_text-in-Ok.ensures is.0 is.1))

pub returns-in_err-checkpoint_text-in-Ok : goal.returns-in_err-checkpoint_text-in-Ok
returns-in_err-checkpoint_text-in-Ok g c =
    let h = g.H.TreeHash.hash in
    let log = c.args.log.now in
    let refused = err_from_is_err_and c.from_residual.result c.from_residual.ensures.1 in
    rw (refused.1, refused.2) (out_of_memory_so c.args.journal.now
    (λ s. checkpoint_reply h s.entries) log c.root_of.new.log
    (asks_stays log c.root_of.new.log (g.met.D.Disk.only_now (log_disk log))
    c.root_of.ensures.asks))
