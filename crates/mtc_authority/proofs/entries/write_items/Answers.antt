use Rattle.std.proofs.Common.{◌≡◌, ◌∙◌, ◌+◌, ◌++◌, Option, IfSome, refl, subst, arith}
use Rattle.std.proofs.lemmas.Result.{err_from_is_err_and}
use Rattle.entry_list.specs.Items.{file_part, listed_text}
use Rattle.issuance_log.specs.Folds.{LogState}
use Rattle.issuance_log.specs.Staying.{stays_alone, stays_both}
use Rattle.issuance_log.specs.Words.{log_disk, modelled_state}
use Rattle.issuance_log.proofs.Asked.{modelled_stays}
use Rattle.journal_core.proofs.Copies.{grows_more, grows_none, grows_prefix}
use Rattle.mtc_command.specs.Answers.{stop_ending}
use Rattle.mtc_authority.specs.LogOutcomes.{items_of}
use Rattle.mtc_authority.proofs.Listed.{listed_broken, listed_end, listed_part, more_gone}
use Rattle.mtc_authority.proofs.Listed.{none_gone, one_held, some_gone}
use Rattle.mtc_authority.proofs.Replied.{stops_later}
use Rattle.mtc_authority.proofs.entries.write_items.Goals as goal

pub loop-number-init : goal.loop-number-init
loop-number-init g c =
    let log = c.args.log.now in
    record {
      stays = stays_alone log (g.met.D.Disk.only_now _) (g.met.D.Disk.only_now _);
      gone = none_gone (modelled_state log) (g.O.Sink.taken c.args.out.now) c.args.first _
          c.new-held.ensures;
      grows = grows_none (g.O.Sink.taken c.args.out.now);
      fine = refl;
    }

pub loop-number-preserved : goal.loop-number-preserved
loop-number-preserved g c =
    let so_far = c.loop-number.invariant in
    let taken = g.O.Sink.taken in
    let old = c.args.log.now in
    let log = c.loop-number.log in
    let before = taken c.args.out.now in
    let now = taken c.loop-number.out in
    let then = taken c.pass_on.new.out in
    let first = c.args.first in
    let n = c.loop-number.number in
    record {
      stays = stays_both _ _ _ so_far.stays c.put_item.ensures.stays;
      gone = more_gone before first (n + 1) (modelled_state old) now then c.put_item.new.out
          c.pass_on.new.held
          (one_held before first n (modelled_state old) now c.loop-number.held c.put_item.new.out
          so_far.gone (subst (λ (o : Option LogState). IfSome o (λ s.
          c.put_item.new.out ≡ c.loop-number.held ++ listed_text (items_of s) (first + n)))
          (modelled_stays old log so_far.stays) c.in_ok-put_item.ensures.text))
          c.in-Ok.ensures.passed;
      grows = grows_more before now then so_far.grows
          (grows_prefix now then c.put_item.new.out c.pass_on.ensures.prefix);
      fine = c.in-Ok.ensures.cause.fine ∙ so_far.fine;
    }

pub returns-in_err-put_item-clause-stays : goal.returns-in_err-put_item-clause-stays
returns-in_err-put_item-clause-stays g c =
    stays_both _ _ _ c.loop-number.invariant.stays c.put_item.ensures.stays

pub returns-in_err-put_item-clause-streams : goal.returns-in_err-put_item-clause-streams
returns-in_err-put_item-clause-streams g c =
    let so_far = c.loop-number.invariant in
    let faults = g.D.Disk.faults in
    let old = c.args.log.now in
    let refused = err_from_is_err_and c.from_residual.result c.from_residual.ensures.1 in
    rw (refused.1, refused.2) (listed_broken g.O.Sink c.args.journal.now old c.put_item.new.log
    (stays_both _ _ _ so_far.stays c.put_item.ensures.stays) c.args.out.now c.loop-number.out
    so_far.grows (λ s. file_part (items_of s) c.args.first c.args.count)
    (some_gone _ c.args.first c.loop-number.number c.args.count (omega arith)
    (modelled_state old) _ c.loop-number.held so_far.gone) so_far.fine
    c.in_err-put_item.field-0.0
    (stops_later (faults (log_disk old)) (faults (log_disk c.loop-number.log))
    (faults (log_disk c.put_item.new.log)) c.args.journal.now so_far.stays.only_reads.faults
    (stop_ending c.in_err-put_item.field-0.0) c.in_err-put_item.ensures.stops))

pub returns-in-Err-clause-stays : goal.returns-in-Err-clause-stays
returns-in-Err-clause-stays g c =
    stays_both _ _ _ c.loop-number.invariant.stays c.put_item.ensures.stays

pub returns-in-Err-clause-streams : goal.returns-in-Err-clause-streams
returns-in-Err-clause-streams g c =
    let so_far = c.loop-number.invariant in
    let taken = g.O.Sink.taken in
    let old = c.args.log.now in
    let log = c.loop-number.log in
    let before = taken c.args.out.now in
    let now = taken c.loop-number.out in
    let then = taken c.pass_on.new.out in
    let first = c.args.first in
    let n = c.loop-number.number in
    listed_part g.O.Sink c.args.journal.now old c.put_item.new.log
    (stays_both _ _ _ so_far.stays c.put_item.ensures.stays) c.args.out.now c.loop-number.out
    c.pass_on.new.out
    (grows_more before now then so_far.grows
    (grows_prefix now then c.put_item.new.out c.pass_on.ensures.prefix)) first c.args.count (n + 1)
    c.put_item.new.out
    (one_held before first n (modelled_state old) now c.loop-number.held c.put_item.new.out
    so_far.gone (subst (λ (o : Option LogState). IfSome o (λ s.
    c.put_item.new.out ≡ c.loop-number.held ++ listed_text (items_of s) (first + n)))
    (modelled_stays old log so_far.stays) c.in_ok-put_item.ensures.text))
    (omega arith) c.pass_on.ensures.prefix c.in-Err.ensures.some
    (omega (arith, so_far.fine)) c.in-Err.ensures.cause.failed _

pub returns-clause-streams : goal.returns-clause-streams
returns-clause-streams g c =
    let so_far = c.loop-number.invariant in
    let taken = g.O.Sink.taken in
    let old = c.args.log.now in
    let before = taken c.args.out.now in
    let now = taken c.loop-number.out in
    let then = taken c.pass_on-2.new.out in
    let passed = c.pass_on-2.ensures in
    listed_end g.O.Sink c.args.journal.now old c.loop-number.log so_far.stays c.args.out.now
    c.loop-number.out c.pass_on-2.new.out
    (grows_more before now then so_far.grows
    (grows_prefix now then c.loop-number.held passed.prefix)) c.args.first c.args.count
    c.loop-number.number c.loop-number.held so_far.gone (omega arith)
    (omega (arith, so_far.fine)) c.pass_on-2.result c.pass_on-2.new.held passed.passed passed.few
    passed.some passed.prefix passed.cause
