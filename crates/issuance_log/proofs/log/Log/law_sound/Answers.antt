use Rattle.std.proofs.Common.{◌≡◌}
use Rattle.issuance_log.specs.Counted.{log_keeps}
use Rattle.issuance_log.specs.Folds.{view_in}
use Rattle.issuance_log.specs.Sound.{IsSound}
use Rattle.issuance_log.specs.Words.{log_records, view_of}
use Rattle.issuance_log.proofs.Rereading.{shown_of}
use Rattle.issuance_log.proofs.Shown.{shown_view}
use Rattle.issuance_log.proofs.log.Log.law_sound.Goals as goal

pub returns-clause-view : goal.returns-clause-view
returns-clause-view g c =
    let log = c.args.self.now in
    shown_of (view_of log) (λ s. view_in s ≡ view_of log) (log_records log) (log_keeps log)
    (λ list is. shown_view (view_of log) list is.all)

pub returns-clause-items : goal.returns-clause-items
returns-clause-items g c =
    let log = c.args.self.now in
    shown_of (view_of log) (IsSound g.H.TreeHash.hash) (log_records log) (log_keeps log)
    (λ list is. is.sound)
