use Rattle.std.proofs.Common.{ap, option_map, ◌∙◌}
use Rattle.journal_core.specs.Format.{records_of}
use Rattle.issuance_log.specs.Folds.{log_fold}
use Rattle.issuance_log.specs.Shown.{shown_with}
use Rattle.issuance_log.specs.Words.{log_records, view_of}
use Rattle.drill_core.proofs.Opened.{found_modelled}
use Rattle.drill_core.proofs.calls.open_log.Goals as goal

pub returns-in-Ok : goal.returns-in-Ok
returns-in-Ok g c =
    let opened = c.in-Ok.ensures.opened in
    record {
      sound = opened.sound;
      found = found_modelled (log_fold g.H.TreeHash.hash) (g.D.Disk.contents c.args.disk)
          (log_records c.in-Ok.log) (shown_with (view_of c.in-Ok.log))
          (opened.list ∙ ap (option_map records_of) opened.only_reads.contents) opened.found;
      valid = opened.valid;
      crash_states = opened.all;
    }
