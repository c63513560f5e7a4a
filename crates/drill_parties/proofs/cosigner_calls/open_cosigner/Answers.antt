use Rattle.std.proofs.Common.{ap, option_map, ◌∙◌}
use Rattle.journal_core.specs.Format.{records_of}
use Rattle.cosigner_core.specs.Folds.{cosigner_fold}
use Rattle.cosigner_core.specs.Words.{cosigner_records, cosigner_state}
use Rattle.drill_parties.proofs.Opened.{found_on}
use Rattle.drill_parties.proofs.cosigner_calls.open_cosigner.Goals as goal

pub returns-in-Ok : goal.returns-in-Ok
returns-in-Ok g c =
    let opened = c.in-Ok.ensures.opened in record {
      sound = opened.sound;
      found = found_on (cosigner_fold g.H.TreeHash.hash) (g.D.Disk.contents c.args.disk)
          (cosigner_records c.in-Ok.cosigner) (cosigner_state c.in-Ok.cosigner)
          (opened.list ∙ ap (option_map records_of) opened.only_reads.contents) opened.found;
      valid = opened.valid;
      crash_states = opened.all;
      list = opened.list;
      holds = opened.stands;
    }
