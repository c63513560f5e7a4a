use Rattle.std.proofs.Common.{◌≡◌, ◌∙◌, sym, subst}
use Rattle.disk_core.specs.declared.memory.mem_disk.MemDisk.{MemDisk}
use Rattle.std.specs.Prelude.{Option, IfSome}
use Rattle.issuance_log.specs.Folds.{LogState, view_in}
use Rattle.issuance_log.specs.Words.{view_of}
use Rattle.drill_core.specs.LogParties.{log_shown}
use Rattle.drill_core.specs.Parties.{IsLogDisk}
use Rattle.drill_parties.specs.Disks.{records_on}
use Rattle.drill_core.proofs.log.fused.Goals as goal

pub returns-clause-state : goal.returns-clause-state
returns-clause-state g c =
    let stands : IsLogDisk g.H.TreeHash.hash (log_shown c.args.party) c.new-fuse.result.disk =
    subst (λ (d : MemDisk). IsLogDisk g.H.TreeHash.hash (log_shown c.args.party) d)
    (sym (c.new-fuse.ensures.disk ∙ c.into_disks-disk.ensures.journal)) c.args.party.stands in
    let found = c.in_ok-log.ensures.found (records_on c.new-fuse.result.disk)
    (log_shown c.args.party) stands.holds stands.valid in
    record {
      sound = c.in_ok-log.ensures.sound;
      state = found.1;
      view = subst (λ (o : Option LogState). IfSome o (λ s. view_in s ≡ view_of c.in_ok-log.log))
          found.1 c.law_sound.ensures.view;
      list = records_on c.new-fuse.result.disk;
      records = found.0;
      valid = stands.valid;
    }
