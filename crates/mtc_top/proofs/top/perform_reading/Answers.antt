use Rattle.std.proofs.Common.{[], refl, arith}
use Rattle.disk_core.specs.declared.disk.Disk.{Ghosts as Disks}
use Rattle.mtc_room.specs.declared.room.Room.{Ghosts as Rooms}
use Rattle.mtc_command.proofs.Made.{OnlyNow}
use Rattle.mtc_command.proofs.Served.{answered}
use Rattle.mtc_command.specs.Answers.{Ending, ending_of}
use Rattle.mtc_command.specs.Endings.{Replies}
use Rattle.mtc_command.specs.Served.{HasDone}
use Rattle.mtc_command.specs.Steps.{Outcome}
use Rattle.mtc_drill.specs.Summary.{drill_outcome}
use Rattle.mtc_help.specs.HelpOutcome.{help_outcome, version_outcome}
use Rattle.mtc_monitor.specs.MonitorOutcome.{monitor_init_outcome}
use Rattle.mtc_top.proofs.top.perform_reading.Goals as goal

-- a command that uses no file leaves the file system as it was
used_no_file : {R S D : Type 0} (rooms : Rooms R S D) (disks : Disks D) (only_now : OnlyNow disks)
    (old : R) (wanted : Outcome) (ending : Ending) → Replies wanted.answer ending
    → HasDone rooms disks ⊥ [] [] [] wanted old old ending
used_no_file rooms disks only_now old wanted ending is =
    answered rooms disks [] [] [] wanted old old (record {
      opened = refl;
      later = omega arith;
      is_modelled = λ t. t;
      others = λ name other. record { bytes = refl; disk = refl };
    }) only_now ending wanted.answer (λ t. refl) is

pub returns-in-Drill-clause-done : goal.returns-in-Drill-clause-done
returns-in-Drill-clause-done g c = rw c.in-Drill.is
    (used_no_file g.R.Room g.R.Dsk.Disk g.met.R.Dsk.Disk.only_now c.args.room.now
    (drill_outcome c.in-Drill.number) (ending_of c.drill.result) c.drill.ensures)

pub returns-in-MonitorInit-clause-done : goal.returns-in-MonitorInit-clause-done
returns-in-MonitorInit-clause-done g c = rw c.in-MonitorInit.is
    (used_no_file g.R.Room g.R.Dsk.Disk g.met.R.Dsk.Disk.only_now c.args.room.now
    (monitor_init_outcome c.in-MonitorInit.log) (ending_of c.monitor_init.result)
    c.monitor_init.ensures)

pub returns-in-Help-clause-done : goal.returns-in-Help-clause-done
returns-in-Help-clause-done g c = rw c.in-Help.is
    (used_no_file g.R.Room g.R.Dsk.Disk g.met.R.Dsk.Disk.only_now c.args.room.now help_outcome
    (ending_of c.help.result) c.help.ensures)

pub returns-in-Version-clause-done : goal.returns-in-Version-clause-done
returns-in-Version-clause-done g c = rw c.in-Version.is
    (used_no_file g.R.Room g.R.Dsk.Disk g.met.R.Dsk.Disk.only_now c.args.room.now version_outcome
    (ending_of c.version.result) c.version.ensures)
