-- The device of a journal that is there was opened as that of any file is.
use Rattle.std.proofs.Common.{ℕ, List, Option, IsSome, subst, sym, ◌∙◌}
use Rattle.std.specs.Option.{IsSomeAnd}
use Rattle.disk_core.specs.declared.disk.Disk.{Ghosts}
use Rattle.disk_core.specs.Same.{SameDevice}
use Rattle.mtc_room.specs.declared.room.Room.{Ghosts as Rooms}
use Rattle.mtc_command.specs.Works.{HasOpened, HasOpenedBeside}
use Rattle.command_plans.proofs.Devices.{there_not}

pub opened_beside : {R S D : Type 0} (rooms : Rooms R S D) (g : Ghosts D) (name : List ℕ)
    (old new : R) (disk : D) → HasOpened rooms g name old new disk
    → HasOpenedBeside rooms g name old new disk
opened_beside {R} {S} {D} rooms g name old new disk is = record {
  opened = is.opened;
  fine = is.fine;
  is_modelled = is.is_modelled;
  others = λ other differs. is.stay other;
  kept = λ t there. is.stay name;
  made = λ t none. absurd (there_not (rooms.file old name) (is.bytes t).there none);
  begins = is.begins;
  bytes = λ t. record {
    there = subst IsSome (sym (is.stay name).bytes) (is.bytes t).there;
    same = (is.bytes t).same ∙ sym (is.stay name).bytes;
  };
  device = λ t. subst (λ (o : Option D). IsSomeAnd o (λ d. SameDevice g d disk))
      (sym (is.stay name).disk) (is.device t);
  only = λ t none. absurd (there_not (rooms.file old name) (is.bytes t).there none);
  time = λ t none. absurd (there_not (rooms.file old name) (is.bytes t).there none);
}
