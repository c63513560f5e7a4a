-- What comes of a command over any files: one of six outcomes.
use Rattle.std.specs.Prelude.{◌≡◌, ◌⊎◌, codes, None, Some}
use Rattle.byte_formats.specs.Types.{Text}
use Rattle.mtc_command.specs.Endings.{IsNamed}
use Rattle.mtc_command.specs.Steps.{Files, Outcome, stops_at}
use Rattle.mtc_command.specs.declared.answer.Stopped.TheVariants.{BadForm, Beyond, Missing}
use Rattle.command_plans.specs.Found.{AnyIsRefused, AreFound, AreRead, IsTooLong}
use Rattle.command_plans.specs.Kinds.{Kinds}
use Rattle.command_plans.specs.Names.{input_names, made_names, opened_names}
use Rattle.command_plans.specs.Outcomes.{deed_outcome}
use Rattle.command_plans.specs.Plans.{Deed, Finds, Plan, Read, ReadAll, misreads, works}

-- An outcome comes of a plan over some files: one of the files stops the command, in one of five
-- ways, or all are read, opened and found, and the work has its outcome.
pub data Comes {k : Kinds} (plan : Plan k) (files : Files) : Outcome → Type 0 where
  -- A file that it reads, or a journal that it opens, isn't there.
  absent : (file : Text)
      → IsNamed (input_names plan.inputs) file ⊎ IsNamed (opened_names plan.journals) file
      → files file ≡ None → Comes plan files (stops_at Missing file (codes "Absent"))
  -- A file that it reads has too many bytes.
  too_long : (file : Text) → IsTooLong files plan.inputs file
      → Comes plan files (stops_at Beyond file (codes "TooLong"))
  -- A journal that it makes is there.
  exists : (file bytes : Text) → IsNamed (made_names plan.journals) file
      → files file ≡ Some bytes → Comes plan files (stops_at Missing file (codes "Exists"))
  -- All its files are read, and one of them isn't in its form.
  misread : (reads : ReadAll plan.inputs) → AreRead files plan.inputs plan.inputs reads
      → (read : Read plan.inputs) (reason : Text) → plan.steps reads ≡ misreads read reason
      → Comes plan files (stops_at BadForm read.file.name reason)
  -- A journal that it opens is none of its kind, or the file beside it lacks something.
  no_party : (file reason : Text) → AnyIsRefused k files plan.journals file reason
      → Comes plan files (stops_at BadForm file reason)
  -- All its files are read and in their forms, its journals are found, and it does its work.
  does : (reads : ReadAll plan.inputs) → AreRead files plan.inputs plan.inputs reads
      → (say : Finds plan.journals → Deed plan.journals) → plan.steps reads ≡ works say
      → (founds : Finds plan.journals) → AreFound k files plan.journals founds
      → Comes plan files (deed_outcome plan.journals founds (say founds))
