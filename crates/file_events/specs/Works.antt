-- What a run leaves of all its files at once.
use Rattle.std.specs.Prelude.{◌⊎◌, Bool, true, false, List, [], ◌∷◌}
use Rattle.byte_formats.specs.Types.{Text}
use Rattle.disk_core.specs.Disk.{NoNew}
use Rattle.file_events.specs.Events.{CrashStates, Done, HalfDone, Journaled}
use Rattle.file_events.specs.Tiles.{LeavesTiles, TilesWork}

-- The crash states of all files.
abbrev pub AllStates : Type 1
AllStates = Text → CrashStates

-- A file of a run, and what is left of it by what is left of all: where the run came to its end,
-- and where it broke off and had begun to work on its files.
pub record Work : Type 1 where
  pub name : Text
  pub Whole : AllStates → AllStates → Type 0
  pub Half : AllStates → AllStates → Type 0

abbrev pub EachWork : (Work → Type 0) → List Work → Type 0
EachWork P [] = Unit {0}
EachWork P (work ∷ rest) = P work × EachWork P rest

-- A run that came to its end leaves of each file what it had to leave. One that broke off leaves
-- nothing new of any of its files, or it had begun to work on all of them: a choice for each file
-- by itself isn't enough.
abbrev pub LeavesAll : Bool → List Work → AllStates → AllStates → Type 0
LeavesAll false works before now = EachWork (λ (work : Work). work.Whole before now) works
LeavesAll true works before now =
    EachWork (λ (work : Work). NoNew (before work.name) (now work.name)) works
    ⊎ EachWork (λ (work : Work). work.Half before now) works

-- A journal with these rules.
abbrev pub journal_work : (List Text → Type 0) → Text → Journaled → Work
journal_work Valid name did = record {
  name = name;
  Whole = λ before now. Done Valid did (before name) (now name);
  Half = λ before now. HalfDone Valid did (before name) (now name);
}

-- The file of the tiles of the journal of a name.
abbrev pub tiles_work : (List Text → Text → Type 0) → (List Text → Text → Type 0) → Text → Text
    → Journaled → TilesWork → Work
tiles_work goes Plain journal name did how = record {
  name = name;
  Whole = λ before now. LeavesTiles goes Plain how did (before name) (now journal) (now name);
  Half = λ before now. LeavesTiles goes Plain how did (before name) (now journal) (now name);
}
