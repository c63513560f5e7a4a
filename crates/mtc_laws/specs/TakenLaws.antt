-- The line of `mirror-take`: what it says, and what becomes of the items that it counts.
use Rattle.std.specs.Prelude.{◌≡◌, ℕ, ◌<◌, ◌≤◌, List, ◌++◌, length, take, Ok}
use Rattle.byte_formats.specs.Types.{HashFunction, Text}
use Rattle.entry_list.specs.Items.{ItemLists}
use Rattle.entry_list.specs.Reading.{items_in}
use Rattle.file_events.specs.Events.{MayRecover}
use Rattle.file_events.specs.Executions.{IsPrefix}
use Rattle.file_events.specs.Owners.{did_to}
use Rattle.file_events.specs.Worlds.{EachRun, Program, states_of}
use Rattle.mirror_core.specs.Folds.{MirrorState, mirror_of}
use Rattle.mirror_core.specs.Records.{mirrored_by}
use Rattle.mirror_core.specs.Refusals.{pairs_of}
use Rattle.mtc_command.specs.Made.{appended}
use Rattle.mtc_mirror.specs.MirrorOutcomes.{mirrored_line}
use Rattle.mtc_words.specs.Commands.{mirror_take}
use Rattle.party_history.specs.declared.start.PartyStart.TheVariants.{Mirror}
use Rattle.mtc_laws.specs.AuditLaws.{HoldsText}
use Rattle.mtc_laws.specs.ExecutionLaws.{OfExecutions}
use Rattle.mtc_laws.specs.PrintLaws.{OfEachRun, OfHeard}
use Rattle.mtc_top.specs.Executions.{HasPrinted, Run}

module _ (h : HashFunction) (p : Program) where
  -- The run read a list of items from this file, and added a record to a mirror with these records.
  -- What went out is a size. The mirror's items, with those of the record, are so many of the first
  -- items of the list, and more than the mirror had.
  pub record HasMirrored (name file : Text) (old : p.R) (run : Run p.R p.O p.E) : Type 0 where
    pub text : Text
    pub has_text : HoldsText (p.rooms.file old) file 8589934592 text
    pub items : ItemLists
    pub items_read : items_in h text ≡ Ok items
    pub list : List Text
    pub state : MirrorState
    pub mirror_is : mirror_of h list ≡ Ok state
    pub body : Text
    pub did : did_to p name old run ≡ appended list body
    pub size : ℕ
    pub above : length state.items < size
    pub within : size ≤ length (pairs_of items)
    pub are_first : state.items ++ mirrored_by body ≡ take size (pairs_of items)
    pub printed : HasPrinted p run (mirrored_line size)

  -- So has each run of `mirror-take` that did its work, or of which a byte may have gone out.
  abbrev pub MirroredSizesArePrinted : Type 0
  MirroredSizesArePrinted = (name file : Text)
      → OfEachRun h p (OfHeard h p (mirror_take name file) (HasMirrored name file))

  -- The first items of the mirror of these records are the first ones of the list, as many as went
  -- out: each has the same index in both.
  pub record AreInMirror (name file : Text) (old : p.R) (run : Run p.R p.O p.E) (found : List Text)
      : Type 0 where
    pub mirrored : HasMirrored name file old run
    pub mirror : MirrorState
    pub mirror_is : mirror_of h found ≡ Ok mirror
    pub at_indices : IsPrefix (take mirrored.size (pairs_of mirrored.items)) mirror.items

  -- For each run of an execution: this holds of each mirror with which the journal may be
  -- recovered.
  abbrev pub TakenItemsStand : Type 0
  TakenItemsStand = OfExecutions h p (λ name start first old events new.
      (log file : Text) (found : List Text) → start ≡ Mirror log
      → MayRecover (states_of p name new) found
      → EachRun p (OfHeard h p (mirror_take name file) (λ old run.
      AreInMirror name file old run found)) old events)
