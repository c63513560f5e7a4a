-- The outcome of `mirror-take` over the files of the file system: the items first, then the
-- journal; and those of `mirror-tile` and `mirror-entries`.
use Rattle.std.specs.Prelude.{ℕ, Option, Some}
use Rattle.byte_formats.specs.Types.{HashFunction, Text}
use Rattle.entry_list.specs.Reading.{items_in}
use Rattle.entry_list.specs.Reasons.{items_fault_text}
use Rattle.entry_list.specs.declared.error.ItemsError.{ItemsError}
use Rattle.entry_list.specs.declared.error.ItemsError.TheVariants as items_error
use Rattle.mirror_core.specs.Refusals.{pairs_of}
use Rattle.mtc_command.specs.Answers.{Ending, no_memory, refused, replied, tiles_name}
use Rattle.mtc_command.specs.Steps.{Files, Outcome, with_bytes, with_form}
use Rattle.mtc_command.specs.declared.answer.Stopped.TheVariants.{BadForm}
use Rattle.mtc_mirror.specs.MirrorOutcomes.{mirror_entries_says, mirror_tile_says, take_says}
use Rattle.mtc_mirror.specs.Works.{mirror_outcome}

-- What comes of a file that isn't a list of items, unless memory was refused.
abbrev pub items_ending : Text → ItemsError → Ending
items_ending file items_error.Memory = no_memory
items_ending file why = replied (refused BadForm (Some file) (items_fault_text why))

-- The items are read, and then the mirror takes them.
abbrev pub mirrored_say : HashFunction → Text → Text → Option Text → Option Text → Text → Outcome
mirrored_say h journal entries file tiles bytes =
    with_form items_fault_text entries (items_in h bytes)
    (λ items. mirror_outcome h journal file tiles (take_says (pairs_of items)))

-- The outcome of `mirror-take M ENTRIES`: the items are read, at most 8 GiB of them.
abbrev pub mirror_take_outcome : HashFunction → Text → Text → Files → Outcome
mirror_take_outcome h journal entries files = with_bytes 8589934592 entries (files entries)
    (mirrored_say h journal entries (files journal) (files (tiles_name journal)))

-- The outcome of `mirror-tile M`.
abbrev pub mirror_tile_outcome : HashFunction → Text → Files → Outcome
mirror_tile_outcome h journal files =
    mirror_outcome h journal (files journal) (files (tiles_name journal)) mirror_tile_says

-- The outcome of `mirror-entries M SIZE`.
abbrev pub mirror_entries_outcome : HashFunction → Text → ℕ → Files → Outcome
mirror_entries_outcome h journal size files = mirror_outcome h journal (files journal)
    (files (tiles_name journal)) (mirror_entries_says size)
