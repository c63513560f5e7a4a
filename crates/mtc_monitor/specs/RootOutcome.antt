-- The outcome of `root ENTRIES`: the number of the entries, and their tree hash.
use Rattle.std.specs.Prelude.{length}
use Rattle.byte_formats.specs.Types.{HashFunction, Text}
use Rattle.entry_list.specs.Items.{ItemLists}
use Rattle.entry_list.specs.Reading.{items_in}
use Rattle.tree_core.specs.Tree.{tree_hash}
use Rattle.mtc_command.specs.declared.answer.Said.TheVariants.{Done}
use Rattle.mtc_command.specs.Steps.{Outcome, Files, says, with_bytes, with_form}
use Rattle.mtc_lines.specs.CheckpointLines.{checkpoint_lines}
use Rattle.entry_list.specs.Reasons.{items_fault_text}

-- What is printed of a list of items.
abbrev pub root_text : HashFunction → ItemLists → Text
root_text h items = checkpoint_lines (length items.entries) (tree_hash h items.entries)

-- The entries are read.
abbrev pub root_says : HashFunction → Text → Text → Outcome
root_says h entries bytes = with_form items_fault_text entries (items_in h bytes)
    (λ items. says Done (root_text h items))

-- The outcome of `root ENTRIES`: at most 8 GiB is read of the file.
abbrev pub root_outcome : HashFunction → Text → Files → Outcome
root_outcome h entries files =
    with_bytes 8589934592 entries (files entries) (root_says h entries)
