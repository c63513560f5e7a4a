-- The outcome of `trust-landmarks LIST MAXACTIVE ENTRIES`: the tables of a store that trusts the
-- subtrees of the active landmarks.
use Rattle.std.specs.Prelude.{ℕ, List, [], ◌++◌, length, map, codes, Option, None, Some}
use Rattle.std.specs.Fmt.{decimal}
use Rattle.std.specs.List.{concat, range_with_len}
use Rattle.byte_formats.specs.Types.{Hash, HashFunction, Text}
use Rattle.hex.specs.Hex.{encode_lower}
use Rattle.entry_list.specs.Reading.{items_in}
use Rattle.landmarks.specs.Landmarks.{LandmarkList, active_count, active_of, subtrees_of}
use Rattle.landmarks.specs.Texts.{list_of}
use Rattle.tree_core.specs.Path.{part_of}
use Rattle.tree_core.specs.Tree.{tree_hash}
use Rattle.tree_core.specs.declared.spans.Cover.{Cover}
use Rattle.tree_core.specs.declared.spans.Span.{Span}
use Rattle.mtc_command.specs.declared.answer.Said.TheVariants.{Done}
use Rattle.mtc_command.specs.Steps.{Outcome, Files, says, with_bytes, with_form}
use Rattle.entry_list.specs.Reasons.{items_fault_text}
use Rattle.landmarks.specs.Reasons.{list_fault_text}

-- ---- what is trusted, where the log has these entries

-- The table of a subtree with this tree hash: its interval, the hash and an empty line.
abbrev pub table_text : Span → Hash → Text
table_text span hash = codes "[[subtree]]\nstart = " ++ (decimal span.start
    ++ (codes "\nend = " ++ (decimal span.end ++ (codes "\nhash = \""
    ++ (encode_lower hash ++ codes "\"\n\n")))))

-- The same with the tree hash of its entries.
abbrev pub subtree_table : HashFunction → List Text → Span → Text
subtree_table h entries span =
    table_text span (tree_hash h (part_of entries span.start span.end))

abbrev pub second_table : HashFunction → List Text → Option Span → Text
second_table h entries None = []
second_table h entries (Some span) = subtree_table h entries span

-- Those of a landmark: of its one subtree, or of its two.
abbrev pub cover_tables : HashFunction → List Text → Cover → Text
cover_tables h entries cover =
    subtree_table h entries cover.first ++ second_table h entries cover.second

abbrev pub landmark_tables : HashFunction → List Text → LandmarkList → ℕ → Text
landmark_tables h entries l number = cover_tables h entries (subtrees_of l number)

-- Those of so many of the active landmarks, from the oldest on.
abbrev pub tables_of : HashFunction → List Text → LandmarkList → ℕ → Text
tables_of h entries l count =
    concat (map (landmark_tables h entries l) (range_with_len (active_of l).start count))

-- Those of all of them.
abbrev pub trust_text : HashFunction → List Text → LandmarkList → Text
trust_text h entries l = tables_of h entries l (active_count l)

-- ---- the command

-- The list is read, of landmarks at no larger size than the number of these entries.
abbrev pub list_says : HashFunction → Text → ℕ → Text → List Text → Outcome
list_says h list most text entries =
    with_form list_fault_text list (list_of text most (length entries))
    (λ l. says Done (trust_text h entries l))

-- The entries are read, and then the list.
abbrev pub trust_says : HashFunction → Text → ℕ → Text → Text → Text → Outcome
trust_says h list most entries text bytes =
    with_form items_fault_text entries (items_in h bytes)
    (λ items. list_says h list most text items.entries)

-- The outcome of `trust-landmarks LIST MAXACTIVE ENTRIES`: the list is read, at most 16 MiB of it,
-- and then the entries, at most 8 GiB.
abbrev pub trust_outcome : HashFunction → Text → ℕ → Text → Files → Outcome
trust_outcome h list most entries files = with_bytes 16777216 list (files list)
    (λ text. with_bytes 8589934592 entries (files entries)
    (λ bytes. trust_says h list most entries text bytes))
