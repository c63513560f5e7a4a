-- The names of the files of a command, computed from its plan.
use Rattle.std.specs.Prelude.{List, [], ◌∷◌, ◌++◌, Option, None, Some}
use Rattle.std.specs.Option.{option_to_list}
use Rattle.byte_formats.specs.Types.{Text}
use Rattle.command_plans.specs.Kinds.{Kinds}
use Rattle.command_plans.specs.Plans.{Beside, only_reads, changes, Input, Journal, opens, makes}

-- Those that it reads.
abbrev pub input_names : List Input → List Text
input_names [] = []
input_names (input ∷ rest) = input.name ∷ input_names rest

-- Its journals, and of these the ones that it opens and those that it makes.
abbrev pub journal_names : {k : Kinds} → List (Journal k) → List Text
journal_names [] = []
journal_names (opens kind beside name ∷ rest) = name ∷ journal_names rest
journal_names (makes kind name ∷ rest) = name ∷ journal_names rest

abbrev pub opened_names : {k : Kinds} → List (Journal k) → List Text
opened_names [] = []
opened_names (opens kind beside name ∷ rest) = name ∷ opened_names rest
opened_names (makes kind name ∷ rest) = opened_names rest

abbrev pub made_names : {k : Kinds} → List (Journal k) → List Text
made_names [] = []
made_names (opens kind beside name ∷ rest) = made_names rest
made_names (makes kind name ∷ rest) = name ∷ made_names rest

-- The first one that it makes.
abbrev pub first_made : {k : Kinds} → List (Journal k) → Option Text
first_made [] = None
first_made (opens kind beside name ∷ rest) = first_made rest
first_made (makes kind name ∷ rest) = Some name

-- The files beside those that it opens, and of these the ones that it only reads.
abbrev pub beside_names : {k : Kinds} → List (Journal k) → List Text
beside_names [] = []
beside_names {k} (opens kind beside name ∷ rest) =
    option_to_list (k.beside kind name) ++ beside_names rest
beside_names (makes kind name ∷ rest) = beside_names rest

abbrev pub if_only_read : Beside → Option Text → List Text
if_only_read only_reads file = option_to_list file
if_only_read changes file = []

abbrev pub only_read_names : {k : Kinds} → List (Journal k) → List Text
only_read_names [] = []
only_read_names {k} (opens kind beside name ∷ rest) =
    if_only_read beside (k.beside kind name) ++ only_read_names rest
only_read_names (makes kind name ∷ rest) = only_read_names rest
