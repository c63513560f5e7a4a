-- Parts of plans that several commands share.
use Rattle.std.specs.Prelude.{ℕ, nat_lt, List, [], ◌∷◌, ◌++◌, length, codes, Option, None, Some}
use Rattle.std.specs.Prelude.{if◌then◌else◌}
use Rattle.std.specs.Fmt.{decimal}
use Rattle.byte_formats.specs.Types.{Text}
use Rattle.mtc_command.specs.declared.answer.Said.TheVariants.{Against, Done}
use Rattle.command_plans.specs.Kinds.{Kinds}
use Rattle.command_plans.specs.Plans.{Beside, Deed, Input, Journal, Judged, Read, Step, forbids}
use Rattle.command_plans.specs.Plans.{makes, misreads, opens, prints}

-- ---- inputs

-- A file of at most 16 MiB, and a list of at most 8 GiB.
abbrev pub small_file : Text → Input
small_file name = record { limit = 16777216; name = name }

abbrev pub list_file : Text → Input
list_file name = record { limit = 8589934592; name = name }

-- ---- judgements

-- A judgement against, for this reason.
abbrev pub prints_against : Text → Judged
prints_against reason = prints Against (codes "refused " ++ (reason ++ codes "\n"))

-- A text, unless it is refused for a reason that is judged so.
abbrev pub prints_unless : {E : Type 0} → (E → Judged) → Option E → Text → Judged
prints_unless judged None text = prints Done text
prints_unless judged (Some why) text = judged why

-- The asked size is above that of the log.
abbrev pub beyond_size : ℕ → Judged
beyond_size size = forbids (codes "Beyond " ++ decimal size)

-- ---- deeds on one journal

-- What is answered over an open journal, and the record that is added to it, if one is.
abbrev pub StepReport : Type 0
StepReport = Judged × Option Text

-- A record more and its text, unless it is refused for a reason that is judged so.
abbrev pub added_by : {E : Type 0} → (E → Judged) → Text → Text → Option E → StepReport
added_by judged body text None = (prints Done text, Some body)
added_by judged body text (Some why) = (judged why, None)

abbrev pub deed_on : {k : Kinds} {kind : k.Kind} {beside : Beside} {name : Text} → StepReport
    → Deed {k = k} (opens kind beside name ∷ [])
deed_on reported = record { answer = reported.0; does = (reported.1, tt) }

-- A new journal with this first record.
abbrev pub deed_new : {k : Kinds} {kind : k.Kind} {name : Text} → Text → Judged
    → Deed {k = k} (makes kind name ∷ [])
deed_new body judged = record { answer = judged; does = (body, tt) }

-- ---- forms

-- A secret file has 48 bytes: 16 of identifier and 32 of seed.
abbrev pub in_secret : {k : Kinds} {inputs : List Input} {journals : List (Journal k)}
    → Read inputs → Step inputs journals → Step inputs journals
in_secret secret next =
    if nat_lt (length secret.text) 48 then misreads secret (codes "Short " ++ decimal 0)
    else (if nat_lt 48 (length secret.text) then misreads secret (codes "Trailing") else next)
