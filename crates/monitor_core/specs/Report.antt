-- Which names of the entries of a log lie under watched domains.
use Rattle.std.specs.Prelude.{ℕ, ◌+◌, ◌||◌, Bool, nat_eq, List, [], ◌∷◌, ◌++◌, map, filter, Option}
use Rattle.std.specs.Prelude.{Some, None, Result, Ok, Err}
use Rattle.std.specs.List.{ends_with, list_any}
use Rattle.std.specs.Str.{str_eq_ignore_ascii_case, str_to_ascii_lowercase}
use Rattle.byte_formats.specs.Types.{Text}
use Rattle.cert_fields.specs.Extensions.{dns_names_in}
use Rattle.log_entry.specs.Entries.{TbsParts}
use Rattle.log_entry.specs.Reading.{entry_in}
use Rattle.log_entry.specs.declared.fault.EntryError.{EntryError}
use Rattle.monitor_core.specs.States.{MonitorState}
use Rattle.monitor_core.specs.declared.lines.Line.{Line}
use Rattle.monitor_core.specs.declared.lines.Line.TheVariants.{Match, Unread}

-- With A to Z taken as a to z in both, the name is the domain, or ends with a dot and the domain. A
-- wildcard is a label like any other.
abbrev pub is_under : Text → Text → Bool
is_under name domain =
    str_eq_ignore_ascii_case name domain
    || ends_with nat_eq (str_to_ascii_lowercase name) (0x2E ∷ str_to_ascii_lowercase domain)

-- It lies under one of these.
abbrev pub is_watched : List Text → Text → Bool
is_watched watch name = list_any (is_under name) watch

-- The names that do, each as a match of the entry at this index.
abbrev pub matches_of : List Text → ℕ → List Text → List Line
matches_of watch index names = map (λ name. Match index name) (filter (is_watched watch) names)

-- What is said of an entry that was read, or of one that wasn't: of the null entry nothing, of one
-- of type 1 the matches of its dNSNames (RFC 5280, section 4.2.1.6) in their order.
abbrev pub lines_in : List Text → ℕ → Result (Option TbsParts) EntryError → List Line
lines_in watch index (Err fault) = Unread index ∷ []
lines_in watch index (Ok None) = []
lines_in watch index (Ok (Some p)) = matches_of watch index (dns_names_in p.extensions)

-- What is said of the entry at this index.
abbrev pub lines_of : List Text → ℕ → Text → List Line
lines_of watch index entry = lines_in watch index (entry_in entry)

-- What is said of entries in their order, the first of them at this index.
unfoldable pub report_of : List Text → ℕ → List Text → List Line
report_of watch first [] = []
report_of watch first (entry ∷ entries) =
    lines_of watch first entry ++ report_of watch (first + 1) entries

-- What a run found: the lines of the report, and the state that it leaves.
pub record Findings : Type 0 where
  pub lines : List Line
  pub state : MonitorState
