-- What holds of the texts of a monitor.
use Rattle.std.specs.Prelude.{◌≡◌, ◌⊎◌, ◌^◌, ◌<◌, ◌≤◌, true, List, [], ◌∷◌, ◌++◌, length, Ok}
use Rattle.std.specs.List.{AllByRecursion, flat_map}
use Rattle.byte_formats.specs.Offsets.{IsBytes}
use Rattle.byte_formats.specs.Types.{Text}
use Rattle.tls_wire.specs.Lines.{Lacks}
use Rattle.monitor_core.specs.Reading.{is_domain, most_domains, state_in, watch_in}
use Rattle.monitor_core.specs.Report.{Findings}
use Rattle.monitor_core.specs.States.{IsKept, MonitorState}
use Rattle.monitor_core.specs.Written.{found_text, state_text}
use Rattle.monitor_core.specs.declared.lines.Line.{Line}
use Rattle.monitor_core.specs.declared.lines.Line.TheVariants.{Match, Unread}

-- The index of a line is below 2^64, as a number of 64 bits is.
abbrev pub IsIndexed : Line → Type 0
IsIndexed (Match index name) = index < 2 ^ 64
IsIndexed (Unread index) = index < 2 ^ 64

-- Whole lines: no bytes, or the last one is a newline.
abbrev pub AreWholeLines : Text → Type 0
AreWholeLines text = (text ≡ []) ⊎ ((prefix : Text) × (text ≡ prefix ++ (0x0A ∷ [])))

-- This is the last line of a text.
pub record IsLastLine (text line : Text) : Type 0 where
  pub before : Text
  pub whole : AreWholeLines before
  pub words : Text
  pub one : Lacks 0x0A words
  pub ended : line ≡ words ++ 0x0A ∷ []
  pub last : text ≡ before ++ line

-- The next state file is the text of what was found, or the last line of it.
abbrev pub IsNextState : Text → Text → Type 0
IsNextState printed text = (text ≡ printed) ⊎ IsLastLine printed text

-- The text of what was found is read as the state that was found, and so is the last line of it; a
-- text that is read is whole lines and the line of what was read; and states with one line are one
-- state.
pub record StatesAreReadAsWritten : Type 0 where
  pub again : (found : Findings) → IsKept found.state → AllByRecursion IsIndexed found.lines
      → state_in (found_text found) ≡ Ok found.state
  pub next : (found : Findings) (text : Text) → IsKept found.state
      → AllByRecursion IsIndexed found.lines → IsNextState (found_text found) text
      → state_in text ≡ Ok found.state
  pub read : (text : Text) (state : MonitorState) → IsBytes text → state_in text ≡ Ok state
      → IsKept state
      × ((before : Text) × (text ≡ before ++ state_text state) × AreWholeLines before)
  pub one : (first second : MonitorState) → IsKept first → IsKept second
      → state_text first ≡ state_text second → first ≡ second

-- The line of a watch file.
abbrev pub domain_text : Text → Text
domain_text domain = domain ++ 0x0A ∷ []

abbrev pub IsDomain : Text → Type 0
IsDomain domain = is_domain domain ≡ true

-- Domains that one watch file may hold.
pub record AreWatched (domains : List Text) : Type 0 where
  pub few : length domains ≤ most_domains
  pub each : AllByRecursion IsDomain domains

-- A watch file that is read is the lines of what was read, and the lines of so many domains are
-- read as them.
pub record WatchesAreReadAsWritten : Type 0 where
  pub read : (text : Text) (domains : List Text) → watch_in text ≡ Ok domains
      → AreWatched domains × (text ≡ flat_map domain_text domains)
  pub again : (domains : List Text) → AreWatched domains
      → watch_in (flat_map domain_text domains) ≡ Ok domains
