-- What `drill NUMBER` prints: eight lines.
use Rattle.std.specs.Prelude.{ℕ, zero, suc, ◌+◌, ◌++◌, ◌||◌, Bool, [], length, codes, bytes_eq}
use Rattle.std.specs.Fmt.{decimal}
use Rattle.byte_formats.specs.Types.{Text}
use Rattle.drill_parties.specs.Rounds.{drill_of}
use Rattle.drill_core.specs.declared.made.Counts.{Counts}
use Rattle.mtc_command.specs.Steps.{Outcome}
use Rattle.mtc_command.specs.Wanted.{formed}
use Rattle.mtc_command.specs.declared.answer.Said.TheVariants.{Done}

-- A line of a name and a number.
abbrev pub numbered_line : Text → ℕ → Text
numbered_line name number = name ++ (codes " " ++ (decimal number ++ codes "\n"))

-- The lines of a drill that came to these numbers.
unfoldable pub summary_text : ℕ → Counts → Text
summary_text number c =
    numbered_line (codes "drill") number ++ (numbered_line (codes "entries") c.entries
    ++ (numbered_line (codes "landmarks") c.landmarks
    ++ (numbered_line (codes "signatures") c.signatures
    ++ (numbered_line (codes "stops") c.stops ++ (numbered_line (codes "verified") c.verified
    ++ (numbered_line (codes "stands") c.stands ++ numbered_line (codes "light") c.light))))))

-- What the drill with a number comes to, with so many signatures: entries, landmarks and stops are
-- those that are drawn. All sixteen certificates are accepted, all forty-eight audits find the
-- entry, and so many certificates without signatures are accepted as there are landmarks.
abbrev pub counts_with : ℕ → ℕ → Counts
counts_with number signatures = record {
  entries = (drill_of number).size;
  landmarks = length (drill_of number).marks;
  signatures = signatures;
  stops = (drill_of number).stops;
  verified = 16;
  stands = 48;
  light = length (drill_of number).marks;
}

-- The summary with so many signatures, or with one of the next so many numbers of them.
abbrev pub is_summary_from : ℕ → Text → ℕ → ℕ → Bool
is_summary_from number text signatures zero =
    bytes_eq text (summary_text number (counts_with number signatures))
is_summary_from number text signatures (suc more) =
    bytes_eq text (summary_text number (counts_with number signatures))
    || is_summary_from number text (signatures + 1) more

-- Three cosigners sign sixteen times, and at most once more for each stop.
abbrev pub is_summary : ℕ → Text → Bool
is_summary number text = is_summary_from number text 48 (drill_of number).stops

-- The outcome of `drill NUMBER`: any such summary.
abbrev pub drill_outcome : ℕ → Outcome
drill_outcome number = record { answer = formed Done (is_summary number); journals = [] }
