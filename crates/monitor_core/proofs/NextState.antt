-- The text that the next run takes is read as the state of the last one.
use Rattle.std.proofs.Common.{◌≡◌, ℕ, ◌+◌, ◌<◌, ◌≤◌, ◌^◌, List, [], ◌∷◌, ◌++◌, length, codes}
use Rattle.std.proofs.Common.{decimal}
use Rattle.std.proofs.Common.{refl, sym, ap, ◌∙◌, inl, inr, append_assoc, arith, Option, Some, None}
use Rattle.std.proofs.Common.{Result, Ok, Err}
use Rattle.std.specs.Prelude.{map, filter}
use Rattle.std.specs.List.{AllByRecursion, flat_map, list_all}
use Rattle.std.proofs.lemmas.Bool.{cond_both}
use Rattle.hex.specs.Hex.{encode_lower}
use Rattle.byte_formats.specs.Types.{Text}
use Rattle.cert_fields.specs.Extensions.{dns_names_in}
use Rattle.log_entry.specs.Entries.{TbsParts}
use Rattle.log_entry.specs.Reading.{entry_in}
use Rattle.log_entry.specs.declared.fault.EntryError.{EntryError}
use Rattle.monitor_core.proofs.Again.{found_again, state_again, state_line}
use Rattle.monitor_core.proofs.LastLine.{one_last, unended, whole_append}
use Rattle.monitor_core.specs.Reading.{state_in}
use Rattle.monitor_core.specs.Report.{Findings, is_watched, lines_in, lines_of, report_of}
use Rattle.monitor_core.specs.States.{IsKept}
use Rattle.monitor_core.specs.TextLaws.{AreWholeLines, IsIndexed, IsNextState}
use Rattle.monitor_core.specs.Written.{found_text, is_visible, line_text}
use Rattle.monitor_core.specs.declared.lines.Line.{Line}
use Rattle.monitor_core.specs.declared.lines.Line.TheVariants.{Match, Unread}

-- ---- the lines of a report

matches_indexed : (index : ℕ) (names : List Text) → index < 2 ^ 64
    → AllByRecursion IsIndexed (map (λ name. Match index name) names)
matches_indexed index [] small = tt
matches_indexed index (name ∷ names) small = (small, matches_indexed index names small)

all_both : (xs ys : List Line) → AllByRecursion IsIndexed xs → AllByRecursion IsIndexed ys
    → AllByRecursion IsIndexed (xs ++ ys)
all_both [] ys one other = other
all_both (x ∷ xs) ys one other = (one.0, all_both xs ys one.1 other)

lines_indexed : (watch : List Text) (index : ℕ) (r : Result (Option TbsParts) EntryError)
    → index < 2 ^ 64 → AllByRecursion IsIndexed (lines_in watch index r)
lines_indexed watch index (Err fault) small = (small, tt)
lines_indexed watch index (Ok None) small = tt
lines_indexed watch index (Ok (Some p)) small =
    matches_indexed index (filter (is_watched watch) (dns_names_in p.extensions)) small

pub report_indexed : (watch : List Text) (first : ℕ) (entries : List Text)
    → first + length entries ≤ 2 ^ 64 → AllByRecursion IsIndexed (report_of watch first entries)
unfolding report_of
report_indexed watch first [] few = tt
report_indexed watch first (entry ∷ entries) few =
    all_both (lines_of watch first entry) (report_of watch (first + 1) entries)
    (lines_indexed watch first (entry_in entry) (omega arith))
    (report_indexed watch (first + 1) entries (omega arith))

abbrev Ends : Text → Type 0
Ends text = (prefix : Text) × (text ≡ prefix ++ (0x0A ∷ []))

newline : Ends (0x0A ∷ [])
newline = ([], refl)

longer : (a text : Text) → Ends text → Ends (a ++ text)
longer a text ends =
    (a ++ ends.0, ap (λ t. a ++ t) ends.1 ∙ sym (append_assoc a ends.0 (0x0A ∷ [])))

words_end : (first digits name : Text)
    → Ends (first ++ (digits ++ (codes " " ++ (name ++ codes "\n"))))
words_end first digits name =
    longer first (digits ++ (codes " " ++ (name ++ codes "\n")))
    (longer digits (codes " " ++ (name ++ codes "\n"))
    (longer (codes " ") (name ++ codes "\n") (longer name (codes "\n") newline)))

line_ends : (line : Line) → Ends (line_text line)
line_ends (Match index name) =
    cond_both (list_all is_visible name)
    (codes "match " ++ (decimal index ++ (codes " " ++ (name ++ codes "\n"))))
    (codes "match-hex " ++ (decimal index ++ (codes " " ++ (encode_lower name ++ codes "\n"))))
    Ends (λ _. words_end (codes "match ") (decimal index) name)
    (λ _. words_end (codes "match-hex ") (decimal index) (encode_lower name))
line_ends (Unread index) =
    longer (codes "unread ") (decimal index ++ codes "\n")
    (longer (decimal index) (codes "\n") newline)

lines_whole : (lines : List Line) → AreWholeLines (flat_map line_text lines)
lines_whole [] = inl refl
lines_whole (line ∷ lines) =
    whole_append (line_text line) (flat_map line_text lines) (inr (line_ends line))
    (lines_whole lines)

-- ---- the next state file

pub next_read : (found : Findings) (printed text : Text) → IsKept found.state
    → AllByRecursion IsIndexed found.lines → printed ≡ found_text found → IsNextState printed text
    → state_in text ≡ Ok found.state
unfolding found_text
next_read found printed text kept small is (inl same) =
    ap state_in (same ∙ is) ∙ found_again found kept small
next_read found printed text kept small is (inr line) =
    let own = state_line found.state kept in
    let lines : Text = flat_map line_text found.lines in
    let both : (line.before ++ line.words) ++ (0x0A ∷ []) ≡ (lines ++ own.0) ++ (0x0A ∷ []) =
    append_assoc line.before line.words (0x0A ∷ [])
    ∙ ap (λ t. line.before ++ t) (sym line.ended)
    ∙ sym line.last
    ∙ is
    ∙ ap (λ t. lines ++ t) own.2
    ∙ sym (append_assoc lines own.0 (0x0A ∷ [])) in
    let same = one_last line.before lines line.words own.0 line.whole (lines_whole found.lines)
    line.one own.1 (unended (line.before ++ line.words) (lines ++ own.0) both) in
    ap state_in (line.ended ∙ ap (λ t. t ++ (0x0A ∷ [])) same ∙ sym own.2)
    ∙ state_again found.state kept
