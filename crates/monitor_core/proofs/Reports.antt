-- The report of entries, of parts of a list and one entry after another.
use Rattle.std.proofs.Common.{◌≡◌, ℕ, suc, ◌+◌, true, false, List, [], ◌∷◌, ◌++◌, length, refl}
use Rattle.std.proofs.Common.{sym, ap, ◌∙◌, append-nil, append_assoc, arith}
use Rattle.byte_formats.specs.Types.{Text}
use Rattle.monitor_core.specs.Report.{is_watched, lines_of, matches_of, report_of}
use Rattle.monitor_core.specs.declared.lines.Line.{Line}
use Rattle.monitor_core.specs.declared.lines.Line.TheVariants.{Match}

-- the report of two parts of a list
pub report-parts : (watch : List Text) (first : ℕ) (entries others : List Text)
    → report_of watch first (entries ++ others)
    ≡ report_of watch first entries ++ report_of watch (first + length entries) others
unfolding report_of
report-parts watch first [] others =
    let same : first ≡ first + 0 = omega arith in
    ap (λ n. report_of watch n others) same
report-parts watch first (entry ∷ entries) others =
    let place : first + 1 + length entries ≡ first + suc (length entries) = omega arith in
    ap (λ lines. lines_of watch first entry ++ lines)
    (report-parts watch (first + 1) entries others)
    ∙ sym (append_assoc (lines_of watch first entry) (report_of watch (first + 1) entries)
    (report_of watch (first + 1 + length entries) others))
    ∙ ap (λ n. (lines_of watch first entry ++ report_of watch (first + 1) entries)
    ++ report_of watch n others) place

pub report-none : (watch : List Text) (first : ℕ) → report_of watch first [] ≡ []
unfolding report_of
report-none watch first = refl

report-one : (watch : List Text) (first : ℕ) (entry : Text) (entries : List Text)
    → report_of watch first (entry ∷ entries)
    ≡ lines_of watch first entry ++ report_of watch (first + 1) entries
unfolding report_of
report-one watch first entry entries = refl

-- one entry more
pub report-last : (watch : List Text) (first : ℕ) (entries : List Text) (entry : Text)
    → report_of watch first (entries ++ entry ∷ [])
    ≡ report_of watch first entries ++ lines_of watch (first + length entries) entry
report-last watch first entries entry =
    let index : ℕ = first + length entries in
    report-parts watch first entries (entry ∷ [])
    ∙ ap (λ lines. report_of watch first entries ++ lines) (report-one watch index entry []
    ∙ ap (λ lines. lines_of watch index entry ++ lines) (report-none watch (index + 1))
    ∙ append-nil (lines_of watch index entry))

-- a name that is watched, and one that isn't
pub matches_more : (watch : List Text) (index : ℕ) (name : Text) (names : List Text)
    (done now : List Line) → is_watched watch name ≡ true → now ≡ done ++ Match index name ∷ []
    → done ++ matches_of watch index (name ∷ names) ≡ now ++ matches_of watch index names
matches_more watch index name names done now watched grown =
    rw (watched, grown) (sym (append_assoc done (Match index name ∷ [])
    (matches_of watch index names)))

pub matches_pass : (watch : List Text) (index : ℕ) (name : Text) (names : List Text)
    → is_watched watch name ≡ false
    → matches_of watch index (name ∷ names) ≡ matches_of watch index names
matches_pass watch index name names other = rw other refl
