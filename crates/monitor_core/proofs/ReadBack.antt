-- A text whose state is read ends with the line of that state.
use Rattle.std.proofs.Common.{◌≡◌, ℕ, zero, suc, ◌+◌, ◌≤◌, List, [], ◌∷◌, ◌++◌, length, take, drop}
use Rattle.std.proofs.Common.{get_or, Option, Some, None, Result, Ok, Err, refl, sym, ap, ◌∙◌}
use Rattle.std.proofs.Common.{subst, append_assoc, arith, decimal, inl, inr, ⊎_elim}
use Rattle.std.specs.Prelude.{◌==◌, ◌&&◌, not, codes, count_ones, nat_le, bytes_eq, option_map}
use Rattle.std.specs.Prelude.{if◌then◌else◌}
use Rattle.std.specs.List.{AllByRecursion, flat_map}
use Rattle.std.proofs.lemmas.Bool.{and_parts, eqb-true, leb-true, not-false}
use Rattle.std.proofs.lemmas.List.{nil_from_length, take-append-drop}
use Rattle.std.proofs.lemmas.Option.{same_Some}
use Rattle.std.proofs.lemmas.Slice.Eq.{bytes_eq-Decides}
use Rattle.hex.specs.Hex.{decode_sized, encode_lower}
use Rattle.hex.specs.declared.error.FromHexError.{FromHexError}
use Rattle.hex.proofs.HexLemmas.{decode_of-ok, decode_sized-ok, decode_sized-twice}
use Rattle.byte_formats.specs.Offsets.{IsBytes}
use Rattle.byte_formats.specs.Readings.{◌>>=◌, blamed, some_or}
use Rattle.byte_formats.specs.Types.{Hash, Text}
use Rattle.byte_formats.proofs.Steps.{IsBytes-back, IsBytes-prefix, IsBytes-rest, bind_ok}
use Rattle.byte_formats.proofs.Steps.{blamed_ok, guard_ok, ok_is, some_or_ok}
use Rattle.byte_formats.proofs.Values.{map_some, then_some, when_some}
use Rattle.tls_wire.specs.Anchors.{anchor_text, text_of}
use Rattle.tls_wire.specs.Decimal.{number_of}
use Rattle.tls_wire.specs.Lines.{cut_at, first_line}
use Rattle.tls_wire.proofs.AnchorForm.{text_takes}
use Rattle.tls_wire.proofs.Cuts.{cut_parts}
use Rattle.tls_wire.proofs.Decimals.{number_is_decimal}
use Rattle.monitor_core.proofs.Again.{found_again, grouped, last_again}
use Rattle.monitor_core.proofs.NextState.{next_read}
use Rattle.monitor_core.specs.Reading.{begins_report, after_report, after_report_line, last_line}
use Rattle.monitor_core.specs.Reading.{line_with, lower_hash_in, lower_only, peak_in, peaks_in}
use Rattle.monitor_core.specs.Reading.{skipped, state_in, state_words, word_end}
use Rattle.monitor_core.specs.Report.{Findings}
use Rattle.monitor_core.specs.States.{IsHash, IsKept, MonitorState}
use Rattle.monitor_core.specs.TextLaws.{AreWholeLines, IsIndexed, IsNextState}
use Rattle.monitor_core.specs.TextLaws.{StatesAreReadAsWritten}
use Rattle.monitor_core.specs.Written.{found_text, peak_text, state_text}
use Rattle.monitor_core.specs.declared.error.TextError.{TextError}
use Rattle.monitor_core.specs.declared.error.TextError.TheVariants.{BadLine}

-- ---- peaks

record IsLower (digits : Text) (hash : Hash) : Type 0 where
  written : encode_lower hash ≡ digits
  is : IsHash hash

lower_read : (digits : Text) (hash : Hash) → lower_hash_in digits ≡ Some hash → IsLower digits hash
unfolding lower_hash_in
lower_read digits hash e = go (decode_sized digits 32) refl e
  where
    go : (r : Result Hash FromHexError) → decode_sized digits 32 ≡ r
        → lower_only digits r ≡ Some hash → IsLower digits hash
    go (Ok found) is test =
        let parts = when_some (bytes_eq (encode_lower found) digits) (Some found) hash test in
        let long = decode_sized-ok digits 32 found is in
        let known = decode_of-ok digits found (sym (decode_sized-twice digits 32 long) ∙ is) in
        let twice = known.2 in
        let P : Hash → Type 0 = IsLower digits in
        subst P (same_Some found hash parts.1) (record {
          written = (bytes_eq-Decides (encode_lower found) digits).0 parts.0;
          is = (omega arith, known.3);
        })
    go (Err fault) is test = absurd cc

record IsPeak (text : Text) (hash : Hash) (rest : Text) : Type 0 where
  written : text ≡ peak_text hash ++ rest
  is : IsHash hash

peak_read : (text : Text) (hash : Hash) (rest : Text) → peak_in text ≡ Some (hash, rest)
    → IsPeak text hash rest
unfolding peak_in
peak_read text hash rest e =
    let parts = when_some (nat_le 65 (length text) && (get_or text 0 0 == 0x20))
    (option_map (λ (hash : Hash). (hash, drop 65 text)) (lower_hash_in (take 64 (drop 1 text))))
    (hash, rest) e in
    let tests = and_parts (nat_le 65 (length text)) (get_or text 0 0 == 0x20) parts.0 in
    let found = map_some (λ (hash : Hash). (hash, drop 65 text))
    (lower_hash_in (take 64 (drop 1 text))) (hash, rest) parts.1 in
    let known = lower_read (take 64 (drop 1 text)) found.0 found.1 in
    let P : Hash × Text → Type 0 = λ x. IsPeak text x.0 x.1 in
    subst P found.2 (record {
      written = whole text found.0 (leb-true 65 (length text) tests.0)
          (eqb-true (get_or text 0 0) 0x20 tests.1) known.written;
      is = known.is;
    })
  where
    whole : (text : Text) (hash : Hash) → 65 ≤ length text → get_or text 0 0 ≡ 0x20
        → encode_lower hash ≡ take 64 (drop 1 text) → text ≡ peak_text hash ++ drop 65 text
    whole [] hash enough first same = absurd (omega arith)
    whole (x ∷ xs) hash enough first same =
        ap (λ b. b ∷ xs) first
        ∙ ap (λ t. 0x20 ∷ t) (sym (take-append-drop 64 xs) ∙ ap (λ t. t ++ drop 64 xs) (sym same))

record ArePeaksRead (count : ℕ) (text : Text) (peaks : List Hash) : Type 0 where
  written : text ≡ flat_map peak_text peaks
  many : length peaks ≡ count
  are : AllByRecursion IsHash peaks

peaks_read : (count : ℕ) (text : Text) (peaks : List Hash) → peaks_in count text ≡ Some peaks
    → ArePeaksRead count text peaks
unfolding peaks_in
peaks_read zero text peaks e =
    let parts = when_some (length text == 0) (Some []) peaks e in
    let P : List Hash → Type 0 = ArePeaksRead 0 text in
    subst P (same_Some [] peaks parts.1) (record {
      written = nil_from_length text (eqb-true (length text) 0 parts.0);
      many = refl;
      are = tt;
    })
peaks_read (suc count) text peaks e =
    let first = then_some (λ (peak : Hash × Text). option_map (λ (more : List Hash). peak.0 ∷ more)
    (peaks_in count peak.1)) (peak_in text) peaks e in
    let peak : Hash × Text = first.0 in
    let others = map_some (λ (more : List Hash). peak.0 ∷ more) (peaks_in count peak.1) peaks
    first.2 in
    let one = peak_read text peak.0 peak.1 first.1 in
    let more = peaks_read count peak.1 others.0 others.1 in
    let P : List Hash → Type 0 = ArePeaksRead (suc count) text in
    subst P others.2 (record {
      written = one.written ∙ ap (λ t. peak_text peak.0 ++ t) more.written;
      many = ap suc more.many;
      are = (one.is, more.are);
    })

-- ---- the line of a state

record AreWords (text : Text) (s : MonitorState) : Type 0 where
  written : text ≡ text_of s.log ++ (0x20 ∷ (decimal s.size ++ flat_map peak_text s.peaks))
  kept : IsKept s

words_read : (n : ℕ) (text : Text) (s : MonitorState) → IsBytes text → state_words n text ≡ Ok s
    → AreWords text s
unfolding state_words
words_read n text s bytes e =
    let last : Text × Text → Text → ℕ → List Hash → Result MonitorState TextError =
    λ cut log size peaks. Ok (record { log = log; size = size; peaks = peaks }) in
    let third : Text × Text → Text → ℕ → Result MonitorState TextError =
    λ cut log size. some_or (BadLine n) (peaks_in (count_ones size) (drop (word_end cut.1) cut.1))
    >>= λ peaks. last cut log size peaks in
    let second : Text × Text → Text → Result MonitorState TextError =
    λ cut log. some_or (BadLine n) (number_of (take (word_end cut.1) cut.1))
    >>= λ size. third cut log size in
    let one = bind_ok (some_or (BadLine n) (cut_at 0x20 text)) (λ (cut : Text × Text).
    blamed (BadLine n) (anchor_text cut.0) >>= λ log. second cut log) s e in
    let cut : Text × Text = one.0 in
    let two = bind_ok (blamed (BadLine n) (anchor_text cut.0)) (λ log. second cut log) s one.2 in
    let log : Text = two.0 in
    let three = bind_ok (some_or (BadLine n) (number_of (take (word_end cut.1) cut.1)))
    (λ size. third cut log size) s two.2 in
    let size : ℕ = three.0 in
    let four = bind_ok (some_or (BadLine n) (peaks_in (count_ones size)
    (drop (word_end cut.1) cut.1))) (λ peaks. last cut log size peaks) s three.2 in
    let peaks : List Hash = four.0 in
    let parts = cut_parts 0x20 text cut (some_or_ok (BadLine n) (cut_at 0x20 text) cut one.1) in
    let whole : IsBytes (cut.0 ++ (0x20 ∷ cut.1)) = rw parts at bytes in
    let id = text_takes cut.0 log (IsBytes-prefix cut.0 (0x20 ∷ cut.1) whole)
    (blamed_ok (BadLine n) (anchor_text cut.0) log two.1) in
    let number = number_is_decimal (take (word_end cut.1) cut.1) size
    (some_or_ok (BadLine n) (number_of (take (word_end cut.1) cut.1)) size three.1) in
    let known = peaks_read (count_ones size) (drop (word_end cut.1) cut.1) peaks
    (some_or_ok (BadLine n) (peaks_in (count_ones size) (drop (word_end cut.1) cut.1)) peaks
    four.1) in
    let P : MonitorState → Type 0 = AreWords text in
    subst P (ok_is TextError (record { log = log; size = size; peaks = peaks }) s four.2) (record {
      written = parts
          ∙ ap (λ t. t ++ (0x20 ∷ cut.1)) (sym id.1)
          ∙ ap (λ t. text_of log ++ (0x20 ∷ t)) (sym (take-append-drop (word_end cut.1) cut.1)
          ∙ ap (λ t. t ++ drop (word_end cut.1) cut.1) (sym number.0)
          ∙ ap (λ t. decimal size ++ t) known.written);
      kept = record { log = id.0; size = number.1; count = known.many; hashes = known.are };
    })

record IsLast (text : Text) (s : MonitorState) : Type 0 where
  written : text ≡ state_text s
  kept : IsKept s

last_read : (n : ℕ) (text : Text) (s : MonitorState) → IsBytes text → last_line n text ≡ Ok s
    → IsLast text s
unfolding last_line
last_read n text s bytes e =
    let ends : Text × Text → MonitorState → Result MonitorState TextError =
    λ cut state. if not (length cut.1 == 0) then Err (BadLine (n + 1)) else Ok state in
    let tested : Text × Text → Text × Text → Result MonitorState TextError =
    λ cut words. if not (bytes_eq words.0 (codes "state")) then Err (BadLine n)
    else (state_words n words.1 >>= λ state. ends cut state) in
    let one = bind_ok (line_with n text) (λ (cut : Text × Text).
    some_or (BadLine n) (cut_at 0x20 cut.0) >>= λ words. tested cut words) s e in
    let cut : Text × Text = one.0 in
    let two = bind_ok (some_or (BadLine n) (cut_at 0x20 cut.0)) (λ (words : Text × Text).
    tested cut words) s one.2 in
    let words : Text × Text = two.0 in
    let word = guard_ok (not (bytes_eq words.0 (codes "state"))) (BadLine n)
    (state_words n words.1 >>= λ state. ends cut state) s two.2 in
    let three = bind_ok (state_words n words.1) (λ state. ends cut state) s word.1 in
    let end = guard_ok (not (length cut.1 == 0)) (BadLine (n + 1)) (Ok three.0) s three.2 in
    let none : cut.1 ≡ [] =
    nil_from_length cut.1 (eqb-true (length cut.1) 0 (not-false _ end.0)) in
    let line = cut_parts 0x0A text cut (some_or_ok (BadLine n) (first_line text) cut one.1) in
    let first = cut_parts 0x20 cut.0 words
    (some_or_ok (BadLine n) (cut_at 0x20 cut.0) words two.1) in
    let is : words.0 ≡ codes "state" =
    (bytes_eq-Decides words.0 (codes "state")).0 (not-false _ word.0) in
    let all : IsBytes (cut.0 ++ (0x0A ∷ cut.1)) = rw line at bytes in
    let prefix = IsBytes-prefix cut.0 (0x0A ∷ cut.1) all in
    let both : IsBytes (words.0 ++ (0x20 ∷ words.1)) = rw first at prefix in
    let back = IsBytes-rest 0x20 words.1 (IsBytes-back words.0 (0x20 ∷ words.1) both) in
    let known = words_read n words.1 three.0 back three.1 in
    let P : MonitorState → Type 0 = IsLast text in
    subst P (ok_is TextError three.0 s end.1) (record {
      written = line
          ∙ ap (λ t. cut.0 ++ (0x0A ∷ t)) none
          ∙ ap (λ t. t ++ (0x0A ∷ [])) (first
          ∙ ap (λ t. t ++ (0x20 ∷ words.1)) is
          ∙ ap (λ t. codes "state" ++ (0x20 ∷ t)) known.written)
          ∙ sym (grouped three.0);
      kept = known.kept;
    })

-- ---- what stands before it

line_parts : (text rest : Text) → after_report_line (first_line text) ≡ Some rest
    → (line : Text) × (text ≡ line ++ (0x0A ∷ rest))
line_parts text rest e = go (first_line text) refl e
  where
    go : (o : Option (Text × Text)) → first_line text ≡ o → after_report_line o ≡ Some rest
        → (line : Text) × (text ≡ line ++ (0x0A ∷ rest))
    go None is none = absurd cc
    go (Some cut) is passed =
        let parts = when_some (begins_report (cut_at 0x20 cut.0)) (Some cut.1) rest passed in (
          cut.0,
          cut_parts 0x0A text cut is ∙ ap (λ t. cut.0 ++ (0x0A ∷ t))
              (same_Some cut.1 rest parts.1),
        )

-- a line before whole lines
whole_lines : (line before : Text) → AreWholeLines before → AreWholeLines (line ++ (0x0A ∷ before))
whole_lines line before whole =
    ⊎_elim
    (λ (none : before ≡ []). inr (line, ap (λ t. line ++ (0x0A ∷ t)) none))
    (λ (some : (prefix : Text) × (before ≡ prefix ++ (0x0A ∷ []))). inr (
      line ++ (0x0A ∷ some.0),
      ap (λ t. line ++ (0x0A ∷ t)) some.1 ∙ sym (append_assoc line (0x0A ∷ some.0) (0x0A ∷ [])),
    ))
    whole

-- where it is so of what is after the first line
passed : (n : ℕ) (text : Text) (next : ℕ → Text → ℕ × Text)
    → ((m : ℕ) (rest : Text)
    → (before : Text) × (rest ≡ before ++ (next m rest).1) × AreWholeLines before)
    → (o : Option Text) → after_report_line (first_line text) ≡ o
    → (before : Text) × (text ≡ before ++ (skipped n text o next).1) × AreWholeLines before
passed n text next more None is = ([], refl, inl refl)
passed n text next more (Some rest) is =
    let line = line_parts text rest is in
    let others = more (n + 1) rest in (
      line.0 ++ (0x0A ∷ others.0),
      line.1
          ∙ ap (λ t. line.0 ++ (0x0A ∷ t)) others.1
          ∙ sym (append_assoc line.0 (0x0A ∷ others.0) (next (n + 1) rest).1),
      whole_lines line.0 others.0 others.2,
    )

report_read : (left n : ℕ) (text : Text)
    → (before : Text) × (text ≡ before ++ (after_report left n text).1) × AreWholeLines before
unfolding after_report
report_read zero n text = ([], refl, inl refl)
report_read (suc left) n text =
    passed n text (after_report left) (λ m rest. report_read left m rest)
    (after_report_line (first_line text)) refl

state_read : (text : Text) (state : MonitorState) → IsBytes text → state_in text ≡ Ok state
    → IsKept state
    × ((before : Text) × (text ≡ before ++ state_text state) × AreWholeLines before)
unfolding state_in
state_read text state bytes e =
    let last : ℕ × Text = after_report (length text) 0 text in
    let before = report_read (length text) 0 text in
    let all : IsBytes (before.0 ++ last.1) = rw before.1 at bytes in
    let known = last_read last.0 last.1 state (IsBytes-back before.0 last.1 all) e in
    (known.kept, (before.0, before.1 ∙ ap (λ t. before.0 ++ t) known.written, before.2))

pub one_state : (first second : MonitorState) → IsKept first → IsKept second
    → state_text first ≡ state_text second → first ≡ second
one_state first second kept other same =
    ok_is TextError first second (sym (last_again first kept 0) ∙ ap (last_line 0) same
    ∙ last_again second other 0)

next_again : (found : Findings) (text : Text) → IsKept found.state
    → AllByRecursion IsIndexed found.lines → IsNextState (found_text found) text
    → state_in text ≡ Ok found.state
next_again found text kept small is = next_read found (found_text found) text kept small refl is

pub StatesAreReadAsWritten_always : StatesAreReadAsWritten
StatesAreReadAsWritten_always =
    record { again = found_again; next = next_again; read = state_read; one = one_state }
