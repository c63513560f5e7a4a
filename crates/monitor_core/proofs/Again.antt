-- The text of what was found is read as its state.
use Rattle.std.proofs.Common.{◌≡◌, ◌≢◌, ℕ, suc, ◌+◌, ◌-◌, ◌^◌, ◌<◌, ◌≤◌, true, false, List, [], ◌∷◌}
use Rattle.std.proofs.Common.{◌++◌, length, take, drop, get_or, Some, None, Ok, refl, sym, ap, ◌∙◌}
use Rattle.std.proofs.Common.{append_assoc, arith, decimal, ⊎_elim}
use Rattle.std.specs.Prelude.{◌==◌, codes, count_ones, nat_le}
use Rattle.std.specs.List.{AllByRecursion, flat_map, list_all}
use Rattle.std.proofs.lemmas.Bool.{cases_Bool, cond-false, cond-true, cond_both, eq-eqb, le-leb}
use Rattle.std.proofs.lemmas.Bool.{ne_eqb}
use Rattle.std.proofs.lemmas.List.{drop_at, get_or_append_left, get_or_at, length-append, take_at}
use Rattle.std.proofs.lemmas.List.Sums.{position_or_len_is}
use Rattle.hex.specs.Hex.{encode_lower, lower_digits}
use Rattle.hex.proofs.HexLemmas.{decode_sized-encode_lower, length-encode_with}
use Rattle.byte_formats.specs.Types.{Hash, Text}
use Rattle.byte_formats.proofs.Values.{same_bytes}
use Rattle.tls_wire.specs.Anchors.{text_of}
use Rattle.tls_wire.specs.Lines.{Lacks, cut_at, first_line}
use Rattle.tls_wire.proofs.AnchorForm.{text_again}
use Rattle.tls_wire.proofs.Cuts.{cut_again}
use Rattle.tls_wire.proofs.Decimals.{decimal_is_number}
use Rattle.monitor_core.proofs.Letters.{decimal_bytes, hex_lacks, id_bytes, is_id_byte}
use Rattle.monitor_core.proofs.Letters.{lacks_append, lacks_cons, lacks_failing, lacks_none}
use Rattle.monitor_core.proofs.Letters.{name_lacks}
use Rattle.monitor_core.proofs.Skips.{no_line, skips_one}
use Rattle.monitor_core.specs.Reading.{after_report, after_report_line, is_report_word, last_line}
use Rattle.monitor_core.specs.Reading.{lower_hash_in, lower_only, peak_in, peaks_in, state_in}
use Rattle.monitor_core.specs.Reading.{state_words, word_end}
use Rattle.monitor_core.specs.Report.{Findings}
use Rattle.monitor_core.specs.States.{IsHash, IsKept, MonitorState}
use Rattle.monitor_core.specs.TextLaws.{IsIndexed}
use Rattle.monitor_core.specs.Written.{found_text, is_visible, line_text, match_text, peak_text}
use Rattle.monitor_core.specs.Written.{state_text}
use Rattle.monitor_core.specs.declared.lines.Line.{Line}
use Rattle.monitor_core.specs.declared.lines.Line.TheVariants.{Match, Unread}

-- ---- peaks

hash_again : (hash : Hash) → IsHash hash → lower_hash_in (encode_lower hash) ≡ Some hash
unfolding lower_hash_in
hash_again hash is =
    ap (lower_only (encode_lower hash)) (decode_sized-encode_lower hash 32 is.0 is.1)
    ∙ cond-true _ (Some hash) None (same_bytes (encode_lower hash))

peak_again : (hash : Hash) (rest : Text) → IsHash hash
    → peak_in (peak_text hash ++ rest) ≡ Some (hash, rest)
unfolding peak_in
peak_again hash rest is =
    let digits : Text = encode_lower hash in
    let size = is.0 in
    let written = length-encode_with lower_digits hash in
    let long : length digits ≡ 64 = omega arith in
    let both = length-append digits rest in
    let enough : nat_le 65 (length (0x20 ∷ (digits ++ rest))) ≡ true = le-leb 65 _ (omega arith) in
    let prefix : take 64 (digits ++ rest) ≡ digits = take_at digits rest 64 long in
    let back : drop 64 (digits ++ rest) ≡ rest = drop_at digits rest 64 long in
    rw (enough, prefix, hash_again hash is, back) refl

peaks_again : (peaks : List Hash) → AllByRecursion IsHash peaks
    → peaks_in (length peaks) (flat_map peak_text peaks) ≡ Some peaks
unfolding peaks_in
peaks_again [] are = refl
peaks_again (hash ∷ peaks) are =
    rw (peak_again hash (flat_map peak_text peaks) are.0, peaks_again peaks are.1) refl

peaks_lack : (peaks : List Hash) → Lacks 0x0A (flat_map peak_text peaks)
peaks_lack [] = lacks_none 0x0A
peaks_lack (hash ∷ peaks) =
    lacks_append 0x0A (peak_text hash) (flat_map peak_text peaks)
    (lacks_cons 0x0A 0x20 (encode_lower hash) (λ same. absurd (omega (arith, same)))
    (hex_lacks 0x0A hash (omega arith) (omega arith)))
    (peaks_lack peaks)

-- ---- the line of a state

-- what stands after the id, after the first word, and in the line
abbrev sized : MonitorState → Text
sized s = decimal s.size ++ flat_map peak_text s.peaks

abbrev words : MonitorState → Text
words s = text_of s.log ++ (0x20 ∷ sized s)

abbrev body : MonitorState → Text
body s = codes "state" ++ (0x20 ∷ words s)

pub grouped : (s : MonitorState) → state_text s ≡ body s ++ (0x0A ∷ [])
unfolding state_text
grouped s =
    let end : Text = 0x0A ∷ [] in
    ap (λ t. codes "state " ++ t) (sym (append_assoc (text_of s.log) (0x20 ∷ sized s) end
    ∙ ap (λ t. text_of s.log ++ (0x20 ∷ t))
    (append_assoc (decimal s.size) (flat_map peak_text s.peaks) end)))

module _ (s : MonitorState) (kept : IsKept s) where
  fits : s.size < 2 ^ 64
  fits = let small = kept.size in omega arith

  body_lacks : Lacks 0x0A (body s)
  body_lacks =
      let log_bytes = id_bytes s.log kept.log in
      let size_bytes = decimal_bytes s.size fits in
      let other : 0x20 ≢ 0x0A = λ same. absurd (omega (arith, same)) in
      lacks_append 0x0A (codes "state") (0x20 ∷ words s) (name_lacks (codes "state") refl)
      (lacks_cons 0x0A 0x20 (words s) other (lacks_append 0x0A (text_of s.log) (0x20 ∷ sized s)
      (lacks_failing is_id_byte 0x0A (text_of s.log) refl log_bytes)
      (lacks_cons 0x0A 0x20 (sized s) other (lacks_append 0x0A (decimal s.size)
      (flat_map peak_text s.peaks)
      (lacks_failing is_id_byte 0x0A (decimal s.size) refl size_bytes) (peaks_lack s.peaks)))))

  line_is : first_line (state_text s) ≡ Some (body s, [])
  line_is = ap first_line (grouped s) ∙ cut_again 0x0A (body s) [] body_lacks

  word_is : cut_at 0x20 (body s) ≡ Some (codes "state", words s)
  word_is =
      cut_again 0x20 (codes "state") (words s)
      (lacks_failing is_visible 0x20 (codes "state") refl refl)

  log_is : cut_at 0x20 (words s) ≡ Some (text_of s.log, sized s)
  log_is =
      cut_again 0x20 (text_of s.log) (sized s)
      (lacks_failing is_id_byte 0x20 (text_of s.log) refl (id_bytes s.log kept.log))

  size_lacks : Lacks 0x20 (decimal s.size)
  size_lacks = lacks_failing is_id_byte 0x20 (decimal s.size) refl (decimal_bytes s.size fits)

  end_is : word_end (sized s) ≡ length (decimal s.size)
  end_is =
      let digits : Text = decimal s.size in
      let back : Text = flat_map peak_text s.peaks in
      let both = length-append digits back in
      position_or_len_is (λ byte. byte == 0x20) (sized s) (length digits) 0 (omega arith)
      (λ k before. ne_eqb (get_or (sized s) k 0) 0x20 (λ same. size_lacks k before
      (sym (get_or_append_left digits back 0 k before) ∙ same)))
      (λ more. here digits s.peaks (omega arith))
    where
      here : (digits : Text) (peaks : List Hash) → 0 < length (flat_map peak_text peaks)
          → (get_or (digits ++ flat_map peak_text peaks) (length digits) 0 == 0x20) ≡ true
      here digits [] some = absurd (omega arith)
      here digits (hash ∷ peaks) some =
          eq-eqb _ 0x20 (get_or_at digits 0x20 (encode_lower hash ++ flat_map peak_text peaks) 0
          (length digits) refl)

  words_again : (n : ℕ) → state_words n (words s) ≡ Ok s
  unfolding state_words
  words_again n =
      let digits : Text = decimal s.size in
      let back : Text = flat_map peak_text s.peaks in
      let prefix : take (length digits) (sized s) ≡ digits =
      take_at digits back (length digits) refl in
      let rest : drop (length digits) (sized s) ≡ back = drop_at digits back (length digits) refl in
      let peaks : peaks_in (count_ones s.size) back ≡ Some s.peaks =
      ap (λ k. peaks_in k back) (sym kept.count) ∙ peaks_again s.peaks kept.hashes in
      rw (
        log_is,
        text_again s.log kept.log,
        end_is,
        prefix,
        decimal_is_number s.size kept.size,
        rest,
        peaks,
      ) refl

  pub last_again : (n : ℕ) → last_line n (state_text s) ≡ Ok s
  unfolding last_line
  last_again n = rw (line_is, word_is, words_again n) refl

  no_report : after_report_line (first_line (state_text s)) ≡ None
  no_report = rw (line_is, word_is) refl

-- it is one line
pub state_line : (s : MonitorState) → IsKept s
    → (words : Text) × Lacks 0x0A words × (state_text s ≡ words ++ (0x0A ∷ []))
state_line s kept = (body s, body_lacks s kept, grouped s)

-- ---- the lines of a report

spaced : (prefix back more : Text)
    → (prefix ++ (0x20 ∷ (back ++ 0x0A ∷ []))) ++ more ≡ (prefix ++ (0x20 ∷ back)) ++ (0x0A ∷ more)
spaced prefix back more =
    append_assoc prefix (0x20 ∷ (back ++ 0x0A ∷ [])) more
    ∙ ap (λ t. prefix ++ (0x20 ∷ t)) (append_assoc back (0x0A ∷ []) more)
    ∙ sym (append_assoc prefix (0x20 ∷ back) (0x0A ∷ more))

-- a word of a report, a space, and what has no newline
word_line : (word tail more : Text) → list_all is_visible word ≡ true → Lacks 0x0A tail
    → is_report_word word ≡ true
    → after_report_line (first_line ((word ++ (0x20 ∷ tail)) ++ (0x0A ∷ more))) ≡ Some more
word_line word tail more visible lacks report =
    let prefix : Text = word ++ (0x20 ∷ tail) in
    let line : first_line (prefix ++ (0x0A ∷ more)) ≡ Some (prefix, more) =
    cut_again 0x0A prefix more (lacks_append 0x0A word (0x20 ∷ tail) (name_lacks word visible)
    (lacks_cons 0x0A 0x20 tail (λ same. absurd (omega (arith, same))) lacks)) in
    let cut : cut_at 0x20 prefix ≡ Some (word, tail) =
    cut_again 0x20 word tail (lacks_failing is_visible 0x20 word refl visible) in
    rw (line, cut, report) refl

index_lacks : (index : ℕ) → index < 2 ^ 64 → Lacks 0x0A (decimal index)
index_lacks index small =
    lacks_failing is_id_byte 0x0A (decimal index) refl (decimal_bytes index small)

tail_lacks : (index : ℕ) (name : Text) → index < 2 ^ 64 → Lacks 0x0A name
    → Lacks 0x0A (decimal index ++ (0x20 ∷ name))
tail_lacks index name small lacks =
    lacks_append 0x0A (decimal index) (0x20 ∷ name) (index_lacks index small)
    (lacks_cons 0x0A 0x20 name (λ same. absurd (omega (arith, same))) lacks)

-- the line of a match is one of these
match_again : (index : ℕ) (name more : Text) → index < 2 ^ 64
    → after_report_line (first_line (match_text index name ++ more)) ≡ Some more
match_again index name more small =
    ⊎_elim
    (λ (visible : list_all is_visible name ≡ true).
    ap (λ t. after_report_line (first_line (t ++ more))) (cond-true _
    (codes "match " ++ (decimal index ++ (codes " " ++ (name ++ codes "\n"))))
    (codes "match-hex " ++ (decimal index ++ (codes " " ++ (encode_lower name ++ codes "\n"))))
    visible)
    ∙ ap (λ t. after_report_line (first_line (codes "match " ++ t)))
    (spaced (decimal index) name more)
    ∙ word_line (codes "match") (decimal index ++ (0x20 ∷ name)) more refl
    (tail_lacks index name small (name_lacks name visible)) refl)
    (λ (other : list_all is_visible name ≡ false).
    ap (λ t. after_report_line (first_line (t ++ more))) (cond-false _
    (codes "match " ++ (decimal index ++ (codes " " ++ (name ++ codes "\n"))))
    (codes "match-hex " ++ (decimal index ++ (codes " " ++ (encode_lower name ++ codes "\n"))))
    other)
    ∙ ap (λ t. after_report_line (first_line (codes "match-hex " ++ t)))
    (spaced (decimal index) (encode_lower name) more)
    ∙ word_line (codes "match-hex") (decimal index ++ (0x20 ∷ encode_lower name)) more refl
    (tail_lacks index (encode_lower name) small
    (hex_lacks 0x0A name (omega arith) (omega arith))) refl)
    (cases_Bool (list_all is_visible name))

line_again : (line : Line) (more : Text) → IsIndexed line
    → after_report_line (first_line (line_text line ++ more)) ≡ Some more
line_again (Match index name) more small = match_again index name more small
line_again (Unread index) more small =
    ap (λ t. after_report_line (first_line (codes "unread " ++ t)))
    (append_assoc (decimal index) (0x0A ∷ []) more)
    ∙ word_line (codes "unread") (decimal index) more refl (index_lacks index small) refl

-- each of them has a byte
line_some : (line : Line) → 0 < length (line_text line)
line_some (Match index name) =
    cond_both (list_all is_visible name)
    (codes "match " ++ (decimal index ++ (codes " " ++ (name ++ codes "\n"))))
    (codes "match-hex " ++ (decimal index ++ (codes " " ++ (encode_lower name ++ codes "\n"))))
    (λ t. 0 < length t) (λ _. omega arith) (λ _. omega arith)
line_some (Unread index) = omega arith

lines_some : (lines : List Line) → length lines ≤ length (flat_map line_text lines)
lines_some [] = omega arith
lines_some (line ∷ lines) =
    let one = line_some line in
    let others = lines_some lines in
    let both = length-append (line_text line) (flat_map line_text lines) in
    omega arith

module _ (s : MonitorState) (kept : IsKept s) where
  report_again : (lines : List Line) (left n : ℕ) → AllByRecursion IsIndexed lines
      → after_report (length lines + left) n (flat_map line_text lines ++ state_text s)
      ≡ (n + length lines, state_text s)
  report_again [] left n small =
      let same : n ≡ n + 0 = omega arith in
      no_line (0 + left) n (state_text s) (no_report s kept) ∙ ap (λ k. (k, state_text s)) same
  report_again (line ∷ lines) left n small =
      let rest : Text = flat_map line_text lines ++ state_text s in
      let count : suc (length lines) + left ≡ suc (length lines + left) = omega arith in
      let last : n + 1 + length lines ≡ n + suc (length lines) = omega arith in
      ap (λ k. after_report k n
      ((line_text line ++ flat_map line_text lines) ++ state_text s)) count
      ∙ ap (after_report (suc (length lines + left)) n)
      (append_assoc (line_text line) (flat_map line_text lines) (state_text s))
      ∙ skips_one (length lines + left) n (line_text line ++ rest) rest
      (line_again line rest small.0)
      ∙ report_again lines left (n + 1) small.1
      ∙ ap (λ k. (k, state_text s)) last

pub found_again : (found : Findings) → IsKept found.state → AllByRecursion IsIndexed found.lines
    → state_in (found_text found) ≡ Ok found.state
unfolding state_in found_text
found_again found kept small =
    let lines : Text = flat_map line_text found.lines in
    let text : Text = lines ++ state_text found.state in
    let some = lines_some found.lines in
    let both = length-append lines (state_text found.state) in
    let left : ℕ = length text - length found.lines in
    let count : length text ≡ length found.lines + left = omega arith in
    let passed : after_report (length text) 0 text
    ≡ (0 + length found.lines, state_text found.state) =
    ap (λ k. after_report k 0 text) count
    ∙ report_again found.state kept found.lines left 0 small in
    ap (λ (p : ℕ × Text). last_line p.0 p.1) passed
    ∙ last_again found.state kept (0 + length found.lines)

-- what is written of a state, and of what was found, is read again
pub state_again : (s : MonitorState) → IsKept s → state_in (state_text s) ≡ Ok s
unfolding found_text
state_again s kept = found_again (record { lines = []; state = s }) kept tt

-- the same of texts that are put after no bytes
pub stated_again : (s : MonitorState) (text none : Text) → IsKept s → none ≡ []
    → text ≡ none ++ state_text s → state_in text ≡ Ok s
stated_again s text none kept empty is =
    ap state_in (is ∙ ap (λ t. t ++ state_text s) empty) ∙ state_again s kept

pub found_so : (found : Findings) (text prefix none : Text) (lines : List Line)
    (state : MonitorState) → IsKept found.state → AllByRecursion IsIndexed found.lines
    → lines ≡ found.lines → state ≡ found.state → none ≡ []
    → prefix ≡ none ++ flat_map line_text lines → text ≡ prefix ++ state_text state
    → state_in text ≡ Ok found.state
unfolding found_text
found_so found text prefix none lines state kept small same_lines same_state empty first last =
    ap state_in (last
    ∙ ap (λ t. t ++ state_text state) (first ∙ ap (λ t. t ++ flat_map line_text lines) empty
    ∙ ap (λ (ls : List Line). flat_map line_text ls) same_lines)
    ∙ ap (λ s. flat_map line_text found.lines ++ state_text s) same_state)
    ∙ found_again found kept small
