-- Going past the lines of a report.
use Rattle.std.proofs.Common.{◌≡◌, ℕ, zero, suc, ◌+◌, ◌-◌, ◌<◌, ◌≤◌, length, Some, None, refl, sym}
use Rattle.std.proofs.Common.{ap, ◌∙◌, arith}
use Rattle.std.specs.Prelude.{◌==◌, not, nat_lt, Bool, true, false, if◌then◌else◌}
use Rattle.std.specs.List.{position}
use Rattle.std.proofs.lemmas.Bool.{ltb-false}
use Rattle.std.proofs.lemmas.List.Sums.{prefix_len-le-length}
use Rattle.std.proofs.lemmas.Option.{same_Some}
use Rattle.byte_formats.specs.Types.{Text}
use Rattle.byte_formats.proofs.Values.{when_some}
use Rattle.tls_wire.specs.Lines.{first_line}
use Rattle.monitor_core.specs.Reading.{after_report, after_report_line, skipped, word_end}

-- So many lines were passed, and what is left leads where the whole does.
pub record Skips (text : Text) (n : ℕ) (rest : Text) : Type 0 where
  pub few : n + length rest ≤ length text
  pub same : after_report (length text - n) n rest ≡ after_report (length text) 0 text

pub skips-from : (text : Text) → Skips text 0 text
skips-from text =
    let all : length text - 0 ≡ length text = omega arith in
    record { few = omega arith; same = ap (λ k. after_report k 0 text) all }

-- a line of a report
pub skips_one : (left n : ℕ) (text rest : Text) → after_report_line (first_line text) ≡ Some rest
    → after_report (suc left) n text ≡ after_report left (n + 1) rest
unfolding after_report
skips_one left n text rest is = ap (λ o. skipped n text o (after_report left)) is

pub skips-more : (text : Text) (n : ℕ) (rest following : Text) → Skips text n rest
    → after_report_line (first_line rest) ≡ Some following → length following < length rest
    → Skips text (n + 1) following
skips-more text n rest following so_far is shorter =
    let few = so_far.few in
    let more : length text - n ≡ suc (length text - (n + 1)) = omega arith in
    record {
      few = omega arith;
      same = sym (ap (λ k. after_report k n rest) more
          ∙ skips_one (length text - (n + 1)) n rest following is)
          ∙ so_far.same;
    }

pub no_line : (left n : ℕ) (text : Text) → after_report_line (first_line text) ≡ None
    → after_report left n text ≡ (n, text)
unfolding after_report
no_line zero n text none = refl
no_line (suc left) n text none = ap (λ o. skipped n text o (after_report left)) none

pub skips-end : (text : Text) (n : ℕ) (rest : Text) → Skips text n rest
    → after_report_line (first_line rest) ≡ None
    → (n, rest) ≡ after_report (length text) 0 text
skips-end text n rest so_far none =
    sym (no_line (length text - n) n rest none) ∙ so_far.same

-- ---- where a word ends

none_chosen : (test : Bool) (place : ℕ) → None ≡ (if test then Some place else None)
    → test ≡ false
none_chosen true place none = absurd cc
none_chosen false place none = refl

pub word_end-some : (text : Text) (place : ℕ) → Some place ≡ position (λ byte. byte == 0x20) text
    → place ≡ word_end text
word_end-some text place is =
    let parts = when_some (nat_lt (word_end text) (length text)) (Some (word_end text)) place
    (sym is) in
    sym (same_Some (word_end text) place parts.1)

pub word_end-none : (text : Text) → None ≡ position (λ byte. byte == 0x20) text
    → length text ≡ word_end text
word_end-none text none =
    let past = ltb-false (word_end text) (length text)
    (none_chosen (nat_lt (word_end text) (length text)) (word_end text) none) in
    let within : word_end text ≤ length text =
    prefix_len-le-length (λ (byte : ℕ). not (byte == 0x20)) text in
    omega arith
