-- Runs that take the new entries one after another.
use Rattle.std.proofs.Common.{◌≡◌, ℕ, ◌+◌, ◌-◌, ◌^◌, ◌<◌, ◌≤◌, ⊎_elim, false, List, [], ◌∷◌, ◌++◌}
use Rattle.std.proofs.Common.{length, refl, sym, ap, ◌∙◌, append-nil, arith}
use Rattle.std.specs.Prelude.{◌==◌, map, Option, Some, None, Ok, Err}
use Rattle.std.proofs.lemmas.Bool.{cases_lt, ne_eqb}
use Rattle.std.proofs.lemmas.List.{length-map, length_push, map-append}
use Rattle.byte_formats.specs.Types.{Hash, HashFunction, Text}
use Rattle.byte_formats.specs.Readings.{◌>>=◌}
use Rattle.byte_formats.specs.Refusals.{answer_of}
use Rattle.tree_core.specs.Tree.{leaf_hash}
use Rattle.tree_peaks.specs.Peaks.{PeaksState, root_of_peaks, with_leaf, with_leaves}
use Rattle.monitor_core.proofs.Exact.{none_ok}
use Rattle.monitor_core.proofs.Growing.{with_leaves-last, with_leaves-size}
use Rattle.monitor_core.proofs.Reports.{report-last, report-none}
use Rattle.monitor_core.specs.Monitor.{found_of, grown_peaks, monitor_of, monitor_refusal}
use Rattle.monitor_core.specs.Monitor.{refusal_by}
use Rattle.monitor_core.specs.Report.{Findings, lines_of, report_of}
use Rattle.monitor_core.specs.States.{MonitorState, kept_peaks}
use Rattle.monitor_core.specs.Watched.{HasWatched, RunParts}
use Rattle.monitor_core.specs.declared.error.MonitorError.{MonitorError}
use Rattle.monitor_core.specs.declared.lines.Line.{Line}

-- no entry was taken
pub watched-none : (h : HashFunction) (r : RunParts) → r.count ≡ 0 → r.lines ≡ []
    → r.peaks ≡ kept_peaks r.state → HasWatched h r []
watched-none h r count lines peaks = record {
  count = count;
  found = λ few. (lines ∙ sym (report-none r.watch r.state.size), peaks);
}

-- how many leaves the peaks have
pub watched-size : (h : HashFunction) (r : RunParts) (entries : List Text) → HasWatched h r entries
    → r.state.size + length entries < 2 ^ 64 → r.peaks.size ≡ r.state.size + length entries
watched-size h r entries are few =
    ap (λ (p : PeaksState). p.size) (are.found few).1
    ∙ with_leaves-size h (kept_peaks r.state) (map (leaf_hash h) entries)
    ∙ ap (λ n. r.state.size + n) (length-map entries (leaf_hash h))

module _ (h : HashFunction) (state : MonitorState) (watch : List Text) (count : ℕ)
    (lines : List Line) (peaks : PeaksState) (entries : List Text) (entry : Text)
    (are : HasWatched h (record {
      state = state;
      watch = watch;
      count = count;
      lines = lines;
      peaks = peaks;
    }) entries) where
  abbrev Then : List Line → PeaksState → Type 0
  Then lines' peaks' = HasWatched h (record {
    state = state;
    watch = watch;
    count = count + 1;
    lines = lines';
    peaks = peaks';
  }) (entries ++ entry ∷ [])

  -- one entry more
  pub watched-more : (lines' : List Line) (peaks' : PeaksState)
      → lines' ≡ lines ++ lines_of watch (state.size + count) entry
      → peaks' ≡ with_leaf h peaks (leaf_hash h entry) → Then lines' peaks'
  watched-more lines' peaks' reported grown =
      let many = are.count in
      let more = length_push entries entry in
      record {
        count = omega arith;
        found = λ few.
            let old = are.found (omega arith) in (
              reported
                  ∙ ap (λ ls. ls ++ lines_of watch (state.size + count) entry) old.0
                  ∙ ap (λ n. report_of watch state.size entries
                  ++ lines_of watch (state.size + n) entry) many
                  ∙ sym (report-last watch state.size entries entry),
              grown
                  ∙ ap (λ p. with_leaf h p (leaf_hash h entry)) old.1
                  ∙ sym (with_leaves-last h (kept_peaks state) (map (leaf_hash h) entries)
                  (leaf_hash h entry))
                  ∙ ap (with_leaves h (kept_peaks state))
                  (sym (map-append (leaf_hash h) entries (entry ∷ []))),
            );
      }

  -- one that has no index
  pub watched-over : 2 ^ 64 ≤ state.size + count + 1 → Then lines peaks
  watched-over over =
      let many = are.count in
      let more = length_push entries entry in
      record { count = omega arith; found = λ few. absurd (omega arith) }

-- where the count is another, the root doesn't matter
refusal-other : (h : HashFunction) (s : MonitorState) (log : Text) (size : ℕ) (root : Hash)
    (proof : List Hash) (have : ℕ) (one other : Hash) → (have == size - s.size) ≡ false
    → refusal_by h s log size root proof have one ≡ refusal_by h s log size root proof have other
refusal-other h s log size root proof have one other is = rw is refl

module _ (h : HashFunction) (r : RunParts) (log : Text) (size : ℕ) (root : Hash)
    (proof : List Hash) (entries : List Text) (are : HasWatched h r entries) where
  abbrev By : ℕ → Hash → Option MonitorError
  By = refusal_by h r.state log size root proof

  pub refusal-same : r.state.size < 2 ^ 64 → size < 2 ^ 64
      → By r.count (root_of_peaks h r.peaks.peaks)
      ≡ monitor_refusal h r.state log size root proof entries
  unfolding monitor_refusal
  refusal-same small fits =
      let grown : Hash = root_of_peaks h (grown_peaks h r.state entries).peaks in
      let count : By r.count (root_of_peaks h r.peaks.peaks)
      ≡ By (length entries) (root_of_peaks h r.peaks.peaks) =
      ap (λ n. By n (root_of_peaks h r.peaks.peaks)) are.count in
      ⊎_elim
      (λ (few : r.state.size + length entries < 2 ^ 64). count
      ∙ ap (λ (p : PeaksState). By (length entries) (root_of_peaks h p.peaks)) (are.found few).1)
      (λ (many : 2 ^ 64 ≤ r.state.size + length entries). count
      ∙ refusal-other h r.state log size root proof (length entries)
      (root_of_peaks h r.peaks.peaks) grown
      (ne_eqb (length entries) (size - r.state.size) (λ same. absurd (omega arith))))
      (cases_lt (r.state.size + length entries) (2 ^ 64))

  -- what the run refuses is refused
  pub found-refused : r.state.size < 2 ^ 64 → size < 2 ^ 64 → (watch : List Text)
      → (e : MonitorError) → By r.count (root_of_peaks h r.peaks.peaks) ≡ Some e
      → monitor_of h r.state watch log size root proof entries ≡ Err e
  found-refused small fits watch e is =
      ap (λ refusal. answer_of refusal >>= λ passed. Ok (found_of h r.state watch entries))
      (sym (refusal-same small fits) ∙ is)

  -- and else this is found
  pub found-so : r.state.size < 2 ^ 64 → size < 2 ^ 64
      → By r.count (root_of_peaks h r.peaks.peaks) ≡ None → r.state.size + r.count ≡ size
      → (found : Findings) → found ≡ record {
        lines = r.lines;
        state = record { log = r.state.log; size = r.peaks.size; peaks = r.peaks.peaks };
      } → monitor_of h r.state r.watch log size root proof entries ≡ Ok found
  found-so small fits passed whole found is =
      let many = are.count in
      let all = are.found (omega arith) in
      none_ok _ (found_of h r.state r.watch entries) (sym (refusal-same small fits) ∙ passed)
      ∙ ap Ok (sym (is
      ∙ ap (λ ls. record {
        lines = ls;
        state = record { log = r.state.log; size = r.peaks.size; peaks = r.peaks.peaks };
      }) all.0
      ∙ ap (λ (p : PeaksState). record {
        lines = report_of r.watch r.state.size entries;
        state = record { log = r.state.log; size = p.size; peaks = p.peaks };
      }) all.1))
