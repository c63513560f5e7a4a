-- Two monitors whose texts end with one line.
use Rattle.std.proofs.Common.{◌≡◌, ℕ, zero, suc, ◌<◌, ◌^◌, List, [], ◌∷◌, ◌++◌, length, take}
use Rattle.std.proofs.Common.{drop, sym, ap, ◌∙◌, subst, arith}
use Rattle.std.specs.Prelude.{map, count_ones}
use Rattle.std.specs.List.{AllByRecursion, flat_map}
use Rattle.byte_formats.specs.Types.{Hash, HashFunction, Text}
use Rattle.collide.specs.Laws.{ListsExtract}
use Rattle.tls_wire.specs.Arcs.{IsAnchorId}
use Rattle.tree_core.specs.Split.{split_of}
use Rattle.tree_core.specs.Tree.{leaf_hash, root_of}
use Rattle.tree_core.proofs.Roots.{root_of-none, root_of-one, root_of-split}
use Rattle.tree_peaks.specs.Peaks.{peaks_of, peaks_within, top_of}
use Rattle.tree_peaks.proofs.Tops.{count-peaks}
use Rattle.monitor_core.proofs.Exact.{state-size}
use Rattle.monitor_core.proofs.ReadBack.{one_state}
use Rattle.monitor_core.proofs.Runs.{EachEntryOnce_always, last_log, monitors_saw_one}
use Rattle.monitor_core.specs.Chains.{AreRuns, GivesHashes, LastLinesAreOfOneList, MonitorRun}
use Rattle.monitor_core.specs.Chains.{last_state, run_entries}
use Rattle.monitor_core.specs.Report.{Findings}
use Rattle.monitor_core.specs.States.{IsHash, IsKept, IsStateOf, MonitorState, empty_state}

-- ---- what the peaks of a list are

all_taken : (P : Hash → Type 0) (n : ℕ) (xs : List Hash) → AllByRecursion P xs
    → AllByRecursion P (take n xs)
all_taken P zero xs all = tt
all_taken P (suc n) [] all = tt
all_taken P (suc n) (x ∷ xs) all = (all.0, all_taken P n xs all.1)

all_dropped : (P : Hash → Type 0) (n : ℕ) (xs : List Hash) → AllByRecursion P xs
    → AllByRecursion P (drop n xs)
all_dropped P zero xs all = all
all_dropped P (suc n) [] all = tt
all_dropped P (suc n) (x ∷ xs) all = all_dropped P n xs all.1

module _ (h : HashFunction) (gives : GivesHashes h) where
  root_is : (leaves : List Hash) → AllByRecursion IsHash leaves → IsHash (root_of h leaves)
  root_is [] all = subst IsHash (sym (root_of-none h)) (gives [])
  root_is (x ∷ []) all = subst IsHash (sym (root_of-one h x)) all.0
  root_is (x ∷ y ∷ rest) all =
      let leaves : List Hash = x ∷ y ∷ rest in
      let k : ℕ = split_of (length leaves) in
      subst IsHash (sym (root_of-split h leaves (omega arith)))
      (gives (1 ∷ root_of h (take k leaves) ++ root_of h (drop k leaves)))

  within_are : (depth : ℕ) (leaves : List Hash) → AllByRecursion IsHash leaves
      → AllByRecursion IsHash (peaks_within depth h leaves)
  unfolding peaks_within
  within_are zero leaves all = tt
  within_are (suc depth) [] all = tt
  within_are (suc depth) (x ∷ rest) all =
      let leaves : List Hash = x ∷ rest in
      let k : ℕ = top_of (length leaves) in (
        root_is (take k leaves) (all_taken IsHash k leaves all),
        within_are depth (drop k leaves) (all_dropped IsHash k leaves all),
      )

  peaks_are : (leaves : List Hash) → AllByRecursion IsHash leaves
      → AllByRecursion IsHash (peaks_of h leaves)
  unfolding peaks_of
  peaks_are leaves all = within_are (length leaves) leaves all

  leaves_are : (entries : List Text) → AllByRecursion IsHash (map (leaf_hash h) entries)
  leaves_are [] = tt
  leaves_are (entry ∷ entries) = (gives (0 ∷ entry), leaves_are entries)

  -- the state of a list can stand in a text
  pub kept_of : (entries : List Text) (state : MonitorState) → IsStateOf h entries state
      → IsAnchorId state.log → length entries < 2 ^ 63 → IsKept state
  kept_of entries state are id few =
      let leaves : List Hash = map (leaf_hash h) entries in
      let size = state-size h state entries are in
      let peaks = are.peaks in
      record {
        log = id;
        size = omega arith;
        count = ap length peaks ∙ count-peaks h leaves ∙ ap count_ones (sym are.size);
        hashes = subst (AllByRecursion IsHash) (sym peaks) (peaks_are leaves (leaves_are entries));
      }

  last_kept : (log : Text) (watch : List Text) (runs : List MonitorRun) (found : List Findings)
      → IsAnchorId log → AreRuns h watch (empty_state log) runs found
      → length (flat_map run_entries runs) < 2 ^ 63 → IsKept (last_state (empty_state log) found)
  last_kept log watch runs found id all few =
      kept_of (flat_map run_entries runs) (last_state (empty_state log) found)
      (EachEntryOnce_always h log watch runs found all).1
      (subst IsAnchorId (sym (last_log h watch log runs found all)) id) few

pub last_lines_of_one : (h : HashFunction) → ListsExtract h → LastLinesAreOfOneList h
last_lines_of_one h extract log watch other_watch runs others found other_found gives id one other
    few many same =
    monitors_saw_one h extract log watch other_watch runs others found other_found one other
    (one_state (last_state (empty_state log) found) (last_state (empty_state log) other_found)
    (last_kept h gives log watch runs found id one few)
    (last_kept h gives log other_watch others other_found id other many) same)
