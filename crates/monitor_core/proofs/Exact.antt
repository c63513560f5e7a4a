-- A run is answered with what was found exactly if the new entries lead on.
use Rattle.std.proofs.Common.{◌≡◌, ℕ, ◌+◌, ◌-◌, Bool, true, false, List, ◌++◌, length, refl, sym}
use Rattle.std.proofs.Common.{ap, ◌∙◌, subst, arith}
use Rattle.std.specs.Prelude.{◌==◌, not, nat_le, if◌then◌else◌, map, Option, Some, None, Ok, is_ok}
use Rattle.std.specs.Prelude.{bytes_eq}
use Rattle.std.proofs.lemmas.Bool.{eq-eqb, eqb-true, leb-false, lt-leb, not-false}
use Rattle.std.proofs.lemmas.List.{length-append, length-map, map-append}
use Rattle.std.proofs.lemmas.Slice.Eq.{bytes_eq-Decides}
use Rattle.byte_formats.specs.Types.{Hash, HashFunction, Text}
use Rattle.byte_formats.specs.Readings.{◌>>=◌}
use Rattle.byte_formats.specs.Refusals.{answer_of}
use Rattle.tree_core.specs.Tree.{leaf_hash, tree_hash}
use Rattle.tree_proofs.proofs.Checkpoints.{CheckpointsAreShown_always}
use Rattle.tree_proofs.specs.Checkpoints.{is_prefix_of}
use Rattle.tree_proofs.specs.declared.checkpoint.Checkpoint.{Checkpoint}
use Rattle.tree_peaks.proofs.Pushing.{no_leaves, takes-leaves}
use Rattle.tree_peaks.proofs.Tops.{root-peaks}
use Rattle.tree_peaks.specs.Peaks.{ArePeaksOf, root_of_peaks}
use Rattle.monitor_core.specs.Laws.{HasReported, LeadsOn, MonitorIsExact, list_checkpoint}
use Rattle.monitor_core.specs.Monitor.{found_of, grown_peaks, kept_checkpoint, monitor_refusal}
use Rattle.monitor_core.specs.Report.{Findings, report_of}
use Rattle.monitor_core.specs.States.{IsStateOf, MonitorState, kept_peaks}

-- ---- refusals

-- the tests of a run are passed
pub record Passes (h : HashFunction) (s : MonitorState) (log : Text) (size : ℕ) (root : Hash)
    (proof : List Hash) (entries : List Text) : Type 0 where
  pub id : bytes_eq log s.log ≡ true
  pub newer : nat_le size s.size ≡ false
  pub count : (length entries == size - s.size) ≡ true
  pub shown : is_prefix_of h (kept_checkpoint h s) size root proof ≡ true
  pub found : bytes_eq (root_of_peaks h (grown_peaks h s entries).peaks) root ≡ true

-- a test that refused nothing
none_left : {E : Type 0} (b : Bool) (e : E) (more : Option E)
    → (if b then Some e else more) ≡ None → (b ≡ false) × (more ≡ None)
none_left true e more is = absurd cc
none_left false e more is = (refl, is)

refused_none : {E : Type 0} (b : Bool) (e : E) → (if b then Some e else None) ≡ None → b ≡ false
refused_none true e is = absurd cc
refused_none false e is = refl

module _ (h : HashFunction) (s : MonitorState) (log : Text) (size : ℕ) (root : Hash)
    (proof : List Hash) (entries : List Text) where
  pub passes : monitor_refusal h s log size root proof entries ≡ None
      → Passes h s log size root proof entries
  unfolding monitor_refusal
  passes is =
      let first = none_left (not (bytes_eq log s.log)) _ _ is in
      let second = none_left (nat_le size s.size) _ _ first.1 in
      let third = none_left (not (length entries == size - s.size)) _ _ second.1 in
      let fourth =
      none_left (not (is_prefix_of h (kept_checkpoint h s) size root proof)) _ _ third.1 in
      let fifth = none_left
      (not (bytes_eq (root_of_peaks h (grown_peaks h s entries).peaks) root)) _ _ fourth.1 in
      record {
        id = not-false _ first.0;
        newer = second.0;
        count = not-false _ third.0;
        shown = not-false _ fourth.0;
        found = not-false _ fifth.0;
      }

  pub passed : Passes h s log size root proof entries
      → monitor_refusal h s log size root proof entries ≡ None
  unfolding monitor_refusal
  passed all =
      let id = all.id in
      let newer = all.newer in
      let count = all.count in
      let shown = all.shown in
      let found = all.found in
      rw (id, newer, count, shown, found) refl

-- an answer is Ok exactly if nothing is refused
ok_none : {A E : Type 0} (refusal : Option E) (x : A)
    → is_ok (answer_of refusal >>= λ passed. Ok x) ≡ true → refusal ≡ None
ok_none None x is = refl
ok_none (Some e) x is = absurd cc

pub none_ok : {A E : Type 0} (refusal : Option E) (x : A) → refusal ≡ None
    → (answer_of refusal >>= λ passed. Ok x) ≡ Ok x
none_ok None x is = refl
none_ok (Some e) x is = absurd cc

ok_found : {A E : Type 0} (refusal : Option E) (x y : A)
    → (answer_of refusal >>= λ passed. Ok x) ≡ Ok y → x ≡ y
ok_found None x y is = cc
ok_found (Some e) x y is = absurd cc

-- ---- lists

module _ (h : HashFunction) (s : MonitorState) (old : List Text) (are : IsStateOf h old s) where
  pub state-size : s.size ≡ length old
  state-size = are.size ∙ length-map old (leaf_hash h)

  pub state-root : root_of_peaks h s.peaks ≡ tree_hash h old
  state-root = ap (root_of_peaks h) are.peaks ∙ root-peaks h (map (leaf_hash h) old)

  pub state-checkpoint : kept_checkpoint h s ≡ list_checkpoint h old
  state-checkpoint =
      ap (λ n. record { size = n; root = root_of_peaks h s.peaks }) state-size
      ∙ ap (λ r. record { size = length old; root = r }) state-root

  pub grown-are : (new : List Text)
      → ArePeaksOf h (map (leaf_hash h) (old ++ new)) (grown_peaks h s new)
  grown-are new =
      let P : List Hash → Type 0 = λ leaves. ArePeaksOf h leaves (grown_peaks h s new) in
      subst P (sym (map-append (leaf_hash h) old new))
      (takes-leaves h (map (leaf_hash h) old) (kept_peaks s) (map (leaf_hash h) new) are)

  pub grown-root : (new : List Text)
      → root_of_peaks h (grown_peaks h s new).peaks ≡ tree_hash h (old ++ new)
  grown-root new =
      ap (root_of_peaks h) (grown-are new).peaks ∙ root-peaks h (map (leaf_hash h) (old ++ new))

  pub leads_on : (log : Text) (size : ℕ) (root : Hash) (proof : List Hash) (new : List Text)
      → Passes h s log size root proof new → LeadsOn h s.log log size root proof old new
  leads_on log size root proof new all =
      let kept = state-size in
      let above = leb-false size s.size all.newer in
      let count = eqb-true (length new) (size - s.size) all.count in
      let both = length-append old new in
      let P : Checkpoint → Type 0 = λ held. is_prefix_of h held size root proof ≡ true in
      let prefix = (CheckpointsAreShown_always h).prefix (list_checkpoint h old) size root proof in
      record {
        id = (bytes_eq-Decides log s.log).0 all.id;
        whole = omega arith;
        newer = omega arith;
        shown = prefix.0 (subst P state-checkpoint all.shown);
        hash = sym (grown-root new) ∙ (bytes_eq-Decides _ root).0 all.found;
      }

  pub leads-pass : (log : Text) (size : ℕ) (root : Hash) (proof : List Hash) (new : List Text)
      → LeadsOn h s.log log size root proof old new → Passes h s log size root proof new
  leads-pass log size root proof new leads =
      let kept = state-size in
      let whole = leads.whole in
      let above = leads.newer in
      let both = length-append old new in
      let P : Checkpoint → Type 0 = λ held. is_prefix_of h held size root proof ≡ true in
      let prefix = (CheckpointsAreShown_always h).prefix (list_checkpoint h old) size root proof in
      record {
        id = (bytes_eq-Decides log s.log).1 leads.id;
        newer = lt-leb size s.size (omega arith);
        count = eq-eqb (length new) (size - s.size) (omega arith);
        shown = subst P (sym state-checkpoint) (prefix.1 leads.shown);
        found = (bytes_eq-Decides _ root).1 (grown-root new ∙ leads.hash);
      }

  pub has_found : (watch : List Text) (new : List Text)
      → HasReported h s watch old new (found_of h s watch new)
  has_found watch new = record {
    lines = ap (λ n. report_of watch n new) state-size;
    log = refl;
    state = record { size = (grown-are new).size; peaks = (grown-are new).peaks };
  }

pub MonitorIsExact_always : (h : HashFunction) → MonitorIsExact h
MonitorIsExact_always h = record {
  empty = λ log. no_leaves h;
  ok = λ kept watch log size root proof old new are. (
    λ is. leads_on h kept old are log size root proof new
        (passes h kept log size root proof new
        (ok_none (monitor_refusal h kept log size root proof new) (found_of h kept watch new) is)),
    λ leads. ap is_ok (none_ok (monitor_refusal h kept log size root proof new)
        (found_of h kept watch new) (passed h kept log size root proof new
        (leads-pass h kept old are log size root proof new leads))),
  );
  found = λ kept watch log size root proof old new found are is.
      let P : Findings → Type 0 = HasReported h kept watch old new in
      subst P (ok_found (monitor_refusal h kept log size root proof new)
      (found_of h kept watch new) found is) (has_found h kept old are watch new);
}
