-- The tables of subtrees, as a list takes one entry more.
use Rattle.std.proofs.Common.{◌≡◌, ℕ, ◌+◌, ◌-◌, ◌<◌, ◌≤◌, ⊎_elim, Bool, true, false, List, []}
use Rattle.std.proofs.Common.{◌∷◌, ◌++◌, length, take, drop, refl, sym, subst, ap, ◌∙◌, append-nil}
use Rattle.std.proofs.Common.{append_assoc, arith}
use Rattle.std.specs.Prelude.{◌==◌, if◌then◌else◌, map, Option, None, Some, Ok}
use Rattle.std.specs.List.{concat}
use Rattle.std.proofs.lemmas.Bool.{cases_lt, eqb-false, eqb-true}
use Rattle.std.proofs.lemmas.List.{drop-append-le, drop-map, length-append, length-drop, length-map}
use Rattle.std.proofs.lemmas.List.{length_push, map-append, take-append-le, take_all}
use Rattle.std.proofs.lemmas.List.Folds.{concat-append}
use Rattle.byte_formats.specs.Types.{Hash, HashFunction, Text}
use Rattle.landmarks.proofs.BothWays.{list_read}
use Rattle.landmarks.specs.Landmarks.{LandmarkList}
use Rattle.landmarks.specs.Texts.{list_of}
use Rattle.tree_core.specs.Laws.{IsSubtree}
use Rattle.tree_core.specs.Path.{part_of}
use Rattle.tree_core.specs.Tree.{leaf_hash, root_of, tree_hash}
use Rattle.tree_core.specs.declared.spans.Span.{Span}
use Rattle.tree_peaks.specs.Peaks.{ArePeaksOf, PeaksState}
use Rattle.mtc_relying.proofs.Trusted.{end-above, end-joined}
use Rattle.mtc_relying.specs.SubtreeTables.{AreInOrder, AreSubtreesOf, EndBy, HasTables}
use Rattle.mtc_relying.specs.SubtreeTables.{TablesState, closing_of}
use Rattle.mtc_relying.specs.TrustOutcome.{subtree_table, trust_text}

-- a part that ends in a list is the same in a longer one
part-kept : (entries more : List Text) (start end : ℕ) → end ≤ length entries
    → part_of (entries ++ more) start end ≡ part_of entries start end
part-kept entries more start end within =
    ⊎_elim
    (λ (some : start < end).
    let left = length-drop start entries in
    ap (take (end - start)) (drop-append-le start entries more (omega arith))
    ∙ take-append-le (end - start) (drop start entries) more (omega arith))
    (λ (none : end ≤ start).
    let empty : end - start ≡ 0 = omega arith in
    ap (λ n. take n (drop start (entries ++ more))) empty
    ∙ sym (ap (λ n. take n (drop start entries)) empty))
    (cases_lt start end)

-- and so is its table
tables-kept : (h : HashFunction) (entries more : List Text) (spans : List Span)
    → EndBy (length entries) spans
    → map (subtree_table h (entries ++ more)) spans ≡ map (subtree_table h entries) spans
tables-kept h entries more [] all = refl
tables-kept h entries more (span ∷ rest) all =
    rw (part-kept entries more span.start span.end all.0, tables-kept h entries more rest all.1)
    refl

end-more : (n : ℕ) (spans : List Span) → EndBy n spans → EndBy (n + 1) spans
end-more n [] all = tt
end-more n (span ∷ rest) all = let first = all.0 in (omega arith, end-more n rest all.1)

-- the part that ends with the new entry
pub closing-hash : (h : HashFunction) (entries : List Text) (entry : Text) (start : ℕ)
    → start ≤ length entries
    → root_of h (drop start (map (leaf_hash h) entries) ++ leaf_hash h entry ∷ [])
    ≡ tree_hash h (part_of (entries ++ entry ∷ []) start (length entries + 1))
closing-hash h entries entry start within =
    let part : List Text = drop start entries ++ entry ∷ [] in
    let left = length-drop start entries in
    let both = length-append (drop start entries) (entry ∷ []) in
    ap (λ ls. root_of h (ls ++ leaf_hash h entry ∷ [])) (drop-map (leaf_hash h) start entries)
    ∙ ap (root_of h) (sym (map-append (leaf_hash h) (drop start entries) (entry ∷ [])))
    ∙ ap (tree_hash h) (sym (ap (take (length entries + 1 - start))
    (drop-append-le start entries (entry ∷ []) within)
    ∙ take_all (length entries + 1 - start) part (omega arith)))

-- a subtree that ends with the next entry
pub record Closes (left : List Span) (size : ℕ) (span : Span) : Type 0 where
  pub rest : List Span
  pub is : left ≡ span ∷ rest
  pub subtree : IsSubtree span.start span.end
  pub end : span.end ≡ size + 1
  pub later : AreInOrder (size + 1) rest

pub closes : (left : List Span) (size : ℕ) (span : Span) → AreInOrder size left
    → closing_of left size ≡ Some span → Closes left size span
closes [] size span order is = absurd cc
closes (first ∷ rest) size span order is = tested (first.end == size + 1) refl is
  where
    tested : (b : Bool) → (first.end == size + 1) ≡ b → (if b then Some first else None) ≡ Some span
        → Closes (first ∷ rest) size span
    tested true test is =
        let same : first ≡ span = cc in
        let end : first.end ≡ size + 1 = eqb-true _ _ test in
        subst (Closes (first ∷ rest) size) same (record {
          rest = rest;
          is = refl;
          subtree = order.0;
          end = end;
          later = subst (λ n. AreInOrder n rest) end order.1.1;
        })
    tested false test is = absurd cc

-- or none does
pub passes : (left : List Span) (size : ℕ) → AreInOrder size left → closing_of left size ≡ None
    → AreInOrder (size + 1) left
passes [] size order is = tt
passes (first ∷ rest) size order is = tested (first.end == size + 1) refl is
  where
    tested : (b : Bool) → (first.end == size + 1) ≡ b
        → (if b then Some first else None) ≡ None
        → AreInOrder (size + 1) (first ∷ rest)
    tested true test is = absurd cc
    tested false test is =
        let before = order.1.0 in
        let other = eqb-false _ _ test in
        (order.0, (omega arith, order.1.1))

module _ (h : HashFunction) (spans : List Span) (done : ℕ) (text : Text) (peaks : PeaksState)
    (entries : List Text) (entry : Text) (are : HasTables h (record {
      spans = spans;
      done = done;
      text = text;
      peaks = peaks;
    }) entries) (peaks' : PeaksState)
    (grown : ArePeaksOf h (map (leaf_hash h) entries ++ leaf_hash h entry ∷ []) peaks') where
  abbrev Then : ℕ → Text → Type 0
  Then done' text' = HasTables h (record {
    spans = spans;
    done = done';
    text = text';
    peaks = peaks';
  }) (entries ++ entry ∷ [])

  leaves : ArePeaksOf h (map (leaf_hash h) (entries ++ entry ∷ [])) peaks'
  leaves = subst (λ ls. ArePeaksOf h ls peaks')
      (sym (map-append (leaf_hash h) entries (entry ∷ []))) grown

  more : length (entries ++ entry ∷ []) ≡ length entries + 1
  more = length_push entries entry

  -- no subtree ends with the entry
  pub tables-passed : closing_of are.left (length entries) ≡ None → Then done text
  tables-passed none = record {
    peaks = leaves;
    first = are.first;
    left = are.left;
    whole = are.whole;
    done = are.done;
    text = are.text ∙ ap concat (sym (tables-kept h entries (entry ∷ []) are.first are.ended));
    ended = subst (λ n. EndBy n are.first) (sym more) (end-more _ are.first are.ended);
    later = subst (λ n. AreInOrder n are.left) (sym more)
        (passes are.left (length entries) are.later none);
  }

  -- or one does, and has its table
  pub tables-closed : (span : Span) (text' : Text)
      → closing_of are.left (length entries) ≡ Some span
      → text' ≡ text ++ subtree_table h (entries ++ entry ∷ []) span → Then (done + 1) text'
  tables-closed span text' is put =
      let closed = closes are.left (length entries) span are.later is in
      let count = are.done in
      let pushed = length_push are.first span in
      let end = closed.end in
      let table = subtree_table h (entries ++ entry ∷ []) in
      record {
        peaks = leaves;
        first = are.first ++ span ∷ [];
        left = closed.rest;
        whole = are.whole
            ∙ ap (λ xs. are.first ++ xs) closed.is
            ∙ sym (append_assoc are.first (span ∷ []) closed.rest);
        done = omega arith;
        text = put
            ∙ ap (λ t. t ++ table span) (are.text
            ∙ ap concat (sym (tables-kept h entries (entry ∷ []) are.first are.ended)))
            ∙ ap (λ t. concat (map table are.first) ++ t) (sym (append-nil (table span)))
            ∙ sym (ap concat (map-append table are.first (span ∷ []))
            ∙ concat-append (map table are.first) (table span ∷ []));
        ended = subst (λ n. EndBy n (are.first ++ span ∷ [])) (sym more)
            (end-joined _ are.first (span ∷ []) (end-more _ are.first are.ended) (omega arith, tt));
        later = subst (λ n. AreInOrder n closed.rest) (sym more) closed.later;
      }

-- all subtrees that end in the list have their tables
pub all-closed : (n : ℕ) (first left : List Span) → EndBy n (first ++ left) → AreInOrder n left
    → left ≡ []
all-closed n [] [] all order = refl
all-closed n [] (span ∷ rest) all order =
    let end = all.0 in
    let over = order.1.0 in
    let none : ⊥ = omega arith in
    absurd none
all-closed n (x ∷ first) left all order = all-closed n first left all.1 order

-- all tables are those of the landmarks, where the log has their entries
pub listed : (h : HashFunction) (text : Text) (most count : ℕ) (l : LandmarkList)
    (entries : List Text) (t : TablesState) → list_of text most count ≡ Ok l
    → count ≡ length entries → AreSubtreesOf l t.spans → HasTables h t entries
    → t.text ≡ trust_text h entries l
listed h text most count l entries t read many of are =
    let within = (list_read text most count l read).1.1.within in
    let closed = all-closed (length entries) are.first are.left
    (subst (EndBy (length entries)) are.whole (end-above _ _ t.spans (omega arith) of.within))
    are.later in
    let whole : are.first ≡ t.spans =
    sym (are.whole ∙ ap (λ xs. are.first ++ xs) closed ∙ append-nil are.first) in
    are.text
    ∙ ap (λ spans. concat (map (subtree_table h entries) spans)) whole
    ∙ of.tables h entries
