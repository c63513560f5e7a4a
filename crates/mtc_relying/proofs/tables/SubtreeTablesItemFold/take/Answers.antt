use Rattle.std.proofs.Common.{◌≡◌, ◌+◌, [], ◌∷◌, ◌++◌, drop, length, ap, sym, subst, ◌∙◌, arith}
use Rattle.std.specs.Prelude.{map, string_bytes, Some, None}
use Rattle.std.proofs.lemmas.List.{length-map}
use Rattle.tree_core.specs.Path.{part_of}
use Rattle.tree_core.specs.Tree.{leaf_hash, root_of, tree_hash}
use Rattle.tree_peaks.specs.Peaks.{ArePeaksOf}
use Rattle.mtc_relying.proofs.Closing.{closes, closing-hash, tables-closed, tables-passed}
use Rattle.mtc_relying.specs.SubtreeTables.{HasTables, TablesState, closing_of}
use Rattle.mtc_relying.specs.TrustOutcome.{table_text}
use Rattle.mtc_relying.proofs.tables.SubtreeTablesItemFold.take.Goals as goal

pub returns-in_ok-put_table-in-Some-clause-taken : goal.returns-in_ok-put_table-in-Some-clause-taken
returns-in_ok-put_table-in-Some-clause-taken g c = λ items given.
    let h = g.H.TreeHash.hash in
    let s = c.self.inside in
    let es = items.entries in
    let e = c.args.entry.now in
    let are = subst (λ (t : TablesState). HasTables h t es) (sym c.self.view_is) given in
    let size = c.size.ensures ∙ are.peaks.size ∙ length-map es (leaf_hash h) in
    let span = c.in-Some.span in
    let is : closing_of are.left (length es) ≡ Some span =
    sym (ap (closing_of are.left) size)
    ∙ sym (c.closing.ensures.exact are.first are.left (c.as_slice.ensures.value ∙ are.whole)
    are.done)
    ∙ c.in-Some.is in
    let closed = closes are.left (length es) span are.later is in
    let end = closed.end in
    let some = closed.subtree.inhabited in
    let hash = c.root_from-hash.ensures (map (leaf_hash h) es) are.peaks
    ∙ ap (λ l. root_of h (drop span.start (map (leaf_hash h) es) ++ l ∷ [])) c.leaf-leaf.ensures
    ∙ closing-hash h es e span.start (omega arith)
    ∙ ap (λ n. tree_hash h (part_of (es ++ e ∷ []) span.start n)) (sym end) in
    tables-closed h s.spans.items s.done (string_bytes s.text) s.peaks es e are c.push.new.self
    (subst (λ l. ArePeaksOf h (map (leaf_hash h) es ++ l ∷ []) c.push.new.self)
    c.leaf-leaf.ensures (c.push.ensures.of (map (leaf_hash h) es) are.peaks)) span _ is
    (c.in_ok-put_table-in-Some.ensures ∙ ap (λ x. string_bytes s.text ++ table_text span x) hash)

pub returns-in-None-clause-taken : goal.returns-in-None-clause-taken
returns-in-None-clause-taken g c = λ items given.
    let h = g.H.TreeHash.hash in
    let s = c.self.inside in
    let es = items.entries in
    let e = c.args.entry.now in
    let are = subst (λ (t : TablesState). HasTables h t es) (sym c.self.view_is) given in
    let size = c.size.ensures ∙ are.peaks.size ∙ length-map es (leaf_hash h) in
    let is : closing_of are.left (length es) ≡ None =
    sym (ap (closing_of are.left) size)
    ∙ sym (c.closing.ensures.exact are.first are.left (c.as_slice.ensures.value ∙ are.whole)
    are.done)
    ∙ c.in-None.is in
    tables-passed h s.spans.items s.done (string_bytes s.text) s.peaks es e are
    c.push-in-None.new.self
    (subst (λ l. ArePeaksOf h (map (leaf_hash h) es ++ l ∷ []) c.push-in-None.new.self)
    c.leaf-leaf.ensures (c.push-in-None.ensures.of (map (leaf_hash h) es) are.peaks)) is
