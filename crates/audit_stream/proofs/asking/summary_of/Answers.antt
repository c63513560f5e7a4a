use Rattle.std.proofs.Common.{[], ap, ◌∙◌}
use Rattle.std.specs.Prelude.{slice_index_or}
use Rattle.tree_core.specs.Path.{part_of}
use Rattle.tree_core.specs.Tree.{tree_hash}
use Rattle.audit_stream.proofs.Asked.{end_asked, index_asked, start_asked}
use Rattle.audit_stream.proofs.asking.summary_of.Goals as goal

pub returns : goal.returns
returns g c = λ items wanted index taken made.
    let h = g.H.TreeHash.hash in
    let fold = c.args.fold.now in
    let r = fold.first in
    let p = fold.second in
    let at = index_asked r.start r.end p.index wanted index made in
    record {
      count = c.len.ensures items taken.0;
      part_hash = λ w some. c.root-part_hash.ensures items taken.0
          ∙ (λ i. tree_hash h (part_of items.entries
          (start_asked r.start r.end p.index wanted index w made some i)
          (end_asked r.start r.end p.index wanted index w made some i)));
      entry = c.entry.ensures ∙ taken.1.entry ∙ ap (λ n. slice_index_or items.entries n []) at;
      spki = c.spki.ensures ∙ taken.1.spki ∙ ap (λ n. slice_index_or items.keys n []) at;
    }
