use Rattle.std.proofs.Common.{◌∙◌, arith, inl, inr}
use Rattle.mirror_core.specs.Words.{mirror_by_both, mirror_view}
use Rattle.mirror_cosigner.proofs.Hashed.{root_there, sized_by_both}
use Rattle.mirror_cosigner.proofs.comparing.own_root.Goals.{else-held-size, then-held-size}
use Rattle.mirror_cosigner.proofs.comparing.own_root.Goals as goal

pub returns-clause-hash : goal.returns-clause-hash
returns-clause-hash g c =
    let mirror = c.args.mirror.now in
    root_there g.H.TreeHash.hash (mirror_view mirror).size c.args.held c.if-held-size.there
    (mirror_by_both mirror)
    (elim c.if-held-size.branch [
      | then-held-size w ↦ inl w.there-is
      | else-held-size w ↦ inr (w.there-is ∙ c.size-size.ensures.value, omega arith)
    ])
    (sized_by_both mirror) c.root_of.result c.root_of.ensures.hash
