use Rattle.std.proofs.Common.{arith, sym, true, ◌∙◌, ap}
use Rattle.std.proofs.lemmas.Bool.{cond-false, cond-true}
use Rattle.tree_proofs.proofs.Checked.{consistency-beyond, consistency-no_subtree}
use Rattle.tree_proofs.proofs.Checked.{consistency-opened}
use Rattle.tree_proofs.proofs.Fulls.{some_in}
use Rattle.tree_proofs.proofs.Opens.{open_of-height}
use Rattle.tree_proofs.specs.Consistency.{compared}
use Rattle.tree_proofs.proofs.checking.check.Goals as goal

pub returns-then-not-subtree_ok-clause-exact : goal.returns-then-not-subtree_ok-clause-exact
returns-then-not-subtree_ok-clause-exact g c =
    sym (consistency-no_subtree _ _ _ _ _ _ _ (sym c.if-not-subtree_ok.ensures))

pub returns-then-end-size-clause-exact : goal.returns-then-end-size-clause-exact
returns-then-end-size-clause-exact g c =
    sym (consistency-beyond _ _ _ _ _ _ _ (sym c.if-not-subtree_ok.ensures) c.if-end-size.true)

pub returns-in_default-clause-exact : goal.returns-in_default-clause-exact
returns-in_default-clause-exact g c =
    sym (consistency-opened _ _ _ _ _ _ _ (sym c.if-not-subtree_ok.ensures) c.if-end-size.false
    ∙ ap (compared c.args.node.now c.args.root.now) (sym c.opened.ensures ∙ c.in_default.is))

pub returns-then-ne-clause-exact : goal.returns-then-ne-clause-exact
returns-then-ne-clause-exact g c =
    sym (consistency-opened _ _ _ _ _ _ _ (sym c.if-not-subtree_ok.ensures) c.if-end-size.false
    ∙ ap (compared c.args.node.now c.args.root.now) (sym c.opened.ensures ∙ c.in-Some.is)
    ∙ cond-true _ _ _ (sym c.if-ne.ensures))

pub returns-then-ne-2-clause-exact : goal.returns-then-ne-2-clause-exact
returns-then-ne-2-clause-exact g c =
    sym (consistency-opened _ _ _ _ _ _ _ (sym c.if-not-subtree_ok.ensures) c.if-end-size.false
    ∙ ap (compared c.args.node.now c.args.root.now) (sym c.opened.ensures ∙ c.in-Some.is)
    ∙ cond-false _ _ _ (sym c.if-ne.ensures)
    ∙ cond-true _ _ _ (sym c.if-ne-2.ensures))

pub returns-clause-exact : goal.returns-clause-exact
returns-clause-exact g c =
    sym (consistency-opened _ _ _ _ _ _ _ (sym c.if-not-subtree_ok.ensures) c.if-end-size.false
    ∙ ap (compared c.args.node.now c.args.root.now) (sym c.opened.ensures ∙ c.in-Some.is)
    ∙ cond-false _ _ _ (sym c.if-ne.ensures)
    ∙ cond-false _ _ _ (sym c.if-ne-2.ensures))

pub opened-requires-clause-order : goal.opened-requires-clause-order
opened-requires-clause-order g c = some_in c.args.start c.args.end (sym c.if-not-subtree_ok.ensures)

pub returns-clause-short : goal.returns-clause-short
returns-clause-short g c =
    open_of-height g.H.TreeHash.hash c.args.start c.args.end c.args.size 64 true c.args.node.now
    c.args.proof.now _
    (some_in c.args.start c.args.end (sym c.if-not-subtree_ok.ensures)) c.if-end-size.false
    (omega arith)
    (sym c.opened.ensures ∙ c.in-Some.is)
