use Rattle.std.proofs.Common.{sym, ◌∙◌, ap, arith}
use Rattle.std.specs.Prelude.{option_map}
use Rattle.tree_proofs.proofs.Opens.{open_of-left, open_of-none, open_of-over, open_of-right}
use Rattle.tree_proofs.proofs.Opens.{open_of-short, open_of-whole, part_from, part_more}
use Rattle.tree_proofs.specs.Open.{both_right_of, open_of, root_left_of, root_right_of}
use Rattle.tree_proofs.proofs.opening.+opened.Goals as goal

pub returns-then-end-size : goal.returns-then-end-size
returns-then-end-size g t c =
    c.whole.ensures
    ∙ sym (open_of-whole _ _ _ _ _ _ c.args.proof.now c.if-start-eq0.true c.if-end-size.true)

pub returns-in_err-sibling : goal.returns-in_err-sibling
returns-in_err-sibling g t c =
    let part = part_from c.args.start c.args.end c.args.size c.requires.within
    c.else-start-eq0.either in
    c.from_residual.ensures
    ∙ sym (open_of-short _ _ _ _ _ _ c.args.proof.now part c.in_err-sibling.ensures.cases)

pub split-middle-requires : goal.split-middle-requires
split-middle-requires g t c =
    let part = part_from c.args.start c.args.end c.args.size c.requires.within
    c.else-start-eq0.either in
    let more = part_more c.args.start c.args.end c.args.size c.requires.order
    c.requires.within part in
    omega arith

pub returns-then-end-middle : goal.returns-then-end-middle
returns-then-end-middle g t c =
    let h = g.H.TreeHash.hash in
    let split = sym c.split-middle.ensures.value in
    let inside = c.split-middle.ensures.inside in
    c.root_left.ensures
    ∙ ap (option_map (root_left_of h c.in_ok-sibling.sibling.now)) c.opened.ensures
    ∙ sym (ap (open_of h c.args.start c.args.end c.args.size c.args.known c.args.node.now)
    c.in_ok-sibling.ensures.cases.0
    ∙ open_of-left h c.args.start c.args.end c.args.size c.split-middle.result c.args.known
    c.args.node.now
    c.in_ok-sibling.sibling.now c.in_ok-sibling.rest.now (omega arith) split c.if-end-middle.true)

pub returns-then-middle-start : goal.returns-then-middle-start
returns-then-middle-start g t c =
    let h = g.H.TreeHash.hash in
    let split = sym c.split-middle.ensures.value in
    let inside = c.split-middle.ensures.inside in
    let following = c.if-middle-start.true in
    c.root_right.ensures
    ∙ ap (option_map (root_right_of h c.in_ok-sibling.sibling.now))
    c.opened-then-middle-start.ensures
    ∙ sym (ap (open_of h c.args.start c.args.end c.args.size c.args.known c.args.node.now)
    c.in_ok-sibling.ensures.cases.0
    ∙ open_of-right h c.args.start c.args.end c.args.size c.split-middle.result _ _ _ c.args.known
    c.args.node.now
    c.in_ok-sibling.sibling.now c.in_ok-sibling.rest.now (omega arith) split (omega arith)
    (omega arith) (omega arith) (omega arith))

pub returns-then-start-gt0 : goal.returns-then-start-gt0
returns-then-start-gt0 g t c =
    let h = g.H.TreeHash.hash in
    let split = sym c.split-middle.ensures.value in
    let inside = c.split-middle.ensures.inside in
    sym (ap (open_of h c.args.start c.args.end c.args.size c.args.known c.args.node.now)
    c.in_ok-sibling.ensures.cases.0
    ∙ open_of-none h c.args.start c.args.end c.args.size c.split-middle.result c.args.known
    c.args.node.now
    c.in_ok-sibling.sibling.now c.in_ok-sibling.rest.now (omega arith) split c.if-start-gt0.true
    c.if-middle-start.false c.if-end-middle.false)

pub returns : goal.returns
returns g t c =
    let h = g.H.TreeHash.hash in
    let split = sym c.split-middle.ensures.value in
    let inside = c.split-middle.ensures.inside in
    c.both_right.ensures
    ∙ ap (option_map (both_right_of h c.in_ok-sibling.sibling.now)) c.opened-2.ensures
    ∙ sym (ap (open_of h c.args.start c.args.end c.args.size c.args.known c.args.node.now)
    c.in_ok-sibling.ensures.cases.0
    ∙ open_of-over h c.args.start c.args.end c.args.size c.split-middle.result _ _ c.args.known
    c.args.node.now
    c.in_ok-sibling.sibling.now c.in_ok-sibling.rest.now (omega arith) split (omega arith)
    (omega arith) (omega arith) (omega arith) (omega arith))
