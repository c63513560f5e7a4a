use Rattle.std.proofs.Common.{◌≡◌, ◌+◌, ◌-◌, ◌++◌, ap, sym, ◌∙◌, arith}
use Rattle.byte_formats.specs.Types.{Text}
use Rattle.mtc_authority.specs.ListOutcomes.{issued_lines}
use Rattle.mtc_authority.proofs.IssuedLists.{lines_end, lines_more, lines_none}
use Rattle.mtc_authority.proofs.issue_list.lines_from.Goals as goal

pub loop-index-init : goal.loop-index-init
loop-index-init c = c.new-text.ensures ∙ sym (lines_none c.args.first)

pub loop-index-preserved : goal.loop-index-preserved
loop-index-preserved c =
    let first = c.args.first in
    let index = c.loop-index.index in
    c.in_ok-append.ensures.ok
    ∙ ap (λ (t : Text). t ++ c.as_slice.result.now) c.loop-index.invariant
    ∙ ap (λ (t : Text). issued_lines first (index - first) ++ t)
    (c.as_slice.ensures ∙ c.in_ok-line.ensures)
    ∙ sym (lines_more first index (omega arith))

pub returns : goal.returns
returns c =
    let end : c.loop-index.index ≡ c.args.first + c.args.count =
    omega (arith, c.loop-index.auto.index-end (omega arith)) in
    lines_end c.args.first c.args.count c.loop-index.index c.loop-index.text end
    c.loop-index.invariant
