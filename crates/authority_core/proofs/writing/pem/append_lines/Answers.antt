use Rattle.std.proofs.Common.{◌≡◌, ◌-◌, length, ap, sym, ◌∙◌, arith}
use Rattle.std.proofs.lemmas.List.{length-drop}
use Rattle.byte_formats.specs.Types.{Text}
use Rattle.authority_core.proofs.Lines.{line_more, lines_whole, none_left, some_left}
use Rattle.authority_core.proofs.writing.pem.append_lines.Goals as goal

pub loop-rest-smaller : goal.loop-rest-smaller
loop-rest-smaller c =
    let rest = c.loop-rest.rest.now in
    let some = some_left rest (sym c.is_empty.ensures ∙ c.loop-rest-test.true) in
    let shorter : length c.first_line.result.1.now ≡ length rest - 64 =
    ap (λ (t : Text). length t) c.first_line.ensures.later ∙ length-drop 64 rest in
    omega (arith, some, shorter)

pub loop-rest-preserved : goal.loop-rest-preserved
loop-rest-preserved c =
    let rest = c.loop-rest.rest.now in
    line_more c.loop-rest.out c.append_both.new.self rest c.first_line.result.0.now
    c.first_line.result.1.now _
    (some_left rest (sym c.is_empty.ensures ∙ c.loop-rest-test.true)) c.loop-rest.invariant
    c.first_line.ensures.line c.first_line.ensures.later c.in_ok-append_both.ensures.ok

pub returns : goal.returns
returns c =
    lines_whole c.loop-rest.out c.loop-rest.rest.now _
    (none_left c.loop-rest.rest.now (sym c.is_empty.ensures ∙ c.loop-rest-test.false))
    c.loop-rest.invariant
