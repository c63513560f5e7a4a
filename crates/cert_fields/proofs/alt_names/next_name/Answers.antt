use Rattle.std.proofs.Common.{ap, ◌∙◌}
use Rattle.cert_fields.specs.AltNames.{names_left}
use Rattle.cert_fields.proofs.Walks.{names_more, names_found, names_end}
use Rattle.der_core.specs.Items.{item}
use Rattle.cert_fields.proofs.alt_names.next_name.Goals as goal

pub returns-then-element : goal.returns-then-element
returns-then-element c =
    names_found _ c.loop-element.reader (item c.in-Ok.element) c.element.new.self
    c.in-Ok.ensures.exact c.if-element.true c.loop-element.invariant

pub loop-element-preserved : goal.loop-element-preserved
loop-element-preserved c =
    names_more _ c.loop-element.reader (item c.in-Ok.element) c.element.new.self
    c.in-Ok.ensures.exact c.if-element.false c.loop-element.invariant

pub returns : goal.returns
returns c =
    let none = names_end c.loop-element.reader _ c.in_default.ensures.exact.0 in
    (c.loop-element.invariant ∙ none, ap names_left c.in_default.ensures.exact.1 ∙ none)
