use Rattle.std.proofs.Common.{length, ap, ◌∙◌, arith}
use Rattle.der_core.specs.Elements.{element}
use Rattle.cert_names.proofs.Sizes.{attribute-size, set-size, name-size}
use Rattle.cert_names.proofs.names.name_of.Goals as goal

pub element_of-requires-clause-short : goal.element_of-requires-clause-short
element_of-requires-clause-short c =
    omega (
      arith,
      ap length (c.as_slice.ensures ∙ c.in_ok-inner.ensures),
      attribute-size c.args.identifier.now c.args.text.now,
      c.requires,
    )

pub element_of-requires-2-clause-short : goal.element_of-requires-2-clause-short
element_of-requires-2-clause-short c =
    let inner = c.as_slice.ensures ∙ c.in_ok-inner.ensures in
    let outer = c.as_slice-2.ensures ∙ c.in_ok-attribute.ensures ∙ ap (element 48) inner in
    omega (arith, ap length outer, set-size c.args.identifier.now c.args.text.now, c.requires)

pub element_of-requires-3-clause-short : goal.element_of-requires-3-clause-short
element_of-requires-3-clause-short c =
    let inner = c.as_slice.ensures ∙ c.in_ok-inner.ensures in
    let middle = c.as_slice-2.ensures ∙ c.in_ok-attribute.ensures ∙ ap (element 48) inner in
    let outer = c.as_slice-3.ensures ∙ c.in_ok-set.ensures ∙ ap (element 49) middle in
    omega (arith, ap length outer, name-size c.args.identifier.now c.args.text.now, c.requires)
