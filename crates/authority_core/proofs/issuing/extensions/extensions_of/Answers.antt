use Rattle.std.proofs.Common.{length, ap, ◌∙◌, arith}
use Rattle.der_core.specs.Elements.{element}
use Rattle.authority_core.proofs.Sizes.{contents-short, extension-short, sequence-short}
use Rattle.authority_core.proofs.issuing.extensions.extensions_of.Goals as goal

pub element_of-requires-clause-short : goal.element_of-requires-clause-short
element_of-requires-clause-short c =
    omega (
      arith,
      ap length (c.as_slice.ensures ∙ c.in_ok-contents.ensures.value),
      contents-short c.args.request.now c.alt_name.ensures.valid,
    )

pub element_of-requires-2-clause-short : goal.element_of-requires-2-clause-short
element_of-requires-2-clause-short c =
    let inner = c.as_slice.ensures ∙ c.in_ok-contents.ensures.value in
    let outer = c.as_slice-2.ensures ∙ c.in_ok-extension.ensures ∙ ap (element 48) inner in
    omega (arith, ap length outer, extension-short c.args.request.now c.alt_name.ensures.valid)

pub element_of-requires-3-clause-short : goal.element_of-requires-3-clause-short
element_of-requires-3-clause-short c =
    let inner = c.as_slice.ensures ∙ c.in_ok-contents.ensures.value in
    let middle = c.as_slice-2.ensures ∙ c.in_ok-extension.ensures ∙ ap (element 48) inner in
    let outer = c.as_slice-3.ensures ∙ c.in_ok-list.ensures ∙ ap (element 48) middle in
    omega (arith, ap length outer, sequence-short c.args.request.now c.alt_name.ensures.valid)
