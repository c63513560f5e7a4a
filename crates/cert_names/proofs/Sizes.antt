-- How long the parts of a name of one attribute are at most.
use Rattle.std.proofs.Common.{◌+◌, ◌≤◌, length, arith}
use Rattle.std.proofs.lemmas.List.{length-append}
use Rattle.byte_formats.specs.Types.{Text}
use Rattle.der_core.specs.Elements.{element}
use Rattle.der_core.proofs.Elements.{element-short}
use Rattle.cert_names.specs.Names.{attribute_contents, set_contents, name_contents, name_of}

pub attribute-size : (identifier text : Text) → length (attribute_contents identifier text)
    ≤ length identifier + length text + 10
attribute-size identifier text =
    omega (
      arith,
      length-append (element 6 identifier) (element 12 text),
      element-short 6 identifier,
      element-short 12 text,
    )

pub set-size : (identifier text : Text)
    → length (set_contents identifier text) ≤ length identifier + length text + 15
set-size identifier text = omega (
  arith,
  attribute-size identifier text,
  element-short 48 (attribute_contents identifier text),
)

pub name-size : (identifier text : Text) → length (name_contents identifier text)
    ≤ length identifier + length text + 20
name-size identifier text = omega (
  arith,
  set-size identifier text,
  element-short 49 (set_contents identifier text),
)

pub whole-size : (identifier text : Text)
    → length (name_of identifier text) ≤ length identifier + length text + 25
whole-size identifier text = omega (
  arith,
  name-size identifier text,
  element-short 48 (name_contents identifier text),
)
