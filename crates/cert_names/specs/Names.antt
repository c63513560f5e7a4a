-- Names of one attribute, whose value is a UTF8String (RFC 5280, section 4.1.2.4).
use Rattle.std.specs.Prelude.{◌++◌}
use Rattle.byte_formats.specs.Types.{Text}
use Rattle.der_core.specs.Elements.{element}

-- The contents of the attribute: its identifier and its text.
abbrev pub attribute_contents : Text → Text → Text
attribute_contents identifier text = element 0x06 identifier ++ element 0x0C text

-- The contents of the set, which is of this attribute alone.
abbrev pub set_contents : Text → Text → Text
set_contents identifier text = element 0x30 (attribute_contents identifier text)

-- The contents of the name, which is of this set alone.
abbrev pub name_contents : Text → Text → Text
name_contents identifier text = element 0x31 (set_contents identifier text)

-- The name.
abbrev pub name_of : Text → Text → Text
name_of identifier text = element 0x30 (name_contents identifier text)
