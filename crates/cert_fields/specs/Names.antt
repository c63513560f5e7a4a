-- Names (RFC 5280, section 4.1.2.4).
use Rattle.std.specs.Prelude.{◌==◌, length, Ok, Err, if◌then◌else◌}
use Rattle.byte_formats.specs.Types.{Text}
use Rattle.byte_formats.specs.Readings.{◌>>=◌, both_at, discarded, Reading}
use Rattle.byte_formats.specs.Lists.{up_to_end}
use Rattle.der_core.specs.Items.{inside}
use Rattle.der_core.specs.Reading.{wanted_at, end_at}
use Rattle.der_core.specs.Contents.{oid_of}
use Rattle.der_core.specs.Sets.{order_of}
use Rattle.der_core.specs.Fields.{der, whole_at, decoded_at, any_at}
use Rattle.der_core.specs.declared.fault.CertError.{CertError}
use Rattle.der_core.specs.declared.fault.CertError.TheVariants.{BadName}

-- AttributeTypeAndValue: an object identifier and one element.
unfoldable pub attribute_at : Reading Text CertError
attribute_at = whole_at 0x30 (both_at (decoded_at 0x06 oid_of) any_at)

-- RelativeDistinguishedName: a SET OF attributes, at least one, in rising order. First it is not
-- empty, then its elements rise, then each is an attribute.
unfoldable pub set_at : Reading Text CertError
set_at a =
    der (wanted_at 0x31 a) >>= λ e.
    (if length e.0.contents == 0 then Err BadName
    else (der (order_of e.0) >>= λ risen.
    discarded (up_to_end attribute_at (inside e.0)) >>= λ b.
    der (end_at b) >>= λ done. Ok (e.0.whole, e.1)))

-- Name: sets, one after the other, or none.
unfoldable pub name_at : Reading Text CertError
name_at = whole_at 0x30 (up_to_end set_at)
