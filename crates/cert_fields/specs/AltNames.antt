-- The names in a subjectAltName (RFC 5280, section 4.2.1.6).
use Rattle.std.specs.Prelude.{ℕ, nat_lt, ◌==◌, ◌&&◌, ◌||◌, Bool, true, List, [], ◌∷◌, Result, Ok}
use Rattle.std.specs.Prelude.{Err, if◌then◌else◌}
use Rattle.std.specs.List.{list_all}
use Rattle.byte_formats.specs.Types.{Text}
use Rattle.byte_formats.specs.Offsets.{At, at}
use Rattle.byte_formats.specs.Readings.{◌>>=◌, some_at, is_read, Reading}
use Rattle.byte_formats.specs.Lists.{up_to_end}
use Rattle.byte_formats.specs.Left.{left_at}
use Rattle.der_core.specs.Items.{Item, inside}
use Rattle.der_core.specs.Reading.{element_at, wanted_at}
use Rattle.der_core.specs.Fields.{der, whole_at, all_of}
use Rattle.der_core.specs.declared.fault.DerError.{DerError}
use Rattle.der_core.specs.declared.fault.CertError.{CertError}
use Rattle.der_core.specs.declared.fault.CertError.TheVariants.{BadExtension}

-- The tag of a dNSName.
abbrev pub dns_name : ℕ
dns_name = 0x82

-- A GeneralName that the contents allow: rfc822Name, dNSName, uniformResourceIdentifier, iPAddress,
-- registeredID, otherName, x400Address, directoryName or ediPartyName.
abbrev pub is_name_tag : ℕ → Bool
is_name_tag tag =
    tag == 0x81 || tag == dns_name || tag == 0x86 || tag == 0x87 || tag == 0x88 || tag == 0xA0
    || tag == 0xA3 || tag == 0xA4 || tag == 0xA5

-- The bytes are ASCII.
abbrev pub is_ascii : Text → Bool
is_ascii bytes = list_all (λ b. nat_lt b 0x80) bytes

-- One of these tags; a dNSName is ASCII.
abbrev pub is_general_name : ℕ → Text → Bool
is_general_name tag contents =
    is_name_tag tag && (if tag == dns_name then is_ascii contents else true)

-- GeneralName.
unfoldable pub general_name_at : Reading Text CertError
general_name_at a =
    der (element_at a) >>= λ e.
    if is_general_name e.0.tag e.0.contents then Ok (e.0.whole, e.1) else Err BadExtension

-- GeneralNames: a SEQUENCE of names, at least one.
unfoldable pub general_names_at : Reading Text CertError
general_names_at = whole_at 0x30 (some_at BadExtension (up_to_end general_name_at))

-- The octets are GeneralNames and nothing else.
unfoldable pub are_general_names : Text → Bool
are_general_names octets = is_read (all_of general_names_at octets)

-- The contents of the dNSNames among elements.
abbrev pub dns_among : List Item → List Text
dns_among [] = []
dns_among (e ∷ es) = if e.tag == dns_name then e.contents ∷ dns_among es else dns_among es

-- The dNSNames among elements that stand one after the other, up to the first that doesn't read.
abbrev pub names_left : At → List Text
names_left a = dns_among (left_at element_at a)

-- Those inside of an element that was read; none where none was.
abbrev pub names_inside : Result (Item × At) DerError → List Text
names_inside (Ok e) = names_left (inside e.0)
names_inside (Err fault) = []

-- The dNSNames in the octets of a subjectAltName; in octets that don't begin with a SEQUENCE, none.
abbrev pub names_in : Text → List Text
names_in octets = names_inside (wanted_at 0x30 (at octets 0))
