-- Why elements and certificates aren't read, in words.
use Rattle.std.specs.Prelude.{◌++◌, codes}
use Rattle.std.specs.Fmt.{decimal}
use Rattle.byte_formats.specs.Types.{Text}
use Rattle.der_core.specs.declared.fault.DerError.{DerError}
use Rattle.der_core.specs.declared.fault.DerError.TheVariants as der_error
use Rattle.der_core.specs.declared.fault.CertError.{CertError}
use Rattle.der_core.specs.declared.fault.CertError.TheVariants as cert_error

-- A fault of an element, with the element's offset.
abbrev pub der_fault_text : DerError → Text
der_fault_text (der_error.Truncated offset) = codes "Truncated " ++ decimal offset
der_fault_text (der_error.LongForm offset) = codes "LongForm " ++ decimal offset
der_fault_text (der_error.HighTag offset) = codes "HighTag " ++ decimal offset
der_fault_text (der_error.WrongTag offset) = codes "WrongTag " ++ decimal offset
der_fault_text (der_error.BadInteger offset) = codes "BadInteger " ++ decimal offset
der_fault_text (der_error.BadBool offset) = codes "BadBool " ++ decimal offset
der_fault_text (der_error.BadOid offset) = codes "BadOid " ++ decimal offset
der_fault_text (der_error.BadBits offset) = codes "BadBits " ++ decimal offset
der_fault_text (der_error.SetOrder offset) = codes "SetOrder " ++ decimal offset
der_fault_text (der_error.Trailing offset) = codes "Trailing " ++ decimal offset

-- Why bytes are no certificate.
abbrev pub cert_fault_text : CertError → Text
cert_fault_text (cert_error.Der fault) = der_fault_text fault
cert_fault_text cert_error.BadVersion = codes "BadVersion"
cert_fault_text cert_error.BadSerial = codes "BadSerial"
cert_fault_text cert_error.BadTime = codes "BadTime"
cert_fault_text cert_error.AlgorithmsDiffer = codes "AlgorithmsDiffer"
cert_fault_text cert_error.RepeatedExtension = codes "RepeatedExtension"
cert_fault_text cert_error.UniqueId = codes "UniqueId"
cert_fault_text cert_error.BadExtension = codes "BadExtension"
cert_fault_text cert_error.BadName = codes "BadName"
