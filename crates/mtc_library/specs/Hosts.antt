-- The host that a certificate is for.
use Rattle.std.specs.Prelude.{Bool}
use Rattle.std.specs.List.{list_any}
use Rattle.std.specs.Str.{bytes_eq}
use Rattle.byte_formats.specs.Types.{Text}
use Rattle.cert_fields.specs.Certificate.{Parts}
use Rattle.cert_fields.specs.Extensions.{dns_names_in}

-- One of its dNSNames is this host, byte by byte.
abbrev pub is_for : Text → Parts → Bool
is_for host c = list_any (λ name. bytes_eq name host) (dns_names_in c.extensions)
