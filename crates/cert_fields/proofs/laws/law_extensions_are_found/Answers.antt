use Rattle.cert_fields.proofs.Found.{extensions_found, octets_found}
use Rattle.cert_fields.proofs.laws.law_extensions_are_found.Goals as goal

pub returns : goal.returns
returns c = record { extensions = extensions_found; names = octets_found }
