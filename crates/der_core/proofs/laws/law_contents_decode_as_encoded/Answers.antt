use Rattle.der_core.proofs.Rules.{boolean_contents, oid_contents, bits_contents}
use Rattle.der_core.proofs.laws.law_contents_decode_as_encoded.Goals as goal

pub returns-clause-booleans : goal.returns-clause-booleans
returns-clause-booleans c = boolean_contents

pub returns-clause-identifiers : goal.returns-clause-identifiers
returns-clause-identifiers c = oid_contents

pub returns-clause-bit_strings : goal.returns-clause-bit_strings
returns-clause-bit_strings c = bits_contents
