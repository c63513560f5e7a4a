use Rattle.std.proofs.Common.{sym, ◌∙◌}
use Rattle.cert_fields.proofs.PublicKeys.{public_key_only, public_key_again}
use Rattle.cert_fields.proofs.checks.is_public_key.Goals as goal

pub returns-clause-meaning : goal.returns-clause-meaning
returns-clause-meaning c = (
  λ t. public_key_only c.args.bytes.now (λ i. (c.type_inv.bytes i).fits) (sym c.reads_as_key.ensures
      ∙ t),
  λ key. c.reads_as_key.ensures ∙ public_key_again c.args.bytes.now key,
)
