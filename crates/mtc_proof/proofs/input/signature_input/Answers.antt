use Rattle.std.proofs.Common.{append_assoc, refl}
use Rattle.mtc_proof.specs.Inputs.{input_text}
use Rattle.mtc_proof.proofs.input.signature_input.Goals as goal

pub returns : goal.returns
unfolding input_text
returns c = simp (
  c.put-4.ensures.text,
  c.put-3.ensures.text,
  c.to_be_bytes-2.ensures,
  c.put-2.ensures.text,
  c.to_be_bytes.ensures,
  c.put_id-2.ensures.text,
  c.put_id.ensures.text,
  c.put.ensures.text,
  c.clear.ensures,
  append_assoc,
) refl
