use Rattle.std.proofs.Common.{sym, ap, ◌∙◌, Some}
use Rattle.toml_fields.proofs.Decoding.{bytes_of_base64-some, bytes_of_base64-none}
use Rattle.toml_fields.proofs.codes.read_base64.Goals as goal

pub returns-in-Ok-clause-value : goal.returns-in-Ok-clause-value
returns-in-Ok-clause-value c =
    ap Some c.from_vec.ensures
    ∙ sym (bytes_of_base64-some c.args.text.now c.in-Ok.bytes.items
    (rw c.as_bytes.ensures.value at c.in-Ok.ensures.ok))

pub returns-in-Err-DecodeError-clause-value : goal.returns-in-Err-DecodeError-clause-value
returns-in-Err-DecodeError-clause-value c =
    let failed = rw c.in-Err-DecodeError.field-0-is at c.in-Err-DecodeError.ensures.err in
    sym (bytes_of_base64-none c.args.text.now _ (rw c.as_bytes.ensures.value at failed))
