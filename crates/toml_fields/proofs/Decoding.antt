-- What a text in base64 decodes to.
use Rattle.std.proofs.Common.{◌≡◌, Option, Some, None, Ok, Err, ap}
use Rattle.std.specs.Result.{result_ok}
use Rattle.byte_formats.specs.Types.{Text}
use Rattle.base64.specs.Engines.{standard}
use Rattle.base64.specs.GeneralPurpose.{decode_of, decoded_of}
use Rattle.base64.specs.declared.decode.DecodeError.{DecodeError}
use Rattle.toml_fields.specs.Codes.{bytes_of_base64}

pub bytes_of_base64-some : (text bytes : Text) → decode_of standard text ≡ Ok bytes
    → bytes_of_base64 text ≡ Some bytes
unfolding bytes_of_base64 decoded_of
bytes_of_base64-some text bytes h = ap result_ok h

pub bytes_of_base64-none : (text : Text) (e : DecodeError) → decode_of standard text ≡ Err e
    → bytes_of_base64 text ≡ None
unfolding bytes_of_base64 decoded_of
bytes_of_base64-none text e h = ap result_ok h
