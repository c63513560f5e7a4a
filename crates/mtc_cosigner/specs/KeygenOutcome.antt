-- The outcome of `keygen HEIGHT WIDTH SECRET`.
use Rattle.std.specs.Prelude.{ℕ, ◌==◌, nat_lt, ◌++◌, length, codes, if◌then◌else◌, Option, None}
use Rattle.std.specs.Fmt.{decimal}
use Rattle.byte_formats.specs.Types.{Text}
use Rattle.base64.specs.Engines.{standard}
use Rattle.base64.specs.GeneralPurpose.{encode_of}
use Rattle.lmots_core.specs.declared.parameters.OtsType.{OtsType}
use Rattle.lmots_core.specs.declared.parameters.OtsType.TheVariants.{W1, W2, W4, W8}
use Rattle.lms_core.specs.declared.heights.LmsType.{LmsType}
use Rattle.lms_core.specs.declared.heights.LmsType.TheVariants.{H5, H10}
use Rattle.hss_keys.specs.Keys.{public_of, signing_key}
use Rattle.mtc_command.specs.declared.answer.Said.TheVariants.{Done}
use Rattle.mtc_command.specs.declared.answer.Stopped.TheVariants.{BadForm}
use Rattle.mtc_command.specs.Steps.{Outcome, Files, says, stops_at, with_bytes}

-- The type of a tree by its height, 5 or 10, and of its one-time keys by their width, 1, 2, 4 or 8.
abbrev pub lms_type : ℕ → LmsType
lms_type n = if n == 5 then H5 else H10

abbrev pub ots_type : ℕ → OtsType
ots_type n = if n == 1 then W1 else (if n == 2 then W2 else (if n == 4 then W4 else W8))

-- The line of a secret's public key, in base64. The key has two levels where lower trees have a
-- height.
abbrev pub public_line : LmsType → Option LmsType → OtsType → Text → Text
public_line lms low ots secret =
    encode_of standard (public_of (signing_key lms low ots secret)) ++ codes "\n"

-- A secret file has 48 bytes: 16 of identifier and 32 of seed.
abbrev pub with_secret : Text → Text → Outcome → Outcome
with_secret file secret next =
    if nat_lt (length secret) 48 then stops_at BadForm file (codes "Short " ++ decimal 0)
    else (if nat_lt 48 (length secret) then stops_at BadForm file (codes "Trailing") else next)

-- The public key of the secret, where it is one.
abbrev pub keygen_says : ℕ → ℕ → Text → Text → Outcome
keygen_says height width file secret =
    with_secret file secret
    (says Done (public_line (lms_type height) None (ots_type width) secret))

-- The outcome of `keygen HEIGHT WIDTH SECRET`: the secret is read, at most 16 MiB of the file.
abbrev pub keygen_outcome : ℕ → ℕ → Text → Files → Outcome
keygen_outcome height width file files =
    with_bytes 16777216 file (files file) (keygen_says height width file)
