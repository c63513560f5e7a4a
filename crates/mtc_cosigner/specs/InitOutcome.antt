-- The outcome of `init-cosigner S ID LOGID HEIGHT WIDTH SECRET`, and of
-- `init-cosigner2 S ID LOGID TOP LOW WIDTH SECRET`, whose key has two levels.
use Rattle.std.specs.Prelude.{ℕ, Option, option_map}
use Rattle.byte_formats.specs.Types.{Text}
use Rattle.cosigner_core.specs.Records.{cosigner_record}
use Rattle.cosigner_core.specs.declared.settings.CosignerSettings.{CosignerSettings}
use Rattle.mtc_command.specs.Steps.{Outcome, Files, starts, with_bytes, with_fresh}
use Rattle.mtc_cosigner.specs.KeygenOutcome.{lms_type, ots_type, public_line, with_secret}

-- What a cosigner says of itself from its first record on. Its key has two levels if the lower
-- trees have a height.
abbrev pub cosigner_settings_of : Text → Text → ℕ → Option ℕ → ℕ → CosignerSettings
cosigner_settings_of id log top low width = record {
  id = id;
  log = log;
  lms = lms_type top;
  low = option_map lms_type low;
  ots = ots_type width;
}

-- The secret is tested, and then a journal of the cosigner's first record is made where its name
-- has no file.
abbrev pub init_says : Text → CosignerSettings → Text → Option Text → Text → Outcome
init_says journal s file at secret = with_secret file secret
    (with_fresh journal at
    (starts (cosigner_record s secret) (public_line s.lms s.low s.ots secret)))

-- The outcome of both: the secret is read, at most 16 MiB of the file.
abbrev pub init_cosigner_outcome : Text → Text → Text → ℕ → Option ℕ → ℕ → Text → Files → Outcome
init_cosigner_outcome journal id log top low width file files =
    with_bytes 16777216 file (files file)
    (init_says journal (cosigner_settings_of id log top low width) file (files journal))
