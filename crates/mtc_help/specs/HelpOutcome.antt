-- The outcomes of `help` and of `version`.
use Rattle.std.specs.Prelude.{codes}
use Rattle.byte_formats.specs.Types.{Text}
use Rattle.mtc_command.specs.Steps.{Outcome, says}
use Rattle.mtc_command.specs.declared.answer.Said.TheVariants.{Done}
use Rattle.mtc_help.specs.declared.listing.TheConstants.{HELP}

-- The text of `help`.
unfoldable pub help_text : Text
help_text = HELP.now

-- The outcome of `help`: that text.
abbrev pub help_outcome : Outcome
help_outcome = says Done help_text

-- The profile of certificates, and the draft that it is a profile of.
unfoldable pub profile_text : Text
profile_text = codes "profile 2\ndraft draft-ietf-plants-merkle-tree-certs-00\n"

-- The outcome of `version`: that text.
abbrev pub version_outcome : Outcome
version_outcome = says Done profile_text
