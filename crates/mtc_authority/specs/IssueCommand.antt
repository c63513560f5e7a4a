-- The outcome of `issue J REQUEST` over the files of the file system: the request first, then the
-- journal.
use Rattle.std.specs.Prelude.{Option}
use Rattle.byte_formats.specs.Types.{HashFunction, Text}
use Rattle.authority_core.specs.Files.{request_of}
use Rattle.mtc_command.specs.Answers.{tiles_name}
use Rattle.mtc_command.specs.Steps.{Outcome, Files, with_bytes, with_form}
use Rattle.authority_core.specs.Reasons.{request_fault_text}
use Rattle.mtc_authority.specs.Works.{log_outcome}
use Rattle.mtc_authority.specs.declared.work.Work.TheVariants.{Issue}

-- The request is read, and then its entry is added.
abbrev pub request_says : HashFunction → Text → Text → Option Text → Option Text → Text → Outcome
request_says h journal request file tiles bytes =
    with_form request_fault_text request (request_of bytes)
    (λ r. log_outcome h journal file tiles (Issue r))

-- The outcome of `issue J REQUEST`: the request is read, at most 16 MiB of it.
abbrev pub issue_outcome : HashFunction → Text → Text → Files → Outcome
issue_outcome h journal request files = with_bytes 16777216 request (files request)
    (request_says h journal request (files journal) (files (tiles_name journal)))
