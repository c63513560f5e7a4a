-- Why a cosigner or a log isn't begun, in words.
use Rattle.byte_formats.specs.Types.{Text}
use Rattle.issuance_log.specs.Reasons.{log_open_text}
use Rattle.journal_core.specs.Reasons.{start_fault_text}
use Rattle.state_journal.specs.Reasons.{state_open_text}
use Rattle.mtc_library.specs.declared.beginning.CosignerBeginError.{CosignerBeginError}
use Rattle.mtc_library.specs.declared.beginning.CosignerBeginError.TheVariants as cosigner_begin
use Rattle.mtc_library.specs.declared.beginning.LogBeginError.{LogBeginError}
use Rattle.mtc_library.specs.declared.beginning.LogBeginError.TheVariants as log_begin

-- Why a cosigner isn't begun.
abbrev pub cosigner_begin_text : CosignerBeginError → Text
cosigner_begin_text (cosigner_begin.Start why) = start_fault_text why
cosigner_begin_text (cosigner_begin.Open why) = state_open_text why

-- Why a log isn't begun.
abbrev pub log_begin_text : LogBeginError → Text
log_begin_text (log_begin.Start why) = start_fault_text why
log_begin_text (log_begin.Open why) = log_open_text why
