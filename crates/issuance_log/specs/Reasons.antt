-- What a log refuses, in words.
use Rattle.std.specs.Prelude.{◌++◌, codes}
use Rattle.std.specs.Fmt.{decimal}
use Rattle.byte_formats.specs.Types.{Text}
use Rattle.tile_store.specs.Reasons.{tile_fault_text}
use Rattle.journal_core.specs.Reasons.{append_fault_text, open_fault_text}
use Rattle.issuance_log.specs.declared.error.LogOpenError.{LogOpenError}
use Rattle.issuance_log.specs.declared.error.LogOpenError.TheVariants as log_open_error
use Rattle.issuance_log.specs.declared.error.LogError.{LogError}
use Rattle.issuance_log.specs.declared.error.LogError.TheVariants as log_error

-- Why a file is no log, or its tiles aren't taken.
abbrev pub log_open_text : LogOpenError → Text
log_open_text (log_open_error.BadRecord number) = codes "BadRecord " ++ decimal number
log_open_text (log_open_error.Tile why) = tile_fault_text why
log_open_text (log_open_error.Open why) = open_fault_text why

-- Why a log refuses.
abbrev pub log_fault_text : LogError → Text
log_fault_text log_error.Full = codes "Full"
log_fault_text log_error.TooLarge = codes "TooLarge"
log_fault_text (log_error.TooMany count) = codes "TooMany " ++ decimal count
log_fault_text log_error.NoSuchEntry = codes "NoSuchEntry"
log_fault_text log_error.NothingNew = codes "NothingNew"
log_fault_text (log_error.AlreadySwitched index) = codes "AlreadySwitched " ++ decimal index
log_fault_text log_error.Failed = codes "Failed"
log_fault_text (log_error.Append why) = append_fault_text why
log_fault_text log_error.Memory = codes "Memory"
