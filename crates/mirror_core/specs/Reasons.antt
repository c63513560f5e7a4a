-- What a mirror refuses, in words.
use Rattle.std.specs.Prelude.{◌++◌, codes}
use Rattle.std.specs.Fmt.{decimal}
use Rattle.byte_formats.specs.Types.{Text}
use Rattle.journal_core.specs.Reasons.{append_fault_text, open_fault_text}
use Rattle.tile_store.specs.Reasons.{tile_fault_text}
use Rattle.mirror_core.specs.declared.error.MirrorError.{MirrorError}
use Rattle.mirror_core.specs.declared.error.MirrorError.TheVariants as mirror_error
use Rattle.mirror_core.specs.declared.error.MirrorOpenError.{MirrorOpenError}
use Rattle.mirror_core.specs.declared.error.MirrorOpenError.TheVariants as mirror_open_error

-- Why a file is no mirror, or its tiles aren't taken.
abbrev pub mirror_open_text : MirrorOpenError → Text
mirror_open_text (mirror_open_error.BadRecord number) = codes "BadRecord " ++ decimal number
mirror_open_text (mirror_open_error.Tile why) = tile_fault_text why
mirror_open_text (mirror_open_error.Open why) = open_fault_text why

-- Why a mirror refuses.
abbrev pub mirror_fault_text : MirrorError → Text
mirror_fault_text (mirror_error.Differs number) = codes "Differs " ++ decimal number
mirror_fault_text mirror_error.NothingNew = codes "NothingNew"
mirror_fault_text (mirror_error.TooLarge size) = codes "TooLarge " ++ decimal size
mirror_fault_text (mirror_error.Beyond size) = codes "Beyond " ++ decimal size
mirror_fault_text mirror_error.Failed = codes "Failed"
mirror_fault_text (mirror_error.Append why) = append_fault_text why
mirror_fault_text mirror_error.Memory = codes "Memory"
