-- What a first record that is packed shows.
use Rattle.byte_formats.specs.Types.{Text}
use Rattle.disk_core.specs.Disk.{part}
use Rattle.journal_core.specs.declared.first_record.FirstRecord.{FirstRecord}

-- its body
abbrev pub first_body : FirstRecord → Text
first_body packed = part 21 packed.size packed.buffer.items
