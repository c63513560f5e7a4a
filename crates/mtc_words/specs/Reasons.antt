-- Why arguments are no command, in words.
use Rattle.std.specs.Prelude.{◌++◌, codes}
use Rattle.std.specs.Fmt.{decimal}
use Rattle.byte_formats.specs.Types.{Text}
use Rattle.mtc_words.specs.declared.error.WordError.{WordError}
use Rattle.mtc_words.specs.declared.error.WordError.TheVariants as word_error

-- A fault of the arguments, with its numbers.
abbrev pub word_fault_text : WordError → Text
word_fault_text word_error.NoCommand = codes "NoCommand"
word_fault_text word_error.UnknownCommand = codes "UnknownCommand"
word_fault_text (word_error.BadWord number) = codes "BadWord " ++ decimal number
word_fault_text (word_error.WrongCount have want) =
    codes "WrongCount " ++ (decimal have ++ (codes " " ++ decimal want))
word_fault_text (word_error.TilesName number) = codes "TilesName " ++ decimal number
word_fault_text (word_error.BadNumber number) = codes "BadNumber " ++ decimal number
word_fault_text (word_error.BadId number) = codes "BadId " ++ decimal number
word_fault_text word_error.Memory = codes "Memory"
