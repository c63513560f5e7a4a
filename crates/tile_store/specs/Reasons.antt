-- Why tiles are not adopted, in words.
use Rattle.std.specs.Prelude.{◌++◌, codes}
use Rattle.std.specs.Fmt.{decimal}
use Rattle.byte_formats.specs.Types.{Text}
use Rattle.tile_store.specs.declared.error.TileError.{TileError}
use Rattle.tile_store.specs.declared.error.TileError.TheVariants as tile_error

-- Why tiles are not adopted.
abbrev pub tile_fault_text : TileError → Text
tile_fault_text tile_error.Failed = codes "Failed"
tile_fault_text (tile_error.BadTile level place) =
    codes "BadTile " ++ (decimal level ++ (codes " " ++ decimal place))
