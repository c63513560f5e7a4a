-- The lines of a size and a root.
use Rattle.std.specs.Prelude.{ℕ, ◌++◌, codes}
use Rattle.std.specs.Fmt.{decimal}
use Rattle.byte_formats.specs.Types.{Text}
use Rattle.hex.specs.Hex.{encode_lower}

-- The size in decimal, and the root in hexadecimal.
abbrev pub checkpoint_lines : ℕ → Text → Text
checkpoint_lines size root = codes "size " ++ (decimal size
    ++ (codes "\nroot " ++ (encode_lower root ++ codes "\n")))
