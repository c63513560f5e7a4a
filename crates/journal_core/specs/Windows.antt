-- The part of a file that is in memory while it is read.
use Rattle.std.specs.Prelude.{◌≡◌, ◌-◌, take}
use Rattle.std.proofs.Props.{props}
use Rattle.byte_formats.specs.Types.{Text}
use Rattle.disk_core.specs.Disk.{part}
use Rattle.journal_core.specs.declared.window.Window.{Window}

-- a prefix of its buffer holds the bytes of the file from one offset to the other
pub record Holds (window : Window) (bytes : Text) : Type 0 where
  pub prefix : take (window.to - window.from) window.buffer.items
      ≡ part window.from (window.to - window.from) bytes

pub Holds-prop : (window : Window) (bytes : Text) → IsProp (Holds window bytes)
Holds-prop window bytes = hlevel props
