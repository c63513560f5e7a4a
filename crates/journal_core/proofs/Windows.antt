-- What the part of a file that is in memory shows of the file.
use Rattle.std.proofs.Common.{◌≡◌, ℕ, ◌+◌, ◌-◌, ◌<◌, ◌≤◌, List, take, drop, get_or, slice_index, ap}
use Rattle.std.proofs.Common.{◌∙◌, arith}
use Rattle.std.proofs.lemmas.List.{drop-drop, get_or-drop}
use Rattle.disk_core.specs.Disk.{part}
use Rattle.journal_core.specs.Windows.{Holds}
use Rattle.journal_core.specs.declared.window.Window.{Window}
use Rattle.journal_core.proofs.Records.{part_kept, byte_kept}

-- a byte
pub held_byte : (window : Window) (bytes : List ℕ) (i place : ℕ) → Holds window bytes
    → window.from + i ≡ place → place < window.to
    → slice_index window.buffer.items i ≡ slice_index bytes place
held_byte window bytes i place holds at within =
    byte_kept (window.to - window.from) i (drop window.from bytes) window.buffer.items holds.prefix
    (omega arith)
    ∙ get_or-drop window.from bytes i 0 ∙ ap (λ (n : ℕ). get_or bytes n 0) at

-- several bytes
pub held_part : (window : Window) (bytes : List ℕ) (i place count : ℕ) → Holds window bytes
    → window.from + i ≡ place → place + count ≤ window.to
    → part i count window.buffer.items ≡ part place count bytes
held_part window bytes i place count holds at within =
    part_kept (window.to - window.from) i count (drop window.from bytes) window.buffer.items
    holds.prefix (omega arith)
    ∙ ap (take count) (drop-drop i window.from bytes ∙ ap (λ (n : ℕ). drop n bytes) at)
