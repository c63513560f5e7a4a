-- A device in memory that is opened, and one that is made.
use Rattle.std.specs.Prelude.{◌≡◌, ℕ, List, []}
use Rattle.disk_core.specs.Memory.{failing_of, made_of, IsFresh}
use Rattle.disk_core.specs.Same.{SameDevice}
use Rattle.disk_core.specs.contracts.memory.mem_disk.MemDiskDisk.TheImpl.{ghosts}
use Rattle.disk_core.specs.declared.memory.mem_disk.MemDisk.{MemDisk}

-- opened as a copy of this device
pub record IsOpenedAs (opened device : MemDisk) : Type 0 where
  pub same : SameDevice ghosts device opened
  pub failing : failing_of opened ≡ failing_of device
  pub made : made_of opened ≡ made_of device

-- an empty device that fails these calls, and has had none
pub record IsFreshWith (failing : List ℕ) (device : MemDisk) : Type 0 where
  pub fresh : IsFresh [] device
  pub listed : failing_of device ≡ failing
