-- Commands that name no file of tiles.
use Rattle.std.proofs.Common.{◌≡◌, ℕ, List, [], ◌∷◌, sym}
use Rattle.mtc_room.specs.declared.room.Room.{Ghosts as Rooms}
use Rattle.mtc_command.proofs.Beside.{longer_other}
use Rattle.mtc_command.specs.Answers.{tiles_name}
use Rattle.mtc_command.specs.Served.{ClosesAll}
use Rattle.mtc_tiled.specs.Headers.{SparesTiles}

-- a command that names no file of tiles leaves each
pub spared : {R S D : Type 0} (rooms : Rooms R S D) (old new : R) (name : List ℕ)
    → ClosesAll rooms old new (name ∷ []) → SparesTiles rooms old new name
spared rooms old new name closes = λ t not. closes.others (tiles_name name)
    (λ same. longer_other rooms.leads_to name (sym same), tt)
