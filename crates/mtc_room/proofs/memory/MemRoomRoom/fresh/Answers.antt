use Rattle.std.proofs.Common.{◌≡◌, List, [], Option, Some, None, Result, Ok, Err, IfOk, option_map}
use Rattle.std.proofs.Common.{sym, ap, subst, ◌∙◌}
use Rattle.std.specs.Option.{IsSomeAnd}
use Rattle.std.specs.BTreeMap.{get_by_text}
use Rattle.byte_formats.specs.Types.{Text}
use Rattle.mtc_io.specs.declared.fault.Memory.{Memory}
use Rattle.disk_core.specs.Memory.{bytes_of, crash_states_of, IsFresh}
use Rattle.disk_core.specs.Replay.{state_now, IsCrashState}
use Rattle.disk_core.specs.Same.{SameDevice}
use Rattle.disk_core.specs.contracts.memory.mem_disk.MemDiskDisk.TheImpl.{ghosts}
use Rattle.disk_core.specs.declared.memory.call.Made.{Made}
use Rattle.disk_core.specs.declared.memory.mem_disk.MemDisk.{MemDisk}
use Rattle.mtc_room.specs.declared.error.RoomError.{RoomError}
use Rattle.mtc_room.proofs.memory.MemRoomRoom.fresh.Goals as goal

-- what holds of the device that was made holds of the one that is opened
opened_is : {T : Type 0} (P : T → Type 0) (made : T) (result : Result T RoomError)
    → IfOk result (λ it. ◌≡◌ {A = Result T Memory} (Ok made) (Ok it)) → P made
    → IfOk result P
opened_is P made (Ok it) same is = let e : made ≡ it = cc in subst P e is
opened_is P made (Err why) same is = tt

no_bytes : (e : MemDisk) → IsFresh [] e → bytes_of e ≡ []
no_bytes e fresh = subst (λ (calls : List Made). (state_now e.past.first calls).seen ≡ [])
    (sym fresh.calls) fresh.first

device_in : (o : Option MemDisk) (d : MemDisk)
    → IsSomeAnd o (λ e. IsFresh [] e × SameDevice ghosts e d)
    → IsSomeAnd o (λ e. SameDevice ghosts e d)
device_in None d is = is
device_in (Some e) d is = is.1

empty_in : (o : Option MemDisk) (d : MemDisk)
    → IsSomeAnd o (λ e. IsFresh [] e × SameDevice ghosts e d)
    → (option_map bytes_of o ≡ Some []) × (Some (bytes_of d) ≡ Some [])
empty_in None d is = absurd is
empty_in (Some e) d is =
    let empty = ap (λ (bytes : Text). Some bytes) (no_bytes e is.0) in (empty, is.1.reads ∙ empty)

only_in : (o : Option MemDisk) (d : MemDisk)
    → IsSomeAnd o (λ e. IsFresh [] e × SameDevice ghosts e d)
    → (c : Text) → crash_states_of d c → c ≡ []
only_in None d is c left = absurd is
only_in (Some e) d is c left =
    let was : c ≡ e.past.first = subst (λ (calls : List Made).
    IsCrashState (state_now e.past.first calls) c) is.0.calls ((is.1.leaves c).0 left) in
    was ∙ is.0.first

-- the device of the new file after it is opened
kept : (c : goal.After-open_one)
    → IsSomeAnd (get_by_text c.open_one.new.self.files c.args.name.now)
    (λ e. IsFresh [] e × SameDevice ghosts e c.in-Ok.disk)
kept c = subst (λ files. IsSomeAnd (get_by_text files c.args.name.now)
    (λ e. IsFresh [] e × SameDevice ghosts e c.in-Ok.disk))
    (sym c.open_one.ensures.files) c.in-Ok.ensures.made

pub returns-in-Ok-clause-new : goal.returns-in-Ok-clause-new
returns-in-Ok-clause-new c =
    opened_is _ c.in-Ok.disk c.open_one.result c.open_one.ensures.ok (record {
      empty = λ _. empty_in _ c.in-Ok.disk (kept c);
      device = λ _. device_in _ c.in-Ok.disk (kept c);
      only = λ _. only_in _ c.in-Ok.disk (kept c);
      time = c.in-Ok.ensures.first.0;
      begins = c.in-Ok.ensures.first.1;
    })
