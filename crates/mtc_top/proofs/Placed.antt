-- A file that is placed in a file system in memory has one crash state, and so each file has if the
-- others had one.
use Rattle.std.proofs.Common.{◌≡◌, ◌≢◌, ℕ, true, false, Bool, List}
use Rattle.std.proofs.Common.{Option, None, Some, refl, sym, subst, ◌∙◌}
use Rattle.std.proofs.Common.{true≢false}
use Rattle.std.proofs.lemmas.Slice.Eq.{bytes_eq-Decides}
use Rattle.std.specs.Option.{IsSomeAnd}
use Rattle.std.specs.Str.{bytes_eq}
use Rattle.byte_formats.specs.Types.{HashFunction}
use Rattle.disk_core.specs.Memory.{IsFresh, failing_of, first_of, crash_states_of}
use Rattle.disk_core.specs.contracts.memory.mem_disk.MemDiskDisk.TheImpl.{ghosts}
use Rattle.disk_core.specs.Replay.{IsCrashState, run, synced}
use Rattle.disk_core.specs.declared.disk.Disk.{Ghosts as Disks}
use Rattle.disk_core.specs.declared.memory.call.Made.{Made}
use Rattle.disk_core.specs.declared.memory.mem_disk.MemDisk.{MemDisk}
use Rattle.file_events.specs.Worlds.{states_at}
use Rattle.mtc_io.specs.declared.sink.Sink.{Ghosts as Sinks}
use Rattle.mtc_room.specs.declared.room.Room.{Ghosts as Rooms}
use Rattle.mtc_top.specs.Stops.{StopsLeaving}

pub fresh_left : (left c : List ℕ) (d : MemDisk) → IsFresh left d → crash_states_of d c → c ≡ left
fresh_left left c d fresh is =
    subst (λ (calls : List Made). IsCrashState (run (synced (first_of d)) calls) c) fresh.calls is
    ∙ fresh.first

-- what a crash may leave of a file that was placed
pub one_left : (x : Option MemDisk) (left : List ℕ) (failing : List ℕ)
    → IsSomeAnd x (λ d. IsFresh left d × (failing_of d ≡ failing)) → (c : List ℕ)
    → states_at ghosts x c → c ≡ left
one_left None left failing placed c is = absurd placed
one_left (Some d) left failing placed c is = fresh_left left c d placed.0 is

module _ {D : Type 0} (g : Disks D) (May : List ℕ → List ℕ → Type 0)
    (old new : List ℕ → Option D) (name left : List ℕ) (may : May name left)
    (one : (c : List ℕ) → states_at g (new name) c → c ≡ left)
    (others : (other : List ℕ) → other ≢ name → new other ≡ old other)
    (decide : (other : List ℕ) → other ≢ name → (c : List ℕ) × (May other c
    × ((d : List ℕ) → states_at g (old other) d → d ≡ c))) where
  -- the one crash state of a file
  pub record IsLeft (n : List ℕ) : Type 0 where
    pub crash_state : List ℕ
    pub was : May n crash_state
    pub only : (c : List ℕ) → states_at g (new n) c → c ≡ crash_state

  pub left_at : (n : List ℕ) → IsLeft n
  left_at n = go (bytes_eq n name) refl
    where
      go : (b : Bool) → bytes_eq n name ≡ b → IsLeft n
      go true is = subst IsLeft (sym ((bytes_eq-Decides n name).0 is))
          (record { crash_state = left; was = may; only = one })
      go false is =
          let differ : n ≢ name
          = λ same. absurd (true≢false (sym ((bytes_eq-Decides n name).1 same) ∙ is)) in
          let found = decide n differ in
          record {
            crash_state = found.0;
            was = found.1.0;
            only = λ c there. found.1.1 c
                (subst (λ (x : Option D). states_at g x c) (others n differ) there);
          }

module _ {R S D O E : Type 0} (h : HashFunction) (rooms : Rooms R S D) (disks : Disks D)
    (outs : Sinks O) (errs : Sinks E) (May : List ℕ → List ℕ → Type 0) (old new : R)
    (name left : List ℕ) (is_modelled : rooms.is_modelled old → rooms.is_modelled new)
    (one : (c : List ℕ) → states_at disks (rooms.device new name) c → c ≡ left)
    (others : (other : List ℕ) → other ≢ name
    → rooms.device new other ≡ rooms.device old other) where
  pub stopped : StopsLeaving h rooms disks outs errs May name left old new
  stopped may decide =
      let at = left_at disks May (rooms.device old) (rooms.device new) name left may one others
      decide in (
        record {
          is_modelled = is_modelled;
          crash_state = λ n. (at n).crash_state;
          may = λ n. (at n).was;
          only = λ n is. (at n).only is;
        },
        one,
      )
