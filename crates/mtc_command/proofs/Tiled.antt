-- The work on the devices of a journal and of its tiles: from the devices after the journal was
-- opened to those that the file system opened.
use Rattle.std.proofs.Common.{◌≡◌, inl, inr, ℕ, List, [], ◌∷◌, Option, None, Some}
use Rattle.std.proofs.Common.{IfSome, option_map, subst, arith}
use Rattle.std.specs.Prelude.{option_and_then}
use Rattle.mtc_io.specs.Counts.{Rose}
use Rattle.disk_core.specs.declared.disk.Disk.{Ghosts}
use Rattle.disk_core.specs.Times.{OnlyReads}
use Rattle.journal_core.specs.Format.{Represents, records_of}
use Rattle.journal_core.specs.Words.{AllRepresent}
use Rattle.mtc_command.specs.Answers.{Ending, replied, room_failed, no_memory, IfReply, Reply}
use Rattle.mtc_command.specs.Answers.{status_of, IsEarly, tiles_name}
use Rattle.mtc_command.specs.Endings.{AddsBy, FailedOnly, FailsAt}
use Rattle.mtc_command.specs.Made.{IsOpen, ReadsAtMost}
use Rattle.mtc_command.specs.Steps.{Outcome, answers, answers_on}
use Rattle.mtc_command.specs.Valid.{ServesValidly}
use Rattle.mtc_command.specs.Valid.{WorksValidly}
use Rattle.mtc_command.specs.Wanted.{Meets}
use Rattle.mtc_command.specs.Works.{HasFinishedTiled, HasGiven}
use Rattle.mtc_command.specs.Works.{HasWorked, HasWorkedTiled}
use Rattle.mtc_command.specs.Works.{HasWorkedTiledOn, journaled_by}
use Rattle.mtc_command.proofs.Made.{ReadsCrashState}
use Rattle.mtc_command.proofs.Served.{reply_so}
use Rattle.mtc_command.proofs.Valid.{valid_on}
use Rattle.mtc_command.proofs.Works.{each_some, given_early, given_on}

pub fails_so : (ending : Ending) (F F' B B' : Type 0) (file beside : List ℕ) → (F → F') → (B → B')
    → FailsAt F file B beside ending → FailsAt F' file B' beside ending
fails_so (replied reply) F F' B B' file beside so more is = tt
fails_so (room_failed at) F F' B B' file beside so more is = elim is [
  | inl first ↦ inl (first.0, so first.1)
  | inr second ↦ inr (second.0, more second.1)
]
fails_so no_memory F F' B B' file beside so more is = tt

-- What the work on open devices, where these records were found, has given.
module _ {D : Type 0} (g : Ghosts D) (name : List ℕ) (list : Option (List (List ℕ)))
    (mid new tiles tiles' : D) where
  fails_alone : (ending : Ending)
      → FailedOnly (Rose (g.faults mid) (g.faults new)) (name ∷ []) ending
      → FailsAt (Rose (g.faults mid) (g.faults new)) name
      (Rose (g.faults tiles) (g.faults tiles')) (tiles_name name) ending
  fails_alone (replied reply) is = tt
  fails_alone (room_failed file) is =
      elim is.1 [ inl same ↦ inl (same, is.0) | inr never ↦ absurd never ]
  fails_alone no_memory is = tt

  -- work on the device of the journal alone
  pub tiled_of : (says : List (List ℕ) → Outcome) (ending : Ending)
      → HasWorked g name list says mid new ending
      → HasWorkedTiled g name list says mid new tiles tiles' ending
  tiled_of says ending work = record {
    ends = record {
      plain = work.ends.plain;
      later = work.ends.later;
      fault = fails_alone ending work.ends.fault;
    };
    reply = work.reply;
    adds = work.adds;
  }

  -- the records are known if the model knows the bytes of the disk of the tiles, and perhaps if not
  less : (P : List (List ℕ) → Type 0) (contents : Option (List ℕ)) → IfSome list P
      → IfSome (option_and_then (λ bytes. list) contents) P
  less P None is = tt
  less P (Some bytes) is = is

  pub tiled_less : (contents : Option (List ℕ)) (says : List (List ℕ) → Outcome) (ending : Ending)
      → HasWorkedTiled g name list says mid new tiles tiles' ending
      → HasWorkedTiled g name (option_and_then (λ bytes. list) contents) says mid new tiles tiles'
      ending
  tiled_less contents says ending work = record {
    ends = work.ends;
    reply = reply_so ending _ _ (λ reply is. less _ contents is) work.reply;
    adds = less _ contents work.adds;
  }

  reads_by : (ending : Ending) (records : List (List ℕ)) (reply : Reply) → ReadsAtMost g mid new
      → IsOpen g mid records → AddsBy g ending (journaled_by (answers_on records reply)) mid new
  reads_by (replied given) records reply only opened = (opened, only)
  reads_by (room_failed file) records reply only opened = (opened, only)
  reads_by no_memory records reply only opened = only

  -- both devices were only read
  pub read_tiled : (reply_by : List (List ℕ) → Reply) (ending : Ending) → ReadsAtMost g mid new
      → HasFinishedTiled g name mid new tiles tiles' ending
      → IfReply ending (λ reply. IfSome list (λ records. reply ≡ reply_by records))
      → HasWorkedTiled g name list (λ records. answers_on records (reply_by records)) mid new
      tiles tiles' ending
  read_tiled reply_by ending only ends is = record {
    ends = ends;
    reply = is;
    adds = each_some list _ (λ records. reads_by ending records (reply_by records) only);
  }

-- The log was opened, which only read the devices.
module _ {D : Type 0} (g : Ghosts D) (name : List ℕ) (says : List ℕ → List ℕ → Outcome)
    (next : List (List ℕ) → Outcome) (old mid new : D) (tiles tiles_mid tiles' : D)
    (ending : Ending) where
  abbrev list : Option (List (List ℕ))
  list = option_map records_of (g.contents mid)

  gives_at : (x : Option (List ℕ)) → g.contents tiles_mid ≡ x → ReadsCrashState g
      → OnlyReads g old mid
      → IfSome x (λ held. IfSome (g.contents old) (λ b. IfSome list (λ l. says b held ≡ next l)))
      → IfSome (g.contents mid) (λ b. IfSome list (Represents b))
      → IfSome list (AllRepresent g mid)
      → HasWorkedTiled g name (option_and_then (λ bytes. list) (g.contents tiles_mid)) next mid new
      tiles_mid tiles' ending
      → IfSome x (λ held. HasGiven g (λ b. says b held) old new ending)
  gives_at None is crash_state only_reads found stands all work = tt
  gives_at (Some held) is crash_state only_reads found stands all work =
      given_on g name (λ b. says b held) next old mid new ending crash_state only_reads found stands
      all
      (reply_so ending _ _ (λ reply meets. subst (λ (o : Option (List ℕ)).
      IfSome (option_and_then (λ bytes. list) o) (λ l. Meets (next l).answer reply)) is meets)
      work.reply)
      (subst (λ (o : Option (List ℕ)). IfSome (option_and_then (λ bytes. list) o)
      (λ l. IsOpen g mid l → AddsBy g ending (journaled_by (next l)) mid new)) is work.adds)

  -- the work after the opening is work on the devices that the file system opened
  pub tiled_on : ReadsCrashState g → OnlyReads g old mid → g.faults mid ≡ g.faults old
      → OnlyReads g tiles tiles_mid → g.faults tiles_mid ≡ g.faults tiles
      → IfSome (g.contents tiles) (λ held. IfSome (g.contents old) (λ b.
      IfSome list (λ l. says b held ≡ next l)))
      → IfSome (g.contents mid) (λ b. IfSome list (Represents b))
      → IfSome list (AllRepresent g mid)
      → HasWorkedTiled g name (option_and_then (λ bytes. list) (g.contents tiles_mid)) next mid new
      tiles_mid tiles' ending
      → HasWorkedTiledOn g name says old new tiles tiles' ending
  tiled_on crash_state only_reads fine only_reads_tiles fine_tiles found stands all work = record {
    ends = record {
      plain = work.ends.plain;
      later = omega (arith, fine, work.ends.later);
      fault = fails_so ending _ _ _ _ name (tiles_name name)
          (subst (λ n. Rose n (g.faults new)) fine)
          (subst (λ n. Rose n (g.faults tiles')) fine_tiles) work.ends.fault;
    };
    gives = gives_at (g.contents tiles) only_reads_tiles.contents crash_state only_reads found
        stands all
        work;
  }

-- where a record was added, it follows the rules
pub valid_tiled_on : {D : Type 0} (g : Ghosts D) (Valid : List (List ℕ) → Type 0) (name : List ℕ)
    (says : List ℕ → List ℕ → Outcome) (next : List (List ℕ) → Outcome) (old mid new : D)
    (contents : Option (List ℕ)) → OnlyReads g old mid
    → IfSome contents (λ held. IfSome (g.contents old) (λ b.
    IfSome (option_map records_of (g.contents mid)) (λ l. says b held ≡ next l)))
    → IfSome (g.contents mid) (λ b. IfSome (option_map records_of (g.contents mid)) (Represents b))
    → IfSome (option_map records_of (g.contents mid)) (AllRepresent g mid)
    → WorksValidly g Valid (option_map records_of (g.contents mid)) next mid new
    → IfSome contents (λ held. ServesValidly g Valid (λ b. says b held) old new)
valid_tiled_on g Valid name says next old mid new None only_reads found stands all valid = tt
valid_tiled_on g Valid name says next old mid new (Some held) only_reads found stands all valid =
    valid_on g Valid name (λ b. says b held) next old mid new only_reads found stands all valid

-- The opening was refused, and both devices were only read.
module _ {D : Type 0} (g : Ghosts D) (name : List ℕ) (says : List ℕ → List ℕ → Outcome)
    (old new tiles tiles' : D) (only_reads : OnlyReads g old new) where
  early_at : (held : Option (List ℕ)) (ending : Ending)
      → IfReply ending (λ reply. IsEarly (status_of reply))
      → IfReply ending (λ reply. IfSome held (λ h. IfSome (g.contents old) (λ b.
      says b h ≡ answers reply)))
      → IfSome held (λ h. HasGiven g (λ b. says b h) old new ending)
  early_at None ending early is = tt
  early_at (Some h) ending early is =
      given_early g (λ b. says b h) old new only_reads ending early is

  pub tiled_early : (ending : Ending) → HasFinishedTiled g name old new tiles tiles' ending
      → IfReply ending (λ reply. IsEarly (status_of reply))
      → IfReply ending (λ reply. IfSome (g.contents tiles) (λ h. IfSome (g.contents old) (λ b.
      says b h ≡ answers reply)))
      → HasWorkedTiledOn g name says old new tiles tiles' ending
  tiled_early ending ends early is =
      record { ends = ends; gives = early_at (g.contents tiles) ending early is }
