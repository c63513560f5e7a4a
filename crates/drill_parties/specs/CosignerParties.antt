-- The cosigners of a drill on their devices.
use Rattle.std.specs.Prelude.{◌≡◌, ◌⊎◌, ◌≤◌, ◌<◌, ◌^◌, ◌+◌, ℕ, List, [], ◌∷◌, ◌++◌, Ok}
use Rattle.std.specs.Prelude.{Option, Some, None, Bool, true, replicate, drop}
use Rattle.std.specs.Int.{w64, to_be_bytes}
use Rattle.std.specs.List.{Contains}
use Rattle.std.proofs.Props.{props}
use Rattle.byte_formats.specs.Types.{Hash, Text, HashFunction}
use Rattle.disk_core.specs.Memory.{bytes_of, crash_states_of}
use Rattle.disk_core.specs.declared.memory.mem_disk.MemDisk.{MemDisk}
use Rattle.journal_core.specs.Format.{Represents, RepresentsEither}
use Rattle.journal_core.specs.Durable.{Represents-prop}
use Rattle.lmots_core.specs.declared.parameters.OtsType.TheVariants.{W4}
use Rattle.lms_core.specs.declared.heights.LmsType.TheVariants.{H5}
use Rattle.cosigner_core.specs.Folds.{CosignerState, cosigner_of}
use Rattle.cosigner_core.specs.Records.{sign_record, step_in}
use Rattle.cosigner_core.specs.declared.requests.SubtreeRequest.{SubtreeRequest}
use Rattle.cosigner_core.specs.declared.settings.CosignerSettings.{CosignerSettings}
use Rattle.cosigner_core.specs.declared.step.Step.TheVariants.{Sign}
use Rattle.drill_parties.specs.CosignerCalls.{IsNumbered, IsSignature, body_called, cosigner_after}
use Rattle.drill_parties.specs.Ids.{id_of, drill_log_id}
use Rattle.drill_parties.specs.Disks.{records_on}
use Rattle.drill_parties.specs.declared.cosigner_calls.CosignerCall.{CosignerCall}
use Rattle.drill_parties.specs.declared.turns.Stop.{Stop}

-- What a disk holds and all that a crash now may leave of it represent its records, and these make
-- this cosigner.
pub record IsCosignerDisk (h : HashFunction) (s : CosignerState) (disk : MemDisk) : Type 0 where
  pub holds : Represents (bytes_of disk) (records_on disk)
  pub crash_states : (c : Text) → crash_states_of disk c → Represents c (records_on disk)
  pub valid : cosigner_of h (records_on disk) ≡ Ok s

pub IsCosignerDisk-prop : (h : HashFunction) (s : CosignerState) (disk : MemDisk)
    → IsProp (IsCosignerDisk h s disk)
IsCosignerDisk-prop h s disk =
    hlevel (
      props,
      Represents-prop (bytes_of disk) (records_on disk),
      λ (c : Text). Represents-prop c (records_on disk),
    )

-- A disk that a stop within a call has left: each of its crash states represents the records from
-- before, or these and that of the call, and if the call was done the latter; and both are those of
-- a cosigner. The signature of a call that was done is given.
pub record IsLeftByStop (h : HashFunction) (call : CosignerCall) (s : CosignerState)
    (list : List Text) (crash_states : Text → Type 0) (out : Text) (done : Bool) : Type 0 where
  pub old : cosigner_of h list ≡ Ok s
  pub new : cosigner_of h (list ++ body_called s call ∷ []) ≡ Ok (cosigner_after s call)
  pub either : (c : Text) → crash_states c → RepresentsEither list (body_called s call) c
  pub all : done ≡ true → (c : Text) → crash_states c
      → Represents c (list ++ body_called s call ∷ [])
  pub signed : done ≡ true → IsSignature s call out
  pub numbered : done ≡ true → IsNumbered s call

-- The cosigner from before, with the records from before.
abbrev pub IsAsBefore : CosignerState → CosignerState → List Text → List Text → Type 0
IsAsBefore old new before after = (new ≡ old) × (after ≡ before)

-- The cosigner that the call makes of it, with its record at the end of the others.
abbrev pub IsAfterCall : CosignerCall → CosignerState → CosignerState → List Text → List Text
    → Type 0
IsAfterCall call old new before after =
    (new ≡ cosigner_after old call) × (after ≡ before ++ body_called old call ∷ [])

-- The cosigner from before, or that which the call makes of it; the latter where it was done, and
-- then the signature is given.
pub record IsReopened (call : CosignerCall) (old new : CosignerState) (before after : List Text)
    (out : Text) (done : Bool) : Type 0 where
  pub either : IsAsBefore old new before after ⊎ IsAfterCall call old new before after
  pub all : done ≡ true → IsAfterCall call old new before after
  pub signed : done ≡ true → IsSignature old call out
  pub numbered : done ≡ true → IsNumbered old call

-- The records from before, and maybe more after them.
abbrev pub HasMore : List Text → List Text → Type 0
HasMore before after = (more : List Text) × (after ≡ before ++ more)

-- After the first of these records stands the Sign of a request.
pub record HasRecorded (r : SubtreeRequest) (list : List Text) : Type 0 where
  pub index : ℕ
  pub small : index < 2 ^ 32
  pub there : Contains (drop 1 list) (sign_record index r.start r.end r.hash r.proof.now)

-- After the first of these records stands one that says a Sign of this subtree with this hash.
pub record HasSign (start end : ℕ) (hash : Hash) (list : List Text) : Type 0 where
  pub index : ℕ
  pub proof : List Hash
  pub body : Text
  pub there : Contains (drop 1 list) body
  pub says : step_in body ≡ Some (Sign index start end hash proof)

-- The settings of 32473.N, a cosigner of the log.
abbrev pub cosigner_settings : ℕ → CosignerSettings
cosigner_settings last =
    record { id = id_of last; log = drill_log_id; lms = H5; low = None; ots = W4 }

-- The secret of 32473.N in the drill with a number: 16 bytes of N, and the number four times in
-- eight bytes.
unfoldable pub secret_of : ℕ → ℕ → Text
secret_of last number =
    let bytes = to_be_bytes w64 number in
    replicate 16 last ++ (bytes ++ bytes) ++ (bytes ++ bytes)

-- a signing makes at most so many Signs: two where it is stopped
abbrev pub most_of : Option Stop → ℕ
most_of None = 1
most_of (Some stop) = 2

-- A cosigner that has signed: it holds what it held, and its signature verifies. One one-time key
-- more is used, or two where the call was stopped.
pub record HasSigned (call : CosignerCall) (turn : Option Stop) (old new : CosignerState)
    (out : Text) : Type 0 where
  pub id : new.id ≡ old.id
  pub log : new.log ≡ old.log
  pub held : new.held ≡ old.held
  pub key : new.key.key ≡ old.key.key
  pub more : old.key.next + 1 ≤ new.key.next
  pub few : new.key.next ≤ old.key.next + most_of turn
  pub signed : IsSignature old call out
