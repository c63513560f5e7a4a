-- What calls that add a record make of a cosigner.
use Rattle.std.specs.Prelude.{◌≡◌, ◌<◌, ◌^◌, true, false, List, [], ◌∷◌, ◌++◌, IfSome, Ok}
use Rattle.std.specs.Prelude.{Bool, Some, option_map}
use Rattle.byte_formats.specs.Types.{Text, HashFunction}
use Rattle.disk_core.specs.declared.disk.Disk.{Ghosts}
use Rattle.tree_core.specs.declared.hashing.TreeHash.{Ghosts as Hashes}
use Rattle.journal_core.specs.Format.{Represents, RepresentsEither, records_of}
use Rattle.journal_core.specs.Words.{AllRepresent}
use Rattle.hss_core.specs.Hss.{Verifies}
use Rattle.hss_keys.specs.Keys.{public_of}
use Rattle.mtc_proof.specs.Inputs.{signed_text}
use Rattle.cosigner_core.specs.Folds.{CosignerState, cosigner_of, having_signed, holding}
use Rattle.cosigner_core.specs.Records.{advance_record, sign_record}
use Rattle.cosigner_core.specs.Words.{CosignerHasGrown, cosigner_broken, cosigner_disk}
use Rattle.cosigner_core.specs.Words.{cosigner_records, cosigner_state}
use Rattle.cosigner_core.specs.declared.cosigner.Cosigner.{Cosigner}
use Rattle.drill_parties.specs.declared.cosigner_calls.CosignerCall.{CosignerCall}
use Rattle.drill_parties.specs.declared.cosigner_calls.CosignerCall.TheVariants.{Advance, Cosign}

-- the record of a call of a cosigner
abbrev pub body_called : CosignerState → CosignerCall → Text
body_called s (Advance r) = advance_record r.size r.root r.proof.now
body_called s (Cosign r) = sign_record s.key.next r.start r.end r.hash r.proof.now

-- the cosigner that the record of a call makes
abbrev pub cosigner_after : CosignerState → CosignerCall → CosignerState
cosigner_after s (Advance r) = holding r.size r.root s
cosigner_after s (Cosign r) = having_signed s

-- The bytes are a signature of the cosigner, if the call asks for one.
abbrev pub IsSignature : CosignerState → CosignerCall → Text → Type 0
IsSignature s (Advance r) out = Unit {0}
IsSignature s (Cosign r) out =
    Verifies (public_of s.key.key) (signed_text s.id s.log r.start r.end r.hash) out

-- The number of the one-time key of a Sign fits in four bytes.
abbrev pub IsNumbered : CosignerState → CosignerCall → Type 0
IsNumbered s (Advance r) = Unit {0}
IsNumbered s (Cosign r) = s.key.next < 2 ^ 32

module _ {H D : Type 0} {hashes : Hashes H} {g : Ghosts D} where
  -- A call of a cosigner: the records with that of the call are a cosigner's, and each crash state
  -- of the disk represents the old records or these. If the call is done, the cosigner has grown by
  -- its record, and its signature is given.
  pub record HasCalledCosigner (h : HashFunction) (call : CosignerCall)
      (old new : Cosigner H D hashes g) (out : Text) (done : Bool) : Type 0 where
    pub valid : IfSome (cosigner_records old) (λ list.
        cosigner_of h (list ++ body_called (cosigner_state old) call ∷ [])
        ≡ Ok (cosigner_after (cosigner_state old) call))
    pub crash_states : cosigner_broken old ≡ false
        → IfSome (cosigner_records old) (λ list. (c : Text)
        → g.may_leave (cosigner_disk new) c
        → RepresentsEither list (body_called (cosigner_state old) call) c)
    pub grown : done ≡ true → CosignerHasGrown (body_called (cosigner_state old) call)
        (cosigner_after (cosigner_state old) call) old new
    pub kept : done ≡ true → IfSome (cosigner_records old) (λ list. AllRepresent g
        (cosigner_disk new) (list ++ body_called (cosigner_state old) call ∷ []))
    pub signed : done ≡ true → IsSignature (cosigner_state old) call out
    pub numbered : done ≡ true → IsNumbered (cosigner_state old) call
    -- what is read is one of the crash states
    pub reads : IfSome (g.contents (cosigner_disk new)) (g.may_leave (cosigner_disk new))

  -- An open cosigner with this state, over these records, which make it.
  pub record IsCosignerWith (h : HashFunction) (s : CosignerState) (list : List Text)
      (it : Cosigner H D hashes g) : Type 0 where
    pub sound : cosigner_broken it ≡ false
    pub state : cosigner_state it ≡ s
    pub records : cosigner_records it ≡ Some list
    pub valid : cosigner_of h list ≡ Ok s

  -- A disk that represents records was opened as the cosigner that they make.
  pub record HasOpenedCosigner (h : HashFunction) (disk : D) (it : Cosigner H D hashes g)
      : Type 0 where
    pub sound : cosigner_broken it ≡ false
    pub found : IfSome (g.contents disk) (λ b. (list : List Text) (s : CosignerState)
        → Represents b list → cosigner_of h list ≡ Ok s
        → (cosigner_records it ≡ Some list) × (cosigner_state it ≡ s))
    pub valid : IfSome (cosigner_records it) (λ list. cosigner_of h list ≡ Ok (cosigner_state it))
    pub crash_states : IfSome (cosigner_records it) (AllRepresent g (cosigner_disk it))
    pub list : cosigner_records it ≡ option_map records_of (g.contents (cosigner_disk it))
    pub holds : IfSome (g.contents (cosigner_disk it))
        (λ b. IfSome (cosigner_records it) (Represents b))
