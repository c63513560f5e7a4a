-- What a call that may be stopped leaves of the device of a cosigner.
use Rattle.std.proofs.Common.{◌≡◌, List, [], ◌∷◌, ◌++◌, Option, Ok, Bool}
use Rattle.std.proofs.Common.{subst}
use Rattle.std.specs.Prelude.{IfSome}
use Rattle.byte_formats.specs.Types.{Text, HashFunction}
use Rattle.disk_core.specs.declared.disk.Disk.{Ghosts}
use Rattle.tree_core.specs.declared.hashing.TreeHash.{Ghosts as Hashes}
use Rattle.journal_core.specs.Format.{Represents, RepresentsEither}
use Rattle.journal_core.specs.Words.{AllRepresent}
use Rattle.cosigner_core.specs.Folds.{CosignerState, cosigner_of}
use Rattle.cosigner_core.specs.Words.{cosigner_disk, cosigner_state}
use Rattle.cosigner_core.specs.declared.cosigner.Cosigner.{Cosigner}
use Rattle.drill_parties.specs.CosignerCalls.{HasCalledCosigner, IsCosignerWith, IsNumbered}
use Rattle.drill_parties.specs.CosignerCalls.{IsSignature}
use Rattle.drill_parties.specs.CosignerCalls.{body_called, cosigner_after}
use Rattle.drill_parties.specs.CosignerParties.{IsLeftByStop}
use Rattle.drill_parties.specs.declared.cosigner_calls.CosignerCall.{CosignerCall}

module _ {H D : Type 0} {hashes : Hashes H} {g : Ghosts D} (h : HashFunction)
    (crash_states : Text → Type 0) where
  pub cosigner_left : (call : CosignerCall) (old new : Cosigner H D hashes g) (out : Text)
      (done : Bool) (s : CosignerState) (list : List Text)
      → ((c : Text) → crash_states c → g.may_leave (cosigner_disk new) c)
      → IsCosignerWith h s list old
      → HasCalledCosigner h call old new out done → IsLeftByStop h call s list crash_states out done
  cosigner_left call old new out done s list leaves is called =
      let valid = subst (λ (o : Option (List Text)). IfSome o (λ xs.
      cosigner_of h (xs ++ body_called (cosigner_state old) call ∷ [])
      ≡ Ok (cosigner_after (cosigner_state old) call))) is.records called.valid in
      let either = subst (λ (o : Option (List Text)). IfSome o (λ xs. (c : Text)
      → g.may_leave (cosigner_disk new) c
      → RepresentsEither xs (body_called (cosigner_state old) call) c))
      is.records (called.crash_states is.sound) in
      record {
        old = is.valid;
        new = subst (λ (t : CosignerState). cosigner_of h (list ++ body_called t call ∷ [])
            ≡ Ok (cosigner_after t call)) is.state valid;
        either = λ c there. subst (λ (t : CosignerState).
            RepresentsEither list (body_called t call) c) is.state (either c (leaves c there));
        all = λ did c there. subst (λ (t : CosignerState).
            Represents c (list ++ body_called t call ∷ [])) is.state
            (subst (λ (o : Option (List Text)). IfSome o (λ xs. AllRepresent g (cosigner_disk new)
            (xs ++ body_called (cosigner_state old) call ∷ []))) is.records (called.kept did) c
            (leaves c there));
        signed = λ did. subst (λ (t : CosignerState). IsSignature t call out) is.state
            (called.signed did);
        numbered = λ did. subst (λ (t : CosignerState). IsNumbered t call) is.state
            (called.numbered did);
      }
