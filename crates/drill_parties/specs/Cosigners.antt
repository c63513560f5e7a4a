-- What calls make of the cosigners of a drill, one after the other.
use Rattle.std.specs.Prelude.{◌≡◌, ◌≤◌, ◌+◌, ◌++◌, [], ◌∷◌, ℕ, List, length}
use Rattle.std.specs.List.{flat_map, sum_by}
use Rattle.byte_formats.specs.Types.{Hash, HashFunction, Text}
use Rattle.hss_core.specs.Hss.{Verifies}
use Rattle.hss_keys.specs.Keys.{public_of}
use Rattle.mtc_proof.specs.Inputs.{signed_text}
use Rattle.mtc_proof.specs.Proofs.{SigParts, signature_text}
use Rattle.tree_core.specs.declared.hashing.TreeHash.{Ghosts as Hashes}
use Rattle.cosigner_core.specs.Folds.{CosignerState, holding, new_cosigner}
use Rattle.drill_parties.specs.CosignerParties.{HasMore, HasSign, cosigner_settings, secret_of}
use Rattle.drill_parties.specs.CosignerViews.{cosigner_shown, cosigner_stops, records_shown}
use Rattle.drill_parties.specs.declared.cosigner_party.CosignerParty.{CosignerParty}

-- Two lists are of one length, and this holds of each two at one index.
abbrev pub Paired : {A B : Type 0} → (A → B → Type 0) → List A → List B → Type 0
Paired R [] [] = Unit {0}
Paired R [] (y ∷ ys) = ⊥
Paired R (x ∷ xs) [] = ⊥
Paired R (x ∷ xs) (y ∷ ys) = R x y × Paired R xs ys

-- A cosigner that has signed: it holds what it held, and one one-time key more is used, or several.
pub record IsSameWithKeys (old new : CosignerState) : Type 0 where
  pub id : new.id ≡ old.id
  pub log_id : new.log ≡ old.log
  pub held : new.held ≡ old.held
  pub key : new.key.key ≡ old.key.key
  pub more : old.key.next + 1 ≤ new.key.next

-- The signature stands under the id of the cosigner. It verifies under its key, over the first
-- entries of the log, so many, with this hash.
pub record IsSignatureBy (size : ℕ) (hash : Hash) (s : CosignerState) (part : SigParts)
    : Type 0 where
  pub cosigner : part.cosigner ≡ s.id
  pub verifies : Verifies (public_of s.key.key) (signed_text s.id s.log 0 size hash)
      part.signature
  pub short : length part.signature ≤ 17748

-- The records of a cosigner that has signed these entries: those from before, more after them, and
-- among these the Sign.
pub record HasRecordedAll (size : ℕ) (hash : Hash) (before after : List Text) : Type 0 where
  pub more : HasMore before after
  pub sign : HasSign 0 size hash after

module _ {H : Type 0} {hashes : Hashes H} where
  -- how many stops were made in the calls of all
  abbrev pub stops_by : List (CosignerParty H hashes) → ℕ
  stops_by parties = sum_by cosigner_stops parties

  -- how much of the log the first of them holds, or 0 where there is none
  abbrev pub held_first : List (CosignerParty H hashes) → ℕ
  held_first [] = 0
  held_first (party ∷ parties) = (cosigner_shown party).held.size

  -- how many one-time keys of all are used
  abbrev pub keys_used : List (CosignerParty H hashes) → ℕ
  keys_used parties = sum_by (λ party. (cosigner_shown party).key.next) parties

  -- it is the new cosigner 32473.N of the drill with a number
  pub record IsNewParty (h : HashFunction) (number last : ℕ) (party : CosignerParty H hashes)
      : Type 0 where
    pub state : cosigner_shown party
        ≡ new_cosigner h (cosigner_settings last) (secret_of last number)
    pub stops : cosigner_stops party ≡ 0

  -- it holds this root, and its records are those from before, and maybe more after them
  pub record IsAdvanced (size : ℕ) (root : Hash) (old new : CosignerParty H hashes) : Type 0 where
    pub state : cosigner_shown new ≡ holding size root (cosigner_shown old)
    pub more : HasMore (records_shown old) (records_shown new)

  -- it has signed the first entries of the log, so many, with this hash
  pub record IsSigned (size : ℕ) (hash : Hash) (old new : CosignerParty H hashes) : Type 0 where
    pub state : IsSameWithKeys (cosigner_shown old) (cosigner_shown new)
    pub recorded : HasRecordedAll size hash (records_shown old) (records_shown new)

  -- its signature follows others
  pub record IsPut (size : ℕ) (hash : Hash) (party : CosignerParty H hashes) (before after : Text)
      : Type 0 where
    pub part : SigParts
    pub signed : IsSignatureBy size hash (cosigner_shown party) part
    pub put : after ≡ before ++ signature_text part

  -- those of several, one after the other
  pub record HaveSigned (size : ℕ) (hash : Hash) (parties : List (CosignerParty H hashes))
      (before after : Text) : Type 0 where
    pub parts : List SigParts
    pub signed : Paired (λ party part. IsSignatureBy size hash (cosigner_shown party) part) parties
        parts
    pub put : after ≡ before ++ flat_map signature_text parts
