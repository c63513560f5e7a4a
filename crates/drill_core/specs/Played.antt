-- What a round makes of the parties of a drill, and what rounds make of them.
use Rattle.std.specs.Prelude.{◌≡◌, ◌+◌, ◌*◌, ◌≤◌, ℕ, zero, suc, List, [], ◌∷◌, ◌++◌, length}
use Rattle.std.specs.Prelude.{pos, Option, Some, None}
use Rattle.std.specs.List.{AllByRecursion}
use Rattle.byte_formats.specs.Types.{Hash, HashFunction, Text}
use Rattle.lmots_core.specs.declared.parameters.OtsType.TheVariants.{W4}
use Rattle.lms_core.specs.declared.heights.LmsType.TheVariants.{H5}
use Rattle.hss_keys.specs.Keys.{signing_key}
use Rattle.tree_core.specs.Tree.{tree_hash}
use Rattle.tree_core.specs.declared.hashing.TreeHash.{Ghosts as Hashes}
use Rattle.tree_proofs.specs.Checkpoints.{empty_checkpoint}
use Rattle.tree_proofs.specs.declared.checkpoint.Checkpoint.{Checkpoint}
use Rattle.issuance_log.specs.Folds.{LogState, view_in, with_mark}
use Rattle.cosigner_core.specs.Folds.{CosignerState}
use Rattle.policy_core.specs.Judgement.{judgement}
use Rattle.log_entry.specs.Forms.{form_of}
use Rattle.log_entry.specs.declared.entry.Form.TheVariants.{One}
use Rattle.authority_core.specs.Certificates.{IsWritten}
use Rattle.authority_core.specs.Issues.{issued_log}
use Rattle.drill_parties.specs.CosignerParties.{HasSign, secret_of}
use Rattle.drill_parties.specs.CosignerViews.{cosigner_shown, records_shown}
use Rattle.drill_parties.specs.Cosigners.{HasRecordedAll, HaveSigned, IsSigned, Paired, keys_used}
use Rattle.drill_parties.specs.Cosigners.{stops_by}
use Rattle.drill_parties.specs.Ids.{drill_log_id, id_of}
use Rattle.drill_parties.specs.Rounds.{Drill, after_rounds, begun, landmark_turns, stops_in}
use Rattle.drill_parties.specs.Rounds.{stops_of}
use Rattle.drill_parties.specs.declared.cosigner_party.CosignerParty.{CosignerParty}
use Rattle.drill_parties.specs.declared.round.Round.{Round}
use Rattle.drill_parties.specs.declared.turns.Stop.{Stop}
use Rattle.drill_core.specs.AuditViews.{AllStand}
use Rattle.drill_core.specs.Entries.{entries_to, log_with, request_for}
use Rattle.drill_core.specs.LightStores.{IsDue}
use Rattle.drill_core.specs.LogParties.{IsSameLog, log_shown, log_stops}
use Rattle.drill_core.specs.Stores.{IsAcceptedByAll, StoresAcceptNow, drill_store, one_accepted}
use Rattle.drill_core.specs.declared.parties.DrillParties.{DrillParties}

-- the log that has issued so many entries more
unfoldable pub issued_to : HashFunction → ℕ → LogState → LogState
issued_to h zero s = s
issued_to h (suc count) s =
    let t = issued_to h count s in
    issued_log h (view_in t) (request_for (length t.entries)) t

-- the log with a landmark more, if there is one
abbrev pub with_landmark : Option (Option Stop) → LogState → LogState
with_landmark None s = s
with_landmark (Some turn) s = with_mark s

-- the tree hash of all of a log
abbrev pub log_root : HashFunction → LogState → Hash
log_root h s = tree_hash h s.entries

-- The bytes are a certificate of the log's entry at an index, which has form one, in the subtree of
-- all its entries.
pub record IsWrittenOf (h : HashFunction) (s : LogState) (index : ℕ) (bytes : Text)
    : Type 0 where
  pub signatures : Text
  pub written : IsWritten h s index 0 (length s.entries) signatures bytes
  pub form : form_of written.fields ≡ One

-- ---- a round

module _ {H : Type 0} {hashes : Hashes H} where
  -- how many stops were made
  abbrev pub all_stops : DrillParties H hashes → ℕ
  all_stops parties = log_stops parties.log + stops_by parties.cosigners.parties.items

  -- What a round asks of the parties: three cosigners, which hold no more than the log has, and
  -- counts that are far enough below their limits for it.
  pub record AreReady (parties : DrillParties H hashes) : Type 0 where
    pub three : length parties.cosigners.parties.items ≡ 3
    pub held : AllByRecursion (λ party. (cosigner_shown party).held.size
        ≤ length (log_shown parties.log).entries) parties.cosigners.parties.items
    pub verified : parties.verified ≤ 15
    pub stands : parties.stands ≤ 45
    pub light : parties.light ≤ 15

  -- All cosigners have signed all of the log, and there is one certificate more, with their
  -- signatures. It was judged, and audited with the records of each.
  pub record HasCertified (h : HashFunction) (index : ℕ) (old new : DrillParties H hashes)
      : Type 0 where
    pub log : IsSameLog old.log new.log
    pub store : new.store ≡ old.store
    pub each : Paired (IsSigned (length (log_shown old.log).entries)
        (log_root h (log_shown old.log))) old.cosigners.parties.items new.cosigners.parties.items
    pub signatures : Text
    pub signed : HaveSigned (length (log_shown old.log).entries) (log_root h (log_shown old.log))
        old.cosigners.parties.items [] signatures
    pub cert : Text
    pub certs : new.certs.items ≡ old.certs.items ++ cert ∷ []
    pub written : IsWritten h (log_shown old.log) index 0 (length (log_shown old.log).entries)
        signatures cert
    pub accepts : StoresAcceptNow h (log_shown old.log) index signatures cert
    pub verified : new.verified
        ≡ old.verified + one_accepted (judgement h cert old.store (pos 1767225600))
    pub stands : AllStand h old.store cert (log_shown old.log) new.cosigners.parties.items
        → new.stands ≡ old.stands + 3
    pub light : new.light ≡ old.light

  -- A cosigner after a round: it holds this root, and has signed it.
  pub record HasHeldAndSigned (size : ℕ) (hash : Hash) (old new : CosignerParty H hashes)
      : Type 0 where
    pub id : (cosigner_shown new).id ≡ (cosigner_shown old).id
    pub log_id : (cosigner_shown new).log ≡ (cosigner_shown old).log
    pub held : (cosigner_shown new).held ≡ record { size = size; root = hash }
    pub key : (cosigner_shown new).key.key ≡ (cosigner_shown old).key.key
    pub more : (cosigner_shown old).key.next + 1 ≤ (cosigner_shown new).key.next
    pub recorded : HasRecordedAll size hash (records_shown old) (records_shown new)

  -- A round was played.
  pub record HasPlayed (h : HashFunction) (r : Round) (old new : DrillParties H hashes)
      : Type 0 where
    pub log : log_shown new.log
        ≡ with_landmark r.landmark (issued_to h (length r.entries) (log_shown old.log))
    pub store : new.store ≡ old.store
    pub each : Paired (HasHeldAndSigned (length (log_shown new.log).entries)
        (log_root h (log_shown new.log))) old.cosigners.parties.items new.cosigners.parties.items
    pub signatures : Text
    pub signed : HaveSigned (length (log_shown new.log).entries) (log_root h (log_shown new.log))
        old.cosigners.parties.items [] signatures
    pub cert : Text
    pub certs : new.certs.items ≡ old.certs.items ++ cert ∷ []
    pub written : IsWritten h (log_shown new.log) r.index 0 (length (log_shown new.log).entries)
        signatures cert
    pub accepts : StoresAcceptNow h (log_shown new.log) r.index signatures cert
    pub verified : new.verified
        ≡ old.verified + one_accepted (judgement h cert old.store (pos 1767225600))
    pub stands : AllStand h old.store cert (log_shown new.log) new.cosigners.parties.items
        → new.stands ≡ old.stands + 3
    pub light : IsDue h (log_shown new.log)
        → new.light ≡ old.light + length (landmark_turns r.landmark)
    pub keys : keys_used new.cosigners.parties.items
        ≤ keys_used old.cosigners.parties.items + 3 + stops_in r.signs
    pub stops : all_stops new ≡ all_stops old + stops_of r

-- ---- so many rounds of the drill with a number

-- what the cosigners hold after so many rounds, if the log has so many entries
abbrev pub checkpoint_after : HashFunction → ℕ → ℕ → Checkpoint
checkpoint_after h zero size = empty_checkpoint h
checkpoint_after h (suc before) size =
    record { size = size; root = tree_hash h (entries_to h size) }

-- A cosigner of the drill: its id and secret, what it holds, and that it has used as many one-time
-- keys as there were rounds, or more.
pub record IsCosignerWithin (number last count : ℕ) (checkpoint : Checkpoint) (s : CosignerState)
    : Type 0 where
  pub id : s.id ≡ id_of last
  pub log_id : s.log ≡ drill_log_id
  pub held : s.held ≡ checkpoint
  pub key : s.key.key ≡ signing_key H5 None W4 (secret_of last number)
  pub signed : count ≤ s.key.next

-- Each certificate is of the index and the size of its round, and is accepted by all cosigners.
abbrev pub AreWritten : HashFunction → ℕ → List Text → List (ℕ × ℕ) → Type 0
AreWritten h number [] [] = Unit {0}
AreWritten h number [] (w ∷ ws) = ⊥
AreWritten h number (cert ∷ certs) [] = ⊥
AreWritten h number (cert ∷ certs) (w ∷ ws) =
    (IsWrittenOf h (log_with h w.1 []) w.0 cert × IsAcceptedByAll h number w.0 w.1 cert)
    × AreWritten h number certs ws

-- Among these records is a Sign of all of the log at each size of a certificate.
abbrev pub HaveSigns : HashFunction → List (ℕ × ℕ) → List Text → Type 0
HaveSigns h written list =
    AllByRecursion (λ w. HasSign 0 w.1 (tree_hash h (entries_to h w.1)) list) written

-- No certificate was written at a larger size.
abbrev pub NoneLarger : ℕ → List (ℕ × ℕ) → Type 0
NoneLarger size written = AllByRecursion (λ w. w.1 ≤ size) written

-- the cosigners of a drill
abbrev pub cosigner_arcs : List ℕ
cosigner_arcs = 2 ∷ 3 ∷ 4 ∷ []

module _ {H : Type 0} {hashes : Hashes H} where
  -- A cosigner after so many rounds: it holds all of the log, and has signed it in each.
  pub record IsPartyAfter (h : HashFunction) (number count : ℕ) (d : Drill) (last : ℕ)
      (party : CosignerParty H hashes) : Type 0 where
    pub within : IsCosignerWithin number last count (checkpoint_after h count d.size)
        (cosigner_shown party)
    pub signs : HaveSigns h d.written (records_shown party)

  -- The parties after so many rounds of the drill with a number, which stands so, and what was
  -- counted.
  pub record IsAfter (h : HashFunction) (number count : ℕ) (d : Drill)
      (parties : DrillParties H hashes)
      : Type 0 where
    pub log : log_shown parties.log ≡ log_with h d.size d.marks
    pub cosigners : Paired (IsPartyAfter h number count d) cosigner_arcs
        parties.cosigners.parties.items
    pub keys : keys_used parties.cosigners.parties.items ≤ 3 * count + d.stops
    pub store : parties.store ≡ drill_store number
    pub certs : AreWritten h number parties.certs.items d.written
    pub sizes : NoneLarger d.size d.written
    pub verified : parties.verified ≡ count
    pub stands : parties.stands ≡ 3 * count
    pub light : parties.light ≡ length d.marks
    pub few_marks : length d.marks ≤ count
    pub stops : all_stops parties ≡ d.stops
    pub few_stops : d.stops ≤ 10 * count

  -- A drill with a number, after so many rounds: the number for the next draw, and the parties.
  pub record IsStanding (h : HashFunction) (number count next : ℕ) (parties : DrillParties H hashes)
      : Type 0 where
    pub next_is : next ≡ (after_rounds count (begun number)).next
    pub some : 1 ≤ (after_rounds count (begun number)).size
    pub small : (after_rounds count (begun number)).size ≤ 1 + 3 * count
    pub after : IsAfter h number count (after_rounds count (begun number)) parties
