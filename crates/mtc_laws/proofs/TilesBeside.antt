-- The files of tiles beside the journals of a command, by their names.
use Rattle.std.proofs.Common.{◌≡◌, ◌≢◌, ◌⊎◌, inl, inr, Bool, true, false, true≢false, List, []}
use Rattle.std.proofs.Common.{◌∷◌, Some, Result, Ok, Err, IsOk, refl, subst, sym, ap, ◌∙◌, codes}
use Rattle.byte_formats.specs.Offsets.{IsBytes}
use Rattle.byte_formats.specs.Types.{HashFunction, Text}
use Rattle.cosigner_core.specs.Folds.{cosigner_of}
use Rattle.cosigner_core.proofs.After.{only_begins as cosigner_begins}
use Rattle.issuance_log.specs.Folds.{LogState, log_of}
use Rattle.issuance_log.specs.Records.{settings_in}
use Rattle.issuance_log.proofs.After.{only_begins}
use Rattle.mirror_core.specs.Folds.{MirrorState, mirror_of}
use Rattle.mirror_core.specs.Records.{mirror_log_in}
use Rattle.mirror_core.proofs.After.{only_begins as mirror_begins}
use Rattle.mtc_authority.specs.StoredTiles.{HasTilesOf}
use Rattle.mtc_mirror.specs.StoredTiles.{HasMirrorTilesOf}
use Rattle.mtc_words.specs.Commands.{CommandValue, member}
use Rattle.mtc_words.specs.Words.{HaveOwnNames, command_of}
use Rattle.mtc_words.specs.declared.error.WordError.{WordError}
use Rattle.mtc_room.proofs.Places.{begin_alike, one_place_is, one_place_of}
use Rattle.mtc_room.specs.Places.{is_one_place, place_of}
use Rattle.mtc_command.proofs.Beside.{plain_end}
use Rattle.mtc_command.specs.Answers.{tiles_name}
use Rattle.mtc_command.specs.Endings.{IsNamed}
use Rattle.mtc_command.specs.Made.{Journaled, appended, untouched}
use Rattle.mtc_command.specs.Served.{IsOther, done_with, first_journaled}
use Rattle.mtc_command.specs.Steps.{Files}
use Rattle.command_plans.specs.Facts.{AreSoundly, IsSoundly}
use Rattle.command_plans.specs.Names.{beside_names, journal_names, only_read_names}
use Rattle.command_plans.specs.Plans.{Journal, changes, makes, only_reads, opens}
use Rattle.command_plans.specs.Rules.{AreOfFirst}
use Rattle.command_plans.proofs.Facts.{found_valid}
use Rattle.mtc_plans.specs.Commands.{plan_of}
use Rattle.mtc_plans.specs.PartyKinds.{GoesWithFirst, PartyKind, cosigner, log, mirror}
use Rattle.mtc_plans.specs.PartyKinds.{rebuilt_log, party_kinds}
use Rattle.mtc_plans.proofs.Names.{no_tiles_place}
use Rattle.party_history.proofs.Agreement.{apart, cosigner_no_mirror, log_no_mirror, made_so}
use Rattle.file_events.proofs.Uses.{head_is}
use Rattle.mtc_top.specs.Facts.{facts, facts_of}
use Rattle.mtc_laws.proofs.Beside.{command_own}
use Rattle.mtc_laws.proofs.Opened.{EachKeeps, SpokenKeeps}
use Rattle.mtc_laws.specs.TileLaws.{HasPartyTiles}
use Rattle.mtc_laws.specs.RunLaws.{AreAmong}

-- ---- names

module _ (leads_to : Text → Text) where
  -- the file beside another journal is another file
  beside_other : (h : HashFunction) (journals : List (Journal (party_kinds h))) (name : Text)
      → IsOther leads_to (journal_names journals) name
      → IsOther leads_to (beside_names journals) (tiles_name name)
  beside_other h [] name other = tt
  beside_other h (opens log beside journal ∷ rest) name other = (
    λ same. other.0 (begin_alike leads_to (codes ".tiles") plain_end name journal same),
    beside_other h rest name other.1,
  )
  beside_other h (opens rebuilt_log beside journal ∷ rest) name other = (
    λ same. other.0 (begin_alike leads_to (codes ".tiles") plain_end name journal same),
    beside_other h rest name other.1,
  )
  beside_other h (opens mirror beside journal ∷ rest) name other = (
    λ same. other.0 (begin_alike leads_to (codes ".tiles") plain_end name journal same),
    beside_other h rest name other.1,
  )
  beside_other h (opens cosigner beside journal ∷ rest) name other =
      beside_other h rest name other.1
  beside_other h (makes kind journal ∷ rest) name other = beside_other h rest name other.1

  pub tiles_other : (h : HashFunction) (r : Result CommandValue WordError) (name : Text)
      → IsOther leads_to (facts h r).journals name
      → IsOther leads_to (facts h r).besides (tiles_name name)
  tiles_other h (Ok command) name other = beside_other h (plan_of h command).journals name other
  tiles_other h (Err why) name other = tt

  -- it is no journal
  own_other : (journals : List Text) (name : Text) → HaveOwnNames journals
      → IsOther leads_to journals (tiles_name name)
  own_other [] name own = tt
  own_other (journal ∷ rest) name own = (
    λ same. no_tiles_place leads_to name journal own.0 (sym same),
    own_other rest name own.1,
  )

  pub tiles_no_journal : (h : HashFunction) (words : List Text) (name : Text)
      → IsOther leads_to (facts h (command_of words)).journals (tiles_name name)
  tiles_no_journal h words name = go (command_of words) refl
    where
      go : (r : Result CommandValue WordError) → command_of words ≡ r
          → IsOther leads_to (facts h r).journals (tiles_name name)
      go (Ok command) is =
          own_other (facts_of h command).journals name (command_own h words command is)
      go (Err why) is = tt

-- ---- files that are only read

-- a file that is only read is one of which nothing is done
pub named_among : (names : List Text) (name : Text) → IsNamed names name
    → AreAmong (done_with names []) name untouched
named_among [] name named = absurd named
named_among (first ∷ rest) name named = elim named [
  | inl here ↦ inl (sym here, refl)
  | inr there ↦ inr (named_among rest name there)
]

module _ (leads_to : Text → Text) (name : Text) where
  abbrev IsElsewhere : Text → Type 0
  IsElsewhere beside = place_of leads_to name ≢ place_of leads_to beside

  -- the name has another place than each of these files, or the file is only read
  abbrev pub AreReadOrOther : List Text → List Text → Type 0
  AreReadOrOther reads [] = Unit {0}
  AreReadOrOther reads (beside ∷ rest) =
      (IsNamed reads beside ⊎ IsElsewhere beside) × AreReadOrOther reads rest

  -- one at its place, which is only read
  abbrev pub IsReadAt : List Text → Type 0
  IsReadAt reads = (beside : Text)
      × (IsNamed reads beside × (place_of leads_to beside ≡ place_of leads_to name))

  pub find_beside : (reads besides : List Text) → AreReadOrOther reads besides
      → IsOther leads_to besides name ⊎ IsReadAt reads
  find_beside reads [] each = inl tt
  find_beside reads (beside ∷ rest) each =
      go (is_one_place leads_to beside name) refl each.0 (find_beside reads rest each.1)
    where
      go : (b : Bool) → is_one_place leads_to beside name ≡ b
          → IsNamed reads beside ⊎ IsElsewhere beside
          → IsOther leads_to rest name ⊎ IsReadAt reads
          → IsOther leads_to (beside ∷ rest) name ⊎ IsReadAt reads
      go true is (inl read) more = inr (beside, (read, one_place_is leads_to beside name is))
      go true is (inr other) more = absurd (other (sym (one_place_is leads_to beside name is)))
      go false is first (inr found) = inr found
      go false is first (inl none) = inl (
        λ same. absurd (true≢false (sym (one_place_of leads_to beside name (sym same)) ∙ is)),
        none,
      )

-- ---- the file of the tiles of a command's journal

-- each of these journals is opened, and the file of its tiles is only read
abbrev are_only_read : (h : HashFunction) → List (Journal (party_kinds h)) → Bool
are_only_read h [] = true
are_only_read h (opens kind only_reads name ∷ rest) = are_only_read h rest
are_only_read h (opens kind changes name ∷ rest) = false
are_only_read h (makes kind name ∷ rest) = false

-- There is one journal at most; or the first one is a cosigner's, and so it is of the others.
abbrev others_are_read : (h : HashFunction) → List (Journal (party_kinds h)) → Bool
others_are_read h [] = true
others_are_read h (first ∷ []) = true
others_are_read h (opens cosigner beside name ∷ (second ∷ rest)) =
    are_only_read h (second ∷ rest)
others_are_read h (opens log beside name ∷ (second ∷ rest)) = false
others_are_read h (opens rebuilt_log beside name ∷ (second ∷ rest)) = false
others_are_read h (opens mirror beside name ∷ (second ∷ rest)) = false
others_are_read h (makes kind name ∷ (second ∷ rest)) = false

others_planned : (h : HashFunction) (command : CommandValue)
    → others_are_read h (plan_of h command).journals ≡ true
others_planned h (member file) = refl
others_planned h other = refl

all_read : (leads_to : Text → Text) (name : Text) (h : HashFunction)
    (journals : List (Journal (party_kinds h))) → are_only_read h journals ≡ true
    → (reads : List Text)
    → ((n : Text) → IsNamed (only_read_names journals) n → IsNamed reads n)
    → AreReadOrOther leads_to name reads (beside_names journals)
all_read leads_to name h [] only reads among = tt
all_read leads_to name h (opens log only_reads journal ∷ rest) only reads among = (
  inl (among (tiles_name journal) (inl refl)),
  all_read leads_to name h rest only reads (λ n there. among n (inr there)),
)
all_read leads_to name h (opens rebuilt_log only_reads journal ∷ rest) only reads among = (
  inl (among (tiles_name journal) (inl refl)),
  all_read leads_to name h rest only reads (λ n there. among n (inr there)),
)
all_read leads_to name h (opens mirror only_reads journal ∷ rest) only reads among = (
  inl (among (tiles_name journal) (inl refl)),
  all_read leads_to name h rest only reads (λ n there. among n (inr there)),
)
all_read leads_to name h (opens cosigner only_reads journal ∷ rest) only reads among =
    all_read leads_to name h rest only reads among
all_read leads_to name h (opens kind changes journal ∷ rest) only reads among =
    absurd (true≢false (sym only))
all_read leads_to name h (makes kind journal ∷ rest) only reads among =
    absurd (true≢false (sym only))

-- ---- a first record is one of one kind

-- the records of a log are no mirror's
no_log_mirror : (h : HashFunction) (list : List Text) (s : LogState) (m : MirrorState)
    → log_of h list ≡ Ok s → mirror_of h list ≡ Ok m → ⊥
no_log_mirror h list s m is made =
    let one = only_begins h list s is in
    let two = mirror_begins h list m made in
    let same = head_is one.0 two.0 one.1.0 two.1.0 (sym one.1.1.0 ∙ two.1.1.0) in
    log_no_mirror one.0 s.settings m.log one.1.1.1 (ap mirror_log_in same ∙ two.1.1.1)

-- and those of a cosigner are of neither
pub no_cosigner_log : (h : HashFunction) (list : List Text) (s : LogState)
    → IsOk (cosigner_of h list) → log_of h list ≡ Ok s → ⊥
no_cosigner_log h list s is made =
    let state = made_so (cosigner_of h list) is in
    let one = cosigner_begins h list state.0 state.1 in
    let two = only_begins h list s made in
    let same = head_is one.0 two.0 one.1.0 two.1.0 (sym one.1.1.1.1.0 ∙ two.1.1.0) in
    apart one.0 s.settings (one.1.1.0, one.1.1.1.0) (ap settings_in same ∙ two.1.1.1)
    one.1.1.1.1.1

pub no_cosigner_mirror : (h : HashFunction) (list : List Text) (m : MirrorState)
    → IsOk (cosigner_of h list) → mirror_of h list ≡ Ok m → ⊥
no_cosigner_mirror h list m is made =
    let state = made_so (cosigner_of h list) is in
    let one = cosigner_begins h list state.0 state.1 in
    let two = mirror_begins h list m made in
    let same = head_is one.0 two.0 one.1.0 two.1.0 (sym one.1.1.1.1.0 ∙ two.1.1.0) in
    cosigner_no_mirror one.0 (one.1.1.0, one.1.1.1.0) m.log one.1.1.1.1.1
    (ap mirror_log_in same ∙ two.1.1.1)

-- so where one kind of tiles goes with the records, both do
log_tiles : (h : HashFunction) (list : List Text) (bytes : Text) → IsOk (log_of h list)
    → HasTilesOf h list bytes → HasPartyTiles h list bytes
log_tiles h list bytes is tiles =
    let state = made_so (log_of h list) is in
    (tiles, λ m made. absurd (no_log_mirror h list state.0 m state.1 made))

mirror_tiles : (h : HashFunction) (list : List Text) (bytes : Text) → IsOk (mirror_of h list)
    → HasMirrorTilesOf h list bytes → HasPartyTiles h list bytes
mirror_tiles h list bytes is tiles =
    let state = made_so (mirror_of h list) is in
    (λ s made. absurd (no_log_mirror h list s state.0 made state.1), tiles)

-- ---- the file beside each journal

-- The file of the tiles is beside the only journal, which is a log's or a mirror's: the tiles of
-- its records are what goes with them.
pub record StoresTiles (h : HashFunction) (r : Result CommandValue WordError) (name : Text)
    : Type 0 where
  pub named : IsNamed (facts h r).besides (tiles_name name)
  pub keeps : SpokenKeeps h (facts h r).Valid r
  pub goes : (list : List Text) (bytes : Text) → (facts h r).Valid list
      → (facts h r).goes list bytes → HasPartyTiles h list bytes
  pub back : (list : List Text) (bytes : Text) → HasPartyTiles h list bytes
      → (facts h r).goes list bytes

-- Nothing is left of the file of the tiles of the journal of a name, and a record is added to a
-- cosigner alone.
pub record OnlyReadsTiles (leads_to : Text → Text) (h : HashFunction)
    (r : Result CommandValue WordError) (name : Text) (did : Journaled) : Type 0 where
  pub others : AreReadOrOther leads_to (tiles_name name) (facts h r).only_reads (facts h r).besides
  pub adds : (list : List Text) (body : Text) → did ≡ appended list body → (more : List Text)
      → (facts h r).Valid more → IsOk (cosigner_of h more)

module _ (leads_to : Text → Text) (h : HashFunction) (files : Files) (name : Text)
    (did : Journaled) where
  -- of these journals no one is opened, or all are so
  abbrev AreSound : List (Journal (party_kinds h)) → List Journaled → Type 0
  AreSound journals dids = (dids ≡ []) ⊎ AreSoundly (party_kinds h) files journals dids

  -- a journal that is made has no record added to others
  made_adds : (kind : PartyKind) (journal : Text) (dids : List Journaled) (list : List Text)
      (body : Text) → AreSound (makes kind journal ∷ []) dids
      → first_journaled dids ≡ appended list body → ⊥
  made_adds kind journal [] list body sound is =
      let wrong : untouched ≡ appended list body = is in absurd cc
  made_adds kind journal (d ∷ dids) list body (inl none) is = cc
  made_adds kind journal (d ∷ dids) list body (inr sound) is =
      subst (IsSoundly (party_kinds h) files (makes kind journal)) is sound.0

  abbrev ReadsTiles : List (Journal (party_kinds h)) → Type 0
  ReadsTiles journals = AreReadOrOther leads_to (tiles_name name) (only_read_names journals)
      (beside_names journals)
      × ((list : List Text) (body : Text) → did ≡ appended list body → (more : List Text)
      → AreOfFirst (party_kinds h) journals more → IsOk (cosigner_of h more))

  abbrev WritesTiles : List (Journal (party_kinds h)) → Type 0
  WritesTiles journals = IsNamed (beside_names journals) (tiles_name name)
      × (EachKeeps (party_kinds h) (AreOfFirst (party_kinds h) journals) journals
      × (((list : List Text) (bytes : Text) → AreOfFirst (party_kinds h) journals list
      → GoesWithFirst h journals list bytes → HasPartyTiles h list bytes)
      × ((list : List Text) (bytes : Text) → HasPartyTiles h list bytes
      → GoesWithFirst h journals list bytes)))

  by_journals : (journals : List (Journal (party_kinds h))) (dids : List Journaled)
      → others_are_read h journals ≡ true → AreSound journals dids
      → AreAmong (done_with (journal_names journals) dids) name did
      → WritesTiles journals ⊎ ReadsTiles journals
  by_journals [] dids one sound among = absurd among
  by_journals (opens log beside journal ∷ []) dids one sound among = elim among [
    | inl here ↦ inl (
      inl (ap (λ (n : Text). tiles_name n) (sym here.0)),
      (
        (λ list is. is, tt),
        (λ list bytes is tiles. log_tiles h list bytes is tiles, λ list bytes tiles. tiles.0),
      ),
    )
    | inr none ↦ absurd none
  ]
  by_journals (opens rebuilt_log beside journal ∷ []) dids one sound among = elim among [
    | inl here ↦ inl (
      inl (ap (λ (n : Text). tiles_name n) (sym here.0)),
      (
        (λ list is. is, tt),
        (λ list bytes is tiles. log_tiles h list bytes is tiles, λ list bytes tiles. tiles.0),
      ),
    )
    | inr none ↦ absurd none
  ]
  by_journals (opens mirror beside journal ∷ []) dids one sound among = elim among [
    | inl here ↦ inl (
      inl (ap (λ (n : Text). tiles_name n) (sym here.0)),
      (
        (λ list is. is, tt),
        (λ list bytes is tiles. mirror_tiles h list bytes is tiles, λ list bytes tiles. tiles.1),
      ),
    )
    | inr none ↦ absurd none
  ]
  by_journals (opens cosigner beside journal ∷ []) dids one sound among =
      inr (tt, λ list body is more valid. valid)
  by_journals (makes kind journal ∷ []) dids one sound among = elim among [
    | inl here ↦ inr (
      tt,
      λ list body is more valid.
          absurd (made_adds kind journal dids list body sound (here.1 ∙ is)),
    )
    | inr none ↦ absurd none
  ]
  by_journals (opens cosigner only_reads journal ∷ (second ∷ rest)) dids one sound among = inr (
    all_read leads_to (tiles_name name) h (second ∷ rest) one (only_read_names (second ∷ rest))
        (λ n there. there),
    λ list body is more valid. valid,
  )
  by_journals (opens cosigner changes journal ∷ (second ∷ rest)) dids one sound among = inr (
    all_read leads_to (tiles_name name) h (second ∷ rest) one (only_read_names (second ∷ rest))
        (λ n there. there),
    λ list body is more valid. valid,
  )
  by_journals (opens log beside journal ∷ (second ∷ rest)) dids one sound among =
      absurd (true≢false (sym one))
  by_journals (opens rebuilt_log beside journal ∷ (second ∷ rest)) dids one sound among =
      absurd (true≢false (sym one))
  by_journals (opens mirror beside journal ∷ (second ∷ rest)) dids one sound among =
      absurd (true≢false (sym one))
  by_journals (makes kind journal ∷ (second ∷ rest)) dids one sound among =
      absurd (true≢false (sym one))

-- The file is beside the only journal, which is a log's or a mirror's; or nothing is left of it.
pub tiles_named : (leads_to : Text → Text) (h : HashFunction) (files : Files)
    → ((n bytes : Text) → files n ≡ Some bytes → IsBytes bytes)
    → (r : Result CommandValue WordError) (name : Text) (did : Journaled)
    → AreAmong (done_with (facts h r).journals ((facts h r).outcome files).journals) name did
    → StoresTiles h r name ⊎ OnlyReadsTiles leads_to h r name did
tiles_named leads_to h files are (Err why) name did among = absurd among
tiles_named leads_to h files are (Ok command) name did among =
    elim (by_journals leads_to h files name did (plan_of h command).journals
    ((facts_of h command).outcome files).journals (others_planned h command)
    (found_valid (party_kinds h) (plan_of h command) files are) among) [
      | inl writes ↦ inl (record {
        named = writes.0;
        keeps = writes.1.0;
        goes = writes.1.1.0;
        back = writes.1.1.1;
      })
      | inr reads ↦ inr (record { others = reads.0; adds = reads.1 })
    ]
