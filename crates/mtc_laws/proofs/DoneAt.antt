-- The journal of a run at the place of a name.
use Rattle.std.proofs.Common.{◌≡◌, ◌⊎◌, inl, inr, true, false, Bool, List, [], ◌∷◌, ◌&&◌, refl, sym}
use Rattle.std.proofs.Common.{subst, ◌∙◌, true≢false, if◌then◌else◌}
use Rattle.std.specs.Str.{bytes_eq}
use Rattle.byte_formats.specs.Types.{Text}
use Rattle.file_events.specs.Worlds.{done_to}
use Rattle.mtc_room.proofs.Places.{one_place_is, one_place_of}
use Rattle.mtc_room.specs.Places.{is_one_place, place_of}
use Rattle.mtc_command.specs.Made.{Journaled, untouched}
use Rattle.mtc_command.specs.Served.{IsOther, Journals, OfEach, done_with, first_journaled}
use Rattle.mtc_command.specs.Served.{rest_journaled}
use Rattle.mtc_laws.specs.RunLaws.{AreAmong}

-- this was done with one of these journals, which has the place of this name
abbrev pub IsDoneAt : (Text → Text) → Journals → Text → Journaled → Type 0
IsDoneAt leads_to journals name did = (journal : Text)
    × ((place_of leads_to journal ≡ place_of leads_to name) × AreAmong journals journal did)

-- a name has another place than each of these, or that of the journal with which this was done
pub find_name : (leads_to : Text → Text) (names : List Text) (dids : List Journaled) (name : Text)
    → (IsOther leads_to names name × (done_to leads_to (done_with names dids) name ≡ untouched))
    ⊎ IsDoneAt leads_to (done_with names dids) name (done_to leads_to (done_with names dids) name)
find_name leads_to [] dids name = inl (tt, refl)
find_name leads_to (other ∷ others) dids name =
    go (is_one_place leads_to other name) refl
    (done_to leads_to (done_with others (rest_journaled dids)) name)
    (find_name leads_to others (rest_journaled dids) name)
  where
    go : (b : Bool) → is_one_place leads_to other name ≡ b → (rest : Journaled)
        → (IsOther leads_to others name × (rest ≡ untouched))
        ⊎ IsDoneAt leads_to (done_with others (rest_journaled dids)) name rest
        → (IsOther leads_to (other ∷ others) name
        × ((if b then first_journaled dids else rest) ≡ untouched))
        ⊎ IsDoneAt leads_to (done_with (other ∷ others) dids) name
        (if b then first_journaled dids else rest)
    go true is rest found = inr (other, (one_place_is leads_to other name is, inl (refl, refl)))
    go false is rest found = elim found [
      | inl none ↦ inl (
        (
          λ same.
              absurd (true≢false (sym (one_place_of leads_to other name (sym same)) ∙ is)),
          none.0,
        ),
        none.1,
      )
      | inr there ↦ inr (there.0, (there.1.0, inr there.1.1))
    ]

-- the same is done with names of one place
pub done_alike : (leads_to : Text → Text) (journals : Journals) (one other : Text)
    → place_of leads_to one ≡ place_of leads_to other
    → done_to leads_to journals one ≡ done_to leads_to journals other
done_alike leads_to [] one other same = refl
done_alike leads_to (journal ∷ rest) one other same =
    let further = done_alike leads_to rest one other same in
    let place = place_of leads_to journal.0 in
    λ i. if bytes_eq place.0 (same i).0 && bytes_eq place.1 (same i).1 then journal.1
    else further i

pub of_each : (P : Text → Journaled → Type 0) (journals : Journals) (name : Text)
    (did : Journaled) → OfEach P journals → AreAmong journals name did → P name did
of_each P [] name did all among = absurd among
of_each P (j ∷ js) name did all among = elim among [
  | inl here ↦ subst (λ (d : Journaled). P name d) here.1
      (subst (λ (n : Text). P n j.1) here.0 all.0)
  | inr there ↦ of_each P js name did all.1 there
]
