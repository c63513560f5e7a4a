-- What a run leaves of all its files at once is an event of each owner.
use Rattle.std.proofs.Common.{inl, inr, Bool, true, false, List, [], ◌∷◌}
use Rattle.byte_formats.specs.Types.{Text}
use Rattle.disk_core.specs.Disk.{NoNew}
use Rattle.file_events.specs.Events.{CrashStates, HalfDone, Happens, Journaled, Leads, appended}
use Rattle.file_events.specs.Events.{broke, reads, started, untouched}
use Rattle.file_events.specs.Mirrors.{MayDo, MirrorHappens, mirror_event_with, broke as both_broke}
use Rattle.file_events.specs.Tiles.{LogHappens, TilesWork, log_event_with, broke as log_broke}
use Rattle.file_events.specs.Works.{AllStates, LeavesAll, journal_work, tiles_work}
use Rattle.file_events.specs.Worlds.{event_with}
use Rattle.file_events.proofs.Records.{ran_is_broke, whole_is_half}

pub one_journal : (Valid : List Text → Type 0) (name : Text) (broken heard : Bool)
    (did : Journaled) (before now : AllStates)
    → LeavesAll broken (journal_work Valid name did ∷ []) before now
    → Happens Valid (event_with broken heard did) (before name) (now name)
one_journal Valid name false heard did before now all = all.0
one_journal Valid name true heard did before now all = elim all [
  | inl kept ↦ inl kept.0
  | inr done ↦ inr done.0
]

pub log_with_tiles : (goes : List Text → Text → Type 0) (Plain : List Text → Text → Type 0)
    (Valid : List Text → Type 0) (name tiles : Text) (broken heard : Bool) (did : Journaled)
    (how : TilesWork) (before now : AllStates)
    → LeavesAll broken
    (journal_work Valid name did ∷ tiles_work goes Plain name tiles did how ∷ []) before now
    → LogHappens goes Plain Valid (log_event_with broken heard did how) (before name)
    (before tiles) (now name) (now tiles)
log_with_tiles goes Plain Valid name tiles false heard did how before now all = (all.0, all.1.0)
log_with_tiles goes Plain Valid name tiles true heard did how before now all = elim all [
  | inl kept ↦ inl (kept.0, kept.1.0)
  | inr done ↦ inr (done.0, done.1.0)
]

pub cosigner_with_mirror : (agrees : List Text → List Text → Type 0)
    (Computed : List Text → List Text → Text → Type 0) (Neutral : List Text → Text → Type 0)
    (ValidMirror ValidCosigner : List Text → Type 0) (mirror cosigner : Text)
    (broken heard : Bool) (m s : Journaled) (before now : AllStates)
    → MayDo agrees Computed Neutral m s
    → LeavesAll broken
    (journal_work ValidMirror mirror m ∷ journal_work ValidCosigner cosigner s ∷ []) before now
    → MirrorHappens agrees Computed Neutral ValidMirror ValidCosigner
    (mirror_event_with broken heard m s) (before mirror) (before cosigner) (now mirror)
    (now cosigner)
cosigner_with_mirror agrees Computed Neutral ValidMirror ValidCosigner mirror cosigner false heard
    m s before now may all = (may, (all.0, all.1.0))
cosigner_with_mirror agrees Computed Neutral ValidMirror ValidCosigner mirror cosigner true heard
    m s before now may all = elim all [
      | inl kept ↦ inl (kept.0, kept.1.0)
      | inr done ↦ inr (may, (done.0, done.1.0))
    ]

-- what is left of an event is one, if a crash leaves less
pub half_of_less : (Valid : List Text → Type 0) (did : Journaled) (before now less : CrashStates)
    → HalfDone Valid did before now → NoNew now less → HalfDone Valid did before less
half_of_less Valid untouched before now less kept fewer = λ c at. kept c (fewer c at)
half_of_less Valid (reads list) before now less done fewer =
    (done.0, λ c at. done.1 c (fewer c at))
half_of_less Valid (appended list body) before now less done fewer =
    (done.0, λ c at. done.1 c (fewer c at))
half_of_less Valid (started body) before now less empty fewer = empty

pub broke_of_less : (Valid : List Text → Type 0) (did : Journaled)
    (before now less : CrashStates) → Leads Valid (broke did) before now → NoNew now less
    → (c : Text) × less c → Leads Valid (broke did) before less
broke_of_less Valid did before now less leads fewer some = record {
  some = some;
  happens = elim leads.happens [
    | inl kept ↦ inl (λ c at. kept c (fewer c at))
    | inr done ↦ inr (half_of_less Valid did before now less done fewer)
  ];
}

-- what is left of an event of a run is one of a run that broke off
pub event_breaks : (Valid : List Text → Type 0) (broken heard : Bool) (did : Journaled)
    (before now : CrashStates) → Leads Valid (event_with broken heard did) before now
    → Leads Valid (broke did) before now
event_breaks Valid false heard did before now leads = ran_is_broke Valid heard did before now leads
event_breaks Valid true heard did before now leads = leads

pub log_breaks : (goes : List Text → Text → Type 0) (Plain : List Text → Text → Type 0)
    (Valid : List Text → Type 0) (broken heard : Bool) (did : Journaled) (how : TilesWork)
    (journal tiles journal' tiles' : CrashStates)
    → LogHappens goes Plain Valid (log_event_with broken heard did how) journal tiles journal'
    tiles'
    → LogHappens goes Plain Valid (log_broke did how) journal tiles journal' tiles'
log_breaks goes Plain Valid false heard did how journal tiles journal' tiles' happens =
    inr (whole_is_half Valid did journal journal' happens.0, happens.1)
log_breaks goes Plain Valid true heard did how journal tiles journal' tiles' happens = happens

pub mirror_breaks : (agrees : List Text → List Text → Type 0)
    (Computed : List Text → List Text → Text → Type 0) (Neutral : List Text → Text → Type 0)
    (ValidMirror ValidCosigner : List Text → Type 0) (broken heard : Bool) (m s : Journaled)
    (mirror cosigner mirror' cosigner' : CrashStates)
    → MirrorHappens agrees Computed Neutral ValidMirror ValidCosigner
    (mirror_event_with broken heard m s) mirror cosigner mirror' cosigner'
    → MirrorHappens agrees Computed Neutral ValidMirror ValidCosigner (both_broke m s) mirror
    cosigner mirror' cosigner'
mirror_breaks agrees Computed Neutral ValidMirror ValidCosigner false heard m s mirror cosigner
    mirror' cosigner' happens = inr (
      happens.0,
      (
        whole_is_half ValidMirror m mirror mirror' happens.1.0,
        whole_is_half ValidCosigner s cosigner cosigner' happens.1.1,
      ),
    )
mirror_breaks agrees Computed Neutral ValidMirror ValidCosigner true heard m s mirror cosigner
    mirror' cosigner' happens = happens
