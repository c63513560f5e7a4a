-- A journal is never a file beside another one.
use Rattle.std.proofs.Common.{◌≡◌, inl, inr, ℕ, Bool, true, false, List, [], ◌∷◌, ◌++◌}
use Rattle.std.proofs.Common.{sym}
use Rattle.std.proofs.Common.{Result, Ok, Err, refl, subst, ap, ◌∙◌, take, length, codes}
use Rattle.std.proofs.Common.{◌-◌, nat_eq}
use Rattle.std.proofs.lemmas.Bool.Decides.{Decides-eqb}
use Rattle.std.proofs.lemmas.Slice.Eq.{ends_is}
use Rattle.byte_formats.specs.Types.{HashFunction, Text}
use Rattle.mtc_room.specs.Places.{place_of}
use Rattle.mtc_words.specs.Commands.{CommandValue}
use Rattle.mtc_words.specs.Names.{is_tiles_name}
use Rattle.mtc_words.specs.Words.{HaveOwnNames, command_of}
use Rattle.mtc_words.specs.declared.error.WordError.{WordError}
use Rattle.mtc_words.proofs.Journals.{journals_have_own_names}
use Rattle.mtc_command.specs.Made.{Journaled}
use Rattle.mtc_command.specs.Served.{IsOther, done_with, rest_journaled}
use Rattle.mtc_plans.specs.Commands.{plan_of}
use Rattle.mtc_plans.proofs.Names.{journals_named, no_journal_beside, no_tiles_place}
use Rattle.mtc_top.specs.Facts.{facts, facts_of}
use Rattle.mtc_laws.specs.RunLaws.{AreAmong}

-- the name isn't that of a tile file
abbrev pub IsOwn : List ℕ → Type 0
IsOwn name = is_tiles_name name ≡ false

-- the journals that the arguments name have such names
pub command_own : (h : HashFunction) (words : List (List ℕ)) (command : CommandValue)
    → command_of words ≡ Ok command → HaveOwnNames (facts_of h command).journals
command_own h words command is = subst HaveOwnNames (sym (journals_named h command))
    (journals_have_own_names words command is)

named_own : (journals : List (List ℕ)) (dids : List Journaled) (name : List ℕ)
    (did : Journaled) → AreAmong (done_with journals dids) name did
    → HaveOwnNames journals → IsOwn name
named_own [] dids name did among own = absurd among
named_own (journal ∷ rest) dids name did among own = elim among [
  | inl here ↦ subst IsOwn here.0 own.0
  | inr there ↦ named_own rest (rest_journaled dids) name did there own.1
]

-- a journal that a run worked on
pub journal_own : (h : HashFunction) (words : List (List ℕ)) (dids : List Journaled)
    (name : List ℕ) (did : Journaled)
    → AreAmong (done_with (facts h (command_of words)).journals dids) name did → IsOwn name
journal_own h words dids name did among = go (command_of words) refl among
  where
    go : (r : Result CommandValue WordError) → command_of words ≡ r
        → AreAmong (done_with (facts h r).journals dids) name did → IsOwn name
    go (Ok command) is among = named_own (facts_of h command).journals dids name did among
        (command_own h words command is)
    go (Err why) is among = absurd among

-- the name of a file of tiles has their end
tiles_end : (name : Text) → is_tiles_name name ≡ true
    → (begins : Text) × (name ≡ begins ++ codes ".tiles")
unfolding is_tiles_name
tiles_end name is = (
  take (length name - length (codes ".tiles")) name,
  (ends_is {E = nat_eq} Decides-eqb name (codes ".tiles") _ refl).0 is,
)

-- and no other name has the place of such a file
pub own_place : (leads_to : Text → Text) (journal name : Text)
    → place_of leads_to journal ≡ place_of leads_to name → IsOwn journal → IsOwn name
own_place leads_to journal name same own = go (is_tiles_name name) refl
  where
    go : (b : Bool) → is_tiles_name name ≡ b → is_tiles_name name ≡ false
    go false is = is
    go true is =
        let ends = tiles_end name is in
        absurd (no_tiles_place leads_to ends.0 journal own
        (same ∙ ap (place_of leads_to) ends.1))

-- it is at the place of none of the files beside those of a command
pub none_beside : (leads_to : Text → Text) (h : HashFunction) (r : Result CommandValue WordError)
    (name : List ℕ) → IsOwn name → IsOther leads_to (facts h r).besides name
none_beside leads_to h (Ok command) name own =
    no_journal_beside leads_to h (plan_of h command).journals name own
none_beside leads_to h (Err why) name own = tt
