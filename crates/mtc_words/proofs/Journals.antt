-- No journal of a command has the name of a tile file, and no two are named alike.
use Rattle.std.proofs.Common.{◌≡◌, ◌≢◌, ℕ, ◌+◌, Bool, true, false, List, [], ◌∷◌, ◌++◌, Option}
use Rattle.std.proofs.Common.{Some, None, Result, Ok, codes, if◌then◌else◌, refl, sym, ap}
use Rattle.std.proofs.Common.{◌∙◌, subst, nat_eq, true≢false}
use Rattle.std.proofs.lemmas.Bool.Decides.{Decides-eqb}
use Rattle.std.proofs.lemmas.Slice.Eq.{bytes_eq-Decides, ends_is}
use Rattle.byte_formats.specs.Types.{Text}
use Rattle.byte_formats.proofs.Steps.{bind_ok}
use Rattle.mtc_words.specs.declared.error.WordError.{WordError}
use Rattle.mtc_words.specs.declared.name.Name.{Name}
use Rattle.mtc_words.specs.Commands.{CommandValue, journals_of}
use Rattle.mtc_words.specs.Names.{named_command, word_count, is_tiles_name}
use Rattle.mtc_words.specs.Words.{word_fault, journal_fault, command_from, command_named}
use Rattle.mtc_words.specs.Words.{command_of, unless_fault, tiles_word, twice_fault}
use Rattle.mtc_words.specs.Words.{is_named_twice, HaveOwnNames}

-- ---- journals without a fault

own_first : (k : ℕ) (journal : Text) (rest : List Text) (tiles : Bool)
    → tiles ≡ is_tiles_name journal
    → (if tiles then Some k else tiles_word (k + 1) rest) ≡ None
    → (is_tiles_name journal ≡ false) × (tiles_word (k + 1) rest ≡ None)
own_first k journal rest true is e = absurd (cc)
own_first k journal rest false is e = (sym is, e)

own_names : (k : ℕ) (journals : List Text) → tiles_word k journals ≡ None → HaveOwnNames journals
own_names k [] e = tt
own_names k (journal ∷ rest) e =
    let first = own_first k journal rest (is_tiles_name journal) refl e in
    (first.0, own_names (k + 1) rest first.1)

without_fault : (twice : Bool) (word : Option ℕ) → twice_fault twice word ≡ None
    → (word ≡ None) × (twice ≡ false)
without_fault true None e = absurd (cc)
without_fault false None e = (refl, refl)
without_fault twice (Some k) e = absurd (cc)

-- two journals that aren't named alike
pub names_differ : (first second : Text) → is_named_twice (first ∷ second ∷ []) ≡ false
    → first ≢ second
names_differ first second is same =
    true≢false (sym ((bytes_eq-Decides first second).1 same) ∙ is)

-- ---- the journals of a command

-- What is answered after the tests.
answered : (fault : Option WordError) (wanted : Result CommandValue WordError) (c : CommandValue)
    → unless_fault fault wanted ≡ Ok c → (fault ≡ None) × (wanted ≡ Ok c)
answered None wanted c e = (refl, e)
answered (Some fault) wanted c e = absurd (cc)

-- The command itself.
abbrev alone : CommandValue → Result CommandValue WordError
alone c = Ok c

abbrev NoFault : CommandValue → Type 0
NoFault c = journal_fault (journals_of c) ≡ None

named : (o : Option Name) (ws : List Text) (c : CommandValue) → command_named o ws ≡ Ok c
    → NoFault c
named None ws c e = absurd (cc)
named (Some name) ws c e =
    let counted = answered (word_fault (word_count name) ws) _ c e in
    let made = bind_ok (command_from name ws)
    (λ (d : CommandValue). unless_fault (journal_fault (journals_of d)) (alone d)) c counted.1 in
    let own = answered (journal_fault (journals_of made.0)) (alone made.0) c made.2 in
    let same : made.0 ≡ c = cc in
    subst NoFault same own.0

no_fault : (ws : List Text) (c : CommandValue) → command_of ws ≡ Ok c → NoFault c
unfolding command_of
no_fault [] c e = absurd (cc)
no_fault (w ∷ ws) c e = named (named_command w) ws c e

-- No journal of a command has the name of a tile file.
pub journals_have_own_names : (ws : List Text) (c : CommandValue) → command_of ws ≡ Ok c
    → HaveOwnNames (journals_of c)
journals_have_own_names ws c e =
    let none = without_fault (is_named_twice (journals_of c)) (tiles_word 1 (journals_of c))
    (no_fault ws c e) in
    own_names 1 (journals_of c) none.0

-- No journal is the other one.
pub journals_differ : (ws : List Text) (c : CommandValue) → command_of ws ≡ Ok c
    → is_named_twice (journals_of c) ≡ false
journals_differ ws c e = (without_fault (is_named_twice (journals_of c))
    (tiles_word 1 (journals_of c)) (no_fault ws c e)).1

-- ---- names of tile files

-- A name with `.tiles` at its end is the name of a tile file.
pub tiles_name_ends : (name : Text) → is_tiles_name (name ++ codes ".tiles") ≡ true
unfolding is_tiles_name
tiles_name_ends name =
    (ends_is {E = nat_eq} Decides-eqb (name ++ codes ".tiles") (codes ".tiles") _ refl).1 name refl

-- So no name without that end is one.
pub no_tiles_name : (name j : Text) → is_tiles_name j ≡ false → j ≡ name ++ codes ".tiles" → ⊥
no_tiles_name name j is e =
    true≢false (sym (tiles_name_ends name) ∙ (ap is_tiles_name (sym e) ∙ is))
