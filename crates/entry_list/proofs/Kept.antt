-- Items of which the offsets in the file are retained.
use Rattle.std.proofs.Common.{◌≡◌, ℕ, ◌+◌, ◌<◌, true, List, [], ◌∷◌, ◌++◌, length, drop, get_or}
use Rattle.std.proofs.Common.{append_assoc, refl, sym, ap, subst, ◌∙◌, arith, Ok}
use Rattle.std.proofs.lemmas.List.{drop-drop, get_or-map, length-map, map-append}
use Rattle.std.proofs.Math.Seq.{drop-append_seam}
use Rattle.std.specs.Int.{w16}
use Rattle.byte_formats.specs.Offsets.{At, IsBytes, at}
use Rattle.byte_formats.specs.Readings.{◌>>=◌}
use Rattle.byte_formats.specs.Types.{HashFunction, Text}
use Rattle.byte_formats.proofs.Steps.{IsBytes-drop}
use Rattle.tls_wire.proofs.Numbers.{wide16}
use Rattle.tls_wire.proofs.Vectors.{vector_form}
use Rattle.tls_wire.specs.Reading.{vector_at}
use Rattle.tls_wire.specs.Encoding.{vector}
use Rattle.entry_list.specs.Items.{AreItems, is_key_of}
use Rattle.entry_list.specs.Offsets.{entry_from, key_from, lists_at, or_nothing}
use Rattle.entry_list.specs.Reading.{listed_at}
use Rattle.entry_list.proofs.Loops.{with_item}
use Rattle.entry_list.proofs.Written.{item_form}

-- What is left here is what the file has from this offset on.
abbrev pub IsIn : Text → At → Type 0
IsIn file a = a.rest ≡ drop a.place file

pub in_first : (file : Text) (a : At) → a ≡ at file 0 → IsIn file a
in_first file a first = rw first refl

-- An item that was read stands at its offset, and the next one after it.
pub record StandsAt (file : Text) (a : At) (entry key : Text) (b : At) : Type 0 where
  pub first : entry_from file a.place ≡ entry
  pub second : key_from file a.place ≡ key
  pub next : IsIn file b

pub item_stands : (h : HashFunction) (n : ℕ) (file : Text) (a : At) (entry key : Text) (b : At)
    → IsBytes file → IsIn file a → listed_at h n a ≡ Ok ((entry, key), b)
    → StandsAt file a entry key b
item_stands h n file a entry key b are here e =
    let known = (item_form h n).takes a (entry, key) b
    (subst IsBytes (sym here) (IsBytes-drop a.place file are)) e in
    let text : Text = vector w16 entry ++ vector w16 key in
    let whole : drop a.place file ≡ text ++ b.rest = sym here ∙ known.0.parts in
    let parts : drop a.place file ≡ vector w16 entry ++ (vector w16 key ++ b.rest) =
    whole ∙ append_assoc (vector w16 entry) (vector w16 key) b.rest in
    let one = (vector_form w16 65536 wide16).again entry 0 (vector w16 key ++ b.rest) known.1.0.0
    tt in
    let two = (vector_form w16 65536 wide16).again key (0 + length (vector w16 entry)) b.rest
    known.1.0.1 tt in
    record {
      first =
          ap (λ (t : Text). or_nothing (vector_at w16 (record { place = 0; rest = t }))) parts
          ∙ ap or_nothing one;
      second =
          ap (λ (t : Text). or_nothing (vector_at w16 (record { place = 0; rest = t })
          >>= λ x. vector_at w16 x.1)) parts
          ∙ ap (λ r. or_nothing (r >>= λ x. vector_at w16 x.1)) one
          ∙ ap or_nothing two;
      next =
          sym (drop-append_seam text b.rest) ∙ ap (drop (length text)) (sym whole)
          ∙ drop-drop (length text) a.place file
          ∙ ap (λ (k : ℕ). drop k file) (sym known.0.place);
    }

-- One offset more is one item more.
pub kept_more : (file : Text) (offsets next : List ℕ) (place : ℕ) → next ≡ offsets ++ place ∷ []
    → lists_at file next
    ≡ with_item (lists_at file offsets) (entry_from file place) (key_from file place)
kept_more file offsets next place more =
    ap (lists_at file) more
    ∙ rw (
      map-append (entry_from file) offsets (place ∷ []),
      map-append (key_from file) offsets (place ∷ []),
    ) refl

-- The item at an index.
pub kept_belongs : (h : HashFunction) (file : Text) (offsets : List ℕ) (i place : ℕ)
    → AreItems h (lists_at file offsets) → i < length (lists_at file offsets).entries
    → place ≡ get_or offsets i place
    → is_key_of h (entry_from file place) (key_from file place) ≡ true
kept_belongs h file offsets i place are below is =
    let inside : i < length offsets = omega (arith, length-map offsets (entry_from file)) in
    let one = get_or-map (entry_from file) offsets i place [] inside
    ∙ ap (entry_from file) (sym is) in
    let two = get_or-map (key_from file) offsets i place [] inside ∙ ap (key_from file) (sym is) in
    subst (λ (e : Text). is_key_of h e (key_from file place) ≡ true) one
    (subst (λ (k : Text). is_key_of h (get_or (lists_at file offsets).entries i []) k ≡ true) two
    (are.each i below))
