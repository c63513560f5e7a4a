-- An element is encoded as the bytes from which it was read, and each encoding is read again.
use Rattle.std.proofs.Common.{◌≡◌, ◌≢◌, ℕ, ◌+◌, ◌-◌, ◌*◌, ◌/◌, ◌%◌, ◌^◌, ◌<◌, ◌≤◌, true, false, []}
use Rattle.std.proofs.Common.{◌∷◌, ◌++◌, length, take, drop, Result, Ok, Err, refl, sym, ap, subst}
use Rattle.std.proofs.Common.{◌∙◌, append_assoc, arith, inl, inr, eq-eqb, ne_eqb, eqb-true, le-ltb}
use Rattle.std.proofs.Common.{lt-ltb, ltb-true, ltb-false, true≢false, div-add-mod'}
use Rattle.std.specs.Prelude.{if◌then◌else◌, ◌==◌, nat_lt}
use Rattle.std.proofs.lemmas.Bool.{cases_lt}
use Rattle.std.proofs.lemmas.Nat.{div-mul-add, mod-mul-add}
use Rattle.std.proofs.lemmas.List.{take_at, drop_at, take-append-drop, length-append}
use Rattle.std.proofs.lemmas.List.{length-take-le}
use Rattle.byte_formats.specs.Types.{Text}
use Rattle.byte_formats.specs.Offsets.{At, IsBytes, begins_with}
use Rattle.byte_formats.specs.Readings.{◌>>=◌}
use Rattle.byte_formats.proofs.Steps.{bind_ok, chosen, guard_ok, pass_ok, ok_is, IsBytes-rest}
use Rattle.byte_formats.proofs.Steps.{IsBytes-prefix, IsBytes-back}
use Rattle.der_core.specs.Elements.{length_octets, element, IsTag, FitsElement}
use Rattle.der_core.specs.Items.{Item}
use Rattle.der_core.specs.Reading.{tag_at, one_at, two_at, three_at, length_at, after_tag}
use Rattle.der_core.specs.Reading.{element_at, wanted_at}
use Rattle.der_core.specs.Forms.{IsRead, element_item}
use Rattle.der_core.specs.declared.fault.DerError.{DerError}
use Rattle.der_core.specs.declared.fault.DerError.TheVariants.{Truncated, LongForm, HighTag}
use Rattle.der_core.specs.declared.fault.DerError.TheVariants.{WrongTag}

-- ---- lengths

octets_small : (n : ℕ) → n < 128 → length_octets n ≡ n ∷ []
octets_small n lt = rw (lt-ltb n 128 lt) refl

octets_one : (n : ℕ) → 128 ≤ n → n < 256 → length_octets n ≡ 129 ∷ n ∷ []
octets_one n le lt = rw (le-ltb n 128 le, lt-ltb n 256 lt) refl

octets_two : (n : ℕ) → 256 ≤ n → n < 65536 → length_octets n ≡ 130 ∷ n / 256 ∷ n % 256 ∷ []
octets_two n le lt =
    let low : 128 ≤ n = omega arith in
    rw (le-ltb n 128 low, le-ltb n 256 le, lt-ltb n 65536 lt) refl

octets_three : (n : ℕ) → 65536 ≤ n → length_octets n
    ≡ 131 ∷ n / 65536 ∷ n / 256 % 256 ∷ n % 256 ∷ []
octets_three n le =
    let low : 128 ≤ n = omega arith in
    let some : 256 ≤ n = omega arith in
    rw (le-ltb n 128 low, le-ltb n 256 some, le-ltb n 65536 le) refl

-- A length that was read.
pub record IsLength (all : Text) (n : ℕ) (rest : Text) : Type 0 where
  pub parts : all ≡ length_octets n ++ rest
  pub short : n < 2 ^ 24
  pub bytes : IsBytes rest

one_takes : (place : ℕ) (bytes : Text) (n : ℕ) (rest : Text) → IsBytes bytes
    → one_at place bytes ≡ Ok (n, rest) → IsLength (129 ∷ bytes) n rest
one_takes place [] n rest h e = absurd cc
one_takes place (a ∷ bytes) n rest h e =
    let g = guard_ok (nat_lt a 128) (LongForm place) (Ok (a, bytes)) (n, rest) e in
    let le : 128 ≤ a = ltb-false a 128 g.0 in
    let P : ℕ × Text → Type 0 = λ v. IsLength (129 ∷ a ∷ bytes) v.0 v.1 in
    subst P (ok_is DerError (a, bytes) (n, rest) g.1)
    (record {
      parts = rw (octets_one a le (h 0)) refl;
      short = omega (arith, h 0);
      bytes =
          IsBytes-rest a bytes h;
    })

two_takes : (place : ℕ) (bytes : Text) (n : ℕ) (rest : Text) → IsBytes bytes
    → two_at place bytes ≡ Ok (n, rest) → IsLength (130 ∷ bytes) n rest
two_takes place [] n rest h e = absurd cc
two_takes place (a ∷ []) n rest h e = absurd cc
two_takes place (a ∷ b ∷ bytes) n rest h e =
    let g = guard_ok (a == 0) (LongForm place) (Ok (a * 256 + b, bytes)) (n, rest) e in
    let some : a ≢ 0 = λ none. true≢false (sym (eq-eqb a 0 none) ∙ g.0) in
    let high : a < 256 = h 0 in
    let low : b < 256 = h 1 in
    let octets = octets_two (a * 256 + b) (omega arith) (omega arith) in
    let P : ℕ × Text → Type 0 = λ v. IsLength (130 ∷ a ∷ b ∷ bytes) v.0 v.1 in
    subst P (ok_is DerError (a * 256 + b, bytes) (n, rest) g.1)
    (record {
      parts = rw (octets, div-mul-add a 256 b low, mod-mul-add a 256 b low) refl;
      short =
          omega arith;
      bytes = IsBytes-rest b bytes (IsBytes-rest a (b ∷ bytes) h);
    })

three_takes : (place : ℕ) (bytes : Text) (n : ℕ) (rest : Text) → IsBytes bytes
    → three_at place bytes ≡ Ok (n, rest) → IsLength (131 ∷ bytes) n rest
three_takes place [] n rest h e = absurd cc
three_takes place (a ∷ []) n rest h e = absurd cc
three_takes place (a ∷ b ∷ []) n rest h e = absurd cc
three_takes place (a ∷ b ∷ c ∷ bytes) n rest h e =
    let k : ℕ = a * 65536 + (b * 256 + c) in
    let g = guard_ok (a == 0) (LongForm place) (Ok (k, bytes)) (n, rest) e in
    let some : a ≢ 0 = λ none. true≢false (sym (eq-eqb a 0 none) ∙ g.0) in
    let high : a < 256 = h 0 in
    let middle : b < 256 = h 1 in
    let low : c < 256 = h 2 in
    let octets = octets_three k (omega arith) in
    let first : k / 65536 ≡ a = div-mul-add a 65536 (b * 256 + c) (omega arith) in
    let second : k / 256 % 256 ≡ b = omega arith in
    let third : k % 256 ≡ c = omega arith in
    let P : ℕ × Text → Type 0 = λ v. IsLength (131 ∷ a ∷ b ∷ c ∷ bytes) v.0 v.1 in
    subst P (ok_is DerError (k, bytes) (n, rest) g.1)
    (record {
      parts = rw (octets, first, second, third) refl;
      short = omega arith;
      bytes =
          IsBytes-rest c bytes (IsBytes-rest b (c ∷ bytes) (IsBytes-rest a (b ∷ c ∷ bytes) h));
    })

pub length_takes : (place : ℕ) (bytes : Text) (n : ℕ) (rest : Text) → IsBytes bytes
    → length_at place bytes ≡ Ok (n, rest) → IsLength bytes n rest
length_takes place [] n rest h e = absurd cc
length_takes place (first ∷ bytes) n rest h e =
    let others = IsBytes-rest first bytes h in
    let long : Result (ℕ × Text) DerError = Err (LongForm place) in
    let from3 : Result (ℕ × Text) DerError = if first == 131 then three_at place bytes else long in
    let from2 : Result (ℕ × Text) DerError = if first == 130 then two_at place bytes else from3 in
    let from1 : Result (ℕ × Text) DerError = if first == 129 then one_at place bytes else from2 in
    let P : ℕ × Text → Type 0 = λ v. IsLength (first ∷ bytes) v.0 v.1 in
    elim (chosen (nat_lt first 128) (Ok (first, bytes)) from1 (Ok (n, rest)) e) [
      | inl c ↦
          let lt = ltb-true first 128 c.0 in
          subst P (ok_is DerError (first, bytes) (n, rest) c.1) (record {
            parts =
                rw (octets_small first lt) refl;
            short = omega arith;
            bytes = others;
          })
      | inr c ↦
          elim (chosen (first == 129) (one_at place bytes) from2 (Ok (n, rest)) c.1) [
            | inl d ↦ rw (eqb-true first 129 d.0) (one_takes place bytes n rest others d.1)
            | inr d ↦
                elim (chosen (first == 130) (two_at place bytes) from3 (Ok (n, rest)) d.1) [
                  | inl f ↦ rw (eqb-true first 130 f.0) (two_takes place bytes n rest others f.1)
                  | inr f ↦
                      let g = pass_ok (first == 131) (three_at place bytes) (LongForm place) (
                        n,
                        rest,
                      ) f.1 in
                      rw (eqb-true first 131 g.0) (three_takes place bytes n rest others g.1)
                ]
          ]
    ]

pub length_again : (place n : ℕ) (rest : Text) → n < 2 ^ 24
    → length_at place (length_octets n ++ rest) ≡ Ok (n, rest)
length_again place n rest short =
    elim (cases_lt n 128) [
      | inl lt ↦ rw (octets_small n lt, lt-ltb n 128 lt) refl
      | inr le ↦
          elim (cases_lt n 256) [
            | inl lt ↦ rw (octets_one n le lt, le-ltb n 128 le) refl
            | inr more ↦
                elim (cases_lt n 65536) [
                  | inl lt ↦
                      let some : n / 256 ≢ 0 = omega arith in
                      rw (octets_two n more lt, ne_eqb (n / 256) 0 some, div-add-mod' n 256) refl
                  | inr most ↦
                      let some : n / 65536 ≢ 0 = omega arith in
                      let whole : n / 65536 * 65536 + (n / 256 % 256 * 256 + n % 256) ≡ n =
                      omega arith in
                      rw (octets_three n most, ne_eqb (n / 65536) 0 some, whole) refl
                ]
          ]
    ]

-- ---- elements

-- The answer that an element gives, by its parts.
abbrev element_read : ℕ → ℕ → ℕ → Text → Text → Text → Result (Item × At) DerError
element_read place tag size whole contents rest =
    Ok (
      record { tag = tag; place = place; whole = whole; contents = contents },
      record {
        place =
            place + size;
        rest = rest;
      },
    )

made : (place tag : ℕ) (s s' : ℕ) (w w' c c' r r' : Text) → s ≡ s' → w ≡ w' → c ≡ c' → r ≡ r'
    → element_read place tag s w c r ≡ element_read place tag s' w' c' r'
made place tag s s' w w' c c' r r' p q u v = cc

-- An element after its tag, whatever encodes its length.
cut_out : (place tag k : ℕ) (octets contents rest : Text) → length contents ≡ k
    → length_at place (octets ++ (contents ++ rest)) ≡ Ok (k, contents ++ rest)
    → after_tag (record { place = place; rest = tag ∷ (octets ++ contents) ++ rest }) tag (octets
    ++ (contents ++ rest))
    ≡ element_read place tag (length (tag ∷ (octets ++ contents))) (tag ∷ (octets ++ contents))
    contents rest
unfolding after_tag
cut_out place tag k octets contents rest count len =
    let text : Text = tag ∷ (octets ++ contents) in
    let all : Text = text ++ rest in
    let parts = length-append text rest in
    let following = length-append contents rest in
    let long : nat_lt (length (contents ++ rest)) k ≡ false = le-ltb _ _ (omega arith) in
    let size : length all - (length (contents ++ rest) - k) ≡ length text = omega arith in
    rw (len, long)
    (made place tag _ (length text) _ text _ contents _ rest size
    (ap (λ (n : ℕ). take n all) size ∙ take_at text rest (length text) refl)
    (take_at contents rest k count)
    (ap (λ (n : ℕ). drop n all) size ∙ drop_at text rest (length text) refl))

after_again : (place tag : ℕ) (contents rest : Text) → length contents < 2 ^ 24
    → after_tag (record { place = place; rest = element tag contents ++ rest }) tag
    (length_octets (length contents) ++ (contents ++ rest))
    ≡ Ok (
      element_item tag contents place,
      record {
        place =
            place + length (element tag contents);
        rest = rest;
      },
    )
unfolding element
after_again place tag contents rest short =
    cut_out place tag (length contents) (length_octets (length contents)) contents rest refl
    (length_again place (length contents) (contents ++ rest) short)

element_parts : (tag : ℕ) (contents rest : Text)
    → element tag contents ++ rest ≡ tag ∷ (length_octets (length contents) ++ (contents ++ rest))
unfolding element
element_parts tag contents rest = ap (λ (t : Text). tag ∷ t)
    (append_assoc (length_octets (length contents)) contents rest)

-- What was read is the element that stands there.
is_read : (a : At) (tag : ℕ) (contents rest : Text) (e : Item) (b : At) → IsBytes a.rest
    → FitsElement tag contents → a.rest ≡ element tag contents ++ rest
    → element_read a.place tag (length (element tag contents)) (element tag contents) contents rest
    ≡ Ok (e, b)
    → IsRead a e b × (e.tag ≡ tag)
is_read a tag contents rest e b h fits parts same =
    let P : Item × At → Type 0 = λ v. IsRead a v.0 v.1 × (v.0.tag ≡ tag) in
    let others : IsBytes (contents ++ rest) =
    IsBytes-back (length_octets (length contents)) (contents ++ rest)
    (IsBytes-rest tag _ (subst IsBytes (parts ∙ element_parts tag contents rest) h)) in
    let following : IsBytes rest = IsBytes-back contents rest others in
    subst P (ok_is DerError (
      element_item tag contents a.place,
      record {
        place =
            a.place + length (element tag contents);
        rest = rest;
      },
    ) (e, b) same) (
      record {
        stands = record { parts = parts; place = refl; bytes = following };
        fits = fits;
        whole =
            refl;
        place = refl;
        bytes = IsBytes-prefix contents rest others;
      },
      refl,
    )

-- The bytes of an element after its tag, cut out of what is left.
after_takes : (a : At) (tag : ℕ) (rest : Text) (e : Item) (b : At) → a.rest ≡ tag ∷ rest
    → IsBytes a.rest → IsTag tag → after_tag a tag rest ≡ Ok (e, b)
    → IsRead a e b × (e.tag ≡ tag)
unfolding after_tag
after_takes a tag rest e b cut h is_tag read =
    let s = bind_ok (length_at a.place rest)
    (λ (n : ℕ × Text). if nat_lt (length n.1) n.0 then Err (Truncated a.place)
    else element_read a.place tag (length a.rest - (length n.1 - n.0))
    (take (length a.rest - (length n.1 - n.0)) a.rest) (take n.0 n.1)
    (drop (length a.rest - (length n.1 - n.0)) a.rest))
    (e, b) read in
    let n : ℕ = s.0.0 in
    let others : Text = s.0.1 in
    let len = length_takes a.place rest n others (IsBytes-rest tag rest (subst IsBytes cut h))
    s.1 in
    let g = guard_ok (nat_lt (length others) n) (Truncated a.place)
    (element_read a.place tag (length a.rest - (length others - n))
    (take (length a.rest - (length others - n)) a.rest) (take n others)
    (drop (length a.rest - (length others - n)) a.rest)) (e, b) s.2 in
    let le : n ≤ length others = ltb-false (length others) n g.0 in
    let contents : Text = take n others in
    let following : Text = drop n others in
    let count : length contents ≡ n = length-take-le n others le in
    let encoded : length_octets n ++ others ≡ length_octets (length contents)
    ++ (contents ++ following) = rw (count, take-append-drop n others) refl in
    let rest_is : rest ≡ length_octets (length contents) ++ (contents ++ following) = len.parts
    ∙ encoded in
    let parts : a.rest ≡ element tag contents ++ following =
    cut ∙ (ap (λ (t : Text). tag ∷ t) rest_is
    ∙ sym (element_parts tag contents following)) in
    let short : length contents < 2 ^ 24 = omega (arith, len.short) in
    let moved : after_tag a tag rest ≡ after_tag (record {
      place = a.place;
      rest =
          element tag contents ++ following;
    }) tag (length_octets (length contents)
    ++ (contents ++ following)) =
    ap (λ (t : Text). after_tag (record { place = a.place; rest = t }) tag rest) parts
    ∙ ap (λ (t : Text). after_tag (record {
      place = a.place;
      rest =
          element tag contents ++ following;
    }) tag t) rest_is in
    is_read a tag contents following e b h (record {
      is_tag = is_tag;
      short =
          short;
    }) parts (sym (after_again a.place tag contents following short) ∙ (sym moved ∙ read))

tag_takes : (place : ℕ) (bytes : Text) (tag : ℕ) (rest : Text) → IsBytes bytes
    → tag_at place bytes ≡ Ok (tag, rest) → (bytes ≡ tag ∷ rest) × IsTag tag
tag_takes place [] tag rest h e = absurd cc
tag_takes place (t ∷ bytes) tag rest h e =
    let g = guard_ok (t % 32 == 31) (HighTag place) (Ok (t, bytes)) (tag, rest) e in
    let low : t % 32 ≢ 31 = λ high. true≢false (sym (eq-eqb (t % 32) 31 high) ∙ g.0) in
    let P : ℕ × Text → Type 0 = λ v. (t ∷ bytes ≡ v.0 ∷ v.1) × IsTag v.0 in
    subst P (ok_is DerError (t, bytes) (tag, rest) g.1) (refl, record { byte = h 0; low = low })

tag_again : (place tag : ℕ) (rest : Text) → IsTag tag → tag_at place (tag ∷ rest) ≡ Ok (tag, rest)
tag_again place tag rest is_tag = rw (ne_eqb (tag % 32) 31 is_tag.low) refl

pub element_takes : (a : At) (e : Item) (b : At) → IsBytes a.rest → element_at a ≡ Ok (e, b)
    → IsRead a e b
unfolding element_at
element_takes a e b h read =
    let s = bind_ok (tag_at a.place a.rest) (λ (t : ℕ × Text). after_tag a t.0 t.1) (e, b) read in
    let t = tag_takes a.place a.rest s.0.0 s.0.1 h s.1 in
    (after_takes a s.0.0 s.0.1 e b t.0 h t.1 s.2).0

pub wanted_takes : (wanted : ℕ) (a : At) (e : Item) (b : At) → IsBytes a.rest
    → wanted_at wanted a ≡ Ok (e, b) → IsRead a e b × (e.tag ≡ wanted)
unfolding wanted_at
wanted_takes wanted a e b h read =
    let s = bind_ok (tag_at a.place a.rest) (λ (t : ℕ × Text). if t.0 == wanted
    then after_tag a t.0 t.1 else Err (WrongTag a.place)) (e, b) read in
    let t = tag_takes a.place a.rest s.0.0 s.0.1 h s.1 in
    let g = pass_ok (s.0.0 == wanted) (after_tag a s.0.0 s.0.1) (WrongTag a.place) (e, b) s.2 in
    let found = after_takes a s.0.0 s.0.1 e b t.0 h t.1 g.1 in
    (found.0, found.1 ∙ eqb-true s.0.0 wanted g.0)

pub element_again : (tag : ℕ) (contents : Text) (place : ℕ) (rest : Text) → FitsElement tag contents
    → element_at (record { place = place; rest = element tag contents ++ rest })
    ≡ Ok (
      element_item tag contents place,
      record {
        place =
            place + length (element tag contents);
        rest = rest;
      },
    )
unfolding element_at
element_again tag contents place rest fits =
    let a : At = record { place = place; rest = element tag contents ++ rest } in
    let following : Text = length_octets (length contents) ++ (contents ++ rest) in
    let tagged : tag_at place (element tag contents ++ rest) ≡ Ok (tag, following) =
    ap (tag_at place) (element_parts tag contents rest)
    ∙ tag_again place tag following fits.is_tag in
    ap (λ (r : Result (ℕ × Text) DerError). r >>= λ t. after_tag a t.0 t.1) tagged
    ∙ after_again place tag contents rest fits.short

pub wanted_again : (tag : ℕ) (contents : Text) (place : ℕ) (rest : Text) → FitsElement tag contents
    → wanted_at tag (record { place = place; rest = element tag contents ++ rest })
    ≡ Ok (
      element_item tag contents place,
      record {
        place =
            place + length (element tag contents);
        rest = rest;
      },
    )
unfolding wanted_at
wanted_again tag contents place rest fits =
    let a : At = record { place = place; rest = element tag contents ++ rest } in
    let following : Text = length_octets (length contents) ++ (contents ++ rest) in
    let tagged : tag_at place (element tag contents ++ rest) ≡ Ok (tag, following) =
    ap (tag_at place) (element_parts tag contents rest)
    ∙ tag_again place tag following fits.is_tag in
    let Wanted : Result (ℕ × Text) DerError → Result (Item × At) DerError =
    λ r. r >>= λ t. if t.0 == tag then after_tag a t.0 t.1 else Err (WrongTag place) in
    let same : (tag == tag) ≡ true = eq-eqb tag tag refl in
    ap Wanted tagged ∙ (rw same refl ∙ after_again place tag contents rest fits.short)

-- An element has more bytes than its contents, and at most five more.
pub element-longer : (tag : ℕ) (contents : Text) → length contents < length (element tag contents)
unfolding element
element-longer tag contents = omega (
  arith,
  length-append (length_octets (length contents)) contents,
)

octets-short : (n : ℕ) → length (length_octets n) ≤ 4
octets-short n =
    elim (cases_lt n 128) [
      | inl lt ↦ rw (octets_small n lt) (omega arith)
      | inr le ↦
          elim (cases_lt n 256) [
            | inl lt ↦ rw (octets_one n le lt) (omega arith)
            | inr more ↦
                elim (cases_lt n 65536) [
                  | inl lt ↦ rw (octets_two n more lt) (omega arith)
                  | inr most ↦ rw (octets_three n most) (omega arith)
                ]
          ]
    ]

pub element-short : (tag : ℕ) (contents : Text)
    → length (element tag contents) ≤ length contents + 5
unfolding element
element-short tag contents = omega (
  arith,
  length-append (length_octets (length contents)) contents,
  octets-short (length contents),
)

pub begins_with-element : (tag : ℕ) (contents rest : Text)
    → begins_with tag (element tag contents ++ rest) ≡ true
unfolding element
begins_with-element tag contents rest = eq-eqb tag tag refl

-- No encoding of an element begins another one.
pub one_element : (s t : ℕ) (c d a b : Text) → FitsElement s c → FitsElement t d
    → element s c ++ a ≡ element t d ++ b → (s ≡ t) × (c ≡ d) × (a ≡ b)
one_element s t c d a b fits fits' same =
    let one = element_again s c 0 a fits in
    let two = element_again t d 0 b fits' in
    let moved = ap (λ (u : Text). element_at (record { place = 0; rest = u })) same in
    let pair = ok_is DerError (
      element_item s c 0,
      record {
        place = 0 + length (element s c);
        rest =
            a;
      },
    ) (element_item t d 0, record { place = 0 + length (element t d); rest = b }) (sym one
    ∙ (moved ∙ two)) in (
      ap (λ (v : Item × At). v.0.tag) pair,
      ap (λ (v : Item × At). v.0.contents) pair,
      ap (λ (v : Item × At). v.1.rest) pair,
    )
