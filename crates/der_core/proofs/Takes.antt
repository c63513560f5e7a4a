-- An element that is read takes bytes away.
use Rattle.std.proofs.Common.{◌≡◌, ℕ, ◌+◌, ◌-◌, ◌*◌, ◌%◌, ◌<◌, ◌≤◌, [], ◌∷◌, length, take, drop}
use Rattle.std.proofs.Common.{Result, Ok, Err, subst, arith, inl, inr}
use Rattle.std.specs.Prelude.{if◌then◌else◌, ◌==◌, nat_lt}
use Rattle.std.proofs.lemmas.List.{length-drop}
use Rattle.byte_formats.specs.Types.{Text}
use Rattle.byte_formats.specs.Offsets.{At, after}
use Rattle.byte_formats.specs.Readings.{Reading, ◌>>=◌}
use Rattle.byte_formats.proofs.Left.{Takes}
use Rattle.byte_formats.proofs.Steps.{bind_ok, chosen, guard_ok, lifted_ok, ok_is, pass_ok}
use Rattle.der_core.specs.Items.{Item, inside}
use Rattle.der_core.specs.Reading.{tag_at, one_at, two_at, three_at, length_at, after_tag}
use Rattle.der_core.specs.Reading.{element_at, wanted_at, end_at}
use Rattle.der_core.specs.Fields.{der, inside_at}
use Rattle.der_core.specs.declared.fault.DerError.{DerError}
use Rattle.der_core.specs.declared.fault.DerError.TheVariants.{Truncated, LongForm, HighTag}
use Rattle.der_core.specs.declared.fault.DerError.TheVariants.{WrongTag}
use Rattle.der_core.specs.declared.fault.CertError.{CertError}
use Rattle.der_core.specs.declared.fault.CertError.TheVariants.{Der}

abbrev NoLonger : Text → ℕ × Text → Type 0
NoLonger bytes v = length v.1 ≤ length bytes

one_shorter : (place : ℕ) (bytes : Text) (v : ℕ × Text) → one_at place bytes ≡ Ok v
    → NoLonger bytes v
one_shorter place [] v e = absurd cc
one_shorter place (a ∷ bytes) v e =
    let g = guard_ok (nat_lt a 128) (LongForm place) (Ok (a, bytes)) v e in
    subst (NoLonger (a ∷ bytes)) (ok_is DerError (a, bytes) v g.1) (omega arith)

two_shorter : (place : ℕ) (bytes : Text) (v : ℕ × Text) → two_at place bytes ≡ Ok v
    → NoLonger bytes v
two_shorter place [] v e = absurd cc
two_shorter place (a ∷ []) v e = absurd cc
two_shorter place (a ∷ b ∷ bytes) v e =
    let g = guard_ok (a == 0) (LongForm place) (Ok (a * 256 + b, bytes)) v e in
    subst (NoLonger (a ∷ b ∷ bytes)) (ok_is DerError (a * 256 + b, bytes) v g.1) (omega arith)

three_shorter : (place : ℕ) (bytes : Text) (v : ℕ × Text) → three_at place bytes ≡ Ok v
    → NoLonger bytes v
three_shorter place [] v e = absurd cc
three_shorter place (a ∷ []) v e = absurd cc
three_shorter place (a ∷ b ∷ []) v e = absurd cc
three_shorter place (a ∷ b ∷ c ∷ bytes) v e =
    let n : ℕ = a * 65536 + (b * 256 + c) in
    let g = guard_ok (a == 0) (LongForm place) (Ok (n, bytes)) v e in
    subst (NoLonger (a ∷ b ∷ c ∷ bytes)) (ok_is DerError (n, bytes) v g.1) (omega arith)

length_shorter : (place : ℕ) (bytes : Text) (v : ℕ × Text) → length_at place bytes ≡ Ok v
    → NoLonger bytes v
length_shorter place [] v e = absurd cc
length_shorter place (first ∷ bytes) v e =
    let long : Result (ℕ × Text) DerError = Err (LongForm place) in
    let from3 : Result (ℕ × Text) DerError = if first == 131 then three_at place bytes else long in
    let from2 : Result (ℕ × Text) DerError = if first == 130 then two_at place bytes else from3 in
    let from1 : Result (ℕ × Text) DerError = if first == 129 then one_at place bytes else from2 in
    elim (chosen (nat_lt first 128) (Ok (first, bytes)) from1 (Ok v) e) [
      | inl c ↦ subst (NoLonger (first ∷ bytes)) (ok_is DerError (first, bytes) v c.1) (omega arith)
      | inr c ↦ elim (chosen (first == 129) (one_at place bytes) from2 (Ok v) c.1) [
        | inl d ↦ let le : length v.1 ≤ length bytes = one_shorter place bytes v d.1 in omega arith
        | inr d ↦ elim (chosen (first == 130) (two_at place bytes) from3 (Ok v) d.1) [
          | inl f ↦ let le : length v.1 ≤ length bytes =
              two_shorter place bytes v f.1 in omega arith
          | inr f ↦ elim (chosen (first == 131) (three_at place bytes) long (Ok v) f.1) [
            | inl g ↦ let le : length v.1 ≤ length bytes =
                three_shorter place bytes v g.1 in omega arith
            | inr g ↦ absurd (cc (g.1))
          ]
        ]
      ]
    ]

-- What is left after x is shorter than what was left at a.
abbrev IsForward : At → Item × At → Type 0
IsForward a x = length x.1.rest + 1 ≤ length a.rest

after_forward : (a : At) (tag : ℕ) (rest : Text) (x : Item × At) → length rest < length a.rest
    → after_tag a tag rest ≡ Ok x → IsForward a x
unfolding after_tag
after_forward a tag rest x less e =
    let item : ℕ × Text → Item = λ n. record {
      tag = tag;
      place = a.place;
      whole =
          take (length a.rest - (length n.1 - n.0)) a.rest;
      contents = take n.0 n.1;
    } in
    let s = bind_ok (length_at a.place rest) (λ (n : ℕ × Text). if nat_lt (length n.1) n.0
    then Err (Truncated a.place) else Ok (item n, after (length a.rest - (length n.1 - n.0)) a))
    x e in
    let n : ℕ × Text = s.0 in
    let size : ℕ = length a.rest - (length n.1 - n.0) in
    let g = guard_ok (nat_lt (length n.1) n.0) (Truncated a.place) (Ok (
      item n,
      after size a,
    )) x s.2 in
    let le : length n.1 ≤ length rest = length_shorter a.place rest n s.1 in
    let left : length (drop size a.rest) ≡ length a.rest - size = length-drop size a.rest in
    subst (IsForward a) (ok_is DerError (item n, after size a) x g.1) (omega (
      arith,
      left,
      le,
      less,
    ))

tag_shorter : (place : ℕ) (bytes : Text) (v : ℕ × Text) → tag_at place bytes ≡ Ok v
    → length v.1 < length bytes
tag_shorter place [] v e = absurd cc
tag_shorter place (tag ∷ rest) v e =
    let g = guard_ok (tag % 32 == 31) (HighTag place) (Ok (tag, rest)) v e in
    let P : ℕ × Text → Type 0 = λ w. length w.1 < length (tag ∷ rest) in
    subst P (ok_is DerError (tag, rest) v g.1) (omega arith)

-- Reading an element takes bytes, whatever it is.
pub takes_element : Takes 1 element_at
unfolding element_at
takes_element = record {
  less = λ a x b e.
      let s = bind_ok (tag_at a.place a.rest) (λ (t : ℕ × Text). after_tag a t.0 t.1) (x, b) e in
      after_forward a s.0.0 s.0.1 (x, b) (tag_shorter a.place a.rest s.0 s.1) s.2;
}

pub takes_wanted : (tag : ℕ) → Takes 1 (wanted_at tag)
unfolding wanted_at
takes_wanted tag = record {
  less = λ a x b e.
      let s = bind_ok (tag_at a.place a.rest) (λ (t : ℕ × Text). if t.0 == tag
      then after_tag a t.0 t.1 else Err (WrongTag a.place)) (x, b) e in
      let g = pass_ok (s.0.0 == tag) (after_tag a s.0.0 s.0.1) (WrongTag a.place) (x, b) s.2 in
      after_forward a s.0.0 s.0.1 (x, b) (tag_shorter a.place a.rest s.0 s.1) g.1;
}

-- What is read inside an element takes its bytes.
pub takes_inside : {X : Type 0} (tag : ℕ) (read : Reading X CertError)
    → Takes 1 (inside_at tag read)
takes_inside {X} tag read = record {
  less = λ a x b e.
      let s = bind_ok (der (wanted_at tag a)) (λ (v : Item × At). read (inside v.0) >>= λ (y : X
      × At). der (end_at y.1) >>= λ (done : Unit {0}). Ok (y.0, v.1)) (x, b) e in
      let t = bind_ok (read (inside s.0.0)) (λ (y : X
      × At). der (end_at y.1) >>= λ (done : Unit {0}). Ok (y.0, s.0.1)) (x, b) s.2 in
      let u = bind_ok (der (end_at t.0.1)) (λ (done : Unit {0}). Ok (t.0.0, s.0.1)) (x, b) t.2 in
      let P : X × At → Type 0 = λ v. length v.1.rest + 1 ≤ length a.rest in
      subst P (ok_is CertError (t.0.0, s.0.1) (x, b) u.2)
      ((takes_wanted tag).less a s.0.0 s.0.1 (lifted_ok Der (wanted_at tag a) s.0 s.1));
}
