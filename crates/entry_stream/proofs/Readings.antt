-- Items read as a stream: those that were taken, and the bytes that were read and not yet used.
use Rattle.std.proofs.Common.{◌≡◌, ◌≢◌, ℕ, ◌+◌, ◌-◌, ◌<◌, ◌≤◌, ◌^◌, ◌==◌, Bool, true, false}
use Rattle.std.proofs.Common.{[], ◌∷◌, ◌++◌, length, drop, Result, Ok, Err, refl, sym, ap, subst}
use Rattle.std.proofs.Common.{◌∙◌, append-nil, append_assoc, arith, ne_eqb, IfSome, IsErrOf, None}
use Rattle.std.proofs.Common.{Option, Some}
use Rattle.std.specs.Io.KnownBytes.{Consumes}
use Rattle.std.specs.Prelude.{if◌then◌else◌}
use Rattle.std.specs.Int.{w16, to_be_bytes}
use Rattle.std.proofs.lemmas.List.{length-append}
use Rattle.std.proofs.Math.Seq.{drop-append_seam}
use Rattle.byte_formats.specs.Types.{HashFunction, Text}
use Rattle.byte_formats.specs.Offsets.{At, IsBytes, at}
use Rattle.byte_formats.specs.Readings.{◌>>=◌, both_at, found, lifted}
use Rattle.byte_formats.specs.Forms.{Anything, FitsBoth, IsForm}
use Rattle.byte_formats.proofs.FormLaws.{then_form}
use Rattle.byte_formats.proofs.Steps.{found_ok}
use Rattle.tls_wire.specs.declared.cursor.Short.{Short}
use Rattle.tls_wire.specs.Encoding.{vector}
use Rattle.tls_wire.specs.Reading.{vector_at}
use Rattle.tls_wire.proofs.Numbers.{wide16}
use Rattle.tls_wire.proofs.Vectors.{vector_form}
use Rattle.entry_list.specs.Items.{ItemLists, is_key_of}
use Rattle.entry_list.specs.Reading.{items_in, listed_at, short_item, vector_item}
use Rattle.entry_list.specs.declared.error.ItemsError.{ItemsError}
use Rattle.entry_list.specs.declared.error.ItemsError.TheVariants.{BadItem, Short as TooShort}
use Rattle.entry_list.proofs.Loops.{ItemsLeft, items_end, items_fail, items_from, items_more}
use Rattle.entry_list.proofs.Written.{IsShort, Pair, pair_text}
use Rattle.entry_stream.specs.Parts.{parts_at}
use Rattle.entry_stream.specs.Streams.{AreItemsOf, CanTakeMore, empty_list, items_with}
use Rattle.entry_stream.proofs.Moved.{moved, parts_moved}

-- ---- the first item

parts_form : IsForm pair_text (FitsBoth IsShort IsShort) Anything parts_at
unfolding parts_at
parts_form = then_form (vector_form w16 65536 wide16) (vector_form w16 65536 wide16)

-- These bytes begin with an item.
pub record IsFirst (bytes entry key : Text) : Type 0 where
  pub rest : Text
  pub parts : bytes ≡ pair_text (entry, key) ++ rest
  pub fits : FitsBoth IsShort IsShort (entry, key)

pub first_is : (pending bytes entry key : Text) → bytes ≡ pending → IsBytes bytes
    → found (parts_at (at bytes 0)) ≡ Ok (entry, key) → IsFirst pending entry key
first_is pending bytes entry key same are e =
    let s = found_ok (parts_at (at bytes 0)) (entry, key) e in
    let t = parts_form.takes (at bytes 0) (entry, key) s.0 are s.1 in
    record { rest = s.0.rest; parts = sym same ∙ t.0.parts; fits = t.1 }

pub first_size : (entry key : Text)
    → length (pair_text (entry, key)) ≡ 4 + length entry + length key
first_size entry key =
    let one : length (to_be_bytes w16 (length entry)) ≡ 2 = refl in
    let two : length (to_be_bytes w16 (length key)) ≡ 2 = refl in
    omega (
      arith,
      one,
      two,
      length-append (to_be_bytes w16 (length entry)) entry,
      length-append (to_be_bytes w16 (length key)) key,
      length-append (vector w16 entry) (vector w16 key),
    )

-- These bytes have all of it.
pub first_long : (bytes entry key : Text) → IsFirst bytes entry key
    → 4 + length entry + length key ≤ length bytes
first_long bytes entry key first =
    let size = first_size entry key in
    let cut = ap length first.parts in
    let both = length-append (pair_text (entry, key)) first.rest in
    omega arith

-- ---- an item by its parts

bind_lifted : {X Y Z E F : Type 0} (fault : E → F) (r : Result X E) (next : X → Result Y E)
    (last : X → Y → Z)
    → (lifted fault r >>= λ x. lifted fault (next x) >>= λ y. Ok (last x y))
    ≡ lifted fault (r >>= λ x. next x >>= λ y. Ok (last x y))
bind_lifted {Y = Y} {E = E} fault (Ok x) next last = one (next x)
  where
    one : (s : Result Y E) → (lifted fault s >>= λ y. Ok (last x y))
        ≡ lifted fault (s >>= λ y. Ok (last x y))
    one (Ok y) = refl
    one (Err e) = refl
bind_lifted fault (Err e) next last = refl

vectors_are : (a : At) → both_at vector_item vector_item a ≡ lifted short_item (parts_at a)
unfolding parts_at
vectors_are a =
    bind_lifted short_item (vector_at w16 a) (λ (x : Text × At). vector_at w16 x.1)
    (λ (x y : Text × At). ((x.0, y.0), y.1))

abbrev tested : HashFunction → ℕ → Pair × At → Result (Pair × At) ItemsError
tested h n x = if is_key_of h x.0.0 x.0.1 then Ok x else Err (BadItem n)

listed_is : (h : HashFunction) (n : ℕ) (a : At)
    → listed_at h n a ≡ (lifted short_item (parts_at a) >>= tested h n)
unfolding listed_at
listed_is h n a = ap (λ (r : Result (Pair × At) ItemsError). r >>= tested h n) (vectors_are a)

chosen_is : {A : Type 0} (b : Bool) (x y : A) → b ≡ true → (if b then x else y) ≡ x
chosen_is true x y e = refl
chosen_is false x y e = absurd cc

other_is : {A : Type 0} (b : Bool) (x y : A) → b ≡ false → (if b then x else y) ≡ y
other_is true x y e = absurd cc
other_is false x y e = refl

abbrev past : ℕ → Text → Text → Text → At
past place entry key rest =
    record { place = place + length (pair_text (entry, key)); rest = rest }

parts_there : (place : ℕ) (entry key rest : Text) → FitsBoth IsShort IsShort (entry, key)
    → parts_at (record { place = place; rest = pair_text (entry, key) ++ rest })
    ≡ Ok ((entry, key), past place entry key rest)
parts_there place entry key rest fits = parts_form.again (entry, key) place rest fits tt

listed_there : (h : HashFunction) (n place : ℕ) (entry key rest : Text)
    → FitsBoth IsShort IsShort (entry, key)
    → listed_at h n (record { place = place; rest = pair_text (entry, key) ++ rest })
    ≡ tested h n ((entry, key), past place entry key rest)
listed_there h n place entry key rest fits =
    listed_is h n (record { place = place; rest = pair_text (entry, key) ++ rest })
    ∙ ap (λ (r : Result (Pair × At) Short). lifted short_item r >>= tested h n)
    (parts_there place entry key rest fits)

-- ---- the stream

-- These items were taken of the bytes that were read. Whatever follows, reading continues with the
-- bytes that are pending.
pub record IsReading (h : HashFunction) (read pending : Text) (items : ItemLists) : Type 0 where
  pub place : ℕ
  pub long : place + length pending ≡ length read
  pub few : length items.entries ≤ place
  pub left : (more : Text) → ItemsLeft h (items_in h (read ++ more)) items
      (record { place = place; rest = pending ++ more })

pub reading_first : (h : HashFunction) (pending : Text) → pending ≡ []
    → IsReading h [] pending empty_list
reading_first h pending none =
    subst (λ (p : Text). IsReading h [] p empty_list) (sym none) (record {
      place = 0;
      long = refl;
      few = omega arith;
      left = λ more. items_from h more empty_list (at more 0) refl refl;
    })

-- The source gave more bytes.
pub reading_more : (h : HashFunction) (read pending next : Text) (items : ItemLists) (piece : Text)
    → IsReading h read pending items → next ≡ pending ++ piece
    → IsReading h (read ++ piece) next items
reading_more h read pending next items piece s is =
    subst (λ (t : Text). IsReading h (read ++ piece) t items) (sym is) (record {
      place = s.place;
      long = omega (arith, s.long, length-append read piece, length-append pending piece);
      few = s.few;
      left = λ more.
          subst (λ (t : Text). ItemsLeft h (items_in h t) items
          (record { place = s.place; rest = (pending ++ piece) ++ more }))
          (sym (append_assoc read piece more))
          (subst (λ (t : Text). ItemsLeft h (items_in h (read ++ (piece ++ more))) items
          (record { place = s.place; rest = t })) (sym (append_assoc pending piece more))
          (s.left (piece ++ more)));
    })

module _ (h : HashFunction) (read pending entry key : Text) (items : ItemLists)
    (s : IsReading h read pending items) (first : IsFirst pending entry key) where
  split : (more : Text) → pending ++ more ≡ pair_text (entry, key) ++ (first.rest ++ more)
  split more = ap (λ (t : Text). t ++ more) first.parts
      ∙ append_assoc (pair_text (entry, key)) first.rest more

  listed : (more : Text)
      → listed_at h (length items.entries) (record { place = s.place; rest = pending ++ more })
      ≡ tested h (length items.entries) (
        (entry, key),
        past s.place entry key (first.rest ++ more),
      )
  listed more =
      ap (λ (t : Text). listed_at h (length items.entries) (record { place = s.place; rest = t }))
      (split more)
      ∙ listed_there h (length items.entries) s.place entry key (first.rest ++ more) first.fits

  -- An item more was taken.
  pub reading_item : (next : Text) → is_key_of h entry key ≡ true
      → next ≡ drop (4 + length entry + length key) pending
      → IsReading h read next (items_with items entry key)
  reading_item next own is =
      let size = first_size entry key in
      let rest_is : next ≡ first.rest = is
      ∙ ap (λ (n : ℕ). drop n pending) (sym size)
      ∙ ap (drop (length (pair_text (entry, key)))) first.parts
      ∙ drop-append_seam (pair_text (entry, key)) first.rest in
      let cut = ap length first.parts in
      let both = length-append (pair_text (entry, key)) first.rest in
      let longer = length-append items.entries (entry ∷ []) in
      let long = s.long in
      let few = s.few in
      subst (λ (t : Text). IsReading h read t (items_with items entry key)) (sym rest_is) (record {
        place = s.place + length (pair_text (entry, key));
        long = omega arith;
        few = omega arith;
        left = λ more.
            let step : listed_at h (length items.entries)
            (record { place = s.place; rest = pending ++ more })
            ≡ Ok ((entry, key), past s.place entry key (first.rest ++ more)) = listed more
            ∙ chosen_is (is_key_of h entry key)
            (Ok ((entry, key), past s.place entry key (first.rest ++ more)))
            (Err (BadItem (length items.entries))) own in
            let one = length-append pending more in
            let two = length-append first.rest more in
            items_more h (items_in h (read ++ more)) items (items_with items entry key)
            (record { place = s.place; rest = pending ++ more }) (length items.entries) entry key
            (past s.place entry key (first.rest ++ more)) refl step (omega arith) refl
            (s.left more);
      })

  -- The key is another one.
  pub reading_bad : (n : ℕ) → n ≡ length items.entries → is_key_of h entry key ≡ false
      → (more : Text) → items_in h (read ++ more) ≡ Err (BadItem n)
  reading_bad n count other more =
      let size = first_size entry key in
      let cut = ap length first.parts in
      let both = length-append (pair_text (entry, key)) first.rest in
      let one = length-append pending more in
      let step : listed_at h (length items.entries)
      (record { place = s.place; rest = pending ++ more }) ≡ Err (BadItem (length items.entries)) =
      listed more
      ∙ other_is (is_key_of h entry key)
      (Ok ((entry, key), past s.place entry key (first.rest ++ more)))
      (Err (BadItem (length items.entries))) other in
      items_fail h (items_in h (read ++ more)) items
      (record { place = s.place; rest = pending ++ more }) (length items.entries)
      (BadItem (length items.entries)) refl step (omega arith) (s.left more)
      ∙ ap (λ (k : ℕ). Err (BadItem k)) (sym count)

  -- One item more may be taken.
  pub reading_few : (limit : ℕ) → length read ≤ limit → limit < 2 ^ 64
      → length items.entries + 1 < 2 ^ 64
  reading_few limit within small =
      let size = first_size entry key in
      let cut = ap length first.parts in
      let both = length-append (pair_text (entry, key)) first.rest in
      let long = s.long in
      let few = s.few in
      omega arith

-- ---- the end

found_err : {X : Type 0} (r : Result (X × At) Short) (e : Short) → found r ≡ Err e → r ≡ Err e
found_err (Ok x) e is = absurd cc
found_err (Err s) e is = cc

-- Nothing more follows, and no item is whole in the bytes that are pending.
module _ (h : HashFunction) (taken : ItemLists → Type 0) (read : Text) (items : ItemLists)
    (count : ℕ) (short : Short) (are : taken items) (same : count ≡ length items.entries) where
  abbrev Ended : Text → Type 0
  Ended p = AreItemsOf h taken (if length p == 0 then Ok count
      else Err (TooShort (length read - length p + short.place))) read

  whole : (p : Text) → (t : IsReading h read p items)
      → ItemsLeft h (items_in h read) items (record { place = t.place; rest = p })
  whole p t =
      subst (λ (x : Text). ItemsLeft h (items_in h x) items (record { place = t.place; rest = p }))
      (append-nil read)
      (subst (λ (x : Text). ItemsLeft h (items_in h (read ++ [])) items
      (record { place = t.place; rest = x })) (append-nil p) (t.left []))

  the_sum : (n : ℕ) → n ≡ n + 0
  the_sum n = omega arith

  step_is : (p : Text) → (t : IsReading h read p items)
      → found (parts_at (at p 0)) ≡ Err short
      → listed_at h (length items.entries) (record { place = t.place; rest = p })
      ≡ Err (TooShort (t.place + short.place))
  step_is p t fault =
      let a : At = record { place = t.place; rest = p } in
      let here : a ≡ record { place = t.place + 0; rest = p } =
      ap (λ (n : ℕ). record { place = n; rest = p }) (the_sum t.place) in
      let parts : parts_at a ≡ Err (record { place = t.place + short.place }) =
      ap parts_at here ∙ parts_moved t.place (at p 0)
      ∙ ap (moved t.place) (found_err (parts_at (at p 0)) short fault) in
      listed_is h (length items.entries) a
      ∙ ap (λ (r : Result (Pair × At) Short). lifted short_item r
      >>= tested h (length items.entries)) parts

  ended_some : (p : Text) → (t : IsReading h read p items)
      → found (parts_at (at p 0)) ≡ Err short → 0 < length p
      → items_in h read ≡ Err (TooShort (length read - length p + short.place))
  ended_some p t fault some =
      let long = t.long in
      let there : t.place + short.place ≡ length read - length p + short.place = omega arith in
      items_fail h (items_in h read) items (record { place = t.place; rest = p })
      (length items.entries) (TooShort (t.place + short.place)) refl (step_is p t fault) some
      (whole p t)
      ∙ ap (λ (n : ℕ). Err (TooShort n)) there

  ended : (p : Text) → IsReading h read p items → found (parts_at (at p 0)) ≡ Err short → Ended p
  ended [] t fault = (
    items,
    items_end h (items_in h read) items (record { place = t.place; rest = [] }) (omega arith)
        (whole [] t),
    same,
    are,
  )
  ended (b ∷ bs) t fault =
      let some : 0 < length (b ∷ bs) = omega arith in
      let other : length (b ∷ bs) ≢ 0 = omega arith in
      subst (λ (none : Bool). AreItemsOf h taken (if none then Ok count
      else Err (TooShort (length read - length (b ∷ bs) + short.place))) read)
      (sym (ne_eqb (length (b ∷ bs)) 0 other)) (ended_some (b ∷ bs) t fault some)

  pub reading_ended : (pending bytes : Text) (total left : ℕ) (answer : Result ℕ ItemsError)
      → IsReading h read pending items → bytes ≡ pending
      → found (parts_at (at bytes 0)) ≡ Err short → total ≡ length read → left ≡ length pending
      → answer ≡ (if left == 0 then Ok count else Err (TooShort (total - left + short.place)))
      → AreItemsOf h taken answer read
  reading_ended pending bytes total left answer s is fault all some e =
      let step = ended pending s (subst (λ (t : Text). found (parts_at (at t 0)) ≡ Err short) is
      fault) in
      subst (λ (r : Result ℕ ItemsError). AreItemsOf h taken r read)
      (sym (e ∙ ap (λ (n : ℕ). if n == 0 then Ok count
      else Err (TooShort (total - n + short.place))) some
      ∙ ap (λ (n : ℕ). if length pending == 0 then Ok count
      else Err (TooShort (n - length pending + short.place))) all)) step

-- ---- the limit

-- A source that gave more than the limit had more left.
pub over : (old new : Option Text) (bytes : Text) (limit : ℕ) → Consumes old new bytes
    → limit < length bytes → IfSome old (λ all. limit < length all)
over None new bytes limit gave more = tt
over (Some xs) None bytes limit gave more = absurd gave
over (Some xs) (Some ys) bytes limit gave more =
    let long = ap length gave in
    let both = length-append bytes ys in
    omega arith

-- It gave some bytes, and what was left is more than the rest of the limit.
pub over_rest : (old mid : Option Text) (bytes : Text) (limit total : ℕ) → Consumes old mid bytes
    → length bytes ≡ total → total ≤ limit → IfSome mid (λ all. limit - total < length all)
    → IfSome old (λ all. limit < length all)
over_rest None mid bytes limit total gave long few more = tt
over_rest (Some xs) None bytes limit total gave long few more = absurd gave
over_rest (Some xs) (Some ys) bytes limit total gave long few more =
    let all = ap length gave in
    let both = length-append bytes ys in
    omega arith

-- The same fault of another call.
pub err_again : {T U E : Type 0} (e f : E) → IsErrOf {T = T} (Err e) f → IsErrOf {T = U} (Err e) f
err_again {E = E} e f is = let same : e ≡ f = cc in ap (λ (x : E). Err x) same
