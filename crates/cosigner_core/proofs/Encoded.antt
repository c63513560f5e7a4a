-- The records of a cosigner are read as they are encoded.
use Rattle.std.proofs.Common.{◌≡◌, ℕ, ◌+◌, ◌^◌, ◌<◌, ◌≤◌, ◌==◌, Bool, true, false, List, [], ◌∷◌}
use Rattle.std.proofs.Common.{◌++◌, length, Option, Some, None, IfSome, option_map, option_and_then}
use Rattle.std.proofs.Common.{Result, Ok, Err, refl, ap, subst, ◌∙◌, if◌then◌else◌, arith}
use Rattle.std.proofs.lemmas.Bool.{eqb-true}
use Rattle.std.proofs.lemmas.Option.{same_Some}
use Rattle.std.proofs.lemmas.List.{length-append}
use Rattle.std.specs.Int.{w8, w32, w64}
use Rattle.byte_formats.specs.Types.{Hash, HashFunction, Text}
use Rattle.byte_formats.specs.Offsets.{At, at, IsBytes}
use Rattle.byte_formats.specs.Forms.{Anything, FitsBoth, IsForm, Stands, both, itself, optional}
use Rattle.byte_formats.specs.Readings.{whole_of}
use Rattle.byte_formats.proofs.FormLaws.{lifted_form, then_form, whole_again}
use Rattle.byte_formats.proofs.FormLaws.{whole_takes}
use Rattle.byte_formats.proofs.Steps.{Stands-none, bind_ok, ok_is}
use Rattle.byte_formats.proofs.Values.{map_some, then_some}
use Rattle.journal_core.proofs.Folds.{state_begins, state_next}
use Rattle.lmots_core.specs.Parameters.{typecode}
use Rattle.lmots_core.proofs.Yields.{type_of_code-typecode, typecode_small}
use Rattle.lms_core.specs.Heights.{IsSigningHeight, height, lms_code}
use Rattle.lms_core.specs.declared.heights.LmsType.{LmsType}
use Rattle.lms_core.specs.declared.heights.LmsType.TheVariants.{H5, H10, H15, H20, H25}
use Rattle.lms_core.proofs.Verifies.{lms_code_small}
use Rattle.tls_wire.specs.Reading.{number_at}
use Rattle.tls_wire.specs.Encoding.{number, vector}
use Rattle.tls_wire.specs.declared.cursor.Short.{Short}
use Rattle.tls_wire.proofs.AnchorForm.{anchor_again}
use Rattle.tls_wire.proofs.Numbers.{bytes_form, number_form, wide8, wide32}
use Rattle.tls_wire.proofs.Vectors.{vector_form}
use Rattle.cosigner_core.specs.Folds.{CosignerState, after_step, begun_cosigner, cosigner_fold}
use Rattle.cosigner_core.specs.Folds.{cosigner_of}
use Rattle.cosigner_core.specs.Folds.{new_cosigner, next_state}
use Rattle.cosigner_core.specs.Reading.{short_fault}
use Rattle.cosigner_core.specs.Records.{FitsCosigner, FitsStep}
use Rattle.cosigner_core.specs.declared.step.Step.TheVariants.{Advance, Child, Sign}
use Rattle.cosigner_core.specs.Records.{advance_record, advance_step_at, cosigner_at}
use Rattle.cosigner_core.specs.declared.step.Step.{Step}
use Rattle.cosigner_core.specs.Records.{FirstFields, advance_of, child_of, child_record}
use Rattle.cosigner_core.specs.Records.{child_step_at, cosigner_in, cosigner_record}
use Rattle.cosigner_core.specs.Records.{cosigner_settings_with, first_by_tag, first_tag, founded}
use Rattle.cosigner_core.specs.Records.{height_text, low_at, low_length, low_type, sign_of}
use Rattle.cosigner_core.specs.Records.{sign_record, sign_step_at, signing_type, step_by_tag}
use Rattle.cosigner_core.specs.Records.{step_in, step_record}
use Rattle.cosigner_core.specs.declared.settings.CosignerSettings.{CosignerSettings}
use Rattle.cosigner_core.proofs.Forms.{IsRoot, IsWord, Root, root_text, sized_form, spanned_form}
use Rattle.cosigner_core.proofs.Tagged.{tag_again, tag_takes}

-- ---- how long they are

length-low : (low : Option LmsType) → length (optional height_text low) ≡ low_length low
length-low None = refl
length-low (Some low) = refl

length-tag : (low : Option LmsType) → length (number w8 (first_tag low)) ≡ 1
length-tag None = refl
length-tag (Some low) = refl

pub length-cosigner : (s : CosignerSettings) (secret : Text)
    → length (cosigner_record s secret)
    ≡ 11 + length s.id + length s.log + length secret + low_length s.low
unfolding cosigner_record
length-cosigner s secret =
    let low = length-low s.low in
    let tag = length-tag s.low in
    simp length-append (omega arith)

pub length-advance : (size : ℕ) (root : Hash) (proof : List Hash)
    → 1 ≤ length (advance_record size root proof)
unfolding advance_record
length-advance size root proof = simp length-append (omega arith)

pub length-sign : (index start end : ℕ) (hash : Hash) (proof : List Hash)
    → 1 ≤ length (sign_record index start end hash proof)
unfolding sign_record
length-sign index start end hash proof = simp length-append (omega arith)

pub length-child : (child : ℕ) (low : LmsType) → 1 ≤ length (child_record child low)
unfolding child_record
length-child child low = simp length-append (omega arith)

-- ---- an Advance

abbrev AdvanceFields : Type 0
AdvanceFields = ℕ × Root

abbrev advance_fields : AdvanceFields → Text
advance_fields = both (number w64) root_text

abbrev FitAdvance : AdvanceFields → Type 0
FitAdvance = FitsBoth IsWord IsRoot

advance_form : IsForm advance_fields FitAdvance Anything advance_step_at
unfolding advance_step_at
advance_form = sized_form

-- ---- a Sign

abbrev IsShortWord : ℕ → Type 0
IsShortWord n = n < 2 ^ 32

abbrev SignFields : Type 0
SignFields = ℕ × (ℕ × (ℕ × Root))

abbrev sign_fields : SignFields → Text
sign_fields = both (number w32) (both (number w64) (both (number w64) root_text))

abbrev FitSign : SignFields → Type 0
FitSign = FitsBoth IsShortWord (FitsBoth IsWord (FitsBoth IsWord IsRoot))

sign_form : IsForm sign_fields FitSign Anything sign_step_at
unfolding sign_step_at
sign_form = then_form (lifted_form (number_form w32 (2 ^ 32) wide32) short_fault) spanned_form

-- ---- a Child

abbrev ChildFields : Type 0
ChildFields = ℕ × ℕ

abbrev child_fields : ChildFields → Text
child_fields = both (number w32) (number w32)

abbrev FitChild : ChildFields → Type 0
FitChild = FitsBoth IsShortWord IsShortWord

child_form : IsForm child_fields FitChild Anything child_step_at
unfolding child_step_at
child_form =
    let word = lifted_form (number_form w32 (2 ^ 32) wide32) short_fault in then_form word word

-- the heights of trees that sign
pub type_again : (l : LmsType) → height l ≤ 10 → signing_type (lms_code l) ≡ Some l
type_again H5 small = refl
type_again H10 small = refl
type_again H15 small = absurd (omega arith)
type_again H20 small = absurd (omega arith)
type_again H25 small = absurd (omega arith)

pub height_of : (code : ℕ) (l : LmsType) → signing_type code ≡ Some l
    → (code ≡ lms_code l) × (height l ≤ 10)
height_of code l is = go (code == 5) (code == 6) refl refl is
  where
    go : (one two : Bool) → (code == 5) ≡ one → (code == 6) ≡ two
        → (if one then Some H5 else (if two then Some H10 else None)) ≡ Some l
        → (code ≡ lms_code l) × (height l ≤ 10)
    go true two first second is =
        subst (λ (t : LmsType). (code ≡ lms_code t) × (height t ≤ 10)) (same_Some H5 l is)
        (eqb-true code 5 first, omega arith)
    go false true first second is =
        subst (λ (t : LmsType). (code ≡ lms_code t) × (height t ≤ 10)) (same_Some H10 l is)
        (eqb-true code 6 second, omega arith)
    go false false first second is = let wrong : None ≡ Some l = is in cc

-- ---- any of them

pub step_again : (step : Step) → FitsStep step → step_in (step_record step) ≡ Some step
unfolding step_in advance_record sign_record child_record
step_again (Advance size root proof) fits =
    ap step_by_tag (tag_again 0x12 (advance_fields (size, (root, proof))) (omega arith))
    ∙ ap (option_map advance_of) (whole_again advance_form tt (size, (root, proof)) 1
    (fits.word, (fits.sized, fits.all_hashes)))
step_again (Sign index start end hash proof) fits =
    ap step_by_tag (tag_again 0x13 (sign_fields (index, (start, (end, (hash, proof)))))
    (omega arith))
    ∙ ap (option_map sign_of) (whole_again sign_form tt (index, (start, (end, (hash, proof)))) 1 (
      fits.short_word,
      (
        fits.start_word,
        (
          fits.end_word,
          (fits.sized, fits.all_hashes),
        ),
      ),
    ))
step_again (Child child low) fits =
    let fields : ChildFields = (child, lms_code low) in
    ap step_by_tag (tag_again 0x14 (child_fields fields) (omega arith))
    ∙ ap (option_and_then child_of) (whole_again child_form tt fields 1
    (fits.short_word, lms_code_small low))
    ∙ ap (option_map (λ (l : LmsType). Child child l)) (type_again low fits.small)

pub step_takes : (body : Text) (step : Step) → IsBytes body → step_in body ≡ Some step
    → (body ≡ step_record step) × FitsStep step
unfolding step_in advance_record sign_record child_record
step_takes body step bytes is = go (number_at w8 (at body 0)) refl is
  where
    Encodes : Step → Type 0
    Encodes said = (body ≡ step_record said) × FitsStep said

    advance_is : (a : At) (x : AdvanceFields) → body ≡ number w8 0x12 ++ a.rest → IsBytes a.rest
        → whole_of (advance_step_at a) ≡ Some x → (body ≡ step_record (advance_of x))
        × FitsStep (advance_of x)
    advance_is a x begins rest is =
        let took = whole_takes advance_form a x rest is in (
          begins ∙ ap (λ (t : Text). number w8 0x12 ++ t) took.0,
          record { word = took.1.0; sized = took.1.1.0; all_hashes = took.1.1.1 },
        )

    sign_is : (a : At) (x : SignFields) → body ≡ number w8 0x13 ++ a.rest → IsBytes a.rest
        → whole_of (sign_step_at a) ≡ Some x → (body ≡ step_record (sign_of x))
        × FitsStep (sign_of x)
    sign_is a x begins rest is =
        let took = whole_takes sign_form a x rest is in (
          begins ∙ ap (λ (t : Text). number w8 0x13 ++ t) took.0,
          record {
            short_word = took.1.0;
            start_word = took.1.1.0;
            end_word = took.1.1.1.0;
            sized = took.1.1.1.1.0;
            all_hashes = took.1.1.1.1.1;
          },
        )

    child_is : (a : At) (x : ChildFields) (low : LmsType) → body ≡ number w8 0x14 ++ a.rest
        → IsBytes a.rest → whole_of (child_step_at a) ≡ Some x → signing_type x.1 ≡ Some low
        → (body ≡ step_record (Child x.0 low)) × FitsStep (Child x.0 low)
    child_is a x low begins rest is known =
        let took = whole_takes child_form a x rest is in
        let high = height_of x.1 low known in (
          begins ∙ ap (λ (t : Text). number w8 0x14 ++ t) (took.0
              ∙ ap (λ (code : ℕ). number w32 x.0 ++ number w32 code) high.0),
          record { short_word = took.1.0; small = high.1 },
        )

    sorted : (tag : ℕ × At) (one two three : Bool) → (tag.0 == 0x12) ≡ one
        → (tag.0 == 0x13) ≡ two → (tag.0 == 0x14) ≡ three
        → body ≡ number w8 tag.0 ++ tag.1.rest → IsBytes tag.1.rest
        → (if one then option_map advance_of (whole_of (advance_step_at tag.1))
        else (if two then option_map sign_of (whole_of (sign_step_at tag.1))
        else (if three then option_and_then child_of (whole_of (child_step_at tag.1)) else None)))
        ≡ Some step
        → (body ≡ step_record step) × FitsStep step
    sorted tag true two three first second third begins rest is =
        let said = map_some advance_of (whole_of (advance_step_at tag.1)) step is in
        let here : body ≡ number w8 0x12 ++ tag.1.rest =
        begins ∙ ap (λ (n : ℕ). number w8 n ++ tag.1.rest) (eqb-true tag.0 0x12 first) in
        subst (λ (s : Step). (body ≡ step_record s) × FitsStep s) said.2
        (advance_is tag.1 said.0 here rest said.1)
    sorted tag false true three first second third begins rest is =
        let said = map_some sign_of (whole_of (sign_step_at tag.1)) step is in
        let here : body ≡ number w8 0x13 ++ tag.1.rest =
        begins ∙ ap (λ (n : ℕ). number w8 n ++ tag.1.rest) (eqb-true tag.0 0x13 second) in
        subst (λ (s : Step). (body ≡ step_record s) × FitsStep s) said.2
        (sign_is tag.1 said.0 here rest said.1)
    sorted tag false false true first second third begins rest is =
        let read = then_some child_of (whole_of (child_step_at tag.1)) step is in
        let said = map_some (λ (l : LmsType). Child read.0.0 l) (signing_type read.0.1) step
        read.2 in
        let here : body ≡ number w8 0x14 ++ tag.1.rest =
        begins ∙ ap (λ (n : ℕ). number w8 n ++ tag.1.rest) (eqb-true tag.0 0x14 third) in
        subst (λ (s : Step). (body ≡ step_record s) × FitsStep s) said.2
        (child_is tag.1 read.0 said.0 here rest read.1 said.1)
    sorted tag false false false first second third begins rest is =
        let wrong : None ≡ Some step = is in cc

    go : (r : Result (ℕ × At) Short) → number_at w8 (at body 0) ≡ r → step_by_tag r ≡ Some step
        → (body ≡ step_record step) × FitsStep step
    go (Err short) was is = let wrong : None ≡ Some step = is in cc
    go (Ok tag) was is =
        let begins = tag_takes body tag bytes was in
        sorted tag (tag.0 == 0x12) (tag.0 == 0x13) (tag.0 == 0x14) refl refl refl begins.0 begins.1
        is

-- ---- a Cosigner

abbrev ShortId : Text → Type 0
ShortId bytes = length bytes < 2 ^ 8

abbrev IsSecret : Text → Type 0
IsSecret bytes = length bytes ≡ 48

-- the typecode of lower trees is there exactly where there are two levels
abbrev pub FitsLow : Bool → Option ℕ → Type 0
FitsLow false None = Unit {0}
FitsLow false (Some code) = ⊥
FitsLow true None = ⊥
FitsLow true (Some code) = IsShortWord code

abbrev pub low_text : Option ℕ → Text
low_text = optional (number w32)

low_form : (two : Bool) → IsForm low_text (FitsLow two) Anything (low_at two)
low_form false = record {
  takes = λ a x b are is. none_low a x b are is;
  again = λ x place rest fits any. no_low x place rest fits;
}
  where
    none_low : (a : At) (x : Option ℕ) (b : At) → IsBytes a.rest → low_at false a ≡ Ok (x, b)
        → Stands a (low_text x) b × FitsLow false x
    none_low a x b are is =
        subst (λ (y : Option ℕ × At). Stands a (low_text y.0) y.1 × FitsLow false y.0)
        (ok_is Short (None, a) (x, b) is) (Stands-none a are, tt)

    no_low : (x : Option ℕ) (place : ℕ) (rest : Text) → FitsLow false x
        → low_at false (record { place = place; rest = low_text x ++ rest })
        ≡ Ok (x, record { place = place + length (low_text x); rest = rest })
    no_low None place rest fits =
        let same : place ≡ place + 0 = omega arith in
        ap (λ (n : ℕ). Ok (None, record { place = n; rest = rest })) same
    no_low (Some code) place rest fits = absurd fits
low_form true = record {
  takes = λ a x b are is. one_low a x b are is;
  again = λ x place rest fits any. some_again x place rest fits;
}
  where
    word : IsForm (number w32) IsShortWord Anything (number_at w32)
    word = number_form w32 (2 ^ 32) wide32

    one_low : (a : At) (x : Option ℕ) (b : At) → IsBytes a.rest → low_at true a ≡ Ok (x, b)
        → Stands a (low_text x) b × FitsLow true x
    one_low a x b are is =
        let s = bind_ok (number_at w32 a) (λ (v : ℕ × At). Ok (Some v.0, v.1)) (x, b) is in
        subst (λ (y : Option ℕ × At). Stands a (low_text y.0) y.1 × FitsLow true y.0)
        (ok_is Short (Some s.0.0, s.0.1) (x, b) s.2) (word.takes a s.0.0 s.0.1 are s.1)

    some_again : (x : Option ℕ) (place : ℕ) (rest : Text) → FitsLow true x
        → low_at true (record { place = place; rest = low_text x ++ rest })
        ≡ Ok (x, record { place = place + length (low_text x); rest = rest })
    some_again None place rest fits = absurd fits
    some_again (Some code) place rest fits = rw (word.again code place rest fits tt) refl

abbrev pub cosigner_fields : FirstFields → Text
cosigner_fields =
    both (vector w8) (both (vector w8) (both (number w32) (both low_text
    (both (number w32) itself))))

abbrev pub FitCosigner : Bool → FirstFields → Type 0
FitCosigner two = FitsBoth ShortId (FitsBoth ShortId (FitsBoth IsShortWord (FitsBoth (FitsLow two)
    (FitsBoth IsShortWord IsSecret))))

pub cosigner_form : (two : Bool) → IsForm cosigner_fields (FitCosigner two) Anything
    (cosigner_at two)
unfolding cosigner_at
cosigner_form two =
    let id = vector_form w8 (2 ^ 8) wide8 in
    let code = number_form w32 (2 ^ 32) wide32 in
    then_form id (then_form id (then_form code (then_form (low_form two)
    (then_form code (bytes_form 48)))))

low_again : (low : Option LmsType) → IfSome low IsSigningHeight
    → low_type (option_map lms_code low) ≡ Some low
low_again None small = refl
low_again (Some low) small =
    ap (option_map (λ (l : LmsType). Some l)) (type_again low small)

settings_again : (s : CosignerSettings) (secret : Text) → FitsCosigner s secret
    → cosigner_settings_with s.id s.log (lms_code s.lms) (option_map lms_code s.low)
    (typecode s.ots) ≡ Some s
settings_again s secret fits =
    rw (
      type_again s.lms fits.small,
      low_again s.low fits.low,
      type_of_code-typecode s.ots,
      anchor_again s.id fits.id,
      anchor_again s.log fits.log,
    ) refl

-- what a first record says of these settings
abbrev pub fields_of : CosignerSettings → Text → FirstFields
fields_of s secret =
    (s.id, (s.log, (lms_code s.lms, (option_map lms_code s.low, (typecode s.ots, secret)))))

-- whether there are two levels
abbrev pub has_two : Option LmsType → Bool
has_two None = false
has_two (Some low) = true

low_fits : (low : Option LmsType) → FitsLow (has_two low) (option_map lms_code low)
low_fits None = tt
low_fits (Some low) = lms_code_small low

low_same : (low : Option LmsType) → optional height_text low ≡ low_text (option_map lms_code low)
low_same None = refl
low_same (Some low) = refl

-- A first record is its tag and these fields.
pub record_is : (s : CosignerSettings) (secret : Text) → cosigner_record s secret
    ≡ number w8 (first_tag s.low) ++ cosigner_fields (fields_of s secret)
unfolding cosigner_record
record_is s secret =
    ap (λ (t : Text). number w8 (first_tag s.low) ++ (vector w8 s.id ++ (vector w8 s.log
    ++ (height_text s.lms ++ (t ++ (number w32 (typecode s.ots) ++ secret)))))) (low_same s.low)

tagged_again : (low : Option LmsType) (x : FirstFields) → FitCosigner (has_two low) x
    → first_by_tag (number_at w8 (at (number w8 (first_tag low) ++ cosigner_fields x) 0))
    ≡ founded x
tagged_again None x fit =
    ap first_by_tag (tag_again 0x11 (cosigner_fields x) (omega arith))
    ∙ ap (option_and_then founded) (whole_again (cosigner_form false) tt x 1 fit)
tagged_again (Some low) x fit =
    ap first_by_tag (tag_again 0x15 (cosigner_fields x) (omega arith))
    ∙ ap (option_and_then founded) (whole_again (cosigner_form true) tt x 1 fit)

pub cosigner_again : (s : CosignerSettings) (secret : Text) → FitsCosigner s secret
    → cosigner_in (cosigner_record s secret) ≡ Some (s, secret)
unfolding cosigner_in
cosigner_again s secret fits =
    let id = fits.id.short in
    let log = fits.log.short in
    let fit : FitCosigner (has_two s.low) (fields_of s secret) = (
      omega arith,
      (
        omega arith,
        (
          lms_code_small s.lms,
          (low_fits s.low, (typecode_small s.ots, fits.sized)),
        ),
      ),
    ) in
    ap (λ (t : Text). first_by_tag (number_at w8 (at t 0))) (record_is s secret)
    ∙ tagged_again s.low (fields_of s secret) fit
    ∙ ap (option_map (λ (t : CosignerSettings). (t, secret))) (settings_again s secret fits)

-- ---- a journal of records as they are encoded

pub cosigner_created : (h : HashFunction) (s : CosignerSettings) (secret : Text)
    → FitsCosigner s secret
    → cosigner_of h (cosigner_record s secret ∷ []) ≡ Ok (new_cosigner h s secret)
unfolding begun_cosigner
cosigner_created h s secret fits =
    state_begins (cosigner_fold h) (cosigner_record s secret) (new_cosigner h s secret)
    (ap (option_map (λ (x : CosignerSettings × Text). new_cosigner h x.0 x.1))
    (cosigner_again s secret fits))

pub step_added : (h : HashFunction) (list : List Text) (s : CosignerState) (step : Step)
    (t : CosignerState) → cosigner_of h list ≡ Ok s → FitsStep step → after_step h s step ≡ Some t
    → cosigner_of h (list ++ step_record step ∷ []) ≡ Ok t
unfolding next_state
step_added h list s step t is fits next =
    state_next (cosigner_fold h) list s (step_record step) t is
    (ap (option_and_then (after_step h s)) (step_again step fits) ∙ next)
