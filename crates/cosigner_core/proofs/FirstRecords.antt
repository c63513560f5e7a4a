-- What a first record encodes.
use Rattle.std.proofs.Common.{◌≡◌, ℕ, ◌==◌, Bool, true, false, ◌++◌, length, Option, Some, None}
use Rattle.std.proofs.Common.{IfSome, option_map, option_and_then, Result, Ok, Err, refl, sym, ap}
use Rattle.std.proofs.Common.{◌∙◌, subst, arith}
use Rattle.std.proofs.lemmas.Option.{same_Some}
use Rattle.std.specs.Prelude.{if◌then◌else◌}
use Rattle.std.specs.Int.{w8, w32}
use Rattle.std.proofs.lemmas.Bool.{eqb-true}
use Rattle.byte_formats.proofs.FormLaws.{whole_takes}
use Rattle.byte_formats.specs.Types.{Text}
use Rattle.byte_formats.specs.Offsets.{At, at, IsBytes}
use Rattle.byte_formats.specs.Forms.{both, itself}
use Rattle.byte_formats.proofs.Steps.{IsBytes-back, IsBytes-prefix}
use Rattle.byte_formats.specs.Readings.{whole_of}
use Rattle.byte_formats.proofs.Values.{map_some, then_some}
use Rattle.hss_keys.specs.Keys.{CountsKeys, signing_state}
use Rattle.lmots_core.specs.Parameters.{type_of_code, typecode}
use Rattle.lmots_core.specs.declared.parameters.OtsType.{OtsType}
use Rattle.lmots_core.specs.declared.parameters.OtsType.TheVariants.{W1, W2, W4, W8}
use Rattle.lms_core.specs.Heights.{IsSigningHeight, lms_code}
use Rattle.lms_core.specs.declared.heights.LmsType.{LmsType}
use Rattle.tls_wire.specs.Anchors.{anchor_of}
use Rattle.tls_wire.specs.Reading.{number_at}
use Rattle.tls_wire.specs.Encoding.{number, vector}
use Rattle.tls_wire.specs.declared.cursor.Short.{Short}
use Rattle.tls_wire.specs.declared.fault.AnchorBytesError.{AnchorBytesError}
use Rattle.tls_wire.proofs.AnchorForm.{anchor_takes}
use Rattle.cosigner_core.specs.Records.{FirstFields, FitsCosigner, cosigner_at, cosigner_in}
use Rattle.cosigner_core.specs.Records.{cosigner_record, cosigner_settings_with, first_by_tag}
use Rattle.cosigner_core.specs.Records.{first_tag, founded, low_type, signing_type, with_ids}
use Rattle.cosigner_core.specs.declared.settings.CosignerSettings.{CosignerSettings}
use Rattle.cosigner_core.proofs.Encoded.{FitsLow, cosigner_fields, cosigner_form, fields_of}
use Rattle.cosigner_core.proofs.Encoded.{height_of, low_text, record_is}
use Rattle.cosigner_core.proofs.Tagged.{tag_takes}

width_of : (code : ℕ) (t : OtsType) → type_of_code code ≡ Some t → code ≡ typecode t
width_of code t is = go (code == 1) (code == 2) (code == 3) (code == 4) refl refl refl refl is
  where
    go : (a b c d : Bool) → (code == 1) ≡ a → (code == 2) ≡ b → (code == 3) ≡ c → (code == 4) ≡ d
        → (if a then Some W1 else (if b then Some W2
        else (if c then Some W4 else (if d then Some W8 else None)))) ≡ Some t
        → code ≡ typecode t
    go true b c d e1 e2 e3 e4 is =
        subst (λ (x : OtsType). code ≡ typecode x) (same_Some W1 t is) (eqb-true code 1 e1)
    go false true c d e1 e2 e3 e4 is =
        subst (λ (x : OtsType). code ≡ typecode x) (same_Some W2 t is) (eqb-true code 2 e2)
    go false false true d e1 e2 e3 e4 is =
        subst (λ (x : OtsType). code ≡ typecode x) (same_Some W4 t is) (eqb-true code 3 e3)
    go false false false true e1 e2 e3 e4 is =
        subst (λ (x : OtsType). code ≡ typecode x) (same_Some W8 t is) (eqb-true code 4 e4)
    go false false false false e1 e2 e3 e4 is = let wrong : None ≡ Some t = is in cc

-- the ids that settings were made of
record AreIds (l : LmsType) (low : Option LmsType) (t : OtsType)
    (one two : Result Text AnchorBytesError) (s : CosignerSettings) : Type 0 where
  pub id : Text
  pub log : Text
  pub first : one ≡ Ok id
  pub second : two ≡ Ok log
  pub made : record { id = id; log = log; lms = l; low = low; ots = t } ≡ s

ids_of : (l : LmsType) (low : Option LmsType) (t : OtsType)
    (one two : Result Text AnchorBytesError) (s : CosignerSettings)
    → with_ids l low t one two ≡ Some s → AreIds l low t one two s
ids_of l low t (Ok id) (Ok log) s is =
    record { id = id; log = log; first = refl; second = refl; made = same_Some _ s is }
ids_of l low t (Ok id) (Err fault) s is = let wrong : None ≡ Some s = is in cc
ids_of l low t (Err fault) two s is = let wrong : None ≡ Some s = is in cc

-- the typecode of lower trees
low_of : (code : Option ℕ) (low : Option LmsType) → low_type code ≡ Some low
    → (code ≡ option_map lms_code low) × IfSome low IsSigningHeight
low_of None low is =
    let P : Option LmsType → Type 0 = λ o. (None ≡ option_map lms_code o) × IfSome o IsSigningHeight
    in
    subst P (same_Some None low is) (refl, tt)
low_of (Some code) low is =
    let said = map_some (λ (l : LmsType). Some l) (signing_type code) low is in
    let high = height_of code said.0 said.1 in
    let P : Option LmsType → Type 0 =
    λ o. (Some code ≡ option_map lms_code o) × IfSome o IsSigningHeight in
    subst P said.2 (ap Some high.0, high.1)

abbrev nothing : Option (CosignerSettings × Text)
nothing = None

-- what the fields of settings were
record AreSettings (x : FirstFields) (s : CosignerSettings) (secret : Text) : Type 0 where
  pub fields : x ≡ fields_of s secret
  pub fits : length secret ≡ 48 → FitsCosigner s secret

-- settings that were read
record AreRead (x : FirstFields) (s : CosignerSettings) : Type 0 where
  pub lms : LmsType
  pub lms_is : signing_type x.1.1.0 ≡ Some lms
  pub low : Option LmsType
  pub low_is : low_type x.1.1.1.0 ≡ Some low
  pub ots : OtsType
  pub ots_is : type_of_code x.1.1.1.1.0 ≡ Some ots
  pub ids : AreIds lms low ots (anchor_of x.0) (anchor_of x.1.0) s

read_of : (x : FirstFields) (s : CosignerSettings)
    → cosigner_settings_with x.0 x.1.0 x.1.1.0 x.1.1.1.0 x.1.1.1.1.0 ≡ Some s → AreRead x s
read_of x s is =
    let lms = then_some (λ (l : LmsType). option_and_then (λ (low : Option LmsType). option_and_then
    (λ (t : OtsType). with_ids l low t (anchor_of x.0) (anchor_of x.1.0))
    (type_of_code x.1.1.1.1.0)) (low_type x.1.1.1.0)) (signing_type x.1.1.0) s is in
    let low = then_some (λ (low : Option LmsType). option_and_then
    (λ (t : OtsType). with_ids lms.0 low t (anchor_of x.0) (anchor_of x.1.0))
    (type_of_code x.1.1.1.1.0)) (low_type x.1.1.1.0) s lms.2 in
    let ots = then_some (λ (t : OtsType). with_ids lms.0 low.0 t (anchor_of x.0) (anchor_of x.1.0))
    (type_of_code x.1.1.1.1.0) s low.2 in
    record {
      lms = lms.0;
      lms_is = lms.1;
      low = low.0;
      low_is = low.1;
      ots = ots.0;
      ots_is = ots.1;
      ids = ids_of lms.0 low.0 ots.0 (anchor_of x.0) (anchor_of x.1.0) s ots.2;
    }

pair_of : (x : FirstFields) (s : CosignerSettings) (secret : Text) (o : Option CosignerSettings)
    → option_map {U = CosignerSettings × Text} (λ t. (t, x.1.1.1.1.1)) o ≡ Some (s, secret)
    → (o ≡ Some s) × (x.1.1.1.1.1 ≡ secret)
pair_of x s secret None is = let wrong : nothing ≡ Some (s, secret) = is in cc
pair_of x s secret (Some t) is =
    let same = same_Some (t, x.1.1.1.1.1) (s, secret) is in (
      ap (λ (p : CosignerSettings × Text). Some p.0) same,
      ap (λ (p : CosignerSettings × Text). p.1) same,
    )

settings_of : (x : FirstFields) (s : CosignerSettings) (secret : Text) → IsBytes x.0
    → IsBytes x.1.0 → founded x ≡ Some (s, secret) → AreSettings x s secret
settings_of x s secret id_bytes log_bytes is =
    let made = pair_of x s secret
    (cosigner_settings_with x.0 x.1.0 x.1.1.0 x.1.1.1.0 x.1.1.1.1.0) is in
    let r = read_of x s made.0 in
    let id = anchor_takes x.0 r.ids.id id_bytes r.ids.first in
    let log = anchor_takes x.1.0 r.ids.log log_bytes r.ids.second in
    let high = height_of x.1.1.0 r.lms r.lms_is in
    let low = low_of x.1.1.1.0 r.low r.low_is in
    let wide = width_of x.1.1.1.1.0 r.ots r.ots_is in
    let settings : CosignerSettings =
    record { id = x.0; log = x.1.0; lms = r.lms; low = r.low; ots = r.ots } in
    let same : settings ≡ s =
    ap (λ (b : Text). record { id = b; log = x.1.0; lms = r.lms; low = r.low; ots = r.ots })
    (sym id.0)
    ∙ ap (λ (b : Text). record { id = r.ids.id; log = b; lms = r.lms; low = r.low; ots = r.ots })
    (sym log.0)
    ∙ r.ids.made in
    let read : x ≡ fields_of settings x.1.1.1.1.1 =
    ap (λ (code : ℕ). (x.0, (x.1.0, (code, x.1.1.1)))) high.0
    ∙ ap (λ (o : Option ℕ). (x.0, (x.1.0, (lms_code r.lms, (o, x.1.1.1.1))))) low.0
    ∙ ap (λ (code : ℕ). (
      x.0,
      (
        x.1.0,
        (
          lms_code r.lms,
          (option_map lms_code r.low, (code, x.1.1.1.1.1)),
        ),
      ),
    )) wide in
    subst (λ (b : Text). AreSettings x s b) made.1
    (subst (λ (t : CosignerSettings). AreSettings x t x.1.1.1.1.1) same (record {
      fields = read;
      fits = λ sized. record {
        id = id.1;
        log = log.1;
        small = high.1;
        low = low.1;
        sized = sized;
      };
    }))

-- the tag says whether there are two levels
low_tag : (low : Option LmsType) (two : Bool) → FitsLow two (option_map lms_code low)
    → first_tag low ≡ (if two then 0x15 else 0x11)
low_tag None false fits = refl
low_tag None true fits = absurd fits
low_tag (Some low) false fits = absurd fits
low_tag (Some low) true fits = refl

module _ (body : Text) (s : CosignerSettings) (secret : Text) where
  encoded : (two : Bool) (a : At) (x : FirstFields)
      → body ≡ number w8 (if two then 0x15 else 0x11) ++ a.rest → IsBytes a.rest
      → whole_of (cosigner_at two a) ≡ Some x → founded x ≡ Some (s, secret)
      → (body ≡ cosigner_record s secret) × FitsCosigner s secret
  encoded two a x begins rest read is =
      let took = whole_takes (cosigner_form two) a x rest read in
      let text : IsBytes (cosigner_fields x) = subst IsBytes took.0 rest in
      let third : Text = both (number w32) (both low_text (both (number w32) itself)) x.1.1 in
      let later : IsBytes (vector w8 x.1.0 ++ third) =
      IsBytes-back (vector w8 x.0) (vector w8 x.1.0 ++ third) text in
      let id = IsBytes-back (number w8 (length x.0)) x.0
      (IsBytes-prefix (vector w8 x.0) (vector w8 x.1.0 ++ third) text) in
      let log = IsBytes-back (number w8 (length x.1.0)) x.1.0
      (IsBytes-prefix (vector w8 x.1.0) third later) in
      let known = settings_of x s secret id log is in
      let last : x.1.1.1.1.1 ≡ secret =
      ap (λ (y : FirstFields). y.1.1.1.1.1) known.fields in
      let levels : FitsLow two (option_map lms_code s.low) =
      subst (λ (y : FirstFields). FitsLow two y.1.1.1.0) known.fields took.1.1.1.1.0 in (
        begins ∙ ap (λ (t : Text). number w8 (if two then 0x15 else 0x11) ++ t) (took.0
            ∙ ap cosigner_fields known.fields)
            ∙ ap (λ (tag : ℕ). number w8 tag ++ cosigner_fields (fields_of s secret))
            (sym (low_tag s.low two levels))
            ∙ sym (record_is s secret),
        known.fits (ap length (sym last) ∙ took.1.1.1.1.1.1),
      )

  sorted : (tag : ℕ × At) (one two : Bool) → (tag.0 == 0x11) ≡ one → (tag.0 == 0x15) ≡ two
      → body ≡ number w8 tag.0 ++ tag.1.rest → IsBytes tag.1.rest
      → (if one then option_and_then founded (whole_of (cosigner_at false tag.1))
      else (if two then option_and_then founded (whole_of (cosigner_at true tag.1)) else None))
      ≡ Some (s, secret)
      → (body ≡ cosigner_record s secret) × FitsCosigner s secret
  sorted tag true two first second begins rest is =
      let read = then_some founded (whole_of (cosigner_at false tag.1)) (s, secret) is in
      encoded false tag.1 read.0
      (begins ∙ ap (λ (n : ℕ). number w8 n ++ tag.1.rest) (eqb-true tag.0 0x11 first)) rest read.1
      read.2
  sorted tag false true first second begins rest is =
      let read = then_some founded (whole_of (cosigner_at true tag.1)) (s, secret) is in
      encoded true tag.1 read.0
      (begins ∙ ap (λ (n : ℕ). number w8 n ++ tag.1.rest) (eqb-true tag.0 0x15 second)) rest read.1
      read.2
  sorted tag false false first second begins rest is =
      let wrong : nothing ≡ Some (s, secret) = is in absurd cc

  pub cosigner_takes : IsBytes body → cosigner_in body ≡ Some (s, secret)
      → (body ≡ cosigner_record s secret) × FitsCosigner s secret
  unfolding cosigner_in
  cosigner_takes bytes is = go (number_at w8 (at body 0)) refl is
    where
      go : (r : Result (ℕ × At) Short) → number_at w8 (at body 0) ≡ r
          → first_by_tag r ≡ Some (s, secret)
          → (body ≡ cosigner_record s secret) × FitsCosigner s secret
      go (Err short) was is = let wrong : nothing ≡ Some (s, secret) = is in cc
      go (Ok tag) was is =
          let begins = tag_takes body tag bytes was in
          sorted tag (tag.0 == 0x11) (tag.0 == 0x15) refl refl begins.0 begins.1 is

-- ---- the key of a first record

-- A key of which nothing has signed can be made.
pub new_counts : (lms : LmsType) (low : Option LmsType) (ots : OtsType) (secret : Text)
    → IsSigningHeight lms → IfSome low IsSigningHeight
    → CountsKeys (signing_state lms low ots secret 0 0)
new_counts lms None ots secret top small = record {
  top = top;
  low = small;
  few = omega arith;
  from = omega arith;
  to = omega arith;
}
new_counts lms (Some low) ots secret top small = record {
  top = top;
  low = small;
  few = omega arith;
  from = omega arith;
  to = omega arith;
}

founded_counts : (x : FirstFields) (s : CosignerSettings) (secret : Text)
    → founded x ≡ Some (s, secret)
    → CountsKeys (signing_state s.lms s.low s.ots secret 0 0)
founded_counts x s secret is =
    let made = pair_of x s secret
    (cosigner_settings_with x.0 x.1.0 x.1.1.0 x.1.1.1.0 x.1.1.1.1.0) is in
    let r = read_of x s made.0 in
    let high = height_of x.1.1.0 r.lms r.lms_is in
    let low = low_of x.1.1.1.0 r.low r.low_is in
    subst (λ (t : CosignerSettings). CountsKeys (signing_state t.lms t.low t.ots secret 0 0))
    r.ids.made (new_counts r.lms r.low r.ots secret high.1 low.1)

tagged_counts : (a : At) (one two : Bool) (s : CosignerSettings) (secret : Text)
    → (if one then option_and_then founded (whole_of (cosigner_at false a))
    else (if two then option_and_then founded (whole_of (cosigner_at true a)) else None))
    ≡ Some (s, secret)
    → CountsKeys (signing_state s.lms s.low s.ots secret 0 0)
tagged_counts a true two s secret is =
    let read = then_some founded (whole_of (cosigner_at false a)) (s, secret) is in
    founded_counts read.0 s secret read.2
tagged_counts a false true s secret is =
    let read = then_some founded (whole_of (cosigner_at true a)) (s, secret) is in
    founded_counts read.0 s secret read.2
tagged_counts a false false s secret is =
    let wrong : nothing ≡ Some (s, secret) = is in absurd cc

-- The key of a first record can be made, and nothing is counted.
pub begins_counting : (body : Text) (s : CosignerSettings) (secret : Text)
    → cosigner_in body ≡ Some (s, secret)
    → CountsKeys (signing_state s.lms s.low s.ots secret 0 0)
unfolding cosigner_in
begins_counting body s secret is = go (number_at w8 (at body 0)) is
  where
    go : (r : Result (ℕ × At) Short) → first_by_tag r ≡ Some (s, secret)
        → CountsKeys (signing_state s.lms s.low s.ots secret 0 0)
    go (Err short) is = let wrong : nothing ≡ Some (s, secret) = is in absurd cc
    go (Ok tag) is = tagged_counts tag.1 (tag.0 == 0x11) (tag.0 == 0x15) s secret is
