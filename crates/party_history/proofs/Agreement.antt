-- The rules of a history and those of the journals are the same.
use Rattle.std.proofs.Common.{◌≡◌, inl, inr, ℕ, ◌==◌, true, false, List, [], ◌∷◌, ◌++◌, Some, None}
use Rattle.std.proofs.Common.{Bool, IfSome, Option, Result, Ok, Err, is_ok, refl, ap, sym, ◌∙◌}
use Rattle.std.proofs.Common.{option_and_then, subst}
use Rattle.std.proofs.lemmas.Bool.{eqb-true}
use Rattle.std.proofs.lemmas.Option.{IfSome_then}
use Rattle.std.specs.Prelude.{IsOk, if◌then◌else◌}
use Rattle.byte_formats.specs.Types.{HashFunction, Text}
use Rattle.byte_formats.specs.Offsets.{At, at}
use Rattle.byte_formats.specs.Readings.{whole_of}
use Rattle.byte_formats.proofs.Values.{then_some, when_some}
use Rattle.tls_wire.specs.Reading.{number_at}
use Rattle.tls_wire.specs.declared.cursor.Short.{Short}
use Rattle.std.specs.Int.{w8}
use Rattle.journal_core.specs.Folds.{Fold, read_by, state_after, taken_from}
use Rattle.journal_core.specs.Format.{Represents}
use Rattle.journal_core.proofs.Found.{read_standing}
use Rattle.file_events.proofs.Uses.{head_is}
use Rattle.issuance_log.specs.Folds.{LogState, log_fold, log_of}
use Rattle.issuance_log.specs.Records.{settings_at, settings_in, log_settings_with, tagged}
use Rattle.issuance_log.specs.Settings.{Settings}
use Rattle.issuance_log.proofs.After as logs
use Rattle.mirror_core.specs.Folds.{MirrorState, mirror_fold, mirror_of}
use Rattle.mirror_core.specs.Records.{anchor_or_none, mirror_log_in, mirror_tag}
use Rattle.mirror_core.proofs.After as mirrors
use Rattle.tls_wire.specs.Anchors.{anchor_of}
use Rattle.tls_wire.specs.Reading.{vector_at}
use Rattle.cosigner_core.specs.Folds.{cosigner_fold, cosigner_of}
use Rattle.cosigner_core.specs.Progress.{progress_by, progress_in, steps_in}
use Rattle.cosigner_core.specs.Records.{cosigner_at, cosigner_in, first_by_tag, founded}
use Rattle.cosigner_core.specs.declared.settings.CosignerSettings.{CosignerSettings}
use Rattle.cosigner_core.proofs.After as cosigners
use Rattle.hss_keys.specs.Keys.{public_of, signing_key}
use Rattle.party_history.specs.KeyUses.{UseKeysInOrder}
use Rattle.party_history.specs.Laws.{IsSoundParty}
use Rattle.party_history.specs.Parties.{HistoryState}
use Rattle.party_history.specs.Rules.{AreRecords, IsReadAs, StartsWith, may_follow}
use Rattle.party_history.specs.declared.start.PartyStart.{PartyStart}
use Rattle.party_history.specs.declared.start.PartyStart.TheVariants.{Log, Cosigner, Mirror}
use Rattle.party_history.proofs.Chains.{no_some}
use Rattle.party_history.proofs.Keys.{keys_in_order}

-- no record at all follows each start
pub alone : (h : HashFunction) (start : PartyStart) → may_follow h start [] ≡ true
unfolding taken_from progress_in steps_in progress_by
alone h (Log settings) = refl
alone h (Cosigner settings public) = refl
alone h (Mirror log) = refl

-- a first record is not one of two kinds
pub apart : (first : Text) (s : Settings) (x : CosignerSettings × Text) → settings_in first ≡ Some s
    → cosigner_in first ≡ Some x → ⊥
unfolding settings_in cosigner_in
apart first s x = by_tag (number_at w8 (at first 0))
  where
    by_tag : (r : Result (ℕ × At) Short)
        → option_and_then log_settings_with (tagged 1 settings_at r) ≡ Some s
        → first_by_tag r ≡ Some x → ⊥
    by_tag (Err short) log cosigner = no_some s log
    by_tag (Ok tag) log cosigner =
        let some = then_some log_settings_with (tagged 1 settings_at (Ok tag)) s log in
        let one = when_some (tag.0 == 1) _ some.0 some.1 in
        no_some x (sym (ap (λ (n : ℕ).
        if n == 17 then option_and_then founded (whole_of (cosigner_at false tag.1))
        else (if n == 21 then option_and_then founded (whole_of (cosigner_at true tag.1))
        else None)) (eqb-true tag.0 1 one.0)) ∙ cosigner)

-- a Mirror has its own tag
mirror_tagged : (tag : ℕ) (read : Option Text) (log : Text)
    → option_and_then (λ id. anchor_or_none (anchor_of id))
    (if tag == mirror_tag then read else None) ≡ Some log → tag ≡ mirror_tag
mirror_tagged tag read log is = go (tag == mirror_tag) refl is
  where
    go : (b : Bool) → (tag == mirror_tag) ≡ b
        → option_and_then (λ id. anchor_or_none (anchor_of id)) (if b then read else None)
        ≡ Some log → tag ≡ mirror_tag
    go true same found = eqb-true tag mirror_tag same
    go false same found = no_some log found

pub log_no_mirror : (first : Text) (s : Settings) (log : Text) → settings_in first ≡ Some s
    → mirror_log_in first ≡ Some log → ⊥
unfolding settings_in mirror_log_in
log_no_mirror first s log = by_tag (number_at w8 (at first 0))
  where
    by_tag : (r : Result (ℕ × At) Short)
        → option_and_then log_settings_with (tagged 1 settings_at r) ≡ Some s
        → option_and_then (λ b. anchor_or_none (anchor_of b))
        (tagged mirror_tag (vector_at w8) r) ≡ Some log → ⊥
    by_tag (Err short) one two = no_some s one
    by_tag (Ok tag) one two =
        no_some s (sym (ap (λ (n : ℕ). option_and_then log_settings_with
        (if n == 1 then whole_of (settings_at tag.1) else None))
        (mirror_tagged tag.0 (whole_of (vector_at w8 tag.1)) log two)) ∙ one)

pub cosigner_no_mirror : (first : Text) (x : CosignerSettings × Text) (log : Text)
    → cosigner_in first ≡ Some x → mirror_log_in first ≡ Some log → ⊥
unfolding cosigner_in mirror_log_in
cosigner_no_mirror first x log = by_tag (number_at w8 (at first 0))
  where
    by_tag : (r : Result (ℕ × At) Short) → first_by_tag r ≡ Some x
        → option_and_then (λ b. anchor_or_none (anchor_of b))
        (tagged mirror_tag (vector_at w8) r) ≡ Some log → ⊥
    by_tag (Err short) one two = no_some x one
    by_tag (Ok tag) one two =
        no_some x (sym (ap (λ (n : ℕ).
        if n == 17 then option_and_then founded (whole_of (cosigner_at false tag.1))
        else (if n == 21 then option_and_then founded (whole_of (cosigner_at true tag.1))
        else None)) (mirror_tagged tag.0 (whole_of (vector_at w8 tag.1)) log two)) ∙ one)

-- ---- valid records

pub made_so : {S : Type 0} (r : Result S ℕ) → IsOk r → (s : S) × (r ≡ Ok s)
made_so (Ok s) is = (s, refl)
made_so (Err k) is = let wrong : false ≡ true = is in absurd cc

first_of_log : (h : HashFunction) (first : Text) (bodies : List Text)
    → IsOk (log_of h (first ∷ bodies)) → (s : Settings) × (settings_in first ≡ Some s)
first_of_log h first bodies is =
    let made = made_so (log_of h (first ∷ bodies)) is in
    let found = logs.only_begins h (first ∷ bodies) made.0 made.1 in
    let same = head_is first found.0 bodies found.1.0 found.1.1.0 in
    (made.0.settings, ap settings_in same ∙ found.1.1.1)

first_of_cosigner : (h : HashFunction) (first : Text) (bodies : List Text)
    → IsOk (cosigner_of h (first ∷ bodies))
    → (x : CosignerSettings × Text) × (cosigner_in first ≡ Some x)
first_of_cosigner h first bodies is =
    let made = made_so (cosigner_of h (first ∷ bodies)) is in
    let found = cosigners.only_begins h (first ∷ bodies) made.0 made.1 in
    let same = head_is first found.0 bodies found.1.0 found.1.1.1.1.0 in
    ((found.1.1.0, found.1.1.1.0), ap cosigner_in same ∙ found.1.1.1.1.1)

first_of_mirror : (h : HashFunction) (first : Text) (bodies : List Text)
    → IsOk (mirror_of h (first ∷ bodies)) → (log : Text) × (mirror_log_in first ≡ Some log)
first_of_mirror h first bodies is =
    let made = made_so (mirror_of h (first ∷ bodies)) is in
    let found = mirrors.only_begins h (first ∷ bodies) made.0 made.1 in
    let same = head_is first found.0 bodies found.1.0 found.1.1.0 in
    (made.0.log, ap mirror_log_in same ∙ found.1.1.1)

-- each journal of a log, a cosigner or a mirror is that of a party
pub starts_so : (h : HashFunction) (first : Text) (bodies : List Text)
    → AreRecords h (first ∷ bodies) → (start : PartyStart) × StartsWith start first
starts_so h first bodies (inl is) =
    let found = first_of_log h first bodies is in (Log found.0, found.1)
starts_so h first bodies (inr (inr is)) =
    let found = first_of_mirror h first bodies is in (Mirror found.0, found.1)
starts_so h first bodies (inr (inl is)) =
    let found = first_of_cosigner h first bodies is in
    let s = found.0.0 in
    let secret = found.0.1 in (
      Cosigner s (public_of (signing_key s.lms s.low s.ots secret)),
      (secret, (found.1, refl)),
    )

-- ---- records make something exactly if they may follow

log_follows : (h : HashFunction) (settings : Settings) (first : Text) (bodies : List Text)
    → settings_in first ≡ Some settings
    → is_ok (log_of h (first ∷ bodies)) ≡ may_follow h (Log settings) bodies
log_follows h settings first bodies starts =
    ap (λ (r : Result LogState ℕ). is_ok r) (logs.begins_so h first settings bodies starts)

mirror_follows : (h : HashFunction) (log first : Text) (bodies : List Text)
    → mirror_log_in first ≡ Some log
    → is_ok (mirror_of h (first ∷ bodies)) ≡ may_follow h (Mirror log) bodies
mirror_follows h log first bodies starts =
    ap (λ (r : Result MirrorState ℕ). is_ok r) (mirrors.begins_so h first log bodies starts)

pub back : (h : HashFunction) (start : PartyStart) (first : Text) (bodies : List Text)
    → StartsWith start first → may_follow h start bodies ≡ true → AreRecords h (first ∷ bodies)
back h (Log settings) first bodies starts may =
    inl (log_follows h settings first bodies starts ∙ may)
back h (Cosigner settings public) first bodies starts may =
    inr (inl (cosigners.begins_so h first settings starts.0 bodies starts.1.0 ∙ may))
back h (Mirror log) first bodies starts may =
    inr (inr (mirror_follows h log first bodies starts ∙ may))

pub agree : (h : HashFunction) (start : PartyStart) (first : Text) (bodies : List Text)
    → StartsWith start first → AreRecords h (first ∷ bodies) → may_follow h start bodies ≡ true
agree h (Log settings) first bodies starts (inl is) =
    sym (log_follows h settings first bodies starts) ∙ is
agree h (Log settings) first bodies starts (inr (inl is)) =
    let other = first_of_cosigner h first bodies is in
    absurd (apart first settings other.0 starts other.1)
agree h (Log settings) first bodies starts (inr (inr is)) =
    let other = first_of_mirror h first bodies is in
    absurd (log_no_mirror first settings other.0 starts other.1)
agree h (Cosigner settings public) first bodies starts (inl is) =
    let other = first_of_log h first bodies is in
    absurd (apart first other.0 (settings, starts.0) other.1 starts.1.0)
agree h (Cosigner settings public) first bodies starts (inr (inl is)) =
    sym (cosigners.begins_so h first settings starts.0 bodies starts.1.0) ∙ is
agree h (Cosigner settings public) first bodies starts (inr (inr is)) =
    let other = first_of_mirror h first bodies is in
    absurd (cosigner_no_mirror first (settings, starts.0) other.0 starts.1.0 other.1)
agree h (Mirror log) first bodies starts (inl is) =
    let other = first_of_log h first bodies is in
    absurd (log_no_mirror first other.0 log other.1 starts)
agree h (Mirror log) first bodies starts (inr (inl is)) =
    let other = first_of_cosigner h first bodies is in
    absurd (cosigner_no_mirror first other.0 log other.1 starts)
agree h (Mirror log) first bodies starts (inr (inr is)) =
    sym (mirror_follows h log first bodies starts) ∙ is

-- a file that represents records is read with them, whatever they make
read_so : {S E : Type 0} (fold : Fold S E) (list : List Text) (bytes : Text)
    → Represents bytes list → IsOk (state_after fold list)
    → (s : S) × (read_by fold bytes ≡ Ok (record { records = list; state = s }))
read_so fold list bytes stands is =
    let made = made_so (state_after fold list) is in
    (made.0, read_standing fold bytes list made.0 stands made.1)

pub read : (h : HashFunction) (start : PartyStart) (first : Text) (bodies : List Text)
    (bytes : Text) → StartsWith start first → may_follow h start bodies ≡ true
    → Represents bytes (first ∷ bodies) → IsReadAs h start bytes (first ∷ bodies)
read h (Log settings) first bodies bytes starts may stands =
    read_so (log_fold h) (first ∷ bodies) bytes stands
    (log_follows h settings first bodies starts ∙ may)
read h (Cosigner settings public) first bodies bytes starts may stands =
    read_so (cosigner_fold h) (first ∷ bodies) bytes stands
    (cosigners.begins_so h first settings starts.0 bodies starts.1.0 ∙ may)
read h (Mirror log) first bodies bytes starts may stands =
    read_so (mirror_fold h) (first ∷ bodies) bytes stands
    (mirror_follows h log first bodies starts ∙ may)

-- ---- one-time keys

pub keys_of_valid : (h : HashFunction) (start : PartyStart) (settings : CosignerSettings)
    (public : Text) (bodies : List Text) → start ≡ Cosigner settings public
    → may_follow h start bodies ≡ true → UseKeysInOrder settings bodies
keys_of_valid h start settings public bodies is may =
    let same : may_follow h (Cosigner settings public) bodies ≡ true
    = subst (λ (s : PartyStart). may_follow h s bodies ≡ true) is may in
    keys_in_order h settings bodies same

pub once_used : (h : HashFunction) (s : HistoryState) (settings : CosignerSettings)
    (public : Text) → IsSoundParty (may_follow h) s → s.start ≡ Cosigner settings public
    → UseKeysInOrder settings s.durable
    × IfSome s.pending (λ body. UseKeysInOrder settings (s.durable ++ body ∷ []))
once_used h s settings public sound is = (
  keys_of_valid h s.start settings public s.durable is sound.durable,
  IfSome_then s.pending sound.pending (λ body.
      keys_of_valid h s.start settings public (s.durable ++ body ∷ []) is),
)
