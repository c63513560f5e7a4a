-- A new cosigner.
use Rattle.std.proofs.Common.{◌≡◌, ◌≤◌, ℕ, Option, Some, option_map, length, ap, ◌∙◌, sym, subst}
use Rattle.std.proofs.Common.{arith}
use Rattle.std.proofs.lemmas.Grind.{common_steps}
use Rattle.byte_formats.specs.Types.{Text}
use Rattle.lmots_core.specs.declared.parameters.OtsType.{OtsType}
use Rattle.lms_core.specs.declared.heights.LmsType.{LmsType}
use Rattle.cosigner_core.specs.Records.{cosigner_record}
use Rattle.cosigner_core.specs.declared.settings.CosignerSettings.{CosignerSettings}
use Rattle.mtc_command.specs.Steps.{Files, Outcome, starts, with_fresh}
use Rattle.mtc_command.proofs.Inputs.{bytes_read}
use Rattle.mtc_cosigner.specs.InitOutcome.{cosigner_settings_of, init_cosigner_outcome, init_says}
use Rattle.mtc_cosigner.specs.KeygenOutcome.{lms_type, ots_type, public_line, with_secret}

-- a secret of the right length is taken
taken : (file secret : Text) (next : Outcome) → length secret ≡ 48
    → with_secret file secret next ≡ next
taken file secret next is = grind (arith, common_steps, is)

-- a journal of the first record and with the line of a secret is what is wanted
pub begun_so : (P : Outcome → Type 0) (name file secret other : Text) (at : Option Text)
    (s : CosignerSettings) (first text : Text) → length secret ≡ 48 → other ≡ secret
    → first ≡ cosigner_record s other → text ≡ public_line s.lms s.low s.ots other
    → P (with_fresh name at (starts first text)) → P (init_says name s file at secret)
begun_so P name file secret other at s first text long same is line made =
    subst P (sym (taken file secret (with_fresh name at (starts (cosigner_record s secret)
    (public_line s.lms s.low s.ots secret))) long))
    (subst (λ (x : Text). P (with_fresh name at (starts x (public_line s.lms s.low s.ots secret))))
    (is ∙ ap (cosigner_record s) same)
    (subst (λ (x : Text). P (with_fresh name at (starts first x)))
    (line ∙ ap (public_line s.lms s.low s.ots) same) made))

abbrev settings : Text → Text → LmsType → Option LmsType → OtsType → CosignerSettings
settings id log lms low ots = record { id = id; log = log; lms = lms; low = low; ots = ots }

-- the outcome after a secret that was read
pub asked_so : (journal id log file : Text) (top : ℕ) (lower : Option ℕ) (width : ℕ)
    (files : Files) (bytes other : Text) (at : Option Text) (lms : LmsType) (low : Option LmsType)
    (ots : OtsType) → lms ≡ lms_type top → low ≡ option_map lms_type lower
    → ots ≡ ots_type width → other ≡ bytes → at ≡ files journal → files file ≡ Some bytes
    → length bytes ≤ 16777216
    → init_says journal (settings id log lms low ots) file at other
    ≡ init_cosigner_outcome journal id log top lower width file files
asked_so journal id log file top lower width files bytes other at lms low ots tall less wide same
    there is few =
    let s = cosigner_settings_of id log top lower width in
    ap (λ x. init_says journal (settings id log x low ots) file at other) tall
    ∙ ap (λ x. init_says journal (settings id log (lms_type top) x ots) file at other) less
    ∙ ap (λ x. init_says journal (settings id log (lms_type top) (option_map lms_type lower) x)
    file at other) wide
    ∙ ap (λ x. init_says journal s file x other) there
    ∙ ap (init_says journal s file (files journal)) same
    ∙ sym (bytes_read 16777216 file (files file) bytes (init_says journal s file (files journal))
    is few)
