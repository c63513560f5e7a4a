-- The log that records make is sound, and its id is an anchor id. It should stand in issuance_log.
use Rattle.std.proofs.Common.{◌≡◌, ℕ, ◌+◌, List, [], ◌∷◌, Some, Ok, refl, sym, ap, subst}
use Rattle.std.proofs.Common.{option_map, arith}
use Rattle.std.specs.List.{AllByRecursion}
use Rattle.byte_formats.specs.Offsets.{IsBytes}
use Rattle.byte_formats.specs.Readings.{some_or}
use Rattle.byte_formats.specs.Types.{HashFunction, Text}
use Rattle.byte_formats.proofs.Steps.{bind_ok, ok_is, some_or_ok}
use Rattle.journal_core.specs.Folds.{taken_from}
use Rattle.tls_wire.specs.Arcs.{IsAnchorId}
use Rattle.issuance_log.specs.Folds.{LogState, begun_log, log_fold, log_of, new_log, next_log}
use Rattle.issuance_log.specs.Records.{settings_in}
use Rattle.issuance_log.specs.Rules.{IsFirst}
use Rattle.issuance_log.specs.Settings.{Settings}
use Rattle.issuance_log.specs.Sound.{IsSound}
use Rattle.issuance_log.proofs.After.{only_begins}
use Rattle.issuance_log.proofs.Encoded.{added_short}
use Rattle.issuance_log.proofs.Keeping.{sound_new, sound_next}

-- It is sound, and its id is an anchor id.
pub record IsSoundLog (h : HashFunction) (s : LogState) : Type 0 where
  pub is : IsSound h s
  pub anchor : IsAnchorId s.settings.id

-- the rule of first records, as `issuance_log::laws::law_records_keep_to_the_rules` has it
abbrev pub FirstsKeepToRules : Type 0
FirstsKeepToRules = (body : Text) (s : LogState) → IsBytes body → begun_log body ≡ Some s
    → IsFirst body s

module _ (h : HashFunction) where
  sound_after : (k : ℕ) (s t : LogState) (bodies : List Text) → IsSound h s
      → AllByRecursion IsBytes bodies → taken_from (log_fold h) k s bodies ≡ Ok t → IsSound h t
  unfolding taken_from
  sound_after k s t [] sound bytes is = subst (IsSound h) (ok_is ℕ s t is) sound
  sound_after k s t (body ∷ bodies) sound bytes is =
      let step = bind_ok (some_or k (next_log h s body))
      (λ (u : LogState). taken_from (log_fold h) (k + 1) u bodies) t is in
      let next = some_or_ok k (next_log h s body) step.0 step.1 in
      sound_after (k + 1) step.0 t bodies
      (sound_next h s step.0 body sound (added_short body bytes.0) next) bytes.1 step.2

  -- ---- a whole log

  begins : (first : Text) (settings : Settings) → settings_in first ≡ Some settings
      → begun_log first ≡ Some (new_log settings)
  unfolding begun_log
  begins first settings is = ap (option_map new_log) is

  first_sound : (first : Text) (settings : Settings) → IsFirst first (new_log settings)
      → IsSoundLog h (new_log settings)
  first_sound first settings is =
      let same : settings ≡ is.settings = ap (λ (u : LogState). u.settings) is.made in
      subst (λ (x : Settings). IsSoundLog h (new_log x)) (sym same) (record {
        is = sound_new h is.settings (record {
          allowed = is.allowed;
          some = omega arith;
          few = omega (arith, is.allowed.some);
          marks = omega arith;
          multiple = refl;
          tiled = omega arith;
          switched = tt;
        });
        anchor = is.id;
      })

  pub sound_log : FirstsKeepToRules → (list : List Text) (t : LogState)
      → AllByRecursion IsBytes list → log_of h list ≡ Ok t → IsSoundLog h t
  sound_log firsts list t bytes is =
      let begun = only_begins h list t is in
      let all : AllByRecursion IsBytes (begun.0 ∷ begun.1.0) =
      subst (AllByRecursion IsBytes) begun.1.1.0 bytes in
      let first = first_sound begun.0 t.settings (firsts begun.0 (new_log t.settings) all.0
      (begins begun.0 t.settings begun.1.1.1)) in
      record {
        is = sound_after 1 (new_log t.settings) t begun.1.0 first.is all.1 begun.1.1.2;
        anchor = first.anchor;
      }
