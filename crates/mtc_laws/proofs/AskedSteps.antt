-- The records that a mirror has its cosigner add.
use Rattle.std.proofs.Common.{◌≡◌, ◌⊎◌, inl, inr, ℕ, false, List, [], ◌∷◌, ◌++◌, length, None}
use Rattle.std.proofs.Common.{Some, Ok, IsOk, refl, sym, subst, arith}
use Rattle.std.proofs.lemmas.List.{length-map}
use Rattle.byte_formats.specs.Offsets.{IsBytes}
use Rattle.byte_formats.specs.Types.{HashFunction}
use Rattle.disk_core.specs.declared.disk.Disk.{Ghosts as Disks}
use Rattle.file_events.specs.Worlds.{Program}
use Rattle.journal_core.specs.Format.{Represents, end_offset}
use Rattle.journal_core.proofs.Standing.{found_stands}
use Rattle.mtc_io.specs.declared.sink.Sink.{Ghosts as Sinks}
use Rattle.mtc_room.specs.declared.room.Room.{Ghosts as Rooms}
use Rattle.mtc_words.specs.Commands.{mirror_advance, mirror_cosign}
use Rattle.cosigner_core.specs.Folds.{CosignerState, cosigner_fold, cosigner_of}
use Rattle.cosigner_core.specs.Records.{advance_record, sign_record}
use Rattle.cosigner_core.specs.Refusals.{advance_refused, cosign_refused, journal_refusal}
use Rattle.cosigner_core.proofs.Allowed.{advance_valid, none_first, sign_valid}
use Rattle.cosigner_core.proofs.Counts.{counts_up}
use Rattle.mirror_core.specs.Folds.{MirrorState, mirror_fold, mirror_of}
use Rattle.mirror_cosigner.specs.Agreement.{IsAskedAdvance, IsAskedSign, IsAskedStep}
use Rattle.mirror_cosigner.specs.Refusals.{advance_refusal_at, cosign_refusal_at, growth_refusal}
use Rattle.mirror_cosigner.specs.Refusals.{mirror_advance_refusal, mirror_cosign_refusal}
use Rattle.mirror_cosigner.specs.Refusals.{signing_refusal}
use Rattle.mirror_cosigner.specs.Requests.{advance_by_mirror, own_root, subtree_by_mirror}
use Rattle.mirror_cosigner.proofs.Advanced.{none_second}
use Rattle.mirror_cosigner.proofs.Growing.{advance_fits, agreement_grows, next_short, sign_fits}
use Rattle.mirror_cosigner.proofs.Refusing.{advance_few, signs_own}
use Rattle.mtc_command.specs.Made.{appended, reads}
use Rattle.mtc_plans.specs.Heard.{FindsBoth, MirrorAdvancesSo, MirrorCosignsSo}
use Rattle.mtc_plans.proofs.HeardOfBoth.{mirror_advanced_so, mirror_cosigned_so}
use Rattle.mtc_laws.specs.MirrorLaws.{AdvanceTo, AskedRecord, HasAskedStep, SignOf, StepsAreAsked}
use Rattle.mtc_laws.specs.PrintLaws.{OfEachRun, OfHeard}
use Rattle.mtc_laws.proofs.HeardRuns.{file_bytes}
use Rattle.mtc_laws.proofs.Printed.{MirrorsAreSound, first_did, heard_so}
use Rattle.mtc_laws.proofs.Aliases.{DidWith, ModelsFiles}
use Rattle.mtc_top.specs.Executions.{Run, program}

-- ---- the record makes a cosigner, with those before it

module _ (h : HashFunction) (sized : (b : List ℕ) → length (h b) ≡ 32) (sound : MirrorsAreSound h)
    (shown list : List (List ℕ)) (m : MirrorState) (signer : CosignerState)
    (is_mirror : mirror_of h shown ≡ Ok m) (is_cosigner : cosigner_of h list ≡ Ok signer) where
  advance_made : (size : ℕ)
      → mirror_advance_refusal h m signer false (end_offset list) size ≡ None
      → let r = advance_by_mirror h m signer.held size in
      IsOk (cosigner_of h (list ++ advance_record r.size r.root r.proof ∷ []))
  unfolding advance_refusal_at
  advance_made size fits =
      let r = advance_by_mirror h m signer.held size in
      let end = end_offset list in
      let own = own_root h m signer.held in
      let within = advance_few h (length m.items) own signer false end m size fits in
      let few = (sound shown m is_mirror).numbers.few in
      let form = advance_fits h sized m signer size within (omega (arith, within, few)) in
      let first = growth_refusal (length m.items) own signer.held size in
      let none = none_second first (advance_refused h signer false end r) (none_first first _ fits)
      fits in
      let made = advance_valid h signer r form (Some list)
      (journal_refusal false end (advance_record r.size r.root r.proof)) is_cosigner none in
      subst IsOk (sym made) refl

  sign_made : (start end : ℕ)
      → mirror_cosign_refusal h m signer false (end_offset list) start end ≡ None
      → let r = subtree_by_mirror h m signer.held start end in
      IsOk (cosigner_of h (list ++ sign_record signer.key.next r.start r.end r.hash r.proof ∷ []))
  unfolding cosign_refusal_at
  sign_made start end fits =
      let r = subtree_by_mirror h m signer.held start end in
      let offset = end_offset list in
      let own = signs_own h m signer false offset start end fits in
      let count = length-map m.items (λ item. item.0) in
      let within = own.mine.within in
      let few = (sound shown m is_mirror).numbers.few in
      let form = sign_fits h sized m signer signer.key.next start end (omega (arith, count, within))
      (omega (arith, count, within, few))
      (next_short signer.key (counts_up h list signer is_cosigner).1) own.valid own.within in
      let first = signing_refusal (length m.items) (own_root h m signer.held) signer.held start end
      in
      let none = none_second first (cosign_refused h signer false offset r)
      (none_first first _ fits) fits in
      let made = sign_valid h signer r form (Some list)
      (journal_refusal false offset (sign_record signer.key.next r.start r.end r.hash r.proof))
      is_cosigner none in
      subst IsOk (sym made) refl

-- ---- the runs

module _ {R S D O E : Type 0} (h : HashFunction) (rooms : Rooms R S D) (disks : Disks D)
    (outs : Sinks O) (errs : Sinks E) (contents : ModelsFiles rooms disks)
    (bytes : (d : D) (b : List ℕ) → disks.contents d ≡ Some b → IsBytes b)
    (sized : (b : List ℕ) → length (h b) ≡ 32) (sound : MirrorsAreSound h) where
  abbrev p : Program
  p = program h rooms disks outs errs

  module _ (name mirror : List ℕ) (old : R) (run : Run R O E) (is_modelled : rooms.is_modelled old)
      (both : FindsBoth h (rooms.file old) name mirror) where
    pub signer_stands : Represents both.held both.found.records
        × (cosigner_of h both.found.records ≡ Ok both.found.state)
    signer_stands = found_stands (cosigner_fold h) both.held both.found
        (file_bytes disks (rooms.file old name) (rooms.device old name) both.held bytes
        (contents.0 old name is_modelled) both.there) both.is_cosigner

    pub mirror_stands : Represents both.mirror_held both.mirrored.records
        × (mirror_of h both.mirrored.records ≡ Ok both.mirrored.state)
    mirror_stands = found_stands (mirror_fold h) both.mirror_held both.mirrored
        (file_bytes disks (rooms.file old mirror) (rooms.device old mirror) both.mirror_held bytes
        (contents.0 old mirror is_modelled) both.mirror_there) both.is_mirror

    asks : (IsAsked : AskedRecord) (body : List ℕ)
        → DidWith h rooms disks outs errs old run name (appended both.found.records body)
        → IsAsked both.mirrored.state both.found.state (end_offset both.found.records) body
        → IsAskedAdvance h both.mirrored.state both.found.state (end_offset both.found.records) body
        ⊎ IsAskedSign h both.mirrored.state both.found.state (end_offset both.found.records) body
        → IsOk (cosigner_of h (both.found.records ++ body ∷ []))
        → HasAskedStep h p name mirror IsAsked old run
    asks IsAsked body did is asked valid =
        let step : IsAskedStep h both.mirrored.records both.found.records body = record {
          state = both.mirrored.state;
          is_mirror = mirror_stands.1;
          signer = both.found.state;
          is_cosigner = signer_stands.1;
          asked = asked;
        } in
        record {
          held = both.mirror_held;
          there = both.mirror_there;
          shown = both.mirrored.records;
          stands = mirror_stands.0;
          state = both.mirrored.state;
          is_mirror = mirror_stands.1;
          list = both.found.records;
          signs = both.found.state;
          is_cosigner = signer_stands.1;
          body = body;
          did = did;
          asked = is;
          agrees = (agreement_grows h sized sound).asked both.mirrored.records both.found.records
              body step valid;
        }

  advance_asked : (name mirror : List ℕ) (size : ℕ) → OfEachRun h p (OfHeard h p
      (mirror_advance name mirror size) (HasAskedStep h p name mirror (AdvanceTo h p size)))
  advance_asked name mirror size old run is_modelled is_run spoken heard =
      let command = mirror_advance name mirror size in
      let s = heard_so h rooms disks outs errs old run command spoken is_modelled is_run heard
      (MirrorAdvancesSo h (rooms.file old) name mirror size)
      (mirror_advanced_so h (rooms.file old) name mirror size) in
      let both = s.both in
      let list = both.found.records in
      let r = advance_by_mirror h both.mirrored.state both.found.state.held size in
      let body = advance_record r.size r.root r.proof in
      let asked : IsAskedAdvance h both.mirrored.state both.found.state (end_offset list) body
      = record { size = size; allowed = s.fits; is = refl } in
      asks name mirror old run is_modelled both (AdvanceTo h p size) body
      (first_did h rooms disks outs errs old run command spoken name (mirror ∷ [])
      (appended list body) (reads both.mirrored.records ∷ []) refl s.did)
      (asked, refl) (inl asked)
      (advance_made h sized sound both.mirrored.records list both.mirrored.state both.found.state
      (mirror_stands name mirror old run is_modelled both).1
      (signer_stands name mirror old run is_modelled both).1 size s.fits)

  sign_asked : (name mirror : List ℕ) (start end : ℕ) → OfEachRun h p (OfHeard h p
      (mirror_cosign name mirror start end) (HasAskedStep h p name mirror (SignOf h p start end)))
  sign_asked name mirror start end old run is_modelled is_run spoken heard =
      let command = mirror_cosign name mirror start end in
      let s = heard_so h rooms disks outs errs old run command spoken is_modelled is_run heard
      (MirrorCosignsSo h (rooms.file old) name mirror start end)
      (mirror_cosigned_so h (rooms.file old) name mirror start end) in
      let both = s.both in
      let list = both.found.records in
      let signer = both.found.state in
      let r = subtree_by_mirror h both.mirrored.state signer.held start end in
      let body = sign_record signer.key.next r.start r.end r.hash r.proof in
      let asked : IsAskedSign h both.mirrored.state signer (end_offset list) body
      = record { start = start; stop = end; allowed = s.fits; is = refl } in
      asks name mirror old run is_modelled both (SignOf h p start end) body
      (first_did h rooms disks outs errs old run command spoken name (mirror ∷ [])
      (appended list body) (reads both.mirrored.records ∷ []) refl s.did)
      (asked, (refl, refl)) (inr asked)
      (sign_made h sized sound both.mirrored.records list both.mirrored.state signer
      (mirror_stands name mirror old run is_modelled both).1
      (signer_stands name mirror old run is_modelled both).1 start end s.fits)

  pub steps_asked : StepsAreAsked h p
  steps_asked name mirror = (advance_asked name mirror, sign_asked name mirror)
