-- One key signs one text.
use Rattle.std.proofs.Common.{◌≡◌, ℕ, true, List, [], ◌∷◌, ◌++◌, length, Some, Ok, refl, sym, subst}
use Rattle.std.proofs.Common.{ap, ◌∙◌, Option}
use Rattle.byte_formats.specs.Offsets.{IsBytes}
use Rattle.byte_formats.specs.Types.{HashFunction, Text}
use Rattle.disk_core.specs.declared.disk.Disk.{Ghosts as Disks}
use Rattle.mtc_io.specs.declared.sink.Sink.{Ghosts as Sinks}
use Rattle.mtc_room.specs.declared.room.Room.{Ghosts as Rooms}
use Rattle.file_events.specs.Worlds.{EachRun, Program}
use Rattle.hss_keys.specs.Keys.{key_signature}
use Rattle.mtc_proof.specs.Inputs.{signed_text}
use Rattle.mtc_proof.specs.Proofs.{signature_text}
use Rattle.cosigner_core.specs.Folds.{CosignerState, cosigner_of}
use Rattle.cosigner_core.specs.Records.{step_in}
use Rattle.cosigner_core.specs.Requests.{SubtreeParts}
use Rattle.cosigner_core.specs.declared.step.Step.{Step}
use Rattle.cosigner_core.specs.declared.step.Step.TheVariants.{Sign}
use Rattle.cosigner_core.proofs.Names.{Began, began, began_first}
use Rattle.party_history.specs.declared.start.PartyStart.TheVariants.{Cosigner}
use Rattle.mtc_command.proofs.Made.{OnlyNow, ReadsCrashState}
use Rattle.mtc_cosigner.specs.CosignerOutcomes.{cosigned_text}
use Rattle.mtc_words.specs.Commands.{CommandValue}
use Rattle.mtc_top.specs.Executions.{Run, WasHeld, program}
use Rattle.mtc_laws.specs.Cosigners.{CosignerExecution}
use Rattle.mtc_laws.specs.PrintLaws.{HasCosigned, OfHeard, Signs}
use Rattle.mtc_laws.proofs.Aliases.{ModelsFiles}
use Rattle.mtc_laws.proofs.HeardRuns.{heard_held}
use Rattle.mtc_laws.proofs.Printed.{MirrorsAreSound, signatures_printed}
use Rattle.mtc_laws.proofs.Recovered.{each_held, one_message}
use Rattle.mtc_headline.proofs.Follows.{each_both}
use Rattle.mtc_headline.proofs.Recorded.{first_of}
use Rattle.mtc_headline.proofs.Sent.{sent_heard}
use Rattle.mtc_headline.specs.Endings.{OfSent}
use Rattle.mtc_headline.specs.OneText.{OneKeySignsOneText, SignOneText}

-- records of one signature have one interval and hash
one_sign : (a b start end from to : ℕ) (hash node : List ℕ) (proof shown : List (List ℕ))
    (r : Option Step) → r ≡ Some (Sign a start end hash proof)
    → r ≡ Some (Sign b from to node shown)
    → (start ≡ from) × (end ≡ to) × (hash ≡ node)
one_sign a b start end from to hash node proof shown r one two = (cc, cc, cc)

-- the text of a signature, by what the cosigner began with
abbrev text_by : Began → ℕ → ℕ → ℕ → List ℕ → Text
text_by b next start end hash = signature_text (record {
  cosigner = b.0;
  signature = key_signature b.2 next (signed_text b.0 b.1 start end hash);
})

same_text : (b d : Began) (next number start end from to : ℕ) (hash node : List ℕ) → b ≡ d
    → next ≡ number → start ≡ from → end ≡ to → hash ≡ node
    → text_by b next start end hash ≡ text_by d number from to node
same_text b d next number start end from to hash node one two three four five =
    ap (λ (x : Began). text_by x next start end hash) one
    ∙ ap (λ (n : ℕ). text_by d n start end hash) two
    ∙ ap (λ (n : ℕ). text_by d number n end hash) three
    ∙ ap (λ (n : ℕ). text_by d number from n hash) four
    ∙ ap (λ (m : List ℕ). text_by d number from to m) five

module _ {R S D O E : Type 0} (h : HashFunction) (rooms : Rooms R S D) (disks : Disks D)
    (outs : Sinks O) (errs : Sinks E) (crash_state : ReadsCrashState disks) (only : OnlyNow disks)
    (contents : ModelsFiles rooms disks)
    (bytes : (d : D) (b : List ℕ) → disks.contents d ≡ Some b → IsBytes b) where
  abbrev p : Program
  p = program h rooms disks outs errs

  module _ (x : CosignerExecution h p) where
    abbrev Held : List Text → Type 0
    Held = WasHeld h p x.name x.begins x.events

    -- a run signed, and the execution held its records with the one of the signature
    pub record SignedHere (old : R) (run : Run R O E) : Type 0 where
      pub signed : HasCosigned h p x.name old run
      pub held : Held (signed.list ++ signed.body ∷ [])

    one_began : (list other : List Text) (body message : Text) (s t : CosignerState)
        → cosigner_of h list ≡ Ok s → cosigner_of h other ≡ Ok t → Held (list ++ body ∷ [])
        → Held (other ++ message ∷ []) → began s ≡ began t
    one_began list other body message s t is its held held' =
        let first = first_of h rooms disks outs errs crash_state only contents bytes x list body s
        is held in
        let second = first_of h rooms disks outs errs crash_state only contents bytes x other
        message t its held' in
        let starts = x.begun.starts in
        began_first h x.settings x.first starts.0 first.0 s starts.1.0
        (subst (λ (l : List Text). cosigner_of h l ≡ Ok s) first.1 is)
        ∙ sym (began_first h x.settings x.first starts.0 second.0 t starts.1.0
        (subst (λ (l : List Text). cosigner_of h l ≡ Ok t) second.1 its))

    both_signed : (old : R) (run : Run R O E) (before : R) (other : Run R O E)
        → SignedHere old run → SignedHere before other → SignOneText h p x old run before other
    both_signed old run before other s t =
        let one = s.signed in
        let two = t.signed in
        let start = one_began one.list two.list one.body two.body one.state two.state
        one.cosigner_is two.cosigner_is s.held t.held in
        let body : one.state.key.next ≡ two.state.key.next → one.body ≡ two.body
        = λ same. one_message h rooms disks outs errs crash_state only contents bytes x.name
        (Cosigner x.settings x.public) x.first x.begins x.ends x.events x.begun x.execution
        x.settings x.public refl one.list two.list [] [] one.body two.body
        (Sign one.state.key.next one.request.start one.request.end one.request.hash
        one.request.proof)
        (Sign two.state.key.next two.request.start two.request.end two.request.hash
        two.request.proof) s.held t.held one.signs two.signs same in
        let fields = λ (same : one.state.key.next ≡ two.state.key.next).
        one_sign one.state.key.next two.state.key.next one.request.start one.request.end
        two.request.start two.request.end one.request.hash two.request.hash one.request.proof
        two.request.proof (step_in one.body) one.signs (ap step_in (body same) ∙ two.signs) in
        record {
          one = one;
          two = two;
          same = λ number. (
            (fields number).0,
            (fields number).1,
            (fields number).2,
            same_text (began one.state) (began two.state) one.state.key.next two.state.key.next
                one.request.start one.request.end two.request.start two.request.end
                one.request.hash two.request.hash start number (fields number).0
                (fields number).1 (fields number).2,
          );
        }

  pub one_text : ((b : List ℕ) → length (h b) ≡ 32) → MirrorsAreSound h → OneKeySignsOneText h p
  one_text sized sound x command again signs signs' =
      let all = λ (c : CommandValue) (by : Signs x.name c). each_held h rooms disks outs errs
      crash_state only contents bytes x.name (Cosigner x.settings x.public) x.first x.begins x.ends
      x.events x.begun x.execution (Held x) (OfHeard h p c (SignedHere x)) (λ list held. held)
      (λ old run is_modelled is_run held spoken heard.
      let signed = signatures_printed h rooms disks outs errs contents bytes sized sound x.name
      c by old run is_modelled is_run spoken heard in
      record {
        signed = signed;
        held = held (signed.list ++ signed.body ∷ []) (heard_held h rooms disks outs errs old run
            is_run heard x.name signed.list signed.body signed.did);
      }) in
      let inner = all again signs' in
      let outer = all command signs in
      each_both h p (OfHeard h p command (SignedHere x)) (OfHeard h p command (SignedHere x))
      (OfSent p command (λ old run. EachRun p (OfSent p again (SignOneText h p x old run))
      x.begins x.events))
      (λ old run one two spoken sent.
      let s = one spoken (sent_heard p run sent) in
      each_both h p (OfHeard h p again (SignedHere x)) (OfHeard h p again (SignedHere x))
      (OfSent p again (SignOneText h p x old run))
      (λ before other first second spoken' sent'. both_signed x old run before other s
      (first spoken' (sent_heard p other sent'))) x.events x.begins inner inner) x.events x.begins
      outer outer
