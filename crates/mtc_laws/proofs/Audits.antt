-- An audit of a certificate that a landmark or a released signature backs.
use Rattle.std.proofs.Common.{◌≡◌, ◌⊎◌, inl, inr, ℕ, zero, suc, ◌+◌, ◌<◌, true, false, Bool}
use Rattle.std.proofs.Common.{List, [], ◌∷◌, length, Option, None, Some, Result, refl, sym}
use Rattle.std.proofs.Common.{subst, ap, ◌∙◌, arith, get_or, ◌&&◌, ◌==◌, is_some}
use Rattle.std.proofs.lemmas.Bool.{eq-eqb, lt-ltb, or_right, true≢false}
use Rattle.std.proofs.lemmas.Bool.Decides.{leb_tells}
use Rattle.std.proofs.lemmas.List.Sums.{fails_before_first}
use Rattle.std.proofs.lemmas.Slice.Eq.{bytes_eq-Decides}
use Rattle.std.specs.List.{position, position_or_len}
use Rattle.std.proofs.Common.{◌++◌, ◌||◌, Ok, slice_get}
use Rattle.std.proofs.lemmas.List.{append_cancel_left}
use Rattle.std.specs.Io.KnownBytes.{Appends}
use Rattle.std.specs.Prelude.{Contains, if◌then◌else◌}
use Rattle.std.specs.Str.{bytes_eq}
use Rattle.std.proofs.lemmas.Option.{same_Some}
use Rattle.byte_formats.specs.Offsets.{IsBytes}
use Rattle.byte_formats.specs.Types.{HashFunction}
use Rattle.byte_formats.proofs.Steps.{ok_is}
use Rattle.byte_formats.proofs.Values.{same_bytes}
use Rattle.disk_core.specs.declared.disk.Disk.{Ghosts as Disks}
use Rattle.mtc_io.specs.declared.sink.Sink.{Ghosts as Sinks}
use Rattle.mtc_room.specs.declared.room.Room.{Ghosts as Rooms}
use Rattle.mtc_words.specs.Commands.{CommandValue, audit}
use Rattle.mtc_words.specs.Words.{known_word}
use Rattle.mtc_words.specs.declared.error.WordError.{WordError}
use Rattle.cosigner_core.specs.ExportReading.{export_in}
use Rattle.cosigner_core.specs.declared.error.ReadExportError.{ReadExportError}
use Rattle.cosigner_core.specs.declared.lists.Export.{Export}
use Rattle.cosigner_core.specs.declared.step.Step.TheVariants.{Sign}
use Rattle.policy_core.specs.Counting.{is_in_set}
use Rattle.policy_core.specs.declared.answer.Accepted.{Accepted}
use Rattle.policy_core.specs.declared.answer.By.{By}
use Rattle.policy_core.specs.declared.answer.By.TheVariants.{Cosigners, Landmark}
use Rattle.policy_core.specs.declared.store.Store.{Store}
use Rattle.mtc_plans.proofs.Planned.{outcome_planned}
use Rattle.party_history.specs.declared.start.PartyStart.TheVariants.{Cosigner}
use Rattle.world_core.specs.Audit.{AuditCase, has_own, is_counted, is_counted_as, is_recorded}
use Rattle.world_core.specs.Audit.{is_recorded_by, is_sign_of, is_supported, some_index}
use Rattle.mtc_command.specs.Answers.{Reply, said, refused, out_of, status_of}
use Rattle.mtc_command.specs.Steps.{Files, Outcome, with_form}
use Rattle.mtc_command.specs.Wanted.{Meets}
use Rattle.mtc_command.proofs.Inputs.{bytes_read}
use Rattle.mtc_command.proofs.Made.{OnlyNow, ReadsCrashState}
use Rattle.mtc_relying.specs.AuditOutcome.{InputFile, audit_by, audit_outcome, audit_says}
use Rattle.mtc_relying.specs.AuditOutcome.{audit_cert_says, audit_export_says, audit_items_say}
use Rattle.mtc_relying.specs.AuditOutcome.{audit_accepted_says, audit_store_says, with_input}
use Rattle.cosigner_core.specs.Reasons.{export_fault_text}
use Rattle.entry_list.specs.Reasons.{items_fault_text}
use Rattle.policy_core.specs.Reasons.{store_fault_text}
use Rattle.mtc_laws.specs.AuditLaws.{AuditsStand, HasCounted, HoldsText, IsAuditOf}
use Rattle.mtc_laws.specs.AuditLaws.{IsSignedInExecution, StandsOrPair}
use Rattle.mtc_laws.specs.Cosigners.{CosignerExecution, WasExported}
use Rattle.mtc_laws.specs.ExportLaws.{HasExported}
use Rattle.mtc_top.specs.Concluded.{Prints}
use Rattle.mtc_top.specs.Facts.{facts}
use Rattle.mtc_laws.proofs.Exports.{exports_hold}
use Rattle.mtc_laws.proofs.HeardBytes.{done_heard}
use Rattle.mtc_laws.proofs.Aliases.{ModelsFiles}
use Rattle.mtc_top.proofs.Runs.{answered, wrote_of}
use Rattle.mtc_top.specs.Executions.{program, Run}

-- ---- what is asked for

input_there : (limit : ℕ) (name : List ℕ) (files : Files) (next : InputFile → Outcome)
    (text : List ℕ) → HoldsText files name limit text
    → with_input limit name files next ≡ next (record { name = name; text = text })
input_there limit name files next text holds = bytes_read limit name (files name) text
    (λ t. next (record { name = name; text = t })) holds.there holds.few

audit_asked : (h : HashFunction) (files : Files) (cert store : List ℕ) (unix_time : ℕ)
    (entries kept : List ℕ) (x : AuditCase) → IsAuditOf h files cert store unix_time entries kept x
    → audit_outcome h cert store unix_time entries kept files ≡ audit_says h x
audit_asked h files cert store unix_time entries kept x is =
    let c : InputFile = record { name = cert; text = is.cert_text } in
    let s : InputFile = record { name = store; text = is.store_text } in
    let e : InputFile = record { name = entries; text = is.entries_text } in
    let k : InputFile = record { name = kept; text = is.kept_text } in
    input_there 16777216 cert files (λ a. with_input 16777216 store files
    (λ b. with_input 8589934592 entries files (λ d. with_input 8589934592 kept files
    (λ f. audit_store_says h a b unix_time d f)))) is.cert_text is.has_cert
    ∙ input_there 16777216 store files (λ b. with_input 8589934592 entries files
    (λ d. with_input 8589934592 kept files (λ f. audit_store_says h c b unix_time d f)))
    is.store_text is.has_store
    ∙ input_there 8589934592 entries files (λ d. with_input 8589934592 kept files
    (λ f. audit_store_says h c s unix_time d f)) is.entries_text is.has_entries
    ∙ input_there 8589934592 kept files (λ f. audit_store_says h c s unix_time e f) is.kept_text
    is.has_kept
    ∙ ap (λ r. with_form store_fault_text store r (audit_items_say h c unix_time e k)) is.store_read
    ∙ ap (λ r. with_form items_fault_text entries r (audit_export_says h c unix_time k x.store))
    is.items_read
    ∙ ap (λ r. with_form export_fault_text kept r (audit_cert_says h c unix_time x.store x.items))
    is.kept_read
    ∙ ap (audit_accepted_says h cert x.store x.items x.kept) is.judged

-- ---- the export supports it

module _ {X : Type 0} (p : X → Bool) where
  place_within : (xs : List X) (i : ℕ) (x : X) → i < length xs → get_or xs i x ≡ x → p x ≡ true
      → position_or_len p xs < length xs
  place_within xs i x within is passes = elim (leb_tells (length xs) (position_or_len p xs)) [
    | inl none ↦ absurd (true≢false (sym (ap p is ∙ passes)
        ∙ fails_before_first p xs i x (omega (arith, within, none.1))))
    | inr some ↦ some.1
  ]

  found_index : (xs : List X) (x : X) → Contains xs x → p x ≡ true
      → is_some (position p xs) ≡ true
  found_index xs x there passes =
      ap (λ (b : Bool). is_some (if b then Some (position_or_len p xs) else None))
      (lt-ltb (position_or_len p xs) (length xs)
      (place_within xs there.0 x there.1 there.2 passes))

all_three : (a b c : Bool) → a ≡ true → b ≡ true → c ≡ true → (a && (b && c)) ≡ true
all_three a b c one two three =
    ap (λ (x : Bool). x && (b && c)) one ∙ ap (λ (x : Bool). x && c) two ∙ three

signed_hash : (a : Accepted) (index : ℕ) (proof : List (List ℕ))
    → is_sign_of a (Sign index a.start a.end a.hash proof) ≡ true
signed_hash a index proof = all_three (a.start == a.start) (a.end == a.end)
    (bytes_eq a.hash a.hash) (eq-eqb a.start a.start refl) (eq-eqb a.end a.end refl)
    (same_bytes a.hash)

recorded_so : (store : Store) (a : Accepted) (set : ℕ) (e : Export) (index : ℕ)
    (proof : List (List ℕ)) → e.log ≡ store.log → is_counted store set e ≡ true
    → Contains e.steps (Sign index a.start a.end a.hash proof)
    → is_recorded store a set e ≡ true
unfolding is_recorded
recorded_so store a set e index proof log counts there =
    all_three (bytes_eq e.log store.log) (is_counted store set e)
    (is_some (position (is_sign_of a) e.steps))
    ((bytes_eq-Decides e.log store.log).1 log) counts
    (found_index (is_sign_of a) e.steps (Sign index a.start a.end a.hash proof) there
    (signed_hash a index proof))

-- ---- the store counts the cosigner of an export

some_there : {A : Type 0} (passes : ℕ → A → Bool) (place i : ℕ) (xs : List A) (x : A)
    → slice_get xs i ≡ Some x → passes (place + i) x ≡ true → some_index passes place xs ≡ true
some_there {A} passes place i [] x is passed = let wrong : None ≡ Some x = is in absurd cc
some_there {A} passes place zero (y ∷ ys) x is passed =
    let same : y ≡ x = same_Some y x is in
    let here : place + 0 ≡ place = omega arith in
    ap (λ (b : Bool). b || some_index passes (place + 1) ys)
    (ap (passes place) same ∙ subst (λ (n : ℕ). passes n x ≡ true) here passed)
some_there {A} passes place (suc i) (y ∷ ys) x is passed =
    let later : place + suc i ≡ place + 1 + i = omega arith in
    or_right (passes place y) (some_index passes (place + 1) ys) (some_there passes (place + 1) i ys
    x is (subst (λ (n : ℕ). passes n x ≡ true) later passed))

counted_so : (store : Store) (set : ℕ) (e : Export) (id key : List ℕ) → e.cosigner ≡ id
    → e.public ≡ key → HasCounted store set id key → is_counted store set e ≡ true
counted_so store set e id key cosigner public has =
    let at_place : has.place ≡ 0 + has.place = omega arith in
    some_there (is_counted_as set e.cosigner e.public) 0 has.place store.cosigners has.known
    has.there (subst (λ (n : ℕ). is_counted_as set e.cosigner e.public n has.known ≡ true) at_place
    (all_three (is_in_set set has.place) (bytes_eq has.known.id e.cosigner)
    (bytes_eq has.known.key e.public) has.in_set
    ((bytes_eq-Decides has.known.id e.cosigner).1 (has.id_is ∙ sym cosigner))
    ((bytes_eq-Decides has.known.key e.public).1 (has.key_is ∙ sym public))))

-- what went out, as the model knows it, is what was printed
pub printed_text : (old new : Option (List ℕ)) (before kept text : List ℕ) → old ≡ Some before
    → new ≡ Some (before ++ kept) → Appends old new text → kept ≡ text
printed_text None new before kept text was is prints =
    let wrong : None ≡ Some before = was in absurd cc
printed_text (Some xs) None before kept text was is prints = absurd prints
printed_text (Some xs) (Some ys) before kept text was is prints =
    append_cancel_left before kept text (sym (same_Some ys (before ++ kept) is) ∙ prints
    ∙ ap (λ (l : List ℕ). l ++ text) (same_Some xs before was))

module _ {R S D O E : Type 0} (h : HashFunction) (rooms : Rooms R S D) (disks : Disks D)
    (outs : Sinks O) (errs : Sinks E) (crash_state : ReadsCrashState disks) (only : OnlyNow disks)
    (contents : ModelsFiles rooms disks)
    (bytes : (d : D) (b : List ℕ) → disks.contents d ≡ Some b → IsBytes b) where
  -- what a run of `export` printed after an execution
  pub exported_after : (x : CosignerExecution h (program h rooms disks outs errs))
      (text : List ℕ) (was : WasExported h (program h rooms disks outs errs) x text)
      → (e : HasExported h (program h rooms disks outs errs) x.settings x.public x.name x.begins
      x.events x.ends was.run) × (text ≡ e.text)
  exported_after x text was =
      let run = was.run in
      let wrote = was.written in
      let e = exports_hold h rooms disks outs errs crash_state only contents bytes x.name
      (Cosigner x.settings x.public) x.first x.begins x.ends x.events x.begun x.execution
      x.settings x.public refl run was.has_run was.spoken
      (done_heard run.status (outs.taken run.out) (outs.taken run.out_after) wrote.done) in (
        e,
        printed_text (outs.taken run.out) (outs.taken run.out_after) wrote.before text e.text
            wrote.contents wrote.printed (e.printed.whole wrote.done),
      )

  -- the export that is audited was read
  pub kept_there : (x : AuditCase) (kept_text : List ℕ) → export_in h kept_text ≡ Ok x.kept
      → IsSignedInExecution h (program h rooms disks outs errs) x kept_text
      → (e : Export) × (x.kept ≡ Some e)
  kept_there x kept_text read by =
      let both = exported_after by.signer kept_text by.exported in
      let e = both.0 in
      let same = both.1 in (
        e.export,
        ok_is ReadExportError x.kept (Some e.export) (sym read ∙ ap (export_in h) same ∙ e.read),
      )

  signed : (x : AuditCase) (kept_text : List ℕ) → export_in h kept_text ≡ Ok x.kept
      → IsSignedInExecution h (program h rooms disks outs errs) x kept_text → is_supported x ≡ true
  signed x kept_text read by =
      let both = exported_after by.signer kept_text by.exported in
      let e = both.0 in
      let same = both.1 in
      let kept : x.kept ≡ Some e.export = ok_is ReadExportError x.kept (Some e.export)
      (sym read ∙ ap (export_in h) same ∙ e.read) in
      let s = by.signed in
      let there = e.signed by.signer.first s.prefix s.more s.body
      (Sign s.index x.accepted.start x.accepted.end x.accepted.hash s.proof) s.held s.signs in
      ap (λ (b : By). is_recorded_by x.store x.accepted b x.kept) by.by
      ∙ ap (is_recorded_by x.store x.accepted (Cosigners by.set)) kept
      ∙ recorded_so x.store x.accepted by.set e.export s.index s.proof (e.log_is ∙ by.log_is)
      (counted_so x.store by.set e.export by.signer.settings.id by.signer.public e.cosigner_is
      e.key_is by.counts) there

  supported : (x : AuditCase) (kept_text : List ℕ) → export_in h kept_text ≡ Ok x.kept
      → (x.accepted.by ≡ Landmark)
      ⊎ IsSignedInExecution h (program h rooms disks outs errs) x kept_text
      → is_supported x ≡ true
  supported x kept_text read backed = elim backed [
    | inl landmark ↦ ap (λ (b : By). is_recorded_by x.store x.accepted b x.kept) landmark
    | inr by ↦ signed x kept_text read by
  ]

  -- the reply is that the entry stands, or a pair
  by_reply : (x : AuditCase) (run : Run R O E) (own : Bool)
      → has_own h x.store x.items x.accepted x.cert ≡ own → (reply : Reply)
      → Meets (audit_by h x None true own).answer reply → run.status ≡ status_of reply
      → Prints outs run.out run.out_after (out_of reply)
      → StandsOrPair h (program h rooms disks outs errs) x run
  by_reply x run true has reply meets code text = inl (
    code ∙ ap status_of meets,
    has,
    subst (λ (r : Reply). Prints outs run.out run.out_after (out_of r)) meets text,
  )
  by_reply x run false has (said kind out) meets code text =
      inr (out, (code ∙ ap (λ k. status_of (said k out)) meets.0, meets.1, text))
  by_reply x run false has (refused why file reason) meets code text = absurd meets

  pub audits_stand : AuditsStand h (program h rooms disks outs errs)
  audits_stand old run cert store unix_time entries kept x is_modelled is_run spoken is own_list
      backed
      not5
      not6 not8 =
      let a = answered h rooms disks outs errs run.words old run.room run.out run.out_after
      run.err run.err_after run.status is_run not5 not8 in
      let wrote = wrote_of outs errs (known_word run.words) run.out run.out_after run.err
      run.err_after a.reply run.status a.concludes not6 in
      let asked = ap (λ (q : Result CommandValue WordError). (facts h q).outcome (rooms.file old))
      spoken ∙ sym (outcome_planned h (audit cert store unix_time entries kept) (rooms.file old))
      ∙ audit_asked h (rooms.file old) cert store unix_time entries kept x is
      ∙ ap (λ f. audit_by h x f (is_supported x)
      (has_own h x.store x.items x.accepted x.cert)) own_list
      ∙ ap (λ (b : Bool). audit_by h x None b (has_own h x.store x.items x.accepted x.cert))
      (supported x is.kept_text is.kept_read backed) in
      by_reply x run (has_own h x.store x.items x.accepted x.cert) refl a.reply
      (subst (λ (w : Outcome). Meets w.answer a.reply) asked (a.is (inl is_modelled)))
      wrote.code wrote.text
