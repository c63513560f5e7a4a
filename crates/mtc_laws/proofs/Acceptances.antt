-- What is issued is accepted.
use Rattle.std.proofs.Common.{◌≡◌, inl, inr, ℕ, ◌+◌, ◌^◌, ◌<◌, ◌≤◌, List, [], ◌∷◌, ◌++◌, length}
use Rattle.std.proofs.Common.{slice_get, slice_index_or, None, Some, Ok, refl, sym, subst, ap}
use Rattle.std.proofs.Common.{◌∙◌, append_assoc, arith}
use Rattle.std.specs.Prelude.{◌≤ℤ◌, pos}
use Rattle.std.specs.List.{AllByRecursion}
use Rattle.std.proofs.lemmas.Option.{get_or_from_slice_get}
use Rattle.byte_formats.specs.Forms.{FitsBoth}
use Rattle.byte_formats.specs.Offsets.{IsBytes, at}
use Rattle.byte_formats.specs.Types.{HashFunction, Text}
use Rattle.byte_formats.proofs.Steps.{bind_ok, ok_is}
use Rattle.disk_core.specs.declared.disk.Disk.{Ghosts as Disks}
use Rattle.journal_core.specs.Format.{Represents}
use Rattle.journal_core.proofs.Folds.{state_more}
use Rattle.tree_core.specs.declared.spans.Span.{Span}
use Rattle.mtc_io.specs.declared.sink.Sink.{Ghosts as Sinks}
use Rattle.mtc_room.specs.declared.room.Room.{Ghosts as Rooms}
use Rattle.file_events.specs.Events.{MayRecover}
use Rattle.file_events.specs.Executions.{IsPrefix}
use Rattle.file_events.specs.Worlds.{Program, states_of}
use Rattle.cert_fields.specs.Encoding.{certificate}
use Rattle.mtc_proof.specs.Proofs.{AreSignatures, ProofParts, proof_text}
use Rattle.mtc_proof.specs.Reading.{checked_signatures}
use Rattle.mtc_proof.specs.declared.fault.ProofError.{ProofError}
use Rattle.mtc_proof.proofs.Forms.{checked_only}
use Rattle.policy_core.specs.Acceptance.{accepted_by}
use Rattle.policy_core.specs.Judgement.{accepted, judgement}
use Rattle.policy_core.specs.Stores.{IsValid}
use Rattle.policy_core.specs.declared.answer.Accepted.{Accepted}
use Rattle.policy_core.specs.declared.store.Store.{Store}
use Rattle.log_entry.specs.Entries.{TbsParts}
use Rattle.log_entry.specs.Forms.{form_at, form_of}
use Rattle.log_entry.specs.Reading.{entry_in}
use Rattle.log_entry.specs.declared.entry.Form.{Form}
use Rattle.log_entry.proofs.Matches.{form_alone}
use Rattle.issuance_log.specs.Folds.{LogState, log_fold, log_form, log_of, view_in}
use Rattle.issuance_log.specs.Records.{IsShort, added_items}
use Rattle.issuance_log.specs.Settings.{Settings}
use Rattle.issuance_log.proofs.After.{following_items}
use Rattle.issuance_log.proofs.Encoded.{added_short}
use Rattle.issuance_log.proofs.Steps.{items_of_entry}
use Rattle.authority_core.specs.Acceptance.{IsSetUpFor}
use Rattle.authority_core.specs.Certificates.{HoldsEntry, cert_refusal, covering_in, light_refusal}
use Rattle.authority_core.specs.Certificates.{parts_with, proof_for}
use Rattle.authority_core.specs.Issues.{issued_entry}
use Rattle.authority_core.specs.Issuing.{entry_for, tbs_for}
use Rattle.authority_core.specs.Requests.{CanBeIssued, RequestParts}
use Rattle.authority_core.proofs.Issued.{all_known}
use Rattle.party_history.specs.declared.start.PartyStart.{PartyStart}
use Rattle.party_history.proofs.Items.{each_added}
use Rattle.mtc_words.specs.Commands.{cert, issue, issue_list, light_cert}
use Rattle.mtc_words.specs.Words.{command_of}
use Rattle.mtc_authority.specs.CertOutcome.{certificate_in, certificate_with, signatures_in}
use Rattle.mtc_command.proofs.Made.{OnlyNow, ReadsCrashState}
use Rattle.mtc_laws.specs.AuditLaws.{HoldsText}
use Rattle.mtc_top.specs.Executions.{FileEvent, IsBegun, Run, program}
use Rattle.mtc_laws.specs.PrintLaws.{OfHeard}
use Rattle.mtc_laws.proofs.Aliases.{EachOwnRun, IsHeard, IsOwnExecution, IsRun}
use Rattle.mtc_laws.proofs.Audits.{printed_text}
use Rattle.mtc_laws.proofs.HeardRuns.{contents_crash_state, heard_held, modelled_file}
use Rattle.mtc_laws.proofs.Listed.{item_of, lists_printed}
use Rattle.mtc_laws.proofs.Printed.{indices_printed, MirrorsAreSound}
use Rattle.mtc_laws.proofs.Recovered.{each_held, held_prefix, modelled_then}
use Rattle.mtc_laws.proofs.HeardBytes.{done_heard}
use Rattle.mtc_laws.specs.AcceptanceLaws.{AsksForCertificate, Backs}
use Rattle.mtc_laws.specs.Cosigners.{HasWritten}
use Rattle.mtc_laws.specs.AcceptanceLaws.{IssuedCertificatesAreAccepted, WritesCertificate}
use Rattle.mtc_laws.specs.AcceptanceLaws.{certified_hash}
use Rattle.mtc_laws.specs.PemLaws.{IsAcceptedAlone, IsAcceptedAmong, IsAcceptedAt, LogCertificate}
use Rattle.mtc_laws.specs.PemLaws.{ListedEntriesAreAccepted, written_certificate}
use Rattle.mtc_laws.proofs.Certified.{cert_certifies, light_cert_certifies}
use Rattle.mtc_laws.proofs.Covering.{holds_entry}
use Rattle.mtc_laws.proofs.Issuable.{can_be_issued}
use Rattle.mtc_laws.proofs.PrintedSignatures.{printed_satisfy}
use Rattle.mtc_laws.proofs.RecordBytes.{AreBytes, added_are_bytes, at_is, one_is}
use Rattle.mtc_laws.proofs.RecordBytes.{records_are_bytes}
use Rattle.mtc_laws.proofs.Requested.{are_requests}
use Rattle.mtc_laws.proofs.SoundLogs.{FirstsKeepToRules, IsSoundLog, sound_log}
use Rattle.mtc_laws.proofs.Unrefused.{cert_unrefused, light_unrefused}
use Rattle.mtc_laws.proofs.ValidStores.{store_valid}
use Rattle.mtc_laws.proofs.Verified.{accepted_printed}
use Rattle.mtc_laws.proofs.Writing.{issued_accepted, issued_read}
use Rattle.mtc_laws.proofs.Aliases.{ModelsFiles}

-- ---- an item that was added

-- With so many items before it in its record it is at its index in a log whose records begin with
-- its own and those before it. The log has the settings of that one, and entry and key are short.
record IsItemAt (h : HashFunction) (form : Form) (s t : LogState) (i : ℕ) (r : RequestParts)
    : Type 0 where
  entry_is : slice_index_or t.entries (length s.entries + i) [] ≡ entry_for h form t.settings.id r
  key_is : slice_index_or t.keys (length s.entries + i) [] ≡ r.key
  key_bytes : IsBytes r.key
  few : length (entry_for h form t.settings.id r) + length r.key ≤ 131070

added_at : (h : HashFunction) (form : Form) (list found : List Text) (body : Text)
    (s t : LogState) (i : ℕ) (r : RequestParts) → log_of h list ≡ Ok s → log_of h found ≡ Ok t
    → (prefix : IsPrefix (list ++ body ∷ []) found) → AllByRecursion IsBytes found
    → slice_get (added_items body) i ≡ Some (entry_for h form s.settings.id r, r.key)
    → IsItemAt h form s t i r
added_at h form list found body s t i r was is prefix bytes item =
    let joined : list ++ body ∷ prefix.0 ≡ found =
    sym (append_assoc list (body ∷ []) prefix.0) ∙ prefix.1 in
    let body_is : IsBytes body = one_is IsBytes list body prefix.0
    (subst (AllByRecursion IsBytes) (sym joined) bytes) in
    let whole : log_of h (list ++ body ∷ prefix.0) ≡ Ok t = ap (log_of h) joined ∙ is in
    let has = following_items h (length list) s t (body ∷ prefix.0)
    (sym (state_more (log_fold h) list (body ∷ prefix.0) s was) ∙ whole) in
    let entry = entry_for h form s.settings.id r in
    let there = each_added h list body prefix.0 i entry r.key s t was item
    (ap (log_of h) prefix.1 ∙ is) in
    let settings : entry ≡ entry_for h form t.settings.id r =
    ap (λ (x : Settings). entry_for h form x.id r) (sym has.settings) in
    let short = at_is (FitsBoth IsShort IsShort) (added_items body) i (entry, r.key)
    (added_short body body_is) item in
    let are = at_is AreBytes (added_items body) i (entry, r.key) (added_are_bytes body body_is) item
    in
    record {
      entry_is = get_or_from_slice_get t.entries (length s.entries + i) entry [] there.entry_is
          ∙ settings;
      key_is = get_or_from_slice_get t.keys (length s.entries + i) r.key [] there.key_is;
      key_bytes = are.1;
      few = omega (arith, short.0, short.1, ap length settings);
    }

module _ {R S D O E : Type 0} (h : HashFunction) (rooms : Rooms R S D) (disks : Disks D)
    (outs : Sinks O) (errs : Sinks E) (crash_state : ReadsCrashState disks) (only : OnlyNow disks)
    (contents : ModelsFiles rooms disks)
    (bytes : (d : D) (b : List ℕ) → disks.contents d ≡ Some b → IsBytes b)
    (sized : (b : Text) → length (h b) ≡ 32) (firsts : FirstsKeepToRules)
    (mirrors : MirrorsAreSound h) where
  abbrev p : Program
  p = program h rooms disks outs errs

  -- ---- what a run has certified

  -- a certificate of the log of a journal, and what is known of both
  pub record IsOfLog (name : Text) (room : R) (c : LogCertificate) : Type 0 where
    pub list : List Text
    pub recovers : MayRecover (states_of p name room) list
    pub log_is : log_of h list ≡ Ok c.state
    pub records_are : AllByRecursion IsBytes list
    pub sound : IsSoundLog h c.state
    pub some : 1 ≤ c.index
    pub holds : HoldsEntry (length c.state.entries) c.index c.span
    pub short : length c.signatures < 2 ^ 16

  -- its bytes
  abbrev pub bytes_of : LogCertificate → Text
  bytes_of c = certificate_in h c.index c.span.start c.span.end c.signatures c.state

  -- that of a run of `cert` or `light-cert`
  record IsCertified (name : Text) (index : ℕ) (old : R) (run : Run R O E) : Type 0 where
    writes : WritesCertificate h p name index old run
    of_log : IsOfLog name old (written_certificate h p writes)

  module _ (name : Text) (old : R) (is_modelled : rooms.is_modelled old) where
    -- records that a file has may be recovered
    pub recovers_of : (held : Text) (list : List Text) → rooms.file old name ≡ Some held
        → Represents held list → MayRecover (states_of p name old) list
    recovers_of held list there stands = (
      held,
      (
        contents_crash_state disks (rooms.device old name) held crash_state
            (modelled_file disks (rooms.file old name) (rooms.device old name)
            (contents.0 old name is_modelled) ∙ there),
        stands,
      ),
    )

    -- the bytes of a file are signatures as they stand
    pub signatures_are : (text signatures : Text) → IsBytes text
        → signatures_in text ≡ Ok signatures → (text ≡ signatures) × AreSignatures signatures
    signatures_are text signatures text_is asked =
        let read = bind_ok (checked_signatures (at text 0)) (λ (done : Unit {0}). Ok text)
        signatures asked in
        let same : text ≡ signatures = ok_is ProofError text signatures read.2 in (
          same,
          subst AreSignatures same (checked_only (at text 0) read.0 text_is read.1),
        )

    -- a certificate that nothing refuses
    pub unrefused_of_log : (held : Text) (list : List Text) (state : LogState)
        (index start end : ℕ) (signatures : Text) (are : AreSignatures signatures)
        → rooms.file old name ≡ Some held → IsBytes held → Represents held list
        → log_of h list ≡ Ok state
        → cert_refusal (view_in state) index start end signatures ≡ None
        → IsOfLog name old (record {
          state = state;
          index = index;
          span = record { start = start; end = end };
          signatures = signatures;
          are = are;
        })
    unrefused_of_log held list state index start end signatures are there held_are stands log_is
        allowed =
        let free = cert_unrefused (view_in state) index start end signatures allowed in
        let records = records_are_bytes held 16 list held_are stands.holds in
        record {
          list = list;
          recovers = recovers_of held list there stands;
          log_is = log_is;
          records_are = records;
          sound = sound_log h firsts list state records log_is;
          some = free.some;
          holds = free.holds;
          short = omega (arith, free.short);
        }

    pub light_of_log : (held : Text) (list : List Text) (state : LogState) (index : ℕ)
        (span : Span) (are : AreSignatures []) → rooms.file old name ≡ Some held → IsBytes held
        → Represents held list → log_of h list ≡ Ok state
        → covering_in (view_in state) index ≡ Some span
        → light_refusal (view_in state) index ≡ None
        → IsOfLog name old
        (record { state = state; index = index; span = span; signatures = []; are = are })
    light_of_log held list state index span are there held_are stands log_is covering allowed =
        let records = records_are_bytes held 16 list held_are stands.holds in
        let sound = sound_log h firsts list state records log_is in
        record {
          list = list;
          recovers = recovers_of held list there stands;
          log_is = log_is;
          records_are = records;
          sound = sound;
          some = light_unrefused (view_in state) index allowed;
          holds = holds_entry (view_in state) index span sound.is.numbers covering;
          short = omega arith;
        }

  -- no signatures
  pub no_signatures : AreSignatures []
  no_signatures = record { list = []; each = tt; encoded = refl }

  module _ (name : Text) (index : ℕ) (old : R) (run : Run R O E)
      (is_modelled : rooms.is_modelled old) (is_run : IsRun h rooms disks outs errs old run)
      (heard : IsHeard outs run) where
    by_cert : (start end : ℕ) (file : Text)
        → command_of run.words ≡ Ok (cert name index start end file)
        → IsCertified name index old run
    by_cert start end file spoken =
        let x = cert_certifies h rooms disks outs errs contents bytes name index start end file old
        run is_modelled is_run spoken heard in
        let signed = signatures_are name old is_modelled x.text x.signatures x.text_is x.asked in
        let c = x.certifies in
        record {
          writes = record {
            span = record { start = start; end = end };
            signatures = x.signatures;
            are = signed.1;
            prints = c.prints;
            by = inl (
              file,
              (spoken, subst (HoldsText (rooms.file old) file 16777216) signed.0 x.has_text),
            );
          };
          of_log = unrefused_of_log name old is_modelled c.held c.prints.list c.prints.state index
              start end x.signatures signed.1 c.there c.are c.stands c.prints.log_is x.allowed;
        }

    by_light_cert : command_of run.words ≡ Ok (light_cert name index)
        → IsCertified name index old run
    by_light_cert spoken =
        let x = light_cert_certifies h rooms disks outs errs contents bytes name index old run
        is_modelled is_run spoken heard in
        let c = x.certifies in
        record {
          writes = record {
            span = x.span;
            signatures = [];
            are = no_signatures;
            prints = c.prints;
            by = inr (spoken, (refl, x.covering));
          };
          of_log = light_of_log name old is_modelled c.held c.prints.list c.prints.state index
              x.span no_signatures c.there c.are c.stands c.prints.log_is x.covering x.allowed;
        }

    certified : AsksForCertificate h p name index run → IsCertified name index old run
    certified (inl words) = by_cert words.0 words.1.0 words.1.1.0 words.1.1.1
    certified (inr spoken) = by_light_cert spoken

  -- ---- what a store accepts

  module _ (name : Text) (room : R) (c : LogCertificate) (k : IsOfLog name room c) (form : Form)
      (r : RequestParts) (asked : CanBeIssued r)
      (entry_is : slice_index_or c.state.entries c.index []
      ≡ entry_for h form c.state.settings.id r)
      (key_is : slice_index_or c.state.keys c.index [] ≡ r.key)
      (few : length (entry_for h form c.state.settings.id r) + length r.key ≤ 131070)
    where
      abbrev s : LogState
      s = c.state

      abbrev proof : ProofParts
      proof = proof_for h s c.index c.span.start c.span.end c.signatures

      abbrev fields : TbsParts
      fields = tbs_for h form s.settings.id r

      abbrev text : Text
      text = certificate (parts_with c.index fields (slice_index_or s.keys c.index [])
          (proof_text proof))

      read : entry_in (slice_index_or s.entries c.index []) ≡ Ok (Some fields)
      read = issued_read h sized s k.sound c.index c.span.start c.span.end c.signatures k.holds.from
          k.holds.below k.holds.within c.are k.short form r asked entry_is key_is few k.some

      text_is : bytes_of c ≡ text
      text_is =
          ap (certificate_with c.index (slice_index_or s.keys c.index []) (proof_text proof)) read

      -- the form of its entry is that of its index
      form_is : form_of fields ≡ form_at s.switched c.index
      form_is =
          let below : c.index < length s.entries = omega (arith, k.holds.below, k.holds.within) in
          (form_alone (form_at s.switched c.index) (slice_index_or s.entries c.index []) fields
          read).0 (k.sound.is.items c.index k.some below).form_is

      abbrev IsBacked : Store → Type 0
      IsBacked = Backs h p s c.index c.span c.signatures c.are

      set_up : (store : Store) → IsValid store → IsBacked store → IsSetUpFor s.settings.id c.index
          (form_of fields) proof (certified_hash h p s c.span) store
      set_up store valid backs = record {
        valid = valid;
        log = backs.log;
        form = backs.form ∙ sym form_is;
        not_revoked = backs.not_revoked;
        no_other = backs.no_other;
        enough = elim backs.enough [
          | inl trusts ↦ inl trusts
          | inr met ↦ inr (elim met [
            | inl satisfied ↦ satisfied
            | inr cosigned ↦ printed_satisfy h rooms disks outs errs crash_state only contents bytes
                store c.span.start c.span.end (certified_hash h p s c.span) c.are.list proof refl
                refl c.are.each c.are.encoded sized mirrors cosigned
          ])
        ];
      }

      abbrev answer : Store → Accepted
      answer store = accepted (accepted_by store proof (certified_hash h p s c.span)) c.index proof
          (certified_hash h p s c.span)

      judged : (store : Store) (unix_time : ℕ) → IsValid store → IsBacked store
          → r.validity.not_before ≤ℤ pos unix_time → pos unix_time ≤ℤ r.validity.not_after
          → judgement h text store (pos unix_time) ≡ Ok (answer store)
      judged store unix_time valid backs from to =
          issued_accepted h sized s k.sound c.index c.span.start c.span.end c.signatures
          k.holds.from k.holds.below k.holds.within c.are k.short form r asked entry_is key_is few
          k.some k.holds.valid
          (record { fields = fields; read = read; issuer = refl; known = all_known r asked })
          store (pos unix_time) (set_up store valid backs) from to

      pub accepted_at : (written : Text) → written ≡ bytes_of c → IsAcceptedAt h p c written r
      accepted_at written same store unix_time at_room verifying v backs from to =
          accepted_printed h rooms disks outs errs written store unix_time (answer store) at_room
          verifying v (ap (λ (b : Text). judgement h b store (pos unix_time)) (same ∙ text_is)
          ∙ judged store unix_time (store_valid v.text store v.store_read) backs from to)

  -- ---- the law

  module _ (name : Text) (start : PartyStart) (first : Text) (begins new : R)
      (events : List (FileEvent R O E)) (begun : IsBegun h p name start first begins events)
      (execution : IsOwnExecution h rooms disks outs errs name begins events new)
      (c : LogCertificate) (k : IsOfLog name new c) (written : Text) (same : written ≡ bytes_of c)
    where
      -- of a record that a run of the execution added, the item of a request
      accepted_item : (list : List Text) (body : Text) (state : LogState) (i : ℕ)
          (r : RequestParts) → log_of h list ≡ Ok state → IsPrefix (list ++ body ∷ []) k.list
          → slice_get (added_items body) i ≡ Some (issued_entry h (view_in state) r, r.key)
          → (IsBytes r.key → CanBeIssued r) → length state.entries + i ≡ c.index
          → IsAcceptedAt h p c written r
      accepted_item list body state i r log_is prefix item can index_is =
          let form = log_form (view_in state) in
          let at_index = added_at h form list k.list body state c.state i r log_is k.log_is prefix
          k.records_are item in
          accepted_at name new c k form r (can at_index.key_bytes)
          (subst (λ (n : ℕ). slice_index_or c.state.entries n []
          ≡ entry_for h form c.state.settings.id r) index_is at_index.entry_is)
          (subst (λ (n : ℕ). slice_index_or c.state.keys n [] ≡ r.key) index_is at_index.key_is)
          at_index.few written same

      pub accepted_alone : (file : Text) → EachOwnRun h rooms disks outs errs
          (OfHeard h p (issue name file) (IsAcceptedAlone h p c written name file)) begins events
      accepted_alone file = each_held h rooms disks outs errs crash_state only contents bytes name
          start first begins new events begun execution (λ list. IsPrefix list k.list)
          (OfHeard h p (issue name file) (IsAcceptedAlone h p c written name file))
          (λ list held. held_prefix h rooms disks outs errs crash_state only contents bytes name
          start first begins new events begun execution list k.list held k.recovers)
          (λ before earlier modelled has_run prefixes spoken heard.
          let i = indices_printed h rooms disks outs errs contents bytes name file before earlier
          modelled has_run spoken heard in
          let prefix = prefixes (i.list ++ i.body ∷ []) (heard_held h rooms disks outs errs before
          earlier has_run heard name i.list i.body i.did) in
          let item = ap (λ (l : List (Text × Text)). slice_get l 0)
          (items_of_entry i.body (issued_entry h (view_in i.state) i.request, i.request.key) i.item)
          in (
            i,
            λ index_is. accepted_item i.list i.body i.state 0 i.request i.log_is prefix item
                (can_be_issued i.text i.request i.asked) (omega (arith, index_is)),
          ))

      pub accepted_among : (file : Text) → EachOwnRun h rooms disks outs errs
          (OfHeard h p (issue_list name file) (IsAcceptedAmong h p c written name file)) begins
          events
      accepted_among file = each_held h rooms disks outs errs crash_state only contents bytes name
          start first begins new events begun execution (λ list. IsPrefix list k.list)
          (OfHeard h p (issue_list name file) (IsAcceptedAmong h p c written name file))
          (λ list held. held_prefix h rooms disks outs errs crash_state only contents bytes name
          start first begins new events begun execution list k.list held k.recovers)
          (λ before earlier modelled has_run prefixes spoken heard.
          let i = lists_printed h rooms disks outs errs contents bytes name file before earlier
          modelled has_run spoken heard in
          let prefix = prefixes (i.list ++ i.body ∷ []) (heard_held h rooms disks outs errs before
          earlier has_run heard name i.list i.body i.did) in
          let are = are_requests i.text i.requests i.asked in (
            i,
            λ n request there index_is. accepted_item i.list i.body i.state n request i.log_is
                prefix (item_of h (view_in i.state) i.requests (added_items i.body) n request
                i.items there) (are.can_be n request there) index_is,
          ))

  -- what a run of `cert` or `light-cert` printed
  record HasCertifiedAt (name : Text) (index : ℕ) (new : R) (run : Run R O E) (written : Text)
      : Type 0 where
    is : IsCertified name index new run
    same : written ≡ bytes_of (written_certificate h p is.writes)

  certified_at : (name : Text) (index : ℕ) (new : R) (run : Run R O E) (written : Text)
      → rooms.is_modelled new → p.HasRun new run → AsksForCertificate h p name index run
      → HasWritten h p run written → HasCertifiedAt name index new run written
  certified_at name index new run written is_modelled is_run asks wrote =
      let is = certified name index new run is_modelled is_run
      (done_heard run.status (outs.taken run.out) (outs.taken run.out_after) wrote.done) asks in
      record {
        is = is;
        same = printed_text (outs.taken run.out) (outs.taken run.out_after) wrote.before written
            (bytes_of (written_certificate h p is.writes)) wrote.contents wrote.printed
            (is.writes.prints.printed.whole wrote.done);
      }

  pub issued_certificates_accepted : IssuedCertificatesAreAccepted h p
  issued_certificates_accepted name start first begins new events begun execution index run written
      is_run asks wrote =
      let is_modelled = modelled_then h rooms disks outs errs crash_state only contents bytes name
      start first begins new events begun execution in
      let c = certified_at name index new run written is_modelled is_run asks wrote in (
        c.is.writes,
        accepted_alone name start first begins new events begun execution
            (written_certificate h p c.is.writes) c.is.of_log written c.same,
      )

  pub listed_entries_accepted : ListedEntriesAreAccepted h p
  listed_entries_accepted name start first begins new events begun execution index run written
      is_run asks wrote =
      let is_modelled = modelled_then h rooms disks outs errs crash_state only contents bytes name
      start first begins new events begun execution in
      let c = certified_at name index new run written is_modelled is_run asks wrote in (
        c.is.writes,
        accepted_among name start first begins new events begun execution
            (written_certificate h p c.is.writes) c.is.of_log written c.same,
      )
