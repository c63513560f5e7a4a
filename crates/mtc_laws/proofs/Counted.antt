-- What `cosign` printed counts for each store that has the cosigner's id and key.
use Rattle.std.proofs.Common.{◌≡◌, ℕ, ◌^◌, ◌<◌, true, List, []}
use Rattle.std.proofs.Common.{◌∷◌, ◌++◌, length, None, Some, Ok, sym, subst, ap}
use Rattle.std.proofs.Common.{◌∙◌, arith}
use Rattle.std.specs.Int.{w32, to_be_bytes}
use Rattle.std.specs.Prelude.{Option, slice_get, ◌/◌, ◌%◌}
use Rattle.std.specs.List.{AllByRecursion, Contains, flat_map}
use Rattle.std.proofs.lemmas.List.{length-append, length-take-le}
use Rattle.byte_formats.specs.Offsets.{IsBytes}
use Rattle.byte_formats.specs.Types.{HashFunction}
use Rattle.tls_wire.specs.Arcs.{IsAnchorId}
use Rattle.lms_core.specs.Heights.{height}
use Rattle.lms_core.specs.Trees.{lms_public, lms_signature}
use Rattle.lms_core.specs.declared.heights.LmsType.{LmsType}
use Rattle.lms_core.specs.declared.private_key.PrivateKey.{PrivateKey}
use Rattle.lms_core.proofs.Verifies.{length-lms_public, length-lms_signature}
use Rattle.hss_core.specs.Hss.{Verifies, one_level_signature}
use Rattle.hss_keys.specs.Keys.{SigningKey, lower_key, lower_secret, public_of, signature_with}
use Rattle.hss_keys.specs.Keys.{signing_key, two_level_signature}
use Rattle.hss_keys.proofs.Newest.{length-lower_secret, signed_verifies}
use Rattle.disk_core.specs.declared.disk.Disk.{Ghosts as Disks}
use Rattle.journal_core.specs.Folds.{state_after}
use Rattle.journal_core.specs.Format.{AreRecordsAt}
use Rattle.journal_core.proofs.Copies.{first_are_bytes}
use Rattle.file_events.specs.Executions.{IsPrefix}
use Rattle.file_events.proofs.Stays.{first_held}
use Rattle.mtc_io.specs.declared.sink.Sink.{Ghosts as Sinks}
use Rattle.mtc_room.specs.declared.room.Room.{Ghosts as Rooms}
use Rattle.mtc_proof.specs.Inputs.{signed_text}
use Rattle.mtc_proof.specs.Proofs.{IsMtcSignature, ProofParts, SigParts, signature_text}
use Rattle.policy_core.specs.Counting.{counted, is_in_set, is_named}
use Rattle.policy_core.specs.declared.cosigners.Known.{Known}
use Rattle.policy_core.specs.declared.store.Store.{Store}
use Rattle.policy_core.proofs.Sets.{signed_counts}
use Rattle.cosigner_core.specs.Folds.{CosignerState}
use Rattle.cosigner_core.specs.Folds.{cosigner_of, key_count}
use Rattle.cosigner_core.specs.Records.{cosigner_in}
use Rattle.cosigner_core.specs.Requests.{SubtreeParts}
use Rattle.cosigner_core.specs.Signatures.{signature_by}
use Rattle.cosigner_core.specs.declared.settings.CosignerSettings.{CosignerSettings}
use Rattle.cosigner_core.proofs.FirstRecords.{cosigner_takes}
use Rattle.cosigner_core.proofs.Lengths.{signature_short}
use Rattle.cosigner_core.proofs.Names.{Began, began_first}
use Rattle.cosigner_core.proofs.After.{no_cosigner}
use Rattle.cosigner_core.proofs.Counts.{counts_up}
use Rattle.party_history.specs.Rules.{StartsWith}
use Rattle.party_history.specs.declared.start.PartyStart.{PartyStart}
use Rattle.party_history.specs.declared.start.PartyStart.TheVariants.{Cosigner}
use Rattle.party_history.proofs.Cosigners.{of_first}
use Rattle.mtc_command.proofs.Made.{OnlyNow, ReadsCrashState}
use Rattle.mtc_top.specs.Executions.{program, FileEvent, IsBegun, Run, WasHeld}
use Rattle.mtc_laws.specs.PrintLaws.{OfHeard}
use Rattle.mtc_laws.proofs.HeardRuns.{file_bytes, heard_held}
use Rattle.mtc_laws.proofs.Leaves.{first_own, serves}
use Rattle.mtc_laws.proofs.Printed.{CosignsOver, MirrorsAreSound, signing_printed}
use Rattle.mtc_laws.proofs.Recovered.{crash_state_list, each_held, held_prefix, modelled_then}
use Rattle.mtc_laws.proofs.Aliases.{ModelsFiles, HasHeld, IsHeard, IsOwnExecution, IsRun}
use Rattle.mtc_laws.specs.CountLaws.{PrintedSignaturesCount, signature_of, CountsInStores}
use Rattle.file_events.specs.Worlds.{Program}

-- ---- a cosigner keeps its key

key_of_first : (h : HashFunction) (settings : CosignerSettings) (first secret : List ℕ)
    (bodies : List (List ℕ)) (s : CosignerState) → cosigner_in first ≡ Some (settings, secret)
    → cosigner_of h (first ∷ bodies) ≡ Ok s
    → s.key.key ≡ signing_key settings.lms settings.low settings.ots secret
key_of_first h settings first secret bodies s begins is =
    ap (λ (x : Began). x.2) (began_first h settings first secret bodies s begins is)

-- ---- how long its signatures are

signature_length : (top : PrivateKey) (low : Option LmsType) (q : ℕ) (text : List ℕ)
    → length (signature_with top low q text) < 2 ^ 16
unfolding one_level_signature two_level_signature
signature_length top None q text =
    omega (
      arith,
      length-append (to_be_bytes w32 0) (lms_signature top q text),
      length-lms_signature top q text,
      signature_short top.lms top.ots,
    )
signature_length top (Some low) q text =
    let c = q / 2 ^ height low in
    let lower = lower_key top low c in
    let number = to_be_bytes w32 1 in
    let public = lms_public lower in
    let upper = lms_signature top c public in
    let signed = lms_signature lower (q % 2 ^ height low) text in
    let long = length-lower_secret top.id c top.seed in
    let id = length-take-le 16 (lower_secret top.id c top.seed) (omega (arith, long)) in
    omega (
      arith,
      length-append (number ++ upper ++ public) signed,
      length-append (number ++ upper) public,
      length-append number upper,
      length-lms_signature top c public,
      length-lms_public lower id,
      length-lms_signature lower (q % 2 ^ height low) text,
      signature_short top.lms top.ots,
      signature_short low top.ots,
    )

-- ---- what it signs counts

signature_is : (h : HashFunction) (settings : CosignerSettings) (public first : List ℕ)
    (bodies : List (List ℕ)) (s : CosignerState) (r : SubtreeParts)
    → StartsWith (Cosigner settings public) first → IsBytes first
    → cosigner_of h (first ∷ bodies) ≡ Ok s → IsMtcSignature (signature_of s r)
signature_is h settings public first bodies s r starts bytes made =
    let takes = (cosigner_takes first settings starts.0 bytes starts.1.0).1 in
    let own = of_first h settings public first bodies s starts made in
    let id : IsAnchorId s.id = subst IsAnchorId (sym own.0) takes.id in
    let text = signed_text s.id s.log r.start r.end r.hash in
    record {
      some = id.some;
      cosigner = omega (arith, id.short);
      signature = signature_length s.key.key.top s.key.key.low s.key.next text;
    }

counts_so : (h : HashFunction) (settings : CosignerSettings) (public first : List ℕ)
    (bodies : List (List ℕ)) (s : CosignerState) (r : SubtreeParts)
    → StartsWith (Cosigner settings public) first → IsBytes first
    → cosigner_of h (first ∷ bodies) ≡ Ok s → s.key.next < key_count s
    → (store : Store) (index : ℕ) (known : Known) (proof : ProofParts) (list : List SigParts)
    → slice_get store.cosigners index ≡ Some known → known.id ≡ settings.id
    → known.key ≡ public → is_named store.rules index ≡ true → store.log ≡ settings.log
    → proof.start ≡ r.start → proof.end ≡ r.end → AllByRecursion IsMtcSignature list
    → proof.signatures ≡ flat_map signature_text list → Contains list (signature_of s r)
    → is_in_set (counted store proof r.hash) index ≡ true
counts_so h settings public first bodies s r starts bytes made few store index known proof list
    there id key named log start end each encoded among =
    let secret = starts.0 in
    let takes = (cosigner_takes first settings secret bytes starts.1.0).1 in
    let own = of_first h settings public first bodies s starts made in
    let kept = key_of_first h settings first secret bodies s starts.1.0 made in
    let long : length s.key.key.top.id ≡ 16 = ap (λ (x : SigningKey). length x.top.id) kept
    ∙ length-take-le 16 secret (omega (arith, takes.sized)) in
    let counts = (counts_up h (first ∷ bodies) s made).1 in
    let text = signed_text s.id s.log r.start r.end r.hash in
    let signature = signature_by s r.start r.end r.hash in
    let by_key : Verifies (public_of s.key.key) text signature =
    signed_verifies s.key text long counts.few few in
    let id_is : s.id ≡ known.id = own.0 ∙ sym id in
    let text_is : text ≡ signed_text known.id store.log proof.start proof.end r.hash =
    ap (λ (i : List ℕ). signed_text i s.log r.start r.end r.hash) id_is
    ∙ ap (λ (l : List ℕ). signed_text known.id l r.start r.end r.hash) (own.1 ∙ sym log)
    ∙ ap (λ (n : ℕ). signed_text known.id store.log n r.end r.hash) (sym start)
    ∙ ap (λ (n : ℕ). signed_text known.id store.log proof.start n r.hash) (sym end) in
    signed_counts store proof r.hash index known list signature there named each encoded
    (subst (λ (i : List ℕ). Contains list (record { cosigner = i; signature = signature })) id_is
    among)
    (subst (λ (m : List ℕ). Verifies known.key m signature) text_is
    (subst (λ (k : List ℕ). Verifies k text signature) (own.2 ∙ sym key) by_key))

-- ---- the first record

first_or : List (List ℕ) → List ℕ
first_or [] = []
first_or (x ∷ xs) = x

-- what has a state begins with the record with which the records begin that it is a prefix of
begins_so : (h : HashFunction) (list : List (List ℕ)) (body first : List ℕ)
    (rest others more found : List (List ℕ)) (s : CosignerState) → cosigner_of h list ≡ Ok s
    → (list ++ body ∷ []) ++ rest ≡ found → (first ∷ others) ++ more ≡ found
    → (bodies : List (List ℕ)) × (list ≡ first ∷ bodies)
unfolding state_after first_or
begins_so h [] body first rest others more found s is one two = absurd (no_cosigner 0 s is)
begins_so h (x ∷ xs) body first rest others more found s is one two =
    (xs, ap (λ (y : List ℕ). y ∷ xs) (ap first_or (one ∙ sym two)))

-- ---- the runs

module _ {R S D O E : Type 0} (h : HashFunction) (rooms : Rooms R S D) (disks : Disks D)
    (outs : Sinks O) (errs : Sinks E) (crash_state : ReadsCrashState disks) (only : OnlyNow disks)
    (contents : ModelsFiles rooms disks)
    (bytes : (d : D) (b : List ℕ) → disks.contents d ≡ Some b → IsBytes b) where
  module _ (name : List ℕ) (start : PartyStart) (first : List ℕ) (begins new : R)
      (events : List (FileEvent R O E))
      (begun : IsBegun h (program h rooms disks outs errs) name start first begins events)
      (execution : IsOwnExecution h rooms disks outs errs name begins events new)
      (settings : CosignerSettings) (public : List ℕ) (is : start ≡ Cosigner settings public) where
    abbrev Its' : Program
    Its' = program h rooms disks outs errs

    starts : StartsWith (Cosigner settings public) first
    starts = subst (λ (n : PartyStart). StartsWith n first) is begun.starts

    -- what a crash leaves in the end begins with all that was held
    recovered : (found : List (List ℕ)) × (((list : List (List ℕ))
        → WasHeld h Its' name begins events list → IsPrefix list found)
        × IsPrefix (first ∷ begun.others) found)
    recovered =
        let own = first_own h rooms disks outs errs crash_state only contents bytes name
        (first ∷ begun.others) begins events begun.held in
        let one = (serves h rooms disks outs errs crash_state only contents bytes name
        own).rooms.some new name
        (modelled_then h rooms disks outs errs crash_state only contents bytes name start first
        begins new events begun execution) in
        let stands = crash_state_list h rooms disks outs errs crash_state only contents bytes name
        start first begins new events begun execution one.0 one.1 in
        let within = λ (list : List (List ℕ)) (held : WasHeld h Its' name begins events list).
        held_prefix h rooms disks outs errs crash_state only contents bytes name start first begins
        new events begun execution list stands.0 held (one.0, (one.1, stands.1)) in (
          stands.0,
          (
            within,
            within (first ∷ begun.others) (first_held (first ∷ begun.others) _ begun.held),
          ),
        )

    -- a signature of a run that went out counts
    counts_in : (old : R) (run : Run R O E) → rooms.is_modelled old
        → IsRun h rooms disks outs errs old run → IsHeard outs run
        → ((list : List (List ℕ)) → HasHeld h rooms disks outs errs name old run list
        → IsPrefix list recovered.0) → CosignsOver h rooms disks outs errs name old run
        → CountsInStores h Its' settings public name old run
    counts_in old run is_modelled is_run heard prefixes over =
        let signed = over.signed in
        let list = signed.list in
        let state = signed.state in
        let r = signed.request in
        let prefix = prefixes (list ++ signed.body ∷ [])
        (heard_held h rooms disks outs errs old run is_run heard name list signed.body signed.did)
        in
        let begins_with = begins_so h list signed.body first prefix.0 begun.others
        recovered.1.1.0 recovered.0 state signed.cosigner_is prefix.1 recovered.1.1.1 in
        let are = file_bytes disks (rooms.file old name) (rooms.device old name) over.held bytes
        (contents.0 old name is_modelled) over.there in
        let first_bytes = first_are_bytes over.held first begins_with.0 are
        (subst (λ (l : List (List ℕ)). AreRecordsAt over.held 16 l) begins_with.1 over.stands.holds)
        in
        let made = subst (λ (l : List (List ℕ)). cosigner_of h l ≡ Ok state) begins_with.1
        signed.cosigner_is in
        record {
          signed = signed;
          form = signature_is h settings public first begins_with.0 state r starts first_bytes
              made;
          counts = counts_so h settings public first begins_with.0 state r starts first_bytes made
              over.below;
        }

  pub signatures_count : ((b : List ℕ) → length (h b) ≡ 32)
      → MirrorsAreSound h → PrintedSignaturesCount h (program h rooms disks outs errs)
  signatures_count sized sound name start first begins new events begun execution settings public
      is command signs =
      let held = recovered name start first begins new events begun execution settings public is in
      each_held h rooms disks outs errs crash_state only contents bytes name start first begins new
      events begun execution (λ list. IsPrefix list held.0)
      (OfHeard h (program h rooms disks outs errs) command
      (CountsInStores h (program h rooms disks outs errs) settings public name)) held.1.0
      (λ old run is_modelled is_run prefixes spoken heard. counts_in name start first begins new
      events begun execution settings public is old run is_modelled is_run heard prefixes
      (signing_printed h rooms disks outs errs contents bytes sized sound name command signs old run
      is_modelled is_run spoken heard))
