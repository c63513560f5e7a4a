-- What cosigners printed meets the rules of a store.
use Rattle.std.proofs.Common.{◌≡◌, ℕ, ◌+◌, ◌<◌, ◌≤◌, ◌==◌, ◌||◌, Bool, true, false, List, []}
use Rattle.std.proofs.Common.{◌∷◌, ◌++◌, length, Some, refl, sym, subst, ap, ◌∙◌, arith}
use Rattle.std.proofs.Common.{cond, zero, suc, get_or, Ok, Option, Result, inl, inr, ◌⊎◌}
use Rattle.std.proofs.Math.Bool.{or-true}
use Rattle.std.proofs.lemmas.Bool.{eq-eqb}
use Rattle.std.proofs.lemmas.List.Sums.{sum_by-cons}
use Rattle.std.proofs.lemmas.Option.{same_Some}
use Rattle.std.specs.List.{AllByRecursion, Contains, count_by, flat_map, list_any}
use Rattle.byte_formats.specs.Offsets.{At, IsBytes}
use Rattle.byte_formats.specs.Types.{Hash, HashFunction, Text}
use Rattle.byte_formats.proofs.Steps.{ok_is}
use Rattle.disk_core.specs.declared.disk.Disk.{Ghosts as Disks}
use Rattle.mtc_io.specs.declared.sink.Sink.{Ghosts as Sinks}
use Rattle.mtc_room.specs.declared.room.Room.{Ghosts as Rooms}
use Rattle.file_events.specs.Events.{FirstHolds}
use Rattle.file_events.specs.Worlds.{EachRun, FileEvent, FileOwner, IsFileExecution, Program}
use Rattle.file_events.specs.Worlds.{exited, files_after, own_events}
use Rattle.mtc_proof.specs.Proofs.{IsMtcSignature, ProofParts, SigParts, signature_text}
use Rattle.mtc_proof.specs.Reading.{mtc_signature_at}
use Rattle.mtc_proof.specs.declared.fault.ProofError.{ProofError}
use Rattle.mtc_proof.proofs.Forms.{signature_form}
use Rattle.policy_core.specs.Acceptance.{IsMet, IsSatisfied}
use Rattle.policy_core.specs.Counting.{counted, is_in_set, is_named}
use Rattle.policy_core.specs.declared.rules.Rule.{Rule}
use Rattle.policy_core.specs.declared.store.Store.{Store}
use Rattle.cosigner_core.specs.Reading.{subtree_in}
use Rattle.cosigner_core.specs.Requests.{SubtreeParts}
use Rattle.cosigner_core.specs.declared.fault.FormError.{FormError}
use Rattle.party_history.specs.declared.start.PartyStart.{PartyStart}
use Rattle.party_history.specs.declared.start.PartyStart.TheVariants.{Cosigner}
use Rattle.mtc_command.proofs.Made.{OnlyNow, ReadsCrashState}
use Rattle.mtc_top.specs.Executions.{IsBegun, Run, owner, program}
use Rattle.mtc_laws.proofs.Audits.{printed_text}
use Rattle.mtc_laws.proofs.HeardBytes.{done_heard}
use Rattle.mtc_laws.specs.AcceptanceLaws.{HasCosignedAt, HaveCosigned}
use Rattle.mtc_laws.specs.CountLaws.{signature_of, CountsInStores}
use Rattle.mtc_laws.proofs.Counted.{signatures_count}
use Rattle.mtc_laws.proofs.Aliases.{ModelsFiles}
use Rattle.mtc_words.specs.Commands.{CommandValue, cosign, mirror_cosign}
use Rattle.mtc_words.specs.Words.{command_of}
use Rattle.mtc_words.specs.declared.error.WordError.{WordError}
use Rattle.cosigner_core.specs.Folds.{CosignerState}
use Rattle.mirror_core.specs.Folds.{entries_in_mirror}
use Rattle.mirror_core.specs.Openings.{FoundMirror, mirror_read}
use Rattle.mirror_core.specs.declared.error.MirrorOpenError.{MirrorOpenError}
use Rattle.mirror_cosigner.specs.Requests.{subtree_by_mirror}
use Rattle.tree_core.specs.Path.{part_of}
use Rattle.tree_core.specs.Tree.{tree_hash}
use Rattle.mtc_laws.specs.AuditLaws.{HoldsText}
use Rattle.mtc_laws.specs.PrintLaws.{HasCosigned, Signs}
use Rattle.mtc_laws.proofs.Printed.{MirrorsAreSound}

-- ---- rules that are met

cond_le : (b c : Bool) → (b ≡ true → c ≡ true) → cond b 1 0 ≤ cond c 1 0
cond_le true true is = omega arith
cond_le true false is = let wrong : false ≡ true = is refl in absurd cc
cond_le false c is = omega arith

-- where each that passes one test passes another, no fewer pass this one
no_fewer : (f g : ℕ → Bool) (xs : List ℕ)
    → ((n : ℕ) → list_any (λ x. x == n) xs ≡ true → f n ≡ true → g n ≡ true)
    → count_by f xs ≤ count_by g xs
no_fewer f g [] each = omega arith
no_fewer f g (x ∷ xs) each =
    let here : list_any (λ y. y == x) (x ∷ xs) ≡ true =
    ap (λ (b : Bool). b || list_any (λ y. y == x) xs) (eq-eqb x x refl) in
    let first = cond_le (f x) (g x) (each x here) in
    let rest = no_fewer f g xs (λ n among. each n (ap (λ (b : Bool). (x == n) || b) among
    ∙ or-true (x == n))) in
    let one : count_by f (x ∷ xs) ≡ cond (f x) 1 0 + count_by f xs =
    sum_by-cons (λ y. cond (f y) 1 0) x xs in
    let two : count_by g (x ∷ xs) ≡ cond (g x) 1 0 + count_by g xs =
    sum_by-cons (λ y. cond (g y) 1 0) x xs in
    omega (arith, first, rest, one, two)

rules_met : (set : ℕ) (has_signed : ℕ → Bool) (rules rest : List Rule)
    → ((n : ℕ) → is_named rules n ≡ true → has_signed n ≡ true → is_in_set set n ≡ true)
    → ((n : ℕ) → is_named rest n ≡ true → is_named rules n ≡ true)
    → AllByRecursion (λ rule. rule.count ≤ count_by has_signed rule.cosigners) rest
    → AllByRecursion (IsMet set) rest
rules_met set has_signed rules [] counts named all = tt
rules_met set has_signed rules (rule ∷ rest) counts named all =
    let more = no_fewer has_signed (is_in_set set) rule.cosigners (λ n among.
    counts n (named n (ap (λ (b : Bool). b || is_named rest n) among))) in (
      omega (arith, all.0, more),
      rules_met set has_signed rules rest counts (λ n among. named n
          (ap (λ (b : Bool). list_any (λ x. x == n) rule.cosigners || b) among
          ∙ or-true (list_any (λ x. x == n) rule.cosigners))) all.1,
    )

-- ---- lists of signatures

at_index : {A : Type 0} (P : A → Type 0) (xs : List A) (k : ℕ) (d : A) → AllByRecursion P xs
    → k < length xs → P (get_or xs k d)
at_index P [] k d all below = absurd (omega (arith, below))
at_index P (x ∷ xs) zero d all below = all.0
at_index P (x ∷ xs) (suc k) d all below = at_index P xs k d all.1 (omega (arith, below))

one_among : (list : List SigParts) (s : SigParts) → AllByRecursion IsMtcSignature list
    → Contains list s → IsMtcSignature s
one_among list s each among =
    subst IsMtcSignature among.2 (at_index IsMtcSignature list among.0 s each among.1)

-- one text is that of one signature
one_signature : (s t : SigParts) → IsMtcSignature s → IsMtcSignature t
    → signature_text s ≡ signature_text t → s ≡ t
one_signature s t one two same =
    let read = signature_form.again s 0 [] one tt in
    let again = signature_form.again t 0 [] two tt in
    let text = ap (λ (x : Text). mtc_signature_at (record { place = 0; rest = x ++ [] })) same in
    ap (λ (x : SigParts × At). x.0) (ok_is ProofError _ _ (sym read ∙ text ∙ again))

-- ---- an execution with one run more

module _ (p : Program) where
  with_run : List (FileEvent p.R p.O p.E) → Run p.R p.O p.E → List (FileEvent p.R p.O p.E)
  with_run events run = events ++ exited run ∷ []

  module _ (o : FileOwner p) where
    more_execution : (events : List (FileEvent p.R p.O p.E)) (old mid : p.R) (run : Run p.R p.O p.E)
        → IsFileExecution p o old events mid → p.HasRun mid run
        → IsFileExecution p o old (with_run events run) run.room
    unfolding with_run
    more_execution [] old mid run is has = (subst (λ (r : p.R). p.HasRun r run) is has, refl)
    more_execution (event ∷ events) old mid run is has =
        (is.0, more_execution events (files_after p event) mid run is.1 has)

    last_run : (P : p.R → Run p.R p.O p.E → Type 0) (events : List (FileEvent p.R p.O p.E))
        (old mid : p.R) (run : Run p.R p.O p.E) → IsFileExecution p o old events mid
        → EachRun p P old (with_run events run) → P mid run
    unfolding with_run
    last_run P [] old mid run is each = subst (λ (r : p.R). P r run) (sym is) each.0
    last_run P (event ∷ events) old mid run is each =
        last_run P events (files_after p event) mid run is.1 each.1

  more_held : (h : HashFunction) (name : Text) (list : List Text)
      (events : List (FileEvent p.R p.O p.E)) (old : p.R) (run : Run p.R p.O p.E)
      → FirstHolds list (own_events p (owner h p name) old events)
      → FirstHolds list (own_events p (owner h p name) old (with_run events run))
  unfolding with_run
  more_held h name list [] old run held = absurd held
  more_held h name list (event ∷ events) old run held = held

  more_begun : (h : HashFunction) (name : Text) (start : PartyStart) (first : Text)
      (events : List (FileEvent p.R p.O p.E)) (old : p.R) (run : Run p.R p.O p.E)
      → IsBegun h p name start first old events
      → IsBegun h p name start first old (with_run events run)
  more_begun h name start first events old run is = record {
    is_modelled = is.is_modelled;
    others = is.others;
    held = more_held h name (first ∷ is.others) events old run is.held;
    starts = is.starts;
  }

-- ---- the request of a run

module _ (r : Result CommandValue WordError) (name : Text) where
  one_file : (file other : Text) → r ≡ Ok (cosign name file) → r ≡ Ok (cosign name other)
      → file ≡ other
  one_file file other one two = cc

  not_both : (file mirror : Text) (start end : ℕ) → r ≡ Ok (cosign name file)
      → r ≡ Ok (mirror_cosign name mirror start end) → ⊥
  not_both file mirror start end one two = cc

  one_interval : (mirror other : Text) (start end from to : ℕ)
      → r ≡ Ok (mirror_cosign name mirror start end) → r ≡ Ok (mirror_cosign name other from to)
      → (mirror ≡ other) × (start ≡ from) × (end ≡ to)
  one_interval mirror other start end from to one two = (cc, cc, cc)

module _ (h : HashFunction) (p : Program) (name : Text) (old : p.R) (run : Run p.R p.O p.E) where
  abbrev files : Text → Option Text
  files = p.rooms.file old

  -- as a run that has cosigned has its request
  abbrev Asked : CosignerState → SubtreeParts → Type 0
  Asked state request = ((file : Text) × ((text : Text)
      × ((command_of run.words ≡ Ok (cosign name file)) × HoldsText files file 16777216 text
      × (subtree_in text ≡ Ok request))))
      ⊎ ((mirror : Text) × ((start : ℕ) × ((end : ℕ) × ((held : Text) × ((found : FoundMirror)
      × ((command_of run.words ≡ Ok (mirror_cosign name mirror start end))
      × (files mirror ≡ Some held) × (mirror_read h held ≡ Ok found)
      × (request ≡ subtree_by_mirror h found.state state.held start end)))))))

  -- a run that has cosigned is by a command that signs
  spoken_by : HasCosigned h p name old run → (command : CommandValue)
      × (Signs name command × (command_of run.words ≡ Ok command))
  spoken_by x = elim x.asked [
    | inl a ↦ (cosign name a.0, (inl (a.0, refl), a.1.1.0))
    | inr a ↦ (
      mirror_cosign name a.0 a.1.0 a.1.1.0,
      (inr (a.0, (a.1.0, (a.1.1.0, refl))), a.1.1.1.1.1.0),
    )
  ]

  one_request : (s t : CosignerState) (r q : SubtreeParts) → Asked s r → Asked t q
      → (r.start ≡ q.start) × (r.end ≡ q.end) × (r.hash ≡ q.hash)
  one_request s t r q (inl a) (inl b) =
      let file = one_file (command_of run.words) name a.0 b.0 a.1.1.0 b.1.1.0 in
      let text : a.1.0 ≡ b.1.0 = same_Some a.1.0 b.1.0 (sym a.1.1.1.there ∙ ap files file
      ∙ b.1.1.1.there) in
      let same : r ≡ q = ok_is FormError r q (sym a.1.1.2 ∙ ap subtree_in text ∙ b.1.1.2) in (
        ap (λ (x : SubtreeParts). x.start) same,
        ap (λ (x : SubtreeParts). x.end) same,
        ap (λ (x : SubtreeParts). x.hash) same,
      )
  one_request s t r q (inl a) (inr b) =
      absurd (not_both (command_of run.words) name a.0 b.0 b.1.0 b.1.1.0 a.1.1.0 b.1.1.1.1.1.0)
  one_request s t r q (inr a) (inl b) =
      absurd (not_both (command_of run.words) name b.0 a.0 a.1.0 a.1.1.0 b.1.1.0 a.1.1.1.1.1.0)
  one_request s t r q (inr a) (inr b) =
      let x = a.1.1.1.1 in
      let y = b.1.1.1.1 in
      let asked = one_interval (command_of run.words) name a.0 b.0 a.1.0 a.1.1.0 b.1.0 b.1.1.0
      x.1.0 y.1.0 in
      let held : a.1.1.1.0 ≡ b.1.1.1.0 = same_Some a.1.1.1.0 b.1.1.1.0 (sym x.1.1
      ∙ ap files asked.0 ∙ y.1.1) in
      let found : x.0 ≡ y.0 = ok_is MirrorOpenError x.0 y.0 (sym x.1.2 ∙ ap (mirror_read h) held
      ∙ y.1.2) in
      let hash_of = λ (m : FoundMirror) (start end : ℕ). tree_hash h
      (part_of (entries_in_mirror m.state) start end) in (
        ap (λ (z : SubtreeParts). z.start) x.1.3 ∙ asked.1
            ∙ sym (ap (λ (z : SubtreeParts). z.start) y.1.3),
        ap (λ (z : SubtreeParts). z.end) x.1.3 ∙ asked.2
            ∙ sym (ap (λ (z : SubtreeParts). z.end) y.1.3),
        ap (λ (z : SubtreeParts). z.hash) x.1.3
            ∙ ap (λ (m : FoundMirror). hash_of m a.1.0 a.1.1.0) found
            ∙ ap (λ (n : ℕ). hash_of y.0 n a.1.1.0) asked.1
            ∙ ap (λ (n : ℕ). hash_of y.0 b.1.0 n) asked.2
            ∙ sym (ap (λ (z : SubtreeParts). z.hash) y.1.3),
      )

-- ---- the rules of a store

module _ {R S D O E : Type 0} (h : HashFunction) (rooms : Rooms R S D) (disks : Disks D)
    (outs : Sinks O) (errs : Sinks E) (crash_state : ReadsCrashState disks) (only : OnlyNow disks)
    (contents : ModelsFiles rooms disks)
    (bytes : (d : D) (b : List ℕ) → disks.contents d ≡ Some b → IsBytes b) (store : Store)
    (start end : ℕ) (hash : Hash) (list : List SigParts) (proof : ProofParts)
    (start_is : proof.start ≡ start) (end_is : proof.end ≡ end)
    (each : AllByRecursion IsMtcSignature list)
    (encoded : proof.signatures ≡ flat_map signature_text list) where
  abbrev p : Program
  p = program h rooms disks outs errs

  module _ (sized : (b : List ℕ) → length (h b) ≡ 32)
      (sound : MirrorsAreSound h) (index : ℕ)
      (x : HasCosignedAt h p store start end hash list index) where
    -- the run signed what counts
    signs_so : CountsInStores h p x.signer.settings x.signer.public x.signer.name x.signer.ends
        x.run
    signs_so =
        let c = x.signer in
        let o = owner h p c.name in
        let party = Cosigner c.settings c.public in
        let all = signatures_count h rooms disks outs errs crash_state only contents bytes sized
        sound c.name party c.first c.begins x.run.room (with_run p c.events x.run)
        (more_begun p h c.name party c.first c.events c.begins x.run c.begun)
        (more_execution p o c.events c.begins c.ends x.run c.execution x.has_run) c.settings
        c.public refl in
        let heard = done_heard x.run.status (outs.taken x.run.out) (outs.taken x.run.out_after)
        x.written.done in
        let spoken = spoken_by h p c.name c.ends x.run x.signed in
        last_run p o _ c.events c.begins c.ends x.run c.execution (all spoken.0 spoken.1.0)
        spoken.1.1 heard

    -- a cosigner who printed one counts
    printed_counts : is_named store.rules index ≡ true
        → is_in_set (counted store proof hash) index ≡ true
    printed_counts named =
        let last = signs_so in
        let signed = last.signed in
        let request = one_request h p x.signer.name x.signer.ends x.run x.signed.state signed.state
        x.signed.request signed.request x.signed.asked signed.asked in
        let printed = printed_text (outs.taken x.run.out) (outs.taken x.run.out_after)
        x.written.before (signature_text x.signature)
        (signature_text (signature_of signed.state signed.request))
        x.written.contents x.written.printed (signed.printed.whole x.written.done) in
        let same = one_signature x.signature (signature_of signed.state signed.request)
        (one_among list x.signature each x.among) last.form printed in
        subst (λ (hash : Hash). is_in_set (counted store proof hash) index ≡ true)
        (sym request.2 ∙ x.hash_is)
        (last.counts store index x.known proof list x.there x.id_is x.key_is named x.log_is
        (start_is ∙ sym x.start_is ∙ request.0) (end_is ∙ sym x.end_is ∙ request.1) each encoded
        (subst (Contains list) same x.among))

  -- so the rules are met
  pub printed_satisfy : ((b : List ℕ) → length (h b) ≡ 32)
      → MirrorsAreSound h → HaveCosigned h p store start end hash list
      → IsSatisfied store proof hash
  printed_satisfy sized sound x = record {
    some = x.some;
    met = rules_met (counted store proof hash) x.has_signed store.rules store.rules
        (λ index named signed. printed_counts sized sound index (x.each index signed) named)
        (λ n named. named) x.met;
  }
