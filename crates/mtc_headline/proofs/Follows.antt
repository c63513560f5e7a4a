-- The headline follows from the promise and the joints, of any program.
use Rattle.std.proofs.Common.{◌≡◌, inl, inr, ℕ, true, List, [], ◌∷◌, ◌++◌, Option, Some, None, Ok}
use Rattle.std.proofs.Common.{IfSome, pos, refl, sym, subst, ap, ◌∙◌}
use Rattle.byte_formats.specs.Types.{Hash, HashFunction, Text}
use Rattle.file_events.specs.Events.{Event, EventHolds, appended, ran}
use Rattle.file_events.specs.Executions.{AnyEvent}
use Rattle.file_events.specs.Owners.{did_to}
use Rattle.file_events.specs.Worlds.{EachRun, FileEvent, Program, Run, breaks_off, broke_off, cut}
use Rattle.file_events.specs.Worlds.{died, exited, files_after, heard_of, own_events, run_of}
use Rattle.file_events.specs.Worlds.{stops, writes}
use Rattle.file_events.proofs.Owners.{released_event}
use Rattle.party_history.specs.declared.start.PartyStart.TheVariants.{Cosigner}
use Rattle.cosigner_core.specs.ExportReading.{export_in}
use Rattle.cosigner_core.specs.Requests.{SubtreeParts}
use Rattle.cosigner_core.specs.declared.lists.Export.{Export}
use Rattle.entry_list.specs.Items.{ItemLists}
use Rattle.policy_core.specs.declared.answer.Accepted.{Accepted}
use Rattle.policy_core.specs.declared.store.Store.{Store}
use Rattle.mtc_words.specs.Commands.{CommandValue}
use Rattle.mtc_relying.specs.AuditOutcome.{AcceptedParts, accepted_in, case_of}
use Rattle.mtc_top.specs.Executions.{WasHeld, owner}
use Rattle.mtc_laws.specs.AuditLaws.{IsAuditOf, IsSignedInExecution}
use Rattle.mtc_laws.specs.Cosigners.{CosignerExecution, HasSignRecord, WasExported}
use Rattle.mtc_laws.specs.ExportLaws.{HasExported}
use Rattle.mtc_laws.specs.PrintLaws.{HasCosigned, OfHeard, Signs}
use Rattle.mtc_laws.specs.Promise.{KeepsItsPromise}
use Rattle.mtc_laws.proofs.Audits.{printed_text}
use Rattle.mtc_laws.proofs.HeardBytes.{done_heard, heard_whole}
use Rattle.mtc_headline.proofs.Sent.{sent_heard}
use Rattle.mtc_headline.specs.AuditRuns.{IsAuditRun}
use Rattle.mtc_headline.specs.Endings.{GoodRunsAnswer, OfSent}
use Rattle.mtc_headline.specs.Joints.{HeldIsRead, PrintedIsRecorded, VerifiedCanBeAudited}
use Rattle.mtc_headline.specs.OneText.{OneKeySignsOneText}
use Rattle.mtc_headline.specs.Headline.{ExportsDecide, Headline, HeadlineFollows, IsAcceptedBy}
use Rattle.mtc_headline.specs.Headline.{IsAccountable, LandmarksDecide}

-- ---- each run of an execution

both_some : {A : Type 0} (P Q T : A → Type 0) (o : Option A) → ((a : A) → P a → Q a → T a)
    → IfSome o P → IfSome o Q → IfSome o T
both_some P Q T None each one two = tt
both_some P Q T (Some a) each one two = each a one two

module _ (h : HashFunction) (p : Program) where
  -- what follows of each run from two things that hold of each
  pub each_both : (P Q T : p.R → Run p.R p.O p.E → Type 0)
      → ((old : p.R) (run : Run p.R p.O p.E) → P old run → Q old run → T old run)
      → (events : List (FileEvent p.R p.O p.E)) (old : p.R) → EachRun p P old events
      → EachRun p Q old events → EachRun p T old events
  each_both P Q T each [] old one two = tt
  each_both P Q T each (event ∷ events) old one two = (
    both_some (P old) (Q old) (T old) (run_of p event) (each old) one.0 two.0,
    each_both P Q T each events (files_after p event) one.1 two.1,
  )

  -- what a run held, the execution held
  module _ (name : Text) where
    abbrev HeldBy : p.R → Run p.R p.O p.E → List Text → Type 0
    HeldBy old run list = EventHolds list ((owner h p name).run_event old run)

    one_held : (G : List Text → Type 0) (old : p.R) (event : FileEvent p.R p.O p.E)
        (events : List (FileEvent p.R p.O p.E))
        → ((list : List Text)
        → AnyEvent (EventHolds list) (own_events p (owner h p name) old (event ∷ events)) → G list)
        → IfSome (run_of p event) (λ run. (list : List Text) → HeldBy old run list → G list)
    one_held G old (exited run) events reported = λ list held. reported list (inl held)
    one_held G old (died run room) events reported = tt
    one_held G old (cut run room) events reported = tt
    one_held G old (stops room) events reported = tt
    one_held G old (writes room) events reported = tt

    each_held : (G : List Text → Type 0) (events : List (FileEvent p.R p.O p.E)) (old : p.R)
        → ((list : List Text)
        → AnyEvent (EventHolds list) (own_events p (owner h p name) old events) → G list)
        → EachRun p (λ before run. (list : List Text) → HeldBy before run list → G list) old events
    each_held G [] old reported = tt
    each_held G (event ∷ events) old reported = (
      one_held G old event events reported,
      each_held G events (files_after p event) (λ list later. reported list (inr later)),
    )

    -- a run that was heard held its records with the one that it added
    heard_holds : (old : p.R) (run : Run p.R p.O p.E) (list : List Text) (body : Text)
        → heard_of p run ≡ true → did_to p name old run ≡ appended list body
        → HeldBy old run (list ++ body ∷ [])
    heard_holds old run list body heard did =
        let is = released_event (broke_off p run) (heard_of p run) (did_to p name old run)
        (appended list body) (heard_whole (breaks_off run.status) (heard_of p run) heard) heard did
        in
        subst (EventHolds (list ++ body ∷ [])) (sym is) refl

  -- ---- the audits

  module _ (promise : KeepsItsPromise h p) (recorded : PrintedIsRecorded h p)
      (audited : VerifiedCanBeAudited h p) (read : HeldIsRead h p)
      (one_text : OneKeySignsOneText h p) (good : GoodRunsAnswer p) where
    exported_by : (x : CosignerExecution h p) (text : Text) (was : WasExported h p x text)
        → (e : HasExported h p x.settings x.public x.name x.begins x.events x.ends was.run)
        × (text ≡ e.text)
    exported_by x text was =
        let wrote = was.written in
        let run = was.run in
        let e = promise.exports_hold_the_steps x.name (Cosigner x.settings x.public) x.first
        x.begins x.ends x.events x.begun x.execution x.settings x.public refl run was.has_run
        was.spoken (done_heard run.status (p.outs.taken run.out) (p.outs.taken run.out_after)
        wrote.done) in (
          e,
          printed_text (p.outs.taken run.out) (p.outs.taken run.out_after) wrote.before text
              e.text wrote.contents wrote.printed (e.printed.whole wrote.done),
        )

    -- a run of `audit` is an audit of the case
    abbrev audit_of : (bytes : Text) (store : Store) (unix_time : ℕ) (items : ItemLists)
        (kept_text : Text) (kept : Option Export) (j : AcceptedParts) (old : p.R)
        (run : Run p.R p.O p.E) (a : IsAuditRun h p bytes store unix_time items kept_text old run)
        → accepted_in h bytes store (pos unix_time) ≡ Ok j → export_in h kept_text ≡ Ok kept
        → IsAuditOf h (p.rooms.file old) a.certificate a.store_name unix_time a.entries a.kept
        (case_of store items kept j)
    audit_of bytes store unix_time items kept_text kept j old run a judged read = record {
      cert_text = bytes;
      has_cert = a.has_bytes;
      store_text = a.store_text;
      has_store = a.has_store;
      entries_text = a.entries_text;
      has_entries = a.has_entries;
      kept_text = kept_text;
      has_kept = a.has_kept;
      store_read = a.store_read;
      items_read = a.items_read;
      kept_read = read;
      judged = judged;
    }

    -- the record of the accepted interval and hash
    accepted_record : (x : CosignerExecution h p) (request : SubtreeParts) (store : Store)
        (a : Accepted) → HasSignRecord h p x request.start request.end request.hash
        → IsAcceptedBy h p x request store a → HasSignRecord h p x a.start a.end a.hash
    accepted_record x request store a held by =
        subst (λ (hash : Hash). HasSignRecord h p x a.start a.end hash) by.hash_is
        (subst (λ (n : ℕ). HasSignRecord h p x a.start n request.hash) by.end_is
        (subst (λ (n : ℕ). HasSignRecord h p x n request.end request.hash) by.start_is held))

    decided : (x : CosignerExecution h p) (request : SubtreeParts)
        → HasSignRecord h p x request.start request.end request.hash
        → (bytes : Text) (store : Store) (unix_time : ℕ) (j : AcceptedParts)
        → accepted_in h bytes store (pos unix_time) ≡ Ok j
        → IsAcceptedBy h p x request store j.accepted
        → ExportsDecide h p x bytes store unix_time j
    decided x request held bytes store unix_time j judged by kept_text was =
        let both = exported_by x kept_text was in
        let e = both.0 in
        let is_read : export_in h kept_text ≡ Ok (Some e.export)
        = ap (export_in h) both.1 ∙ e.read in (
          e.export,
          (
            is_read,
            λ items begins old run a well.
                let ends = good old run a.is_run well in
                let signed : IsSignedInExecution h p (case_of store items (Some e.export) j)
                kept_text = record {
                  signer = x;
                  signed = accepted_record x request store j.accepted held by;
                  exported = was;
                  set = by.set;
                  by = by.by;
                  counts = by.counts;
                  log_is = by.log_is;
                } in
                promise.audits_decide old run a.certificate a.store_name unix_time a.entries a.kept
                (case_of store items (Some e.export) j) a.is_modelled a.is_run a.spoken
                (audit_of bytes store unix_time items kept_text (Some e.export) j old run a judged
                is_read) (inr (signed, begins)) ends.0 ends.1 ends.2,
          ),
        )

    abbrev IsHeld : CosignerExecution h p → p.R → Run p.R p.O p.E → Type 0
    IsHeld x old run = (list : List Text) → HeldBy x.name old run list
        → WasHeld h p x.name x.begins x.events list

    abbrev IsSigned : CosignerExecution h p → p.R → Run p.R p.O p.E → Type 0
    IsSigned x old run = (signed : HasCosigned h p x.name old run)
        × HasSignRecord h p x signed.request.start signed.request.end signed.request.hash

    backed : (x : CosignerExecution h p) (command : CommandValue) (old : p.R)
        (run : Run p.R p.O p.E) → IsHeld x old run → OfHeard h p command (IsSigned x) old run
        → OfSent p command (IsAccountable h p x) old run
    backed x command old run held is spoken sent =
        let heard = sent_heard p run sent in
        let r = is spoken heard in
        let signed = r.0 in
        let was = held (signed.list ++ signed.body ∷ [])
        (heard_holds x.name old run signed.list signed.body heard signed.did) in
        record {
          signed = signed;
          stands = λ c at. read x.name (Cosigner x.settings x.public) x.first
              x.begins x.ends x.events x.begun x.execution (signed.list ++ signed.body ∷ []) c was
              at;
          audits = λ bytes store unix_time before verifying verified zero_.
              let j = audited bytes store unix_time before verifying verified zero_ in
              (j.0, (j.1, decided x signed.request r.1 bytes store unix_time j.0 j.1));
        }

    signatures : (x : CosignerExecution h p) (command : CommandValue) → Signs x.name command
        → EachRun p (OfSent p command (IsAccountable h p x)) x.begins x.events
    signatures x command signs =
        each_both (IsHeld x) (OfHeard h p command (IsSigned x))
        (OfSent p command (IsAccountable h p x)) (backed x command) x.events x.begins
        (each_held x.name (WasHeld h p x.name x.begins x.events) x.events x.begins
        (λ list any. any)) (recorded x command signs)

    landmarks : LandmarksDecide h p
    landmarks bytes store unix_time before verifying verified zero_ =
        let j = audited bytes store unix_time before verifying verified zero_ in (
          j.0,
          (
            j.1,
            λ by items interval kept_text kept read old run a well.
                let ends = good old run a.is_run well in
                promise.audits_decide old run a.certificate a.store_name unix_time a.entries a.kept
                (case_of store items kept j.0) a.is_modelled a.is_run a.spoken
                (audit_of bytes store unix_time items kept_text kept j.0 old run a j.1 read)
                (inl (by, interval)) ends.0 ends.1 ends.2,
          ),
        )

    pub headline : Headline h p
    headline = record {
      keys_sign_once = λ x record0 bodies found. promise.keys_sign_once x.name
          (Cosigner x.settings x.public) x.first x.begins x.ends x.events x.begun x.execution
          x.settings x.public refl record0 bodies found;
      one_text = one_text;
      signatures = signatures;
      landmarks = landmarks;
    }

pub headline_follows : (h : HashFunction) (p : Program) → HeadlineFollows h p
headline_follows = headline
