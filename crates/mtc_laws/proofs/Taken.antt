-- The line of `mirror-take`: what it says, and what becomes of the items that it counts.
use Rattle.std.proofs.Common.{◌≡◌, ℕ, ◌+◌, ◌<◌, ◌≤◌, min, nat_le, Bool, true, false, List, []}
use Rattle.std.proofs.Common.{◌∷◌, ◌++◌, length, take, drop, Option, None, Some, Ok}
use Rattle.std.proofs.Common.{if◌then◌else◌, ◌||◌, refl, sym, ap, subst, ◌∙◌, arith, leb-false}
use Rattle.std.proofs.Common.{length-drop, length-take, take_all, take-add}
use Rattle.std.proofs.lemmas.List.{take_min}
use Rattle.byte_formats.specs.Offsets.{IsBytes}
use Rattle.byte_formats.specs.Types.{HashFunction, Text}
use Rattle.disk_core.specs.declared.disk.Disk.{Ghosts as Disks}
use Rattle.entry_list.specs.Items.{ItemLists}
use Rattle.entry_list.specs.Reading.{items_in}
use Rattle.entry_list.specs.Reasons.{items_fault_text}
use Rattle.file_events.specs.Executions.{IsPrefix}
use Rattle.file_events.specs.Worlds.{Program}
use Rattle.journal_core.specs.Format.{end_offset}
use Rattle.journal_core.proofs.Standing.{found_stands}
use Rattle.issuance_log.specs.Batches.{has_large, most_listed}
use Rattle.issuance_log.specs.Records.{CanBeBatch}
use Rattle.issuance_log.proofs.Fitting.{none_large}
use Rattle.mirror_core.specs.Folds.{mirror_fold, mirror_of}
use Rattle.mirror_core.specs.Openings.{FoundMirror, mirror_read}
use Rattle.mirror_core.specs.Reasons.{mirror_fault_text}
use Rattle.mirror_core.specs.Records.{mirror_batch_record, mirrored_by}
use Rattle.mirror_core.specs.Refusals.{batch_count, begins_large, first_difference, next_batch}
use Rattle.mirror_core.specs.Refusals.{pairs_of, take_refusal}
use Rattle.mirror_core.specs.declared.error.MirrorError.{MirrorError}
use Rattle.mirror_core.specs.declared.error.MirrorError.TheVariants.{Append, Differs, TooLarge}
use Rattle.mirror_core.proofs.Encoded.{batch_again}
use Rattle.mirror_core.proofs.Keeping.{items_are}
use Rattle.mtc_io.specs.declared.sink.Sink.{Ghosts as Sinks}
use Rattle.mtc_room.specs.declared.room.Room.{Ghosts as Rooms}
use Rattle.mtc_command.specs.Answers.{Reply, said}
use Rattle.mtc_command.specs.Made.{appended}
use Rattle.mtc_command.specs.Steps.{Files, Outcome}
use Rattle.mtc_command.specs.Wanted.{Meets}
use Rattle.mtc_command.specs.declared.answer.Said.{Said}
use Rattle.mtc_command.specs.declared.answer.Said.TheVariants.{Done}
use Rattle.mtc_command.specs.declared.answer.Stopped.TheVariants.{Beyond, NotAllowed}
use Rattle.mtc_command.proofs.Made.{OnlyNow, ReadsCrashState}
use Rattle.command_plans.specs.Outcomes.{deed_outcome, opened_did, wanted_of}
use Rattle.command_plans.specs.Plans.{Deed, Plan, Step, only_reads, works}
use Rattle.command_plans.proofs.Facts.{heard_passed, not_refused}
use Rattle.mtc_mirror.specs.MirrorOutcomes.{mirrored_line}
use Rattle.mtc_words.specs.Commands.{mirror_take}
use Rattle.mtc_plans.specs.Commands.{planned_outcome}
use Rattle.mtc_plans.specs.Heard.{OfSaid}
use Rattle.mtc_plans.specs.MirrorPlans.{mirror_judged, mirror_take_plan, mirror_work_step}
use Rattle.mtc_plans.specs.MirrorPlans.{opens_mirror, take_reported}
use Rattle.mtc_plans.specs.PartyKinds.{party_kinds}
use Rattle.mtc_plans.specs.Steps.{added_by, deed_on, list_file}
use Rattle.mtc_plans.proofs.Heard.{form_passed, same_work}
use Rattle.party_history.proofs.Mirrors.{mirror_added}
use Rattle.mtc_laws.specs.AuditLaws.{HoldsText}
use Rattle.mtc_laws.specs.PrintLaws.{OfHeard}
use Rattle.mtc_laws.specs.TakenLaws.{AreInMirror, MirroredSizesArePrinted, TakenItemsStand}
use Rattle.mtc_laws.proofs.Aliases.{ModelsFiles}
use Rattle.mtc_laws.proofs.HeardRuns.{file_bytes, heard_held, printed_so}
use Rattle.mtc_laws.proofs.Printed.{did_so, heard_so}
use Rattle.mtc_laws.proofs.Recovered.{each_held, held_prefix, mirror_found, party_list}
use Rattle.mtc_laws.proofs.Streams.{plain_command}
use Rattle.mtc_top.specs.Executions.{WasHeld, program}

-- ---- the items of a list that a mirror takes

-- What the laws of items say of the first difference and of the next Batch.
pub record AreKnown : Type 0 where
  pub same : (held items : List (Text × Text)) → first_difference held items ≡ None
      → take (min (length held) (length items)) held
      ≡ take (min (length held) (length items)) items
  pub few : (size : ℕ) (items : List (Text × Text)) → length (next_batch size items) ≤ 65535
  pub small : (size : ℕ) (items : List (Text × Text)) → has_large (next_batch size items) ≡ false
  pub some : (x : Text × Text) (items : List (Text × Text)) → has_large (x ∷ []) ≡ false
      → 1 ≤ batch_count most_listed (x ∷ items)

-- a test that refuses nothing
test_passed : {E : Type 0} (b : Bool) (e : E) (o : Option E) → (if b then Some e else o) ≡ None
    → (b ≡ false) × (o ≡ None)
test_passed true e o is = let wrong : Some e ≡ None = is in absurd cc
test_passed false e o is = (refl, is)

-- items that are not refused: none differs, there are new ones, and the first of them isn't large
unrefused : (difference : Option ℕ) (size end : ℕ) (items : List (Text × Text))
    → take_refusal difference size false end items ≡ None
    → (difference ≡ None) × ((nat_le (length items) size ≡ false)
    × (begins_large (drop size items) ≡ false))
unfolding take_refusal
unrefused (Some number) size end items is =
    let wrong : Some (Differs number) ≡ None = is in absurd cc
unrefused None size end items is =
    let first = test_passed _ _ _ is in
    let second = test_passed _ _ _ first.1 in
    (refl, (first.0, second.0))

-- as many of the first ones as some first ones are
take_own : (count : ℕ) (items : List (Text × Text))
    → take (length (take count items)) items ≡ take count items
take_own count items =
    ap (λ (n : ℕ). take n items) (length-take count items) ∙ take_min count items

module _ (known : AreKnown) where
  -- the next Batch has an item, where the first one isn't large
  batch_some : (items : List (Text × Text)) → 0 < length items → begins_large items ≡ false
      → 1 ≤ length (take (batch_count most_listed items) items)
  batch_some [] there small = absurd (omega (arith, there))
  batch_some (x ∷ items) there small =
      let some = known.some x items (ap (λ (b : Bool). b || false) small) in
      let count = length-take (batch_count most_listed (x ∷ items)) (x ∷ items) in
      omega (arith, some, count)

  module _ (held items : List (Text × Text)) (end : ℕ)
      (fits : take_refusal (first_difference held items) (length held) false end items ≡ None)
    where
      abbrev batch : List (Text × Text)
      batch = next_batch (length held) items

      -- there are new ones
      new : length held < length items
      new =
          let is = unrefused (first_difference held items) (length held) end items fits in
          leb-false (length items) (length held) is.1.0

      -- the list begins with the mirror's own
      begins_own : held ≡ take (length held) items
      begins_own =
          let is = unrefused (first_difference held items) (length held) end items fits in
          let least : min (length held) (length items) ≡ length held = omega (arith, new) in
          sym (take_all (length held) held (omega arith))
          ∙ sym (ap (λ (n : ℕ). take n held) least) ∙ known.same held items is.0
          ∙ ap (λ (n : ℕ). take n items) least

      some_new : 1 ≤ length batch
      some_new =
          let is = unrefused (first_difference held items) (length held) end items fits in
          let left = length-drop (length held) items in
          batch_some (drop (length held) items) (omega (arith, new, left)) is.1.1

      pub more_taken : length held < length held + length batch
      more_taken = omega (arith, some_new)

      pub taken_within : length held + length batch ≤ length items
      taken_within =
          let left = length-drop (length held) items in
          let count = length-take (batch_count most_listed (drop (length held) items))
          (drop (length held) items) in
          omega (arith, new, left, count)

      can_be : CanBeBatch batch
      can_be =
          let few = known.few (length held) items in
          record {
            some = some_new;
            few = omega (arith, few);
            short = none_large batch (known.small (length held) items);
          }

      -- with those of the record they are the first of the list
      pub taken_first : held ++ mirrored_by (mirror_batch_record batch)
          ≡ take (length held + length batch) items
      taken_first =
          let rest = drop (length held) items in
          ap (λ (l : List (Text × Text)). held ++ l)
          (items_are (mirror_batch_record batch) batch (batch_again batch can_be))
          ∙ ap (λ (l : List (Text × Text)). l ++ batch) begins_own
          ∙ ap (λ (l : List (Text × Text)). take (length held) items ++ l)
          (sym (take_own (batch_count most_listed rest) rest))
          ∙ sym (take-add (length held) (length batch) items)

-- ---- what follows from the text of `mirror-take`, by its plan

-- A list of items was read, a mirror was found that takes new ones of them, and the next Batch is
-- added. The text is how many items there are then.
pub record TakesSo (h : HashFunction) (files : Files) (journal file : Text) (reply : Reply)
    : Type 0 where
  pub bytes : Text
  pub has_bytes : HoldsText files file 8589934592 bytes
  pub items : ItemLists
  pub items_read : items_in h bytes ≡ Ok items
  pub held : Text
  pub there : files journal ≡ Some held
  pub found : FoundMirror
  pub is_mirror : mirror_read h held ≡ Ok found
  pub fits : take_refusal (first_difference found.state.items (pairs_of items))
      (length found.state.items) false (end_offset found.records) (pairs_of items) ≡ None
  pub did : (planned_outcome h (mirror_take journal file) files).journals
      ≡ appended found.records
      (mirror_batch_record (next_batch (length found.state.items) (pairs_of items))) ∷ []
  pub reply_is : reply ≡ said Done (mirrored_line (length found.state.items
      + length (next_batch (length found.state.items) (pairs_of items))))

-- a record is added, where none of its items is refused
added_so : (body line : Text) (why : Option MirrorError) (status : Said) (text : Text)
    → Meets (wanted_of (added_by mirror_judged body line why).0) (said status text)
    → (why ≡ None) × (((added_by mirror_judged body line why).1 ≡ Some body)
    × (said status text ≡ said Done line))
added_so body line None status text meets = (refl, (refl, meets))
added_so body line (Some (TooLarge size)) status text meets =
    absurd (not_refused status text Beyond None (mirror_fault_text (TooLarge size)) meets)
added_so body line (Some (Append why)) status text meets =
    absurd (not_refused status text Beyond None (mirror_fault_text (Append why)) meets)
added_so body line (Some why) status text meets =
    absurd (not_refused status text NotAllowed None (mirror_fault_text why) meets)

module _ (h : HashFunction) (files : Files) (journal file : Text) where
  abbrev plan : Plan (party_kinds h)
  plan = mirror_take_plan h journal file

  abbrev works_on : ItemLists → Step {k = party_kinds h} (list_file file ∷ [])
      (opens_mirror h only_reads journal)
  works_on items = mirror_work_step h only_reads journal (take_reported (pairs_of items))

  pub takes_so : OfSaid (planned_outcome h (mirror_take journal file) files)
      (TakesSo h files journal file)
  takes_so status text meets =
      let passed = heard_passed (party_kinds h) plan files status text meets in
      let read = passed.read.0 in
      let form = form_passed read items_fault_text (items_in h read.text) works_on passed.say
      passed.works_so in
      let items = pairs_of form.0 in
      let found = passed.founds.0 in
      let size = length found.state.items in
      let batch = next_batch size items in
      let deed : Deed plan.journals = deed_on (take_reported items found) in
      let eq : deed ≡ passed.say passed.founds = same_work passed.say
      (λ founds. deed_on (take_reported items founds.0)) passed.founds (works passed.say) refl
      form.1.1 in
      let so = added_so (mirror_batch_record batch) (mirrored_line (size + length batch))
      (take_refusal (first_difference found.state.items items) size false
      (end_offset found.records) items) status text
      (subst (λ (d : Deed plan.journals). Meets (wanted_of d.answer) (said status text)) (sym eq)
      passed.meets) in
      record {
        bytes = read.text;
        has_bytes = record { there = passed.are_read.0.there; few = passed.are_read.0.few };
        items = form.0;
        items_read = form.1.0;
        held = passed.are_found.0.bytes;
        there = passed.are_found.0.there;
        found = found;
        is_mirror = passed.are_found.0.is;
        fits = so.0;
        did = ap (λ (o : Outcome). o.journals) passed.is
            ∙ (ap (λ (d : Deed plan.journals).
            (deed_outcome plan.journals passed.founds d).journals) (sym eq)
            ∙ ap (λ (m : Option Text). opened_did found.records m ∷ [])
            {x = (take_reported items found).1} so.1.0);
        reply_is = so.1.1;
      }

-- ---- the runs

module _ {R S D O E : Type 0} (h : HashFunction) (rooms : Rooms R S D) (disks : Disks D)
    (outs : Sinks O) (errs : Sinks E) (contents : ModelsFiles rooms disks)
    (bytes : (d : D) (b : List ℕ) → disks.contents d ≡ Some b → IsBytes b) (known : AreKnown)
  where
    abbrev p : Program
    p = program h rooms disks outs errs

    pub sizes_printed : MirroredSizesArePrinted h p
    sizes_printed name file old run is_modelled is_run spoken heard =
        let command = mirror_take name file in
        let s = heard_so h rooms disks outs errs old run command spoken is_modelled is_run heard
        (TakesSo h (rooms.file old) name file) (takes_so h (rooms.file old) name file) in
        let state = s.found.state in
        let list = s.found.records in
        let items = pairs_of s.items in
        let end = end_offset list in
        let are = file_bytes disks (rooms.file old name) (rooms.device old name) s.held bytes
        (contents.0 old name is_modelled) s.there in
        let batch = next_batch (length state.items) items in
        let body = mirror_batch_record batch in
        let size = length state.items + length batch in
        record {
          text = s.bytes;
          has_text = s.has_bytes;
          items = s.items;
          items_read = s.items_read;
          list = list;
          state = state;
          mirror_is = (found_stands (mirror_fold h) s.held s.found are s.is_mirror).1;
          body = body;
          did = did_so h rooms disks outs errs old run command spoken name (appended list body) refl
              s.did;
          size = size;
          above = more_taken known state.items items end s.fits;
          within = taken_within known state.items items end s.fits;
          are_first = taken_first known state.items items end s.fits;
          printed = printed_so h rooms disks outs errs old run is_run heard
              (plain_command h command spoken refl) (mirrored_line size) s.reply_is;
        }

    pub taken_stand : ReadsCrashState disks → OnlyNow disks → TakenItemsStand h p
    taken_stand crash_state only name start first begins new events begun execution log file found
        is recovered =
        let of = party_list h rooms disks outs errs crash_state only contents bytes name start first
        begins new events begun execution found recovered in
        let mirror = mirror_found h start log first found is begun.starts of in
        each_held h rooms disks outs errs crash_state only contents bytes name start first begins
        new events begun execution (WasHeld h p name begins events)
        (OfHeard h p (mirror_take name file) (λ old run. AreInMirror h p name file old run found))
        (λ list held. held)
        (λ old run is_modelled is_run held spoken heard.
        let m = sizes_printed name file old run is_modelled is_run spoken heard in
        let prefix = held_prefix h rooms disks outs errs crash_state only contents bytes name start
        first begins new events begun execution (m.list ++ m.body ∷ []) found
        (held (m.list ++ m.body ∷ [])
        (heard_held h rooms disks outs errs old run is_run heard name m.list m.body m.did))
        recovered in
        record {
          mirrored = m;
          mirror = mirror.0;
          mirror_is = mirror.1;
          at_indices = subst (λ (l : List (Text × Text)). IsPrefix l mirror.0.items) m.are_first
              (mirror_added h m.list m.body prefix.0 m.state mirror.0 m.mirror_is
              (ap (mirror_of h) prefix.1 ∙ mirror.1));
        })
