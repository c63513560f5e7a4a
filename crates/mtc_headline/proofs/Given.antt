-- That what the laws suppose comes about.
use Rattle.std.proofs.Common.{◌≡◌, ◌⊎◌, inl, inr, ℕ, true, List, [], ◌∷◌, ◌++◌, Option, Some, None}
use Rattle.std.proofs.Common.{Ok, refl, sym, subst, ap, ◌∙◌}
use Rattle.std.proofs.lemmas.Option.{same_Some}
use Rattle.std.specs.Io.KnownBytes.{Appends}
use Rattle.byte_formats.specs.Offsets.{IsBytes}
use Rattle.byte_formats.specs.Types.{HashFunction, Text}
use Rattle.disk_core.specs.declared.disk.Disk.{Ghosts as Disks}
use Rattle.mtc_io.specs.declared.sink.Sink.{Ghosts as Sinks}
use Rattle.mtc_room.specs.declared.room.Room.{Ghosts as Rooms}
use Rattle.file_events.specs.Events.{FirstHolds}
use Rattle.file_events.specs.Worlds.{FileEvent, FileOwner, IsFileEvent, IsFileExecution, Program}
use Rattle.file_events.specs.Worlds.{exited, files_after, own_events}
use Rattle.party_history.specs.declared.start.PartyStart.{PartyStart}
use Rattle.party_history.specs.declared.start.PartyStart.TheVariants.{Cosigner}
use Rattle.mtc_command.proofs.Made.{OnlyNow, ReadsCrashState}
use Rattle.mtc_top.specs.Executions.{HasPrinted, HasStreamed, IsBegun, owner, program}
use Rattle.mtc_laws.specs.Cosigners.{CosignerExecution}
use Rattle.mtc_laws.proofs.Aliases.{ModelsFiles}
use Rattle.mtc_laws.proofs.Exports.{exports_hold}
use Rattle.mtc_laws.proofs.HeardBytes.{done_heard}
use Rattle.mtc_headline.specs.Witnesses.{ExecutionsBegin, ExecutionsGoOn, ExportsAreGiven}
use Rattle.mtc_headline.specs.Witnesses.{FilesAreAudited, FilesAreVerified, OtherFilesChange}
use Rattle.mtc_headline.specs.Witnesses.{PrintedIsWritten, RunsWithoutFailuresGoWell}
use Rattle.mtc_headline.specs.Witnesses.{SigningCommandsSign, StopsHappen}

-- ---- what was written

-- what is appended to known bytes
appended_text : (old new : Option (List ℕ)) (before text : List ℕ) → old ≡ Some before
    → Appends old new text → new ≡ Some (before ++ text)
appended_text None new before text was is = let wrong : None ≡ Some before = was in absurd cc
appended_text (Some xs) None before text was is = absurd is
appended_text (Some xs) (Some ys) before text was is =
    ap (λ (l : List ℕ). Some l) (is ∙ ap (λ (l : List ℕ). l ++ text) (same_Some xs before was))

module _ (h : HashFunction) (p : Program) where
  pub printed_written : PrintedIsWritten h p
  printed_written run text before went zero_ was =
      let text_is : Appends (p.outs.taken run.out) (p.outs.taken run.out_after) text = elim went [
        | inl printed ↦ printed.whole zero_
        | inr streamed ↦ streamed.whole zero_
      ] in
      record {
        done = zero_;
        before = before;
        contents = was;
        printed = appended_text (p.outs.taken run.out) (p.outs.taken run.out_after) before text was
            text_is;
      }

  -- ---- executions

  pub execution_begins : ExecutionsBegin h p
  execution_begins name settings public first others old run is_modelled is_run held starts
      = record {
        x = record {
          name = name;
          settings = settings;
          public = public;
          first = first;
          begins = old;
          events = exited run ∷ [];
          begun = record {
            is_modelled = is_modelled;
            others = others;
            held = held;
            starts = starts;
          };
          ends = run.room;
          execution = (is_run, refl);
        };
        name_is = refl;
        settings_is = refl;
        public_is = refl;
        first_is = refl;
        begins_is = refl;
        events_is = refl;
        ends_is = refl;
      }

  module _ (o : FileOwner p) where
    more_execution : (events : List (FileEvent p.R p.O p.E)) (old mid : p.R)
        (event : FileEvent p.R p.O p.E) → IsFileExecution p o old events mid
        → IsFileEvent p o mid event
        → IsFileExecution p o old (events ++ event ∷ []) (files_after p event)
    more_execution [] old mid event is has =
        (subst (λ (r : p.R). IsFileEvent p o r event) is has, refl)
    more_execution (first ∷ events) old mid event is has =
        (is.0, more_execution events (files_after p first) mid event is.1 has)

  more_held : (name : Text) (list : List Text) (events : List (FileEvent p.R p.O p.E)) (old : p.R)
      (event : FileEvent p.R p.O p.E) → FirstHolds list (own_events p (owner h p name) old events)
      → FirstHolds list (own_events p (owner h p name) old (events ++ event ∷ []))
  more_held name list [] old event held = absurd held
  more_held name list (first ∷ events) old event held = held

  pub execution_goes_on : ExecutionsGoOn h p
  execution_goes_on x event is = record {
    x = record {
      name = x.name;
      settings = x.settings;
      public = x.public;
      first = x.first;
      begins = x.begins;
      events = x.events ++ event ∷ [];
      begun = record {
        is_modelled = x.begun.is_modelled;
        others = x.begun.others;
        held = more_held x.name (x.first ∷ x.begun.others) x.events x.begins event x.begun.held;
        starts = x.begun.starts;
      };
      ends = files_after p event;
      execution = more_execution (owner h p x.name) x.events x.begins x.ends event x.execution is;
    };
    name_is = refl;
    settings_is = refl;
    public_is = refl;
    first_is = refl;
    begins_is = refl;
    events_is = refl;
    ends_is = refl;
  }

  pub stop_happens : StopsHappen h p
  stop_happens name old new crash_state modelled may only = record {
    is_modelled = modelled;
    crash_state = crash_state;
    may = may;
    only = only;
  }

  pub others_change : OtherFilesChange h p
  others_change name old new modelled stays = record { is_modelled = modelled; stays = stays }

  -- ---- runs of `verify` and `audit`

  pub files_verified : FilesAreVerified h p
  files_verified certificate store_name bytes text unix_time store old run is_modelled is_run spoken
      has_bytes few_bytes has_store few_store store_read = record {
        is_modelled = is_modelled;
        is_run = is_run;
        certificate = certificate;
        store_name = store_name;
        spoken = spoken;
        has_bytes = record { there = has_bytes; few = few_bytes };
        text = text;
        has_store = record { there = has_store; few = few_store };
        store_read = store_read;
      }

  pub files_audited : FilesAreAudited h p
  files_audited certificate store_name entries kept bytes text listed kept_text unix_time store
      items old run is_modelled is_run spoken has_bytes few_bytes has_store few_store store_read
      has_entries few_entries items_read has_kept few_kept = record {
        is_modelled = is_modelled;
        is_run = is_run;
        certificate = certificate;
        store_name = store_name;
        entries = entries;
        kept = kept;
        spoken = spoken;
        has_bytes = record { there = has_bytes; few = few_bytes };
        store_text = text;
        has_store = record { there = has_store; few = few_store };
        store_read = store_read;
        entries_text = listed;
        has_entries = record { there = has_entries; few = few_entries };
        items_read = items_read;
        has_kept = record { there = has_kept; few = few_kept };
      }

  pub goes_well : RunsWithoutFailuresGoWell h p
  goes_well old run memory files output = record {
    memory = memory;
    files = files;
    output = output;
  }

pub both_sign : SigningCommandsSign
both_sign name file mirror start end = (
  inl (file, refl),
  inr (mirror, (start, (end, refl))),
)

module _ {R S D O E : Type 0} (h : HashFunction) (rooms : Rooms R S D) (disks : Disks D)
    (outs : Sinks O) (errs : Sinks E) (crash_state : ReadsCrashState disks) (only : OnlyNow disks)
    (contents : ModelsFiles rooms disks)
    (bytes : (d : D) (b : List ℕ) → disks.contents d ≡ Some b → IsBytes b) where
  pub exports_given : ExportsAreGiven h (program h rooms disks outs errs)
  exports_given x run before has_run spoken zero_ was =
      let e = exports_hold h rooms disks outs errs crash_state only contents bytes x.name
      (Cosigner x.settings x.public) x.first x.begins x.ends x.events x.begun x.execution
      x.settings x.public refl run has_run spoken
      (done_heard run.status (outs.taken run.out) (outs.taken run.out_after) zero_) in (
        e.text,
        record {
          run = run;
          has_run = has_run;
          spoken = spoken;
          written = printed_written h (program h rooms disks outs errs) run e.text before
              (inr e.printed) zero_ was;
        },
      )
