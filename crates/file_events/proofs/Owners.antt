-- Executions of a program, for each owner of files.
use Rattle.std.proofs.Common.{◌≡◌, inl, inr, Bool, true, false, List, refl, ap}
use Rattle.std.proofs.Common.{◌∙◌}
use Rattle.byte_formats.specs.Types.{Text}
use Rattle.file_events.specs.Events.{Event, Journaled, Leads, broke, ran}
use Rattle.file_events.specs.Executions.{AnyEvent}
use Rattle.file_events.specs.Owners.{ExecutionsAgree, ExecutionsHold, JournalExecutions}
use Rattle.file_events.specs.Owners.{ServesJournal}
use Rattle.file_events.specs.Owners.{ServesLog, ServesMirror, TilesSurvive, did_to, journal_file}
use Rattle.file_events.specs.Owners.{JournalRunsMayBreak, LogRunsMayBreak, MirrorRunsMayBreak}
use Rattle.file_events.specs.Owners.{NewTilesSurvive, RunsAreEvents, log_files}
use Rattle.file_events.specs.Owners.{mirror_files}
use Rattle.file_events.specs.Tiles.{TilesWork}
use Rattle.file_events.specs.Worlds.{LeavesStopped, FileEventsLead, Program, Run, all_states}
use Rattle.file_events.specs.Worlds.{broke_off, event_with, own_events, heard_of, states_between}
use Rattle.file_events.specs.Worlds.{states_of}
use Rattle.file_events.proofs.OwnEvents.{owners_execute, each_run}
use Rattle.file_events.proofs.Mirrors.{always_agree}
use Rattle.file_events.proofs.Stays.{held_stand}
use Rattle.file_events.proofs.Tiles.{new_tiles_go, tiles_go}
use Rattle.file_events.proofs.Works.{broke_of_less, cosigner_with_mirror, event_breaks, log_breaks}
use Rattle.file_events.proofs.Works.{log_with_tiles, mirror_breaks}

pub released_event : (broken heard : Bool) (did wanted : Journaled) → broken ≡ false → heard ≡ true
    → did ≡ wanted → event_with broken heard did ≡ ran true wanted
released_event broken heard did wanted whole reported is =
    ap (λ (b : Bool). event_with b heard did) whole
    ∙ (ap (λ (b : Bool). ran b did) reported ∙ ap (λ (j : Journaled). ran true j) is)

module _ (p : Program) (Valid : List Text → Type 0) (name : Text) where
  -- a stop in the middle of a run
  cut_leads : ServesJournal p Valid name → (old : p.R) (run : Run p.R p.O p.E) (room : p.R)
      → p.rooms.is_modelled old → p.HasRun old run
      → LeavesStopped p (λ n. states_between p n old run.room) run.room room
      → p.rooms.is_modelled room
      → Leads Valid (broke (did_to p name old run)) (states_of p name old)
      (states_of p name room)
  cut_leads serves old run room modelled is cut modelled' =
      let at_once =
      (serves.leaves old run modelled is).times (cut.crash_state name) (cut.may name) in
      broke_of_less Valid (did_to p name old run) (states_of p name old)
      (λ d. d ≡ cut.crash_state name) (states_of p name room) at_once (cut.only name)
      (serves.rooms.some room name modelled')

  pub journal_lead : ServesJournal p Valid name → FileEventsLead p (journal_file p Valid name)
  journal_lead serves = record {
    modelled = serves.rooms.modelled;
    runs = λ old run modelled is. (serves.leaves old run modelled is).leads;
    cuts = λ old run room modelled is cut.
        let modelled' = cut.is_modelled (serves.rooms.modelled old run modelled is) in
        (modelled', cut_leads serves old run room modelled is cut modelled');
    stays = λ old new modelled kept some.
        record { some = some name refl; happens = kept name refl };
    some = serves.rooms.some;
  }

  pub journal_executions : JournalExecutions p Valid name
  journal_executions serves old new events modelled is =
      owners_execute p (journal_file p Valid name) (journal_lead serves) old new events modelled is

  pub runs_are_events : RunsAreEvents p Valid name
  runs_are_events serves old new events modelled is =
      let o = journal_file p Valid name in
      each_run p o (journal_lead serves) Event (λ (x event : Event). event ≡ x)
      (λ (x : Event). AnyEvent (λ (event : Event). event ≡ x) (own_events p o old events))
      (λ before run. p.HasRun before run × AnyEvent
      (λ (event : Event). event ≡ o.run_event before run) (own_events p o old events))
      (λ before run modelled ran reported. (ran, reported (o.run_event before run) refl)) events old
      new
      modelled is (λ x any. any)

  pub journal_breaks : JournalRunsMayBreak p Valid name
  journal_breaks serves old run modelled is =
      event_breaks Valid (broke_off p run) (heard_of p run) (did_to p name old run)
      (states_of p name old) (states_of p name run.room)
      (serves.leaves old run modelled is).leads

  pub executions_hold : ExecutionsHold p Valid name
  executions_hold serves old new events modelled is list held =
      held_stand (states_of p name) Valid list old new
      (own_events p (journal_file p Valid name) old events) held
      (journal_executions serves old new events modelled is)

module _ (p : Program) (goes : List Text → Text → Type 0) (Plain : List Text → Text → Type 0)
    (Valid : List Text → Type 0) (name tiles : Text)
    (how_of : p.R → Run p.R p.O p.E → TilesWork) where
  log_lead : ServesLog p goes Plain Valid name tiles how_of
      → FileEventsLead p (log_files p goes Plain Valid name tiles how_of)
  log_lead serves = record {
    modelled = serves.rooms.modelled;
    runs = λ old run modelled is. record {
      some = serves.rooms.some run.room name (serves.rooms.modelled old run modelled is);
      happens = log_with_tiles goes Plain Valid name tiles (broke_off p run)
          (heard_of p run) (did_to p name old run) (how_of old run) (all_states p old)
          (all_states p run.room) (serves.leaves old run modelled is);
    };
    cuts = λ old run room modelled is cut. absurd cut;
    stays = λ old new modelled kept some. record {
      some = some name (inl refl);
      happens = (kept name (inl refl), kept tiles (inr refl));
    };
    some = serves.rooms.some;
  }

  pub log_runs_break : LogRunsMayBreak p goes Plain Valid name tiles how_of
  log_runs_break serves old run modelled is =
      let leads = (log_lead serves).runs old run modelled is in record {
        some = leads.some;
        happens = log_breaks goes Plain Valid (broke_off p run) (heard_of p run)
            (did_to p name old run) (how_of old run) (states_of p name old)
            (states_of p tiles old) (states_of p name run.room)
            (states_of p tiles run.room) leads.happens;
      }

  pub new_survive : NewTilesSurvive p goes Plain Valid name tiles how_of
  new_survive = new_tiles_go goes Plain Valid (states_of p name) (states_of p tiles)

  pub tiles_survive : TilesSurvive p goes Plain Valid name tiles how_of
  tiles_survive serves keep prefix old new events modelled is durable go =
      let o = log_files p goes Plain Valid name tiles how_of in
      (tiles_go goes Plain Valid (states_of p name) (states_of p tiles) keep prefix
      old new (own_events p o old events) durable go
      (owners_execute p o (log_lead serves) old new events modelled is)).1

module _ (p : Program) (agrees : List Text → List Text → Type 0)
    (Computed : List Text → List Text → Text → Type 0) (Neutral : List Text → Text → Type 0)
    (ValidMirror ValidCosigner : List Text → Type 0) (mirror cosigner : Text) where
  mirror_lead : ServesMirror p agrees Computed Neutral ValidMirror ValidCosigner mirror cosigner
      → FileEventsLead p
      (mirror_files p agrees Computed Neutral ValidMirror ValidCosigner mirror cosigner)
  mirror_lead serves = record {
    modelled = serves.rooms.modelled;
    runs = λ old run modelled is.
        let modelled' = serves.rooms.modelled old run modelled is in record {
          some_mirror = serves.rooms.some run.room mirror modelled';
          some_cosigner = serves.rooms.some run.room cosigner modelled';
          happens = cosigner_with_mirror agrees Computed Neutral ValidMirror ValidCosigner
              mirror cosigner (broke_off p run) (heard_of p run) (did_to p mirror old run)
              (did_to p cosigner old run) (all_states p old)
              (all_states p run.room) (serves.may old run modelled is)
              (serves.leaves old run modelled is);
        };
    cuts = λ old run room modelled is cut. absurd cut;
    stays = λ old new modelled kept some. record {
      some_mirror = some mirror (inl refl);
      some_cosigner = some cosigner (inr refl);
      happens = (kept mirror (inl refl), kept cosigner (inr refl));
    };
    some = serves.rooms.some;
  }

  pub mirror_runs_break : MirrorRunsMayBreak p agrees Computed Neutral ValidMirror ValidCosigner
      mirror cosigner
  mirror_runs_break serves old run modelled is =
      let leads = (mirror_lead serves).runs old run modelled is in record {
        some_mirror = leads.some_mirror;
        some_cosigner = leads.some_cosigner;
        happens = mirror_breaks agrees Computed Neutral ValidMirror ValidCosigner
            (broke_off p run) (heard_of p run) (did_to p mirror old run)
            (did_to p cosigner old run) (states_of p mirror old)
            (states_of p cosigner old) (states_of p mirror run.room)
            (states_of p cosigner run.room) leads.happens;
      }

  pub executions_agree : ExecutionsAgree p agrees Computed Neutral ValidMirror ValidCosigner mirror
      cosigner
  executions_agree serves keeps items steps old new events modelled is durable durable' agree =
      let o = mirror_files p agrees Computed Neutral ValidMirror ValidCosigner mirror cosigner in
      always_agree agrees Computed Neutral ValidMirror ValidCosigner (states_of p mirror)
      (states_of p cosigner) keeps items steps old new (own_events p o old events) durable
      durable' agree (owners_execute p o (mirror_lead serves) old new events modelled is)
