-- What `monitor` prints, of each run of the program.
use Rattle.byte_formats.specs.Types.{HashFunction, Text}
use Rattle.file_events.specs.Worlds.{Program}
use Rattle.mtc_words.specs.Commands.{monitor}
use Rattle.mtc_monitor.specs.StateFiles.{IsPrinted}
use Rattle.mtc_top.specs.Executions.{HasPrinted, Run}
use Rattle.mtc_laws.specs.PrintLaws.{OfEachRun, OfHeard}

module _ (h : HashFunction) (p : Program) where
  -- The run is one of `monitor` over these four files: it has to print this text, and what went out
  -- is a prefix of it, and with status 0 all of it.
  pub record HasMonitored (state watch request entries : Text) (old : p.R) (run : Run p.R p.O p.E)
      : Type 0 where
    pub text : Text
    pub asked : IsPrinted h (record {
      state = state;
      watch = watch;
      request = request;
      entries = entries;
      files = p.rooms.file old;
      printed = text;
    })
    pub printed : HasPrinted p run text

  -- So it is of each run of `monitor` that did its work, or of which a byte may have gone out.
  abbrev pub MonitorsArePrinted : Type 0
  MonitorsArePrinted = (state watch request entries : Text)
      → OfEachRun h p (OfHeard h p (monitor state watch request entries)
      (HasMonitored state watch request entries))
