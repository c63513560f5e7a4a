use Rattle.mtc_laws.proofs.Acceptances.{issued_certificates_accepted}
use Rattle.mtc_laws.proofs.Aliases.{ModelsFiles}
use Rattle.mtc_laws.proofs.AuditsDecide.{audits_decide}
use Rattle.mtc_laws.proofs.Convicted.{two_signatures_collide}
use Rattle.mtc_laws.proofs.Exports.{exports_hold}
use Rattle.mtc_laws.proofs.PrintedStands.{signatures_stand}
use Rattle.mtc_laws.proofs.Recovered.{keys_once, lists_grow, one_message, read_again}
use Rattle.mtc_laws.proofs.Secrets.{only_cosign}
use Rattle.mtc_laws.proofs.laws.law_the_whole_promise.Goals as goal

pub returns : goal.returns
returns g c =
    let h = g.H.TreeHash.hash in
    let disk = g.met.R.Dsk.Disk in
    let files : ModelsFiles g.R.Room g.R.Dsk.Disk
    = (g.met.R.Room.modelled_file, g.met.R.Room.one_device) in
    record {
      lists_only_grow = lists_grow h g.R.Room g.R.Dsk.Disk g.O.Sink g.E.Sink disk.reads_crash_state
          disk.only_now files disk.contents_bytes;
      journals_are_read = read_again h g.R.Room g.R.Dsk.Disk g.O.Sink g.E.Sink
          disk.reads_crash_state disk.only_now files disk.contents_bytes;
      keys_sign_once = keys_once h g.R.Room g.R.Dsk.Disk g.O.Sink g.E.Sink disk.reads_crash_state
          disk.only_now files disk.contents_bytes;
      keys_sign_one_message = one_message h g.R.Room g.R.Dsk.Disk g.O.Sink g.E.Sink
          disk.reads_crash_state disk.only_now files disk.contents_bytes;
      only_cosign_signs = only_cosign h g.R.Room g.R.Dsk.Disk g.O.Sink g.E.Sink
          disk.reads_crash_state disk.only_now files disk.contents_bytes g.met.H.TreeHash.sized
          (c.law_records_determine_the_items.ensures.sound h);
      signatures_stand = signatures_stand h g.R.Room g.R.Dsk.Disk g.O.Sink g.E.Sink
          disk.reads_crash_state disk.only_now files disk.contents_bytes g.met.H.TreeHash.sized
          (c.law_records_determine_the_items.ensures.sound h);
      exports_hold_the_steps = exports_hold h g.R.Room g.R.Dsk.Disk g.O.Sink g.E.Sink
          disk.reads_crash_state disk.only_now files disk.contents_bytes;
      issued_is_accepted = issued_certificates_accepted h g.R.Room g.R.Dsk.Disk g.O.Sink g.E.Sink
          disk.reads_crash_state disk.only_now files disk.contents_bytes g.met.H.TreeHash.sized
          c.law_records_keep_to_the_rules.ensures.only_first
          (c.law_records_determine_the_items.ensures.sound h);
      audits_decide = audits_decide h g.R.Room g.R.Dsk.Disk g.O.Sink g.E.Sink
          disk.reads_crash_state disk.only_now files disk.contents_bytes;
      two_signatures_collide = two_signatures_collide h g.R.Room g.R.Dsk.Disk g.O.Sink g.E.Sink
          disk.reads_crash_state disk.only_now files disk.contents_bytes;
    }
