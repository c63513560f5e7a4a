use Rattle.std.proofs.Common.{◌≡◌, IfSome}
use Rattle.issuance_log.specs.Words.{LogStays, log_disk, log_tiles_disk, modelled_by_both}
use Rattle.authority_core.specs.Several.{HoldsEach, IsAcceptable}
use Rattle.authority_core.proofs.writing.several.certs_between.Given as goal

-- the certificates of the indexes before this one were written, and the disks only read
abbrev pub invariant-loop-index : goal.invariant-loop-index
invariant-loop-index g l = record {
  stays : LogStays l.initial.log l.log;
  written : IfSome (modelled_by_both l.initial.log) (λ s. HoldsEach
      (IsAcceptable g.H.TreeHash.hash s l.start l.end l.signatures) l.first l.index l.text);
  journal : g.D.Disk.faults (log_disk l.log) ≡ g.D.Disk.faults (log_disk l.initial.log);
  tiles : g.T.Disk.faults (log_tiles_disk l.log)
      ≡ g.T.Disk.faults (log_tiles_disk l.initial.log);
}
