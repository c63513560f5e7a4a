use Rattle.landmarks.specs.Landmarks.{active_of}
use Rattle.issuance_log.specs.Words.{LogStays}
use Rattle.drill_core.specs.Parties.{log_seen}
use Rattle.drill_core.specs.LightStores.{AreOfLandmarks}
use Rattle.drill_core.proofs.light.active_subtrees.Given as goal

abbrev pub invariant-loop-number : goal.invariant-loop-number
invariant-loop-number g l = record {
  stays : LogStays l.fn.log l.log;
  active : AreOfLandmarks g.H.TreeHash.hash (log_seen l.fn.log).entries l.fn.landmarks
      (active_of l.fn.landmarks).start l.number l.trust.items;
}
