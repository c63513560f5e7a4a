use Rattle.std.proofs.Common.{◌∙◌, ap, length, subst, sym}
use Rattle.std.specs.List.{AllByRecursion}
use Rattle.tls_wire.specs.Arcs.{IsAnchorId}
use Rattle.monitor_core.specs.States.{IsHash}
use Rattle.monitor_core.proofs.writing.law_state_is_kept.Goals as goal

pub returns : goal.returns
returns c = λ small. record {
  log = subst IsAnchorId c.log.ensures c.as_bytes-id.ensures.anchor;
  size = small;
  count = ap length (sym c.peaks.ensures.value) ∙ c.peaks.ensures.count;
  hashes = subst (AllByRecursion IsHash) c.peaks.ensures.value c.law_are_hashes.ensures;
}
