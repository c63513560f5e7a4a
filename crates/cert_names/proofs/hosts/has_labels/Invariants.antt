use Rattle.std.proofs.Common.{◌≡◌, true, length}
use Rattle.cert_names.specs.Hosts.{are_labels, labels_of}
use Rattle.cert_names.proofs.hosts.has_labels.Given as goal

-- the labels that are left are in their form where all are
abbrev pub invariant-loop-label : goal.invariant-loop-label
invariant-loop-label l = are_labels l.first (labels_of l.rest) ≡ are_labels true (labels_of l.text)

abbrev pub decreases-loop-label : goal.decreases-loop-label
decreases-loop-label l = length l.rest
