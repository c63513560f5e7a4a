use Rattle.tls_wire.proofs.ArcForm.{arcs_form}
use Rattle.tls_wire.proofs.AnchorForm.{anchor_takes, anchor_again}
use Rattle.tls_wire.proofs.laws.law_anchor_ids_decode_as_encoded.Goals as goal

pub returns-clause-arcs : goal.returns-clause-arcs
returns-clause-arcs c = arcs_form

pub returns-clause-read : goal.returns-clause-read
returns-clause-read c = anchor_takes

pub returns-clause-again : goal.returns-clause-again
returns-clause-again c = anchor_again
