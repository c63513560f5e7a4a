use Rattle.issuance_log.proofs.Encoded.{mark_adds_none, switch_adds_none, tiles_add_none}
use Rattle.issuance_log.proofs.Shown.{recorded_other, shown_added, shown_batched, shown_longer}
use Rattle.issuance_log.proofs.Shown.{shown_so}
use Rattle.issuance_log.proofs.laws.law_records_determine_the_items.Goals as goal

pub returns-clause-whole : goal.returns-clause-whole
returns-clause-whole c = shown_so

pub returns-clause-longer : goal.returns-clause-longer
returns-clause-longer c = shown_longer

pub returns-clause-added : goal.returns-clause-added
returns-clause-added c = shown_added

pub returns-clause-batched : goal.returns-clause-batched
returns-clause-batched c = shown_batched

pub returns-clause-marked : goal.returns-clause-marked
returns-clause-marked c = λ list size. recorded_other list _ (mark_adds_none size)

pub returns-clause-tiled : goal.returns-clause-tiled
returns-clause-tiled c = λ list size. recorded_other list _ (tiles_add_none size)

pub returns-clause-switched : goal.returns-clause-switched
returns-clause-switched c = λ list size. recorded_other list _ (switch_adds_none size)
