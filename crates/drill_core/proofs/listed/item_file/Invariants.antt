use Rattle.std.proofs.Common.{◌≡◌}
use Rattle.issuance_log.specs.Words.{LogStays}
use Rattle.drill_core.specs.Parties.{log_seen}
use Rattle.entry_list.specs.Items.{file_text}
use Rattle.drill_core.specs.Listed.{log_items}
use Rattle.drill_core.proofs.listed.item_file.Given as goal

-- the items so far were written
abbrev pub invariant-loop-index : goal.invariant-loop-index
invariant-loop-index g l = record {
  stays : LogStays l.initial.log l.log;
  text : l.out ≡ file_text (log_items (log_seen l.initial.log)) l.index;
}
