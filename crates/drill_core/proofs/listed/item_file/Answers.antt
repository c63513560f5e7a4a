use Rattle.std.proofs.Common.{ap, sym, ◌∙◌, ◌++◌}
use Rattle.issuance_log.specs.Staying.{stays_both}
use Rattle.drill_core.specs.Parties.{log_seen}
use Rattle.entry_list.specs.Items.{file_text, listed_text}
use Rattle.drill_core.specs.Listed.{log_items}
use Rattle.entry_list.proofs.OwnKeys.{items_more}
use Rattle.drill_core.proofs.OnlyRead.{seen_stays}
use Rattle.drill_core.proofs.listed.item_file.Goals as goal

pub loop-index-preserved : goal.loop-index-preserved
loop-index-preserved g c =
    let so_far = c.loop-index.invariant in
    let index = c.loop-index.index in
    let first = log_seen c.args.log.now in
    record {
      stays = stays_both _ _ _ so_far.stays c.put_item.ensures.stays;
      text = c.in_ok-put_item.ensures.text
          ∙ ap (λ t. t ++ listed_text (log_items (log_seen c.loop-index.log)) index) so_far.text
          ∙ ap (λ s. file_text (log_items first) index ++ listed_text (log_items s) index)
          (seen_stays _ _ so_far.stays)
          ∙ sym (items_more (log_items first) index);
    }

pub returns-in_err-put_item-clause-stays : goal.returns-in_err-put_item-clause-stays
returns-in_err-put_item-clause-stays g c =
    stays_both _ _ _ c.loop-index.invariant.stays c.put_item.ensures.stays
