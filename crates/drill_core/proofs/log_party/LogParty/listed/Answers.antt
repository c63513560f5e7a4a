use Rattle.std.proofs.Common.{◌∙◌, ap}
use Rattle.std.proofs.lemmas.Result.{IfOk-weaker}
use Rattle.entry_list.specs.Reading.{items_in}
use Rattle.drill_core.specs.LogParties.{log_shown}
use Rattle.drill_core.proofs.ListedItems.{listed_whole}
use Rattle.drill_core.proofs.log_party.LogParty.listed.Goals as goal

pub returns-clause-read : goal.returns-clause-read
returns-clause-read g c = IfOk-weaker c.item_file.result _ _
    (λ _ text. ap (items_in g.H.TreeHash.hash) text
    ∙ listed_whole g.H.TreeHash.hash (log_shown c.args.self.now) c.law_sound.ensures.items)
    c.item_file.ensures.text
