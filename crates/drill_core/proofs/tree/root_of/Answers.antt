use Rattle.std.proofs.Common.{◌∙◌, ℕ, ap}
use Rattle.std.proofs.lemmas.Result.{IfOk-weaker}
use Rattle.tree_core.specs.Path.{part_of}
use Rattle.tree_core.specs.Tree.{tree_hash}
use Rattle.tree_proofs.proofs.Aligned.{first_valid}
use Rattle.drill_core.specs.Parties.{log_seen}
use Rattle.drill_core.proofs.FirstEntries.{all_of}
use Rattle.drill_core.proofs.Numbers.{no_more}
use Rattle.drill_core.proofs.tree.root_of.Goals as goal

pub hash_of-requires-clause-valid : goal.hash_of-requires-clause-valid
hash_of-requires-clause-valid g c =
    first_valid c.size_of-size.result c.size_of-size.ensures.some

pub hash_of-requires-clause-within : goal.hash_of-requires-clause-within
hash_of-requires-clause-within g c = no_more _ _ c.size_of-size.ensures.value

pub returns-clause-hash : goal.returns-clause-hash
returns-clause-hash g c =
    let entries = (log_seen c.args.log.now).entries in
    IfOk-weaker c.hash_of.result _ _ (λ _ hash. hash
    ∙ ap (λ (n : ℕ). tree_hash g.H.TreeHash.hash (part_of entries 0 n))
    c.size_of-size.ensures.value
    ∙ ap (tree_hash g.H.TreeHash.hash) (all_of entries)) c.hash_of.ensures.hash
