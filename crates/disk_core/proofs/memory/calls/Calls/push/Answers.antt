use Rattle.std.proofs.Common.{List, ap, arith, length, ◌∙◌}
use Rattle.std.proofs.lemmas.List.{length_push}
use Rattle.disk_core.specs.Calls.{are_changes, calls_in}
use Rattle.disk_core.specs.declared.memory.call.Change.{Change}
use Rattle.disk_core.specs.declared.memory.call.Made.{Made}
use Rattle.disk_core.proofs.Calls.{change_more, kept_more}
use Rattle.disk_core.proofs.memory.calls.Calls.push.Goals as goal

pub invariant_of-self : goal.invariant_of-self
invariant_of-self c =
    let it = c.args.self.now in
    let made : Made = record { call = c.args.call; ok = c.args.ok } in
    let change : Change = record { only_reads = it.only_reads; made = made } in
    let more = ap (λ (changes : List Change). length (calls_in changes 0)) c.put.ensures
    ∙ ap length (change_more it.changes.items change) in
    let longer = length_push (calls_in it.changes.items it.only_reads) made in
    record {
      counted = omega (arith, more, longer, it.counted);
      kept = ap are_changes c.put.ensures
          ∙ kept_more it.changes.items change it.kept c.requires.change;
    }
