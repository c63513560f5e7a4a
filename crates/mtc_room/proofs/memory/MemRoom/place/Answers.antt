use Rattle.std.proofs.Common.{◌≡◌, Some, sym, subst, arith}
use Rattle.std.specs.Option.{IsSomeAnd}
use Rattle.std.specs.BTreeMap.{get_by_text}
use Rattle.std.proofs.lemmas.Map.Text.{text_keys}
use Rattle.disk_core.specs.Memory.{IsFresh, failing_of}
use Rattle.mtc_room.proofs.memory.MemRoom.place.Goals as goal

pub returns-clause-placed : goal.returns-clause-placed
returns-clause-placed c =
    let is : get_by_text c.insert.new.self c.args.name.now ≡ Some c.over.result
    = grind (arith, text_keys) in
    subst (λ x. IsSomeAnd x (λ d. IsFresh c.args.bytes d
    × (failing_of d ≡ c.args.failing.items))) (sym is)
    (c.over.ensures.fresh, c.over.ensures.failing)

pub returns-clause-others : goal.returns-clause-others
returns-clause-others c = grind (arith, text_keys)
