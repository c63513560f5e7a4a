use Rattle.std.proofs.Common.{◌≡◌, [], Some, sym, subst, arith}
use Rattle.std.specs.Option.{IsSomeAnd}
use Rattle.std.specs.BTreeMap.{get_by_text}
use Rattle.std.proofs.lemmas.Map.Text.{text_keys}
use Rattle.disk_core.specs.Memory.{IsFresh, failing_of}
use Rattle.disk_core.specs.Same.{SameDevice}
use Rattle.disk_core.specs.contracts.memory.mem_disk.MemDiskDisk.TheImpl.{ghosts}
use Rattle.mtc_room.proofs.memory.MemRoom.make.Goals as goal

pub returns-clause-others : goal.returns-clause-others
returns-clause-others c = grind (arith, text_keys)

pub returns-clause-made : goal.returns-clause-made
returns-clause-made c =
    let is : get_by_text c.insert.new.self c.args.name.now ≡ Some c.new-disk.result
    = grind (arith, text_keys) in
    subst (λ x. IsSomeAnd x (λ e. IsFresh [] e × SameDevice ghosts e c.in_ok-opened.opened))
    (sym is)
    (c.new-disk.ensures.fresh, c.in_ok-opened.ensures.same)

pub returns-clause-listed : goal.returns-clause-listed
returns-clause-listed c =
    let is : get_by_text c.insert.new.self c.args.name.now ≡ Some c.new-disk.result
    = grind (arith, text_keys) in
    subst (λ x. IsSomeAnd x (λ e. failing_of e ≡ c.args.self.now.fresh_failing.items)) (sym is)
    (grind arith)
