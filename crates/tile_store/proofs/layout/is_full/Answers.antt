use Rattle.std.proofs.Common.{arith}
use Rattle.tile_store.proofs.Numbers.{full-low}
use Rattle.tile_store.proofs.layout.is_full.Goals as goal

pub returns-in_default : goal.returns-in_default
returns-in_default c = (
  λ yes. let no : ⊥ = cc in absurd no,
  λ full.
      let low = full-low c.args.size c.args.key.level c.args.key.place c.requires full in
      let no : ⊥ = omega arith in
      absurd no,
)
