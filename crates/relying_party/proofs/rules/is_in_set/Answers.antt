use Rattle.relying_party.proofs.Sets.{none_above}
use Rattle.relying_party.proofs.rules.is_in_set.Goals as goal

pub returns-else-place-lt64 : goal.returns-else-place-lt64
returns-else-place-lt64 c =
    none_above c.args.set c.args.place c.ranges.set.fits c.if-place-lt64.false
