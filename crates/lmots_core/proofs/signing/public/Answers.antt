use Rattle.std.proofs.Common.{rules}
use Rattle.lmots_core.specs.Ots.{key_of_ends, public_key}
use Rattle.lmots_core.proofs.signing.public.Goals as goal

pub returns : goal.returns
unfolding public_key key_of_ends
returns c = search rules
