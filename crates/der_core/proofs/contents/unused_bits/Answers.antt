use Rattle.std.proofs.Common.{◌≢◌, ◌*◌, ◌^◌, ◌<◌, ◌≤◌, length, refl, arith, mod-eq_of_lt, ne_eqb}
use Rattle.std.proofs.Common.{one-mul}
use Rattle.std.proofs.Math.Pow.{pow_mono}
use Rattle.der_core.proofs.contents.unused_bits.Goals as goal

pub returns-in-len1-up : goal.returns-in-len1-up
returns-in-len1-up c =
    let some : length c.args.bytes.now ≢ 0 = omega (arith, c.in-len1-up.len_at_least) in
    let few : c.args.unused ≤ 7 = omega (arith, c.requires) in
    let fits : 1 * 2 ^ c.args.unused < 256 = omega (arith, pow_mono few) in
    rw (ne_eqb (length c.args.bytes.now) 0 some, mod-eq_of_lt fits, one-mul) refl
