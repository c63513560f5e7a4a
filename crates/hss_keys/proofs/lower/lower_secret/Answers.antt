use Rattle.std.proofs.Common.{◌∙◌, arith, refl, take}
use Rattle.std.proofs.lemmas.List.{length-take-le}
use Rattle.byte_formats.specs.Types.{Text}
use Rattle.hss_keys.specs.Keys.{lower_secret}
use Rattle.hss_keys.proofs.Newest.{two_puts}
use Rattle.hss_keys.proofs.lower.lower_secret.Goals as goal

pub returns : goal.returns
unfolding lower_secret
returns c =
    let hash : Text = c.secret_start-lower_id.result in
    let first : Text = take 16 hash in
    let short = length-take-le 16 hash (omega arith) in
    c.in-Some.ensures.1
    ∙ (two_puts first c.secret_start-lower_seed.result c.put.new.out c.put-2.new.out short
    (omega arith) (omega arith) c.put.ensures.prefix c.put-2.ensures.prefix
    ∙ rw (
      c.secret_start-lower_id.ensures,
      c.secret_start-lower_seed.ensures,
      c.identifier-id.ensures,
      c.read_32-seed.ensures,
      c.as_bytes.ensures.value,
    ) refl)
