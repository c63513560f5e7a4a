use Rattle.std.proofs.Common.{◌≡◌, ◌<◌, length, get_or, ap, ◌∙◌, arith}
use Rattle.std.specs.List.{AllByRecursion}
use Rattle.std.proofs.lemmas.List.{length-append}
use Rattle.cert_names.specs.Hosts.{IsHostName}
use Rattle.authority_core.proofs.Items.{AllByRecursion-at}
use Rattle.authority_core.proofs.Labels.{host-short}
use Rattle.authority_core.proofs.Sizes.{names-short}
use Rattle.authority_core.proofs.issuing.extensions.dns_names.Goals as goal

pub put-requires-clause-short : goal.put-requires-clause-short
put-requires-clause-short c =
    let xs = c.as_slice-name-items.result.now in
    let all : AllByRecursion IsHostName xs =
    rw c.as_slice-name-items.ensures.value c.as_slice-name-items.ensures.hosts.each in
    let within : c.loop-name.name-index < length xs = omega arith in
    let host = AllByRecursion-at IsHostName xs c.loop-name.name-index c.name-item.result
    within all in
    let same : c.as_slice.result.now ≡ get_or xs c.loop-name.name-index c.name-item.result =
    c.as_slice.ensures ∙ c.name-item.is in
    omega (
      arith,
      ap length same,
      host-short (get_or xs c.loop-name.name-index c.name-item.result)
          host,
    )

pub returns-clause-short : goal.returns-clause-short
returns-clause-short c =
    let whole = simp length-append at (ap length c.loop-name.invariant) in
    omega (arith, whole, names-short c.args.names.now c.as_slice-name-items.ensures.hosts)
