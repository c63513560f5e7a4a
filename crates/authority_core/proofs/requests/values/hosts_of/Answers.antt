use Rattle.std.proofs.Common.{◌≡◌, ◌+◌, ◌++◌, List, length, drop, IfSome, option_map, ap, sym}
use Rattle.std.proofs.Common.{subst, ◌∙◌}
use Rattle.std.proofs.lemmas.List.{length_push}
use Rattle.std.specs.List.{AllByRecursion}
use Rattle.byte_formats.specs.Types.{Text}
use Rattle.toml.specs.View.{items_view}
use Rattle.authority_core.specs.Files.{hosts_in}
use Rattle.cert_names.specs.Hosts.{IsHostName}
use Rattle.authority_core.proofs.Items.{AllByRecursion-push, hosts_next, hosts_not}
use Rattle.authority_core.proofs.requests.values.hosts_of.Goals as goal

pub returns-in_default : goal.returns-in_default
returns-in_default c =
    hosts_not c.args.values.now c.loop-value.value-index c.value-item.result
    c.loop-value.items.items c.loop-value-test.true c.value-item.is c.loop-value.invariant.whole
    (sym c.in_default.is ∙ c.in_ok-name.ensures.value)

pub loop-value-preserved : goal.loop-value-preserved
loop-value-preserved c =
    let named = sym c.in-Some.is ∙ c.in_ok-name.ensures.value in
    let grown = sym c.in_ok-push.ensures.items in
    record {
      whole = subst (λ (l : List Text). option_map (λ names. l ++ names) (hosts_in (items_view
          (drop (c.loop-value.value-index + 1) c.args.values.now)))
          ≡ hosts_in (items_view c.args.values.now)) grown
          (hosts_next c.args.values.now c.loop-value.value-index c.value-item.result
          c.loop-value.items.items c.loop-value-test.true c.value-item.is
          c.loop-value.invariant.whole c.in-Some.name named);
      hosts = subst (λ (l : List Text). AllByRecursion IsHostName l) grown
          (AllByRecursion-push IsHostName c.loop-value.items.items c.in-Some.name
          c.loop-value.invariant.hosts
          (subst (λ o. IfSome o IsHostName) c.in-Some.is c.in_ok-name.ensures.host));
      count = ap length c.in_ok-push.ensures.items ∙ length_push c.loop-value.items.items
          c.in-Some.name ∙ ap (λ n. n + 1) c.loop-value.invariant.count;
    }
