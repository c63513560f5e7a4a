use Rattle.std.proofs.Common.{◌≡◌, ◌++◌, length, drop, option_map}
use Rattle.std.specs.List.{AllByRecursion}
use Rattle.toml.specs.View.{items_view}
use Rattle.authority_core.specs.Files.{hosts_in}
use Rattle.cert_names.specs.Hosts.{IsHostName}
use Rattle.authority_core.proofs.requests.values.hosts_of.Given as goal

-- the names so far are host names, and with those that the rest says they make the whole
abbrev pub invariant-loop-value : goal.invariant-loop-value
invariant-loop-value l = record {
  whole : option_map (λ names. l.items.items ++ names)
      (hosts_in (items_view (drop l.value-index l.values))) ≡ hosts_in (items_view l.values);
  hosts : AllByRecursion IsHostName l.items.items;
  count : length l.items.items ≡ l.value-index;
}
