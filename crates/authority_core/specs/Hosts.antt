-- The host names of a request.
use Rattle.std.specs.Prelude.{◌≤◌, List, length}
use Rattle.std.specs.List.{AllByRecursion}
use Rattle.byte_formats.specs.Types.{Text}
use Rattle.cert_names.specs.Hosts.{IsHostName}

-- At most 100 host names.
pub record AreHostNames (names : List Text) : Type 0 where
  pub few : length names ≤ 100
  pub each : AllByRecursion IsHostName names
