use Rattle.std.proofs.Common.{◌^◌}
use Rattle.drill_parties.specs.Cosigners.{stops_by}
use Rattle.drill_core.specs.LogParties.{log_stops}
use Rattle.drill_core.proofs.Numbers.{second_few, sum_fits, sum_is}
use Rattle.drill_core.proofs.parties.DrillParties.stops.Goals as goal

pub stops-requires : goal.stops-requires
stops-requires g c = second_few (log_stops c.args.self.now.log)
    (stops_by c.args.self.now.cosigners.parties.items) (2 ^ 32) c.requires

pub overflow_add-result : goal.overflow_add-result
overflow_add-result g c = sum_fits (log_stops c.args.self.now.log)
    (stops_by c.args.self.now.cosigners.parties.items) c.count-log.result c.stops.result c.requires
    c.count-log.ensures c.stops.ensures

pub returns : goal.returns
returns g c = sum_is (log_stops c.args.self.now.log)
    (stops_by c.args.self.now.cosigners.parties.items) c.count-log.result c.stops.result
    c.count-log.ensures c.stops.ensures
