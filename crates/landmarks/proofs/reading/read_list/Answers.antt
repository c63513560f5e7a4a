use Rattle.landmarks.proofs.BothWays.{landmarks_read}
use Rattle.landmarks.specs.Views.{list_head}
use Rattle.landmarks.proofs.reading.read_list.Goals as goal

pub of_sizes-landmarks-requires : goal.of_sizes-landmarks-requires
of_sizes-landmarks-requires c = landmarks_read c.args.max_active c.args.text.now
    (list_head c.in_ok-head.head)
    c.read_sizes.new.sizes.items c.in_ok-rest.rest.now c.in_ok-head.ensures.exact
    c.in_ok-rest.ensures.ok
