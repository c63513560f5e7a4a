use Rattle.std.proofs.Common.{◌∙◌, ◌+◌, ◌<◌, ◌≤◌, ℕ, length, ap, subst}
use Rattle.std.proofs.lemmas.Result.{IfOk-weaker}
use Rattle.drill_parties.specs.Draws.{round}
use Rattle.drill_core.proofs.Standing.{standing_on}
use Rattle.drill_core.proofs.Turns.{each_disk}
use Rattle.drill_core.proofs.drill.go_on.Goals as goal

pub returns : goal.returns
returns g c = IfOk-weaker c.play.result _ _ (λ it played. λ number count is.
    let r = c.in_ok-round.ensures in
    standing_on g.H.TreeHash.hash number count c.args.dice.now.number c.round.new.self.number
    c.in_ok-round.round c.args.parties it (record {
      sized = g.met.H.TreeHash.sized;
      was = is;
      drawn = r.drawn ∙ ap (λ (k : ℕ). round k c.args.dice.now.number)
          c.size_of-size.ensures.value;
      played = played;
      disks = each_disk it.cosigners.parties.items;
      early = c.requires.verified;
      three = r.few;
      index = subst (λ (n : ℕ). (1 ≤ c.in_ok-round.round.index)
          × (c.in_ok-round.round.index < n + length c.in_ok-round.round.entries))
          c.size_of-size.ensures.value r.index;
      advances = r.advances;
      signs = r.signs;
    })) c.play.ensures
