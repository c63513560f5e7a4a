use Rattle.std.proofs.Common.{◌≡◌, ◌∙◌, ◌+◌, ◌<◌, ◌≤◌, ◌++◌, [], ◌∷◌, ℕ, List, length, take}
use Rattle.std.proofs.Common.{arith, ap, refl, subst, sym, get_or, None, Option}
use Rattle.std.proofs.lemmas.List.{take_all}
use Rattle.std.specs.List.{remove, sum_by}
use Rattle.drill_parties.specs.Cosigners.{IsAdvanced, stops_by}
use Rattle.drill_parties.specs.CosignerViews.{cosigner_shown, cosigner_stops}
use Rattle.drill_parties.specs.Rounds.{stops_in}
use Rattle.drill_parties.specs.declared.turns.Stop.{Stop}
use Rattle.drill_parties.proofs.Going.{all_gone, next_gone, next_is, none_gone, some_left}
use Rattle.drill_parties.proofs.Going.{stops_next, sum_round}
use Rattle.drill_parties.proofs.Pairs.{all_at}
use Rattle.drill_parties.proofs.cosigners.Cosigners.advance.Goals as goal

pub loop-turn-init : goal.loop-turn-init
loop-turn-init g c = record {
  gone = none_gone (IsAdvanced c.args.size c.args.root) c.args.self.now.parties.items;
  stops = omega arith;
}

pub remove-party-requires : goal.remove-party-requires
remove-party-requires g c =
    let old = c.args.self.now.parties.items in
    let i = c.loop-turn.turn-index in
    let turns = ap length c.as_slice-turn-items.ensures in
    let below : i < length old = omega (arith, c.loop-turn-test.true, turns, c.requires.turns) in
    let some = some_left (IsAdvanced c.args.size c.args.root) i old
    c.loop-turn.self.parties.items c.loop-turn.invariant.gone below in
    let len = c.loop-turn.self.parties.ok.0 in
    omega (arith, some, len)

pub advanced-requires : goal.advanced-requires
advanced-requires g c =
    let old = c.args.self.now.parties.items in
    let i = c.loop-turn.turn-index in
    let turns = ap length c.as_slice-turn-items.ensures in
    let below : i < length old = omega (arith, c.loop-turn-test.true, turns, c.requires.turns) in
    all_at (λ party. (cosigner_shown party).held.size < c.args.size) old i c.remove-party.result
    c.requires.larger below
    (next_is (IsAdvanced c.args.size c.args.root) i old c.loop-turn.self.parties.items
    c.remove-party.result c.loop-turn.invariant.gone below c.remove-party.ensures.value)

pub loop-turn-preserved : goal.loop-turn-preserved
loop-turn-preserved g c =
    let old = c.args.self.now.parties.items in
    let i = c.loop-turn.turn-index in
    let before = c.loop-turn.invariant in
    let now = c.loop-turn.self.parties.items in
    let x = c.remove-party.result in
    let y = c.in_ok-party.party in
    let turns = ap length c.as_slice-turn-items.ensures in
    let below : i < length old = omega (arith, c.loop-turn-test.true, turns, c.requires.turns) in
    let some = some_left (IsAdvanced c.args.size c.args.root) i old now before.gone below in
    let next : c.push.new.self.items ≡ remove now 0 ++ y ∷ [] =
    c.in_ok-push.ensures.items ∙ ap (λ xs. xs ++ y ∷ []) c.remove-party.ensures.items in
    let sum = sum_round cosigner_stops now c.push.new.self.items x y some
    c.remove-party.ensures.value next in
    let turn = stops_next c.args.turns.now c.as_slice-turn-items.result.now i
    c.as_slice-turn-items.ensures c.loop-turn-test.true in
    let so_far = before.stops in
    let one = c.in_ok-party.ensures.stops in
    record {
      gone = next_gone (IsAdvanced c.args.size c.args.root) i old now c.push.new.self.items x y
          before.gone below c.remove-party.ensures.value next c.in_ok-party.ensures.state;
      stops = omega (arith, sum, turn, so_far, one);
    }

pub returns-clause-each : goal.returns-clause-each
returns-clause-each g c =
    let turns = ap length c.as_slice-turn-items.ensures in
    let ends = c.loop-turn-test.false in
    all_gone (IsAdvanced c.args.size c.args.root) c.loop-turn.turn-index
    c.args.self.now.parties.items
    c.loop-turn.self.parties.items c.loop-turn.invariant.gone
    (omega (arith, ends, turns, c.requires.turns))

pub returns-clause-stops : goal.returns-clause-stops
returns-clause-stops g c =
    let turns = ap length c.as_slice-turn-items.ensures in
    let ends = c.loop-turn-test.false in
    c.loop-turn.invariant.stops
    ∙ ap (λ (list : List (Option Stop)). stops_by c.args.self.now.parties.items + stops_in list)
    (take_all c.loop-turn.turn-index c.args.turns.now (omega (arith, ends, turns)))
