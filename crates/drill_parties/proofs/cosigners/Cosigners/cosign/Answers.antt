use Rattle.std.proofs.Common.{◌≡◌, ◌∙◌, ◌+◌, ◌<◌, ◌≤◌, ◌++◌, [], ◌∷◌, ℕ, List, length, take}
use Rattle.std.proofs.Common.{arith, ap, refl, subst, sym, get_or, None, Option}
use Rattle.std.proofs.lemmas.List.{take_all}
use Rattle.std.specs.List.{remove, sum_by}
use Rattle.byte_formats.specs.Types.{Text}
use Rattle.drill_parties.specs.Cosigners.{HaveSigned, IsSigned, keys_used, stops_by}
use Rattle.drill_parties.specs.CosignerViews.{cosigner_shown, cosigner_stops}
use Rattle.drill_parties.specs.Rounds.{stops_in}
use Rattle.drill_parties.specs.declared.turns.Stop.{Stop}
use Rattle.drill_parties.proofs.Going.{all_gone, most_is, next_gone, next_is, none_gone, none_put}
use Rattle.drill_parties.proofs.Going.{put_next, some_left, stops_next, sum_round}
use Rattle.drill_parties.proofs.Pairs.{prefix_more}
use Rattle.drill_parties.proofs.cosigners.Cosigners.cosign.Goals as goal

pub loop-turn-init : goal.loop-turn-init
loop-turn-init g c = record {
  gone = none_gone (IsSigned c.args.size c.args.hash) c.args.self.now.parties.items;
  put = none_put c.args.size c.args.hash c.args.signatures.now;
  keys = omega arith;
  stops = omega arith;
}

pub remove-party-requires : goal.remove-party-requires
remove-party-requires g c =
    let old = c.args.self.now.parties.items in
    let i = c.loop-turn.turn-index in
    let turns = ap length c.as_slice-turn-items.ensures in
    let below : i < length old = omega (arith, c.loop-turn-test.true, turns, c.requires.turns) in
    let some = some_left (IsSigned c.args.size c.args.hash) i old
    c.loop-turn.self.parties.items c.loop-turn.invariant.gone below in
    let len = c.loop-turn.self.parties.ok.0 in
    omega (arith, some, len)

pub loop-turn-preserved : goal.loop-turn-preserved
loop-turn-preserved g c =
    let old = c.args.self.now.parties.items in
    let i = c.loop-turn.turn-index in
    let before = c.loop-turn.invariant in
    let now = c.loop-turn.self.parties.items in
    let x = c.remove-party.result in
    let y = c.in_ok-party.party in
    let turns = ap length c.as_slice-turn-items.ensures in
    let below : i < length old = omega (arith, c.loop-turn-test.true, turns, c.requires.turns) in
    let some = some_left (IsSigned c.args.size c.args.hash) i old now before.gone below in
    let next : c.push.new.self.items ≡ remove now 0 ++ y ∷ [] =
    c.in_ok-push.ensures.items ∙ ap (λ xs. xs ++ y ∷ []) c.remove-party.ensures.items in
    let stops = sum_round cosigner_stops now c.push.new.self.items x y some
    c.remove-party.ensures.value next in
    let keys = sum_round (λ party. (cosigner_shown party).key.next) now c.push.new.self.items x y
    some c.remove-party.ensures.value next in
    let items = c.as_slice-turn-items.result.now in
    let turn = stops_next c.args.turns.now items i c.as_slice-turn-items.ensures
    c.loop-turn-test.true in
    let most = most_is (get_or items i None) in
    let stops_so_far = before.stops in
    let keys_so_far = before.keys in
    let one = c.in_ok-party.ensures.stops in
    let key = c.in_ok-party.ensures.keys in
    let more = prefix_more old i x below (next_is (IsSigned c.args.size c.args.hash) i old now x
    before.gone below c.remove-party.ensures.value) in
    record {
      gone = next_gone (IsSigned c.args.size c.args.hash) i old now c.push.new.self.items x y
          before.gone below c.remove-party.ensures.value next c.in_ok-party.ensures.state;
      put = subst (λ list. HaveSigned c.args.size c.args.hash list c.args.signatures.now
          c.signed.new.signatures) (sym more) (put_next c.args.size c.args.hash (take i old) x
          c.args.signatures.now c.loop-turn.signatures c.signed.new.signatures before.put
          c.in_ok-party.ensures.put);
      keys = omega (arith, keys, turn, keys_so_far, key, most);
      stops = omega (arith, stops, turn, stops_so_far, one);
    }

pub returns-clause-each : goal.returns-clause-each
returns-clause-each g c =
    let turns = ap length c.as_slice-turn-items.ensures in
    let ends = c.loop-turn-test.false in
    all_gone (IsSigned c.args.size c.args.hash) c.loop-turn.turn-index c.args.self.now.parties.items
    c.loop-turn.self.parties.items c.loop-turn.invariant.gone
    (omega (arith, ends, turns, c.requires.turns))

pub returns-clause-signed : goal.returns-clause-signed
returns-clause-signed g c =
    let turns = ap length c.as_slice-turn-items.ensures in
    let ends = c.loop-turn-test.false in
    subst (λ list. HaveSigned c.args.size c.args.hash list c.args.signatures.now
    c.loop-turn.signatures) (take_all c.loop-turn.turn-index c.args.self.now.parties.items
    (omega (arith, ends, turns, c.requires.turns))) c.loop-turn.invariant.put

pub returns-clause-keys : goal.returns-clause-keys
returns-clause-keys g c =
    let turns = ap length c.as_slice-turn-items.ensures in
    let ends = c.loop-turn-test.false in
    let most = c.loop-turn.auto.turn-index-end in
    let all = ap stops_in (take_all c.loop-turn.turn-index c.args.turns.now
    (omega (arith, ends, turns))) in
    let keys = c.loop-turn.invariant.keys in
    omega (arith, keys, all, turns, most, c.requires.turns)

pub returns-clause-stops : goal.returns-clause-stops
returns-clause-stops g c =
    let turns = ap length c.as_slice-turn-items.ensures in
    let ends = c.loop-turn-test.false in
    c.loop-turn.invariant.stops
    ∙ ap (λ (list : List (Option Stop)). stops_by c.args.self.now.parties.items + stops_in list)
    (take_all c.loop-turn.turn-index c.args.turns.now (omega (arith, ends, turns)))
