use Rattle.std.proofs.Common.{◌≡◌, ◌∙◌, ℕ, length, sym, ap, subst, arith}
use Rattle.std.proofs.lemmas.Result.{IfOk-weaker}
use Rattle.issuance_log.specs.Folds.{LogState}
use Rattle.drill_parties.specs.Rounds.{after_rounds, begun}
use Rattle.drill_parties.proofs.Pairs.{paired_length}
use Rattle.drill_core.specs.LogParties.{log_shown}
use Rattle.drill_core.specs.Played.{IsPartyAfter, IsStanding, cosigner_arcs}
use Rattle.drill_core.proofs.Ending.{is_drill_output}
use Rattle.drill_core.proofs.EntryCounts.{entries_length}
use Rattle.drill_core.proofs.Standing.{standing_first}
use Rattle.drill_core.proofs.Turns.{hold_that}
use Rattle.drill_core.proofs.drill.play_drill.Goals as goal

pub loop-round-init : goal.loop-round-init
loop-round-init g c = subst (λ (x : ℕ). IsStanding g.H.TreeHash.hash c.args.number 0 x
    c.in_ok-parties.parties) (sym c.new-dice.ensures)
    (standing_first g.H.TreeHash.hash c.args.number c.in_ok-parties.parties c.in_ok-parties.ensures)

pub loop-round-preserved : goal.loop-round-preserved
loop-round-preserved g c =
    c.in_ok-parties-2.ensures c.args.number c.loop-round._round c.loop-round.invariant

pub go_on-requires : goal.go_on-requires
go_on-requires g c =
    let h = g.H.TreeHash.hash in
    let parties = c.loop-round.parties in
    let i = c.loop-round._round in
    let is = c.loop-round.invariant in
    let d = after_rounds i (begun c.args.number) in
    let size : length (log_shown parties.log).entries ≡ d.size =
    ap (λ (l : LogState). length l.entries) is.after.log ∙ entries_length h d.size in
    let some = is.some in
    let test = c.loop-round-test.true in
    let verified = is.after.verified in
    let stands = is.after.stands in
    let light = is.after.light in
    let few = is.after.few_marks in
    record {
      three = sym (paired_length (IsPartyAfter h c.args.number i d) cosigner_arcs
          parties.cosigners.parties.items is.after.cosigners);
      held = hold_that h c.args.number i d cosigner_arcs parties.cosigners.parties.items
          (length (log_shown parties.log).entries) (omega (arith, size)) (omega (arith, size, some))
          is.after.cosigners;
      verified = omega (arith, verified, test);
      stands = omega (arith, stands, test);
      light = omega (arith, light, few, test);
    }

pub into_output-requires-clause-stops : goal.into_output-requires-clause-stops
into_output-requires-clause-stops g c =
    let stops = c.loop-round.invariant.after.stops in
    let few = c.loop-round.invariant.after.few_stops in
    let ends = c.loop-round.auto._round-end in
    omega (arith, stops, few, ends)

pub into_output-requires-clause-few : goal.into_output-requires-clause-few
into_output-requires-clause-few g c =
    let i = c.loop-round._round in
    let three = paired_length (IsPartyAfter g.H.TreeHash.hash c.args.number i
    (after_rounds i (begun c.args.number))) cosigner_arcs
    c.loop-round.parties.cosigners.parties.items
    c.loop-round.invariant.after.cosigners in
    omega (arith, three)

pub returns : goal.returns
returns g c =
    let all : c.loop-round._round ≡ 16 =
    omega (arith, c.loop-round-test.false, c.loop-round.auto._round-end) in
    let stands : IsStanding g.H.TreeHash.hash c.args.number 16 c.loop-round.dice.number
    c.loop-round.parties =
    subst (λ (k : ℕ). IsStanding g.H.TreeHash.hash c.args.number k c.loop-round.dice.number
    c.loop-round.parties) all c.loop-round.invariant in
    IfOk-weaker c.into_output.result _ _
    (λ made out. is_drill_output g.H.TreeHash.hash c.args.number c.loop-round.parties made
    stands.after out)
    c.into_output.ensures
