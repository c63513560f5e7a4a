use Rattle.std.proofs.Common.{arith}
use Rattle.cosigner_steps.proofs.Holding.{found_at}
use Rattle.quarrel_core.proofs.Verdicts.{conflict_indices, conflict_steps, first_carried}
use Rattle.quarrel_core.proofs.Verdicts.{first_signs, second_carried, second_signs}
use Rattle.quarrel_core.proofs.quarrelling.pair_between.Goals as goal

pub unreachable-requires : goal.unreachable-requires
unreachable-requires g c =
    first_signs c.args.steps.now c.args.one c.args.other c.index-steps-one.result
    c.requires.conflict c.index-steps-one.is c.in_default.not-Sign

pub unreachable-requires-in_default-steps : goal.unreachable-requires-in_default-steps
unreachable-requires-in_default-steps g c =
    second_signs c.args.steps.now c.args.one c.args.other c.index-steps-other.result
    c.requires.conflict c.index-steps-other.is c.in_default-steps.not-Sign

pub pair_of-requires-clause-order : goal.pair_of-requires-clause-order
pair_of-requires-clause-order g c =
    let order =
    (conflict_indices c.args.steps.now c.args.one c.args.other c.requires.conflict).order in
    omega arith

pub pair_of-requires-clause-first : goal.pair_of-requires-clause-first
pair_of-requires-clause-first g c =
    first_carried g.H.TreeHash.hash c.args.steps.now c.args.one c.in-Sign.index c.in-Sign.start
    c.in-Sign.end c.in-Sign.hash c.in-Sign.proof c.as_slice-proof.result.now c.requires.allowed
    c.requires.first (found_at c.args.steps.now c.args.one _ _ c.index-steps-one.is c.in-Sign.is)
    c.as_slice-proof.ensures c.law_are_whole.ensures

pub pair_of-requires-clause-second : goal.pair_of-requires-clause-second
pair_of-requires-clause-second g c =
    let both = conflict_steps c.args.steps.now c.args.one c.args.other _ _ c.requires.conflict
    (found_at c.args.steps.now c.args.one _ _ c.index-steps-one.is c.in-Sign.is)
    (found_at c.args.steps.now c.args.other _ _ c.index-steps-other.is c.in-Sign-steps.is) in
    second_carried g.H.TreeHash.hash c.args.steps.now c.args.other c.in-Sign-steps.index
    c.in-Sign.start c.in-Sign.end c.in-Sign-steps.start c.in-Sign-steps.end c.in-Sign-steps.node
    c.in-Sign-steps.shown c.as_slice-shown.result.now c.requires.allowed c.requires.second
    (found_at c.args.steps.now c.args.other _ _ c.index-steps-other.is c.in-Sign-steps.is)
    c.as_slice-shown.ensures c.law_are_whole-2.ensures both.0 both.1

pub pair_of-requires-clause-differ : goal.pair_of-requires-clause-differ
pair_of-requires-clause-differ g c =
    let both = conflict_steps c.args.steps.now c.args.one c.args.other _ _ c.requires.conflict
    (found_at c.args.steps.now c.args.one _ _ c.index-steps-one.is c.in-Sign.is)
    (found_at c.args.steps.now c.args.other _ _ c.index-steps-other.is c.in-Sign-steps.is) in
    both.2
