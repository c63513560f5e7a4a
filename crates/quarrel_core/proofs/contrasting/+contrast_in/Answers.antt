use Rattle.std.proofs.Common.{◌≡◌, length, rules}
use Rattle.tree_proofs.proofs.Opens.{part_from, part_more}
use Rattle.quarrel_core.proofs.ContrastingCases.{case_all, case_part_after, case_part_left}
use Rattle.quarrel_core.proofs.ContrastingCases.{first_short, second_short}
use Rattle.quarrel_core.proofs.OpenLevels.{above_after, above_left}
use Rattle.quarrel_core.proofs.contrasting.+contrast_in.Goals as goal

pub alike-requires-clause-same : goal.alike-requires-clause-same
alike-requires-clause-same g t c =
    let none : length c.args.first.now ≡ 0 = search rules in
    first_short g.H.TreeHash.hash c.args.part.start c.args.part.end c.args.size c.args.part.known
    c.args.node.now c.args.other.now c.args.first.now c.args.second.now none

pub alike-requires-in_default-split_last-clause-same :
    goal.alike-requires-in_default-split_last-clause-same
alike-requires-in_default-split_last-clause-same g t c =
    let none : length c.args.second.now ≡ 0 = search rules in
    second_short g.H.TreeHash.hash c.args.part.start c.args.part.end c.args.size c.args.part.known
    c.args.node.now c.args.other.now c.in-Some.own.now c.args.first.now c.in-Some.less.now
    c.args.second.now c.in-Some.ensures.cases.0 none

pub alike-requires-then-part-size-clause-same : goal.alike-requires-then-part-size-clause-same
alike-requires-then-part-size-clause-same g t c =
    case_all g.H.TreeHash.hash c.args.part.start c.args.part.end c.args.size c.args.part.known
    c.args.node.now c.args.other.now c.in-Some.own.now c.in-Some-split_last.sibling.now
    c.args.first.now c.in-Some.less.now c.args.second.now c.in-Some-split_last.rest.now
    c.in-Some.ensures.cases.0 c.in-Some-split_last.ensures.cases.0 c.if-part-eq0.true
    c.if-part-size.true

pub returns-then-part-k : goal.returns-then-part-k
returns-then-part-k g t c =
    let h = g.H.TreeHash.hash in
    let a = c.args in
    let k = c.split-k.result in
    let split = c.split-k.ensures.value in
    let begins = c.in-Some.ensures.cases.0 in
    let ends = c.in-Some-split_last.ensures.cases.0 in
    let inner = part_from a.part.start a.part.end a.size c.requires.within c.else-part-eq0.either in
    let more = part_more a.part.start a.part.end a.size c.requires.order c.requires.within inner in
    let was = c.in_ok-below.ensures in
    let given = c.in_ok-below.given in
    record {
      finding = case_part_left h a.part.start a.part.end a.size k a.part.known a.node.now
          a.other.now c.in-Some.own.now c.in-Some-split_last.sibling.now a.first.now
          c.in-Some.less.now a.second.now c.in-Some-split_last.rest.now given.first given.second
          c.in_ok-below.below c.in_ok-finding.finding split begins ends inner c.if-part-k.true
          was.first was.second was.finding c.in_ok-finding.ensures;
      first = above_left h a.part.start a.part.end a.size k a.part.known a.node.now
          c.in-Some.own.now a.first.now c.in-Some.less.now c.both_above.result.first given.first
          split begins more c.if-part-k.true was.first c.both_above.ensures.first;
      second = above_left h a.part.start a.part.end a.size k a.part.known a.other.now
          c.in-Some-split_last.sibling.now a.second.now c.in-Some-split_last.rest.now
          c.both_above.result.second given.second split ends more c.if-part-k.true was.second
          c.both_above.ensures.second;
    }

pub returns : goal.returns
returns g t c =
    let h = g.H.TreeHash.hash in
    let a = c.args in
    let k = c.split-k.result in
    let there = c.after-there.result in
    let split = c.split-k.ensures.value in
    let begins = c.in-Some.ensures.cases.0 in
    let ends = c.in-Some-split_last.ensures.cases.0 in
    let inner = part_from a.part.start a.part.end a.size c.requires.within c.else-part-eq0.either in
    let was = c.in_ok-below-2.ensures in
    let given = c.in_ok-below-2.given in
    record {
      finding = case_part_after h a.part.start a.part.end a.size k there.start there.end
          a.part.known there.known a.node.now a.other.now c.in-Some.own.now
          c.in-Some-split_last.sibling.now a.first.now c.in-Some.less.now a.second.now
          c.in-Some-split_last.rest.now given.first given.second c.in_ok-below-2.below
          c.in_ok-finding-2.finding split begins ends inner c.if-part-k.false
          c.after-there.ensures was.first was.second was.finding c.in_ok-finding-2.ensures;
      first = above_after h a.part.start a.part.end a.size k there.start there.end a.part.known
          there.known a.node.now c.in-Some.own.now a.first.now c.in-Some.less.now
          c.both_above-2.result.first given.first split begins c.requires.order c.requires.within
          inner c.if-part-k.false c.after-there.ensures was.first c.both_above-2.ensures.first;
      second = above_after h a.part.start a.part.end a.size k there.start there.end a.part.known
          there.known a.other.now c.in-Some-split_last.sibling.now a.second.now
          c.in-Some-split_last.rest.now c.both_above-2.result.second given.second split ends
          c.requires.order c.requires.within inner c.if-part-k.false c.after-there.ensures
          was.second c.both_above-2.ensures.second;
    }
