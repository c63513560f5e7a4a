use Rattle.std.proofs.Common.{◌≡◌, ◌∙◌, ◌<◌, length, ap, refl, arith, rules}
use Rattle.std.proofs.lemmas.Result.{IfOk-weaker}
use Rattle.tree_proofs.proofs.Opens.{part_from}
use Rattle.quarrel_core.proofs.JoiningCases.{case_after, case_left, case_none, case_part}
use Rattle.quarrel_core.proofs.JoiningCases.{case_same, case_short, case_whole}
use Rattle.quarrel_core.proofs.OpenLevels.{above_first, above_left, above_lower, above_upper}
use Rattle.quarrel_core.specs.declared.opened_parts.BothOpened.{BothOpened}
use Rattle.quarrel_core.proofs.joining.+join_in.Goals as goal

pub ended-requires-clause-joined : goal.ended-requires-clause-joined
ended-requires-clause-joined g t c =
    let p = c.args.proofs in
    case_same g.H.TreeHash.hash p.part.start p.part.end p.old p.new p.part.known p.node.now
    p.prefix.now p.first.now p.second.now c.in_ok-copy_of.field-0 c.if-old-new.true
    c.in_ok-copy_of.ensures

pub ended-requires-in_default-clause-joined : goal.ended-requires-in_default-clause-joined
ended-requires-in_default-clause-joined g t c =
    let p = c.args.proofs in
    let less : p.old < p.new = omega arith in
    let none : length p.second.now ≡ 0 = search rules in
    case_short g.H.TreeHash.hash p.part.start p.part.end p.old p.new p.part.known p.node.now
    p.prefix.now p.first.now p.second.now less none

pub returns-then-old-k : goal.returns-then-old-k
returns-then-old-k g t c =
    let p = c.args.proofs in
    let h = g.H.TreeHash.hash in
    let below = c.in_ok-join_in.field-0 in
    let was = c.in_ok-join_in.ensures in
    let split = c.split-k.ensures.value in
    let ends = c.in-Some.ensures.cases.0 in
    let order = c.requires.order in
    let within = c.requires.within in
    let less : p.old < p.new = omega arith in
    IfOk-weaker c.joined_before.result _ _
    (λ both is. record {
      joined = case_left h p.part.start p.part.end p.old p.new c.split-k.result p.part.known
          p.node.now p.prefix.now c.in-Some.sibling.now p.first.now p.second.now c.in-Some.rest.now
          below.0 both.0 split ends less c.if-old-k.true was.joined is.0;
      first = is.1.0 ∙ was.first;
      second = above_left h 0 p.old p.new c.split-k.result p.still p.prefix.now
          c.in-Some.sibling.now p.second.now c.in-Some.rest.now both.1.second below.1.second split
          ends (omega arith) c.if-old-k.true was.second is.1.1;
    })
    c.joined_before.ensures

pub ended-requires-then-part-old-clause-joined : goal.ended-requires-then-part-old-clause-joined
ended-requires-then-part-old-clause-joined g t c =
    let p = c.args.proofs in
    let less : p.old < p.new = omega arith in
    case_whole g.H.TreeHash.hash p.part.start p.part.end p.old p.new c.split-k.result p.part.known
    p.node.now p.prefix.now c.in-Some.sibling.now p.first.now p.second.now c.in-Some.rest.now
    c.in_ok-copy_of-2.field-0 c.split-k.ensures.value c.in-Some.ensures.cases.0 less
    c.if-old-k.false c.if-part-eq0.true c.if-part-old.true c.in_ok-copy_of-2.ensures

pub ended-requires-in_default-split_last-clause-joined :
    goal.ended-requires-in_default-split_last-clause-joined
ended-requires-in_default-split_last-clause-joined g t c =
    let p = c.args.proofs in
    let less : p.old < p.new = omega arith in
    let none : length p.first.now ≡ 0 = search rules in
    case_none g.H.TreeHash.hash p.part.start p.part.end p.old p.new c.split-k.result p.part.known
    p.node.now p.prefix.now c.in-Some.sibling.now p.first.now p.second.now c.in-Some.rest.now
    c.split-k.ensures.value c.in-Some.ensures.cases.0 less c.if-old-k.false
    (part_from p.part.start p.part.end p.old c.requires.within c.else-part-eq0.either) none

pub returns-then-part-k : goal.returns-then-part-k
returns-then-part-k g t c =
    let p = c.args.proofs in
    let h = g.H.TreeHash.hash in
    let split = c.split-k.ensures.value in
    let ends = c.in-Some.ensures.cases.0 in
    let begins = c.in-Some-split_last.ensures.cases.0 in
    let less : p.old < p.new = omega arith in
    let inner = part_from p.part.start p.part.end p.old c.requires.within c.else-part-eq0.either in
    IfOk-weaker c.joined_beside.result _ _
    (λ both is. record {
      joined = case_part h p.part.start p.part.end p.old p.new c.split-k.result p.part.known
          p.node.now p.prefix.now c.in-Some.sibling.now c.in-Some-split_last.own.now p.first.now
          c.in-Some-split_last.less.now p.second.now c.in-Some.rest.now _ _ both.0 split ends
          begins less c.if-old-k.false inner c.if-part-k.true refl refl is.0;
      first = above_lower h p.part.start p.part.end p.old p.new c.split-k.result p.part.known
          p.node.now c.in-Some-split_last.own.now p.first.now c.in-Some-split_last.less.now
          both.1.first _ split begins less c.if-old-k.false c.if-part-k.true refl
          (ap (λ (o : BothOpened). o.first) is.1);
      second = above_first h p.old p.new c.split-k.result p.still p.prefix.now
          c.in-Some.sibling.now p.second.now c.in-Some.rest.now both.1.second _ split ends less
          c.if-old-k.false refl (ap (λ (o : BothOpened). o.second) is.1);
    })
    c.joined_beside.ensures

pub returns : goal.returns
returns g t c =
    let p = c.args.proofs in
    let h = g.H.TreeHash.hash in
    let below = c.in_ok-join_in-2.field-0 in
    let was = c.in_ok-join_in-2.ensures in
    let split = c.split-k.ensures.value in
    let ends = c.in-Some.ensures.cases.0 in
    let begins = c.in-Some-split_last.ensures.cases.0 in
    let less : p.old < p.new = omega arith in
    let inner = part_from p.part.start p.part.end p.old c.requires.within c.else-part-eq0.either in
    IfOk-weaker c.joined_after.result _ _
    (λ both is. record {
      joined = case_after h p.part.start p.part.end p.old p.new c.split-k.result
          c.after.result.start c.after.result.end p.part.known c.after.result.known p.node.now
          p.prefix.now c.in-Some.sibling.now c.in-Some-split_last.own.now p.first.now
          c.in-Some-split_last.less.now p.second.now c.in-Some.rest.now below.1.first
          below.1.second below.0 both.0 split ends begins less c.if-old-k.false inner
          c.if-part-k.false c.after.ensures was.first was.second was.joined is.0;
      first = above_upper h p.part.start p.part.end p.old p.new c.split-k.result
          c.after.result.start c.after.result.end p.part.known c.after.result.known p.node.now
          c.in-Some-split_last.own.now p.first.now c.in-Some-split_last.less.now both.1.first
          below.1.first split begins less c.if-old-k.false c.requires.order c.requires.within inner
          c.if-part-k.false c.after.ensures was.first (ap (λ (o : BothOpened). o.first) is.1);
      second = above_first h p.old p.new c.split-k.result p.still p.prefix.now
          c.in-Some.sibling.now p.second.now c.in-Some.rest.now both.1.second below.1.second split
          ends less c.if-old-k.false was.second (ap (λ (o : BothOpened). o.second) is.1);
    })
    c.joined_after.ensures
