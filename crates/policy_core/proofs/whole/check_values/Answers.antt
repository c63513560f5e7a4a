use Rattle.std.proofs.Common.{sym, ◌∙◌}
use Rattle.policy_core.proofs.Wholes.{whole}
use Rattle.policy_core.proofs.whole.check_values.Goals as goal

pub returns-clause-valid : goal.returns-clause-valid
returns-clause-valid c = λ name rules.
    whole c.args.store.now name c.as_slice.ensures.few rules
    (rw c.as_slice.ensures.value at (sym c.ids_repeat.ensures ∙ c.if-ids_repeat.false))
    (rw c.as_slice-2.ensures at (sym c.in_ok-repeats.ensures ∙ c.if-branch.false))
    (rw c.as_slice-3.ensures at (sym c.are_valid.ensures ∙ c.if-not-are_valid.false))
    (rw c.as_slice-4.ensures at (sym c.all_inhabited.ensures ∙ c.if-not-all_inhabited.false))
