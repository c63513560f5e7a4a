use Rattle.std.proofs.Common.{◌≡◌, ◌∙◌, ◌-◌, ℕ, length, Ok, Err, sym, subst, ap}
use Rattle.std.specs.Prelude.{pos}
use Rattle.byte_formats.specs.Types.{Text}
use Rattle.issuance_log.specs.Folds.{LogState}
use Rattle.drill_core.specs.Parties.{log_seen}
use Rattle.policy_core.specs.Judgement.{judgement}
use Rattle.authority_core.specs.Acceptance.{StoresAcceptLightly}
use Rattle.authority_core.specs.Certificates.{IsLightlyWritten}
use Rattle.drill_core.proofs.Accepting.{due_entry}
use Rattle.drill_core.proofs.LightAccepted.{accepted_lightly}
use Rattle.drill_core.proofs.light.lit_by.Goals as goal

pub returns-in-Ok-judge-clause-only : goal.returns-in-Ok-judge-clause-only
returns-in-Ok-judge-clause-only g c = λ one. record {
  cert = c.in-Ok.cert;
  written = subst (λ (n : ℕ). IsLightlyWritten g.H.TreeHash.hash (log_seen c.args.log.now) (n - 1)
      c.in-Ok.cert) c.size_of-newest.ensures.value c.in-Ok.ensures.written;
  store = c.args.store.now;
  trusts = c.requires;
  accepted = c.in-Ok-judge.field-0;
  judged = ap (λ (t : Text). judgement g.H.TreeHash.hash t c.args.store.now (pos 1767225600))
      (sym c.as_slice.ensures) ∙ sym c.in-Ok-judge.ensures;
}

pub returns-clause-accepted : goal.returns-clause-accepted
returns-clause-accepted g c = λ due.
    let h = g.H.TreeHash.hash in
    let s : LogState = log_seen c.args.log.now in
    let says = c.law_entries_say_what_was_asked.ensures in
    let store = c.args.store.now in
    let accepted : StoresAcceptLightly h s (length s.entries - 1) c.in-Ok.cert =
    subst (λ (n : ℕ). StoresAcceptLightly h s (n - 1) c.in-Ok.cert) c.size_of-newest.ensures.value
    c.in-Ok.ensures.accepted in
    let taken = accepted_lightly h s (length s.entries - 1) c.in-Ok.cert store c.requires due.id
    (due_entry h s (length s.entries - 1) g.met.H.TreeHash.sized says.read says.known due.id
    due.newest) accepted in
    let refused : judgement h c.in-Ok.cert store (pos 1767225600) ≡ Err c.in-Err.field-0 =
    ap (λ (t : Text). judgement h t store (pos 1767225600)) (sym c.as_slice.ensures)
    ∙ sym c.in-Err.ensures in
    let wrong : Ok taken.0 ≡ Err c.in-Err.field-0 = sym taken.1 ∙ refused in
    absurd cc
