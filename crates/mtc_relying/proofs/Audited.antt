-- The answer of an audit is the one that is wanted.
use Rattle.std.proofs.Common.{◌≡◌, ℕ, Bool, true, false, Option, None, Some, Result, Ok, Err}
use Rattle.std.proofs.Common.{refl, sym, ap, subst}
use Rattle.std.specs.Prelude.{IfOk}
use Rattle.byte_formats.specs.Types.{Hash, HashFunction, Text}
use Rattle.mtc_command.specs.Answers.{Reply, said}
use Rattle.mtc_command.specs.Wanted.{Wanted, Meets}
use Rattle.mtc_command.specs.declared.answer.Answer.{Answer}
use Rattle.mtc_command.specs.declared.answer.Said.TheVariants.{Done, Against, Collided}
use Rattle.collide.specs.Extraction.{IsCollision}
use Rattle.world_core.specs.Audit.{AuditCase, IsAudit, firsts_of}
use Rattle.world_core.specs.Audit.{seconds_of}
use Rattle.world_core.specs.declared.answer.Audit.{Audit}
use Rattle.world_core.specs.declared.answer.Audit.TheVariants.{Foreign, Pair, Stands, Unrecorded}
use Rattle.mtc_relying.specs.AuditOutcome.{audit_by, audit_says, collision_text, foreign_text}
use Rattle.mtc_relying.specs.AuditOutcome.{stands_text, unrecorded_text}
use Rattle.mtc_relying.specs.Views.{audit_reply}

module _ (h : HashFunction) (x : AuditCase) where
  foreign : (there : Option (Hash × Hash)) (supported own : Bool) (wanted found : Hash)
      → there ≡ Some (wanted, found)
      → Meets (audit_by h x there supported own).answer
      (said Against (foreign_text (wanted, found)))
  foreign there supported own wanted found is = subst
      (λ (t : Option (Hash × Hash)). Meets (audit_by h x t supported own).answer
      (said Against (foreign_text (wanted, found)))) (sym is) refl

  unrecorded : (there : Option (Hash × Hash)) (supported own : Bool)
      → there ≡ None → supported ≡ false
      → Meets (audit_by h x there supported own).answer (said Against unrecorded_text)
  unrecorded None false own none lacks = refl
  unrecorded None true own none lacks = absurd cc
  unrecorded (Some hashes) supported own none lacks = absurd cc

  stands : (there : Option (Hash × Hash)) (supported own : Bool) (index : ℕ)
      → there ≡ None → supported ≡ true → own ≡ true → index ≡ x.accepted.index
      → Meets (audit_by h x there supported own).answer (said Done (stands_text index))
  stands None true true index none is has at = ap (λ i. said Done (stands_text i)) at
  stands None true false index none is has at = absurd cc
  stands None false own index none is has at = absurd cc
  stands (Some hashes) supported own index none is has at = absurd cc

  pair : (there : Option (Hash × Hash)) (supported own : Bool) (one other : Text)
      → there ≡ None → supported ≡ true → own ≡ false
      → IsCollision h (firsts_of h x) (seconds_of h x) one other
      → Meets (audit_by h x there supported own).answer
      (said Collided (collision_text one other))
  pair None true false one other none is lacks c = (
    refl,
    record {
      x = one;
      y = other;
      first = c.first;
      second = c.second;
      differ = c.differ;
      one_hash = c.one_hash;
      is = refl;
    },
  )
  pair None true true one other none is lacks c = absurd cc
  pair None false own one other none is lacks c = absurd cc
  pair (Some hashes) supported own one other none is lacks c = absurd cc

  pub audit_meets : (found : Audit) → IsAudit h x found
      → Meets (audit_says h x).answer (audit_reply found)
  audit_meets (Foreign wanted found) is = foreign _ _ _ wanted found is
  audit_meets Unrecorded is = unrecorded _ _ _ is.list is.lacks
  audit_meets (Stands index) is =
      stands _ _ _ index is.list is.supported is.decides.0 is.decides.1
  audit_meets (Pair one other) is =
      pair _ _ _ one other is.list is.supported is.decides.0 is.decides.1

-- an answer that says this reply, if there is one
pub modelled_meets : {E : Type 0} (wanted : Wanted) (reply : Reply) (r : Result Answer E)
    → Meets wanted reply → IfOk r (λ a. said a.status a.text ≡ reply)
    → IfOk r (λ a. Meets wanted (said a.status a.text))
modelled_meets wanted reply (Ok a) meets is = subst (Meets wanted) (sym is) meets
modelled_meets wanted reply (Err e) meets is = tt
