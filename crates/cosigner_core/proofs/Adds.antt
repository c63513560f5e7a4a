-- What a request makes of a cosigner.
use Rattle.std.proofs.Common.{◌≡◌, ℕ, ◌+◌, ◌<◌, ◌≤◌, nat_lt, ◌↔◌, Bool, false}
use Rattle.std.proofs.Common.{length, Option, Some, None}
use Rattle.std.proofs.Common.{Result, Ok}
use Rattle.std.proofs.Common.{Err, IsErrAnd, IsErrOf, IsTrue, refl, sym, subst}
use Rattle.byte_formats.proofs.Values.{err_is}
use Rattle.byte_formats.specs.Types.{Text}
use Rattle.byte_formats.specs.Refusals.{answer_of}
use Rattle.disk_core.specs.declared.disk.Disk.{Ghosts}
use Rattle.tree_core.specs.declared.hashing.TreeHash.{Ghosts as Hashes}
use Rattle.journal_core.specs.Format.{most_bytes}
use Rattle.journal_core.specs.Owners.{Owner, OwnerAppends}
use Rattle.journal_core.specs.Words.{disk_of}
use Rattle.journal_core.specs.declared.error.AppendError.{AppendError}
use Rattle.journal_core.specs.declared.error.AppendError.TheVariants.{Broken, Failed, Full}
use Rattle.cosigner_core.specs.Folds.{CosignerState}
use Rattle.cosigner_core.specs.Keyless.{keyless_owner, of_cosigner_journal}
use Rattle.cosigner_core.specs.Refusals.{IsOfRequest, CosignKeepsTo, earlier}
use Rattle.cosigner_core.specs.Refusals.{journal_refusal}
use Rattle.cosigner_core.specs.declared.error.CosignError.{CosignError}
use Rattle.cosigner_core.specs.declared.error.CosignError.TheVariants.{WrongLog, NotNewer}
use Rattle.cosigner_core.specs.declared.error.CosignError.TheVariants.{BadSubtree, Beyond, BadProof}
use Rattle.cosigner_core.specs.declared.error.CosignError.TheVariants.{NeedsChild, Exhausted}
use Rattle.cosigner_core.specs.declared.error.CosignError.TheVariants.{Append}
use Rattle.cosigner_core.specs.declared.keyless.KeylessCosigner.{KeylessCosigner}
use Rattle.state_journal.proofs.Owners.{owner_grows, owner_refused, owner_stays}
use Rattle.state_journal.proofs.Answered.{AnswersSo, answered_so}

-- the answers of an append
abbrev pub Answer : Type 0
Answer = Result (Unit {0}) AppendError

abbrev pub contents : AppendError → Answer
contents why = Err why

abbrev pub done : Answer
done = Ok tt

pub some_body : (body written : Text) → body ≡ written → 1 ≤ length written → 1 ≤ length body
some_body body written is some = subst (λ (b : Text). 1 ≤ length b) (sym is) some

-- ---- what is left of a cosigner

-- a refusal before the append
none_of_journal : (why : CosignError) → IsOfRequest why → of_cosigner_journal why ≡ None
none_of_journal WrongLog kind = refl
none_of_journal (NotNewer held) kind = refl
none_of_journal BadSubtree kind = refl
none_of_journal (Beyond held) kind = refl
none_of_journal BadProof kind = refl
none_of_journal NeedsChild kind = refl
none_of_journal Exhausted kind = refl
none_of_journal (Append why) kind = absurd kind

pub refused : {H D : Type 0} {hashes : Hashes H} {g : Ghosts D} (it : KeylessCosigner H D hashes g)
    (body : Text) (next : CosignerState) (result : Result (Unit {0}) CosignError)
    (why : CosignError) → IsErrAnd result (λ e. e ≡ why) → IsOfRequest why
    → ((c : Text) → g.left_since (disk_of it.journal) (g.clock_at (disk_of it.journal)) c
    → g.may_leave (disk_of it.journal) c)
    → OwnerAppends g of_cosigner_journal body next (keyless_owner it) (keyless_owner it) result
refused {g = g} it body next result why is kind only_now =
    subst (OwnerAppends g of_cosigner_journal body next (keyless_owner it) (keyless_owner it))
    (err_is result why is) (owner_stays g of_cosigner_journal body next it.journal
    it.machine.contents why (none_of_journal why kind) only_now)

-- what the append of the machine did, as an answer of the cosigner
module _ {D S : Type 0} (g : Ghosts D) (next : S) (old new : Owner D S) where
  pub grown : (written body : Text) → written ≡ body
      → OwnerAppends {X = Unit {0}} {E = AppendError} g (λ why. Some why) written next old new
      (Ok tt)
      → OwnerAppends {X = Unit {0}} g of_cosigner_journal body next old new (Ok tt)
  grown written body is did =
      subst (λ (b : Text). OwnerAppends {X = Unit {0}} g of_cosigner_journal b next old new
      (Ok tt)) is (owner_grows g of_cosigner_journal written next old new tt did)

  pub not_appended : (written body : Text) (result : Result (Unit {0}) CosignError)
      (why : AppendError) → IsErrAnd result (λ e. e ≡ Append why) → written ≡ body
      → OwnerAppends {X = Unit {0}} g (λ why. Some why) written next old new (Err why)
      → OwnerAppends g of_cosigner_journal body next old new result
  not_appended written body result why refused is did =
      subst (OwnerAppends g of_cosigner_journal body next old new)
      (err_is result (Append why) refused)
      (subst (λ (b : Text). OwnerAppends {X = Unit {0}} g of_cosigner_journal b next old new
      (Err (Append why))) is
      (owner_refused g of_cosigner_journal written next old new why (Append why) refl did))

-- ---- which refusal it is

keeps_itself : (why : CosignError) → IsOfRequest why → CosignKeepsTo (Some why) (Err why)
keeps_itself WrongLog kind = refl
keeps_itself (NotNewer held) kind = refl
keeps_itself BadSubtree kind = refl
keeps_itself (Beyond held) kind = refl
keeps_itself BadProof kind = refl
keeps_itself NeedsChild kind = refl
keeps_itself Exhausted kind = refl
keeps_itself (Append why) kind = absurd kind

pub keeps_first : (first second : Option CosignError) (why : CosignError) → IsOfRequest why
    → Err why ≡ answer_of first → CosignKeepsTo (earlier first second) (Err why)
keeps_first None second why kind is = let wrong : Err why ≡ Ok tt = is in cc
keeps_first (Some other) second why kind is =
    let same : why ≡ other = cc in
    subst (λ (e : CosignError). CosignKeepsTo (Some e) (Err why)) same (keeps_itself why kind)

pub none_of : (first : Option CosignError) → Ok tt ≡ answer_of first → first ≡ None
none_of None is = refl
none_of (Some other) is = let wrong : Ok tt ≡ Err other = is in cc

pub keeps_second : (first second : Option CosignError) (result : Result (Unit {0}) CosignError)
    → Ok tt ≡ answer_of first → CosignKeepsTo second result
    → CosignKeepsTo (earlier first second) result
keeps_second first second result is keeps =
    subst (λ (o : Option CosignError). CosignKeepsTo (earlier o second) result)
    (sym (none_of first is))
    keeps

-- what the journal refuses
keeps_why : (broken : Bool) (end : ℕ) (body : Text) (why : AppendError)
    → (IsErrOf (contents why) Broken ↔ IsTrue broken)
    → (IsErrOf (contents why) Full
    ↔ (broken ≡ false) × (most_bytes < end + 5 + length body))
    → CosignKeepsTo (journal_refusal broken end body) (Err (Append why))
keeps_why broken end body why by_broken by_full =
    at why (answered_so broken most_bytes (end + 5 + length body) (contents why) by_broken by_full)
  where
    at : (e : AppendError) → AnswersSo (Err e) broken (nat_lt most_bytes (end + 5 + length body))
        → CosignKeepsTo (journal_refusal broken end body) (Err (Append e))
    at Broken is = rw is refl
    at Full is = rw (is.0, is.1) refl
    at Failed is = rw (is.0, is.1) refl

pub keeps_append : (broken : Bool) (end : ℕ) (written body : Text)
    (result : Result (Unit {0}) CosignError) (why : AppendError)
    → IsErrAnd result (λ e. e ≡ Append why) → written ≡ body
    → (IsErrOf (contents why) Broken ↔ IsTrue broken)
    → (IsErrOf (contents why) Full
    ↔ (broken ≡ false) × (most_bytes < end + 5 + length written))
    → CosignKeepsTo (journal_refusal broken end body) result
keeps_append broken end written body result why is same by_broken by_full =
    subst (CosignKeepsTo (journal_refusal broken end body)) (err_is result (Append why) is)
    (subst (λ (b : Text). CosignKeepsTo (journal_refusal broken end b) (Err (Append why))) same
    (keeps_why broken end written why by_broken by_full))

pub keeps_ok : (broken : Bool) (end : ℕ) (body : Text)
    → (IsErrOf done Broken ↔ IsTrue broken)
    → (IsErrOf done Full ↔ (broken ≡ false) × (most_bytes < end + 5 + length body))
    → CosignKeepsTo (journal_refusal broken end body) (Ok tt)
keeps_ok broken end body by_broken by_full =
    let is = answered_so broken most_bytes (end + 5 + length body) done by_broken by_full in
    rw (is.0, is.1) refl
