-- A certificate that bears a printed signature was accepted by it.
use Rattle.std.proofs.Common.{◌≡◌, ◌⊎◌, inl, inr, ℕ, true, List, Result, Ok, refl, sym, subst, ap}
use Rattle.std.proofs.Common.{◌∙◌}
use Rattle.std.specs.Prelude.{pos, ℤ}
use Rattle.byte_formats.specs.Readings.{◌>>=◌, lifted}
use Rattle.byte_formats.specs.Types.{HashFunction, Text}
use Rattle.byte_formats.proofs.Steps.{bind_ok, ok_is}
use Rattle.cert_fields.specs.Certificate.{Parts, parts_of}
use Rattle.tree_core.specs.Evaluation.{evaluation}
use Rattle.tree_core.specs.Tree.{leaf_hash}
use Rattle.mtc_proof.specs.Proofs.{ProofParts}
use Rattle.mtc_proof.specs.Reading.{proof_in}
use Rattle.file_events.specs.Worlds.{Program, Run}
use Rattle.party_history.specs.declared.start.PartyStart.TheVariants.{Cosigner}
use Rattle.policy_core.specs.Acceptance.{IsCosigned, IsTrusted}
use Rattle.policy_core.specs.Counting.{counted, is_in_set}
use Rattle.policy_core.specs.Judgement.{admitted, decided, entry_by, judged, judgement}
use Rattle.policy_core.specs.declared.answer.Accepted.{Accepted}
use Rattle.policy_core.specs.declared.answer.By.{By}
use Rattle.policy_core.specs.declared.answer.By.TheVariants.{Cosigners, Landmark}
use Rattle.policy_core.specs.declared.refusal.Refusal.{Refusal}
use Rattle.policy_core.specs.declared.refusal.Refusal.TheVariants.{Grammar, ProofGrammar}
use Rattle.policy_core.specs.declared.refusal.Refusal.TheVariants.{ProofShape}
use Rattle.policy_core.specs.declared.store.Store.{Store}
use Rattle.policy_core.proofs.Judgements.{decided_only}
use Rattle.mtc_words.specs.Commands.{CommandValue}
use Rattle.mtc_relying.specs.AuditOutcome.{AcceptedParts, accepted_in}
use Rattle.mtc_laws.specs.CountLaws.{CountsInStores, PrintedSignaturesCount}
use Rattle.mtc_laws.specs.Cosigners.{CosignerExecution}
use Rattle.mtc_laws.specs.PrintLaws.{HasCosigned, OfHeard}
use Rattle.mtc_headline.proofs.Follows.{each_both}
use Rattle.mtc_headline.specs.Borne.{BearsSignature, BorneSignaturesCount}
use Rattle.mtc_headline.specs.Headline.{IsAcceptedBy}

-- what is known of an acceptance, by the proof of its parts
pub record OfProof (store : Store) (j : AcceptedParts) : Type 0 where
  pub start : j.accepted.start ≡ j.proof.start
  pub end : j.accepted.end ≡ j.proof.end
  pub by : (j.accepted.by ≡ Landmark)
      ⊎ (j.accepted.by ≡ Cosigners (counted store j.proof j.accepted.hash))

of_proof : (h : HashFunction) (bytes : Text) (store : Store) (now : ℤ) (j : AcceptedParts)
    → accepted_in h bytes store now ≡ Ok j → OfProof store j
unfolding judgement judged
of_proof h bytes store now j is =
    let a = bind_ok (judgement h bytes store now) _ j is in
    let c = bind_ok (lifted Grammar (parts_of bytes)) _ j a.2 in
    let p = bind_ok (lifted ProofGrammar (proof_in c.0.proof)) _ j c.2 in
    let made = ok_is Refusal (record { accepted = a.0; cert = c.0; proof = p.0 }) j p.2 in
    let d = bind_ok (lifted Grammar (parts_of bytes)) (judged h store now) a.0 a.1 in
    let t = bind_ok (admitted store now d.0) _ a.0 d.2 in
    let q = bind_ok (lifted ProofGrammar (proof_in d.0.proof)) _ a.0 t.2 in
    let v = bind_ok (lifted ProofShape (evaluation h (leaf_hash h (entry_by h store d.0)) d.0.serial
    q.0.start q.0.end q.0.path)) _ a.0 q.2 in
    let end = decided_only store d.0.serial q.0 v.0 a.0 v.2 in
    let parts : d.0 ≡ c.0 = ok_is Refusal d.0 c.0 (sym d.1 ∙ c.1) in
    let same : q.0 ≡ p.0 = ok_is Refusal q.0 p.0 (sym q.1
    ∙ ap (λ (x : Parts). lifted ProofGrammar (proof_in x.proof)) parts ∙ p.1) in
    let hash : v.0 ≡ a.0.hash = sym (ap (λ (x : Accepted). x.hash) end.known) in
    let P : ProofParts → Type 0 = λ r. (a.0.start ≡ r.start) × (a.0.end ≡ r.end)
    × ((a.0.by ≡ Landmark) ⊎ (a.0.by ≡ Cosigners (counted store r a.0.hash))) in
    let facts : P q.0 = (
      ap (λ (x : Accepted). x.start) end.known,
      ap (λ (x : Accepted). x.end) end.known,
      elim end.by [
        | inl trusted ↦ inl trusted.landmark
        | inr cosigned ↦ inr (cosigned.cosigners
            ∙ ap (λ (b : Text). Cosigners (counted store q.0 b)) hash)
      ],
    ) in
    let mine : P p.0 = subst P same facts in
    subst (OfProof store) made (record { start = mine.0; end = mine.1; by = mine.2 })

one_set : (by : By) (set other : ℕ) → by ≡ Cosigners set → by ≡ Cosigners other → set ≡ other
one_set by set other one two = cc

no_landmark : (by : By) (set : ℕ) → by ≡ Cosigners set → by ≡ Landmark → ⊥
no_landmark by set one two = absurd cc

counted_by : (store : Store) (j : AcceptedParts) (set : ℕ) → OfProof store j
    → j.accepted.by ≡ Cosigners set → counted store j.proof j.accepted.hash ≡ set
counted_by store j set of by = elim of.by [
  | inl landmark ↦ absurd (no_landmark j.accepted.by set by landmark)
  | inr cosigned ↦ one_set j.accepted.by (counted store j.proof j.accepted.hash) set cosigned by
]

module _ (h : HashFunction) (p : Program) where
  borne : (x : CosignerExecution h p) (old : p.R) (run : Run p.R p.O p.E)
      (c : CountsInStores h p x.settings x.public x.name old run) (bytes : Text) (store : Store)
      (unix_time : ℕ) (j : AcceptedParts) → accepted_in h bytes store (pos unix_time) ≡ Ok j
      → BearsSignature h p x c.signed.state c.signed.request store j
      → IsAcceptedBy h p x c.signed.request store j.accepted
  borne x old run c bytes store unix_time j judged b =
      let of = of_proof h bytes store (pos unix_time) j judged in
      let request = c.signed.request in
      let in_set = c.counts store b.place b.known j.proof b.list b.there b.id_is b.key_is b.named
      b.log_is (sym of.start ∙ sym b.start_is) (sym of.end ∙ sym b.end_is) b.each b.encoded b.among
      in
      record {
        set = b.by.0;
        by = b.by.1;
        counts = record {
          place = b.place;
          known = b.known;
          there = b.there;
          in_set = subst (λ (n : ℕ). is_in_set n b.place ≡ true)
              (ap (counted store j.proof) b.hash_is ∙ counted_by store j b.by.0 of b.by.1) in_set;
          id_is = b.id_is;
          key_is = b.key_is;
        };
        log_is = sym b.log_is;
        start_is = b.start_is;
        end_is = b.end_is;
        hash_is = b.hash_is;
      }

  abbrev Counts : CosignerExecution h p → p.R → Run p.R p.O p.E → Type 0
  Counts x old run = CountsInStores h p x.settings x.public x.name old run

  abbrev IsBorne : CosignerExecution h p → p.R → Run p.R p.O p.E → Type 0
  IsBorne x old run = (signed : HasCosigned h p x.name old run)
      × ((bytes : Text) (store : Store) (unix_time : ℕ) (j : AcceptedParts)
      → accepted_in h bytes store (pos unix_time) ≡ Ok j
      → BearsSignature h p x signed.state signed.request store j
      → IsAcceptedBy h p x signed.request store j.accepted)

  pub borne_count : PrintedSignaturesCount h p → BorneSignaturesCount h p
  borne_count counts x command signs =
      let all = counts x.name (Cosigner x.settings x.public) x.first x.begins x.ends x.events
      x.begun x.execution x.settings x.public refl command signs in
      each_both h p (OfHeard h p command (Counts x)) (OfHeard h p command (Counts x))
      (OfHeard h p command (IsBorne x))
      (λ old run one two spoken heard. let c = one spoken heard in (c.signed, borne x old run c))
      x.events x.begins all all
