-- Why the audits of a drill stand: the list is that of which the cosigner holds the root, the
-- cosigner has signed the hash of the subtree, and the log has the certificate's entry and key.
use Rattle.std.proofs.Common.{◌≡◌, ◌∙◌, ◌+◌, ◌<◌, ◌≤◌, ◌-◌, ◌∷◌, ℕ, zero, suc, true, false}
use Rattle.std.proofs.Common.{List, [], length, Some, None, Result, Ok, refl, sym, ap}
use Rattle.std.proofs.Common.{subst, arith, slice_index_or, drop, take, eq-eqb}
use Rattle.std.specs.Prelude.{pos, ℤ, ◌&&◌, nat_lt}
use Rattle.std.specs.Str.{bytes_eq}
use Rattle.std.specs.List.{position}
use Rattle.std.specs.Option.{is_some}
use Rattle.std.proofs.Math.Nat.{suc-add, zero-add}
use Rattle.std.proofs.Math.Seq.{take-length}
use Rattle.std.proofs.lemmas.Bool.{le-ltb}
use Rattle.std.proofs.lemmas.List.{length-append, get_or_append_left}
use Rattle.std.proofs.lemmas.Slice.Eq.{bytes_eq-Decides}
use Rattle.byte_formats.specs.Types.{Hash, HashFunction, Text}
use Rattle.byte_formats.specs.Offsets.{IsBytes}
use Rattle.byte_formats.specs.Readings.{◌>>=◌, lifted}
use Rattle.byte_formats.proofs.Steps.{bind_ok, lifted_ok, ok_is}
use Rattle.byte_formats.proofs.Values.{same_bytes, then_some}
use Rattle.tree_core.specs.Evaluation.{evaluation}
use Rattle.tree_core.specs.Path.{part_of}
use Rattle.tree_core.specs.Tree.{leaf_hash, tree_hash}
use Rattle.tree_proofs.proofs.Parts.{part_of-zero}
use Rattle.tree_proofs.specs.declared.checkpoint.Checkpoint.{Checkpoint}
use Rattle.cert_fields.specs.Certificate.{Parts, parts_of}
use Rattle.cert_fields.proofs.CertificateForm.{parts_again}
use Rattle.log_entry.specs.EntryOf.{entry_of}
use Rattle.mtc_proof.specs.Proofs.{ProofParts, proof_text}
use Rattle.mtc_proof.specs.Reading.{proof_in}
use Rattle.lmots_core.specs.declared.parameters.OtsType.TheVariants.{W4}
use Rattle.lms_core.specs.declared.heights.LmsType.TheVariants.{H5}
use Rattle.hss_keys.specs.Keys.{SigningKey, public_of, signing_key}
use Rattle.journal_core.specs.Format.{Represents}
use Rattle.log_entry.specs.declared.entry.Form.{Form}
use Rattle.policy_core.specs.Judgement.{admitted, decided, entry_by, judged, judgement}
use Rattle.policy_core.specs.declared.answer.Accepted.{Accepted}
use Rattle.policy_core.specs.declared.answer.By.TheVariants.{Cosigners}
use Rattle.policy_core.specs.declared.refusal.Refusal.{Refusal}
use Rattle.policy_core.specs.declared.refusal.Refusal.TheVariants.{Grammar, ProofGrammar}
use Rattle.policy_core.specs.declared.refusal.Refusal.TheVariants.{ProofShape}
use Rattle.policy_core.specs.declared.store.Store.{Store}
use Rattle.cosigner_core.specs.ExportReading.{export_of, signing_terms}
use Rattle.cosigner_core.specs.Folds.{CosignerState, cosigner_of, progress_of}
use Rattle.cosigner_core.specs.Progress.{first_progress, progress_by, steps_in}
use Rattle.cosigner_core.specs.declared.lists.Export.{Export}
use Rattle.cosigner_core.specs.declared.step.Step.{Step}
use Rattle.cosigner_core.specs.declared.step.Step.TheVariants.{Sign}
use Rattle.cosigner_core.specs.declared.terms.KeyTerms.{KeyTerms}
use Rattle.cosigner_core.proofs.ExportAgain.{export_again}
use Rattle.cosigner_steps.specs.Steps.{held_by}
use Rattle.authority_core.specs.Certificates.{parts_with, proof_for}
use Rattle.world_core.specs.Audit.{WasJudged, is_counted, is_counted_as, is_recorded}
use Rattle.world_core.specs.Audit.{is_sign_of, foreign_in, of_checkpoint, some_index}
use Rattle.cosigner_steps.proofs.Holding.{held_at_last}
use Rattle.world_core.proofs.Decided.{eval_inside, judged_path}
use Rattle.drill_core.specs.Audits.{StandsWith}
use Rattle.drill_parties.specs.CosignerParties.{HasSign, secret_of}
use Rattle.drill_parties.specs.Ids.{drill_log_id, id_of}
use Rattle.drill_core.specs.Entries.{drill_entry, drill_key, entries_to, keys_to, log_with}
use Rattle.drill_core.specs.Played.{IsWrittenOf}
use Rattle.drill_core.specs.Stores.{IsAcceptedByAll, drill_public, drill_store, known_with}
use Rattle.drill_core.proofs.EntryCounts.{entries_length}
use Rattle.drill_parties.proofs.SignIndices.{found, said_there}

-- ---- the cosigner counts

first_counts : (a b c : Text)
    → some_index (is_counted_as 7 (id_of 2) a) 0
    (known_with 2 a ∷ known_with 3 b ∷ known_with 4 c ∷ []) ≡ true
first_counts a b c = rw (same_bytes a) refl

second_counts : (a b c : Text)
    → some_index (is_counted_as 7 (id_of 3) b) 0
    (known_with 2 a ∷ known_with 3 b ∷ known_with 4 c ∷ []) ≡ true
second_counts a b c = rw (same_bytes b) refl

third_counts : (a b c : Text)
    → some_index (is_counted_as 7 (id_of 4) c) 0
    (known_with 2 a ∷ known_with 3 b ∷ known_with 4 c ∷ []) ≡ true
third_counts a b c = rw (same_bytes c) refl

-- the cosigner with this id and this public key counts where all three do
abbrev pub Counts : ℕ → ℕ → Type 0
Counts number last =
    some_index (is_counted_as 7 (id_of last) (drill_public last number)) 0
    (drill_store number).cosigners ≡ true

pub first_is_counted : (number : ℕ) → Counts number 2
first_is_counted number =
    first_counts (drill_public 2 number) (drill_public 3 number) (drill_public 4 number)

pub second_is_counted : (number : ℕ) → Counts number 3
second_is_counted number =
    second_counts (drill_public 2 number) (drill_public 3 number) (drill_public 4 number)

pub third_is_counted : (number : ℕ) → Counts number 4
third_is_counted number =
    third_counts (drill_public 2 number) (drill_public 3 number) (drill_public 4 number)

-- ---- the cosigner has signed

sign_is : (a : Accepted) (index : ℕ) (proof : List Hash)
    → is_sign_of a (Sign index a.start a.end a.hash proof) ≡ true
sign_is a index proof = rw (eq-eqb a.start a.start refl, eq-eqb a.end a.end refl, same_bytes a.hash)
    refl

has_recorded : (a : Accepted) (list : List Text) (steps : List Step)
    → steps_in (drop 1 list) ≡ Some steps → HasSign a.start a.end a.hash list
    → is_some (position (is_sign_of a) steps) ≡ true
has_recorded a list steps said is =
    found (is_sign_of a) steps (Sign is.index a.start a.end a.hash is.proof)
    (said_there (drop 1 list) steps is.body (Sign is.index a.start a.end a.hash is.proof) said
    is.there is.says) (sign_is a is.index is.proof)

-- ---- the list is the one that is held

not_foreign : (h : HashFunction) (entries : List Text) (c : Checkpoint) → c.size ≡ length entries
    → c.root ≡ tree_hash h entries → foreign_in h entries (Some (of_checkpoint c)) ≡ None
not_foreign h entries c size root =
    let not_short : nat_lt (length entries) c.size ≡ false =
    le-ltb (length entries) c.size (omega (arith, size)) in
    let whole : part_of entries 0 c.size ≡ entries =
    part_of-zero entries c.size ∙ ap (λ (n : ℕ). take n entries) size ∙ take-length entries in
    let same : bytes_eq (tree_hash h (part_of entries 0 c.size)) c.root ≡ true =
    ap (λ (xs : List Text). bytes_eq (tree_hash h xs) c.root) whole
    ∙ ap (bytes_eq (tree_hash h entries)) root ∙ same_bytes (tree_hash h entries) in
    rw (not_short, same) refl

-- ---- the entry

keys_count : (size : ℕ) → length (keys_to size) ≡ size
unfolding keys_to
keys_count zero = refl
keys_count (suc size) = let before = keys_count size in grind (arith, length-append, before)

-- what stands in the first entries stands in more of them
entries_prefix : (h : HashFunction) (more size index : ℕ) → index < size
    → slice_index_or (entries_to h (more + size)) index []
    ≡ slice_index_or (entries_to h size) index []
unfolding entries_to
entries_prefix h zero size index below =
    ap (λ (n : ℕ). slice_index_or (entries_to h n) index []) (zero-add size)
entries_prefix h (suc more) size index below =
    let long = entries_length h (more + size) in
    ap (λ (n : ℕ). slice_index_or (entries_to h n) index []) (suc-add more size)
    ∙ get_or_append_left (entries_to h (more + size)) (drill_entry h (more + size) ∷ []) [] index
    (omega (arith, long, below))
    ∙ entries_prefix h more size index below

keys_prefix : (more size index : ℕ) → index < size
    → slice_index_or (keys_to (more + size)) index [] ≡ slice_index_or (keys_to size) index []
unfolding keys_to
keys_prefix zero size index below =
    ap (λ (n : ℕ). slice_index_or (keys_to n) index []) (zero-add size)
keys_prefix (suc more) size index below =
    let long = keys_count (more + size) in
    ap (λ (n : ℕ). slice_index_or (keys_to n) index []) (suc-add more size)
    ∙ get_or_append_left (keys_to (more + size)) (drill_key (more + size) ∷ []) [] index
    (omega (arith, long, below))
    ∙ keys_prefix more size index below

-- ---- the certificate

-- a certificate that is accepted has a proof
proof_of : (h : HashFunction) (bytes : Text) (store : Store) (unix_time : ℤ) (a : Accepted)
    (c : Parts) → judgement h bytes store unix_time ≡ Ok a → parts_of bytes ≡ Ok c
    → (p : ProofParts) × (proof_in c.proof ≡ Ok p) × (judged h store unix_time c ≡ Ok a)
unfolding judgement judged
proof_of h bytes store unix_time a c accepted read =
    let s = bind_ok (lifted Grammar (parts_of bytes)) (judged h store unix_time) a accepted in
    let same : s.0 ≡ c =
    ok_is _ s.0 c (sym (lifted_ok Grammar (parts_of bytes) s.0 s.1) ∙ read) in
    let here : judged h store unix_time c ≡ Ok a =
    subst (λ (x : Parts). judged h store unix_time x ≡ Ok a) same s.2 in
    let with_proof : ProofParts → Result Accepted Refusal =
    λ q. lifted ProofShape (evaluation h (leaf_hash h (entry_by h store c)) c.serial q.start
    q.end q.path) >>= λ (hash : Hash). decided store c.serial q hash in
    let t = bind_ok (admitted store unix_time c) (λ (done : Unit {0}).
    lifted ProofGrammar (proof_in c.proof) >>= with_proof) a here in
    let u = bind_ok (lifted ProofGrammar (proof_in c.proof)) with_proof a t.2 in
    (u.0, lifted_ok ProofGrammar (proof_in c.proof) u.0 u.1, here)

-- what is accepted of a drill's certificate
abbrev pub accepted_of : HashFunction → ℕ → ℕ → Accepted
accepted_of h index size = record {
  index = index;
  start = 0;
  end = size;
  hash = tree_hash h (entries_to h size);
  by = Cosigners 7;
}

-- ---- the audit

recorded : (store : Store) (a : Accepted) (set : ℕ) (e : Export) → bytes_eq e.log store.log ≡ true
    → is_counted store set e ≡ true → is_some (position (is_sign_of a) e.steps) ≡ true
    → is_recorded store a set e ≡ true
unfolding is_recorded
recorded store a set e log counts signed = rw (log, counts, signed) refl

both_same : (a b c d : Text) → a ≡ b → c ≡ d → (bytes_eq a b && bytes_eq c d) ≡ true
both_same a b c d one two =
    let first : bytes_eq a b ≡ true = (bytes_eq-Decides a b).1 one in
    let second : bytes_eq c d ≡ true = (bytes_eq-Decides c d).1 two in
    rw (first, second) refl

-- the cosigner of an export counts
counts_there : (number last : ℕ) (s : CosignerState) (steps : List Step) → Counts number last
    → s.id ≡ id_of last → s.key.key ≡ signing_key H5 None W4 (secret_of last number)
    → is_counted (drill_store number) 7 (export_of s steps) ≡ true
counts_there number last s steps counts id key =
    subst (λ (i : Text). some_index (is_counted_as 7 i (public_of s.key.key)) 0
    (drill_store number).cosigners ≡ true) (sym id)
    (subst (λ (k : SigningKey). some_index (is_counted_as 7 (id_of last) (public_of k)) 0
    (drill_store number).cosigners ≡ true) (sym key) counts)

module _ (h : HashFunction) (number last size larger index : ℕ) (marks : List ℕ) (cert : Text)
    (s : CosignerState) (bytes : Text) (list : List Text) where
  -- The audit of a certificate that was written at a size, with the items of the log at a size that
  -- is no smaller, and with the records of a cosigner that holds all of these.
  pub audit_stands : size ≤ larger → IsWrittenOf h (log_with h size []) index cert
      → IsAcceptedByAll h number index size cert → Counts number last
      → s.id ≡ id_of last → s.log ≡ drill_log_id
      → s.key.key ≡ signing_key H5 None W4 (secret_of last number)
      → s.held ≡ record { size = larger; root = tree_hash h (entries_to h larger) }
      → IsBytes bytes → Represents bytes list → cosigner_of h list ≡ Ok s
      → HasSign 0 size (tree_hash h (entries_to h size)) list
      → StandsWith h (drill_store number) cert (log_with h larger marks) s list
  audit_stands within written accepted counts id log_id key held are stands made sign =
      let w = written.written in
      let c : Parts = parts_with index w.fields (slice_index_or (keys_to size) index [])
      (proof_text (proof_for h (log_with h size []) index 0 (length (entries_to h size))
      written.signatures)) in
      let a : Accepted = accepted_of h index size in
      let store : Store = drill_store number in
      let read : parts_of cert ≡ Ok c = ap parts_of w.written ∙ parts_again c w.fits in
      let p = proof_of h cert store (pos 1767225600) a c accepted read in
      let judged_so : WasJudged h store c p.0 a =
      record { certificate = w.fits; proof = p.1; unix_time = pos 1767225600; accepted = p.2 } in
      let inside = eval_inside h (leaf_hash h (entry_by h store c)) index 0 size p.0.path a.hash
      (judged_path h store c p.0 a judged_so) in
      let more : larger ≡ (larger - size) + size = omega (arith, within) in
      let entry : slice_index_or (entries_to h larger) index [] ≡ entry_by h store c =
      ap (λ (n : ℕ). slice_index_or (entries_to h n) index []) more
      ∙ entries_prefix h (larger - size) size index inside.1 ∙ sym w.made
      ∙ ap (λ (form : Form). entry_of h form c) written.form in
      let own_key : slice_index_or (keys_to larger) index [] ≡ c.spki =
      ap (λ (n : ℕ). slice_index_or (keys_to n) index []) more
      ∙ keys_prefix (larger - size) size index inside.1 in
      let again = export_again h bytes list s are stands made in
      let steps : List Step = again.0 in
      let e : Export = export_of s steps in
      let led = then_some (λ (terms : KeyTerms). progress_by h terms (first_progress h) steps)
      (signing_terms e.public) (progress_of s) again.3 in
      let holds : held_by h steps ≡ s.held = held_at_last h led.0 (progress_of s) steps led.2 in
      let last_size : (held_by h steps).size ≡ length (entries_to h larger) =
      ap (λ (k : Checkpoint). k.size) (holds ∙ held) ∙ sym (entries_length h larger) in
      let last_root : (held_by h steps).root ≡ tree_hash h (entries_to h larger) =
      ap (λ (k : Checkpoint). k.root) (holds ∙ held) in
      record {
        steps = steps;
        said = again.1;
        stands = record {
          accepted = a;
          parts = c;
          proof = p.0;
          judged = accepted;
          read = read;
          proof_read = p.1;
          stands = record {
            list = not_foreign h (entries_to h larger) (held_by h steps) last_size last_root;
            supported = recorded store a 7 e
                (ap (λ (x : Text). bytes_eq x drill_log_id) log_id ∙ same_bytes drill_log_id)
                (counts_there number last s steps counts id key)
                (has_recorded a list steps again.1 sign);
            decides = (both_same _ _ _ _ entry own_key, refl);
          };
        };
      }
