-- A case in plain words: which list is wanted, and that the certificate's entry stands in it.
use Rattle.std.proofs.Common.{◌≡◌, ℕ, zero, suc, ◌<◌, ◌≤◌, true, false, Bool, List, [], ◌∷◌}
use Rattle.std.proofs.Common.{length, Option, None, Some, get_or, refl, ap, ◌∙◌, arith, not, ◌||◌}
use Rattle.std.proofs.lemmas.Bool.{and_parts, le-ltb}
use Rattle.std.proofs.lemmas.Option.{slice_get-get_or}
use Rattle.std.proofs.lemmas.Slice.Eq.{bytes_eq-Decides}
use Rattle.std.specs.Prelude.{bytes_eq, if◌then◌else◌}
use Rattle.byte_formats.specs.Types.{HashFunction, Text}
use Rattle.cert_fields.specs.Certificate.{Parts}
use Rattle.tree_core.specs.Tree.{tree_hash}
use Rattle.tree_proofs.proofs.Parts.{part_of-zero}
use Rattle.log_entry.specs.Entries.{body_text, tbs_text}
use Rattle.log_entry.specs.EntryOf.{entry_of, tbs_with}
use Rattle.log_entry.specs.declared.entry.Form.{Form}
use Rattle.entry_list.specs.Items.{AreItems}
use Rattle.cosigner_core.specs.declared.lists.Export.{Export}
use Rattle.cosigner_steps.specs.Steps.{HasPrefix, held_by}
use Rattle.policy_core.specs.Judgement.{entry_by, form_by}
use Rattle.policy_core.specs.declared.answer.By.{By}
use Rattle.policy_core.specs.declared.answer.By.TheVariants.{Cosigners, Landmark}
use Rattle.world_core.specs.Audit.{AuditCase, HasInterval, HasOwn, foreign_in, foreign_of, has_own}
use Rattle.world_core.specs.Audit.{hash_there, is_lacking, listed_entry, listed_key, of_checkpoint}
use Rattle.world_core.specs.Audit.{of_interval, wanted_hash}
use Rattle.world_core.specs.declared.wanted.WantedHash.{WantedHash}

-- ---- the list is the one that is wanted

not_lacking : (h : HashFunction) (entries : List Text) (w : WantedHash)
    → w.end ≤ length entries → hash_there h entries w ≡ w.hash
    → foreign_in h entries (Some w) ≡ None
not_lacking h entries w within root =
    let there = hash_there h entries w in
    let lacks : is_lacking h entries w ≡ false =
    ap (λ (b : Bool). b || not (bytes_eq there w.hash)) (le-ltb (length entries) w.end within)
    ∙ ap not ((bytes_eq-Decides there w.hash).1 root) in
    ap (λ (b : Bool). if b then Some (w.hash, there) else None) lacks

pub by_interval : (h : HashFunction) (x : AuditCase) → x.accepted.by ≡ Landmark
    → HasInterval h x.items x.accepted → foreign_of h x ≡ None
by_interval h x by has =
    ap (λ (b : By). foreign_in h x.items.entries (wanted_hash h x.accepted x.kept b)) by
    ∙ not_lacking h x.items.entries (of_interval x.accepted) has.within has.root

pub by_prefix : (h : HashFunction) (x : AuditCase) (set : ℕ) (export : Export)
    → x.accepted.by ≡ Cosigners set → x.kept ≡ Some export
    → HasPrefix h x.items.entries (held_by h export.steps) → foreign_of h x ≡ None
by_prefix h x set export by kept has =
    let entries = x.items.entries in
    let held = held_by h export.steps in
    ap (λ (b : By). foreign_in h entries (wanted_hash h x.accepted x.kept b)) by
    ∙ (ap (λ (k : Option Export). foreign_in h entries (wanted_hash h x.accepted k
    (Cosigners set))) kept
    ∙ not_lacking h entries (of_checkpoint held) has.within
    (ap (tree_hash h) (part_of-zero entries held.size) ∙ has.root))

-- ---- the entry and the key are there

entry_starts : (h : HashFunction) (form : Form) (c : Parts)
    → entry_of h form c ≡ 0 ∷ (1 ∷ body_text (tbs_with c form (h c.spki)))
unfolding entry_of tbs_text
entry_starts h form c = refl

-- what an index past the end would have is no string with a first byte
within_list : (xs : List Text) (i b : ℕ) (bs : Text) → get_or xs i [] ≡ b ∷ bs
    → i < length xs
within_list [] i b bs is = absurd cc
within_list (x ∷ xs) zero b bs is = omega arith
within_list (x ∷ xs) (suc i) b bs is =
    let below = within_list xs i b bs is in omega (arith, below)

pub own_there : (h : HashFunction) (x : AuditCase) → AreItems h x.items
    → has_own h x.store x.items x.accepted x.cert ≡ true → HasOwn h x
own_there h x are own =
    let i = x.accepted.index in
    let both = and_parts (bytes_eq (listed_entry x.items i) (entry_by h x.store x.cert))
    (bytes_eq (listed_key x.items i) x.cert.spki) own in
    let entry = (bytes_eq-Decides (listed_entry x.items i) (entry_by h x.store x.cert)).0 both.0 in
    let key = (bytes_eq-Decides (listed_key x.items i) x.cert.spki).0 both.1 in
    let form = form_by x.store x.cert.serial in
    let within : i < length x.items.entries = within_list x.items.entries i 0
    (1 ∷ body_text (tbs_with x.cert form (h x.cert.spki)))
    (entry ∙ entry_starts h form x.cert) in
    let beside : i < length x.items.keys = omega (arith, are.even, within) in
    record {
      entry = slice_get-get_or x.items.entries i [] within ∙ ap Some entry;
      key = slice_get-get_or x.items.keys i [] beside ∙ ap Some key;
    }
