-- What is written of a log, if the model knows the bytes of its disks.
use Rattle.std.proofs.Common.{◌≡◌, ℕ, ◌-◌, ◌<◌, ◌≤◌, true, List, [], Option, Some, None, IfOk}
use Rattle.std.proofs.Common.{IfSome, option_map, Result, Ok, Err, ap, length, slice_index_or}
use Rattle.std.proofs.Common.{subst, sym}
use Rattle.std.proofs.Common.{◌∙◌, arith, refl}
use Rattle.std.specs.Prelude.{map, option_and_then}
use Rattle.byte_formats.specs.Types.{Text, Hash, HashFunction}
use Rattle.tree_core.specs.Path.{part_of, path_of}
use Rattle.tree_core.specs.Subtree.{is_subtree}
use Rattle.tree_core.specs.Tree.{leaf_hash}
use Rattle.tree_core.specs.declared.hashing.TreeHash.{Ghosts as Hashes}
use Rattle.tree_core.specs.declared.spans.Span.{Span}
use Rattle.disk_core.specs.Times.{OnlyReads}
use Rattle.disk_core.specs.declared.disk.Disk.{Ghosts}
use Rattle.mtc_proof.specs.Proofs.{IsProof, proof_text}
use Rattle.issuance_log.specs.Folds.{LogState, LogView, view_in, with_item}
use Rattle.issuance_log.specs.Refusals.{item_at}
use Rattle.issuance_log.specs.Shown.{shown_with}
use Rattle.issuance_log.specs.Words.{LogAsksTiles, LogStays, log_disk, log_tiles_disk}
use Rattle.issuance_log.specs.declared.log.Log.{Log}
use Rattle.authority_core.specs.Acceptance.{AcceptsIn, IsOwnEntry, StoresAccept}
use Rattle.authority_core.specs.Acceptance.{StoresAcceptLightly}
use Rattle.authority_core.specs.Certificates.{IsCertificateOf, IsLightlyWritten, IsWritten}
use Rattle.authority_core.specs.Certificates.{covering_in, proof_for}
use Rattle.authority_core.proofs.Accepted.{accepts}
use Rattle.authority_core.proofs.Certificates.{item_is, written_of}
use Rattle.authority_core.proofs.Issued.{own_added}

-- ---- a log that was asked for nodes, and then for an item

module _ {H D T : Type 0} {hashes : Hashes H} {g : Ghosts D} {k : Ghosts T} where
  pub asks_then : (old mid new : Log H D T hashes g k) → LogAsksTiles old mid → LogStays mid new
      → log_tiles_disk new ≡ log_tiles_disk mid → LogStays old new
  asks_then old mid new asks stays same = record {
    only_reads = subst (λ (d : D). OnlyReads g d (log_disk new)) asks.disk stays.only_reads;
    tiles = subst (λ (d : T). OnlyReads k (log_tiles_disk old) d) (sym same) asks.tiles;
    view = stays.view ∙ asks.view;
    end = stays.end ∙ asks.end;
    broken = stays.broken ∙ asks.broken;
  }

-- ---- an entry that was issued

pub own_modelled : (old new : Option LogState) (v : LogView) (id entry key : Text) (index : ℕ)
    → new ≡ option_map (with_item entry key) old → IfSome old (λ s. view_in s ≡ v)
    → index ≡ v.size → id ≡ v.settings.id → IsOwnEntry id entry
    → IfSome new (λ s. IsOwnEntry s.settings.id (slice_index_or s.entries index []))
own_modelled None new v id entry key index grown shows last named own =
    subst (λ (o : Option LogState). IfSome o (λ s.
    IsOwnEntry s.settings.id (slice_index_or s.entries index []))) (sym grown) tt
own_modelled (Some s) new v id entry key index grown shows last named own =
    subst (λ (o : Option LogState). IfSome o (λ t.
    IsOwnEntry t.settings.id (slice_index_or t.entries index []))) (sym grown)
    (own_added s (with_item entry key s) id entry key index refl
    (last ∙ sym (ap (λ (u : LogView). u.size) shows))
    (named ∙ sym (ap (λ (u : LogView). u.settings.id) shows)) own)

-- ---- a proof, if the model knows the leaf hashes

module _ (h : HashFunction) (index start end : ℕ) (signatures : Text) where
  pub text_modelled : (path : List Hash) (bytes : Text) (contents : Option LogState)
      → bytes ≡ proof_text (record {
        start = start;
        end = end;
        path = path;
        signatures = signatures;
      })
      → IfSome (option_map (λ (s : LogState). map (leaf_hash h) s.entries) contents)
      (λ leaves. path ≡ path_of h (index - start) (part_of leaves start end))
      → IfSome contents (λ s. bytes ≡ proof_text (proof_for h s index start end signatures))
  text_modelled path bytes None text is = tt
  text_modelled path bytes (Some s) text is = text ∙ ap (λ (p : List Hash). proof_text (record {
    start = start;
    end = end;
    path = p;
    signatures = signatures;
  })) is

  pub fits_modelled : (path : List Hash) (contents : Option LogState) → IsProof (record {
    start = start;
    end = end;
    path = path;
    signatures = signatures;
  })
      → IfSome (option_map (λ (s : LogState). map (leaf_hash h) s.entries) contents)
      (λ leaves. path ≡ path_of h (index - start) (part_of leaves start end))
      → IfSome contents (λ s. IsProof (proof_for h s index start end signatures))
  fits_modelled path None fits is = tt
  fits_modelled path (Some s) fits is = subst (λ (p : List Hash). IsProof (record {
    start = start;
    end = end;
    path = p;
    signatures = signatures;
  })) is fits

  -- ---- a certificate

  pub written_modelled : (entry key proof bytes : Text) (v : LogView) (tiles : Option Text)
      (records : Option (List Text)) → index < v.size
      → IsCertificateOf h index entry key proof bytes
      → IfSome (option_map (shown_with v) (option_and_then (λ (t : Text). records) tiles))
      (λ s. proof ≡ proof_text (proof_for h s index start end signatures))
      → IfSome (option_map (shown_with v) records) (λ s. item_at s index ≡ Ok (entry, key))
      → IfSome (option_map (shown_with v) records) (λ s. view_in s ≡ v)
      → IfSome (option_map (shown_with v) (option_and_then (λ (t : Text). records) tiles))
      (λ s. IsWritten h s index start end signatures bytes)
  written_modelled entry key proof bytes v None records below is text item shows = tt
  written_modelled entry key proof bytes v (Some t) None below is text item shows = tt
  written_modelled entry key proof bytes v (Some t) (Some list) below is text item shows =
      let s : LogState = shown_with v list in
      let size : length s.entries ≡ v.size = ap (λ (u : LogView). u.size) shows in
      let same = item_is s index entry key (omega arith) item in
      written_of h s index start end signatures entry key proof bytes (sym same.0) (sym same.1)
      text is

  pub accepts_modelled : (bytes : Text) (v : LogView) (tiles : Option Text)
      (records : Option (List Text)) → is_subtree start end ≡ true → start ≤ index → index < end
      → end ≤ v.size → IfSome (option_map (shown_with v) records) (λ s. view_in s ≡ v)
      → IfSome (option_map (shown_with v) (option_and_then (λ (t : Text). records) tiles))
      (λ s. IsProof (proof_for h s index start end signatures))
      → IfSome (option_map (shown_with v) (option_and_then (λ (t : Text). records) tiles))
      (λ s. IsWritten h s index start end signatures bytes)
      → IfSome (option_map (shown_with v) (option_and_then (λ (t : Text). records) tiles))
      (λ s. StoresAccept h s index start end signatures bytes)
  accepts_modelled bytes v None records valid from below within shows fits is = tt
  accepts_modelled bytes v (Some t) None valid from below within shows fits is = tt
  accepts_modelled bytes v (Some t) (Some list) valid from below within shows fits is =
      let s : LogState = shown_with v list in
      let size : length s.entries ≡ v.size = ap (λ (u : LogView). u.size) shows in
      accepts h s index start end signatures bytes valid from below (omega arith) fits is

-- ---- by a landmark

pub both_of : (P : LogState → Type 0) (v : LogView) (tiles : Option Text)
    (records : Option (List Text)) → IfSome (option_map (shown_with v) records) P
    → IfSome (option_map (shown_with v) (option_and_then (λ (t : Text). records) tiles)) P
both_of P v None records is = tt
both_of P v (Some t) records is = is

module _ (h : HashFunction) (index : ℕ) (v : LogView) (span : Span)
    (covering : covering_in v index ≡ Some span) where
  pub lightly_modelled : {E : Type 0} (r : Result Text E) (contents : Option LogState)
      → IfSome contents (λ s. view_in s ≡ v)
      → IfOk r (λ bytes. IfSome contents (λ s. IsWritten h s index span.start span.end [] bytes))
      → IfOk r (λ bytes. IfSome contents (λ s. IsLightlyWritten h s index bytes))
  lightly_modelled (Err e) contents shows is = tt
  lightly_modelled (Ok bytes) None shows is = tt
  lightly_modelled (Ok bytes) (Some s) shows is = record {
    span = span;
    covering = ap (λ (u : LogView). covering_in u index) shows ∙ covering;
    written = is;
  }

  pub accepted_lightly : {E : Type 0} (r : Result Text E) (contents : Option LogState)
      → IfSome contents (λ s. view_in s ≡ v)
      → IfOk r (λ bytes. IfSome contents (λ s. StoresAccept h s index span.start span.end [] bytes))
      → IfOk r (λ bytes. IfSome contents (λ s. StoresAcceptLightly h s index bytes))
  accepted_lightly (Err e) contents shows is = tt
  accepted_lightly (Ok bytes) None shows is = tt
  accepted_lightly (Ok bytes) (Some s) shows is =
      subst (AcceptsIn h s index bytes)
      (sym (ap (λ (u : LogView). covering_in u index) shows ∙ covering)) is
