-- Hashes and proofs over the entries of a mirror, if the model knows it.
use Rattle.std.proofs.Common.{◌≡◌, ◌⊎◌, ◌≤◌, ℕ, ◌∙◌, true, List, take, length, ap, sym}
use Rattle.std.proofs.Common.{Option, Some, None, IfSome, IfOk, Result, Ok, Err, option_map, subst}
use Rattle.std.proofs.Common.{inl, inr, arith, refl, []}
use Rattle.std.specs.Prelude.{map, option_and_then}
use Rattle.std.proofs.lemmas.List.{length-map, take-map, take_all}
use Rattle.std.proofs.lemmas.Option.{IfSome_then}
use Rattle.byte_formats.specs.Types.{Hash, HashFunction, Text}
use Rattle.disk_core.specs.declared.disk.Disk.{Ghosts}
use Rattle.issuance_log.proofs.Leaves.{part_root}
use Rattle.journal_core.specs.Ends.{durable_of}
use Rattle.tree_core.specs.Path.{part_of}
use Rattle.tree_core.specs.Tree.{leaf_hash, root_of, tree_hash}
use Rattle.tree_core.specs.declared.hashing.TreeHash.{Ghosts as Hashes}
use Rattle.tree_proofs.specs.Proof.{consistency_proof, proof_of}
use Rattle.tree_proofs.proofs.Parts.{part_of-zero}
use Rattle.tree_proofs.proofs.Splits.{tree-none}
use Rattle.mirror_core.specs.Counted.{mirror_keeps}
use Rattle.mirror_core.specs.Folds.{MirrorState, MirrorView, entries_in_mirror, mirror_with}
use Rattle.mirror_core.specs.Records.{all_mirrored}
use Rattle.mirror_core.specs.Words.{MirrorAsksTiles, mirror_both_records, mirror_by_both}
use Rattle.mirror_core.specs.Words.{mirror_disk, mirror_end, mirror_records, mirror_tiles_disk}
use Rattle.mirror_core.specs.Words.{mirror_view}
use Rattle.mirror_core.specs.declared.mirror.Mirror.{Mirror}

-- the hashes of the entries
abbrev pub leaves_by : HashFunction → Option MirrorState → Option (List Hash)
leaves_by h known = option_map (λ (s : MirrorState). map (leaf_hash h) (entries_in_mirror s)) known

pub hash_modelled : {E : Type 0} (h : HashFunction) (start end : ℕ) (known : Option MirrorState)
    (result : Result Hash E)
    → IfOk result (λ hash. IfSome (leaves_by h known)
    (λ leaves. hash ≡ root_of h (part_of leaves start end)))
    → IfOk result (λ hash. IfSome known
    (λ s. hash ≡ tree_hash h (part_of (entries_in_mirror s) start end)))
hash_modelled h start end known (Err e) is = tt
hash_modelled h start end None (Ok hash) is = tt
hash_modelled h start end (Some s) (Ok hash) is =
    is ∙ sym (part_root h (entries_in_mirror s) start end)

-- the tree hash of the first ones
pub root_modelled : {E : Type 0} (h : HashFunction) (size : ℕ) (known : Option MirrorState)
    (result : Result Hash E)
    → IfOk result (λ hash. IfSome known
    (λ s. hash ≡ tree_hash h (part_of (entries_in_mirror s) 0 size)))
    → IfOk result (λ hash. IfSome known
    (λ s. hash ≡ tree_hash h (take size (entries_in_mirror s))))
root_modelled h size known (Err e) is = tt
root_modelled h size None (Ok hash) is = tt
root_modelled h size (Some s) (Ok hash) is =
    is ∙ ap (tree_hash h) (part_of-zero (entries_in_mirror s) size)

pub none_modelled : (h : HashFunction) (size : ℕ) (known : Option MirrorState) (root : Hash)
    → size ≡ 0 → root ≡ h []
    → IfSome known (λ s. root ≡ tree_hash h (take size (entries_in_mirror s)))
none_modelled h size None root none is = tt
none_modelled h size (Some s) root none is =
    is ∙ tree-none h (take 0 (entries_in_mirror s)) (omega arith)
    ∙ ap (λ n. tree_hash h (take n (entries_in_mirror s))) (sym none)

pub proof_modelled : (h : HashFunction) (start end size : ℕ) (known : Option MirrorState)
    (proof : List Hash)
    → IfSome (leaves_by h known) (λ leaves. proof ≡ proof_of h start end true (take size leaves))
    → IfSome known (λ s.
    proof ≡ consistency_proof h start end true (take size (entries_in_mirror s)))
proof_modelled h start end size None proof is = tt
proof_modelled h start end size (Some s) proof is =
    is ∙ ap (proof_of h start end true) (take-map (leaf_hash h) size (entries_in_mirror s))

-- The tree hash of all entries is that of as many of the first ones as there are not.
pub root_there : {E : Type 0} (h : HashFunction) (size held there : ℕ)
    (known : Option MirrorState)
    → (there ≡ held) ⊎ ((there ≡ size) × (size ≤ held))
    → IfSome known (λ s. length s.items ≡ size) → (result : Result Hash E)
    → IfOk result (λ hash. IfSome known
    (λ s. hash ≡ tree_hash h (take there (entries_in_mirror s))))
    → IfOk result (λ hash. IfSome known
    (λ s. hash ≡ tree_hash h (take held (entries_in_mirror s))))
root_there h size held there known at sized (Err e) is = tt
root_there h size held there None at sized (Ok hash) is = tt
root_there h size held there (Some s) (inl same) sized (Ok hash) is =
    is ∙ ap (λ n. tree_hash h (take n (entries_in_mirror s))) same
root_there h size held there (Some s) (inr all) sized (Ok hash) is =
    let entries = entries_in_mirror s in
    let count : length entries ≡ size = length-map s.items (λ item. item.0) ∙ sized in
    let first = all.0 in
    let more = all.1 in
    is ∙ ap (tree_hash h) (take_all there entries (omega (arith, count, first, more))
    ∙ sym (take_all held entries (omega (arith, count, more))))

-- ---- what the model knows of both disks

sized_where : (v : MirrorView) (tiles : Option Text) (list : Option (List Text))
    → IfSome list (λ l. v.size ≡ length (all_mirrored l))
    → IfSome (option_map (mirror_with v) (option_and_then (λ t. list) tiles))
    (λ s. length s.items ≡ v.size)
sized_where v None list is = tt
sized_where v (Some t) None is = tt
sized_where v (Some t) (Some l) is = sym is

logged_where : (v : MirrorView) (list : Option (List Text))
    → IfSome (option_map (mirror_with v) list) (λ s. s.log ≡ v.log)
logged_where v None = tt
logged_where v (Some l) = refl

module _ {H D T : Type 0} {hashes : Hashes H} {g : Ghosts D} {k : Ghosts T} where
  -- it has as many items as it shows
  pub sized_by_both : (mirror : Mirror H D T hashes g k)
      → IfSome (mirror_by_both mirror) (λ s. length s.items ≡ (mirror_view mirror).size)
  sized_by_both mirror = sized_where (mirror_view mirror) (k.contents (mirror_tiles_disk mirror))
      (mirror_records mirror)
      (IfSome_then (mirror_records mirror) (mirror_keeps mirror) (λ list is. is.all))

  -- and its id
  pub logged_by_both : (mirror : Mirror H D T hashes g k)
      → IfSome (mirror_by_both mirror) (λ s. s.log ≡ (mirror_view mirror).log)
  logged_by_both mirror = logged_where (mirror_view mirror) (mirror_both_records mirror)

  -- it stays where nodes alone were asked for
  pub both_modelled : (old new : Mirror H D T hashes g k) → MirrorAsksTiles old new
      → mirror_by_both new ≡ mirror_by_both old
  both_modelled old new is =
      ap (λ v. option_map (mirror_with v) (option_and_then (λ (t : Text). mirror_records new)
      (k.contents (mirror_tiles_disk new)))) is.view
      ∙ ap (λ n. option_map (mirror_with (mirror_view old)) (option_and_then
      (λ (t : Text). option_map (durable_of n) (g.contents (mirror_disk new)))
      (k.contents (mirror_tiles_disk new)))) is.end
      ∙ ap (λ d. option_map (mirror_with (mirror_view old)) (option_and_then
      (λ (t : Text). option_map (durable_of (mirror_end old)) (g.contents d))
      (k.contents (mirror_tiles_disk new)))) is.disk
      ∙ ap (λ o. option_map (mirror_with (mirror_view old)) (option_and_then
      (λ (t : Text). mirror_records old) o)) is.tiles.contents

  -- so a fact of what is known after that is one of what was known before
  pub both_before : (P : MirrorState → Type 0) (old new : Mirror H D T hashes g k)
      → MirrorAsksTiles old new → IfSome (mirror_by_both new) P → IfSome (mirror_by_both old) P
  both_before P old new is fact =
      subst (λ (o : Option MirrorState). IfSome o P) (both_modelled old new is) fact

-- two facts
pub both_so : {X : Type 0} (P Q : X → Type 0) (o : Option X) → IfSome o P → IfSome o Q
    → IfSome o (λ x. P x × Q x)
both_so P Q None first second = tt
both_so P Q (Some x) first second = (first, second)
