-- An audit of a mirror's entries with the export of a cosigner whose records agree with its own.
use Rattle.std.proofs.Common.{◌≡◌, ◌∙◌, Bool, true, false, not, List, length, Option}
use Rattle.std.proofs.Common.{Some, None, refl, sym, ap}
use Rattle.std.specs.Prelude.{if◌then◌else◌, ◌||◌, bytes_eq}
use Rattle.std.proofs.lemmas.Bool.{le-ltb}
use Rattle.std.proofs.lemmas.Option.{same_Some}
use Rattle.std.proofs.lemmas.Slice.Eq.{bytes_eq-Decides}
use Rattle.byte_formats.specs.Types.{HashFunction, Text}
use Rattle.cosigner_core.specs.declared.lists.Export.{Export}
use Rattle.cosigner_steps.specs.Steps.{HasPrefix, held_by}
use Rattle.policy_core.specs.declared.answer.By.{By}
use Rattle.tree_core.specs.Tree.{tree_hash}
use Rattle.tree_proofs.specs.declared.checkpoint.Checkpoint.{Checkpoint}
use Rattle.tree_proofs.proofs.Parts.{part_of-zero}
use Rattle.world_core.specs.Audit.{foreign_in, hash_there, is_lacking}
use Rattle.world_core.specs.Audit.{of_checkpoint, wanted_hash}
use Rattle.mirror_core.specs.Folds.{entries_in_mirror}
use Rattle.mirror_cosigner.specs.Laws.{AgreeingAreNeverForeign}
use Rattle.mirror_cosigner.proofs.Agreeing.{held_last, held_prefix}

unless : {X : Type 0} (b : Bool) (x y : X) → b ≡ false → (if b then x else y) ≡ y
unless true x y is = let no : ⊥ = cc in absurd no
unless false x y is = refl

-- a list that begins with the entries of a checkpoint doesn't lack it
prefix_lacks : (h : HashFunction) (entries : List Text) (held : Checkpoint)
    → HasPrefix h entries held → is_lacking h entries (of_checkpoint held) ≡ false
prefix_lacks h entries held has =
    let there : hash_there h entries (of_checkpoint held) ≡ held.root =
    ap (tree_hash h) (part_of-zero entries held.size) ∙ has.root in
    ap (λ (b : Bool). b
    || not (bytes_eq (hash_there h entries (of_checkpoint held)) held.root))
    (le-ltb (length entries) held.size has.within)
    ∙ ap not ((bytes_eq-Decides (hash_there h entries (of_checkpoint held)) held.root).1 there)

prefix_foreign : (h : HashFunction) (entries : List Text) (held : Checkpoint)
    → HasPrefix h entries held → foreign_in h entries (Some (of_checkpoint held)) ≡ None
prefix_foreign h entries held has =
    unless (is_lacking h entries (of_checkpoint held)) _ _ (prefix_lacks h entries held has)

pub never_foreign : (h : HashFunction) → AgreeingAreNeverForeign h
never_foreign h m list x e set agrees items kept steps by =
    let same : e.steps ≡ agrees.steps = same_Some e.steps agrees.steps (sym steps ∙ agrees.are) in
    let held : held_by h e.steps ≡ agrees.signer.held =
    ap (held_by h) same ∙ held_last h m list agrees in
    ap (λ (l : List Text). foreign_in h l (wanted_hash h x.accepted x.kept x.accepted.by)) items
    ∙ ap (λ (o : Option Export). foreign_in h (entries_in_mirror agrees.state)
    (wanted_hash h x.accepted o x.accepted.by)) kept
    ∙ ap (λ (b : By). foreign_in h (entries_in_mirror agrees.state)
    (wanted_hash h x.accepted (Some e) b)) by
    ∙ ap (λ (c : Checkpoint). foreign_in h (entries_in_mirror agrees.state)
    (Some (of_checkpoint c))) held
    ∙ prefix_foreign h (entries_in_mirror agrees.state) agrees.signer.held
    (held_prefix h m list agrees)
