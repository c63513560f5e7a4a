-- A further lower tree of a cosigner: its record, and what it makes.
use Rattle.std.proofs.Common.{◌≡◌, ℕ, ◌-◌, ◌^◌, ◌<◌, ◌≤◌, ◌==◌, nat_lt, not, true}
use Rattle.std.proofs.Common.{List, [], ◌∷◌, ◌++◌, Option, Some, None, IfSome, Result, Ok}
use Rattle.std.proofs.Common.{Err, IsErrAnd, option_and_then, refl, sym, ap}
use Rattle.std.proofs.Common.{◌∙◌, subst, arith}
use Rattle.std.proofs.lemmas.Bool.{eq-eqb, eqb-true, lt-ltb, ltb-true, not-false}
use Rattle.std.proofs.lemmas.Option.{none-some}
use Rattle.byte_formats.specs.Types.{HashFunction, Text}
use Rattle.byte_formats.proofs.Values.{err_is}
use Rattle.tree_proofs.specs.declared.checkpoint.Checkpoint.{Checkpoint}
use Rattle.disk_core.specs.declared.disk.Disk.{Ghosts}
use Rattle.journal_core.specs.Owners.{Owner, OwnerAppends}
use Rattle.journal_core.specs.declared.error.AppendError.{AppendError}
use Rattle.lms_core.specs.Heights.{IsSigningHeight, height}
use Rattle.lms_core.specs.declared.heights.LmsType.{LmsType}
use Rattle.hss_keys.specs.Keys.{CountsKeys, keys_there, most_children}
use Rattle.state_journal.proofs.Owners.{owner_grows, owner_refused}
use Rattle.cosigner_core.specs.Children.{child_refusal, child_refusal_with}
use Rattle.cosigner_core.specs.Children.{child_text, next_child, of_child_journal}
use Rattle.cosigner_core.specs.Folds.{CosignerState, after_step, cosigner_of, having_child}
use Rattle.cosigner_core.specs.Folds.{key_count, next_state}
use Rattle.cosigner_core.specs.Progress.{fits_height, keys_below, shown_low, takes_child, terms_of}
use Rattle.cosigner_core.specs.Records.{FitsStep, child_record, step_in}
use Rattle.cosigner_core.specs.Refusals.{earlier}
use Rattle.cosigner_core.specs.declared.error.ChildError.{ChildError}
use Rattle.cosigner_core.specs.declared.error.ChildError.TheVariants.{Append, OneLevel}
use Rattle.cosigner_core.specs.declared.step.Step.TheVariants.{Child}
use Rattle.cosigner_core.proofs.Allowed.{none_first, passed}
use Rattle.cosigner_core.proofs.Brought.{having_trees, height_is, keys_shown, shown_is}
use Rattle.cosigner_core.proofs.Encoded.{step_added, step_again}
use Rattle.cosigner_core.proofs.Keys.{small_leaves}

-- ---- what a key has that needs a further lower tree

pub record NeedsTree (s : CosignerState) : Type 0 where
  pub room : s.key.children < most_children s.key.key.top.lms s.key.key.low
  pub used : s.key.next ≡ key_count s

pub needs_tree : (s : CosignerState) → CountsKeys s.key → child_refusal s ≡ None → NeedsTree s
unfolding child_refusal
needs_tree s counts is = go s.key.key.low is
  where
    go : (low : Option LmsType) → child_refusal_with low s ≡ None → NeedsTree s
    go None is = absurd (none-some _ (sym is))
    go (Some low) is =
        let left = passed (not (key_count s - s.key.next == 0)) _ _ is in
        let none : key_count s - s.key.next ≡ 0 = eqb-true (key_count s - s.key.next) 0
        (not-false (key_count s - s.key.next == 0) left.0) in
        let most = most_children s.key.key.top.lms s.key.key.low in
        let few = passed (not (nat_lt s.key.children most)) _ _ left.1 in
        let to = counts.to in
        record {
          room = ltb-true s.key.children most (not-false (nat_lt s.key.children most) few.0);
          used = omega arith;
        }

-- a key of one level has no further tree
one_level : (s : CosignerState) → s.key.key.low ≡ None → child_refusal s ≡ None → ⊥
unfolding child_refusal
one_level s known is =
    let wrong : Some OneLevel ≡ None =
    ap (λ (o : Option LmsType). child_refusal_with o s) (sym known) ∙ is in
    none-some OneLevel (sym wrong)

-- ---- the record is a step that is allowed

takes_next : (top : LmsType) (known : Option LmsType) (held : Checkpoint) (next children : ℕ)
    (low : LmsType) → known ≡ Some low → children < most_children top known
    → next ≡ keys_there top known children
    → takes_child (terms_of top known) (having_trees held next children known) children low ≡ true
takes_next top None held next children low is room used = absurd (none-some low is)
takes_next top (Some l) held next children low is room used =
    let keys = keys_below (shown_low children (Some l)) children in
    let own : fits_height (Some l) low ≡ true =
    ap (λ (o : Option LmsType). fits_height o low) is ∙ height_is low in
    let shown : fits_height (shown_low children (Some l)) low ≡ true =
    ap (λ (o : Option LmsType). fits_height (shown_low children o) low) is
    ∙ shown_is children low in
    rw (
      eq-eqb children children refl,
      lt-ltb children (2 ^ height top) room,
      eq-eqb next keys (used ∙ sym (keys_shown l children)),
      own,
      shown,
    ) refl

module _ (h : HashFunction) (s : CosignerState) (counts : CountsKeys s.key)
    (is : child_refusal s ≡ None) (low : LmsType) (known : s.key.key.low ≡ Some low) where
  child_fits : FitsStep (Child s.key.children low)
  child_fits =
      let few = counts.few in
      let leaves = small_leaves s.key.key.top.lms counts.top in
      let most : most_children s.key.key.top.lms s.key.key.low ≤ 1024 =
      subst (λ (o : Option LmsType). most_children s.key.key.top.lms o ≤ 1024) (sym known) leaves in
      record {
        short_word = omega arith;
        small = subst (λ (o : Option LmsType). IfSome o IsSigningHeight) known counts.low;
      }

  child_allowed : after_step h s (Child s.key.children low) ≡ Some (having_child s)
  child_allowed =
      let needs = needs_tree s counts is in
      rw (takes_next s.key.key.top.lms s.key.key.low s.held s.key.next s.key.children low known
      needs.room needs.used) refl

  pub next_is : next_child s ≡ child_record s.key.children low
  next_is = ap (child_text s.key.children) known

  pub child_taken : (body : Text) → body ≡ child_record s.key.children low
      → next_state h s body ≡ Some (having_child s)
  unfolding next_state
  child_taken body written =
      ap (λ (b : Text). option_and_then (after_step h s) (step_in b)) written
      ∙ ap (option_and_then (after_step h s)) (step_again (Child s.key.children low) child_fits)
      ∙ child_allowed

  child_added : (list : List Text) → cosigner_of h list ≡ Ok s
      → cosigner_of h (list ++ next_child s ∷ []) ≡ Ok (having_child s)
  child_added list was =
      ap (λ (b : Text). cosigner_of h (list ++ b ∷ [])) next_is
      ∙ step_added h list s (Child s.key.children low) (having_child s) was child_fits
      child_allowed

-- The record of the next lower tree makes the next cosigner.
pub child_valid : (h : HashFunction) (s : CosignerState) → CountsKeys s.key
    → (old : Option (List Text)) (refused : Option ChildError)
    → IfSome old (λ list. cosigner_of h list ≡ Ok s)
    → earlier (child_refusal s) refused ≡ None
    → IfSome old (λ list. cosigner_of h (list ++ next_child s ∷ []) ≡ Ok (having_child s))
child_valid h s counts None refused was is = tt
child_valid h s counts (Some list) refused was is = go s.key.key.low refl
  where
    none : child_refusal s ≡ None
    none = none_first (child_refusal s) refused is

    go : (known : Option LmsType) → s.key.key.low ≡ known
        → cosigner_of h (list ++ next_child s ∷ []) ≡ Ok (having_child s)
    go None known = absurd (one_level s known none)
    go (Some low) known = child_added h s counts none low known list was

-- ---- what is left of a cosigner

module _ {D S : Type 0} (g : Ghosts D) (next : S) (old new : Owner D S) where
  pub child_grown : (written body : Text) (child : ℕ) → written ≡ body
      → OwnerAppends {X = Unit {0}} {E = AppendError} g (λ why. Some why) written next old new
      (Ok tt)
      → OwnerAppends g of_child_journal body next old new (Ok child)
  child_grown written body child is did =
      subst (λ (b : Text). OwnerAppends {X = ℕ} g of_child_journal b next old new (Ok child)) is
      (owner_grows g of_child_journal written next old new child did)

  pub child_not_appended : (written body : Text) (result : Result ℕ ChildError)
      (why : AppendError) → IsErrAnd result (λ e. e ≡ Append why) → written ≡ body
      → OwnerAppends {X = Unit {0}} g (λ why. Some why) written next old new (Err why)
      → OwnerAppends g of_child_journal body next old new result
  child_not_appended written body result why refused is did =
      subst (OwnerAppends g of_child_journal body next old new)
      (err_is result (Append why) refused)
      (subst (λ (b : Text). OwnerAppends {X = ℕ} g of_child_journal b next old new
      (Err (Append why))) is
      (owner_refused g of_child_journal written next old new why (Append why) refl did))
