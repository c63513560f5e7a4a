-- What a mirror has a cosigner append is of the mirror's entries.
use Rattle.std.proofs.Common.{◌≡◌, ℕ, ◌^◌, ◌<◌, ◌≤◌, ◌==◌, ◌∙◌, Bool, true, false, List, [], ◌∷◌}
use Rattle.std.proofs.Common.{◌++◌}
use Rattle.std.proofs.Common.{length, take, Ok, Some, refl, sym, ap, subst, arith, ◌*◌, inl, inr}
use Rattle.std.proofs.Common.{Option, None, IfSome, Result, Err}
use Rattle.std.specs.Prelude.{IsOk}
use Rattle.std.proofs.lemmas.List.{append-nil}
use Rattle.std.specs.Prelude.{map, nat_le, ◌||◌}
use Rattle.std.proofs.lemmas.Bool.{cond_both, leb-false}
use Rattle.std.proofs.lemmas.List.{length-append, length-map, length-take-le, map-append}
use Rattle.std.proofs.lemmas.List.{take-append-le}
use Rattle.byte_formats.specs.Types.{HashFunction, Text}
use Rattle.byte_formats.proofs.Steps.{ok_is}
use Rattle.byte_formats.proofs.Values.{not_zero}
use Rattle.collide.proofs.Extracting.{tree_hash-sized}
use Rattle.tls_wire.specs.Encoding.{AreHashes}
use Rattle.tree_core.specs.Path.{part_of}
use Rattle.tree_core.specs.Subtree.{is_subtree}
use Rattle.tree_core.specs.Tree.{tree_hash}
use Rattle.tree_core.proofs.Subtrees.{is_subtree_iff}
use Rattle.tree_proofs.specs.Proof.{consistency_proof}
use Rattle.cosigner_core.specs.Folds.{CosignerState, cosigner_of}
use Rattle.cosigner_core.specs.Progress.{steps_in}
use Rattle.cosigner_core.specs.Records.{FitsStep, advance_record, sign_record}
use Rattle.cosigner_core.specs.declared.step.Step.TheVariants.{Advance, Sign}
use Rattle.cosigner_core.proofs.Encoded.{step_again}
use Rattle.cosigner_steps.specs.Steps.{HasPrefix}
use Rattle.mirror_core.specs.Folds.{MirrorState, entries_in_mirror, mirror_of}
use Rattle.mirror_cosigner.proofs.Shown.{HasShownItems}
use Rattle.mirror_cosigner.specs.Agreement.{Agrees, IsAskedAdvance, IsAskedSign, IsAskedStep}
use Rattle.mirror_cosigner.specs.Agreement.{IsStepOf}
use Rattle.mirror_core.specs.Rules.{IsSoundMirror}
use Rattle.cosigner_core.proofs.Counts.{counts_up}
use Rattle.hss_keys.specs.Keys.{CountsKeys, SigningState, keys_there, most_children}
use Rattle.journal_core.specs.Format.{end_offset}
use Rattle.lms_core.specs.Heights.{IsSigningHeight, height}
use Rattle.lms_core.specs.declared.heights.LmsType.{LmsType}
use Rattle.lms_core.specs.declared.heights.LmsType.TheVariants.{H5, H10, H15, H20, H25}
use Rattle.mirror_cosigner.proofs.Refusing.{advance_few, signs_own}
use Rattle.mirror_cosigner.specs.Laws.{AgreeingHeldIsMine, AgreeingListsAreOne, AgreementBegins}
use Rattle.mirror_cosigner.specs.Laws.{AgreementGrows}
use Rattle.mirror_cosigner.specs.Requests.{advance_by_mirror, growth_proof, own_root}
use Rattle.mirror_cosigner.specs.Requests.{subtree_by_mirror}
use Rattle.mirror_cosigner.proofs.Agreeing.{agreed_signs, agrees_on, agrees_with_more, all_within}
use Rattle.mirror_cosigner.proofs.Agreeing.{held_last, held_prefix, part_more}
use Rattle.mirror_cosigner.proofs.Sized.{proof_hashes}
use Rattle.mirror_cosigner.proofs.Tested.{held_passes}
use Rattle.mirror_cosigner.proofs.Proved.{is_mine_where}

-- ---- begins

pub agrees_first : (h : HashFunction) → AgreementBegins h
unfolding steps_in
agrees_first h mirror cosigner s signer is_mirror is_cosigner one_log = record {
  state = s;
  is_mirror = is_mirror;
  signer = signer;
  is_cosigner = is_cosigner;
  one_log = one_log;
  steps = [];
  are = refl;
  each = tt;
}

-- ---- is of one list

pub agreeing_are_one : (h : HashFunction) → AgreeingListsAreOne h
agreeing_are_one h m list agrees = (
  held_prefix h m list agrees,
  held_last h m list agrees,
  agreed_signs h m list agrees,
  all_within h m list agrees,
)

pub agreeing_is_mine : (h : HashFunction) → AgreeingHeldIsMine h
agreeing_is_mine h m list agrees =
    let has = held_prefix h m list agrees in
    held_passes _ _ agrees.signer.held (is_mine_where h agrees.state agrees.signer.held has.within
    has.root)

-- ---- grows

ok_of : {X E : Type 0} (r : Result X E) → IsOk r → (x : X) × (r ≡ Ok x)
ok_of (Ok x) is = (x, refl)
ok_of (Err e) is = let no : false ≡ true = is in absurd cc

-- a mirror's own records have its items
own_items : (h : HashFunction) (m : List Text) (s : MirrorState) → mirror_of h m ≡ Ok s
    → HasShownItems h s m
own_items h m s is = record {
  state = s;
  is_mirror = is;
  log = refl;
  more = [];
  begins = sym (append-nil s.items);
}

small_keys : (l : LmsType) → height l ≤ 10 → 2 ^ height l ≤ 1024
small_keys H5 small = omega arith
small_keys H10 small = omega arith
small_keys H15 small = absurd (omega arith)
small_keys H20 small = absurd (omega arith)
small_keys H25 small = absurd (omega arith)

few_keys : (low : LmsType) (children next : ℕ) → height low ≤ 10 → children ≤ 1024
    → next ≤ children * 2 ^ height low → next < 2 ^ 32
few_keys H5 children next small few to = omega arith
few_keys H10 children next small few to = omega arith
few_keys H15 children next small few to = absurd (omega arith)
few_keys H20 children next small few to = absurd (omega arith)
few_keys H25 children next small few to = absurd (omega arith)

-- the number of a one-time key has four bytes
pub next_short : (s : SigningState) → CountsKeys s → s.next < 2 ^ 32
next_short s counts = go s.key.low counts.low counts.few counts.to
  where
    go : (low : Option LmsType) → IfSome low IsSigningHeight
        → s.children ≤ most_children s.key.top.lms low
        → s.next ≤ keys_there s.key.top.lms low s.children → s.next < 2 ^ 32
    go None small few to = let top = small_keys s.key.top.lms counts.top in omega arith
    go (Some low) small few to =
        let top = small_keys s.key.top.lms counts.top in
        few_keys low s.children s.next small (omega arith) to

-- the entries of a mirror whose items begin with those of another
module _ (h : HashFunction) (s : MirrorState) (m : List Text) (shown : HasShownItems h s m) where
  entries_more : List Text
  entries_more = map (λ item. item.0) shown.more

  entries_begin : entries_in_mirror shown.state ≡ entries_in_mirror s ++ entries_more
  unfolding entries_more
  entries_begin = ap (map (λ item. item.0)) shown.begins
      ∙ map-append (λ item. item.0) s.items shown.more

  pub prefix_is : (size : ℕ) → size ≤ length s.items
      → HasPrefix h (entries_in_mirror shown.state)
      (record { size = size; root = tree_hash h (take size (entries_in_mirror s)) })
  prefix_is size few =
      let entries = entries_in_mirror s in
      let count = length-map s.items (λ item. item.0) in
      let within : size ≤ length entries = omega (arith, count, few) in
      subst (λ (l : List Text). HasPrefix h l
      (record { size = size; root = tree_hash h (take size entries) })) (sym entries_begin)
      (record {
        within = omega (arith, length-append entries entries_more, within);
        root = ap (tree_hash h) (take-append-le size entries entries_more within);
      })

  pub part_is : (start end : ℕ) → start ≤ end → end ≤ length s.items
      → tree_hash h (part_of (entries_in_mirror shown.state) start end)
      ≡ tree_hash h (part_of (entries_in_mirror s) start end)
  part_is start end order few =
      let entries = entries_in_mirror s in
      let count = length-map s.items (λ item. item.0) in
      ap (λ (l : List Text). tree_hash h (part_of l start end)) entries_begin
      ∙ ap (tree_hash h) (part_more entries entries_more start end order
      (omega (arith, count, few)))

module _ (h : HashFunction) (sized : (bytes : Text) → length (h bytes) ≡ 32) where
  growth_hashes : (entries : List Text) (old new : ℕ) → new ≤ length entries → new < 2 ^ 64
      → AreHashes (growth_proof h entries old new)
  growth_hashes entries old new few word =
      cond_both ((old == 0) || nat_le new old) []
      (consistency_proof h 0 old true (take new entries))
      AreHashes (λ is. (tt, omega arith))
      (λ is.
      let count : length (take new entries) ≡ new = length-take-le new entries few in
      let some = none_of_both (old == 0) (nat_le new old) is in
      let old_some = not_zero old some.0 in
      let more = leb-false new old some.1 in
      proof_hashes h sized 0 old (take new entries) (omega (arith, count, word)) old_some
      (omega (arith, count, more)))
    where
      none_of_both : (a b : Bool) → (a || b) ≡ false → (a ≡ false) × (b ≡ false)
      none_of_both true b is = let no : ⊥ = cc in absurd no
      none_of_both false b is = (refl, is)

  -- the Advance of a mirror's request has its encoding
  pub advance_fits : (s : MirrorState) (signer : CosignerState) (size : ℕ) → size ≤ length s.items
      → size < 2 ^ 64 → let r = advance_by_mirror h s signer.held size in
      FitsStep (Advance r.size r.root r.proof)
  advance_fits s signer size few word =
      let count = length-map s.items (λ item. item.0) in
      record {
        word = word;
        sized = tree_hash-sized h sized (take size (entries_in_mirror s));
        all_hashes = growth_hashes (entries_in_mirror s) signer.held.size size
            (omega (arith, count, few)) word;
      }

  -- and so has the Sign
  pub sign_fits : (s : MirrorState) (signer : CosignerState) (index start end : ℕ)
      → signer.held.size ≤ length s.items → signer.held.size < 2 ^ 64 → index < 2 ^ 32
      → is_subtree start end ≡ true → end ≤ signer.held.size
      → let r = subtree_by_mirror h s signer.held start end in
      FitsStep (Sign index r.start r.end r.hash r.proof)
  sign_fits s signer index start end few word number valid within =
      let entries = entries_in_mirror s in
      let count = length-map s.items (λ item. item.0) in
      let words = (is_subtree_iff start end).0 valid in
      let order = words.inhabited in
      let all : length (take signer.held.size entries) ≡ signer.held.size =
      length-take-le signer.held.size entries (omega (arith, count, few)) in
      record {
        short_word = number;
        start_word = omega (arith, order, within, word);
        end_word = omega (arith, within, word);
        sized = tree_hash-sized h sized (part_of entries start end);
        all_hashes = proof_hashes h sized start end (take signer.held.size entries)
            (omega (arith, all, word)) order (omega (arith, all, within));
      }

  module _ (m list : List Text) (s : MirrorState) (agrees : Agrees h m list)
      (shown : HasShownItems h s m) where
    -- both say the same of the mirror
    same_state : shown.state ≡ agrees.state
    same_state = ok_is ℕ shown.state agrees.state (sym shown.is_mirror ∙ agrees.is_mirror)

    pub advance_agrees : (old new : CosignerState) (size : ℕ) → size ≤ length s.items
        → size < 2 ^ 64 → let r = advance_by_mirror h s old.held size in
        cosigner_of h (list ++ advance_record r.size r.root r.proof ∷ []) ≡ Ok new
        → Agrees h m (list ++ advance_record r.size r.root r.proof ∷ [])
    advance_agrees old new size few word is =
        let r = advance_by_mirror h s old.held size in
        let step = Advance r.size r.root r.proof in
        agrees_on h m list (advance_record r.size r.root r.proof) step new agrees
        (step_again step (advance_fits s old size few word)) is
        (subst (λ (t : MirrorState). IsStepOf h (entries_in_mirror t) step) same_state
        (prefix_is h s m shown size few))

    pub sign_agrees : (old new : CosignerState) (index start end : ℕ)
        → old.held.size ≤ length s.items → old.held.size < 2 ^ 64 → index < 2 ^ 32
        → is_subtree start end ≡ true → end ≤ old.held.size
        → let r = subtree_by_mirror h s old.held start end in
        cosigner_of h (list ++ sign_record index r.start r.end r.hash r.proof ∷ []) ≡ Ok new
        → Agrees h m (list ++ sign_record index r.start r.end r.hash r.proof ∷ [])
    sign_agrees old new index start end few word number valid within is =
        let r = subtree_by_mirror h s old.held start end in
        let step = Sign index r.start r.end r.hash r.proof in
        let words = (is_subtree_iff start end).0 valid in
        let order = words.inhabited in
        agrees_on h m list (sign_record index r.start r.end r.hash r.proof) step new agrees
        (step_again step (sign_fits s old index start end few word number valid within)) is
        (subst (λ (t : MirrorState). IsStepOf h (entries_in_mirror t) step) same_state
        (part_is h s m shown start end (omega arith) (omega (arith, few, within))))

  module _ (few : (list : List Text) (s : MirrorState) → mirror_of h list ≡ Ok s
      → IsSoundMirror h s) where
    advance_goes_on : (m list : List Text) (body : Text) (step : IsAskedStep h m list body)
        → IsAskedAdvance h step.state step.signer (end_offset list) body
        → (new : CosignerState) → cosigner_of h (list ++ body ∷ []) ≡ Ok new → Agrees h m list
        → Agrees h m (list ++ body ∷ [])
    advance_goes_on m list body step asked new is agrees =
        let s = step.state in
        let within = advance_few h (length s.items) (own_root h s step.signer.held) step.signer
        false (end_offset list) s asked.size asked.allowed in
        let sound = (few m s step.is_mirror).numbers.few in
        subst (λ (b : Text). Agrees h m (list ++ b ∷ [])) (sym asked.is)
        (advance_agrees m list s agrees (own_items h m s step.is_mirror) step.signer new asked.size
        within (omega (arith, within, sound))
        (subst (λ (b : Text). cosigner_of h (list ++ b ∷ []) ≡ Ok new) asked.is is))

    sign_goes_on : (m list : List Text) (body : Text) (step : IsAskedStep h m list body)
        → IsAskedSign h step.state step.signer (end_offset list) body
        → (new : CosignerState) → cosigner_of h (list ++ body ∷ []) ≡ Ok new → Agrees h m list
        → Agrees h m (list ++ body ∷ [])
    sign_goes_on m list body step asked new is agrees =
        let s = step.state in
        let signer = step.signer in
        let own = signs_own h s signer false (end_offset list) asked.start asked.stop asked.allowed
        in
        let count = length-map s.items (λ item. item.0) in
        let here = own.mine.within in
        let sound = (few m s step.is_mirror).numbers.few in
        subst (λ (b : Text). Agrees h m (list ++ b ∷ [])) (sym asked.is)
        (sign_agrees m list s agrees (own_items h m s step.is_mirror) signer new signer.key.next
        asked.start asked.stop (omega (arith, count, here)) (omega (arith, count, here, sound))
        (next_short signer.key (counts_up h list signer step.is_cosigner).1) own.valid own.within
        (subst (λ (b : Text). cosigner_of h (list ++ b ∷ []) ≡ Ok new) asked.is is))

    pub agreement_grows : AgreementGrows h
    agreement_grows = record {
      more = λ m list body is agrees.
          let found = ok_of (mirror_of h (m ++ body ∷ [])) is in
          agrees_with_more h m list body found.0 agrees found.1;
      asked = λ m list body step is agrees.
          let found = ok_of (cosigner_of h (list ++ body ∷ [])) is in
          elim step.asked [
            | inl advance ↦ advance_goes_on m list body step advance found.0 found.1 agrees
            | inr sign ↦ sign_goes_on m list body step sign found.0 found.1 agrees
          ];
      child = λ m list body child is agrees.
          let found = ok_of (cosigner_of h (list ++ body ∷ [])) is in
          agrees_on h m list body _ found.0 agrees child.said found.1 tt;
    }
