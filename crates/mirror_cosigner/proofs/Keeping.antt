-- The calls keep the agreement of a mirror's records with those of a cosigner, over any crash.
use Rattle.std.proofs.Common.{◌≡◌, ◌≢◌, ◌⊎◌, ℕ, ◌^◌, ◌<◌, ◌∙◌, false, List, [], ◌∷◌}
use Rattle.std.proofs.Common.{◌++◌, length, Option, Some, None, IfSome, option_map, Result, Ok, Err}
use Rattle.std.proofs.Common.{refl, sym, subst, inl, inr, arith}
use Rattle.std.specs.Prelude.{option_and_then}
use Rattle.std.proofs.lemmas.List.{append-nil, length-map}
use Rattle.std.proofs.lemmas.Option.{IfSome_then}
use Rattle.byte_formats.specs.Types.{HashFunction, Text}
use Rattle.disk_core.specs.Times.{LeavesOnly}
use Rattle.disk_core.specs.declared.disk.Disk.{Ghosts}
use Rattle.journal_core.specs.Ends.{durable_records}
use Rattle.journal_core.specs.Format.{Represents, RepresentsEither}
use Rattle.journal_core.specs.Owners.{Owner, OwnerLeaves}
use Rattle.journal_core.specs.Words.{disk_of, is_broken}
use Rattle.journal_core.specs.declared.error.AppendError.TheVariants as append_error
use Rattle.journal_core.specs.declared.journal.Journal.{Journal}
use Rattle.journal_core.proofs.Modelled.{of_records}
use Rattle.journal_core.proofs.Records.{records_of-stands}
use Rattle.state_journal.proofs.Kept.{of_sound}
use Rattle.tree_core.specs.declared.hashing.TreeHash.{Ghosts as Hashes}
use Rattle.cosigner_core.specs.Folds.{CosignerState, cosigner_of, having_signed, holding}
use Rattle.cosigner_core.specs.Keyless.{keyless_owner}
use Rattle.cosigner_core.specs.Records.{advance_record, sign_record}
use Rattle.cosigner_core.specs.declared.error.CosignError.TheVariants as cosign_error
use Rattle.cosigner_core.specs.declared.keyless.KeylessCosigner.{KeylessCosigner}
use Rattle.mirror_core.specs.Counted.{mirror_keeps}
use Rattle.mirror_core.specs.Folds.{MirrorState, MirrorView, mirror_of}
use Rattle.mirror_core.specs.Folds.{mirror_with}
use Rattle.mirror_core.specs.Words.{mirror_both_records}
use Rattle.mirror_core.specs.Words.{mirror_records, mirror_tiles_disk, mirror_view}
use Rattle.mirror_core.specs.declared.mirror.Mirror.{Mirror}
use Rattle.mirror_cosigner.proofs.Shown.{HasShownItems}
use Rattle.mirror_cosigner.specs.Agreement.{Agrees, AllAgree, LeavesAllAgreed}
use Rattle.mirror_cosigner.specs.Agreement.{RepresentOrOneMore}
use Rattle.mirror_cosigner.specs.Refusals.{MirrorStepKeepsTo}
use Rattle.mirror_cosigner.specs.Refusals.{of_mirror_step}
use Rattle.mirror_cosigner.specs.Requests.{advance_by_mirror, own_root, subtree_by_mirror}
use Rattle.mirror_cosigner.specs.Works.{mirror_advances, mirror_cosigns}
use Rattle.mirror_cosigner.specs.declared.error.MirrorStepError.{MirrorStepError}
use Rattle.mirror_cosigner.specs.declared.error.MirrorStepError.TheVariants.{BadSubtree, Beyond}
use Rattle.mirror_cosigner.specs.declared.error.MirrorStepError.TheVariants.{Cosign, Failed}
use Rattle.mirror_cosigner.specs.declared.error.MirrorStepError.TheVariants.{NotMine}
use Rattle.mirror_cosigner.proofs.Agreeing.{mirror_grows}
use Rattle.mirror_cosigner.proofs.Growing.{advance_agrees, sign_agrees}
use Rattle.mirror_cosigner.proofs.Refusing.{advance_few, signs_own}

-- ---- what a crash leaves

-- A file represents one list at most.
one_list : (c : Text) (one other : List Text) → Represents c one → Represents c other
    → one ≡ other
one_list c one other is too = sym (records_of-stands c one is) ∙ records_of-stands c other too

-- Records that are those of a mirror, or these and one more, and agree with a cosigner's, are those
-- of a mirror with its items.
has_shown : (h : HashFunction) (s : MirrorState) (shown m list : List Text) (c : Text)
    → mirror_of h shown ≡ Ok s → Represents c m
    → Represents c shown ⊎ ((body : Text) × Represents c (shown ++ body ∷ []))
    → Agrees h m list → HasShownItems h s m
has_shown h s shown m list c made stands (inl same) agrees =
    subst (HasShownItems h s) (one_list c shown m same stands) (record {
      state = s;
      is_mirror = made;
      log = refl;
      more = [];
      begins = sym (append-nil s.items);
    })
has_shown h s shown m list c made stands (inr more) agrees =
    let body = more.0 in
    let is : shown ++ body ∷ [] ≡ m = one_list c (shown ++ body ∷ []) m more.1 stands in
    let grows = mirror_grows h shown body s agrees.state made
    (subst (λ (l : List Text). mirror_of h l ≡ Ok agrees.state) (sym is) agrees.is_mirror) in
    record {
      state = agrees.state;
      is_mirror = agrees.is_mirror;
      log = grows.log;
      more = grows.more;
      begins = grows.items;
    }

module _ {D C : Type 0} (j : Ghosts D) (g : Ghosts C) (h : HashFunction) (s : MirrorState)
    (shown : List Text) (made : mirror_of h shown ≡ Ok s) (before after : D)
    (same : after ≡ before)
    (now : (c : Text) → j.left_since before (j.clock_at before) c → j.may_leave before c) where
  mirror_crash_state : (c : Text) → j.left_since after (j.clock_at before) c → j.may_leave before c
  mirror_crash_state c left =
      now c (subst (λ (d : D). j.left_since d (j.clock_at before) c) same left)

  -- the cosigner's disk had no call
  pub agree_unstepped : (one two : C) → two ≡ one
      → ((c : Text) → g.left_since one (g.clock_at one) c → g.may_leave one c)
      → AllAgree h (j.may_leave before) (g.may_leave one)
      → AllAgree h (j.left_since after (j.clock_at before)) (g.left_since two (g.clock_at one))
  agree_unstepped one two still only agree c d left there m x stands is =
      agree c d (mirror_crash_state c left)
      (only d (subst (λ (e : C). g.left_since e (g.clock_at one) d) still there)) m x stands is

  -- a record of the mirror's entries was appended, or some of it
  pub agree_stepped : (one two : C) (list : List Text) (body b : Text)
      → LeavesOnly g one two (RepresentsEither list body) → g.may_leave one b → Represents b list
      → ((m : List Text) → Agrees h m list → HasShownItems h s m
      → Agrees h m (list ++ body ∷ []))
      → RepresentOrOneMore shown (j.may_leave before)
      → AllAgree h (j.may_leave before) (g.may_leave one)
      → AllAgree h (j.left_since after (j.clock_at before)) (g.left_since two (g.clock_at one))
  agree_stepped one two list body b leaves left_b stands_b grows shows agree c d left there m x
      stands is =
      let may = mirror_crash_state c left in
      let old = agree c b may left_b m list stands stands_b in
      elim (leaves.each d there) [
        | inl e ↦ subst (Agrees h m) (one_list d list x e is) old
        | inr e ↦
            subst (Agrees h m) (one_list d (list ++ body ∷ []) x e is)
            (grows m old (has_shown h s shown m list c made stands (shows c may) old))
      ]

-- ---- what a call does to the cosigner's journal

-- It had no call, or nothing was refused and an append was begun that no failure came before.
abbrev pub Steps : {C S : Type 0} → Owner C S → Owner C S → Option MirrorStepError
    → Result (Unit {0}) MirrorStepError → Type 0
Steps old new wanted result =
    (new.disk ≡ old.disk)
    ⊎ ((old.broken ≡ false) × (wanted ≡ None) × (result ≢ Err Failed))

abbrev no_step : MirrorStepError → Result (Unit {0}) MirrorStepError
no_step why = Err why

abbrev done : Result (Unit {0}) MirrorStepError
done = Ok tt

pub step_is : {C S : Type 0} (g : Ghosts C) (body : Text) (next : S) (old new : Owner C S)
    (wanted : Option MirrorStepError) (result : Result (Unit {0}) MirrorStepError)
    → OwnerLeaves g of_mirror_step body next old new result → MirrorStepKeepsTo wanted result
    → Steps old new wanted result
step_is g body next old new wanted (Ok tt) leaves is =
    inr (leaves.was_sound, is, λ e. let no : done ≡ no_step Failed = e in cc)
step_is g body next old new wanted (Err (Beyond n)) leaves is = inl leaves.disk
step_is g body next old new wanted (Err (NotMine x y)) leaves is = inl leaves.disk
step_is g body next old new wanted (Err BadSubtree) leaves is = inl leaves.disk
step_is g body next old new wanted (Err Failed) leaves is = inl leaves.disk
step_is g body next old new wanted (Err (Cosign cosign_error.WrongLog)) leaves is =
    inl leaves.disk
step_is g body next old new wanted (Err (Cosign (cosign_error.NotNewer held))) leaves is =
    inl leaves.disk
step_is g body next old new wanted (Err (Cosign cosign_error.BadSubtree)) leaves is =
    inl leaves.disk
step_is g body next old new wanted (Err (Cosign (cosign_error.Beyond held))) leaves is =
    inl leaves.disk
step_is g body next old new wanted (Err (Cosign cosign_error.BadProof)) leaves is =
    inl leaves.disk
step_is g body next old new wanted (Err (Cosign cosign_error.NeedsChild)) leaves is =
    inl leaves.disk
step_is g body next old new wanted (Err (Cosign cosign_error.Exhausted)) leaves is =
    inl leaves.disk
step_is g body next old new wanted
    (Err (Cosign (cosign_error.Append append_error.Broken))) leaves is = inl leaves.disk
step_is g body next old new wanted
    (Err (Cosign (cosign_error.Append append_error.Full))) leaves is = inl leaves.disk
step_is g body next old new wanted
    (Err (Cosign (cosign_error.Append append_error.Failed))) leaves is =
    inr (
      leaves.was_sound,
      is,
      λ e. let no : no_step (Cosign (cosign_error.Append
          append_error.Failed)) ≡ no_step Failed = e in cc,
    )

-- Some bytes that a crash may leave represent the records.
abbrev pub StandsNow : {C : Type 0} → Ghosts C → C → List Text → Type 0
StandsNow g disk list = (b : Text) × (g.may_leave disk b × Represents b list)

pub stands_now : {C : Type 0} {g : Ghosts C} (journal : Journal C g)
    → ((b : Text) → g.contents (disk_of journal) ≡ Some b → g.may_leave (disk_of journal) b)
    → is_broken journal ≡ false
    → IfSome (durable_records journal) (StandsNow g (disk_of journal))
stands_now {C} {g} journal reads sound =
    of_sound journal (StandsNow g (disk_of journal)) sound
    (of_records (StandsNow g (disk_of journal)) (g.contents (disk_of journal))
    (λ b contents. (
      b,
      (reads b contents, journal.stands b contents),
    )))

-- ---- the calls

module _ {D C H : Type 0} {hashes : Hashes H} (j : Ghosts D) (g : Ghosts C) (h : HashFunction)
    (sized : (bytes : Text) → length (h bytes) ≡ 32) (s : MirrorState) (shown : List Text)
    (made : mirror_of h shown ≡ Ok s) (before after : D) (same : after ≡ before)
    (now : (c : Text) → j.left_since before (j.clock_at before) c → j.may_leave before c)
    (it : KeylessCosigner H C hashes g) (new : Owner C CosignerState)
    (only : (c : Text)
    → g.left_since (disk_of it.journal) (g.clock_at (disk_of it.journal)) c
    → g.may_leave (disk_of it.journal) c)
    (reads : (b : Text) → g.contents (disk_of it.journal) ≡ Some b
    → g.may_leave (disk_of it.journal) b) where
  -- by the records that the cosigner shows, if the model knows them
  keeps_at : (body : Text) (next : CosignerState) (records : Option (List Text))
      (wanted : Option MirrorStepError) (result : Result (Unit {0}) MirrorStepError)
      → Steps (keyless_owner it) new wanted result
      → (result ≢ Err Failed → wanted ≡ None → (m list : List Text) → Agrees h m list
      → HasShownItems h s m → cosigner_of h (list ++ body ∷ []) ≡ Ok next
      → Agrees h m (list ++ body ∷ []))
      → (result ≢ Err Failed → wanted ≡ None
      → IfSome records (λ list. cosigner_of h (list ++ body ∷ []) ≡ Ok next))
      → ((keyless_owner it).broken ≡ false → IfSome records
      (λ list. LeavesOnly g (keyless_owner it).disk new.disk (RepresentsEither list body)))
      → ((keyless_owner it).broken ≡ false
      → IfSome records (StandsNow g (keyless_owner it).disk))
      → IfSome records (λ list. RepresentOrOneMore shown (j.may_leave before)
      → AllAgree h (j.may_leave before) (g.may_leave (keyless_owner it).disk)
      → AllAgree h (j.left_since after (j.clock_at before))
      (g.left_since new.disk (g.clock_at (keyless_owner it).disk)))
  keeps_at body next None wanted result steps grows valid leaves stands = tt
  keeps_at body next (Some list) wanted result (inl still) grows valid leaves stands =
      λ shows agree. agree_unstepped j g h s shown made before after same now
      (keyless_owner it).disk new.disk still only agree
  keeps_at body next (Some list) wanted result (inr did) grows valid leaves stands =
      let there = stands did.0 in
      λ shows agree. agree_stepped j g h s shown made before after same now
      (keyless_owner it).disk new.disk list body there.0 (leaves did.0) there.1.0 there.1.1
      (λ m old has. grows did.2 did.1 m list old has (valid did.2 did.1)) shows agree

  pub advance_agree : (size : ℕ) (result : Result (Unit {0}) MirrorStepError) → size < 2 ^ 64
      → mirror_advances g h s size (keyless_owner it) new result
      → LeavesAllAgreed j g h shown before after (keyless_owner it) new
  advance_agree size result word is =
      let old = keyless_owner it in
      let r = advance_by_mirror h s old.state.held size in
      keeps_at (advance_record r.size r.root r.proof) (holding r.size r.root old.state) old.records
      _ result (step_is g _ _ old new _ result is.appends.leaves is.answer)
      (λ plain none m list agrees has by. advance_agrees h sized m list s agrees has old.state
      (holding r.size r.root old.state) size
      (advance_few h (length s.items) (own_root h s old.state.held) old.state old.broken old.end s
      size none) word by)
      is.valid is.appends.any_time (stands_now it.journal reads)

  pub cosign_agree : (start end : ℕ) (out : Text) (result : Result (Unit {0}) MirrorStepError)
      → (keyless_owner it).state.held.size < 2 ^ 64
      → mirror_cosigns g h s start end (keyless_owner it) new out result
      → LeavesAllAgreed j g h shown before after (keyless_owner it) new
  cosign_agree start end out result word is =
      let old = keyless_owner it in
      let r = subtree_by_mirror h s old.state.held start end in
      keeps_at (sign_record old.state.key.next r.start r.end r.hash r.proof)
      (having_signed old.state) old.records _ result
      (step_is g _ _ old new _ result is.appends.leaves is.answer)
      (λ plain none m list agrees has by.
      let own = signs_own h s old.state old.broken old.end start end none in
      let count = length-map s.items (λ item. item.0) in
      let few = own.mine.within in
      sign_agrees h sized m list s agrees has old.state (having_signed old.state)
      old.state.key.next start end (omega (arith, count, few)) word (is.number plain none) own.valid
      own.within by)
      is.valid is.appends.any_time (stands_now it.journal reads)

-- ---- the records that the model knows of both disks

made_where : (h : HashFunction) (v : MirrorView) (tiles : Option Text)
    (records : Option (List Text))
    → IfSome records (λ l. mirror_of h l ≡ Ok (mirror_with v l))
    → IfSome (option_and_then (λ t. records) tiles) (λ l. mirror_of h l ≡ Ok (mirror_with v l))
made_where h v None records made = tt
made_where h v (Some t) records made = made

pub made_by_both : {H D T : Type 0} {hashes : Hashes H} {j : Ghosts D} {k : Ghosts T}
    (mirror : Mirror H D T hashes j k) → IfSome (mirror_both_records mirror)
    (λ shown. mirror_of hashes.hash shown ≡ Ok (mirror_with (mirror_view mirror) shown))
made_by_both {hashes = hashes} {k = k} mirror =
    made_where hashes.hash (mirror_view mirror) (k.contents (mirror_tiles_disk mirror))
    (mirror_records mirror)
    (IfSome_then (mirror_records mirror) (mirror_keeps mirror) (λ list is. is.made))

pub at_shown : (h : HashFunction) (v : MirrorView) (o : Option (List Text))
    (P : MirrorState → Type 0) (Q : List Text → Type 0)
    → IfSome o (λ shown. mirror_of h shown ≡ Ok (mirror_with v shown))
    → IfSome (option_map (mirror_with v) o) P
    → ((shown : List Text) → mirror_of h shown ≡ Ok (mirror_with v shown)
    → P (mirror_with v shown) → Q shown)
    → IfSome o Q
at_shown h v None P Q made is so = tt
at_shown h v (Some shown) P Q made is so = so shown made is
