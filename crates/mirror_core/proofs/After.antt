-- Records that are taken one by one after the first record of a mirror.
use Rattle.std.proofs.Common.{◌≡◌, ◌≢◌, ℕ, ◌+◌, ◌≤◌, List, [], ◌∷◌, ◌++◌, length, drop}
use Rattle.std.proofs.Common.{Option, Some, None, Result, Ok, Err, is_ok, option_map}
use Rattle.std.proofs.Common.{refl, ap, sym, ◌∙◌}
use Rattle.std.proofs.lemmas.List.{append_assoc, append-nil}
use Rattle.std.proofs.lemmas.Option.{same_Some}
use Rattle.byte_formats.specs.Readings.{◌>>=◌, some_or}
use Rattle.byte_formats.specs.Types.{HashFunction, Text}
use Rattle.byte_formats.proofs.Steps.{bind_ok, ok_is, some_or_ok}
use Rattle.journal_core.specs.Folds.{state_after, taken_from}
use Rattle.issuance_log.proofs.After.{last_follows, last_not}
use Rattle.mirror_core.specs.Folds.{MirrorState, MirrorView, begun_mirror, mirror_after}
use Rattle.mirror_core.specs.Folds.{mirror_fold, mirror_of, new_mirror, next_mirror}
use Rattle.mirror_core.specs.Folds.{next_mirror_view, view_in_mirror}
use Rattle.mirror_core.specs.Records.{all_mirrored, mirror_log_in, mirrored_by}
use Rattle.mirror_core.specs.Results.{MirrorTakes}
use Rattle.mirror_core.specs.declared.error.RecordError.{RecordError}
use Rattle.mirror_core.specs.declared.error.RecordError.TheVariants.{Memory, Unfit}
use Rattle.mirror_core.proofs.Keeping.{HasMore, next_more}
use Rattle.mirror_core.proofs.Views.{shows, taken_shows, view_fold}

-- ---- the records are taken exactly if what the mirror shows takes them

pub views_taken : (h : HashFunction) (k : ℕ) (s : MirrorState) (bodies : List Text)
    → is_ok (taken_from (view_fold h) k (view_in_mirror s) bodies)
    ≡ is_ok (taken_from (mirror_fold h) k s bodies)
views_taken h k s bodies =
    ap is_ok (taken_shows h k s bodies) ∙ still (taken_from (mirror_fold h) k s bodies)
  where
    still : (r : Result MirrorState ℕ) → is_ok (shows r) ≡ is_ok r
    still (Ok s) = refl
    still (Err k) = refl

-- what was taken, or was not
pub was_taken : (wanted : Option MirrorView) (v w : MirrorView)
    (result : Result (Unit {0}) RecordError) → MirrorTakes wanted v result w
    → result ≡ Ok tt → wanted ≡ Some w
was_taken wanted v w (Ok done) takes is = takes
was_taken wanted v w (Err why) takes is = absurd cc

pub was_not : (wanted : Option MirrorView) (v w : MirrorView) (why : RecordError)
    → MirrorTakes wanted v (Err why) w → why ≢ Memory → wanted ≡ None
was_not wanted v w Unfit takes never = takes.0
was_not wanted v w Memory takes never = absurd (never refl)

-- the last record decides
pub last_taken : (h : HashFunction) (wanted : Result MirrorView ℕ) (k : ℕ) (v w : MirrorView)
    (bodies : List Text) (i : ℕ) (body : Text) (result : Result (Unit {0}) RecordError)
    → length bodies ≤ i → taken_from (view_fold h) k v (drop i bodies ++ body ∷ []) ≡ wanted
    → MirrorTakes (next_mirror_view h v body) v result w → result ≢ Err Memory
    → is_ok result ≡ is_ok wanted
last_taken h wanted k v w bodies i body (Ok done) past so_far takes never =
    last_follows (view_fold h) wanted k v w bodies i body past so_far takes
last_taken h wanted k v w bodies i body (Err why) past so_far takes never =
    last_not (view_fold h) wanted k v bodies i body past so_far
    (was_not (next_mirror_view h v body) v w why takes (λ same. never (ap Err same)))

-- ---- what they make

-- the items of the records that follow stand after those of the mirror
pub following_more : (h : HashFunction) (k : ℕ) (s t : MirrorState) (bodies : List Text)
    → taken_from (mirror_fold h) k s bodies ≡ Ok t → HasMore s t (all_mirrored bodies)
unfolding taken_from
following_more h k s t [] is =
    let same = ok_is ℕ s t is in
    record {
      log = sym (ap (λ (u : MirrorState). u.log) same);
      items = sym (ap (λ (u : MirrorState). u.items) same) ∙ sym (append-nil s.items);
    }
following_more h k s t (body ∷ bodies) is =
    let step = bind_ok (some_or k (next_mirror h s body))
    (λ (u : MirrorState). taken_from (mirror_fold h) (k + 1) u bodies) t is in
    let one = next_more h s step.0 body
    (some_or_ok k (next_mirror h s body) step.0 step.1) in
    let rest = following_more h (k + 1) step.0 t bodies step.2 in
    record {
      log = rest.log ∙ one.log;
      items = rest.items
          ∙ ap (λ (l : List (Text × Text)). l ++ all_mirrored bodies) one.items
          ∙ append_assoc s.items (mirrored_by body) (all_mirrored bodies);
    }

-- ---- the first record

pub begins_so : (h : HashFunction) (first log : Text) (bodies : List Text)
    → mirror_log_in first ≡ Some log → mirror_of h (first ∷ bodies) ≡ mirror_after h log bodies
unfolding state_after begun_mirror
begins_so h first log bodies is =
    ap (λ (o : Option Text). some_or 0 (option_map new_mirror o)
    >>= λ (u : MirrorState). taken_from (mirror_fold h) 1 u bodies) is

-- what follows an id that was read
has_begun : (h : HashFunction) (first : Text) (bodies : List Text) (s t : MirrorState)
    (o : Option Text) → mirror_log_in first ≡ o → option_map new_mirror o ≡ Some s
    → taken_from (mirror_fold h) 1 s bodies ≡ Ok t
    → (mirror_log_in first ≡ Some t.log) × (mirror_after h t.log bodies ≡ Ok t)
has_begun h first bodies s t None found is rest = let wrong : None ≡ Some s = is in absurd cc
has_begun h first bodies s t (Some log) found is rest =
    let made = same_Some (new_mirror log) s is in
    let rest_is : taken_from (mirror_fold h) 1 (new_mirror log) bodies ≡ Ok t
    = ap (λ (u : MirrorState). taken_from (mirror_fold h) 1 u bodies) made ∙ rest in
    let same : t.log ≡ log = (following_more h 1 (new_mirror log) t bodies rest_is).log in (
      found ∙ ap Some (sym same),
      ap (λ (y : Text). taken_from (mirror_fold h) 1 (new_mirror y) bodies) same ∙ rest_is,
    )

-- a list that is no mirror's makes none
pub no_mirror : (k : ℕ) (t : MirrorState) → Err k ≡ Ok t → ⊥
no_mirror k t is = cc

pub only_begins : (h : HashFunction) (list : List Text) (t : MirrorState) → mirror_of h list ≡ Ok t
    → (first : Text) × ((bodies : List Text) × ((list ≡ first ∷ bodies)
    × (mirror_log_in first ≡ Some t.log) × (mirror_after h t.log bodies ≡ Ok t)))
unfolding state_after begun_mirror
only_begins h [] t is = absurd (no_mirror 0 t is)
only_begins h (first ∷ bodies) t is =
    let step = bind_ok (some_or 0 (begun_mirror first))
    (λ (u : MirrorState). taken_from (mirror_fold h) 1 u bodies) t is in
    let facts = has_begun h first bodies step.0 t (mirror_log_in first) refl
    (some_or_ok 0 (begun_mirror first) step.0 step.1) step.2 in
    (first, (bodies, (refl, facts.0, facts.1)))
