-- What is issued for several requests.
use Rattle.std.proofs.Common.{◌≡◌, ℕ, zero, suc, ◌+◌, List, [], ◌∷◌, ◌++◌, length, Option}
use Rattle.std.proofs.Common.{Some, None, option_map, IfSome, ap, sym, subst, ◌∙◌, arith}
use Rattle.std.proofs.lemmas.List.{length-map}
use Rattle.std.proofs.lemmas.Option.{slice_get-map}
use Rattle.std.specs.Prelude.{map, slice_get}
use Rattle.std.specs.List.{AllByRecursion}
use Rattle.byte_formats.specs.Types.{HashFunction, Text}
use Rattle.tls_wire.specs.Arcs.{IsAnchorId}
use Rattle.log_entry.specs.declared.entry.Form.{Form}
use Rattle.issuance_log.specs.Batches.{AreOfForm}
use Rattle.issuance_log.specs.Folds.{LogState, LogView, log_form, view_in, with_items}
use Rattle.issuance_log.specs.Sound.{IsSound}
use Rattle.authority_core.specs.Acceptance.{IsOwnEntry}
use Rattle.authority_core.specs.Issues.{HasIssuedAll, issued_entry, issued_items}
use Rattle.authority_core.specs.Issuing.{entry_for}
use Rattle.authority_core.specs.Requests.{CanBeIssued, RequestParts}
use Rattle.authority_core.proofs.Issued.{form_asked, key_belongs}

-- The item of a request, in a form and under an id.
abbrev pub item_for : HashFunction → Form → Text → RequestParts → Text × Text
item_for h form id r = (entry_for h form id r, r.key)

pub count_issued : (h : HashFunction) (form : Form) (id : Text) (rs : List RequestParts)
    → length (map (item_for h form id) rs) ≡ length rs
count_issued h form id rs = length-map rs (item_for h form id)

-- Each has its form, and its key belongs to it.
pub all_of_form : (h : HashFunction) (form : Form) (id : Text) (rs : List RequestParts)
    → ((bytes : Text) → length (h bytes) ≡ 32) → IsAnchorId id → AllByRecursion CanBeIssued rs
    → AreOfForm h form (map (item_for h form id) rs)
all_of_form h form id [] sized anchor all = tt
all_of_form h form id (r ∷ rs) sized anchor all = (
  (form_asked h form id r sized anchor all.0, key_belongs h form id r sized anchor all.0),
  all_of_form h form id rs sized anchor all.1,
)

-- ---- by the form and the id of a log

module _ (h : HashFunction) (form : Form) (id : Text) (v : LogView) (rs : List RequestParts)
    (form_is : form ≡ log_form v) (id_is : id ≡ v.settings.id) where
  pub items_of_log : map (item_for h form id) rs ≡ issued_items h v rs
  items_of_log =
      ap (λ (f : Form). map (item_for h f id) rs) form_is
      ∙ ap (λ (i : Text). map (item_for h (log_form v) i) rs) id_is

  pub own_of_log : AllByRecursion (λ r. IsOwnEntry id (entry_for h form id r)) rs
      → AllByRecursion (λ r. IsOwnEntry v.settings.id (issued_entry h v r)) rs
  own_of_log all =
      subst (λ (i : Text). AllByRecursion (λ r. IsOwnEntry i (entry_for h (log_form v) i r)) rs)
      id_is (subst (λ (f : Form). AllByRecursion (λ r. IsOwnEntry id (entry_for h f id r)) rs)
      form_is all)

-- ---- in the log

slice_right : {X : Type 0} (xs ys : List X) (i : ℕ)
    → slice_get (xs ++ ys) (length xs + i) ≡ slice_get ys i
slice_right [] ys i =
    let place : 0 + i ≡ i = omega arith in ap (λ (n : ℕ). slice_get ys n) place
slice_right (x ∷ xs) ys i =
    let place : length (x ∷ xs) + i ≡ suc (length xs + i) = omega arith in
    ap (λ (n : ℕ). slice_get ((x ∷ xs) ++ ys) n) place ∙ slice_right xs ys i

at_place : {X : Type 0} (P : X → Type 0) (xs : List X) (i : ℕ) (x : X) → AllByRecursion P xs
    → slice_get xs i ≡ Some x → P x
at_place P [] i x all is = absurd cc
at_place P (y ∷ ys) zero x all is = let same : y ≡ x = cc in subst P same all.0
at_place P (y ∷ ys) (suc i) x all is = at_place P ys i x all.1 is

module _ (h : HashFunction) (v : LogView) (rs : List RequestParts) (index : ℕ)
    (own : AllByRecursion (λ r. IsOwnEntry v.settings.id (issued_entry h v r)) rs)
    (place : index ≡ v.size) where
  issued_in : (s : LogState) → view_in s ≡ v → IsSound h s
      → HasIssuedAll h v rs index (with_items (issued_items h v rs) s)
  issued_in s shows sound = record {
    entry = λ i r is. entry_at i r is;
    key = λ i r is. key_at i r is;
    own = λ i r is. subst (λ (id : Text). IsOwnEntry id (issued_entry h v r))
        (sym (ap (λ (u : LogView). u.settings.id) shows))
        (at_place (λ q. IsOwnEntry v.settings.id (issued_entry h v q)) rs i r own is);
  }
    where
      first : index ≡ length s.entries
      first = place ∙ sym (ap (λ (u : LogView). u.size) shows)

      item_is : (i : ℕ) (r : RequestParts) → slice_get rs i ≡ Some r
          → slice_get (issued_items h v rs) i ≡ Some (issued_entry h v r, r.key)
      item_is i r is =
          slice_get-map (λ (q : RequestParts). (issued_entry h v q, q.key)) rs i
          ∙ ap (option_map (λ (q : RequestParts). (issued_entry h v q, q.key))) is

      entry_at : (i : ℕ) (r : RequestParts) → slice_get rs i ≡ Some r
          → slice_get (s.entries ++ map (λ (x : Text × Text). x.0) (issued_items h v rs))
          (index + i) ≡ Some (issued_entry h v r)
      entry_at i r is =
          ap (λ (n : ℕ). slice_get (s.entries ++ map (λ (x : Text × Text). x.0)
          (issued_items h v rs)) (n + i)) first
          ∙ slice_right s.entries (map (λ (x : Text × Text). x.0) (issued_items h v rs)) i
          ∙ slice_get-map (λ (x : Text × Text). x.0) (issued_items h v rs) i
          ∙ ap (option_map (λ (x : Text × Text). x.0)) (item_is i r is)

      key_at : (i : ℕ) (r : RequestParts) → slice_get rs i ≡ Some r
          → slice_get (s.keys ++ map (λ (x : Text × Text). x.1) (issued_items h v rs))
          (index + i) ≡ Some r.key
      key_at i r is =
          ap (λ (n : ℕ). slice_get (s.keys ++ map (λ (x : Text × Text). x.1)
          (issued_items h v rs)) (n + i)) (first ∙ sym sound.even)
          ∙ slice_right s.keys (map (λ (x : Text × Text). x.1) (issued_items h v rs)) i
          ∙ slice_get-map (λ (x : Text × Text). x.1) (issued_items h v rs) i
          ∙ ap (option_map (λ (x : Text × Text). x.1)) (item_is i r is)

  pub issued_known : (old new : Option LogState)
      → new ≡ option_map (with_items (issued_items h v rs)) old
      → IfSome old (λ s. view_in s ≡ v) → IfSome old (IsSound h)
      → IfSome new (HasIssuedAll h v rs index)
  issued_known None new grown shows sound =
      subst (λ (o : Option LogState). IfSome o (HasIssuedAll h v rs index)) (sym grown) tt
  issued_known (Some s) new grown shows sound =
      subst (λ (o : Option LogState). IfSome o (HasIssuedAll h v rs index)) (sym grown)
      (issued_in s shows sound)
