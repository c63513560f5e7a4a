-- The steps of the loop over a set, and what order says of the encodings.
use Rattle.std.proofs.Common.{◌≡◌, ℕ, ◌<◌, true, false, List, [], ◌∷◌, ◌++◌, length, Result, Ok}
use Rattle.std.proofs.Common.{Err, refl, ap, ◌∙◌}
use Rattle.std.specs.Prelude.{◌==◌}
use Rattle.byte_formats.specs.Types.{Text}
use Rattle.byte_formats.specs.Offsets.{At}
use Rattle.byte_formats.specs.Forms.{itself}
use Rattle.byte_formats.proofs.Loops.{WalksEach, each_more, each_fails, each_end}
use Rattle.der_core.specs.declared.fault.DerError.{DerError}
use Rattle.der_core.specs.Sets.{risen_at, last_of, finished}

pub last_of-push : (xs : List Text) (x : Text) → last_of (xs ++ x ∷ []) ≡ x
last_of-push [] x = refl
last_of-push (y ∷ []) x = refl
last_of-push (y ∷ z ∷ xs) x = last_of-push (z ∷ xs) x

-- Reading on from here, after the encodings seen, ends as the whole does.
abbrev pub Rises : ℕ → Result At DerError → Text → At → Type 0
Rises place total before a =
    (seen : List Text) × (last_of seen ≡ before)
    × WalksEach itself (λ (passed : List Text). risen_at place (last_of passed)) total seen a

pub rises_more : (place : ℕ) (total : Result At DerError) (before : Text) (a : At)
    (x : Text) (b : At)
    → risen_at place before a ≡ Ok (x, b) → length b.rest < length a.rest
    → Rises place total before a → Rises place total x b
rises_more place total before a x b step less (seen, last, walks) = (
  seen ++ x ∷ [],
  last_of-push seen x,
  each_more itself (λ (passed : List Text). risen_at place (last_of passed)) total seen a x b
      (ap (λ (t : Text). risen_at place t a) last ∙ step) less walks,
)

pub rises_fails : (place : ℕ) (total : Result At DerError) (before : Text) (a : At) (e : DerError)
    → risen_at place before a ≡ Err e → (length a.rest == 0) ≡ false → Rises place total before a
    → finished total ≡ Err e
rises_fails place total before a e step other (seen, last, walks) =
    ap finished (each_fails itself (λ (passed : List Text). risen_at place (last_of passed)) total
    seen a e (ap (λ (t : Text). risen_at place t a) last ∙ step) other walks)

pub rises_end : (place : ℕ) (total : Result At DerError) (before : Text) (a : At)
    → (length a.rest == 0) ≡ true → Rises place total before a → finished total ≡ Ok tt
rises_end place total before a none (seen, last, walks) =
    ap finished (each_end itself (λ (passed : List Text). risen_at place (last_of passed)) total
    seen a none walks)
