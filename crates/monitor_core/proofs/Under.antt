-- A name under a domain, by its length and the byte before the domain.
use Rattle.std.proofs.Common.{◌≡◌, ◌≢◌, ℕ, ◌+◌, ◌-◌, ◌<◌, ◌≤◌, Bool, true, false, ◌&&◌, ◌||◌, ◌∷◌}
use Rattle.std.proofs.Common.{length, drop, get_or, refl, sym, ap, ◌∙◌, arith}
use Rattle.std.specs.Prelude.{◌==◌, nat_eq, map, bytes_eq}
use Rattle.std.specs.Char.{to_ascii_lowercase}
use Rattle.std.specs.List.{ends_with}
use Rattle.std.specs.Str.{str_eq_ignore_ascii_case, str_to_ascii_lowercase}
use Rattle.std.proofs.Math.Bool.{or-false}
use Rattle.std.proofs.lemmas.Bool.{eq-eqb, false_from_ne_true, ne_eqb}
use Rattle.std.proofs.lemmas.Bool.Decides.{nat_tests}
use Rattle.std.proofs.lemmas.List.{drop-map, drop_more, length-drop, length-map}
use Rattle.std.proofs.lemmas.Slice.Eq.{bytes_eq-Decides}
use Rattle.byte_formats.specs.Types.{Text}
use Rattle.cert_fields.proofs.Twice.{bytes_flip}
use Rattle.monitor_core.specs.Report.{is_under}

-- texts of two lengths differ
other_length : (a b : Text) → length a ≢ length b → bytes_eq a b ≡ false
other_length a b other =
    false_from_ne_true (bytes_eq a b) (λ same. other (ap length ((bytes_eq-Decides a b).0 same)))

-- only a dot becomes a dot
dot_alone : (c : ℕ) → (0x2E == to_ascii_lowercase c) ≡ (c == 0x2E)
dot_alone c = grind (arith, nat_tests)

-- a name that isn't longer than the domain
pub is_under-short : (name domain : Text) → length name ≤ length domain
    → str_eq_ignore_ascii_case name domain ≡ is_under name domain
is_under-short name domain short =
    let lower : Text = str_to_ascii_lowercase name in
    let needle : Text = 0x2E ∷ str_to_ascii_lowercase domain in
    let long = length-map name to_ascii_lowercase in
    let wide = length-map domain to_ascii_lowercase in
    let back = length-drop (length lower - length needle) lower in
    let none : ends_with nat_eq lower needle ≡ false =
    other_length needle (drop (length lower - length needle) lower)
    (λ same. absurd (omega arith)) in
    sym (ap (λ b. str_eq_ignore_ascii_case name domain || b) none
    ∙ or-false (str_eq_ignore_ascii_case name domain))

-- a longer one
pub is_under-long : (name domain : Text) (dot : ℕ) → length domain < length name
    → dot ≡ length name - length domain - 1
    → ((get_or name dot 0 == 0x2E) && str_eq_ignore_ascii_case (drop (dot + 1) name) domain)
    ≡ is_under name domain
is_under-long name domain dot longer is =
    let lower : Text = str_to_ascii_lowercase name in
    let needle : Text = 0x2E ∷ str_to_ascii_lowercase domain in
    let long = length-map name to_ascii_lowercase in
    let wide = length-map domain to_ascii_lowercase in
    let other : str_eq_ignore_ascii_case name domain ≡ false =
    other_length lower (str_to_ascii_lowercase domain) (λ same. absurd (omega arith)) in
    let place : length lower - length needle ≡ dot = omega arith in
    let parts : drop dot lower
    ≡ to_ascii_lowercase (get_or name dot 0) ∷ str_to_ascii_lowercase (drop (dot + 1) name) =
    drop-map to_ascii_lowercase dot name
    ∙ ap (map to_ascii_lowercase) (drop_more name dot 0 (omega arith)) in
    let ends : ends_with nat_eq lower needle
    ≡ ((0x2E == to_ascii_lowercase (get_or name dot 0))
    && bytes_eq (str_to_ascii_lowercase domain) (str_to_ascii_lowercase (drop (dot + 1) name))) =
    ap (λ k. bytes_eq needle (drop k lower)) place ∙ ap (bytes_eq needle) parts in
    sym (ap (λ b. b || ends_with nat_eq lower needle) other
    ∙ ends
    ∙ ap (λ b. b && bytes_eq (str_to_ascii_lowercase domain)
    (str_to_ascii_lowercase (drop (dot + 1) name))) (dot_alone (get_or name dot 0))
    ∙ ap (λ b. (get_or name dot 0 == 0x2E) && b)
    (bytes_flip (str_to_ascii_lowercase domain) (str_to_ascii_lowercase (drop (dot + 1) name))))

-- a longer one with a dot before its end, and with another byte there
pub is_under-dot : (name domain part : Text) (dot : ℕ) → length domain < length name
    → dot ≡ length name - length domain - 1 → get_or name dot 0 ≡ 0x2E → part ≡ drop (dot + 1) name
    → str_eq_ignore_ascii_case part domain ≡ is_under name domain
is_under-dot name domain part dot longer is byte part_is =
    ap (λ t. str_eq_ignore_ascii_case t domain) part_is
    ∙ sym (ap (λ b. b && str_eq_ignore_ascii_case (drop (dot + 1) name) domain)
    (eq-eqb (get_or name dot 0) 0x2E byte))
    ∙ is_under-long name domain dot longer is

pub is_under-other : (name domain : Text) (dot : ℕ) → length domain < length name
    → dot ≡ length name - length domain - 1 → get_or name dot 0 ≢ 0x2E
    → (get_or name dot 0 == 0x2E) ≡ is_under name domain
is_under-other name domain dot longer is other =
    let not_dot : (get_or name dot 0 == 0x2E) ≡ false = ne_eqb (get_or name dot 0) 0x2E other in
    not_dot
    ∙ sym (ap (λ b. b && str_eq_ignore_ascii_case (drop (dot + 1) name) domain) not_dot)
    ∙ is_under-long name domain dot longer is
