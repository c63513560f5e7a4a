-- What keys of one level and of two sign.
use Rattle.std.proofs.Common.{◌≡◌, ℕ, zero, suc, ◌+◌, ◌-◌, ◌/◌, ◌%◌, ◌^◌, ◌<◌, ◌≤◌, ◌++◌, length}
use Rattle.std.proofs.Common.{take, Option, Some, None, sym, ap, ◌∙◌, subst, arith}
use Rattle.std.proofs.Common.{append_assoc, length-append}
use Rattle.std.proofs.Math.Nat.{div-lt_iff_lt-mul, mod-lt, mul-le-mul_right}
use Rattle.std.proofs.lemmas.List.{length-take-le, take_at, take_all}
use Rattle.std.proofs.lemmas.Option.{none-some, same_Some}
use Rattle.std.specs.Int.{w32, to_be_bytes}
use Rattle.std.specs.Prelude.{IfSome}
use Rattle.byte_formats.specs.Types.{Text}
use Rattle.lmots_core.proofs.Yields.{length-secret_start}
use Rattle.lmots_core.specs.Ots.{secret_start}
use Rattle.lmots_core.specs.declared.parameters.OtsType.{OtsType}
use Rattle.lms_core.specs.Heights.{height, lms_signature_length}
use Rattle.lms_core.proofs.Verifies.{length-lms_public, length-lms_signature}
use Rattle.lms_core.specs.Trees.{lms_public, lms_signature, private_key}
use Rattle.lms_core.specs.declared.heights.LmsType.{LmsType}
use Rattle.lms_core.specs.declared.heights.LmsType.TheVariants.{H5, H10, H15, H20, H25}
use Rattle.lms_core.specs.declared.private_key.PrivateKey.{PrivateKey}
use Rattle.hss_core.specs.Hss.{Verifies, levels_public, one_level_public, one_level_signature}
use Rattle.hss_core.proofs.SignedKeys.{signed_key_verifies}
use Rattle.hss_core.proofs.Verifies.{hss_refusal-one_level_signature}
use Rattle.hss_keys.specs.Held.{newest_key, HoldsTrees}
use Rattle.hss_keys.specs.Keys.{CountsKeys, keys_there, lower_key, lower_secret, most_children}
use Rattle.hss_keys.specs.Keys.{public_with, signature_with, two_level_signature, signing_state}
use Rattle.hss_keys.specs.Keys.{UpperKeysSignOnce, upper_part, signature_length_with}
use Rattle.hss_keys.specs.Keys.{SigningState, key_signature, public_of}

pub length-lower_secret : (id : Text) (c : ℕ) (seed : Text) → length (lower_secret id c seed) ≡ 48
unfolding lower_secret
length-lower_secret id c seed =
    let first : Text = secret_start id c seed 65534 in
    let second : Text = secret_start id c seed 65535 in
    let long = length-secret_start id c seed 65534 in
    omega (
      arith,
      length-append (take 16 first) second,
      length-take-le 16 first (omega (arith, long)),
      length-secret_start id c seed 65535,
    )

-- what two pieces make of an array
pub two_puts : (first second one two : Text) → length first ≡ 16 → length second ≡ 32
    → length two ≡ 48 → take (0 + length first) one ≡ first
    → take (16 + length second) two ≡ take 16 one ++ second → two ≡ first ++ second
two_puts first second one two short long size put next =
    let none : 0 + length first ≡ 16 = omega (arith, short) in
    let all : 16 + length second ≡ 48 = omega (arith, long) in
    let begun : take 16 one ≡ first = ap (λ (n : ℕ). take n one) (sym none) ∙ put in
    sym (take_all 48 two (omega (arith, size)))
    ∙ (ap (λ (n : ℕ). take n two) (sym all) ∙ (next ∙ ap (λ (t : Text). t ++ second) begun))

-- what the lower tree signs verifies under the key of the upper one
pub two_levels_verify : (top lower : PrivateKey) (c r : ℕ) (message : Text) → length top.id ≡ 16
    → length lower.id ≡ 16 → c < 2 ^ height top.lms → r < 2 ^ height lower.lms
    → Verifies (levels_public 1 (lms_public top)) message
    (two_level_signature top lower c r message)
unfolding two_level_signature one_level_public one_level_signature
two_levels_verify top lower c r message id lower_id index lower_index =
    let number = to_be_bytes w32 1 in
    let public = lms_public lower in
    let upper = lms_signature top c public in
    let signed = lms_signature lower r message in
    let both = signed_key_verifies top c 0 public message signed id index (omega arith)
    (hss_refusal-one_level_signature lower r message lower_id lower_index) in
    subst (λ (t : Text). Verifies (levels_public 1 (lms_public top)) message t)
    (sym (ap (λ (t : Text). t ++ signed) (append_assoc number upper public)
    ∙ append_assoc number (upper ++ public) signed)) both

-- ---- the newest lower tree

pub some_keys : (l : LmsType) → 0 < 2 ^ height l
some_keys H5 = omega arith
some_keys H10 = omega arith
some_keys H15 = omega arith
some_keys H20 = omega arith
some_keys H25 = omega arith

-- a signature has the length that the key determines
pub size_below : (top : PrivateKey) (low : Option LmsType) (children : ℕ) (lower : PrivateKey)
    → newest_key top low children ≡ Some lower
    → 4 + lms_signature_length top.lms top.ots + 56 + lms_signature_length lower.lms lower.ots
    ≡ signature_length_with top low
size_below top None children lower is = absurd (none-some lower is)
size_below top (Some low) zero lower is = absurd (none-some lower is)
size_below top (Some low) (suc c) lower is =
    ap (λ (l : PrivateKey). 4 + lms_signature_length top.lms top.ots + 56
    + lms_signature_length l.lms l.ots) (sym (same_Some (lower_key top low c) lower is))

-- a lower tree that is made is the newest one
pub newest_made : (top : PrivateKey) (low : Option LmsType) (l : LmsType) (children : ℕ)
    (tree : PrivateKey) → low ≡ Some l → 0 < children → tree ≡ lower_key top l (children - 1)
    → Some tree ≡ newest_key top low children
newest_made top None l children tree is some made = absurd (none-some l is)
newest_made top (Some low) l zero tree is some made = absurd (omega (arith, some))
newest_made top (Some low) l (suc c) tree is some made =
    let same : suc c - 1 ≡ c = omega arith in
    ap Some (made ∙ ap (λ (x : LmsType). lower_key top x (suc c - 1)) (sym (same_Some low l is))
    ∙ ap (λ (n : ℕ). lower_key top low n) same)

-- a key with its trees holds what it has to
pub held_so : (lms : LmsType) (low : Option LmsType) (ots : OtsType) (secret copy : Text)
    (children next : ℕ) (top : PrivateKey) (tree : Option PrivateKey)
    → CountsKeys (signing_state lms low ots secret children next)
    → top ≡ private_key lms ots secret → copy ≡ secret
    → ((l : LmsType) → tree ≡ newest_key (private_key l ots secret) low children)
    → HoldsTrees (record {
      key = record { top = top; low = low };
      children = children;
      next = next;
    }) ots copy tree
held_so lms low ots secret copy children next top tree counts is same newest =
    subst (λ (t : PrivateKey). HoldsTrees (record {
      key = record { top = t; low = low };
      children = children;
      next = next;
    }) ots copy tree) (sym is) (record {
      counts = counts;
      made = ap (λ (x : Text). private_key lms ots x) (sym same);
      newest = newest lms;
    })

-- a lower tree that is made for a key is the next one
pub prepared_is : (top : PrivateKey) (low : Option LmsType) (ots : OtsType) (secret : Text)
    (l : LmsType) (c : ℕ) (tree : PrivateKey) → top ≡ private_key top.lms ots secret
    → low ≡ Some l → tree ≡ lower_key (private_key top.lms ots secret) l c
    → IfSome low (λ h. tree ≡ lower_key top h c)
prepared_is top low ots secret l c tree made is here =
    subst (λ (o : Option LmsType). IfSome o (λ h. tree ≡ lower_key top h c)) (sym is)
    (here ∙ ap (λ (t : PrivateKey). lower_key t l c) (sym made))

-- ---- what follows of every key

lower_id : (top : PrivateKey) (low : LmsType) (c : ℕ) → length (lower_key top low c).id ≡ 16
lower_id top low c =
    let long = length-lower_secret top.id c top.seed in
    length-take-le 16 (lower_secret top.id c top.seed) (omega (arith, long))

pub key_verifies : (top : PrivateKey) (low : Option LmsType) (q : ℕ) (message : Text)
    → length top.id ≡ 16 → q < keys_there top.lms low (most_children top.lms low)
    → Verifies (public_with top low) message (signature_with top low q message)
key_verifies top None q message id below = hss_refusal-one_level_signature top q message id below
key_verifies top (Some low) q message id below =
    let c = q / 2 ^ height low in
    two_levels_verify top (lower_key top low c) c (q % 2 ^ height low) message id
    (lower_id top low c) ((div-lt_iff_lt-mul (some_keys low)).1 below) (mod-lt q (some_keys low))

below_most : (top : LmsType) (low : Option LmsType) (children next : ℕ)
    → children ≤ most_children top low → next < keys_there top low children
    → next < keys_there top low (most_children top low)
below_most top None children next few left = left
below_most top (Some low) children next few left =
    let more = mul-le-mul_right (2 ^ height low) few in
    omega (arith, left, more)

pub signed_verifies : (s : SigningState) (message : Text) → length s.key.top.id ≡ 16
    → s.children ≤ most_children s.key.top.lms s.key.low
    → s.next < keys_there s.key.top.lms s.key.low s.children
    → Verifies (public_of s.key) message (key_signature s.key s.next message)
signed_verifies s message id few left =
    key_verifies s.key.top s.key.low s.next message id
    (below_most s.key.top.lms s.key.low s.children s.next few left)

-- what a signature has of the upper tree
pub upper_is : (top : PrivateKey) (low : LmsType) (c r : ℕ) (message : Text)
    → upper_part top (two_level_signature top (lower_key top low c) c r message)
    ≡ to_be_bytes w32 1 ++ lms_signature top c (lms_public (lower_key top low c))
    ++ lms_public (lower_key top low c)
unfolding two_level_signature
upper_is top low c r message =
    let lower = lower_key top low c in
    let number = to_be_bytes w32 1 in
    let public = lms_public lower in
    let upper = lms_signature top c public in
    take_at (number ++ upper ++ public) (lms_signature lower r message)
    (4 + lms_signature_length top.lms top.ots + 56) (omega (
      arith,
      length-append (number ++ upper) public,
      length-append number upper,
      length-lms_signature top c public,
      length-lms_public lower (lower_id top low c),
    ))

pub upper_same : (top : PrivateKey) (low : LmsType) (q p : ℕ) (message other : Text)
    → UpperKeysSignOnce top low q p message other
upper_same top low q p message other same =
    upper_is top low (q / 2 ^ height low) (q % 2 ^ height low) message
    ∙ (ap (λ (c : ℕ). to_be_bytes w32 1 ++ lms_signature top c (lms_public (lower_key top low c))
    ++ lms_public (lower_key top low c)) same
    ∙ sym (upper_is top low (p / 2 ^ height low) (p % 2 ^ height low) other))
