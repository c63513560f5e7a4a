-- Two records of one list that use one key are one record, where no key is used twice.
use Rattle.std.proofs.Common.{◌≡◌, suc, List, [], ◌∷◌, ◌++◌, Option, None, Some, sym, ap, subst}
use Rattle.std.proofs.Common.{◌∙◌, append_assoc, length, slice_get, arith}
use Rattle.std.proofs.lemmas.List.{append-nil}
use Rattle.byte_formats.specs.Types.{Text}
use Rattle.file_events.specs.Events.{CrashStates}
use Rattle.file_events.specs.Keys.{KeyUse, UsesOnce, uses_after, with_use}
use Rattle.file_events.specs.Laws.{KeysAreOfOneMessage}
use Rattle.file_events.proofs.Records.{one_list}
use Rattle.file_events.proofs.Stays.{held_stand}

-- the key at the head
head_use : (one : Option KeyUse) (key : KeyUse) (keys : List KeyUse) → one ≡ Some key
    → slice_get (with_use one keys) 0 ≡ Some key
head_use None key keys is = absurd cc
head_use (Some first) key keys is = is

-- a key after others
after_use : (one : Option KeyUse) (keys rest : List KeyUse) (key : KeyUse)
    → slice_get keys (length rest) ≡ Some key
    → slice_get (with_use one keys) (length (with_use one rest)) ≡ Some key
after_use None keys rest key is = is
after_use (Some first) keys rest key is = is

-- one that uses a key makes the list longer
longer_use : (one : Option KeyUse) (key : KeyUse) (keys : List KeyUse) → one ≡ Some key
    → 0 ≡ length (with_use one keys) → ⊥
longer_use None key keys is none = absurd cc
longer_use (Some first) key keys is none =
    let longer : 0 ≡ suc (length keys) = none in absurd (omega (arith, longer))

same_rest : (one : Option KeyUse) (keys others : List KeyUse)
    → length (with_use one keys) ≡ length (with_use one others) → length keys ≡ length others
same_rest None keys others is = is
same_rest (Some first) keys others is =
    let longer : suc (length keys) ≡ suc (length others) = is in omega (arith, longer)

pub head_is : (x y : Text) (xs ys : List Text) → x ∷ xs ≡ y ∷ ys → x ≡ y
head_is x y xs ys is = cc

pub tail_is : (x y : Text) (xs ys : List Text) → x ∷ xs ≡ y ∷ ys → xs ≡ ys
tail_is x y xs ys is = cc

module _ (use_of : List Text → Text → Option KeyUse) where
  -- a use after a prefix and one more record
  moved : (prefix list : List Text) (x body : Text) (key : KeyUse)
      → use_of (prefix ++ x ∷ list) body ≡ Some key
      → use_of ((prefix ++ x ∷ []) ++ list) body ≡ Some key
  moved prefix list x body key is =
      ap (λ (l : List Text). use_of l body) (append_assoc prefix (x ∷ []) list) ∙ is

  none_before : (prefix : List Text) (body : Text) (key : KeyUse)
      → use_of (prefix ++ []) body ≡ Some key → use_of prefix body ≡ Some key
  none_before prefix body key is =
      ap (λ (l : List Text). use_of l body) (sym (append-nil prefix)) ∙ is

  -- the place of a key among all
  index_of : (prefix list : List Text) (body : Text) (more : List Text) (key : KeyUse)
      → use_of (prefix ++ list) body ≡ Some key
      → slice_get (uses_after use_of prefix (list ++ body ∷ more))
      (length (uses_after use_of prefix list)) ≡ Some key
  index_of prefix [] body more key is =
      head_use (use_of prefix body) key (uses_after use_of (prefix ++ body ∷ []) more)
      (none_before prefix body key is)
  index_of prefix (x ∷ list) body more key is =
      after_use (use_of prefix x)
      (uses_after use_of (prefix ++ x ∷ []) (list ++ body ∷ more))
      (uses_after use_of (prefix ++ x ∷ []) list) key
      (index_of (prefix ++ x ∷ []) list body more key (moved prefix list x body key is))

  -- two records of one list at one place among the keys are one
  one_of : (prefix list other more others : List Text) (body message : Text) (key : KeyUse)
      → list ++ body ∷ more ≡ other ++ message ∷ others
      → use_of (prefix ++ list) body ≡ Some key → use_of (prefix ++ other) message ≡ Some key
      → length (uses_after use_of prefix list) ≡ length (uses_after use_of prefix other)
      → body ≡ message
  one_of prefix [] [] more others body message key same uses uses' place =
      head_is body message more others same
  one_of prefix [] (x ∷ other) more others body message key same uses uses' place =
      let first = head_is body x more (other ++ message ∷ others) same in
      let used = ap (use_of prefix) (sym first) ∙ none_before prefix body key uses in
      absurd (longer_use (use_of prefix x) key (uses_after use_of (prefix ++ x ∷ []) other) used
      place)
  one_of prefix (x ∷ list) [] more others body message key same uses uses' place =
      let first = head_is x message (list ++ body ∷ more) others same in
      let used = ap (use_of prefix) first ∙ none_before prefix message key uses' in
      absurd (longer_use (use_of prefix x) key (uses_after use_of (prefix ++ x ∷ []) list) used
      (sym place))
  one_of prefix (x ∷ list) (y ∷ other) more others body message key same uses uses' place =
      let first = head_is x y (list ++ body ∷ more) (other ++ message ∷ others) same in
      let rest = tail_is x y (list ++ body ∷ more) (other ++ message ∷ others) same in
      let there : use_of ((prefix ++ x ∷ []) ++ other) message ≡ Some key
      = moved prefix other x message key
      (ap (λ (t : Text). use_of (prefix ++ t ∷ other) message) first ∙ uses') in
      let places : length (with_use (use_of prefix x) (uses_after use_of (prefix ++ x ∷ []) list))
      ≡ length (with_use (use_of prefix x) (uses_after use_of (prefix ++ x ∷ []) other))
      = place ∙ ap (λ (t : Text). length (with_use (use_of prefix t)
      (uses_after use_of (prefix ++ t ∷ []) other))) (sym first) in
      one_of (prefix ++ x ∷ []) list other more others body message key rest
      (moved prefix list x body key uses) there
      (same_rest (use_of prefix x) (uses_after use_of (prefix ++ x ∷ []) list)
      (uses_after use_of (prefix ++ x ∷ []) other) places)

  -- so it is where no key is used twice
  pub one_record : (found list other more others : List Text) (body message : Text) (key : KeyUse)
      → UsesOnce use_of found → list ++ body ∷ more ≡ found → other ++ message ∷ others ≡ found
      → use_of list body ≡ Some key → use_of other message ≡ Some key → body ≡ message
  one_record found list other more others body message key once here there uses uses' =
      let place : slice_get (uses_after use_of [] found) (length (uses_after use_of [] list))
      ≡ Some key = subst (λ (l : List Text). slice_get (uses_after use_of [] l)
      (length (uses_after use_of [] list)) ≡ Some key) here
      (index_of [] list body more key uses) in
      let place' : slice_get (uses_after use_of [] found)
      (length (uses_after use_of [] other)) ≡ Some key
      = subst (λ (l : List Text). slice_get (uses_after use_of [] l)
      (length (uses_after use_of [] other)) ≡ Some key) there
      (index_of [] other message others key uses') in
      one_of [] list other more others body message key (here ∙ sym there) uses uses'
      (once (length (uses_after use_of [] list)) (length (uses_after use_of [] other)) key place
      place')

-- a prefix of a list, with what follows it
pub whole_of : (list : List Text) (body : Text) (more rest found : List Text)
    → (list ++ body ∷ more) ++ rest ≡ found → list ++ body ∷ (more ++ rest) ≡ found
whole_of list body more rest found is = sym (append_assoc list (body ∷ more) rest) ∙ is

module _ {W : Type 0} (states : W → CrashStates) (Valid : List Text → Type 0)
    (use_of : List Text → Text → Option KeyUse) where
  pub one_message : KeysAreOfOneMessage states Valid use_of
  one_message once old new events is list other more others body message key held held' uses
      uses' =
      let a = held_stand states Valid (list ++ body ∷ more) old new events held is in
      let b = held_stand states Valid (other ++ message ∷ others) old new events held' is in
      let one = a.each a.some.0 a.some.1 in
      let two = b.each a.some.0 a.some.1 in
      let same = one_list a.some.0 two.list one.list two.stands one.stands in
      one_record use_of one.list list other (more ++ one.begins.0) (others ++ two.begins.0) body
      message key (once one.list one.valid)
      (whole_of list body more one.begins.0 one.list one.begins.1)
      (whole_of other message others two.begins.0 one.list (two.begins.1 ∙ same)) uses uses'
