-- Two files, each left as it may be by itself, that don't go together.
use Rattle.std.proofs.Common.{◌≡◌, inl, inr, List, [], ◌∷◌, ◌++◌, refl, sym, subst, ◌∙◌}
use Rattle.std.proofs.Common.{append_assoc}
use Rattle.byte_formats.specs.Types.{Text}
use Rattle.journal_core.specs.Format.{Represents}
use Rattle.file_events.specs.Apart.{AnyRecords, ClocksGoApart, OneByOneFails, only_state}
use Rattle.file_events.specs.Events.{MayAppend}
use Rattle.file_events.specs.Executions.{IsPrefix}
use Rattle.file_events.proofs.Records.{one_list, prefix_more, prefix_same}
use Rattle.file_events.proofs.Uses.{tail_is}

-- no list is one with more after it
no_end : (x : Text) (ys : List Text) → x ∷ ys ≡ [] → ⊥
no_end x ys is = absurd cc

no_longer : (xs ys : List Text) (x : Text) → xs ++ x ∷ ys ≡ xs → ⊥
no_longer [] ys x is = no_end x ys is
no_longer (z ∷ xs) ys x is = no_longer xs ys x (tail_is z z (xs ++ x ∷ ys) xs is)

no_prefix : (list : List Text) (body : Text) → IsPrefix (list ++ body ∷ []) list → ⊥
no_prefix list body prefix =
    no_longer list prefix.0 body (sym (append_assoc list (body ∷ []) prefix.0) ∙ prefix.1)

-- a run that read this text may add the record
may_add : (list : List Text) (body c : Text) → Represents c list
    → MayAppend AnyRecords list body (only_state c)
may_add list body c stands = record {
  found = record { bytes = c; state = refl; stands = stands; valid = tt };
  valid = tt;
}

-- the one text represents these records
only_stands : (list : List Text) (c d : Text) → Represents c list → d ≡ c → Represents d list
only_stands list c d stands is = subst (λ (b : Text). Represents b list) (sym is) stands

pub one_by_one : OneByOneFails
one_by_one items steps batch body m m' s s' of_m of_m' of_s of_s' = record {
  laws = record {
    more = λ list others b valid agree. elim agree [
      | inl same ↦ inl same
      | inr prefix ↦ inr (prefix_more (items ++ batch ∷ []) list b prefix)
    ];
    computed = λ list others step prefix valid agree. inr prefix;
    neutral = λ list others step never valid agree. absurd never;
  };
  agree = λ list others at at'.
      inl (one_list s others steps
      (subst (λ (b : Text). Represents b others) at'.1.0 at'.1.1) of_s);
  may = prefix_same (items ++ batch ∷ []) (items ++ batch ∷ []) refl;
  mirror = inl (λ c at. at);
  cosigner = inr (
    may_add steps body s of_s,
    λ c at. inr (only_stands (steps ++ body ∷ []) s' c of_s' at),
  );
  apart = λ agree. elim (agree items (steps ++ body ∷ []) (m, (inl refl, of_m))
      (s', (refl, of_s'))) [
        | inl same ↦ no_longer steps [] body same
        | inr prefix ↦ no_prefix items batch prefix
      ];
}

pub clocks_go_apart : ClocksGoApart
clocks_go_apart list body c c' t t' of_c of_c' differ = record {
  goes = λ d others at stands b there. inr (
    there,
    one_list c others list (subst (λ (e : Text). Represents e others) at stands) of_c,
  );
  ran = λ heard. record {
    some = (c', refl);
    happens = (
      (may_add list body c of_c, λ d at. only_stands (list ++ body ∷ []) c' d of_c' at),
      record {
        keeps = λ all b there. inl there;
        following = λ all d at stands b there. inl there;
      },
    );
  };
  at_once = record {
    some = (c', refl);
    happens = inr (
      may_add list body c of_c,
      λ d at. inr (only_stands (list ++ body ∷ []) c' d of_c' at),
    );
  };
  apart = λ go. elim (go c' (list ++ body ∷ []) refl of_c' t refl) [
    | inl same ↦ differ same
    | inr both ↦ no_longer list [] body both.1
  ];
}
