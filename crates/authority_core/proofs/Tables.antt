-- The tables of a list of requests, one by one.
use Rattle.std.proofs.Common.{◌≡◌, ℕ, ◌+◌, ◌<◌, List, [], ◌∷◌, ◌++◌, length, get_or, drop}
use Rattle.std.proofs.Common.{Option, Some, None, option_map, Result, Ok, Err, true, false, refl}
use Rattle.std.proofs.Common.{ap, sym, ◌∙◌, append_assoc, append-nil, arith}
use Rattle.std.proofs.lemmas.List.{at_drop_more}
use Rattle.std.specs.Prelude.{is_some, ◌≤◌, codes}
use Rattle.std.specs.Option.{option_and_then, unwrap_or}
use Rattle.byte_formats.specs.Readings.{◌>>=◌}
use Rattle.toml.specs.Data.{item, Members, as_table, get_member}
use Rattle.toml.specs.View.{items_view, view}
use Rattle.toml.specs.declared.value.Value.{Value}
use Rattle.authority_core.specs.RequestLists.{member_tables, numbered_request, requests_from}
use Rattle.authority_core.specs.RequestLists.{requests_in, some_tables, tables_data, tables_in}
use Rattle.authority_core.specs.Requests.{RequestParts}
use Rattle.toml_fields.specs.Fields.{required_field}
use Rattle.authority_core.specs.declared.requests.error.RequestListError.{RequestListError}
use Rattle.authority_core.specs.declared.requests.error.RequestListError.TheVariants.{Missing}
use Rattle.authority_core.specs.declared.requests.error.RequestListError.TheVariants.{BadValue}

-- ---- whether each item is a table

-- These tables, where the items after the first are tables, and it is one.
abbrev with_table : Option (List Members) → Option Members → Option (List Members)
with_table rest first = option_and_then (λ ms. option_map (λ tables. ms ∷ tables) rest) first

is_some_table : (rest : Option (List Members)) (first : Option Members) → is_some first ≡ true
    → is_some (with_table rest first) ≡ is_some rest
is_some_table None (Some ms) is = refl
is_some_table (Some tables) (Some ms) is = refl
is_some_table rest None is = let wrong : false ≡ true = is in absurd cc

is_no_table : (rest : Option (List Members)) (first : Option Members) → is_some first ≡ false
    → is_some (with_table rest first) ≡ false
is_no_table rest None is = refl
is_no_table rest (Some ms) is = let wrong : true ≡ false = is in absurd cc

-- the first of them, and the others
parted : (rest : Option (List Members)) (first : Option Members) (ms : Members) → first ≡ Some ms
    → is_some (with_table rest first) ≡ true → (is_some rest ≡ true)
    × (unwrap_or (with_table rest first) [] ≡ ms ∷ unwrap_or rest [])
parted None (Some ms) other one is = let wrong : false ≡ true = is in absurd cc
parted (Some tables) (Some ms) other one is =
    let same : ms ≡ other = cc in
    (refl, ap (λ (x : Members). x ∷ tables) same)
parted rest None ms one is = absurd cc

-- ---- requests after others

abbrev pub after_these : List RequestParts → Result (List RequestParts) RequestListError
    → Result (List RequestParts) RequestListError
after_these rs (Ok more) = Ok (rs ++ more)
after_these rs (Err why) = Err why

after_none : (rs : List RequestParts) → after_these rs (Ok []) ≡ Ok rs
after_none rs = ap Ok (append-nil rs)

after_one : (rs : List RequestParts) (r : RequestParts)
    (rest : Result (List RequestParts) RequestListError)
    → after_these rs (rest >>= λ more. Ok (r ∷ more)) ≡ after_these (rs ++ r ∷ []) rest
after_one rs r (Ok more) = ap Ok (sym (append_assoc rs (r ∷ []) more))
after_one rs r (Err why) = refl

-- a table that is a request, with those after it
requests_next : (rs : List RequestParts) (n : ℕ) (ms : Members) (tables : List Members)
    (r : RequestParts) → numbered_request n ms ≡ Ok r
    → after_these rs (requests_from n (ms ∷ tables))
    ≡ after_these (rs ++ r ∷ []) (requests_from (n + 1) tables)
unfolding requests_from
requests_next rs n ms tables r read =
    ap (λ (o : Result RequestParts RequestListError). after_these rs (o >>= λ x.
    requests_from (n + 1) tables >>= λ more. Ok (x ∷ more))) read
    ∙ after_one rs r (requests_from (n + 1) tables)

-- and one that is none
requests_not : (rs : List RequestParts) (n : ℕ) (ms : Members) (tables : List Members)
    (why : RequestListError) → numbered_request n ms ≡ Err why
    → after_these rs (requests_from n (ms ∷ tables)) ≡ Err why
unfolding requests_from
requests_not rs n ms tables why read =
    ap (λ (o : Result RequestParts RequestListError). after_these rs (o >>= λ x.
    requests_from (n + 1) tables >>= λ more. Ok (x ∷ more))) read

pub requests_all : (rs : List RequestParts) (n : ℕ) → after_these rs (requests_from n []) ≡ Ok rs
unfolding requests_from
requests_all rs n = after_none rs

-- ---- over a list of values

module _ (vs : List Value) (i : ℕ) (v : Value) (within : i < length vs)
    (here : v ≡ get_or vs i v) where
  -- the items from this one on
  items_here : items_view (drop i vs) ≡ item (view v) (items_view (drop (i + 1) vs))
  items_here =
      at_drop_more items_view vs i v within
      ∙ ap (λ (w : Value). item (view w) (items_view (drop (i + 1) vs))) (sym here)

  tables_here : tables_in (items_view (drop i vs))
      ≡ with_table (tables_in (items_view (drop (i + 1) vs))) (as_table (view v))
  tables_here = ap tables_in items_here

  pub table_is : is_some (as_table (view v)) ≡ true
      → is_some (tables_in (items_view (drop (i + 1) vs)))
      ≡ is_some (tables_in (items_view (drop i vs)))
  table_is is =
      sym (ap is_some tables_here
      ∙ is_some_table (tables_in (items_view (drop (i + 1) vs))) (as_table (view v)) is)

  pub table_not : is_some (as_table (view v)) ≡ false
      → is_some (tables_in (items_view (drop i vs))) ≡ false
  table_not is =
      ap is_some tables_here
      ∙ is_no_table (tables_in (items_view (drop (i + 1) vs))) (as_table (view v)) is

  parted_here : (ms : Members) → as_table (view v) ≡ Some ms
      → is_some (tables_in (items_view (drop i vs))) ≡ true
      → (is_some (tables_in (items_view (drop (i + 1) vs))) ≡ true)
      × (member_tables (items_view (drop i vs))
      ≡ ms ∷ member_tables (items_view (drop (i + 1) vs)))
  parted_here ms one some =
      let both = parted (tables_in (items_view (drop (i + 1) vs))) (as_table (view v)) ms one
      (sym (ap is_some tables_here) ∙ some) in
      (both.0, ap (λ (o : Option (List Members)). unwrap_or o []) tables_here ∙ both.1)

  pub tables_after : (ms : Members) → as_table (view v) ≡ Some ms
      → is_some (tables_in (items_view (drop i vs))) ≡ true
      → is_some (tables_in (items_view (drop (i + 1) vs))) ≡ true
  tables_after ms one some = (parted_here ms one some).0

  module _ (rs : List RequestParts) (n : ℕ) (ms : Members) (one : as_table (view v) ≡ Some ms)
      (some : is_some (tables_in (items_view (drop i vs))) ≡ true)
      (wanted : Result (List RequestParts) RequestListError) (whole : after_these rs
      (requests_from n (member_tables (items_view (drop i vs)))) ≡ wanted) where
    from_here : after_these rs (requests_from n (ms ∷ member_tables
        (items_view (drop (i + 1) vs)))) ≡ wanted
    from_here =
        ap (λ (tables : List Members). after_these rs (requests_from n tables))
        (sym (parted_here ms one some).1) ∙ whole

    pub request_next : (r : RequestParts) → numbered_request n ms ≡ Ok r
        → after_these (rs ++ r ∷ []) (requests_from (n + 1) (member_tables
        (items_view (drop (i + 1) vs)))) ≡ wanted
    request_next r read =
        sym (requests_next rs n ms (member_tables (items_view (drop (i + 1) vs))) r read)
        ∙ from_here

    pub request_not : (why : RequestListError) → numbered_request n ms ≡ Err why → wanted ≡ Err why
    request_not why read =
        sym from_here
        ∙ requests_not rs n ms (member_tables (items_view (drop (i + 1) vs))) why read

-- ---- the tables that a value is

some_parted : (rest : Option (List Members)) (first : Option Members)
    → is_some (with_table rest first) ≡ true → option_and_then some_tables (with_table rest first)
    ≡ Some (unwrap_or (with_table rest first) [])
some_parted None (Some ms) is = let wrong : false ≡ true = is in absurd cc
some_parted (Some tables) (Some ms) is = refl
some_parted rest None is = let wrong : false ≡ true = is in absurd cc

none_seen : (o : Option (List Members)) → is_some o ≡ false → option_and_then some_tables o ≡ None
none_seen None is = refl
none_seen (Some tables) is = let wrong : true ≡ false = is in absurd cc

module _ (vs : List Value) where
  pub tables_seen : is_some (tables_in (items_view vs)) ≡ true → 1 ≤ length vs
      → Some (member_tables (items_view vs))
      ≡ option_and_then some_tables (tables_in (items_view vs))
  tables_seen is some = sym (seen vs is some)
    where
      seen : (ws : List Value) → is_some (tables_in (items_view ws)) ≡ true → 1 ≤ length ws
          → option_and_then some_tables (tables_in (items_view ws))
          ≡ Some (member_tables (items_view ws))
      seen [] is some = absurd (omega arith)
      seen (w ∷ ws) is some = some_parted (tables_in (items_view ws)) (as_table (view w)) is

  pub tables_mixed : is_some (tables_in (items_view vs)) ≡ false
      → None ≡ option_and_then some_tables (tables_in (items_view vs))
  tables_mixed is = sym (none_seen (tables_in (items_view vs)) is)

  pub tables_empty : length vs ≡ 0
      → None ≡ option_and_then some_tables (tables_in (items_view vs))
  tables_empty is = sym (empty vs is)
    where
      empty : (ws : List Value) → length ws ≡ 0
          → option_and_then some_tables (tables_in (items_view ws)) ≡ None
      empty [] is = refl
      empty (w ∷ ws) is = absurd (omega arith)

pub ruleset table_tests = (tables_empty, tables_mixed, tables_seen)

-- ---- the requests of the root

pub listed_of : (ms : Members) (tables : List Members)
    → required_field Missing BadValue tables_data (get_member (codes "request") ms) ≡ Ok tables
    → requests_from 0 tables ≡ requests_in ms
unfolding requests_in
listed_of ms tables is =
    sym (ap (λ (o : Result (List Members) RequestListError). o >>= requests_from 0) is)

pub listed_not : (ms : Members) (why : RequestListError)
    → required_field Missing BadValue tables_data (get_member (codes "request") ms) ≡ Err why
    → requests_in ms ≡ Err why
unfolding requests_in
listed_not ms why is =
    ap (λ (o : Result (List Members) RequestListError). o >>= requests_from 0) is
