-- Lists of records, and what one event leaves of them.
use Rattle.std.proofs.Common.{◌≡◌, inl, inr, Bool, List, [], ◌∷◌, ◌++◌, Some, sym, ap, subst}
use Rattle.std.proofs.Common.{◌∙◌, append_assoc, take}
use Rattle.std.proofs.lemmas.List.{append-nil}
use Rattle.std.proofs.lemmas.Option.{none-some, same_Some}
use Rattle.byte_formats.specs.Types.{Text}
use Rattle.disk_core.specs.Disk.{NoNew}
use Rattle.journal_core.specs.Format.{Represents, header}
use Rattle.journal_core.proofs.Records.{records_of-stands}
use Rattle.file_events.specs.Events.{CrashStates, Done, Event, HalfDone, Happens, EventHolds}
use Rattle.file_events.specs.Events.{Journaled, Leads, WasFound, appended, broke, elsewhere}
use Rattle.file_events.specs.Events.{ran, reads, records_after, started, untouched}
use Rattle.file_events.specs.Executions.{IsPrefix}
use Rattle.file_events.specs.Laws.{IsDurablePrefix, IsReadAfter}

-- ---- lists

-- of a text the records are known
pub one_list : (c : Text) (xs ys : List Text) → Represents c xs → Represents c ys → xs ≡ ys
one_list c xs ys one two = sym (records_of-stands c xs one) ∙ records_of-stands c ys two

no_header : [] ≡ header → ⊥
no_header is = absurd cc

pub no_records : (c : Text) (list : List Text) → c ≡ [] → Represents c list → ⊥
no_records c list is stands =
    no_header (subst (λ (b : Text). take 16 b ≡ header) is stands.begins)

pub prefix_same : (xs ys : List Text) → ys ≡ xs → IsPrefix xs ys
prefix_same xs ys is = ([], append-nil xs ∙ sym is)

pub prefix_more : (xs ys : List Text) (body : Text) → IsPrefix xs ys
    → IsPrefix xs (ys ++ body ∷ [])
prefix_more xs ys body prefix = (
  prefix.0 ++ body ∷ [],
  sym (append_assoc xs prefix.0 (body ∷ []))
      ∙ ap (λ (l : List Text). l ++ body ∷ []) prefix.1,
)

-- ---- an event

module _ (Valid : List Text → Type 0) where
  -- a run that came to its end leaves what one may leave that broke off
  pub whole_is_half : (did : Journaled) (before now : CrashStates) → Done Valid did before now
      → HalfDone Valid did before now
  whole_is_half untouched before now done = done
  whole_is_half (reads list) before now done = done
  whole_is_half (appended list body) before now done = (done.0, λ c at. inr (done.1 c at))
  whole_is_half (started body) before now done = done.0

  -- so an event of a run that ended is one of a run that broke off
  pub ran_is_broke : (heard : Bool) (did : Journaled) (before now : CrashStates)
      → Leads Valid (ran heard did) before now → Leads Valid (broke did) before now
  ran_is_broke heard did before now leads = record {
    some = leads.some;
    happens = inr (whole_is_half did before now leads.happens);
  }

  module _ (prefix : List Text) (before : CrashStates)
      (durable : IsDurablePrefix Valid prefix before) where
    -- durable records are the first of those that are found
    pub found_after : (list : List Text) → WasFound Valid before list → IsPrefix prefix list
    found_after list found =
        let following = durable.each found.bytes found.state in
        subst (λ (l : List Text). IsPrefix prefix l)
        (one_list found.bytes following.list list following.stands found.stands) following.begins

    -- the file is no empty one
    pub not_empty : NoNew (λ c. c ≡ []) before → ⊥
    not_empty empty =
        let following = durable.each durable.some.0 durable.some.1 in
        no_records durable.some.0 following.list (empty durable.some.0 durable.some.1)
        following.stands

    half : (did : Journaled) (now : CrashStates) → HalfDone Valid did before now → (c : Text)
        → now c → IsReadAfter Valid prefix c
    half untouched now kept c at = durable.each c (kept c at)
    half (reads list) now done c at = record {
      list = list;
      stands = done.1 c at;
      begins = found_after list done.0;
      valid = done.0.valid;
    }
    half (appended list body) now done c at = elim (done.1 c at) [
      | inl old ↦ record {
        list = list;
        stands = old;
        begins = found_after list done.0.found;
        valid = done.0.found.valid;
      }
      | inr new ↦ record {
        list = list ++ body ∷ [];
        stands = new;
        begins = prefix_more prefix list body (found_after list done.0.found);
        valid = done.0.valid;
      }
    ]
    half (started body) now empty c at = absurd (not_empty empty)

    happened : (event : Event) (now : CrashStates) → Happens Valid event before now → (c : Text)
        → now c → IsReadAfter Valid prefix c
    happened elsewhere now kept c at = durable.each c (kept c at)
    happened (ran heard did) now done c at = half did now (whole_is_half did before now done) c at
    happened (broke did) now either c at = elim either [
      | inl kept ↦ durable.each c (kept c at)
      | inr done ↦ half did now done c at
    ]

    -- durable records stay so over an event
    pub stay_durable : (event : Event) (now : CrashStates) → Leads Valid event before now
        → IsDurablePrefix Valid prefix now
    stay_durable event now leads =
        record { some = leads.some; each = happened event now leads.happens }

  -- the records that a run held are durable after it
  held_by : (list : List Text) (did : Journaled) (before now : CrashStates)
      → records_after did ≡ Some list → Done Valid did before now → (c : Text) → now c
      → IsReadAfter Valid list c
  held_by list untouched before now held done c at = absurd (none-some list held)
  held_by list (reads found) before now held done c at = record {
    list = found;
    stands = done.1 c at;
    begins = prefix_same list found (same_Some found list held);
    valid = done.0.valid;
  }
  held_by list (appended found body) before now held done c at = record {
    list = found ++ body ∷ [];
    stands = done.1 c at;
    begins = prefix_same list (found ++ body ∷ []) (same_Some (found ++ body ∷ []) list held);
    valid = done.0.valid;
  }
  held_by list (started body) before now held done c at = record {
    list = body ∷ [];
    stands = done.1.1 c at;
    begins = prefix_same list (body ∷ []) (same_Some (body ∷ []) list held);
    valid = done.1.0;
  }

  pub held_durable : (list : List Text) (event : Event) (before now : CrashStates)
      → EventHolds list event → Leads Valid event before now → IsDurablePrefix Valid list now
  held_durable list elsewhere before now held leads = absurd held
  held_durable list (ran heard did) before now held leads =
      record { some = leads.some; each = held_by list did before now held leads.happens }
  held_durable list (broke did) before now held leads = absurd held

  -- and they are valid
  valid_by : (list : List Text) (did : Journaled) (before now : CrashStates)
      → records_after did ≡ Some list → Done Valid did before now → Valid list
  valid_by list untouched before now held done = absurd (none-some list held)
  valid_by list (reads found) before now held done =
      subst Valid (same_Some found list held) done.0.valid
  valid_by list (appended found body) before now held done =
      subst Valid (same_Some (found ++ body ∷ []) list held) done.0.valid
  valid_by list (started body) before now held done =
      subst Valid (same_Some (body ∷ []) list held) done.1.0

  pub held_valid : (list : List Text) (event : Event) (before now : CrashStates)
      → EventHolds list event → Leads Valid event before now → Valid list
  held_valid list elsewhere before now held leads = absurd held
  held_valid list (ran heard did) before now held leads =
      valid_by list did before now held leads.happens
  held_valid list (broke did) before now held leads = absurd held
