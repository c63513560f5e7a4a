-- What a record says, as one value, by what is read in it.
use Rattle.std.proofs.Common.{◌≡◌, ℕ, List, [], ◌∷◌, Option, Some, None, option_map, refl, ap}
use Rattle.std.proofs.Common.{◌∙◌}
use Rattle.std.specs.Option.{option_or, unwrap_or}
use Rattle.byte_formats.specs.Types.{Text}
use Rattle.issuance_log.specs.LogSteps.{LogStep, adds_items, log_step, log_step_in, sets_mark}
use Rattle.issuance_log.specs.LogSteps.{stores_tiles, switches, unknown_step}
use Rattle.issuance_log.specs.Records.{added_in, added_items, batch_in, item_in, mark_in}
use Rattle.issuance_log.specs.Records.{switch_in, tiled_in}

-- the items in a step
abbrev pub items_of_step : LogStep → List (Text × Text)
items_of_step (adds_items items) = items
items_of_step (sets_mark size) = []
items_of_step (stores_tiles size) = []
items_of_step (switches index) = []
items_of_step unknown_step = []

items_stay : (added : Option (List (Text × Text))) (mark tiled switch : Option ℕ)
    → unwrap_or added [] ≡ items_of_step (log_step added mark tiled switch)
items_stay (Some items) mark tiled switch = refl
items_stay None (Some size) tiled switch = refl
items_stay None None (Some size) switch = refl
items_stay None None None (Some index) = refl
items_stay None None None None = refl

-- they are those that the record adds
pub step_items_are : (body : Text) → added_items body ≡ items_of_step (log_step_in body)
step_items_are body = items_stay (added_in body) (mark_in body) (tiled_in body) (switch_in body)

-- ---- what a record adds

-- an Entry its item, and a Batch its items
pub added_by_entry : (body : Text) (x : Text × Text) → item_in body ≡ Some x
    → added_in body ≡ Some (x ∷ [])
added_by_entry body x is =
    ap (λ o. option_or (option_map (λ item. item ∷ []) o) (batch_in body)) is

pub added_by_batch : (body : Text) (items : List (Text × Text)) → item_in body ≡ None
    → batch_in body ≡ Some items → added_in body ≡ Some items
added_by_batch body items none is =
    ap (λ o. option_or (option_map (λ item. item ∷ []) o) (batch_in body)) none ∙ is

-- a record that is neither adds none
pub added_none : (body : Text) → item_in body ≡ None → batch_in body ≡ None
    → added_in body ≡ None
added_none body none other =
    ap (λ o. option_or (option_map (λ item. item ∷ []) o) (batch_in body)) none ∙ other

-- whose items are none
pub no_items : (body : Text) → added_in body ≡ None → added_items body ≡ []
no_items body is = ap (λ o. unwrap_or o []) is

pub items_are : (body : Text) (items : List (Text × Text)) → added_in body ≡ Some items
    → added_items body ≡ items
items_are body items is = ap (λ o. unwrap_or o []) is

pub items_of_entry : (body : Text) (x : Text × Text) → item_in body ≡ Some x
    → added_items body ≡ x ∷ []
items_of_entry body x is = items_are body (x ∷ []) (added_by_entry body x is)

-- ---- what it says

-- by what is read
pub says_so : (body : Text) (added : Option (List (Text × Text))) (mark tiled switch : Option ℕ)
    → added_in body ≡ added → mark_in body ≡ mark → tiled_in body ≡ tiled
    → switch_in body ≡ switch → log_step_in body ≡ log_step added mark tiled switch
says_so body added mark tiled switch one two three four =
    ap (λ o. log_step o (mark_in body) (tiled_in body) (switch_in body)) one
    ∙ ap (λ o. log_step added o (tiled_in body) (switch_in body)) two
    ∙ ap (λ o. log_step added mark o (switch_in body)) three
    ∙ ap (log_step added mark tiled) four

pub says_items : (body : Text) (items : List (Text × Text)) → added_in body ≡ Some items
    → log_step_in body ≡ adds_items items
says_items body items is = says_so body (Some items) _ _ _ is refl refl refl

pub says_mark : (body : Text) (size : ℕ) → added_in body ≡ None → mark_in body ≡ Some size
    → log_step_in body ≡ sets_mark size
says_mark body size none is = says_so body None (Some size) _ _ none is refl refl

pub says_tiles : (body : Text) (size : ℕ) → added_in body ≡ None → mark_in body ≡ None
    → tiled_in body ≡ Some size → log_step_in body ≡ stores_tiles size
says_tiles body size none other is = says_so body None None (Some size) _ none other is refl

pub says_switch : (body : Text) (index : ℕ) → added_in body ≡ None → mark_in body ≡ None
    → tiled_in body ≡ None → switch_in body ≡ Some index → log_step_in body ≡ switches index
says_switch body index none other third is =
    says_so body None None None (Some index) none other third is
