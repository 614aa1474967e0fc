-- What is born, event by event.
use Rattle.std.proofs.Common.{◌≡◌, ℕ, ◌+◌, ◌*◌, ◌<◌, ◌≤◌, List, [], ◌∷◌, ◌++◌, length, drop, get_or, Option, Some, slice_get, ap, sym, ◌∙◌, arith, append_assoc}
use Rattle.std.specs.Option.{option_map_or}
use Rattle.std.proofs.lemmas.List.{append-nil, drop_all, drop_more, length-append}
use Rattle.smol_types.specs.declared.draft.Draft.{Draft}
use Rattle.smol_types.specs.declared.reaction.Placement.{Placement}
use Rattle.smol_types.specs.declared.reaction.Placement.TheVariants.{Offsets}
use Rattle.smol_types.specs.declared.reaction.Product.{Product}
use Rattle.smol_types.specs.declared.reaction.Reaction.{Reaction}
use Rattle.smol_types.specs.Sound.{IsSound}
use Rattle.smol_meaning.specs.declared.event.Birth.{Birth}
use Rattle.smol_meaning.specs.declared.event.Fired.{Fired}
use Rattle.smol_meaning.specs.Births.{IsEvent}
use Rattle.smol_meaning.specs.Events.{births_in, births_of, births_of_event, placement_of, products_of}
use Rattle.smol_meaning.proofs.Births.{length-births_of_event, products_few}

-- when no product of an event is left, all of them are born
pub born_all : (event : Fired) (placement : Placement) (products : List Product) (serial index : ℕ) (old new : List Birth) → length products ≤ index
    → new ++ births_in placement event (serial + index) index (drop index products) ≡ old ++ births_in placement event serial 0 products
    → new ≡ old ++ births_in placement event serial 0 products
born_all event placement products serial index old new past kept =
    sym (append-nil new)
    ∙ ap (λ (left : List Product). new ++ births_in placement event (serial + index) index left) (sym (drop_all index products past))
    ∙ kept

-- what an event makes is what its reaction makes
pub made_by : (draft : Draft) (event : Fired) (reaction : Reaction) (serial : ℕ) → slice_get draft.reactions event.reaction ≡ Some reaction
    → births_in reaction.placement event serial 0 reaction.products ≡ births_of_event draft serial event
made_by draft event reaction serial found =
    let products : products_of draft event.reaction ≡ reaction.products =
    ap (λ (reaction : Option Reaction). option_map_or (λ (reaction : Reaction). reaction.products) reaction []) found in
    let placement : placement_of draft event.reaction ≡ reaction.placement =
    ap (λ (reaction : Option Reaction). option_map_or (λ (reaction : Reaction). reaction.placement) reaction Offsets) found in
    λ i. births_in (sym placement i) event serial 0 (sym products i)

-- the products of one event more
pub born_more : (draft : Draft) (next serial i : ℕ) (events : List Fired) (event : Fired) (old new total : List Birth) → i < length events
    → event ≡ get_or events i event → serial ≡ next + length old → new ≡ old ++ births_of_event draft serial event
    → old ++ births_of draft (next + length old) (drop i events) ≡ total
    → new ++ births_of draft (next + length new) (drop (i + 1) events) ≡ total
born_more draft next serial i events event old new total within is here made kept =
    let rest = drop (i + 1) events in
    let count = length (products_of draft event.reaction) in
    let step : drop i events ≡ event ∷ rest = drop_more events i event within ∙ ap (λ (e : Fired). e ∷ rest) (sym is) in
    let long : next + length new ≡ serial + count =
    omega (arith, ap length made, length-append old (births_of_event draft serial event), length-births_of_event draft serial event) in
    ap (λ (births : List Birth). births ++ births_of draft (next + length new) rest) made
    ∙ ap (λ (s : ℕ). old ++ births_of_event draft serial event ++ births_of draft s rest) long
    ∙ append_assoc old (births_of_event draft serial event) (births_of draft (serial + count) rest)
    ∙ ap (λ (s : ℕ). old ++ births_of draft s (event ∷ rest)) here
    ∙ ap (λ (left : List Fired). old ++ births_of draft (next + length old) left) (sym step)
    ∙ kept

-- and how many there are then
pub count_more : (draft : Draft) → IsSound draft → (serial i : ℕ) (event : Fired) (old new : List Birth) → IsEvent draft event
    → new ≡ old ++ births_of_event draft serial event → length old ≤ 16 * i → length new ≤ 16 * (i + 1)
count_more draft sound serial i event old new is made few =
    omega (arith, ap length made, length-append old (births_of_event draft serial event), length-births_of_event draft serial event, products_few draft sound event is)
