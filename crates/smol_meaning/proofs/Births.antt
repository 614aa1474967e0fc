-- What events make: how many products, and that they are of the configuration.
use Rattle.std.proofs.Common.{◌≡◌, ℕ, ◌+◌, ◌*◌, ◌/◌, ◌<◌, ◌≤◌, ◌==◌, Bool, true, false, ℤ, pos, ◌-ℤ◌, List, [], ◌∷◌, length, All, Option, subst, sym, if◌then◌else◌, refl, ap, arith, unsigned_abs}
use Rattle.std.specs.Option.{option_map_or}
use Rattle.std.proofs.lemmas.Grind.{common_steps}
use Rattle.std.proofs.lemmas.Int.{ints}
use Rattle.std.proofs.lemmas.List.{length-append}
use Rattle.std.proofs.lemmas.List.Elements.{All-append, All-cons, All-head, All-nil, All-tail}
use Rattle.smol_geom.specs.Axes.{on_axis, EachAxis, IsEven, IsWithin}
use Rattle.smol_types.specs.declared.draft.Draft.{Draft}
use Rattle.smol_types.specs.declared.reaction.Placement.{Placement}
use Rattle.smol_types.specs.declared.reaction.Placement.TheVariants.{Offsets, Unbind}
use Rattle.smol_types.specs.declared.reaction.Product.{Product}
use Rattle.smol_types.specs.declared.reaction.Reaction.{Reaction}
use Rattle.smol_types.specs.Limits.{longest, most_products}
use Rattle.smol_types.specs.Reactions.{IsPlacement, IsProduct, IsReaction}
use Rattle.smol_types.specs.Sound.{IsSound}
use Rattle.smol_meaning.specs.declared.event.Fired.{Fired}
use Rattle.smol_meaning.specs.Births.{IsBirth, IsEvent}
use Rattle.smol_meaning.specs.Events.{along, births_in, births_of, births_of_event, offset_of, placement_of, products_of}
use Rattle.smol_meaning.proofs.Kept.{item_at}

-- each product is born, whether or not it is absorbed then
pub length-births_in : (placement : Placement) (event : Fired) (serial index : ℕ) (products : List Product)
    → length (births_in placement event serial index products) ≡ length products
length-births_in placement event serial index [] = refl
length-births_in placement event serial index (product ∷ products) =
    let more = length-births_in placement event (serial + 1) (index + 1) products in grind (arith, more)

-- a displacement along an axis in use: even, so long, and 0 on the axes that aren't in use
record IsAlong (dims most : ℕ) (by : List ℤ) : Type 0 where
  even : EachAxis (λ axis. IsEven (on_axis by axis))
  size : IsWithin most by
  unused : EachAxis (λ axis. dims ≤ axis → on_axis by axis ≡ pos 0)

chosen_even : (here : Bool) (x : ℤ) → IsEven x → IsEven (if here then x else pos 0)
chosen_even true x even = even
chosen_even false x even = refl

chosen_size : (here : Bool) (x : ℤ) (k : ℕ) → unsigned_abs x ≤ k → unsigned_abs (if here then x else pos 0) ≤ k
chosen_size true x k small = small
chosen_size false x k small = omega arith

elsewhere : (axis other dims : ℕ) (x : ℤ) → axis < dims → dims ≤ other → (if axis == other then x else pos 0) ≡ pos 0
elsewhere axis other dims x used unused = grind (arith, common_steps)

along_is : (dims most axis : ℕ) (x : ℤ) → axis < dims → IsEven x → unsigned_abs x ≤ most → IsAlong dims most (along axis x).0
along_is dims most axis x used even small = record {
  even = (chosen_even (axis == 0) x even, chosen_even (axis == 1) x even, chosen_even (axis == 2) x even);
  size = (chosen_size (axis == 0) x most small, chosen_size (axis == 1) x most small, chosen_size (axis == 2) x most small);
  unused = (elsewhere axis 0 dims x used, elsewhere axis 1 dims x used, elsewhere axis 2 dims x used);
}

up_even : (d : ℕ) → IsEven (pos (2 * ((d + 1) / 2)))
up_even d = omega arith

down_even : (d : ℕ) → IsEven (pos 0 -ℤ pos (2 * (d / 2)))
down_even d = omega (arith, ints)

up_size : (d : ℕ) → d ≤ longest → unsigned_abs (pos (2 * ((d + 1) / 2))) ≤ 2 * longest
up_size d small = omega arith

down_size : (d : ℕ) → d ≤ longest → unsigned_abs (pos 0 -ℤ pos (2 * (d / 2))) ≤ 2 * longest
down_size d small = omega (arith, ints)

apart_at : (first : Bool) (dims axis d : ℕ) → axis < dims → d ≤ longest
    → IsAlong dims (2 * longest) (along axis (if first then pos (2 * ((d + 1) / 2)) else pos 0 -ℤ pos (2 * (d / 2)))).0
apart_at true dims axis d used small = along_is dims (2 * longest) axis _ used (up_even d) (up_size d small)
apart_at false dims axis d used small = along_is dims (2 * longest) axis _ used (down_even d) (down_size d small)

-- a product's displacement is so, at its offset or taken apart
offset_is : (placement : Placement) (dims axis index count species_count : ℕ) (product : Product) → axis < dims → IsPlacement count placement
    → IsProduct dims species_count product → IsAlong dims (2 * longest) (offset_of placement axis index product).0
offset_is Offsets dims axis index count species_count product used placed is = record { even = is.even; size = is.size; unused = is.unused }
offset_is (Unbind distance) dims axis index count species_count product used placed is =
    apart_at (index == 0) dims axis (unsigned_abs distance) used placed.2

-- products of a reaction of the configuration are of the configuration
pub births_in_are : (draft : Draft) (placement : Placement) (event : Fired) (serial index count : ℕ) (products : List Product) → event.axis < draft.dims
    → IsPlacement count placement → All (IsProduct draft.dims (length draft.species)) products
    → All (IsBirth draft) (births_in placement event serial index products)
births_in_are draft placement event serial index count [] used placed are = All-nil (IsBirth draft)
births_in_are draft placement event serial index count (product ∷ products) used placed are =
    let is = All-head (IsProduct draft.dims (length draft.species)) product products are in
    let goes = offset_is placement draft.dims event.axis index count (length draft.species) product used placed is in
    All-cons (IsBirth draft) _ _ (record { species = is.species; even = goes.even; size = goes.size; unused = goes.unused })
    (births_in_are draft placement event (serial + 1) (index + 1) count products used placed (All-tail (IsProduct draft.dims (length draft.species)) product products are))

-- the reaction of a number
pub reaction_at : (draft : Draft) → IsSound draft → (number : ℕ) → number < length draft.reactions → (reaction : Reaction)
    × (products_of draft number ≡ reaction.products) × (placement_of draft number ≡ reaction.placement)
    × IsReaction draft.dims (length draft.species) reaction
reaction_at draft sound number within =
    let found = item_at (IsReaction draft.dims (length draft.species)) draft.reactions number within sound.reactions in (
      found.0,
      ap (λ (reaction : Option Reaction). option_map_or (λ (reaction : Reaction). reaction.products) reaction []) found.1,
      ap (λ (reaction : Option Reaction). option_map_or (λ (reaction : Reaction). reaction.placement) reaction Offsets) found.1,
      found.2,
    )

-- what an event makes is of the configuration
pub births_of_event_are : (draft : Draft) → IsSound draft → (serial : ℕ) (event : Fired) → IsEvent draft event → All (IsBirth draft) (births_of_event draft serial event)
births_of_event_are draft sound serial event is =
    let found = reaction_at draft sound event.reaction is.reaction in
    let made = births_in_are draft found.0.placement event serial 0 (length found.0.products) found.0.products is.axis found.3.placement found.3.products in
    let P : Placement → List Product → Type 0 = λ placement products. All (IsBirth draft) (births_in placement event serial 0 products) in
    subst (λ (products : List Product). P (placement_of draft event.reaction) products) (sym found.1)
    (subst (λ (placement : Placement). P placement found.0.products) (sym found.2) made)

-- how many products an event has
pub length-births_of_event : (draft : Draft) (serial : ℕ) (event : Fired) → length (births_of_event draft serial event) ≡ length (products_of draft event.reaction)
length-births_of_event draft serial event = length-births_in (placement_of draft event.reaction) event serial 0 (products_of draft event.reaction)

pub products_few : (draft : Draft) → IsSound draft → (event : Fired) → IsEvent draft event → length (products_of draft event.reaction) ≤ most_products
products_few draft sound event is =
    let found = reaction_at draft sound event.reaction is.reaction in
    let few = found.3.product_count in
    rw found.1 few

-- what events make is of the configuration
pub births_of_are : (draft : Draft) → IsSound draft → (serial : ℕ) (events : List Fired) → All (IsEvent draft) events → All (IsBirth draft) (births_of draft serial events)
births_of_are draft sound serial [] are = All-nil (IsBirth draft)
births_of_are draft sound serial (event ∷ events) are =
    All-append (IsBirth draft) (births_of_event draft serial event) _ (births_of_event_are draft sound serial event (All-head (IsEvent draft) event events are))
    (births_of_are draft sound (serial + length (products_of draft event.reaction)) events (All-tail (IsEvent draft) event events are))

-- and there are at most 16 of each
pub births_of_few : (draft : Draft) → IsSound draft → (serial : ℕ) (events : List Fired) → All (IsEvent draft) events → length (births_of draft serial events) ≤ 16 * length events
births_of_few draft sound serial [] are = omega arith
births_of_few draft sound serial (event ∷ events) are =
    let one = length-births_of_event draft serial event in
    let few = products_few draft sound event (All-head (IsEvent draft) event events are) in
    let more = births_of_few draft sound (serial + length (products_of draft event.reaction)) events (All-tail (IsEvent draft) event events are) in
    let both = length-append (births_of_event draft serial event) (births_of draft (serial + length (products_of draft event.reaction)) events) in
    omega (arith, one, few, more, both)
