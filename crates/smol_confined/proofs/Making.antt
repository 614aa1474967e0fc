-- What events make inside a closed reflecting box is inside.
use Rattle.std.proofs.Common.{◌≡◌, ℕ, ◌+◌, ◌*◌, ◌^◌, ◌<◌, List, [], ◌∷◌, get_or, All, subst, refl, arith}
use Rattle.std.specs.Prelude.{IfSome}
use Rattle.std.proofs.lemmas.Grind.{common_steps}
use Rattle.std.proofs.lemmas.List.Elements.{All-cons, All-nil}
use Rattle.smol_geom.specs.declared.place.Place.{Place}
use Rattle.smol_geom.specs.declared.cuboid.Cuboid.{Cuboid}
use Rattle.smol_streams.proofs.Sizes.{word_small}
use Rattle.smol_streams.specs.Words.{key_of_seed}
use Rattle.smol_types.specs.declared.draft.Draft.{Draft}
use Rattle.smol_types.specs.declared.reaction.Placement.{Placement}
use Rattle.smol_types.specs.declared.reaction.Product.{Product}
use Rattle.smol_types.specs.declared.state.Mol.{Mol}
use Rattle.smol_types.specs.declared.state.State.{State}
use Rattle.smol_types.specs.Limits.{longest}
use Rattle.smol_types.specs.Sound.{IsSound}
use Rattle.smol_meaning.specs.declared.event.Birth.{Birth}
use Rattle.smol_meaning.specs.declared.event.Fired.{Fired}
use Rattle.smol_meaning.specs.Births.{IsBirth, IsEvent}
use Rattle.smol_meaning.specs.Box.{IsInside}
use Rattle.smol_streams.specs.Chance.{axis_drawn}
use Rattle.smol_meaning.specs.Events.{birth_move, births_in, births_of_event, born, event_of_one, lone_event, placement_of, products_of}
use Rattle.smol_meaning.specs.Placed.{StandsWithin}
use Rattle.smol_meaning.specs.Seen.{IsClosedBox}
use Rattle.smol_meaning.proofs.Births.{births_of_event_are}
use Rattle.smol_meaning.proofs.Diffusing.{is_move}
use Rattle.smol_meaning.proofs.Kept.{All-filter_map}
use Rattle.smol_meaning.proofs.Reacting.{lone_all}
use Rattle.smol_meaning.proofs.Stepping.{diffused_near}
use Rattle.smol_confined.specs.Boxes.{StandsIn}
use Rattle.smol_confined.specs.Laws.{IsBoxedStep, LoneProductsAreConfined, MakesInside, MakesInsideAlone, after_motion}
use Rattle.smol_confined.proofs.Moving.{goes_in}
use Rattle.smol_confined.proofs.Parts.{only}

-- the axis that a word draws is in use
pub drawn_below : (dims word : ℕ) → 0 < dims → word < 2 ^ 32 → axis_drawn dims word < dims
drawn_below dims word some small = grind (arith, common_steps)

-- where molecules stand from which a way of a product is defined
abbrev pub StandsNear : Draft → Place → Type 0
StandsNear draft place = StandsWithin draft.dims (2 ^ 57) place

-- all products of an event start where it is
starts_there : (placement : Placement) (event : Fired) (serial index : ℕ) (products : List Product)
    → All (λ (birth : Birth). event.start ≡ birth.start) (births_in placement event serial index products)
starts_there placement event serial index [] = All-nil (λ (birth : Birth). event.start ≡ birth.start)
starts_there placement event serial index (product ∷ products) =
    All-cons (λ (birth : Birth). event.start ≡ birth.start) _ _ refl (starts_there placement event (serial + 1) (index + 1) products)

module _ (draft : Draft) (sound : IsSound draft) (box : Cuboid) (closed : IsClosedBox draft box) where
  born_in : (birth : Birth) → IsBirth draft birth → StandsNear draft birth.start → IsInside box birth.start → IfSome (born draft birth) (StandsIn box)
  born_in birth is stands inside =
      goes_in draft sound box closed (record { serial = birth.serial; species = birth.species; place = birth.start }) (birth_move birth)
      (record {
        species = is.species;
        goes = is_move draft.dims (2 ^ 57) (2 * longest) birth.start birth.by stands (omega arith) (omega arith) is.even is.size is.unused;
      })
      inside

  -- each product of an event inside is inside where it lives
  pub born_inside : (serial : ℕ) (event : Fired) → IsEvent draft event → StandsNear draft event.start → IsInside box event.start
      → All (λ (birth : Birth). IfSome (born draft birth) (StandsIn box)) (births_of_event draft serial event)
  born_inside serial event is stands inside =
      let births = births_of_event draft serial event in
      let are = births_of_event_are draft sound serial event is in
      let there = starts_there (placement_of draft event.reaction) event serial 0 (products_of draft event.reaction) in
      λ i d within. born_in (get_or births i d) (are i d within)
      (subst (StandsNear draft) (there i d within) stands) (subst (IsInside box) (there i d within) inside)

  -- what an event makes inside is inside
  pub makes_inside : (event : Fired) → IsEvent draft event → StandsNear draft event.start → IsInside box event.start → MakesInside draft box event
  makes_inside event is stands inside = λ serial.
      All-filter_map (born draft) (StandsIn box) (births_of_event draft serial event) (born_inside serial event is stands inside)

  -- what a molecule makes alone that is inside is inside
  pub makes_inside_alone : (seed k : ℕ) (mol : Mol) → StandsNear draft mol.place → MakesInsideAlone draft seed k box mol
  makes_inside_alone seed k mol stands inside =
      let Q : Mol → Type 0 = λ (one : Mol). StandsNear draft one.place × StandsIn box one in
      only (MakesInside draft box) (event_of_one draft seed k mol)
      (lone_all draft seed k (MakesInside draft box) Q (mol ∷ []) (All-cons Q mol [] (stands, inside) (All-nil Q))
      (λ one r is within.
      makes_inside (lone_event draft seed k one r)
      (record { reaction = within; axis = drawn_below draft.dims _ sound.dims_above (word_small (key_of_seed seed) one.serial (32 * k + 19)) })
      is.0 is.1))

-- no product of one molecule leaves the box
pub lone_products_are_confined : (draft : Draft) (seed : ℕ) (state : State) (box : Cuboid) → IsBoxedStep draft state box → LoneProductsAreConfined draft seed state box
lone_products_are_confined draft seed state box step = λ i d within.
    makes_inside_alone draft step.sound box step.closed seed (state.step + 1) (get_or (after_motion draft seed state) i d)
    (diffused_near draft step.sound seed state step.fits step.left i d within).place
