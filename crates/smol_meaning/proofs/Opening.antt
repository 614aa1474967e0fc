-- The state before the first step fits its configuration.
use Rattle.std.proofs.Common.{⊎_elim, ◌⊎◌, inl, inr, ◌≡◌, ℕ, zero, suc, ◌+◌, ◌*◌, ◌/◌, ◌%◌, ◌^◌, ◌<◌, ◌≤◌, Bool, true, false, ℤ, pos, ◌+ℤ◌, ◌-ℤ◌, ◌<ℤ◌, List, [], ◌∷◌, ◌++◌, length, All, sum_by, unsigned_abs, refl, sym, ap, subst, ◌∙◌, arith, length-append, append_assoc, append-nil, Option, Some, None, Result, Ok, Err}
use Rattle.std.specs.Prelude.{if◌then◌else◌}
use Rattle.std.proofs.lemmas.Int.{ints}
use Rattle.std.proofs.lemmas.List.Sums.{sum_by-cons}
use Rattle.std.proofs.lemmas.List.Elements.{All-nil, All-cons, All-head, All-tail, All-append, All-weaker}
use Rattle.smol_geom.specs.declared.place.Place.{Place}
use Rattle.smol_types.specs.declared.draft.Draft.{Draft}
use Rattle.smol_types.specs.declared.placing.Given.{Given}
use Rattle.smol_types.specs.declared.placing.Given.TheVariants.{Any, At}
use Rattle.smol_types.specs.declared.placing.Placing.{Placing}
use Rattle.smol_types.specs.declared.placing.Placing.TheVariants as placing
use Rattle.smol_types.specs.declared.state.Mol.{Mol}
use Rattle.smol_types.specs.declared.state.State.{State}
use Rattle.smol_types.specs.declared.wall.Wall.{Wall}
use Rattle.smol_types.specs.Coordinates.{AreCoordinates}
use Rattle.smol_types.specs.Limits.{farthest}
use Rattle.smol_types.specs.Placings.{IsPlacing, placed_by}
use Rattle.smol_types.specs.Sound.{IsSound}
use Rattle.smol_types.specs.State.{Ascend, Fits}
use Rattle.smol_types.specs.Walls.{AreGiven, AreWalls, IsAxis, IsGiven, LiesBetween}
use Rattle.std.proofs.Math.Nat.{mul-le-mul_right}
use Rattle.smol_streams.specs.Words.{key_of_seed, number_below, word_of}
use Rattle.smol_streams.proofs.Sizes.{word_small}
use Rattle.smol_meaning.specs.Sighted.{IsPlaceWithin}
use Rattle.smol_meaning.proofs.Places.{IsCoordinate, coordinates_within, place_within_more}
use Rattle.smol_streams.specs.Chance.{coordinate_drawn}
use Rattle.smol_meaning.specs.Inside.{is_inside}
use Rattle.smol_meaning.specs.Placement.{NoPlace, anywhere, coordinate_at, coordinates_at, first_inside, mol_at, most_tries, opened, opened_with, opening_state, place_at_try, placed_behind, placed_from, placed_many, placed_one, placed_together}

-- a number drawn below another is below it
scaled_below : (word n : ℕ) → word < 2 ^ 64 → 0 < n → word * n / 2 ^ 64 < n
scaled_below word n small some =
    let grown : (word + 1) * n ≤ 2 ^ 64 * n = mul-le-mul_right n (omega arith) in
    let spread : (word + 1) * n ≡ word * n + n = omega arith in
    omega arith

two_words : (low high : ℕ) → low < 2 ^ 32 → high < 2 ^ 32 → low + 2 ^ 32 * high < 2 ^ 64
two_words low high small_low small_high = omega arith

drawn_below : (seed stream place n : ℕ) → 0 < n → number_below seed stream place n < n
drawn_below seed stream place n some =
    scaled_below (word_of seed stream place + 2 ^ 32 * word_of seed stream (place + 1)) n
    (two_words (word_of seed stream place) (word_of seed stream (place + 1)) (word_small (key_of_seed seed) stream place)
    (word_small (key_of_seed seed) stream (place + 1))) some

-- an odd coordinate strictly between two even planes within the lengths there are
record IsDrawn (low high x : ℤ) : Type 0 where
  odd : unsigned_abs x % 2 ≡ 1
  above : low <ℤ x
  below : x <ℤ high

odd_between : (low high : ℤ) (n : ℕ) → unsigned_abs low % 2 ≡ 0 → unsigned_abs high % 2 ≡ 0 → low <ℤ high
    → n < unsigned_abs (high -ℤ low) / 2 → IsDrawn low high (low +ℤ pos (1 + 2 * n))
odd_between low high n low_even high_even ordered within =
    record { odd = omega (arith, ints); above = omega (arith, ints); below = omega (arith, ints) }

some_room : (low high : ℤ) → unsigned_abs low % 2 ≡ 0 → unsigned_abs high % 2 ≡ 0 → low <ℤ high → 0 < unsigned_abs (high -ℤ low) / 2
some_room low high low_even high_even ordered = omega (arith, ints)

-- what is drawn between two walls lies there
pub drawn_between : (seed serial try axis number : ℕ) (lower upper : Wall) → IsAxis number lower upper
    → LiesBetween lower upper (coordinate_drawn seed serial try axis lower.plane upper.plane)
drawn_between seed serial try axis number lower upper walls =
    let low = lower.plane in
    let high = upper.plane in
    let room = some_room low high walls.lower_even walls.upper_even walls.ordered in
    let lies = odd_between low high (number_below seed (2 ^ 62 + serial) (8 * try + 2 * axis) (unsigned_abs (high -ℤ low) / 2))
    walls.lower_even walls.upper_even walls.ordered (drawn_below seed (2 ^ 62 + serial) (8 * try + 2 * axis) (unsigned_abs (high -ℤ low) / 2) room) in
    record { odd = lies.odd; above = lies.above; below = lies.below }

between_walls : (number : ℕ) (lower upper : Wall) (x : ℤ) → IsAxis number lower upper → LiesBetween lower upper x → IsCoordinate farthest x
between_walls number lower upper x walls lies =
    let low_size = walls.lower_size in
    let high_size = walls.upper_size in
    let above = lies.above in
    let below = lies.below in
    record { odd = lies.odd; size = omega (arith, ints, low_size, high_size, above, below) }

-- coordinates that are given lie between their walls, and those to be drawn may stand anywhere
abbrev MayBeDrawn : List Wall → List Given → Type 0
MayBeDrawn [] [] = Unit {0}
MayBeDrawn [] (Any ∷ given) = MayBeDrawn [] given
MayBeDrawn [] (At x ∷ given) = (x ≡ pos 1) × MayBeDrawn [] given
MayBeDrawn (lower ∷ []) given = ⊥
MayBeDrawn (lower ∷ upper ∷ walls) [] = Unit {0}
MayBeDrawn (lower ∷ upper ∷ walls) (x ∷ given) = IsGiven lower upper x × MayBeDrawn walls given

given_may : (walls : List Wall) (given : List Given) → AreGiven walls given → MayBeDrawn walls given
given_may [] [] are = tt
given_may [] (Any ∷ given) are = absurd are
given_may [] (At x ∷ given) are = (are.0, given_may [] given are.1)
given_may (lower ∷ []) given are = absurd are
given_may (lower ∷ upper ∷ walls) [] are = absurd are
given_may (lower ∷ upper ∷ walls) (x ∷ given) are = (are.0, given_may walls given are.1)

none_may : (axis : ℕ) (walls : List Wall) → AreWalls axis walls → MayBeDrawn walls []
none_may axis [] are = tt
none_may axis (lower ∷ []) are = absurd are
none_may axis (lower ∷ upper ∷ walls) are = tt

any_may : (given : List Given) → ((axis : ℕ) (walls : List Wall) → AreWalls axis walls → MayBeDrawn walls given)
    → (axis : ℕ) (walls : List Wall) → AreWalls axis walls → MayBeDrawn walls (Any ∷ given)
any_may given rest axis [] are = rest axis [] tt
any_may given rest axis (lower ∷ []) are = absurd are
any_may given rest axis (lower ∷ upper ∷ walls) are = (tt, rest (axis + 1) walls are.1)

anywhere_may : (axis : ℕ) (walls : List Wall) → AreWalls axis walls → MayBeDrawn walls anywhere
anywhere_may = any_may (Any ∷ Any ∷ []) (any_may (Any ∷ []) (any_may [] none_may))

module _ (seed serial try : ℕ) where
  -- as many coordinates as are given
  length_coordinates : (given : List Given) (walls : List Wall) (axis : ℕ) → length (coordinates_at seed serial try axis walls given) ≡ length given
  length_coordinates [] walls axis = refl
  length_coordinates (x ∷ given) [] axis = ap (λ n. suc n) (length_coordinates given [] (axis + 1))
  length_coordinates (x ∷ given) (lower ∷ []) axis = ap (λ n. suc n) (length_coordinates given [] (axis + 1))
  length_coordinates (x ∷ given) (lower ∷ upper ∷ walls) axis = ap (λ n. suc n) (length_coordinates given walls (axis + 1))

  coordinate_is : (axis number : ℕ) (lower upper : Wall) (given : Given) → IsAxis number lower upper → IsGiven lower upper given
      → IsCoordinate farthest (coordinate_at seed serial try axis lower upper given)
  coordinate_is axis number lower upper Any walls may =
      between_walls number lower upper _ walls (drawn_between seed serial try axis number lower upper walls)
  coordinate_is axis number lower upper (At x) walls may = between_walls number lower upper x walls may

  -- they are coordinates of a place
  are_coordinates : (given : List Given) (walls : List Wall) (axis number dims : ℕ) → AreWalls number walls → length walls ≡ 2 * dims
      → MayBeDrawn walls given → AreCoordinates farthest dims (coordinates_at seed serial try axis walls given)
  are_coordinates [] walls axis number dims are count may = tt
  are_coordinates (Any ∷ given) [] axis number zero are count may = (refl, are_coordinates given [] (axis + 1) number zero are count may)
  are_coordinates (At x ∷ given) [] axis number zero are count may = (may.0, are_coordinates given [] (axis + 1) number zero are count may.1)
  are_coordinates (x ∷ given) [] axis number (suc dims) are count may = absurd (omega arith)
  are_coordinates (x ∷ given) (lower ∷ []) axis number dims are count may = absurd are
  are_coordinates (x ∷ given) (lower ∷ upper ∷ walls) axis number zero are count may = absurd (omega arith)
  are_coordinates (x ∷ given) (lower ∷ upper ∷ walls) axis number (suc dims) are count may =
      let here = coordinate_is axis number lower upper x are.0 may.0 in
      (here.odd, here.size, are_coordinates given walls (axis + 1) (number + 1) dims are.1 (omega arith) may.1)

-- where a molecule was placed
mol_at_is : (line serial species : ℕ) (found : Option Place) (mol : Mol) → mol_at line serial species found ≡ Ok mol
    → (place : Place) × (found ≡ Some place) × (mol ≡ record { serial = serial; species = species; place = place })
mol_at_is line serial species None mol e = absurd (cc)
mol_at_is line serial species (Some place) mol e = (place, refl, cc)

chosen : (here : Bool) (place other : Place) (rest : Option Place) → (if here then Some place else rest) ≡ Some other
    → (other ≡ place) ⊎ (rest ≡ Some other)
chosen true place other rest e = inl (cc)
chosen false place other rest e = inr e

-- a place inside a compartment is that of some try
found_at_try : (draft : Draft) (seed serial compartment try left : ℕ) (place : Place)
    → first_inside draft seed serial compartment try left ≡ Some place → (at : ℕ) × (place ≡ place_at_try draft seed serial at anywhere)
unfolding first_inside
found_at_try draft seed serial compartment try zero place e = absurd (cc)
found_at_try draft seed serial compartment try (suc left) place e =
    ⊎_elim
    (λ here. (try, here))
    (λ later. found_at_try draft seed serial compartment (try + 1) left place later)
    (chosen (is_inside draft compartment (place_at_try draft seed serial try anywhere)) _ place _ e)

-- what a state needs of a molecule before the first step
record IsPlaced (draft : Draft) (mol : Mol) : Type 0 where
  species : mol.species < length draft.species
  axes : length mol.place.0 ≡ 3
  coordinates : AreCoordinates farthest draft.dims mol.place.0

module _ (draft : Draft) (sound : IsSound draft) (seed : ℕ) where
  placed_at : (serial species try : ℕ) (given : List Given) → species < length draft.species → length given ≡ 3 → MayBeDrawn draft.walls given
      → IsPlaced draft (record { serial = serial; species = species; place = place_at_try draft seed serial try given })
  placed_at serial species try given there three may = record {
    species = there;
    axes = length_coordinates seed serial try given draft.walls 0 ∙ three;
    coordinates = are_coordinates seed serial try given draft.walls 0 0 draft.dims sound.walls sound.wall_count may;
  }

  -- each molecule that a statement places has its serial, and a place that a state may have
  one_is : (placing : Placing) (serial : ℕ) (mol : Mol) → IsPlacing (length draft.species) (length draft.compartments) draft.walls placing
      → placed_one draft seed placing serial ≡ Ok mol → (mol.serial ≡ serial) × IsPlaced draft mol
  one_is (placing.Mol n species at) serial mol may e =
      let is = mol_at_is 0 serial species (Some (place_at_try draft seed serial 0 at)) mol e in
      let whole : mol ≡ record { serial = serial; species = species; place = place_at_try draft seed serial 0 at } = cc in (
        ap (λ (m : Mol). m.serial) whole,
        subst (IsPlaced draft) (sym whole) (placed_at serial species 0 at may.1 may.2 (given_may draft.walls at may.3)),
      )
  one_is (placing.InCompartment line n species compartment) serial mol may e =
      let is = mol_at_is line serial species (first_inside draft seed serial compartment 0 most_tries) mol e in
      let try = found_at_try draft seed serial compartment 0 most_tries is.0 is.1 in
      let whole : mol ≡ record { serial = serial; species = species; place = place_at_try draft seed serial try.0 anywhere } =
      is.2 ∙ ap (λ (place : Place). record { serial = serial; species = species; place = place }) try.1 in (
        ap (λ (m : Mol). m.serial) whole,
        subst (IsPlaced draft) (sym whole) (placed_at serial species try.0 anywhere may.1 refl (anywhere_may 0 draft.walls sound.walls)),
      )

-- what is drawn for a molecule that is to be inside a compartment stands where lines are drawn
pub anywhere_within : (draft : Draft) (seed serial try : ℕ) → IsSound draft → IsPlaceWithin (2 ^ 57) (place_at_try draft seed serial try anywhere)
anywhere_within draft seed serial try sound =
    let place = place_at_try draft seed serial try anywhere in
    let three = length_coordinates seed serial try anywhere draft.walls 0 in
    let are = are_coordinates seed serial try anywhere draft.walls 0 0 draft.dims sound.walls sound.wall_count (anywhere_may 0 draft.walls sound.walls) in
    place_within_more farthest (2 ^ 57) place (omega arith) (coordinates_within farthest draft.dims place (omega arith) three are)

-- so many molecules with serials from one on, as a state before the first step may have them
record ArePlaced (draft : Draft) (serial n : ℕ) (mols : List Mol) : Type 0 where
  count : length mols ≡ n
  each : All (IsPlaced draft) mols
  ascend : (least next : ℕ) (rest : List Mol) → least ≤ serial → ((low : ℕ) → low ≤ serial + n → Ascend low next rest)
      → Ascend least next (mols ++ rest)

placed-nil : (draft : Draft) (serial : ℕ) → ArePlaced draft serial 0 []
placed-nil draft serial = record {
  count = refl;
  each = All-nil (IsPlaced draft);
  ascend = λ least next rest below behind. behind least (omega arith);
}

placed-cons : (draft : Draft) (serial n : ℕ) (mol : Mol) (mols : List Mol) → mol.serial ≡ serial → IsPlaced draft mol
    → ArePlaced draft (serial + 1) n mols → ArePlaced draft serial (suc n) (mol ∷ mols)
placed-cons draft serial n mol mols is here more = record {
  count = ap (λ k. suc k) more.count;
  each = All-cons (IsPlaced draft) mol mols here more.each;
  ascend = λ least next rest below behind.
      (omega (arith, is), more.ascend (mol.serial + 1) next rest (omega (arith, is)) (λ low under. behind low (omega arith)));
}

placed-append : (draft : Draft) (serial m n : ℕ) (xs ys : List Mol) → ArePlaced draft serial m xs → ArePlaced draft (serial + m) n ys
    → ArePlaced draft serial (m + n) (xs ++ ys)
placed-append draft serial m n xs ys front back = record {
  count = length-append xs ys ∙ (λ i. front.count i + back.count i);
  each = All-append (IsPlaced draft) xs ys front.each back.each;
  ascend = λ least next rest below behind.
      subst (Ascend least next) (sym (append_assoc xs ys rest))
      (front.ascend least next (ys ++ rest) below (λ low under. back.ascend low next rest under (λ bottom beneath. behind bottom (omega arith))));
}

-- the parts of what is placed without a fault
behind_parts : (here : Result Mol NoPlace) (rest : Result (List Mol) NoPlace) (mols : List Mol) → placed_behind here rest ≡ Ok mols
    → (mol : Mol) × (more : List Mol) × (here ≡ Ok mol) × (rest ≡ Ok more) × (mols ≡ mol ∷ more)
behind_parts (Err fault) rest mols e = absurd (cc)
behind_parts (Ok mol) (Err fault) mols e = absurd (cc)
behind_parts (Ok mol) (Ok more) mols e = (mol, more, refl, refl, cc)

together_parts : (here rest : Result (List Mol) NoPlace) (mols : List Mol) → placed_together here rest ≡ Ok mols
    → (front : List Mol) × (back : List Mol) × (here ≡ Ok front) × (rest ≡ Ok back) × (mols ≡ front ++ back)
together_parts (Err fault) rest mols e = absurd (cc)
together_parts (Ok front) (Err fault) mols e = absurd (cc)
together_parts (Ok front) (Ok back) mols e = (front, back, refl, refl, cc)

module _ (draft : Draft) (sound : IsSound draft) (seed : ℕ) where
  many_are : (n serial : ℕ) (placing : Placing) (mols : List Mol) → IsPlacing (length draft.species) (length draft.compartments) draft.walls placing
      → placed_many draft seed placing serial n ≡ Ok mols → ArePlaced draft serial n mols
  many_are zero serial placing mols may e =
      let none : [] ≡ mols = cc in subst (ArePlaced draft serial 0) none (placed-nil draft serial)
  many_are (suc n) serial placing mols may e =
      let parts = behind_parts (placed_one draft seed placing serial) (placed_many draft seed placing (serial + 1) n) mols e in
      let here = one_is draft sound seed placing serial parts.0 may parts.2 in
      let more = many_are n (serial + 1) placing parts.1 may parts.3 in
      subst (ArePlaced draft serial (suc n)) (sym parts.4) (placed-cons draft serial n parts.0 parts.1 here.0 here.1 more)

  from_are : (placings : List Placing) (serial : ℕ) (mols : List Mol)
      → All (IsPlacing (length draft.species) (length draft.compartments) draft.walls) placings
      → placed_from draft seed serial placings ≡ Ok mols → ArePlaced draft serial (sum_by placed_by placings) mols
  from_are [] serial mols may e =
      let none : [] ≡ mols = cc in subst (ArePlaced draft serial 0) none (placed-nil draft serial)
  from_are (placing ∷ placings) serial mols may e =
      let P = IsPlacing (length draft.species) (length draft.compartments) draft.walls in
      let n = placed_by placing in
      let parts = together_parts (placed_many draft seed placing serial n) (placed_from draft seed (serial + n) placings) mols e in
      let here = many_are n serial placing parts.0 (All-head P placing placings may) parts.2 in
      let more = from_are placings (serial + n) parts.1 (All-tail P placing placings may) parts.3 in
      let whole = placed-append draft serial n (sum_by placed_by placings) parts.0 parts.1 here more in
      subst (λ (k : ℕ). ArePlaced draft serial k mols) (sym (sum_by-cons placed_by placing placings))
      (subst (ArePlaced draft serial (n + sum_by placed_by placings)) (sym parts.4) whole)

opened_parts : (draft : Draft) (placed : Result (List Mol) NoPlace) (state : State) → opened_with draft placed ≡ Ok state
    → (mols : List Mol) × (placed ≡ Ok mols) × (state ≡ opened draft mols)
opened_parts draft (Ok mols) state e = (mols, refl, cc)
opened_parts draft (Err fault) state e = absurd (cc)

few_serials : (placed most : ℕ) → placed ≤ most → most ≤ 1000000 → 1 + placed ≤ 1125899906842624
few_serials placed most few limit = omega arith

opened_fits : (draft : Draft) → IsSound draft → (mols : List Mol) → ArePlaced draft 1 (sum_by placed_by draft.placings) mols
    → Fits draft (opened draft mols)
opened_fits draft sound mols placed = record {
  serials = rw (← append-nil mols) (placed.ascend 0 (1 + sum_by placed_by draft.placings) [] (omega arith) (λ low under. under));
  next = few_serials (sum_by placed_by draft.placings) draft.max_mol sound.placed sound.max_below;
  species = All-weaker (IsPlaced draft) (λ (mol : Mol). mol.species < length draft.species) (λ mol is. is.species) mols placed.each;
  count = omega (arith, placed.count, sound.placed);
  step = omega arith;
  axes = All-weaker (IsPlaced draft) (λ (mol : Mol). length mol.place.0 ≡ 3) (λ mol is. is.axes) mols placed.each;
  places = All-weaker (IsPlaced draft) (λ (mol : Mol). AreCoordinates farthest draft.dims mol.place.0) (λ mol is. is.coordinates) mols placed.each;
}

-- the state before the first step fits its configuration
pub opening_fits : (draft : Draft) (seed : ℕ) (state : State) → IsSound draft → opening_state draft seed ≡ Ok state → Fits draft state
unfolding opening_state
opening_fits draft seed state sound e =
    let parts = opened_parts draft (placed_from draft seed 1 draft.placings) state e in
    let P : State → Type 0 = λ state. Fits draft state in
    subst P (sym parts.2)
    (opened_fits draft sound parts.0 (from_are draft sound seed draft.placings 1 parts.0 sound.placings parts.1))

-- and leaves room for all serials of a run
pub opening_next : (draft : Draft) (seed : ℕ) (state : State) → IsSound draft → opening_state draft seed ≡ Ok state → state.next ≤ 1000001
unfolding opening_state
opening_next draft seed state sound e =
    let parts = opened_parts draft (placed_from draft seed 1 draft.placings) state e in
    let next = ap (λ (state : State). state.next) parts.2 in
    omega (arith, next, sound.placed, sound.max_below)
