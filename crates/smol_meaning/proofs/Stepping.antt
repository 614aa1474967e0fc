-- A step leads from a state that fits its configuration to one that does.
use Rattle.std.proofs.Common.{◌≡◌, ℕ, zero, suc, ◌+◌, ◌*◌, ◌-◌, ◌^◌, ◌≤◌, Bool, true, false, nat_lt, List, [], ◌∷◌, ◌++◌, length, All, Ok, Err, filter, map, cond, get_or, ℤ, refl, ap, sym, subst, arith}
use Rattle.std.specs.Prelude.{IfSome}
use Rattle.std.specs.List.{cons_option, filter_map}
use Rattle.std.proofs.lemmas.Bool.Decides.{nat_tests}
use Rattle.std.proofs.lemmas.List.Elements.{All-append, All-cons, All-filter, All-head, All-map, All-nil, All-tail, All-weaker}
use Rattle.std.proofs.lemmas.Option.{IfSome_then}
use Rattle.smol_types.specs.declared.draft.Draft.{Draft}
use Rattle.smol_types.specs.declared.reaction.Placement.{Placement}
use Rattle.smol_types.specs.declared.reaction.Product.{Product}
use Rattle.smol_types.specs.declared.state.Mol.{Mol}
use Rattle.smol_types.specs.declared.state.State.{State}
use Rattle.smol_types.specs.Coordinates.{AreCoordinates}
use Rattle.smol_types.specs.Limits.{farthest, last_serial, longest, most_molecules, most_steps}
use Rattle.smol_types.specs.Sound.{IsSound}
use Rattle.smol_types.specs.State.{Ascend, Fits, reach}
use Rattle.smol_types.specs.Steps.{last_step}
use Rattle.smol_meaning.specs.declared.event.Birth.{Birth}
use Rattle.smol_meaning.specs.declared.event.Fired.{Fired}
use Rattle.smol_meaning.specs.declared.way.Travelled.{Travelled}
use Rattle.smol_meaning.specs.declared.way.Travelled.TheVariants.{At, Absorbed}
use Rattle.smol_meaning.specs.Births.{IsBirth, IsEvent}
use Rattle.smol_meaning.specs.Events.{birth_move, births_in, births_of, births_of_event, born, placement_of, products_of}
use Rattle.smol_meaning.specs.Motion.{all_diffused, arrived, diffused, diffusion, end_of_move}
use Rattle.smol_meaning.specs.Moves.{IsMove}
use Rattle.smol_meaning.specs.Placed.{IsMoveOf, IsPlaced, StandsWithin}
use Rattle.smol_meaning.specs.Step.{births_in_step, events_of, mols_after, moves_of, next_state, reacted, reactions_of_two, remains, within_limit}
use Rattle.smol_meaning.proofs.Births.{births_of_are, births_of_few, length-births_of_event}
use Rattle.smol_meaning.proofs.Diffusing.{Fits-placed, all_diffused_placed, arrived_placed, diffused_ascend, diffusion_moves, is_move, longest_diffusion, reach_near}
use Rattle.smol_meaning.proofs.Ends.{way_ends_within}
use Rattle.smol_meaning.proofs.Becoming.{way_ends_among}
use Rattle.smol_meaning.proofs.Kept.{All-filter_map, Ascend-append, Ascend-filter, Ascend-from, length-filter_map}
use Rattle.smol_meaning.proofs.Reacting.{events_are, events_few, events_stand}

-- serials that follow one another from this one on
abbrev AreNumbered : ℕ → List Birth → Type 0
AreNumbered serial [] = Unit {0}
AreNumbered serial (birth ∷ births) = (birth.serial ≡ serial) × AreNumbered (serial + 1) births

AreNumbered-append : (serial : ℕ) (xs ys : List Birth) → AreNumbered serial xs → AreNumbered (serial + length xs) ys → AreNumbered serial (xs ++ ys)
AreNumbered-append serial [] ys first second = subst (λ n. AreNumbered n ys) (omega arith) second
AreNumbered-append serial (birth ∷ xs) ys first second =
    (first.0, AreNumbered-append (serial + 1) xs ys first.1 (subst (λ n. AreNumbered n ys) (omega arith) second))

births_in_numbered : (placement : Placement) (event : Fired) (serial index : ℕ) (products : List Product) → AreNumbered serial (births_in placement event serial index products)
births_in_numbered placement event serial index [] = tt
births_in_numbered placement event serial index (product ∷ products) = (refl, births_in_numbered placement event (serial + 1) (index + 1) products)

births_of_numbered : (draft : Draft) (serial : ℕ) (events : List Fired) → AreNumbered serial (births_of draft serial events)
births_of_numbered draft serial [] = tt
births_of_numbered draft serial (event ∷ events) =
    AreNumbered-append serial (births_of_event draft serial event) _ (births_in_numbered (placement_of draft event.reaction) event serial 0 (products_of draft event.reaction))
    (subst (λ n. AreNumbered (serial + n) (births_of draft (serial + length (products_of draft event.reaction)) events)) (sym (length-births_of_event draft serial event))
    (births_of_numbered draft (serial + length (products_of draft event.reaction)) events))

-- the products that live ascend
born_ascend : (draft : Draft) (serial : ℕ) (births : List Birth) → AreNumbered serial births → Ascend serial (serial + length births) (filter_map (born draft) births)
born_ascend draft serial [] numbered = omega arith
born_ascend draft serial (birth ∷ births) numbered =
    first (end_of_move draft (birth_move birth)) (born_ascend draft (serial + 1) births numbered.1)
  where
    first : (end : Travelled) → Ascend (serial + 1) ((serial + 1) + length births) (filter_map (born draft) births)
        → Ascend serial (serial + suc (length births))
        (cons_option (arrived (record { serial = birth.serial; species = birth.species; place = birth.start }) end) (filter_map (born draft) births))
    first (Absorbed number) more =
        Ascend-from serial (serial + 1) (serial + suc (length births)) (filter_map (born draft) births) (omega arith)
        (subst (λ n. Ascend (serial + 1) n (filter_map (born draft) births)) (omega arith) more)
    first (At place species) more =
        let is = numbered.0 in
        let next : (serial + 1) + length births ≡ serial + suc (length births) = omega arith in
        let behind : serial + 1 ≡ birth.serial + 1 = omega (arith, is) in (
          omega (arith, is),
          subst (λ n. Ascend n (serial + suc (length births)) (filter_map (born draft) births)) behind
              (subst (λ n. Ascend (serial + 1) n (filter_map (born draft) births)) next more),
        )

-- a product starts where a molecule may stand
abbrev StartsWithin : Draft → ℕ → Birth → Type 0
StartsWithin draft most birth = StandsWithin draft.dims most birth.start

births_in_start : (draft : Draft) (most : ℕ) (placement : Placement) (event : Fired) (serial index : ℕ) (products : List Product)
    → StandsWithin draft.dims most event.start → All (StartsWithin draft most) (births_in placement event serial index products)
births_in_start draft most placement event serial index [] stands = All-nil (StartsWithin draft most)
births_in_start draft most placement event serial index (product ∷ products) stands =
    All-cons (StartsWithin draft most) _ _ stands (births_in_start draft most placement event (serial + 1) (index + 1) products stands)

births_of_start : (draft : Draft) (most serial : ℕ) (events : List Fired) → All (λ (event : Fired). StandsWithin draft.dims most event.start) events
    → All (StartsWithin draft most) (births_of draft serial events)
births_of_start draft most serial [] stand = All-nil (StartsWithin draft most)
births_of_start draft most serial (event ∷ events) stand =
    let P : Fired → Type 0 = λ (event : Fired). StandsWithin draft.dims most event.start in
    All-append (StartsWithin draft most) (births_of_event draft serial event) _
    (births_in_start draft most (placement_of draft event.reaction) event serial 0 (products_of draft event.reaction) (All-head P event events stand))
    (births_of_start draft most (serial + length (products_of draft event.reaction)) events (All-tail P event events stand))

-- the way of a product is a move
birth_moves : (draft : Draft) (most : ℕ) (birth : Birth) → IsBirth draft birth → StartsWithin draft most birth → most ≤ 2 ^ 57 → IsMove draft.dims birth.start birth.by
birth_moves draft most birth is starts near =
    is_move draft.dims most (2 * longest) birth.start birth.by starts near (omega arith) is.even is.size is.unused

born_placed : (draft : Draft) → IsSound draft → (most : ℕ) (birth : Birth) → IsBirth draft birth → StartsWithin draft most birth → most ≤ 2 ^ 57 → farthest ≤ most
    → IfSome (born draft birth) (IsPlaced draft (most + 2 * longest))
born_placed draft sound most birth is starts near far =
    arrived_placed draft most (2 * longest) (record { serial = birth.serial; species = birth.species; place = birth.start }) birth.start birth.by
    (end_of_move draft (birth_move birth)) sound.dims_below
    (way_ends_among draft birth.species birth.start birth.by sound is.species) starts far is.size
    (way_ends_within draft birth.species birth.start birth.by sound (birth_moves draft most birth is starts near))

both : {X : Type 0} (P Q : X → Type 0) (xs : List X) → All P xs → All Q xs → All (λ x. P x × Q x) xs
both P Q xs first second = λ i d within. (first i d within, second i d within)

coordinates_farther : (most more dims : ℕ) (place : List ℤ) → most ≤ more → AreCoordinates most dims place → AreCoordinates more dims place
coordinates_farther most more dims [] less at = tt
coordinates_farther most more zero (x ∷ place) less at = (at.0, coordinates_farther most more zero place less at.1)
coordinates_farther most more (suc dims) (x ∷ place) less at = (at.0, omega (arith, at.1), coordinates_farther most more dims place less at.2)

placed_farther : (draft : Draft) (most more : ℕ) → most ≤ more → (mol : Mol) → IsPlaced draft most mol → IsPlaced draft more mol
placed_farther draft most more less mol is = record {
  species = is.species;
  place = record { axes = is.place.axes; coordinates = coordinates_farther most more draft.dims mol.place.0 less is.place.coordinates };
}

-- how far from the origin a molecule may have come by the motion after these steps
abbrev pub reach_of_motion : ℕ → ℕ
reach_of_motion step = reach step + longest_diffusion

module _ (draft : Draft) (sound : IsSound draft) (seed : ℕ) (state : State) (fits : Fits draft state) (more : state.step + 1 ≤ last_step draft.start draft.stop draft.step) where
  few_steps : state.step ≤ most_steps
  few_steps = omega (arith, more, sound.steps)

  pub motion_near : reach_of_motion state.step ≤ 2 ^ 57
  motion_near = let few = few_steps in omega arith

  -- the molecules after motion
  pub after_motion : All (IsPlaced draft (reach_of_motion state.step)) (all_diffused draft seed (state.step + 1) state.mols)
  after_motion =
      all_diffused_placed draft sound seed (state.step + 1) (reach state.step) state.mols (Fits-placed draft state fits) (reach_near state.step few_steps) (omega arith)

  pub motion_count : length (all_diffused draft seed (state.step + 1) state.mols) ≤ length state.mols
  motion_count = length-filter_map _ state.mols

  -- what is born in the step
  abbrev pub born_here : List Birth
  born_here = births_in_step draft seed (state.step + 1) (all_diffused draft seed (state.step + 1) state.mols) state.next

  events_here : All (IsEvent draft) (events_of draft seed (state.step + 1) (all_diffused draft seed (state.step + 1) state.mols))
  events_here = events_are draft seed (state.step + 1) sound (all_diffused draft seed (state.step + 1) state.mols)

  births_are : All (IsBirth draft) born_here
  births_are = births_of_are draft sound state.next _ events_here

  births_start : All (StartsWithin draft (reach_of_motion state.step)) born_here
  births_start =
      births_of_start draft (reach_of_motion state.step) state.next _
      (events_stand draft seed (state.step + 1) (reach_of_motion state.step) (all_diffused draft seed (state.step + 1) state.mols) after_motion)

  -- there are 16 products a molecule at most
  pub births_few : length born_here ≤ 16000000
  births_few =
      let each = births_of_few draft sound state.next _ events_here in
      let events = events_few draft seed (state.step + 1) (all_diffused draft seed (state.step + 1) state.mols) in
      omega (arith, each, events, motion_count, fits.count, sound.max_below)

  -- the molecules after the step
  placed_after : All (IsPlaced draft (reach (state.step + 1))) (mols_after draft seed (state.step + 1) (all_diffused draft seed (state.step + 1) state.mols) state.next)
  placed_after =
      let mols = all_diffused draft seed (state.step + 1) state.mols in
      let there = reach_of_motion state.step in
      let next = reach (state.step + 1) in
      let near = motion_near in
      All-append (IsPlaced draft next) (filter (remains draft seed (state.step + 1) (reactions_of_two draft seed (state.step + 1) mols)) mols) (filter_map (born draft) born_here)
      (All-filter (remains draft seed (state.step + 1) (reactions_of_two draft seed (state.step + 1) mols)) (IsPlaced draft next) mols
      (All-weaker (IsPlaced draft there) (IsPlaced draft next) (placed_farther draft there next (omega arith)) mols after_motion))
      (All-filter_map (born draft) (IsPlaced draft next) born_here
      (λ i d within. IfSome_then (born draft (get_or born_here i d))
      (born_placed draft sound there (get_or born_here i d) (births_are i d within) (births_start i d within) near (omega arith))
      (placed_farther draft (there + 2 * longest) next (omega arith))))

  serials_after : Ascend 0 (state.next + length born_here) (mols_after draft seed (state.step + 1) (all_diffused draft seed (state.step + 1) state.mols) state.next)
  serials_after =
      let mols = all_diffused draft seed (state.step + 1) state.mols in
      Ascend-append 0 state.next (state.next + length born_here) (filter (remains draft seed (state.step + 1) (reactions_of_two draft seed (state.step + 1) mols)) mols)
      (filter_map (born draft) born_here)
      (Ascend-filter (remains draft seed (state.step + 1) (reactions_of_two draft seed (state.step + 1) mols)) 0 state.next mols
      (diffused_ascend draft seed (state.step + 1) 0 state.next state.mols fits.serials))
      (born_ascend draft state.next born_here (births_of_numbered draft state.next (events_of draft seed (state.step + 1) mols)))

  -- the state that the step makes fits where it is within the limit
  reacted_fits : state.next ≤ last_serial - 16000000 → length (mols_after draft seed (state.step + 1) (all_diffused draft seed (state.step + 1) state.mols) state.next) ≤ draft.max_mol
      → Fits draft (reacted draft seed (state.step + 1) (all_diffused draft seed (state.step + 1) state.mols) state.next)
  reacted_fits room within = record {
    serials = serials_after;
    next = omega (arith, births_few, room);
    species = λ i d below. (placed_after i d below).species;
    count = within;
    step = more;
    axes = λ i d below. (placed_after i d below).place.axes;
    places = λ i d below. (placed_after i d below).place.coordinates;
  }

-- a state that passes the limit
limit_passed : (most : ℕ) (state next : State) → within_limit most state ≡ Ok next → (state ≡ next) × (length state.mols ≤ most)
limit_passed most state next is = go (nat_lt most (length state.mols)) refl is
  where
    go : (over : Bool) → nat_lt most (length state.mols) ≡ over → cond over (Err (length state.mols)) (Ok state) ≡ Ok next → (state ≡ next) × (length state.mols ≤ most)
    go true test is = absurd (cc is)
    go false test is = (cc is, grind (arith, nat_tests))

pub next_fits : (draft : Draft) (seed : ℕ) (state next : State) → IsSound draft → Fits draft state → state.step + 1 ≤ last_step draft.start draft.stop draft.step
    → state.next ≤ last_serial - 16000000 → next_state draft seed state ≡ Ok next → Fits draft next
unfolding next_state
next_fits draft seed state next sound fits more room is =
    let passed = limit_passed draft.max_mol (reacted draft seed (state.step + 1) (all_diffused draft seed (state.step + 1) state.mols) state.next) next is in
    subst (λ (state : State). Fits draft state) passed.0 (reacted_fits draft sound seed state fits more room passed.1)

-- the next serial rises by 16,000,000 at most
pub next_rises : (draft : Draft) (seed : ℕ) (state next : State) → IsSound draft → Fits draft state → state.step + 1 ≤ last_step draft.start draft.stop draft.step
    → next_state draft seed state ≡ Ok next → next.next ≤ state.next + 16000000
unfolding next_state
next_rises draft seed state next sound fits more is =
    let passed = limit_passed draft.max_mol (reacted draft seed (state.step + 1) (all_diffused draft seed (state.step + 1) state.mols) state.next) next is in
    let same = ap (λ (state : State). state.next) passed.0 in
    omega (arith, same, births_few draft sound seed state fits more)

-- and the step's number by one
pub next_step : (draft : Draft) (seed : ℕ) (state next : State) → next_state draft seed state ≡ Ok next → next.step ≡ state.step + 1
unfolding next_state
next_step draft seed state next is =
    let passed = limit_passed draft.max_mol (reacted draft seed (state.step + 1) (all_diffused draft seed (state.step + 1) state.mols) state.next) next is in
    sym (ap (λ (state : State). state.step) passed.0)

-- each way of a step is defined
pub moves_are : (draft : Draft) (seed : ℕ) (state : State) → IsSound draft → Fits draft state → state.step + 1 ≤ last_step draft.start draft.stop draft.step
    → All (IsMoveOf draft) (moves_of draft seed state)
unfolding moves_of
moves_are draft seed state sound fits more =
    let k = state.step + 1 in
    let births = born_here draft sound seed state fits more in
    All-append (IsMoveOf draft) (map (diffusion draft seed k) state.mols) (map birth_move births)
    (All-map (IsMoveOf draft) (diffusion draft seed k) state.mols
    (All-weaker (IsPlaced draft (reach state.step)) (λ (mol : Mol). IsMoveOf draft (diffusion draft seed k mol))
    (λ mol is. record { species = is.species; goes = diffusion_moves draft sound seed k (reach state.step) mol is (reach_near state.step (few_steps draft sound seed state fits more)) })
    state.mols (Fits-placed draft state fits)))
    (All-map (IsMoveOf draft) birth_move births
    (λ i d within. record {
      species = (births_are draft sound seed state fits more i d within).species;
      goes = birth_moves draft (reach_of_motion state.step) (get_or births i d) (births_are draft sound seed state fits more i d within)
          (births_start draft sound seed state fits more i d within) (motion_near draft sound seed state fits more);
    }))

-- each product of molecules that stand where they may goes a way that is defined
pub births_move : (draft : Draft) → IsSound draft → (seed k most next : ℕ) (mols : List Mol) → All (IsPlaced draft most) mols → most ≤ 2 ^ 57
    → All (λ (birth : Birth). IsMoveOf draft (birth_move birth)) (births_in_step draft seed k mols next)
births_move draft sound seed k most next mols placed near =
    let births = births_in_step draft seed k mols next in
    let are = births_of_are draft sound next (events_of draft seed k mols) (events_are draft seed k sound mols) in
    let start = births_of_start draft most next (events_of draft seed k mols) (events_stand draft seed k most mols placed) in
    λ i d within. record {
      species = (are i d within).species;
      goes = birth_moves draft most (get_or births i d) (are i d within) (start i d within) near;
    }

-- the molecules of a state that fits are near enough for a way to be defined
pub mols_near : (draft : Draft) (state : State) → Fits draft state → state.step ≤ most_steps → All (IsPlaced draft (2 ^ 57)) state.mols
mols_near draft state fits few =
    All-weaker (IsPlaced draft (reach state.step)) (IsPlaced draft (2 ^ 57)) (placed_farther draft (reach state.step) (2 ^ 57) (reach_near state.step few)) state.mols (Fits-placed draft state fits)

-- and so are they after motion
pub diffused_near : (draft : Draft) → IsSound draft → (seed : ℕ) (state : State) → Fits draft state → state.step + 1 ≤ last_step draft.start draft.stop draft.step
    → All (IsPlaced draft (2 ^ 57)) (all_diffused draft seed (state.step + 1) state.mols)
diffused_near draft sound seed state fits more =
    All-weaker (IsPlaced draft (reach_of_motion state.step)) (IsPlaced draft (2 ^ 57))
    (placed_farther draft (reach_of_motion state.step) (2 ^ 57) (motion_near draft sound seed state fits more)) _ (after_motion draft sound seed state fits more)

pub diffused_few : (draft : Draft) → IsSound draft → (seed : ℕ) (state : State) → Fits draft state → length (all_diffused draft seed (state.step + 1) state.mols) ≤ most_molecules
diffused_few draft sound seed state fits = omega (arith, length-filter_map (diffused draft seed (state.step + 1)) state.mols, fits.count, sound.max_below)
