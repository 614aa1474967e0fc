-- Where molecules stand after the motion of a step.
use Rattle.std.proofs.Common.{◌≡◌, ℕ, zero, suc, ◌+◌, ◌*◌, ◌^◌, ◌<◌, ◌≤◌, List, [], ◌∷◌, length, All, Option, ℤ, pos, refl, ap, arith, unsigned_abs}
use Rattle.std.specs.Prelude.{IfSome}
use Rattle.std.specs.Option.{option_map_or}
use Rattle.std.proofs.lemmas.List.Elements.{All-weaker}
use Rattle.smol_geom.specs.declared.place.Place.{Place}
use Rattle.smol_geom.specs.declared.place.Step3.{Step3}
use Rattle.smol_geom.specs.Axes.{on_axis, EachAxis, IsEven, IsOdd, IsWithin}
use Rattle.smol_streams.proofs.Sizes.{displacement_on_even, displacement_on_size, displacement_on_unused}
use Rattle.smol_types.specs.declared.draft.Draft.{Draft}
use Rattle.smol_types.specs.declared.species.Species.{Species}
use Rattle.smol_types.specs.declared.state.Mol.{Mol}
use Rattle.smol_types.specs.declared.state.State.{State}
use Rattle.smol_types.specs.Coordinates.{AreCoordinates}
use Rattle.smol_types.specs.Limits.{farthest, longest, most_steps}
use Rattle.smol_types.specs.Sound.{IsSound}
use Rattle.smol_types.specs.State.{Ascend, Fits, reach}
use Rattle.smol_meaning.specs.declared.way.Travelled.{Travelled}
use Rattle.smol_meaning.specs.declared.way.Travelled.TheVariants.{At, Absorbed}
use Rattle.smol_meaning.specs.Motion.{all_diffused, arrived, diffused, diffusion, difstep_of, end_of_move}
use Rattle.smol_meaning.specs.Moves.{EndsAmong, EndsWithin, IsMove}
use Rattle.smol_meaning.specs.Placed.{IsPlaced, StandsWithin}
use Rattle.smol_meaning.proofs.Ends.{coordinates_of_end, way_ends_within}
use Rattle.smol_meaning.proofs.Becoming.{way_ends_among}
use Rattle.smol_meaning.proofs.Kept.{All-filter_map, Ascend-filter_map, item_at}

coordinate_size : (most larger dims : ℕ) (xs : List ℤ) (axis : ℕ) → most ≤ larger → 1 ≤ larger → AreCoordinates most dims xs → unsigned_abs (on_axis xs axis) ≤ larger
coordinate_size most larger dims [] axis less some are = omega arith
coordinate_size most larger zero (x ∷ xs) zero less some are = let one : unsigned_abs x ≡ 1 = ap unsigned_abs are.0 in omega arith
coordinate_size most larger zero (x ∷ xs) (suc axis) less some are = coordinate_size most larger zero xs axis less some are.1
coordinate_size most larger (suc dims) (x ∷ xs) zero less some are = let small = are.1 in omega arith
coordinate_size most larger (suc dims) (x ∷ xs) (suc axis) less some are = coordinate_size most larger dims xs axis less some are.2

coordinate_odd : (most dims : ℕ) (xs : List ℤ) (axis : ℕ) → axis < length xs → AreCoordinates most dims xs → IsOdd (on_axis xs axis)
coordinate_odd most dims [] axis within are = absurd (omega arith)
coordinate_odd most zero (x ∷ xs) zero within are = let one : unsigned_abs x ≡ 1 = ap unsigned_abs are.0 in omega arith
coordinate_odd most zero (x ∷ xs) (suc axis) within are = coordinate_odd most zero xs axis (omega arith) are.1
coordinate_odd most (suc dims) (x ∷ xs) zero within are = are.0
coordinate_odd most (suc dims) (x ∷ xs) (suc axis) within are = coordinate_odd most dims xs axis (omega arith) are.2

-- an even displacement on the axes in use is a move from where a molecule may stand
pub is_move : (dims most longest : ℕ) (from : Place) (by : Step3) → StandsWithin dims most from → most ≤ 2 ^ 57 → longest ≤ 2 ^ 34
    → EachAxis (λ axis. IsEven (on_axis by.0 axis)) → IsWithin longest by.0 → EachAxis (λ axis. dims ≤ axis → on_axis by.0 axis ≡ pos 0)
    → IsMove dims from by
is_move dims most longest from by stands near short even size unused =
    let some : 1 ≤ 2 ^ 57 = omega arith in
    record {
      place_size = (
        coordinate_size most (2 ^ 57) dims from.0 0 near some stands.coordinates,
        coordinate_size most (2 ^ 57) dims from.0 1 near some stands.coordinates,
        coordinate_size most (2 ^ 57) dims from.0 2 near some stands.coordinates,
      );
      place_odd = (
        coordinate_odd most dims from.0 0 (omega (arith, stands.axes)) stands.coordinates,
        coordinate_odd most dims from.0 1 (omega (arith, stands.axes)) stands.coordinates,
        coordinate_odd most dims from.0 2 (omega (arith, stands.axes)) stands.coordinates,
      );
      step_size = (omega (arith, size.0), omega (arith, size.1), omega (arith, size.2));
      step_even = even;
      unused = unused;
    }

-- a molecule that isn't absorbed stands no farther out than where it was and its displacement
pub arrived_placed : (draft : Draft) (most long : ℕ) (mol : Mol) (from : Place) (by : Step3) (end : Travelled) → draft.dims ≤ 3 → EndsAmong (length draft.species) end
    → StandsWithin draft.dims most from → farthest ≤ most → IsWithin long by.0 → EndsWithin draft.dims from by end
    → IfSome (arrived mol end) (IsPlaced draft (most + long))
arrived_placed draft most long mol from by (Absorbed number) few there stands far step ends = tt
arrived_placed draft most long mol from by (At place species) few there stands far step ends =
    record {
      species = there;
      place = record {
        axes = ends.count;
        coordinates = coordinates_of_end draft.dims most long from by place few far stands.axes step ends stands.coordinates;
      };
    }

-- the difstep of a species that there is
difstep_short : (draft : Draft) → IsSound draft → (number : ℕ) → number < length draft.species → difstep_of draft number ≤ longest
difstep_short draft sound number there =
    let found = item_at (λ (species : Species). species.step ≤ longest) draft.species number there sound.difsteps in
    let is : difstep_of draft number ≡ found.0.step = ap (λ (one : Option Species). option_map_or (λ (species : Species). species.step) one 0) found.1 in
    rw is found.2

-- how far a molecule may diffuse in a step, in ticks
abbrev pub longest_diffusion : ℕ
longest_diffusion = 12000000002

drawn_short : (x s : ℕ) → x ≤ 12 * s + 2 → s ≤ longest → x ≤ longest_diffusion
drawn_short x s small short = omega arith

-- a displacement that is drawn
pub diffusion_size : (draft : Draft) → IsSound draft → (seed k : ℕ) (mol : Mol) → mol.species < length draft.species → IsWithin longest_diffusion (diffusion draft seed k mol).by.0
diffusion_size draft sound seed k mol there =
    let s = difstep_of draft mol.species in
    let short = difstep_short draft sound mol.species there in (
      drawn_short _ s (displacement_on_size seed mol.serial k s draft.dims 0) short,
      drawn_short _ s (displacement_on_size seed mol.serial k s draft.dims 1) short,
      drawn_short _ s (displacement_on_size seed mol.serial k s draft.dims 2) short,
    )

-- the motion of a molecule is a move
pub diffusion_moves : (draft : Draft) → IsSound draft → (seed k most : ℕ) (mol : Mol) → IsPlaced draft most mol → most ≤ 2 ^ 57
    → IsMove draft.dims mol.place (diffusion draft seed k mol).by
diffusion_moves draft sound seed k most mol placed near =
    let s = difstep_of draft mol.species in
    is_move draft.dims most longest_diffusion mol.place (diffusion draft seed k mol).by placed.place near (omega arith)
    (displacement_on_even seed mol.serial k s draft.dims 0, displacement_on_even seed mol.serial k s draft.dims 1, displacement_on_even seed mol.serial k s draft.dims 2)
    (diffusion_size draft sound seed k mol placed.species)
    (displacement_on_unused seed mol.serial k s draft.dims 0, displacement_on_unused seed mol.serial k s draft.dims 1, displacement_on_unused seed mol.serial k s draft.dims 2)

-- where a molecule stands after the motion of a step
pub diffused_placed : (draft : Draft) → IsSound draft → (seed k most : ℕ) (mol : Mol) → IsPlaced draft most mol → most ≤ 2 ^ 57 → farthest ≤ most
    → IfSome (diffused draft seed k mol) (IsPlaced draft (most + longest_diffusion))
diffused_placed draft sound seed k most mol placed near far =
    let move = diffusion_moves draft sound seed k most mol placed near in
    arrived_placed draft most longest_diffusion mol mol.place (diffusion draft seed k mol).by (end_of_move draft (diffusion draft seed k mol)) sound.dims_below
    (way_ends_among draft mol.species mol.place (diffusion draft seed k mol).by sound placed.species) placed.place far
    (diffusion_size draft sound seed k mol placed.species) (way_ends_within draft mol.species mol.place (diffusion draft seed k mol).by sound move)

-- where all do
pub all_diffused_placed : (draft : Draft) → IsSound draft → (seed k most : ℕ) (mols : List Mol) → All (IsPlaced draft most) mols → most ≤ 2 ^ 57 → farthest ≤ most
    → All (IsPlaced draft (most + longest_diffusion)) (all_diffused draft seed k mols)
all_diffused_placed draft sound seed k most mols placed near far =
    All-filter_map (diffused draft seed k) (IsPlaced draft (most + longest_diffusion)) mols
    (All-weaker (IsPlaced draft most) (λ (mol : Mol). IfSome (diffused draft seed k mol) (IsPlaced draft (most + longest_diffusion)))
    (λ (mol : Mol) is. diffused_placed draft sound seed k most mol is near far) mols placed)

-- a molecule keeps its serial on its way
pub arrived_keeps : (mol : Mol) (end : Travelled) → IfSome (arrived mol end) (λ (after : Mol). after.serial ≡ mol.serial)
arrived_keeps mol (At place species) = refl
arrived_keeps mol (Absorbed number) = tt

pub diffused_ascend : (draft : Draft) (seed k least next : ℕ) (mols : List Mol) → Ascend least next mols → Ascend least next (all_diffused draft seed k mols)
diffused_ascend draft seed k least next mols ascend =
    Ascend-filter_map (diffused draft seed k) (λ (mol : Mol). arrived_keeps mol (end_of_move draft (diffusion draft seed k mol))) least next mols ascend

-- the molecules of a state that fits
pub Fits-placed : (draft : Draft) (state : State) → Fits draft state → All (IsPlaced draft (reach state.step)) state.mols
Fits-placed draft state fits =
    λ i d within. record { species = fits.species i d within; place = record { axes = fits.axes i d within; coordinates = fits.places i d within } }

pub reach_near : (step : ℕ) → step ≤ most_steps → reach step ≤ 2 ^ 57
reach_near step few = omega arith
