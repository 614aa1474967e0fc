-- Rows of boxes.
use Rattle.std.proofs.Common.{◌≡◌, ℕ, ◌≤◌, ◌<◌, List, length, map, sym, subst, arith}
use Rattle.std.specs.Prelude.{◌↔◌, ◌≤ℤ◌, unsigned_abs, ◌-ℤ◌}
use Rattle.std.proofs.lemmas.Int.{ints}
use Rattle.std.proofs.lemmas.List.{get_or-map, length-map}
use Rattle.std.specs.declared.ops.Range.{Range}
use Rattle.smol_geom.specs.declared.cuboid.Cuboid.{Cuboid}
use Rattle.smol_geom.specs.declared.place.Place.{Place}
use Rattle.smol_geom.specs.Axes.{EachAxis, on_axis}
use Rattle.smol_cells.specs.declared.boxes.Boxes.{Boxes}
use Rattle.smol_cells.specs.declared.grid.Grid.{Grid}
use Rattle.smol_cells.specs.Numbered.{IsFilled, boxes_between, number_on}
use Rattle.smol_cells.specs.Placed.{AreInOrder, IsInRow, nowhere, place_at}
use Rattle.smol_cells.proofs.NumberLemmas.{number_below, number_up}
use Rattle.smol_pairs.specs.declared.search.Search.{Search}
use Rattle.smol_pairs.specs.Searching.{AreBoxesIn, IsIn, IsInLayer, first_on, last_on, number_in, place_in}
use Rattle.smol_pairs.specs.Seekers.{no_seeker, place_of}

module _ (grid : Grid) (c : Cuboid) where
  -- the boxes of a cuboid that isn't empty
  pub are_boxes : (place : Place) → IsIn c place → AreBoxesIn grid (boxes_between grid c.low c.high)
  are_boxes place is = record {
    ordered = (up 0 is.0, up 1 is.1, up 2 is.2);
    inside = (number_below grid c.high 0 grid.some.0, number_below grid c.high 1 grid.some.1, number_below grid c.high 2 grid.some.2);
  }
    where
      up : (axis : ℕ) → (on_axis c.low axis ≤ℤ on_axis place.0 axis) × (on_axis place.0 axis ≤ℤ on_axis c.high axis)
          → number_on grid c.low axis ≤ number_on grid c.high axis
      up axis is = omega (arith, number_up grid axis (on_axis c.low axis) (on_axis place.0 axis) is.0, number_up grid axis (on_axis place.0 axis) (on_axis c.high axis) is.1)

  -- a place in the cuboid has its box among them
  pub in_boxes : (place : Place) → IsIn c place
      → EachAxis (λ axis. (number_on grid c.low axis ≤ number_on grid place.0 axis) × (number_on grid place.0 axis ≤ number_on grid c.high axis))
  in_boxes place is = (on 0 is.0, on 1 is.1, on 2 is.2)
    where
      on : (axis : ℕ) → (on_axis c.low axis ≤ℤ on_axis place.0 axis) × (on_axis place.0 axis ≤ℤ on_axis c.high axis)
          → (number_on grid c.low axis ≤ number_on grid place.0 axis) × (number_on grid place.0 axis ≤ number_on grid c.high axis)
      on axis is = (number_up grid axis (on_axis c.low axis) (on_axis place.0 axis) is.0, number_up grid axis (on_axis place.0 axis) (on_axis c.high axis) is.1)

-- a cuboid that has a place isn't empty
pub filled_by : (c : Cuboid) (place : Place) → IsIn c place → IsFilled c
filled_by c place is = (on 0 is.0, on 1 is.1, on 2 is.2)
  where
    on : (axis : ℕ) → (on_axis c.low axis ≤ℤ on_axis place.0 axis) × (on_axis place.0 axis ≤ℤ on_axis c.high axis)
        → on_axis c.low axis ≤ℤ on_axis c.high axis
    on axis is = omega (arith, ints, is.0, is.1)

module _ (search : Search) where
  abbrev places : List Place
  places = map place_of search.seekers.now

  -- a seeker in a row of boxes is in the run of the row
  pub in_run : (boxes : Boxes) (row layer q : ℕ) → q < length search.seekers.now → IsInLayer search boxes layer q → number_in search q 1 ≡ row
      → (run : Range ℕ) → ((places : List Place) → AreInOrder places search.cells.now → (q : ℕ)
      → ((run.start ≤ q) × (q < run.end)) ↔ ((q < length places) × IsInRow search.cells.now.grid (first_on boxes 0) (last_on boxes 0) row layer (place_at places q)))
      → (run.start ≤ q) × (q < run.end)
  in_run boxes row layer q inside is here run holds =
      let same : place_at places q ≡ place_in search q = get_or-map place_of search.seekers.now q no_seeker nowhere inside in
      let within : q < length places = omega (arith, inside, length-map search.seekers.now place_of) in
      let there : IsInRow search.cells.now.grid (first_on boxes 0) (last_on boxes 0) row layer (place_in search q) =
      record { on_z = is.z; on_y = here; from = is.x.0; to = is.x.1 } in
      (holds places search.order q).1 (within, subst (λ (place : Place). IsInRow search.cells.now.grid (first_on boxes 0) (last_on boxes 0) row layer place) (sym same) there)

-- a place is within any reach of itself
pub near_itself : (place : Place) (reach : ℕ) → EachAxis (λ axis. unsigned_abs (on_axis place.0 axis -ℤ on_axis place.0 axis) ≤ reach)
near_itself place reach = (none (on_axis place.0 0), none (on_axis place.0 1), none (on_axis place.0 2))
  where
    none : (x : _) → unsigned_abs (x -ℤ x) ≤ reach
    none x = omega (arith, ints)
