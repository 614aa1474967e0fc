-- Walls that all have the letter r build the box between them.
use Rattle.std.proofs.Common.{◌≡◌, ℕ, zero, suc, ◌+◌, ◌*◌, ◌<◌, Bool, true, false, inl, inr, List, [], ◌∷◌, length, All, refl, sym, ap, subst, ◌∙◌, arith, ℤ, pos}
use Rattle.std.specs.Prelude.{Some, slice_get}
use Rattle.std.specs.Option.{option_map_or}
use Rattle.std.proofs.lemmas.List.Elements.{All-contains, All-weaker}
use Rattle.smol_geom.specs.Axes.{on_axis}
use Rattle.smol_geom.specs.Moments.{Has}
use Rattle.smol_geom.proofs.Lists.{contains_had}
use Rattle.smol_types.specs.declared.draft.Draft.{Draft}
use Rattle.smol_types.specs.declared.wall.Letter.{Letter}
use Rattle.smol_types.specs.declared.wall.Letter.TheVariants as letter
use Rattle.smol_types.specs.declared.wall.Wall.{Wall}
use Rattle.smol_types.specs.Sound.{IsSound}
use Rattle.smol_types.specs.Walls.{AreWalls, IsAxis}
use Rattle.smol_confined.specs.Built.{IsBuilt, IsNoJumpIn, IsNoPeriodIn, IsWallAt, box_of_walls, plane_or}

-- the lower and the upper wall of an axis, at their places in the list
record AxisAt (walls : List Wall) (number j : ℕ) : Type 0 where
  lower : Wall
  upper : Wall
  low_there : slice_get walls (2 * j) ≡ Some lower
  high_there : slice_get walls (2 * j + 1) ≡ Some upper
  is : IsAxis number lower upper

axis_at : (walls : List Wall) (number count j : ℕ) → AreWalls number walls → length walls ≡ 2 * count → j < count → AxisAt walls
    (number + j) j
axis_at [] number count j are many within = absurd (omega (arith, many, within))
axis_at (l ∷ []) number count j are many within = absurd are
axis_at (l ∷ u ∷ walls) number count zero are many within =
    let same : number ≡ number + 0 = omega arith in
    record { lower = l; upper = u; low_there = refl; high_there = refl; is = subst (λ n. IsAxis n l u) same are.0 }
axis_at (l ∷ u ∷ walls) number zero (suc j) are many within = absurd (omega (arith, within))
axis_at (l ∷ u ∷ walls) number (suc count) (suc j) are many within =
    let rest = axis_at walls (number + 1) count j are.1 (omega (arith, many)) (omega (arith, within)) in
    let same : (number + 1) + j ≡ number + suc j = omega arith in
    let low : suc (suc (2 * j)) ≡ 2 * suc j = omega arith in
    let high : suc (suc (2 * j + 1)) ≡ 2 * suc j + 1 = omega arith in
    record {
      lower = rest.lower;
      upper = rest.upper;
      low_there = subst (λ i. slice_get (l ∷ u ∷ walls) i ≡ Some rest.lower) low rest.low_there;
      high_there = subst (λ i. slice_get (l ∷ u ∷ walls) i ≡ Some rest.upper) high rest.high_there;
      is = subst (λ n. IsAxis n rest.lower rest.upper) same rest.is;
    }

has_got : (walls : List Wall) (i : ℕ) (wall : Wall) → slice_get walls i ≡ Some wall → Has walls wall
has_got [] i wall is = absurd (cc)
has_got (w ∷ walls) zero wall is = inl (cc)
has_got (w ∷ walls) (suc i) wall is = inr (has_got walls i wall is)

low_plane : (walls : List Wall) (axis : ℕ) → axis < 3 → on_axis (box_of_walls walls).low axis ≡ plane_or walls (2 * axis) (pos 0)
low_plane walls zero l = refl
low_plane walls (suc zero) l = refl
low_plane walls (suc (suc zero)) l = refl
low_plane walls (suc (suc (suc axis))) l = absurd (omega arith)

high_plane : (walls : List Wall) (axis : ℕ) → axis < 3 → on_axis (box_of_walls walls).high axis ≡ plane_or walls (2 * axis + 1) (pos 2)
high_plane walls zero l = refl
high_plane walls (suc zero) l = refl
high_plane walls (suc (suc zero)) l = refl
high_plane walls (suc (suc (suc axis))) l = absurd (omega arith)

plane_there : (walls : List Wall) (i : ℕ) (other : ℤ) (wall : Wall) → slice_get walls i ≡ Some wall → plane_or walls i other ≡ wall.plane
plane_there walls i other wall is = ap (λ o. option_map_or (λ (w : Wall). w.plane) o other) is

abbrev Reflects : Wall → Type 0
Reflects wall = wall.letter ≡ letter.R

not_periodic : (l : Letter) → l ≡ letter.R → l ≡ letter.P → ⊥
not_periodic l r p = absurd (cc)

module _ (draft : Draft) (sound : IsSound draft) (all : All Reflects draft.walls) where
  here : (axis : ℕ) → axis < draft.dims → AxisAt draft.walls axis axis
  here axis used =
      let from_none : 0 + axis ≡ axis = omega arith in
      subst (λ n. AxisAt draft.walls n axis) from_none (axis_at draft.walls 0 draft.dims axis sound.walls sound.wall_count used)

  stands : (axis : ℕ) (plane : ℤ) (upper : Bool) (i : ℕ) (wall : Wall) → slice_get draft.walls i ≡ Some wall → wall.axis ≡ axis
      → wall.plane ≡ plane → wall.upper ≡ upper
      → IsWallAt draft axis plane upper wall
  stands axis plane upper i wall there across at side =
      let listed = contains_had draft.walls wall (has_got draft.walls i wall there) in
      record { listed = listed; across = across; at_plane = at; side = side; reflects = All-contains Reflects draft.walls wall all listed }

  -- so they build it
  pub walls_build : (species : ℕ) → All (IsNoJumpIn draft species (box_of_walls draft.walls)) draft.panels → IsBuilt draft species
      (box_of_walls draft.walls)
  walls_build species jumps = record {
    lower = λ axis used.
        let w = here axis used in
        inr (
          w.lower,
          stands axis _ false (2 * axis) w.lower w.low_there w.is.lower_axis
              (sym (low_plane draft.walls axis (omega (arith, used, sound.dims_below)) ∙ plane_there draft.walls (2 * axis)
              (pos 0) w.lower w.low_there)) w.is.lower_side,
        );
    upper = λ axis used.
        let w = here axis used in
        inr (
          w.upper,
          stands axis _ true (2 * axis + 1) w.upper w.high_there w.is.upper_axis
              (sym (high_plane draft.walls axis (omega (arith, used, sound.dims_below)) ∙ plane_there draft.walls (2 * axis + 1)
              (pos 2) w.upper w.high_there)) w.is.upper_side,
        );
    jumps = jumps;
    periods = All-weaker Reflects (IsNoPeriodIn (box_of_walls draft.walls))
        (λ wall r p. absurd (not_periodic wall.letter r p)) draft.walls all;
  }
