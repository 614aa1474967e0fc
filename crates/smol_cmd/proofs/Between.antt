-- The coordinates of a place that a line gives lie between the walls.
use Rattle.std.proofs.Common.{◌≡◌, ◌+◌, ◌≤◌, true, ℕ, ℤ, pos, List, [], ◌∷◌, length, Option, None, Some, Ok, IfSome, arith, refl, sym, subst}
use Rattle.smol_geom.specs.declared.place.Place.{Place}
use Rattle.smol_text.specs.Reading.{Stated}
use Rattle.smol_types.specs.Walls.{AreBetween, LiesBetween}
use Rattle.smol_line.specs.declared.axes.Axes.{Axes}
use Rattle.smol_line.specs.declared.axes.Bounds.{Bounds}
use Rattle.smol_line.specs.Axes.{AreAxes, IsBounded, is_walled, needs_walls, read_axes, read_axis, walls_of}
use Rattle.smol_line.specs.Coordinate.{coordinate_in}
use Rattle.smol_line.specs.Words.{word_at}
use Rattle.smol_line.proofs.Between.{coordinate_lies, lower_wall, settled_by, unwalled, upper_wall}
use Rattle.smol_line.proofs.Passing.{same_value, three, valued}
use Rattle.smol_cmd.specs.Act.{place_in}

-- a coordinate on an axis with these walls
abbrev IsCoordinate : ℕ → Option Bounds → ℤ → Type 0
IsCoordinate axis None x = x ≡ pos 1
IsCoordinate axis (Some bounds) x = LiesBetween (lower_wall axis bounds) (upper_wall axis bounds) x

coordinate_is : (first axis : ℕ) (dims : Option ℕ) (bounds : Option Bounds) (line : Stated) (t : ℤ) → IfSome bounds (IsBounded dims axis) → read_axis coordinate_in (pos 1) first axis bounds line ≡ Ok t → IsCoordinate axis bounds t
coordinate_is first axis dims None line t is_bounded is = sym (same_value (pos 1) t is)
coordinate_is first axis dims (Some bounds) line t is_bounded is =
    coordinate_lies axis bounds (word_at line (first + axis)) t is_bounded.ordered is

-- three coordinates lie between the walls of the axes in use
are_between : (dims : ℕ) (axes : Axes) (x y z : Option Bounds) (u v w : ℤ) → axes.x ≡ x → axes.y ≡ y → axes.z ≡ z → 1 ≤ dims → is_walled dims 0 x ≡ true → is_walled dims 1 y ≡ true → is_walled dims 2 z ≡ true → IfSome y (IsBounded (Some dims) 1) → IfSome z (IsBounded (Some dims) 2)
    → IsCoordinate 0 x u → IsCoordinate 1 y v → IsCoordinate 2 z w → AreBetween (walls_of axes) (u ∷ v ∷ w ∷ [])
unfolding walls_of
are_between dims axes None y z u v w is_x is_y is_z some walled_x walled_y walled_z used_y used_z at_x at_y at_z = absurd (unwalled dims 0 (omega arith) walled_x)
are_between dims axes (Some x) None None u v w is_x is_y is_z some walled_x walled_y walled_z used_y used_z at_x at_y at_z = rw (is_x, is_y, is_z) (at_x, (at_y, (at_z, tt)))
are_between dims axes (Some x) None (Some z) u v w is_x is_y is_z some walled_x walled_y walled_z used_y used_z at_x at_y at_z = let used = used_z.in_use in absurd (unwalled dims 1 (omega arith) walled_y)
are_between dims axes (Some x) (Some y) None u v w is_x is_y is_z some walled_x walled_y walled_z used_y used_z at_x at_y at_z = rw (is_x, is_y, is_z) (at_x, (at_y, (at_z, tt)))
are_between dims axes (Some x) (Some y) (Some z) u v w is_x is_y is_z some walled_x walled_y walled_z used_y used_z at_x at_y at_z = rw (is_x, is_y, is_z) (at_x, (at_y, (at_z, tt)))

-- a place that a line gives has three coordinates, each between the walls of its axis
pub place_is : (axes : Axes) (dims first : ℕ) (line : Stated) (place : Place) → AreAxes axes → needs_walls axes ≡ Ok dims → place_in axes line first ≡ Ok place → (length place.0 ≡ 3) × AreBetween (walls_of axes) place.0
unfolding read_axes place_in
place_is axes dims first line place sound walled is =
    let coordinates = valued (read_axes coordinate_in (pos 1) first axes line) _ place is in
    let x = valued (read_axis coordinate_in (pos 1) first 0 axes.x line) _ coordinates.0 coordinates.1 in
    let y = valued (read_axis coordinate_in (pos 1) first 1 axes.y line) _ coordinates.0 x.2 in
    let z = valued (read_axis coordinate_in (pos 1) first 2 axes.z line) _ coordinates.0 y.2 in
    let by = settled_by axes dims walled in
    let walls = three (is_walled dims 0 axes.x) (is_walled dims 1 axes.y) (is_walled dims 2 axes.z) by.1 in
    let range = rw by.0 at sound.dims in
    let listed : x.0 ∷ y.0 ∷ z.0 ∷ [] ≡ coordinates.0 = same_value (x.0 ∷ y.0 ∷ z.0 ∷ []) coordinates.0 z.2 in
    subst (λ (place : Place). (length place.0 ≡ 3) × AreBetween (walls_of axes) place.0) (same_value (record { 0 = coordinates.0 }) place coordinates.2)
    (subst (λ (list : List ℤ). (length list ≡ 3) × AreBetween (walls_of axes) list) listed (
      refl,
      are_between dims axes axes.x axes.y axes.z x.0 y.0 z.0 refl refl refl range.0 walls.0 walls.1 walls.2
          (let Q : Option ℕ → Type 0 = λ dims. IfSome axes.y (IsBounded dims 1) in subst Q by.0 sound.y)
          (let Q : Option ℕ → Type 0 = λ dims. IfSome axes.z (IsBounded dims 2) in subst Q by.0 sound.z)
          (coordinate_is first 0 axes.dims axes.x line x.0 sound.x x.1)
          (coordinate_is first 1 axes.dims axes.y line y.0 sound.y y.1)
          (coordinate_is first 2 axes.dims axes.z line z.0 sound.z z.1),
    ))
