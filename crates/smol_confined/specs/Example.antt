-- A box of six panels within periodic walls, with a jump between two panels elsewhere.
use Rattle.std.specs.Prelude.{◌≡◌, ℕ, Bool, true, false, List, [], ◌∷◌, length, ℤ, pos, None, Some}
use Rattle.smol_geom.specs.declared.cuboid.Cuboid.{Cuboid}
use Rattle.smol_types.specs.declared.draft.Draft.{Draft}
use Rattle.smol_types.specs.declared.surface.Action.TheVariants.{Reflect, Jump, Transmit}
use Rattle.smol_types.specs.declared.surface.Face.TheVariants.{Front, Back}
use Rattle.smol_types.specs.declared.surface.Panel.{Panel}
use Rattle.smol_types.specs.declared.surface.Surface.{Surface}
use Rattle.smol_types.specs.declared.wall.Letter.TheVariants.{P}
use Rattle.smol_types.specs.declared.wall.Wall.{Wall}

-- 10, 20, 30, 50 and 60 length units, in ticks
abbrev pub ten : ℤ
ten = pos 20000000

abbrev pub twenty : ℤ
twenty = pos 40000000

abbrev pub thirty : ℤ
thirty = pos 60000000

abbrev pub fifty : ℤ
fifty = pos 100000000

abbrev pub sixty : ℤ
sixty = pos 120000000

-- a panel that leads nowhere, across an axis between two corners. Its front is the side of greater coordinates, or not
abbrev pub side : ℕ → List ℤ → List ℤ → Bool → Panel
side axis low high greater = record {
  rect = record { axis = axis; low = low; high = high };
  greater = greater;
  surface = 0;
  front_to = None;
  back_to = None;
}

-- six panels around the cuboid from 10 to 20 on each axis, with their fronts turned inwards
abbrev pub low_x : Panel
low_x = side 0 (ten ∷ ten ∷ ten ∷ []) (ten ∷ twenty ∷ twenty ∷ []) true

abbrev pub high_x : Panel
high_x = side 0 (twenty ∷ ten ∷ ten ∷ []) (twenty ∷ twenty ∷ twenty ∷ []) false

abbrev pub low_y : Panel
low_y = side 1 (ten ∷ ten ∷ ten ∷ []) (twenty ∷ ten ∷ twenty ∷ []) true

abbrev pub high_y : Panel
high_y = side 1 (ten ∷ twenty ∷ ten ∷ []) (twenty ∷ twenty ∷ twenty ∷ []) false

abbrev pub low_z : Panel
low_z = side 2 (ten ∷ ten ∷ ten ∷ []) (twenty ∷ twenty ∷ ten ∷ []) true

abbrev pub high_z : Panel
high_z = side 2 (ten ∷ ten ∷ twenty ∷ []) (twenty ∷ twenty ∷ twenty ∷ []) false

-- two panels across the whole space, at 30 and at 50 of the axis x: the back of the first leads to the front of the second, and back
abbrev pub near_door : Panel
near_door = record (side 0 (thirty ∷ pos 0 ∷ pos 0 ∷ []) (thirty ∷ sixty ∷ sixty ∷ []) true) { surface = 1; back_to = Some (7, Front) }

abbrev pub far_door : Panel
far_door = record (side 0 (fifty ∷ pos 0 ∷ pos 0 ∷ []) (fifty ∷ sixty ∷ sixty ∷ []) true) { surface = 1; front_to = Some (6, Back) }

abbrev pub box_and_doors : List Panel
box_and_doors = low_x ∷ high_x ∷ low_y ∷ high_y ∷ low_z ∷ high_z ∷ near_door ∷ far_door ∷ []

-- a surface whose fronts reflect two species and make the first of the second, and one whose faces jump
abbrev pub surfaces_of_both : List Surface
surfaces_of_both =
    record {
      front = Reflect ∷ Reflect ∷ [];
      back = Transmit ∷ Transmit ∷ [];
      front_new = None ∷ Some 0 ∷ [];
      back_new = None ∷ None ∷ [];
    }
    ∷ record {
      front = Jump ∷ Jump ∷ [];
      back = Jump ∷ Jump ∷ [];
      front_new = None ∷ None ∷ [];
      back_new = None ∷ None ∷ [];
    }
    ∷ []

abbrev pub periodic : ℕ → ℤ → Bool → Wall
periodic axis plane upper = record { axis = axis; plane = plane; upper = upper; letter = P }

-- periodic walls at 0 and 60 on each axis
abbrev pub walls_around : List Wall
walls_around =
    periodic 0 (pos 0) false ∷ periodic 0 sixty true ∷ periodic 1 (pos 0) false ∷ periodic 1 sixty true
    ∷ periodic 2 (pos 0) false ∷ periodic 2 sixty true ∷ []

-- the configuration has these panels and walls, and two species, whatever else it says
pub record HasBoxAndDoors (draft : Draft) : Type 0 where
  pub dims : draft.dims ≡ 3
  pub species : length draft.species ≡ 2
  pub surfaces : draft.surfaces ≡ surfaces_of_both
  pub panels : draft.panels ≡ box_and_doors
  pub walls : draft.walls ≡ walls_around

-- the cuboid from 10 to 20 on each axis
abbrev pub small_box : Cuboid
small_box = record { low = ten ∷ ten ∷ ten ∷ []; high = twenty ∷ twenty ∷ twenty ∷ [] }
