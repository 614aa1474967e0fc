-- Boxes that a configuration makes: by panels that reflect on the side of the box, and by walls that reflect.
use Rattle.std.specs.Prelude.{◌≡◌, ℕ, ◌<◌, Bool, true, false, ◌⊎◌, List, [], ◌∷◌, All, Contains, ℤ, pos, ◌<ℤ◌, if◌then◌else◌, slice_get}
use Rattle.std.specs.Option.{option_map_or}
use Rattle.smol_geom.specs.declared.cuboid.Cuboid.{Cuboid}
use Rattle.smol_geom.specs.declared.rect.Rect.{Rect}
use Rattle.smol_geom.specs.Axes.{on_axis}
use Rattle.smol_geom.specs.Rect.{plane_of}
use Rattle.smol_types.specs.declared.draft.Draft.{Draft}
use Rattle.smol_types.specs.declared.surface.Action.TheVariants.{Reflect, Jump}
use Rattle.smol_types.specs.declared.surface.Face.{Face}
use Rattle.smol_types.specs.declared.surface.Face.TheVariants.{Front, Back}
use Rattle.smol_types.specs.declared.surface.Panel.{Panel}
use Rattle.smol_types.specs.declared.wall.Letter.TheVariants.{R, P}
use Rattle.smol_types.specs.declared.wall.Wall.{Wall}
use Rattle.smol_types.specs.Actions.{panel_action, panel_change}
use Rattle.smol_meaning.specs.Box.{Covers}
use Rattle.smol_meaning.specs.declared.sheet.Sheet.TheVariants.{Rectangle}

-- the face of a panel that is turned inwards where the panel is at an upper face of a box, which looks down, or at a lower one
abbrev pub inner_face : Panel → Bool → Face
inner_face panel true = if panel.greater then Back else Front
inner_face panel false = if panel.greater then Front else Back

-- the panel holds the whole face of the box across an axis at a plane, and reflects the species on its inner side
pub record IsPanelAt (draft : Draft) (species : ℕ) (box : Cuboid) (axis : ℕ) (plane : ℤ) (upper : Bool) (panel : Panel) : Type 0 where
  pub listed : Contains draft.panels panel
  pub across : panel.rect.axis ≡ axis
  pub at_plane : plane_of panel.rect ≡ plane
  pub covers : Covers (Rectangle panel.rect) box
  pub reflects : panel_action draft.surfaces panel (inner_face panel upper) species ≡ Reflect

-- the wall stands at the face, and has the letter r. A wall has no edges
pub record IsWallAt (draft : Draft) (axis : ℕ) (plane : ℤ) (upper : Bool) (wall : Wall) : Type 0 where
  pub listed : Contains draft.walls wall
  pub across : wall.axis ≡ axis
  pub at_plane : wall.plane ≡ plane
  pub side : wall.upper ≡ upper
  pub reflects : wall.letter ≡ R

-- such a panel or such a wall is at the face
abbrev pub IsHeld : Draft → ℕ → Cuboid → ℕ → ℤ → Bool → Type 0
IsHeld draft species box axis plane upper =
    ((panel : Panel) × IsPanelAt draft species box axis plane upper panel) ⊎ ((wall : Wall) × IsWallAt draft axis plane upper wall)

-- on some axis the rectangle ends below the box, or begins above it. Else they have a point in common
abbrev pub IsApart : Rect → Cuboid → Type 0
IsApart rect box =
    (axis : ℕ) × (axis < 3) × ((on_axis rect.high axis <ℤ on_axis box.low axis) ⊎ (on_axis box.high axis <ℤ on_axis rect.low axis))

-- the panel doesn't jump for the species, or it is apart from the box
abbrev pub IsNoJumpIn : Draft → ℕ → Cuboid → Panel → Type 0
IsNoJumpIn draft species box panel = (face : Face) → panel_action draft.surfaces panel face species ≡ Jump → IsApart panel.rect box

-- of each of these species the panel makes one of these, or it is apart from the box
abbrev pub IsNoChangeIn : Draft → (ℕ → Bool) → Cuboid → Panel → Type 0
IsNoChangeIn draft among box panel =
    (face : Face) (species : ℕ) → among species ≡ true → among (panel_change draft.surfaces panel face species) ≡ false
    → IsApart panel.rect box

-- the wall isn't periodic, or it is below the box or above it
abbrev pub IsNoPeriodIn : Cuboid → Wall → Type 0
IsNoPeriodIn box wall = wall.letter ≡ P → (wall.plane <ℤ on_axis box.low wall.axis) ⊎ (on_axis box.high wall.axis <ℤ wall.plane)

-- each face of the box on the axes in use is held, for the species, and neither a panel that jumps nor a periodic wall has a point
-- in common with the box, its faces included
pub record IsBuilt (draft : Draft) (species : ℕ) (box : Cuboid) : Type 0 where
  pub lower : (axis : ℕ) → axis < draft.dims → IsHeld draft species box axis (on_axis box.low axis) false
  pub upper : (axis : ℕ) → axis < draft.dims → IsHeld draft species box axis (on_axis box.high axis) true
  pub jumps : All (IsNoJumpIn draft species box) draft.panels
  pub periods : All (IsNoPeriodIn box) draft.walls

-- where the wall of a number stands, or another plane where there is none
abbrev pub plane_or : List Wall → ℕ → ℤ → ℤ
plane_or walls number other = option_map_or (λ (wall : Wall). wall.plane) (slice_get walls number) other

-- the cuboid between the walls, which come in the order of the axes, the lower one first. On an axis that isn't in use it reaches
-- from 0 to 2
abbrev pub box_of_walls : List Wall → Cuboid
box_of_walls walls = record {
  low = plane_or walls 0 (pos 0) ∷ plane_or walls 2 (pos 0) ∷ plane_or walls 4 (pos 0) ∷ [];
  high = plane_or walls 1 (pos 2) ∷ plane_or walls 3 (pos 2) ∷ plane_or walls 5 (pos 2) ∷ [];
}
