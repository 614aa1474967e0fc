-- Panels that a configuration may have.
use Rattle.std.specs.Prelude.{◌≡◌, ℕ, ◌<◌, ◌≤◌, ◌==◌, Bool, true, false, ℤ, pos, ◌-ℤ◌, ◌<ℤ◌, List, length, Option, None, Some, IsSomeAnd, slice_get}
use Rattle.smol_geom.specs.declared.rect.Rect.{Rect}
use Rattle.smol_geom.specs.Axes.{on_axis, EachAxis, IsEven, IsWithin}
use Rattle.smol_geom.specs.Rect.{IsRect}
use Rattle.smol_types.specs.declared.surface.Face.{Face}
use Rattle.smol_types.specs.declared.surface.Panel.{Panel}
use Rattle.smol_types.specs.Limits.{farthest}

-- two rectangles lie across one axis and have equal edges
pub record IsCongruent (a b : Rect) : Type 0 where
  pub axis : a.axis ≡ b.axis
  pub edges : EachAxis (λ axis. on_axis a.high axis -ℤ on_axis a.low axis ≡ on_axis b.high axis -ℤ on_axis b.low axis)

-- a jump from the rectangle leads nowhere, or to a panel whose rectangle is congruent
abbrev pub LeadsToCongruent : List Panel → Rect → Option (ℕ × Face) → Type 0
LeadsToCongruent panels rect None = Unit {0}
LeadsToCongruent panels rect (Some to) = IsSomeAnd (slice_get panels to.0) (λ (other : Panel). IsCongruent rect other.rect)

-- on an axis that a rectangle doesn't lie across, its low end is below its high end
abbrev pub IsEdge : Bool → ℤ → ℤ → Type 0
IsEdge true low high = Unit {0}
IsEdge false low high = low <ℤ high

-- the rectangle has an edge on each axis but the one that it lies across
abbrev pub HasEdges : Rect → Type 0
HasEdges rect = EachAxis (λ axis. IsEdge (axis == rect.axis) (on_axis rect.low axis) (on_axis rect.high axis))

-- a panel across an axis in use, with edges and even ends. On an axis that isn't in use it reaches from 0 to 2
pub record IsPanel (dims surface_count : ℕ) (panels : List Panel) (panel : Panel) : Type 0 where
  pub rect : IsRect panel.rect
  pub across : panel.rect.axis < dims
  pub edges : HasEdges panel.rect
  pub low_count : length panel.rect.low ≡ 3
  pub high_count : length panel.rect.high ≡ 3
  pub low_size : IsWithin farthest panel.rect.low
  pub high_size : IsWithin farthest panel.rect.high
  pub low_even : EachAxis (λ axis. IsEven (on_axis panel.rect.low axis))
  pub high_even : EachAxis (λ axis. IsEven (on_axis panel.rect.high axis))
  pub low_unused : EachAxis (λ axis. dims ≤ axis → on_axis panel.rect.low axis ≡ pos 0)
  pub high_unused : EachAxis (λ axis. dims ≤ axis → on_axis panel.rect.high axis ≡ pos 2)
  pub surface : panel.surface < surface_count
  pub front_to : LeadsToCongruent panels panel.rect panel.front_to
  pub back_to : LeadsToCongruent panels panel.rect panel.back_to
