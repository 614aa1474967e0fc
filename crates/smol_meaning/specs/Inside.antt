-- Compartments.
use Rattle.std.specs.Prelude.{ℕ, Bool, false, not, nat_eq, List, filter, Option, None, Some, slice_get}
use Rattle.std.specs.List.{list_any}
use Rattle.smol_geom.specs.declared.place.Place.{Place}
use Rattle.smol_types.specs.declared.compartment.Compartment.{Compartment}
use Rattle.smol_types.specs.declared.draft.Draft.{Draft}
use Rattle.smol_types.specs.declared.surface.Panel.{Panel}
use Rattle.smol_meaning.specs.declared.sheet.Sheet.TheVariants.{Rectangle}
use Rattle.smol_meaning.specs.Sight.{line_meets}

-- whether a panel belongs to one of the surfaces
abbrev pub is_bounding : List ℕ → Panel → Bool
is_bounding surfaces panel = list_any (nat_eq panel.surface) surfaces

-- whether the straight line between two places meets no panel of the surfaces
abbrev pub is_clear : List Panel → List ℕ → Place → Place → Bool
is_clear panels surfaces a b =
    not (list_any (λ (panel : Panel). line_meets (Rectangle panel.rect) a b) (filter (is_bounding surfaces) panels))

-- whether a place is inside a compartment: from it the straight line to some interior-defining point is clear
abbrev pub is_inside_of : List Panel → Compartment → Place → Bool
is_inside_of panels compartment place = list_any (is_clear panels compartment.surfaces place) compartment.points

abbrev pub is_inside_some : List Panel → Option Compartment → Place → Bool
is_inside_some panels None place = false
is_inside_some panels (Some compartment) place = is_inside_of panels compartment place

-- whether a place is inside the compartment of this number
unfoldable pub is_inside : Draft → ℕ → Place → Bool
is_inside draft number place = is_inside_some draft.panels (slice_get draft.compartments number) place
