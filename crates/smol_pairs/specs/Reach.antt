-- How far a molecule reaches on an axis.
use Rattle.std.specs.Prelude.{ℕ, ◌*◌, ◌==◌, ◌&&◌, Bool, List, [], ◌∷◌, Option, None, Some, if◌then◌else◌, length, map, max, not, unsigned_abs}
use Rattle.std.specs.List.{list_any, range_with_len}
use Rattle.smol_num.specs.declared.quantities.Micro.{Micro}
use Rattle.smol_geom.specs.declared.place.Place.{Place}
use Rattle.smol_types.specs.declared.draft.Draft.{Draft}
use Rattle.smol_types.specs.declared.reaction.Reaction.{Reaction}
use Rattle.smol_pairs.specs.Near.{are_within_on}

-- a radius in ticks: a micro is two of them
abbrev pub in_ticks : Option Micro → Option ℕ
in_ticks None = None
in_ticks (Some radius) = Some (2 * unsigned_abs radius.0)

-- the longer of two reaches
abbrev pub longer : Option ℕ → Option ℕ → Option ℕ
longer None other = other
longer (Some one) None = Some one
longer (Some one) (Some other) = Some (max one other)

-- how far a molecule of a species reaches by a reaction, in ticks: the radius, if the species is one of the reactants
abbrev pub reach_by : ℕ → Reaction → Option ℕ
reach_by species reaction = if list_any (λ (reactant : ℕ). reactant == species) reaction.reactants then in_ticks reaction.radius else None

-- how far it reaches: by the reaction of the longest radius. Without one it meets nobody
abbrev pub reach_of : ℕ → List Reaction → Option ℕ
reach_of species [] = None
reach_of species (reaction ∷ reactions) = longer (reach_by species reaction) (reach_of species reactions)

-- how far each species of a configuration reaches, by its number
abbrev pub reaches_of : Draft → List (Option ℕ)
reaches_of draft = map (λ (species : ℕ). reach_of species draft.reactions) (range_with_len 0 (length draft.species))

-- whether two places are farther apart on some axis than a molecule reaches
abbrev pub is_out_of_reach : ℕ → Place → Place → Bool
is_out_of_reach reach a b = not (are_within_on reach a b 0 && (are_within_on reach a b 1 && are_within_on reach a b 2))

-- the longest of these reaches
abbrev pub longest_of : List (Option ℕ) → Option ℕ
longest_of [] = None
longest_of (reach ∷ reaches) = longer reach (longest_of reaches)
