-- The way of a molecule: a fold over the moments of its move.
use Rattle.std.specs.Prelude.{ℕ, List, [], ◌∷◌, ℤ, pos, ◌+ℤ◌, ◌*ℤ◌}
use Rattle.smol_geom.specs.declared.place.Place.{Place}
use Rattle.smol_geom.specs.declared.place.Step3.{Step3}
use Rattle.smol_geom.specs.declared.moment.Moment.{Moment}
use Rattle.smol_geom.specs.declared.fold.Fold.{Fold}
use Rattle.smol_geom.specs.Axes.{on_axis}
use Rattle.smol_geom.specs.Moments.{moments}
use Rattle.smol_meaning.specs.declared.way.Effect.{Effect}
use Rattle.smol_meaning.specs.declared.way.Standing.{Standing}
use Rattle.smol_meaning.specs.declared.way.Standing.TheVariants.{Goes, Gone}
use Rattle.smol_meaning.specs.declared.way.Travelled.{Travelled}
use Rattle.smol_meaning.specs.declared.way.Travelled.TheVariants.{At, Absorbed}
use Rattle.smol_meaning.specs.Plates.{Plate, effects_met, deciding, done_by}

-- what decides at a moment, for a molecule that has come there by a fold as this species
abbrev pub deciding_at : List Plate → Place → Step3 → Fold → Moment → ℕ → Effect
deciding_at plates from by f m species = deciding species (effects_met plates from by f m species)

-- what an effect makes of a fold at a moment: its response is done to the fold, and the species is the effect's then
abbrev pub after_effect : Place → Step3 → Fold → Moment → Effect → Standing
after_effect from by f m effect = done_by from by f m effect.response effect.species

-- what one moment makes of where the way has led so far
abbrev pub after_moment : List Plate → Place → Step3 → Standing → Moment → Standing
after_moment plates from by (Goes f species) m = after_effect from by f m (deciding_at plates from by f m species)
after_moment plates from by (Gone number) m = Gone number

-- what moments make of it, one after the other
unfoldable pub after_moments : List Plate → Place → Step3 → Standing → List Moment → Standing
after_moments plates from by standing [] = standing
after_moments plates from by standing (m ∷ ms) = after_moments plates from by (after_moment plates from by standing m) ms

-- the coordinate on an axis that a fold carries the end of the whole move to
abbrev pub end_on : Place → Step3 → Fold → ℕ → ℤ
end_on from by f axis =
    on_axis f.sign axis *ℤ (on_axis from.0 axis +ℤ on_axis by.0 axis) +ℤ on_axis f.shift axis

-- the place that a fold carries the end of the whole move to
abbrev pub end_place : Place → Step3 → Fold → Place
end_place from by f = record { 0 = end_on from by f 0 ∷ end_on from by f 1 ∷ end_on from by f 2 ∷ [] }

-- where the way ends that has led so far when all moments are past
abbrev pub ended : Place → Step3 → Standing → Travelled
ended from by (Goes f species) = At (end_place from by f) species
ended from by (Gone number) = Absorbed number

-- no mirror and no translation
abbrev pub straight : Fold
straight =
    record { sign = pos 1 ∷ pos 1 ∷ pos 1 ∷ []; shift = pos 0 ∷ pos 0 ∷ pos 0 ∷ [] }

-- where the way of a move ends that a molecule of a species makes among these plates
unfoldable pub way_among : List Plate → ℕ → Place → Step3 → Travelled
way_among plates species from by = ended from by (after_moments plates from by (Goes straight species) (moments from by))
