-- Ways end as species that there are: what a face makes of one is one.
use Rattle.std.proofs.Common.{◌≡◌, ℕ, zero, suc, ◌<◌, Bool, true, false, ⊎_elim, List, [], ◌∷◌, length, get_or, subst, sym, arith}
use Rattle.std.specs.Prelude.{All, Option, None, Some, IfSome, map, slice_get, slice_index_or, unwrap_or}
use Rattle.std.specs.List.{enumerate_from}
use Rattle.std.proofs.lemmas.Bool.{cond_both}
use Rattle.std.proofs.lemmas.List.Elements.{All-append, All-map}
use Rattle.smol_geom.specs.declared.place.Place.{Place}
use Rattle.smol_geom.specs.declared.place.Step3.{Step3}
use Rattle.smol_geom.specs.declared.fold.Fold.{Fold}
use Rattle.smol_geom.specs.declared.moment.Moment.{Moment}
use Rattle.smol_geom.specs.Moments.{moments}
use Rattle.smol_geom.proofs.Lists.{all_had}
use Rattle.smol_types.specs.declared.draft.Draft.{Draft}
use Rattle.smol_types.specs.declared.surface.Face.{Face}
use Rattle.smol_types.specs.declared.surface.Face.TheVariants.{Front, Back}
use Rattle.smol_types.specs.declared.surface.Panel.{Panel}
use Rattle.smol_types.specs.declared.surface.Surface.{Surface}
use Rattle.smol_types.specs.declared.wall.Wall.{Wall}
use Rattle.smol_types.specs.Actions.{action_written, change_of, change_of_panel, change_written, destination_of, is_carried_out, panel_change, written_change}
use Rattle.smol_types.specs.Sound.{IsSound}
use Rattle.smol_types.specs.Surfaces.{AreChanges, IsSurface}
use Rattle.smol_meaning.specs.declared.way.Effect.{Effect}
use Rattle.smol_meaning.specs.declared.way.Response.{Response}
use Rattle.smol_meaning.specs.declared.way.Response.TheVariants.{Reflect, Absorb, Jump, Pass}
use Rattle.smol_meaning.specs.declared.way.Standing.{Standing}
use Rattle.smol_meaning.specs.declared.way.Standing.TheVariants.{Goes, Gone}
use Rattle.smol_meaning.specs.Moves.{EndsAmong}
use Rattle.smol_meaning.specs.Plates.{Plate, done_by, effect_of, goes_up}
use Rattle.smol_meaning.specs.Seen.{arrival_face, panel_effect, panel_plate, plates_of, wall_effect, wall_plate, way}
use Rattle.smol_meaning.specs.Way.{after_moment, after_moments, deciding_at, ended, straight, way_among}
use Rattle.smol_meaning.proofs.Bounds.{Decides, decided_by, unmet}
use Rattle.smol_meaning.proofs.Seeing.{all_got}

-- what is named of a species is a species, or the species itself is
changed_within : (count species : ℕ) (new : Option ℕ) → species < count → IfSome new (λ s. s < count) → unwrap_or new species < count
changed_within count species None there within = there
changed_within count species (Some new) there within = within

-- an entry of a list of changes, or none behind it
entry_within : (count : ℕ) (changes : List (Option ℕ)) (species : ℕ) → AreChanges count changes
    → IfSome (slice_index_or changes species None) (λ s. s < count)
entry_within count [] species all = tt
entry_within count (new ∷ changes) zero all = all 0 new (omega arith)
entry_within count (new ∷ changes) (suc species) all = entry_within count changes species (λ k d l. all (suc k) d (omega arith))

written_within : (count : ℕ) (surface : Surface) (face : Face) (species : ℕ) → IsSurface count surface → IfSome (written_change surface face species) (λ s. s < count)
written_within count surface Front species is = entry_within count surface.front_new species is.front_new
written_within count surface Back species is = entry_within count surface.back_new species is.back_new

-- what a face of a panel makes of a species that there is is one
pub panel_change_within : (draft : Draft) → IsSound draft → (panel : Panel) (face : Face) (species : ℕ) → species < length draft.species
    → panel_change draft.surfaces panel face species < length draft.species
panel_change_within draft sound panel face species there =
    cond_both (is_carried_out (action_written (slice_get draft.surfaces panel.surface) face species) (destination_of panel face))
    (unwrap_or (change_written (slice_get draft.surfaces panel.surface) face species) species) species (λ s. s < count)
    (λ e. changed_within count species (change_written (slice_get draft.surfaces panel.surface) face species) there
    (of_surface (slice_get draft.surfaces panel.surface) (all_got (IsSurface count) draft.surfaces panel.surface sound.surfaces)))
    (λ e. there)
  where
    count : ℕ
    count = length draft.species

    of_surface : (surface : Option Surface) → IfSome surface (IsSurface count) → IfSome (change_written surface face species) (λ s. s < count)
    of_surface None is = tt
    of_surface (Some surface) is = written_within count surface face species is

-- and so is what any face makes of it: a wall leaves it as it is
pub change_within : (draft : Draft) → IsSound draft → (number : ℕ) (face : Face) (species : ℕ) → species < length draft.species
    → change_of draft number face species < length draft.species
unfolding change_of
change_within draft sound number face species there = of_panel (slice_get draft.panels number)
  where
    of_panel : (panel : Option Panel) → change_of_panel draft face species panel < length draft.species
    of_panel None = there
    of_panel (Some panel) = panel_change_within draft sound panel face species there

-- a plate makes of each of so many species one of them
abbrev KeepsKinds : ℕ → Plate → Type 0
KeepsKinds count plate = (up : Bool) (species : ℕ) → species < count → (effect_of plate up species).species < count

plates_keep : (draft : Draft) → IsSound draft → All (KeepsKinds (length draft.species)) (plates_of draft)
unfolding plates_of
plates_keep draft sound =
    All-append (KeepsKinds count) (map (panel_plate draft) (enumerate_from 0 draft.panels)) (map (wall_plate draft) (enumerate_from (length draft.panels) draft.walls))
    (All-map (KeepsKinds count) (panel_plate draft) (enumerate_from 0 draft.panels) (λ k d l. panel_keeps (get_or (enumerate_from 0 draft.panels) k d)))
    (All-map (KeepsKinds count) (wall_plate draft) (enumerate_from (length draft.panels) draft.walls) (λ k d l. wall_keeps (get_or (enumerate_from (length draft.panels) draft.walls) k d)))
  where
    count : ℕ
    count = length draft.species

    panel_keeps : (entry : ℕ × Panel) → KeepsKinds count (panel_plate draft entry)
    panel_keeps entry up species there =
        cond_both up (panel_effect draft entry.0 entry.1 (arrival_face entry.1.greater true) species) (panel_effect draft entry.0 entry.1 (arrival_face entry.1.greater false) species)
        (λ (effect : Effect). effect.species < count)
        (λ e. change_within draft sound entry.0 (arrival_face entry.1.greater true) species there)
        (λ e. change_within draft sound entry.0 (arrival_face entry.1.greater false) species there)

    wall_keeps : (entry : ℕ × Wall) → KeepsKinds count (wall_plate draft entry)
    wall_keeps entry up species there =
        cond_both up (wall_effect draft entry.0 entry.1 true species) (wall_effect draft entry.0 entry.1 false species)
        (λ (effect : Effect). effect.species < count) (λ e. there) (λ e. there)

-- a way that goes on does so as one of so many species
abbrev StandsAmong : ℕ → Standing → Type 0
StandsAmong count (Goes f species) = species < count
StandsAmong count (Gone number) = Unit {0}

module _ (count : ℕ) (plates : List Plate) (from : Place) (by : Step3) (all : All (KeepsKinds count) plates) where
  decided_within : (f : Fold) (m : Moment) (species : ℕ) → species < count → (deciding_at plates from by f m species).species < count
  decided_within f m species there = ⊎_elim
      (λ (e : deciding_at plates from by f m species ≡ unmet species). subst (λ (effect : Effect). effect.species < count) (sym e) there)
      (λ (d : Decides plates from by f m species (deciding_at plates from by f m species)).
      subst (λ (effect : Effect). effect.species < count) d.is (all_had (KeepsKinds count) plates d.plate d.listed all (goes_up by f m.axis) species there))
      (decided_by plates from by f m species)

  done_among : (f : Fold) (m : Moment) (response : Response) (species : ℕ) → species < count → StandsAmong count (done_by from by f m response species)
  done_among f m Reflect species there = there
  done_among f m (Absorb number) species there = tt
  done_among f m (Jump shift up) species there = there
  done_among f m Pass species there = there

  among_after : (standing : Standing) (ms : List Moment) → StandsAmong count standing → StandsAmong count (after_moments plates from by standing ms)
  unfolding after_moments
  among_after standing [] among = among
  among_after (Gone number) (m ∷ ms) among = among_after (Gone number) ms tt
  among_after (Goes f species) (m ∷ ms) among =
      among_after (after_moment plates from by (Goes f species) m) ms
      (let effect = deciding_at plates from by f m species in done_among f m effect.response effect.species (decided_within f m species among))

  end_among : (standing : Standing) → StandsAmong count standing → EndsAmong count (ended from by standing)
  end_among (Goes f species) among = among
  end_among (Gone number) among = tt

  ends_among : (species : ℕ) → species < count → EndsAmong count (way_among plates species from by)
  unfolding way_among
  ends_among species there =
      end_among (after_moments plates from by (Goes straight species) (moments from by)) (among_after (Goes straight species) (moments from by) there)

-- a way that isn't absorbed ends as a species that there is
pub way_ends_among : (draft : Draft) (species : ℕ) (from : Place) (by : Step3) → IsSound draft → species < length draft.species
    → EndsAmong (length draft.species) (way draft species from by)
way_ends_among draft species from by sound there = ends_among (length draft.species) (plates_of draft) from by (plates_keep draft sound) species there
