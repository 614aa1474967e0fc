-- What a look at axis and plane says of a meeting.
use Rattle.std.proofs.Common.{◌≡◌, ℕ, true, false, sym, ℤ}
use Rattle.std.proofs.lemmas.Bool.{false_from_ne_true}
use Rattle.smol_geom.specs.declared.moment.Moment.{Moment}
use Rattle.smol_geom.specs.Axes.{on_axis}
use Rattle.smol_geom.specs.Fold.{IsSign}
use Rattle.smol_geom.specs.Moments.{IsMoment}
use Rattle.smol_geom.proofs.EachAxis.{at_axis}
use Rattle.smol_meaning.specs.declared.sheet.Sheet.{Sheet}
use Rattle.smol_meaning.specs.declared.sheet.Sheet.TheVariants.{Plane}
use Rattle.smol_meaning.specs.Folds.{IsSheet}
use Rattle.smol_meaning.specs.Plates.{sheet_axis, sheet_plane}
use Rattle.smol_meaning.proofs.Bounds.{flat_sheet}
use Rattle.smol_meaning.proofs.Planes.{met_plane, plane_met}
use Rattle.smol_travel.specs.declared.leg.Leg.{Leg}
use Rattle.smol_travel.specs.Legs.{IsLeg, meets, plane_on}

module _ (leg : Leg) (is_leg : IsLeg leg) (m : Moment) (is : IsMoment leg.from leg.by m) where
  sign : IsSign (on_axis leg.fold.sign m.axis)
  sign = at_axis (λ j. IsSign (on_axis leg.fold.sign j)) m.axis is.axis is_leg.fold.fold

  -- a sheet that is met lies across the axis of the moment, at the plane of the moment
  pub met_at : (sheet : Sheet) → IsSheet sheet → meets leg m sheet ≡ true → (m.axis ≡ sheet_axis sheet) × (plane_on leg m ≡ sheet_plane sheet)
  met_at sheet fits met = met_plane leg.from leg.by leg.fold m sign is sheet (flat_sheet sheet fits) met

  -- elsewhere it isn't met
  pub apart : (sheet : Sheet) → IsSheet sheet → (sheet_axis sheet ≡ m.axis → sheet_plane sheet ≡ plane_on leg m → ⊥) → false ≡ meets leg m sheet
  apart sheet fits elsewhere =
      sym (false_from_ne_true (meets leg m sheet) (λ e. let at = met_at sheet fits e in elsewhere (sym at.0) (sym at.1)))

  -- and a wall is met where it is at the plane of the moment
  pub wall_agrees : (axis : ℕ) (plane : ℤ) → m.axis ≡ axis → plane_on leg m ≡ plane → true ≡ meets leg m (Plane axis plane)
  wall_agrees axis plane across there = sym (plane_met leg.from leg.by leg.fold m sign is axis plane (sym across) (sym there))
