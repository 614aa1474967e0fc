-- No way crosses a face that reflects.
use Rattle.std.proofs.Common.{⊎_elim, ◌≡◌, ℕ, zero, suc, ◌<◌, inl, inr, List, [], ◌∷◌, length, refl, sym, ◌∙◌, ap, subst, arith, ℤ, pos, negsuc, neg_ℤ, ◌+ℤ◌, ◌*ℤ◌, int_lt, unsigned_abs, get_or-set_same, get_or-set_other, length-set}
use Rattle.std.proofs.lemmas.Bool.{cases_eq, cond_both, lt-ltb, both_ways}
use Rattle.smol_geom.specs.declared.place.Place.{Place}
use Rattle.smol_geom.specs.declared.place.Step3.{Step3}
use Rattle.smol_geom.specs.declared.moment.Moment.{Moment}
use Rattle.smol_geom.specs.declared.fold.Fold.{Fold}
use Rattle.smol_geom.specs.Axes.{on_axis}
use Rattle.smol_geom.specs.Fold.{IsSign}
use Rattle.smol_meaning.specs.declared.way.Response.{Response}
use Rattle.smol_meaning.specs.declared.way.Response.TheVariants.{Reflect, Absorb, Jump, Pass}
use Rattle.smol_meaning.specs.declared.way.Standing.{Standing}
use Rattle.smol_meaning.specs.declared.way.Standing.TheVariants.{Goes, Gone}
use Rattle.smol_geom.specs.Moments.{Has, IsMoment}
use Rattle.smol_geom.specs.Moments.{moments}
use Rattle.smol_meaning.specs.Plates.{Plate, goes_up, response_of, done_by, plane_at, mirrored, shifted, are_same}
use Rattle.smol_meaning.specs.Way.{after_moment, deciding_at, straight}
use Rattle.std.specs.Prelude.{Contains}
use Rattle.smol_geom.proofs.Lists.{has_contained}
use Rattle.smol_meaning.specs.Crossing.{Crosses, CrossesNoneAt, CrossesNone}
use Rattle.smol_meaning.proofs.Responses.{reflect_decides}
use Rattle.smol_geom.proofs.Cells.{signed_size, mirrored_way}
use Rattle.smol_geom.proofs.Sorted.{of_move}

-- three signs and three shifts
pub record HasSigns (f : Fold) : Type 0 where
  pub signs : (j : ℕ) → j < 3 → IsSign (on_axis f.sign j)
  pub sign_count : length f.sign ≡ 3
  pub shift_count : length f.shift ≡ 3

abbrev pub StandingHasSigns : Standing → Type 0
StandingHasSigns (Goes f species) = HasSigns f
StandingHasSigns (Gone n) = Unit {0}

turned_sign : (s : ℤ) → IsSign s → IsSign (neg_ℤ s)
turned_sign s (inl e) = inr (ap neg_ℤ e)
turned_sign s (inr e) = inl (ap neg_ℤ e)

pub mirrored_signs : (f : Fold) (i : ℕ) (plane : ℤ) → i < 3 → HasSigns f → HasSigns (mirrored f i plane)
mirrored_signs f i plane l h =
    record {
      signs = λ j k. ⊎_elim
          (λ (same : j ≡ i). subst (λ x. IsSign (on_axis (mirrored f i plane).sign x)) (sym same) (rw (get_or-set_same f.sign i (neg_ℤ (on_axis f.sign i)) (pos 0) (omega (arith, h.sign_count))) (turned_sign _ (h.signs i l))))
          (λ (other : j ≡ i → ⊥). rw (get_or-set_other f.sign i j (neg_ℤ (on_axis f.sign i)) (pos 0) other) (h.signs j k))
          (cases_eq j i);
      sign_count = length-set f.sign i _ ∙ h.sign_count;
      shift_count = length-set f.shift i _ ∙ h.shift_count;
    }

pub moved_signs : (f : Fold) (by : List ℤ) → HasSigns f → HasSigns (shifted f by)
moved_signs f by h =
    record { signs = h.signs; sign_count = h.sign_count; shift_count = refl }

pub keeps_signs : (from : Place) (by : Step3) (f : Fold) (m : Moment) → m.axis < 3 → HasSigns f → (response : Response) (species : ℕ)
    → StandingHasSigns (done_by from by f m response species)
keeps_signs from by f m l h Reflect species = mirrored_signs f m.axis (plane_at from by f m) l h
keeps_signs from by f m l h (Absorb n) species = tt
keeps_signs from by f m l h (Jump shift up) species =
    cond_both (are_same (goes_up by f m.axis) up) (shifted f shift) (mirrored (shifted f shift) m.axis (plane_at from by f m +ℤ on_axis shift m.axis)) HasSigns
    (λ e. moved_signs f shift h)
    (λ e. mirrored_signs (shifted f shift) m.axis (plane_at from by f m +ℤ on_axis shift m.axis) l (moved_signs f shift h))
keeps_signs from by f m l h Pass species = h

-- a turned way points the other way
turns : (w : ℤ) → 0 < unsigned_abs w → int_lt (pos 0) (neg_ℤ w) ≡ int_lt (pos 0) w → ⊥
turns (pos zero) m e = omega arith
turns (pos (suc k)) m e = both_ways _ (sym e) (lt-ltb 0 (suc k) (omega arith))
turns (negsuc k) m e = both_ways _ e (lt-ltb 0 (suc k) (omega arith))

-- what two standings that go on go on with
fold_of : Fold → Standing → Fold
fold_of other (Goes f species) = f
fold_of other (Gone n) = other

module _ (plates : List Plate) (from : Place) (by : Step3) where
  -- where a plate is met that reflects, the way doesn't cross it
  pub crosses_not : (f : Fold) (species : ℕ) (m : Moment) → IsMoment from by m → HasSigns f → (plate : Plate) → Contains plates plate
      → response_of plate (goes_up by f m.axis) species ≡ Reflect → (g : Fold) (next : ℕ) → after_moment plates from by (Goes f species) m ≡ Goes g next
      → Crosses from by f m g plate → ⊥
  unfolding fold_of
  crosses_not f species m is h plate listed reflects g next goes crosses =
      turns (on_axis f.sign m.axis *ℤ on_axis by.0 m.axis)
      (subst (λ n. 0 < n) (sym (signed_size (on_axis f.sign m.axis) (on_axis by.0 m.axis) (h.signs m.axis is.axis))) (omega (arith, is.begun, is.unfinished, is.den)))
      (sym turned ∙ crosses.goes_on)
    where
      g_is : mirrored f m.axis (plane_at from by f m) ≡ g
      g_is =
          ap (fold_of f)
          (ap (λ response. done_by from by f m response (deciding_at plates from by f m species).species)
          (sym (reflect_decides from by f m species plates plate (has_contained plates plate listed) crosses.met reflects)) ∙ goes)

      turned : goes_up by g m.axis ≡ int_lt (pos 0) (neg_ℤ (on_axis f.sign m.axis *ℤ on_axis by.0 m.axis))
      turned =
          ap (λ (x : Fold). goes_up by x m.axis) (sym g_is)
          ∙ ap (λ z. int_lt (pos 0) (z *ℤ on_axis by.0 m.axis)) (get_or-set_same f.sign m.axis (neg_ℤ (on_axis f.sign m.axis)) (pos 0) (omega (arith, is.axis, h.sign_count)))
          ∙ ap (λ z. int_lt (pos 0) z) (mirrored_way (on_axis f.sign m.axis) (on_axis by.0 m.axis))

  -- so no way does at any moment
  crosses_none_of : (s : Standing) (ms : List Moment) → ((m : Moment) → Has ms m → IsMoment from by m) → StandingHasSigns s → CrossesNoneAt plates from by s ms
  crosses_none_of s [] are h = tt
  crosses_none_of (Gone n) (m ∷ ms) are h = tt
  crosses_none_of (Goes f species) (m ∷ ms) are h = (
    crosses_not f species m (are m (inl refl)) h,
    crosses_none_of (after_moment plates from by (Goes f species) m) ms (λ n k. are n (inr k))
        (let effect = deciding_at plates from by f m species in keeps_signs from by f m (are m (inl refl)).axis h effect.response effect.species),
  )

pub crosses_none : (plates : List Plate) (species : ℕ) (from : Place) (by : Step3) → CrossesNone plates species from by
unfolding CrossesNone
crosses_none plates species from by =
    crosses_none_of plates from by (Goes straight species) (moments from by) (of_move from by)
    (record { signs = signs; sign_count = refl; shift_count = refl })
  where
    signs : (k : ℕ) → k < 3 → IsSign (on_axis straight.sign k)
    signs zero h = inl refl
    signs (suc zero) h = inl refl
    signs (suc (suc zero)) h = inl refl
    signs (suc (suc (suc k))) h = absurd (omega arith)
