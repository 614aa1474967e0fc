-- The walk from one meeting to the next keeps what is left of the way.
use Rattle.std.proofs.Common.{◌≡◌, ℕ, suc, ◌*◌, ◌<◌, false, List, [], ◌∷◌, length, refl, ◌∙◌, ap, subst, arith}
use Rattle.std.specs.Prelude.{map}
use Rattle.std.proofs.lemmas.Bool.{or_left, lt-ltb}
use Rattle.smol_geom.specs.declared.place.Place.{Place}
use Rattle.smol_geom.specs.declared.place.Step3.{Step3}
use Rattle.smol_geom.specs.declared.moment.Moment.{Moment}
use Rattle.smol_geom.specs.Moments.{Has, is_before, moments_after, beginning, moments}
use Rattle.smol_geom.proofs.Order.{not_before_itself}
use Rattle.smol_geom.proofs.Sorted.{parts, rises, of_move, all_of_move}
use Rattle.smol_types.specs.declared.draft.Draft.{Draft}
use Rattle.smol_meaning.specs.declared.way.Response.{Response}
use Rattle.smol_meaning.specs.declared.way.Response.TheVariants.{Reflect, Absorb, Jump, Pass}
use Rattle.smol_meaning.specs.declared.way.Standing.TheVariants.{Goes, Gone}
use Rattle.smol_meaning.specs.Plates.{Plate, done_by, effects_met}
use Rattle.smol_meaning.specs.Way.{after_moment, after_moments}
use Rattle.smol_sheets.specs.Sheets.{sheet_of}
use Rattle.smol_travel.specs.declared.leg.Leg.{Leg}
use Rattle.smol_meaning.proofs.Skips.{filter_all, filter_rises, filter_shorter, has_filtered, filtered_has, after_after, keeps_free, skip_all, skip_to}
use Rattle.smol_travel.specs.Legs.{meets}
use Rattle.smol_travel.specs.Meetings.{NoneMet, ComesLater, NothingBefore, NothingLeft, IsOfSpecies}

-- where no sheet is met, no plate responds
none_responds : (plates : List Plate) (leg : Leg) (species : ℕ) (m : Moment) → NoneMet (map sheet_of plates) leg m → effects_met plates leg.from leg.by leg.fold m species ≡ []
unfolding effects_met
none_responds [] leg species m none = refl
none_responds (p ∷ ps) leg species m none =
    let first : meets leg m p.sheet ≡ false = none 0 p.sheet (omega arith) in
    rw first (none_responds ps leg species m (λ k d l. none (suc k) d (omega arith)))

-- all moments come after the beginning
pub after_beginning : (from : Place) (by : Step3) → moments_after beginning (moments from by) ≡ moments from by
after_beginning from by =
    filter_all (is_before beginning) (moments from by)
    (λ m h. let is = of_move from by m h in or_left _ _ (lt-ltb (0 * m.den) (m.num * 1) (omega (arith, is.begun))))

module _ (plates : List Plate) (leg : Leg) (species : ℕ) (last : Moment) where
  later_of : (m : Moment) → Has (moments_after last (moments leg.from leg.by)) m → ComesLater leg last m
  later_of m h =
      let r = has_filtered (is_before last) (moments leg.from leg.by) m h in
      record { moment = of_move leg.from leg.by m r.0; later = r.1 }

  pub has_later : (m : Moment) → ComesLater leg last m → Has (moments_after last (moments leg.from leg.by)) m
  has_later m h = filtered_has (is_before last) (moments leg.from leg.by) m (all_of_move leg.from leg.by m h.moment) h.later

  den_of : (m : Moment) → ComesLater leg last m → 0 < m.den
  den_of m h = omega (arith, h.moment.begun, h.moment.unfinished)

  -- the way goes on from the next meeting with the moments after it
  pub step_on : 0 < last.den → (next : Moment) → NothingBefore (map sheet_of plates) leg last next
      → after_moments plates leg.from leg.by (Goes leg.fold species) (moments_after last (moments leg.from leg.by))
      ≡ after_moments plates leg.from leg.by (after_moment plates leg.from leg.by (Goes leg.fold species) next) (moments_after next (moments leg.from leg.by))
  step_on positive next h =
      skip_to plates leg.from leg.by leg.fold species next (moments_after last (moments leg.from leg.by)) (filter_rises _ _ (rises leg.from leg.by)) (has_later next h.is_later)
      (λ m in_list earlier. keeps_free plates leg.from leg.by leg.fold species m (none_responds plates leg species m (h.none_before m (later_of m in_list) earlier)))
      ∙ ap (λ ms. after_moments plates leg.from leg.by (after_moment plates leg.from leg.by (Goes leg.fold species) next) ms)
      (after_after last next (moments leg.from leg.by) h.is_later.later positive (den_of next h.is_later) (parts leg.from leg.by))

  -- fewer moments are left then
  pub fewer_left : 0 < last.den → (next : Moment) → ComesLater leg last next → length (moments_after next (moments leg.from leg.by)) < length (moments_after last (moments leg.from leg.by))
  fewer_left positive next h =
      subst (λ ms. length ms < length (moments_after last (moments leg.from leg.by)))
      (after_after last next (moments leg.from leg.by) h.later positive (den_of next h) (parts leg.from leg.by))
      (filter_shorter (is_before next) (moments_after last (moments leg.from leg.by)) next (has_later next h) (not_before_itself next))

  -- where nothing is met any more, the fold stays
  pub stays : NothingLeft (map sheet_of plates) leg last → after_moments plates leg.from leg.by (Goes leg.fold species) (moments_after last (moments leg.from leg.by)) ≡ Goes leg.fold species
  stays h =
      skip_all plates leg.from leg.by leg.fold species (moments_after last (moments leg.from leg.by))
      (λ m in_list. keeps_free plates leg.from leg.by leg.fold species m (none_responds plates leg species m (h.none m (later_of m in_list))))

-- what has ended stays ended
pub gone_stays : (plates : List Plate) (from : Place) (by : Step3) (number : ℕ) (ms : List Moment) → after_moments plates from by (Gone number) ms ≡ Gone number
unfolding after_moments
gone_stays plates from by number [] = refl
gone_stays plates from by number (m ∷ ms) = gone_stays plates from by number ms

-- what a response makes of a molecule of a species of the configuration is one too, where it goes on
pub stays_known : (draft : Draft) (leg : Leg) (m : Moment) (response : Response) (species : ℕ) → species < length draft.species
    → IsOfSpecies draft (done_by leg.from leg.by leg.fold m response species)
stays_known draft leg m Reflect species known = known
stays_known draft leg m (Absorb number) species known = tt
stays_known draft leg m (Jump by up) species known = known
stays_known draft leg m Pass species known = known
