-- Where a way ends that isn't absorbed: on an odd place, no farther out than the start or the farthest plane and the displacement.
use Rattle.std.proofs.Common.{⊎_elim, ◌≡◌, ℕ, zero, suc, ◌+◌, ◌%◌, ◌≤◌, ◌⊎◌, inl, inr, List, [], ◌∷◌, length, refl, ◌∙◌, ap, arith, ℤ, pos, neg_ℤ, ◌+ℤ◌, ◌*ℤ◌, unsigned_abs}
use Rattle.std.specs.Prelude.{All, max}
use Rattle.std.proofs.lemmas.Int.{ints}
use Rattle.smol_geom.specs.declared.place.Place.{Place}
use Rattle.smol_geom.specs.declared.place.Step3.{Step3}
use Rattle.smol_geom.specs.declared.moment.Moment.{Moment}
use Rattle.smol_geom.specs.Axes.{IsWithin, on_axis}
use Rattle.smol_geom.specs.Fold.{IsSign}
use Rattle.smol_geom.specs.Moments.{Has, IsMoment, moments}
use Rattle.smol_geom.proofs.Cells.{signed}
use Rattle.smol_geom.proofs.Sorted.{of_move}
use Rattle.smol_types.specs.declared.draft.Draft.{Draft}
use Rattle.smol_types.specs.Coordinates.{AreCoordinates}
use Rattle.smol_types.specs.Limits.{farthest}
use Rattle.smol_types.specs.Sound.{IsSound}
use Rattle.smol_meaning.specs.declared.way.Standing.{Standing}
use Rattle.smol_meaning.specs.declared.way.Standing.TheVariants.{Goes, Gone}
use Rattle.smol_meaning.specs.Plates.{Plate}
use Rattle.smol_meaning.specs.Way.{after_moment, after_moments, ended, straight, way_among}
use Rattle.smol_meaning.specs.Seen.{plates_of, way}
use Rattle.smol_meaning.specs.Moves.{IsMove, IsEndOf, EndsWithin}
use Rattle.smol_meaning.specs.Folds.{IsPlate, FoldFits, StandingFits}
use Rattle.smol_meaning.proofs.Bounds.{outcome_fits}
use Rattle.smol_meaning.proofs.Seeing.{plates_fit}

straight_size : (a d : ℤ) → unsigned_abs (pos 1 *ℤ (a +ℤ d) +ℤ pos 0) ≤ max (unsigned_abs a) farthest + unsigned_abs d
straight_size a d = omega (arith, ints)

straight_still : (a d : ℤ) → d ≡ pos 0 → pos 1 *ℤ (a +ℤ d) +ℤ pos 0 ≡ a
straight_still a d still = omega (arith, ints, still)

-- the straight fold is within the bounds
pub straight_fits : (dims : ℕ) (from : Place) (by : Step3) → IsMove dims from by → FoldFits dims from by straight
straight_fits dims from by move =
    record {
      small = record {
        fold = (inl refl, inl refl, inl refl);
        signs = refl;
        shifts = refl;
        even = (refl, refl, refl);
        size = (omega arith, omega arith, omega arith);
      };
      end = (
        straight_size (on_axis from.0 0) (on_axis by.0 0),
        straight_size (on_axis from.0 1) (on_axis by.0 1),
        straight_size (on_axis from.0 2) (on_axis by.0 2),
      );
      unused = (
        λ u. straight_still (on_axis from.0 0) (on_axis by.0 0) (move.unused.0 u),
        λ u. straight_still (on_axis from.0 1) (on_axis by.0 1) (move.unused.1 u),
        λ u. straight_still (on_axis from.0 2) (on_axis by.0 2) (move.unused.2 u),
      );
    }

odd_end : (s a d h : ℤ) → IsSign s → unsigned_abs a % 2 ≡ 1 → unsigned_abs d % 2 ≡ 0 → unsigned_abs h % 2 ≡ 0 → unsigned_abs (s *ℤ (a +ℤ d) +ℤ h) % 2 ≡ 1
odd_end s a d h sign odd even even_h = ⊎_elim
    (λ (e : s *ℤ (a +ℤ d) ≡ a +ℤ d). let is : s *ℤ (a +ℤ d) +ℤ h ≡ (a +ℤ d) +ℤ h = ap (λ z. z +ℤ h) e in odd_sum (s *ℤ (a +ℤ d) +ℤ h) (inl is))
    (λ (e : s *ℤ (a +ℤ d) ≡ neg_ℤ (a +ℤ d)). let is : s *ℤ (a +ℤ d) +ℤ h ≡ neg_ℤ (a +ℤ d) +ℤ h = ap (λ z. z +ℤ h) e in odd_sum (s *ℤ (a +ℤ d) +ℤ h) (inr is))
    (signed s (a +ℤ d) sign)
  where
    odd_sum : (z : ℤ) → (z ≡ (a +ℤ d) +ℤ h) ⊎ (z ≡ neg_ℤ (a +ℤ d) +ℤ h) → unsigned_abs z % 2 ≡ 1
    odd_sum z (inl is) = omega (arith, ints, is, odd, even, even_h)
    odd_sum z (inr is) = omega (arith, ints, is, odd, even, even_h)

-- the end of the whole move is such an end under a fold that is within the bounds
end_fits : (dims : ℕ) (from : Place) (by : Step3) (standing : Standing) → IsMove dims from by → StandingFits dims from by standing → EndsWithin dims from by (ended from by standing)
end_fits dims from by (Goes f species) move fits =
    record {
      count = refl;
      odd = (
        odd_end (on_axis f.sign 0) (on_axis from.0 0) (on_axis by.0 0) (on_axis f.shift 0) fits.small.fold.0 move.place_odd.0 move.step_even.0 fits.small.even.0,
        odd_end (on_axis f.sign 1) (on_axis from.0 1) (on_axis by.0 1) (on_axis f.shift 1) fits.small.fold.1 move.place_odd.1 move.step_even.1 fits.small.even.1,
        odd_end (on_axis f.sign 2) (on_axis from.0 2) (on_axis by.0 2) (on_axis f.shift 2) fits.small.fold.2 move.place_odd.2 move.step_even.2 fits.small.even.2,
      );
      size = fits.end;
      unused = fits.unused;
    }
end_fits dims from by (Gone number) move fits = tt

module _ (dims : ℕ) (plates : List Plate) (from : Place) (by : Step3) (all : All (IsPlate dims) plates) (move : IsMove dims from by) where
  fits_after : (standing : Standing) (ms : List Moment) → ((m : Moment) → Has ms m → IsMoment from by m) → StandingFits dims from by standing
      → StandingFits dims from by (after_moments plates from by standing ms)
  unfolding after_moments
  fits_after standing [] are fits = fits
  fits_after (Gone number) (m ∷ ms) are fits = fits_after (Gone number) ms (λ n h. are n (inr h)) tt
  fits_after (Goes f species) (m ∷ ms) are fits =
      fits_after (after_moment plates from by (Goes f species) m) ms (λ n h. are n (inr h)) (outcome_fits dims from by move m (are m (inl refl)) f fits plates all species)

  pub ends_within : (species : ℕ) → EndsWithin dims from by (way_among plates species from by)
  unfolding way_among
  ends_within species =
      end_fits dims from by (after_moments plates from by (Goes straight species) (moments from by)) move
      (fits_after (Goes straight species) (moments from by) (of_move from by) (straight_fits dims from by move))

pub way_ends_within : (draft : Draft) (species : ℕ) (from : Place) (by : Step3) → IsSound draft → IsMove draft.dims from by
    → EndsWithin draft.dims from by (way draft species from by)
way_ends_within draft species from by sound move =
    ends_within draft.dims (plates_of draft) from by (plates_fit draft sound) move species

-- so coordinates that were within some size are within this size and that of the displacement
coordinate_grows : (x y d : ℤ) (size most : ℕ) → unsigned_abs y ≤ max (unsigned_abs x) farthest + unsigned_abs d → unsigned_abs x ≤ size → farthest ≤ size → unsigned_abs d ≤ most → unsigned_abs y ≤ size + most
coordinate_grows x y d size most near small far step = omega (arith, near, small, far, step)

grow : (dims size most : ℕ) (x y z x' y' z' : ℤ) (by : Step3) → dims ≤ 3 → farthest ≤ size → IsWithin most by.0
    → IsEndOf dims (record { 0 = x ∷ y ∷ z ∷ [] }) by (record { 0 = x' ∷ y' ∷ z' ∷ [] })
    → AreCoordinates size dims (x ∷ y ∷ z ∷ []) → AreCoordinates (size + most) dims (x' ∷ y' ∷ z' ∷ [])
grow zero size most x y z x' y' z' by few far step end are = (end.unused.0 (omega arith) ∙ are.0, (end.unused.1 (omega arith) ∙ are.1.0, (end.unused.2 (omega arith) ∙ are.1.1.0, tt)))
grow (suc zero) size most x y z x' y' z' by few far step end are = (
  end.odd.0,
  coordinate_grows x x' (on_axis by.0 0) size most end.size.0 are.1 far step.0,
  (end.unused.1 (omega arith) ∙ are.2.0, (end.unused.2 (omega arith) ∙ are.2.1.0, tt)),
)
grow (suc (suc zero)) size most x y z x' y' z' by few far step end are = (
  end.odd.0,
  coordinate_grows x x' (on_axis by.0 0) size most end.size.0 are.1 far step.0,
  (
    end.odd.1,
    coordinate_grows y y' (on_axis by.0 1) size most end.size.1 are.2.1 far step.1,
    (end.unused.2 (omega arith) ∙ are.2.2.0, tt),
  ),
)
grow (suc (suc (suc zero))) size most x y z x' y' z' by few far step end are = (
  end.odd.0,
  coordinate_grows x x' (on_axis by.0 0) size most end.size.0 are.1 far step.0,
  (
    end.odd.1,
    coordinate_grows y y' (on_axis by.0 1) size most end.size.1 are.2.1 far step.1,
    (end.odd.2, coordinate_grows z z' (on_axis by.0 2) size most end.size.2 are.2.2.1 far step.2, tt),
  ),
)
grow (suc (suc (suc (suc dims)))) size most x y z x' y' z' by few far step end are = absurd (omega arith)

-- an end of a move from coordinates within a size
pub coordinates_of_end : (dims size most : ℕ) (from : Place) (by : Step3) (place : Place) → dims ≤ 3 → farthest ≤ size → length from.0 ≡ 3 → IsWithin most by.0
    → IsEndOf dims from by place → AreCoordinates size dims from.0 → AreCoordinates (size + most) dims place.0
coordinates_of_end dims size most from by place few far count step end are = go from.0 place.0 count end.count end are
  where
    go : (xs ys : List ℤ) → length xs ≡ 3 → length ys ≡ 3 → IsEndOf dims (record { 0 = xs }) by (record { 0 = ys }) → AreCoordinates size dims xs → AreCoordinates (size + most) dims ys
    go [] ys c c' end are = absurd (omega (arith, c))
    go (x ∷ []) ys c c' end are = absurd (omega (arith, c))
    go (x ∷ y ∷ []) ys c c' end are = absurd (omega (arith, c))
    go (x ∷ y ∷ z ∷ []) [] c c' end are = absurd (omega (arith, c'))
    go (x ∷ y ∷ z ∷ []) (x' ∷ []) c c' end are = absurd (omega (arith, c'))
    go (x ∷ y ∷ z ∷ []) (x' ∷ y' ∷ []) c c' end are = absurd (omega (arith, c'))
    go (x ∷ y ∷ z ∷ []) (x' ∷ y' ∷ z' ∷ []) c c' end are = grow dims size most x y z x' y' z' by few far step end are
    go (x ∷ y ∷ z ∷ []) (x' ∷ y' ∷ z' ∷ w' ∷ more) c c' end are = absurd (omega (arith, c'))
    go (x ∷ y ∷ z ∷ w ∷ more) ys c c' end are = absurd (omega (arith, c))
