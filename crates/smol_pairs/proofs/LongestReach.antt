-- What is beyond the longest reach is beyond the reach of each species.
use Rattle.std.proofs.Common.{◌≡◌, ◌⊎◌, inl, inr, ⊎_elim, ℕ, zero, suc, ◌<◌, ◌≤◌, true, ◌&&◌, List, [], ◌∷◌, length, get_or, Option, None, Some, subst, ◌∙◌, arith, unsigned_abs}
use Rattle.std.specs.Prelude.{ℤ, ◌-ℤ◌, nat_le, not}
use Rattle.std.proofs.lemmas.Int.{ints}
use Rattle.std.proofs.lemmas.Bool.{cases_lt}
use Rattle.std.proofs.lemmas.Bool.Decides.{nat_tests}
use Rattle.smol_geom.specs.declared.place.Place.{Place}
use Rattle.smol_geom.specs.Axes.{on_axis}
use Rattle.smol_geom.specs.Place.{gap}
use Rattle.smol_types.specs.declared.draft.Draft.{Draft}
use Rattle.smol_pairs.specs.Reach.{is_out_of_reach, longest_of, reach_of, reaches_of}
use Rattle.smol_pairs.proofs.Reaching.{IsBeyond, beyond_each, reach_at, reach_count}

beyond_all : (reaches : List (Option ℕ)) (i : ℕ) (a b : Place) → i < length reaches → IsBeyond (longest_of reaches) a b → IsBeyond (get_or reaches i None) a b
beyond_all [] i a b inside out = absurd (omega arith)
beyond_all (reach ∷ reaches) zero a b inside out = (beyond_each reach (longest_of reaches) a b out).0
beyond_all (reach ∷ reaches) (suc i) a b inside out = beyond_all reaches i a b (omega arith) (beyond_each reach (longest_of reaches) a b out).1

pub beyond_longest : (draft : Draft) (species : ℕ) (a b : Place) → species < length draft.species → IsBeyond (longest_of (reaches_of draft)) a b
    → IsBeyond (reach_of species draft.reactions) a b
beyond_longest draft species a b there out =
    let inside : species < length (reaches_of draft) = omega (arith, reach_count draft, there) in
    subst (λ (reach : Option ℕ). IsBeyond reach a b) (reach_at draft species None there) (beyond_all (reaches_of draft) species a b inside out)

apart_turned : (x y : ℤ) → unsigned_abs (x -ℤ y) ≡ unsigned_abs (y -ℤ x)
apart_turned x y = omega (arith, ints)

gap_turned : (a b : Place) (axis : ℕ) → gap a b axis ≡ gap b a axis
gap_turned a b axis = apart_turned (on_axis a.0 axis) (on_axis b.0 axis)

pub beyond_turned : (reach : Option ℕ) (a b : Place) → IsBeyond reach a b → IsBeyond reach b a
beyond_turned None a b out = tt
beyond_turned (Some reach) a b out =
    (λ i. not (nat_le (gap_turned b a 0 i) reach && (nat_le (gap_turned b a 1 i) reach && nat_le (gap_turned b a 2 i) reach))) ∙ out

gap_cases : (x y z most : ℕ) → (not (nat_le x most && (nat_le y most && nat_le z most)) ≡ true) ⊎ ((x ≤ most) × (y ≤ most) × (z ≤ most))
gap_cases x y z most =
    ⊎_elim
    (λ (far : most < x). inl (far_x far))
    (λ (near_x : x ≤ most). ⊎_elim
    (λ (far : most < y). inl (far_y far))
    (λ (near_y : y ≤ most). ⊎_elim
    (λ (far : most < z). inl (far_z far))
    (λ (near_z : z ≤ most). inr (near_x, near_y, near_z))
    (cases_lt most z))
    (cases_lt most y))
    (cases_lt most x)
  where
    far_x : most < x → not (nat_le x most && (nat_le y most && nat_le z most)) ≡ true
    far_x far = grind (arith, nat_tests)

    far_y : most < y → not (nat_le x most && (nat_le y most && nat_le z most)) ≡ true
    far_y far = grind (arith, nat_tests)

    far_z : most < z → not (nat_le x most && (nat_le y most && nat_le z most)) ≡ true
    far_z far = grind (arith, nat_tests)

-- two places are out of reach of each other, or near each other on each axis
pub reach_cases : (reach : ℕ) (a b : Place) → (is_out_of_reach reach a b ≡ true) ⊎ ((gap a b 0 ≤ reach) × (gap a b 1 ≤ reach) × (gap a b 2 ≤ reach))
reach_cases reach a b = gap_cases (gap a b 0) (gap a b 1) (gap a b 2) reach
