-- Places that are too far apart on one axis are too far apart.
use Rattle.std.proofs.Common.{⊎_elim, ◌≡◌, ℕ, ◌+◌, ◌*◌, ◌<◌, ◌≤◌, false, ◌&&◌, arith}
use Rattle.std.specs.Prelude.{nat_le}
use Rattle.std.proofs.lemmas.Bool.{and_cases, lt-leb, leb-false}
use Rattle.std.proofs.lemmas.Nat.{mul-le}
use Rattle.smol_geom.specs.declared.place.Place.{Place}
use Rattle.smol_geom.specs.Place.{gap, square_of_distance}
use Rattle.smol_pairs.specs.Near.{are_within_on}

square_more : (far most : ℕ) → most < far → most * most < far * far
square_more far most more =
    let grown = mul-le (most + 1) (most + 1) far far (omega arith) (omega arith) in
    let spread : (most + 1) * (most + 1) ≡ most * most + most + most + 1 = omega arith in
    omega arith

-- the squares on the other axes only add to the distance
far_there : (most far sum : ℕ) → nat_le far most ≡ false → far * far ≤ sum → nat_le sum (most * most) ≡ false
far_there most far sum apart within =
    let more = square_more far most (leb-false far most apart) in
    lt-leb sum (most * most) (omega arith)

pub too_far : (most : ℕ) (a b : Place) → (are_within_on most a b 0 && (are_within_on most a b 1 && are_within_on most a b 2)) ≡ false
    → nat_le (square_of_distance a b) (most * most) ≡ false
too_far most a b apart =
    ⊎_elim
    (λ x. far_there most (gap a b 0) (square_of_distance a b) x (omega arith))
    (λ rest. ⊎_elim
    (λ y. far_there most (gap a b 1) (square_of_distance a b) y (omega arith))
    (λ z. far_there most (gap a b 2) (square_of_distance a b) z (omega arith))
    (and_cases (are_within_on most a b 1) (are_within_on most a b 2) rest))
    (and_cases (are_within_on most a b 0) (are_within_on most a b 1 && are_within_on most a b 2) apart)
