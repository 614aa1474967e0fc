-- The pairs of molecules in another order.
use Rattle.std.proofs.Common.{◌≡◌, ◌+◌, ◌*◌, ◌&&◌, ◌||◌, ◌==◌, ◌-ℤ◌, ℕ, zero, suc, Bool, true, false, List, [], ◌∷◌, length, get_or, map, count_by, sum_by, unsigned_abs, ℤ, arith, refl, ap, ◌∙◌, ◌<◌, subst, if◌then◌else◌, IsPermutation, All}
use Rattle.std.proofs.lemmas.Int.{ints}
use Rattle.std.proofs.lemmas.List.Sorted.{All-permutation, IsPermutation-map, sum_by-IsPermutation}
use Rattle.std.proofs.lemmas.List.Sums.{sum_by-cons}
use Rattle.std.proofs.Math.ListN.{get_or-map}
use Rattle.smol_cells.specs.declared.grid.Grid.{Grid}
use Rattle.smol_cells.specs.Numbered.{boxes_of_place}
use Rattle.smol_cells.specs.Placed.{counted, indexes, place_at}
use Rattle.smol_geom.specs.Axes.{on_axis}
use Rattle.smol_geom.specs.Place.{square_of_distance}
use Rattle.smol_geom.specs.declared.place.Place.{Place}
use Rattle.smol_types.specs.declared.state.Mol.{Mol}
use Rattle.smol_stats.specs.Radial.{are_in_shell, is_in_shell, mol_at, pairs_of}
use Rattle.smol_stats.proofs.Pairs.{count_append, count_cons, count_map}

-- a sum over one number and another is the two sums
sum_both : {X : Type 0} (f g : X → ℕ) (xs : List X) → sum_by (λ x. f x + g x) xs ≡ sum_by f xs + sum_by g xs
sum_both f g [] = refl
sum_both f g (x ∷ xs) = omega (arith, sum_by-cons (λ x. f x + g x) x xs, sum_by-cons f x xs, sum_by-cons g x xs, sum_both f g xs)

sum_same : {X : Type 0} (f g : X → ℕ) (xs : List X) → ((x : X) → f x ≡ g x) → sum_by f xs ≡ sum_by g xs
sum_same f g [] same = refl
sum_same f g (x ∷ xs) same = omega (arith, sum_by-cons f x xs, sum_by-cons g x xs, same x, sum_same f g xs same)

-- all ordered pairs, those of a molecule with itself among them, are each unordered pair twice and each molecule with itself
ordered_pairs : (p : Mol → Mol → Bool) (mols : List Mol) → ((a b : Mol) → p a b ≡ p b a)
    → sum_by (λ (a : Mol). count_by (p a) mols) mols ≡ 2 * count_by (λ (pair : Mol × Mol). p pair.0 pair.1) (pairs_of mols) + count_by (λ (a : Mol). p a a) mols
ordered_pairs p [] turned = refl
ordered_pairs p (mol ∷ mols) turned =
    let q : Mol × Mol → Bool = λ (pair : Mol × Mol). p pair.0 pair.1 in
    let one : ℕ = count_by (p mol) mols in
    let self : ℕ = if p mol mol then 1 else 0 in
    let rest = ordered_pairs p mols turned in
    let first : count_by (p mol) (mol ∷ mols) ≡ self + one = count_cons (p mol) mol mols (p mol mol) refl in
    let whole = sum_by-cons (λ (a : Mol). count_by (p a) (mol ∷ mols)) mol mols in
    let split : sum_by (λ (a : Mol). count_by (p a) (mol ∷ mols)) mols ≡ one + sum_by (λ (a : Mol). count_by (p a) mols) mols =
    sum_same (λ (a : Mol). count_by (p a) (mol ∷ mols)) (λ (a : Mol). (if p mol a then 1 else 0) + count_by (p a) mols) mols (λ a. count_cons (p a) mol mols (p mol a) (turned a mol))
    ∙ sum_both (λ (a : Mol). if p mol a then 1 else 0) (λ (a : Mol). count_by (p a) mols) mols in
    let pairs : count_by q (pairs_of (mol ∷ mols)) ≡ one + count_by q (pairs_of mols) =
    count_append q (map (λ (other : Mol). (mol, other)) mols) (pairs_of mols) ∙ ap (λ n. n + count_by q (pairs_of mols)) (count_map q (λ (other : Mol). (mol, other)) mols) in
    let selves : count_by (λ (a : Mol). p a a) (mol ∷ mols) ≡ self + count_by (λ (a : Mol). p a a) mols = count_cons (λ (a : Mol). p a a) mol mols (p mol mol) refl in
    omega (arith, rest, first, whole, split, pairs, selves)

-- in another order as many pairs pass
pairs_permuted : (p : Mol → Mol → Bool) (mols others : List Mol) → ((a b : Mol) → p a b ≡ p b a) → IsPermutation mols others
    → count_by (λ (pair : Mol × Mol). p pair.0 pair.1) (pairs_of others) ≡ count_by (λ (pair : Mol × Mol). p pair.0 pair.1) (pairs_of mols)
pairs_permuted p mols others turned moved =
    let inner : sum_by (λ (a : Mol). count_by (p a) others) others ≡ sum_by (λ (a : Mol). count_by (p a) mols) others =
    sum_same (λ (a : Mol). count_by (p a) others) (λ (a : Mol). count_by (p a) mols) others (λ a. sum_by-IsPermutation (λ (b : Mol). if p a b then 1 else 0) mols others moved) in
    let outer = sum_by-IsPermutation (λ (a : Mol). count_by (p a) mols) mols others moved in
    let selves : count_by (λ (a : Mol). p a a) others ≡ count_by (λ (a : Mol). p a a) mols = sum_by-IsPermutation (λ (a : Mol). if p a a then 1 else 0) mols others moved in
    omega (arith, ordered_pairs p mols turned, ordered_pairs p others turned, inner, outer, selves)

either : (a b c d : Bool) → ((a && b) || (c && d)) ≡ ((d && c) || (b && a))
either true true true true = refl
either true true true false = refl
either true true false true = refl
either true true false false = refl
either true false true true = refl
either true false true false = refl
either true false false true = refl
either true false false false = refl
either false true true true = refl
either false true true false = refl
either false true false true = refl
either false true false false = refl
either false false true true = refl
either false false true false = refl
either false false false true = refl
either false false false false = refl

gap_turned : (x y : ℤ) → unsigned_abs (x -ℤ y) ≡ unsigned_abs (y -ℤ x)
gap_turned x y = omega (arith, ints)

square_turned : (a b : Place) → square_of_distance a b ≡ square_of_distance b a
square_turned a b =
    let x = gap_turned (on_axis a.0 0) (on_axis b.0 0) in
    let y = gap_turned (on_axis a.0 1) (on_axis b.0 1) in
    let z = gap_turned (on_axis a.0 2) (on_axis b.0 2) in
    (λ i. x i * x i + y i * y i + z i * z i)

turned_in_shell : (first second reach n k : ℕ) (a b : Mol) → are_in_shell first second reach n k a b ≡ are_in_shell first second reach n k b a
turned_in_shell first second reach n k a b =
    let pair = either (a.species == first) (b.species == second) (a.species == second) (b.species == first) in
    let far = square_turned a.place b.place in
    (λ i. pair i && is_in_shell reach n k (far i))

-- in another order as many pairs are in a shell
pub as_many_in_shell : (first second reach n k : ℕ) (mols others : List Mol) → IsPermutation mols others
    → count_by (λ (pair : Mol × Mol). are_in_shell first second reach n k pair.0 pair.1) (pairs_of others) ≡ count_by (λ (pair : Mol × Mol). are_in_shell first second reach n k pair.0 pair.1) (pairs_of mols)
as_many_in_shell first second reach n k mols others moved = pairs_permuted (are_in_shell first second reach n k) mols others (turned_in_shell first second reach n k) moved

all_there : (xs : List Mol) (all : List Mol) (first : ℕ) → ((j : ℕ) → j < length xs → mol_at all (first + j) ≡ mol_at xs j) → map (mol_at all) (counted first (length xs)) ≡ xs
all_there [] all first same = refl
all_there (x ∷ xs) all first same =
    let here : mol_at all first ≡ x = ap (mol_at all) (omega arith) ∙ same 0 (omega arith) in
    (λ i. here i ∷ all_there xs all (suc first) (λ j within. ap (mol_at all) (omega arith) ∙ same (suc j) (omega (arith, within))) i)

-- molecules at indexes in another order are the molecules in another order
pub moved_mols : (mols : List Mol) (order : List ℕ) → IsPermutation (indexes (length mols)) order → IsPermutation mols (map (mol_at mols) order)
moved_mols mols order moved =
    let all : map (mol_at mols) (indexes (length mols)) ≡ mols = all_there mols mols 0 (λ j within. ap (mol_at mols) (omega arith)) in
    subst (λ (l : List Mol). IsPermutation l (map (mol_at mols) order)) all (IsPermutation-map (mol_at mols) (indexes (length mols)) order moved)

counted_low : (first n k d : ℕ) → k < length (counted first n) → get_or (counted first n) k d < first + n
counted_low first zero k d there = absurd (omega (arith, there))
counted_low first (suc n) zero d there = omega arith
counted_low first (suc n) (suc k) d there =
    let below : get_or (counted (suc first) n) k d < suc first + n = counted_low (suc first) n k d (omega (arith, there)) in omega (arith, below)

-- indexes in another order are as low as the indexes
pub order_low : (n : ℕ) (order : List ℕ) → IsPermutation (indexes n) order → All (λ index. index < n) order
order_low n order moved = All-permutation (λ index. index < n) (indexes n) order moved (λ k d there. let below : get_or (indexes n) k d < 0 + n = counted_low 0 n k d there in omega (arith, below))

-- the boxes of places at indexes are those of the molecules there
pub boxes_in_order : (grid : Grid) (mols : List Mol) (order : List ℕ) → map (boxes_of_place grid) (map (place_at (map (λ (mol : Mol). mol.place) mols)) order) ≡ map (λ (mol : Mol). boxes_of_place grid mol.place) (map (mol_at mols) order)
boxes_in_order grid mols [] = refl
boxes_in_order grid mols (index ∷ order) =
    let nobody : Mol = record { serial = 0; species = 0; place = record { 0 = [] } } in
    let here : place_at (map (λ (mol : Mol). mol.place) mols) index ≡ (mol_at mols index).place = get_or-map (λ (mol : Mol). mol.place) mols index nobody in
    (λ i. boxes_of_place grid (here i) ∷ boxes_in_order grid mols order i)
