-- Sums over the molecules that count, and one more.
use Rattle.std.proofs.Common.{◌≡◌, ◌≤◌, ◌<◌, ◌+◌, ◌*◌, ◌^◌, ℕ, Bool, true, false, if◌then◌else◌, List, [], ◌∷◌, ◌++◌, length, get_or, take, filter, fold, sum_by, ℤ, pos, negsuc, ◌+ℤ◌, unsigned_abs, FitsSigned, to_z, of_z, arith, refl, sym, ap, ◌∙◌}
use Rattle.std.proofs.lemmas.Int.{ints, fits_signed_from_abs, to_z-of_z}
use Rattle.std.proofs.lemmas.List.{append-nil}
use Rattle.std.proofs.lemmas.List.Elements.{filter_more}
use Rattle.std.proofs.lemmas.List.Sums.{fold-append, sum_by_push}
use Rattle.std.proofs.Math.Nat.{mul-le-mul}
use mir.Syntax.{w64, w128}
use Rattle.smol_types.specs.declared.state.Mol.{Mol}
use Rattle.smol_stats.specs.Sums.{above, share_of, square, squares_on, sum_on, thousandths}
use Rattle.smol_stats.specs.Tally.{is_counted}

pub thousandths_small : (z : ℤ) → unsigned_abs z ≤ 2 ^ 58 → unsigned_abs (thousandths z) ≤ 2 ^ 49
thousandths_small (pos a) small = omega (arith, small)
thousandths_small (negsuc a) small = omega (arith, small)

-- the things that pass, with one more
passed : {X : Type 0} (p : X → Bool) (xs : List X) (i : ℕ) (d : X) (is : Bool) → i < length xs → p (get_or xs i d) ≡ is → filter p (take (i + 1) xs) ≡ filter p (take i xs) ++ (if is then get_or xs i d ∷ [] else [])
passed p xs i d is within same = filter_more p xs i d within ∙ ap (λ b. filter p (take i xs) ++ (if b then get_or xs i d ∷ [] else [])) same

sum_step : {X : Type 0} (p : X → Bool) (f : X → ℤ) (xs : List X) (i : ℕ) (d : X) (is : Bool) → i < length xs → p (get_or xs i d) ≡ is
    → fold (λ (s : ℤ) (x : X). s +ℤ f x) (pos 0) (filter p (take (i + 1) xs)) ≡ fold (λ (s : ℤ) (x : X). s +ℤ f x) (pos 0) (filter p (take i xs)) +ℤ (if is then f (get_or xs i d) else pos 0)
sum_step {X} p f xs i d true within same =
    ap (λ (l : List X). fold (λ (s : ℤ) (x : X). s +ℤ f x) (pos 0) l) (passed p xs i d true within same)
    ∙ fold-append (λ (s : ℤ) (x : X). s +ℤ f x) (pos 0) (filter p (take i xs)) (get_or xs i d ∷ [])
sum_step {X} p f xs i d false within same =
    let total = fold (λ (s : ℤ) (x : X). s +ℤ f x) (pos 0) (filter p (take i xs)) in
    let none : total ≡ total +ℤ pos 0 = omega (arith, ints) in
    ap (λ (l : List X). fold (λ (s : ℤ) (x : X). s +ℤ f x) (pos 0) l) (passed p xs i d false within same ∙ append-nil (filter p (take i xs))) ∙ none

pub sum_more : (who : List Bool) (from : ℤ) (axis : ℕ) (mols : List Mol) (i : ℕ) (d : Mol) → i < length mols → sum_on who from axis (take (i + 1) mols) ≡ sum_on who from axis (take i mols) +ℤ share_of who from axis (get_or mols i d)
sum_more who from axis mols i d within = sum_step (is_counted who) (above from axis) mols i d (is_counted who (get_or mols i d)) within refl

squares_step : {X : Type 0} (p : X → Bool) (f : X → ℤ) (xs : List X) (i : ℕ) (d : X) (is : Bool) → i < length xs → p (get_or xs i d) ≡ is
    → sum_by (λ (x : X). square (f x)) (filter p (take (i + 1) xs)) ≡ sum_by (λ (x : X). square (f x)) (filter p (take i xs)) + square (if is then f (get_or xs i d) else pos 0)
squares_step {X} p f xs i d true within same =
    ap (λ (l : List X). sum_by (λ (x : X). square (f x)) l) (passed p xs i d true within same)
    ∙ sum_by_push (λ (x : X). square (f x)) (filter p (take i xs)) (get_or xs i d)
squares_step {X} p f xs i d false within same =
    let total = sum_by (λ (x : X). square (f x)) (filter p (take i xs)) in
    let none : total ≡ total + 0 * 0 = omega arith in
    ap (λ (l : List X). sum_by (λ (x : X). square (f x)) l) (passed p xs i d false within same ∙ append-nil (filter p (take i xs))) ∙ none

pub squares_more : (who : List Bool) (from : ℤ) (axis : ℕ) (mols : List Mol) (i : ℕ) (d : Mol) → i < length mols → squares_on who from axis (take (i + 1) mols) ≡ squares_on who from axis (take i mols) + square (share_of who from axis (get_or mols i d))
squares_more who from axis mols i d within = squares_step (is_counted who) (above from axis) mols i d (is_counted who (get_or mols i d)) within refl

-- a sum with a small share more is small
pub sum_small : (sum share : ℤ) (i : ℕ) → unsigned_abs sum ≤ i * 2 ^ 49 → unsigned_abs share ≤ 2 ^ 49 → unsigned_abs (sum +ℤ share) ≤ (i + 1) * 2 ^ 49
sum_small sum share i few small = omega (arith, ints)

pub square_small : (size : ℕ) → size ≤ 2 ^ 49 → size * size ≤ 2 ^ 98
square_small size small = let most : size * size ≤ 2 ^ 49 * 2 ^ 49 = mul-le-mul small small in omega (arith, most)

pub sum_next : (who : List Bool) (from : ℤ) (axis : ℕ) (mols : List Mol) (i : ℕ) (d : Mol) (sum share : ℤ) → i < length mols → sum ≡ sum_on who from axis (take i mols) → share ≡ share_of who from axis (get_or mols i d) → sum +ℤ share ≡ sum_on who from axis (take (i + 1) mols)
sum_next who from axis mols i d sum share within sum_is share_is = rw (sum_is, share_is) (sym (sum_more who from axis mols i d within))

pub squares_next : (who : List Bool) (from : ℤ) (axis : ℕ) (mols : List Mol) (i : ℕ) (d : Mol) (sum size : ℕ) → i < length mols → sum ≡ squares_on who from axis (take i mols) → size ≡ unsigned_abs (share_of who from axis (get_or mols i d)) → sum + size * size ≡ squares_on who from axis (take (i + 1) mols)
squares_next who from axis mols i d sum size within sum_is size_is = rw (sum_is, size_is) (sym (squares_more who from axis mols i d within))

-- few shares fit 128 bits
pub added_is : (sum share : ℤ) (i : ℕ) → unsigned_abs sum ≤ i * 2 ^ 49 → i < 1000000 → unsigned_abs share ≤ 2 ^ 49 → to_z w128 (of_z w128 (sum +ℤ to_z w128 (of_z w128 share))) ≡ sum +ℤ share
added_is sum share i few within small =
    let share_fits : FitsSigned w128 share = fits_signed_from_abs w128 share (omega (arith, small)) in
    let more : unsigned_abs (sum +ℤ share) ≤ (i + 1) * 2 ^ 49 = sum_small sum share i few small in
    let fits : FitsSigned w128 (sum +ℤ share) = fits_signed_from_abs w128 (sum +ℤ share) (omega (arith, more, within)) in
    rw (to_z-of_z w128 share share_fits) (to_z-of_z w128 (sum +ℤ share) fits)

pub as_it_is : (z : ℤ) → unsigned_abs z ≤ 10 ^ 12 → to_z w64 (of_z w64 z) ≡ z
as_it_is z small = to_z-of_z w64 z (fits_signed_from_abs w64 z (omega (arith, small)))
