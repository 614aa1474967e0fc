-- The next run of numbers.
use Rattle.std.proofs.Common.{◌≡◌, ℕ, ◌+◌, ◌<◌, ◌≤◌, inl, inr, true, false, ◌==◌, List, [], ◌∷◌, ⊎_elim}
use Rattle.std.proofs.lemmas.Bool.{eq-eqb, eqb-true, or_cases, or_left, or_right, false_from_ne_true, false≢true}
use Rattle.smol_geom.specs.Moments.{Has}
use Rattle.smol_cells.specs.Next.{has_number}
use Rattle.smol_cells.specs.Placed.{counted}
use Rattle.smol_cells.proofs.Members.{counted_has, has_counted}

-- the list has a number exactly where it is a member
pub number_of_has : (xs : List ℕ) (n : ℕ) → Has xs n → has_number xs n ≡ true
number_of_has [] n there = absurd there
number_of_has (x ∷ xs) n (inl same) = or_left (x == n) (has_number xs n) (eq-eqb x n same)
number_of_has (x ∷ xs) n (inr there) = or_right (x == n) (has_number xs n) (number_of_has xs n there)

pub has_of_number : (xs : List ℕ) (n : ℕ) → has_number xs n ≡ true → Has xs n
has_of_number [] n e = absurd (false≢true e)
has_of_number (x ∷ xs) n e = ⊎_elim (λ (same : (x == n) ≡ true). inl (eqb-true x n same)) (λ (there : has_number xs n ≡ true). inr (has_of_number xs n there)) (or_cases (x == n) (has_number xs n) e)

-- the numbers of a run
pub number_in : (first count n : ℕ) → first ≤ n → n < first + count → has_number (counted first count) n ≡ true
number_in first count n above below = number_of_has (counted first count) n (has_counted first count n above below)

pub number_out : (first count n : ℕ) → (first ≤ n → n < first + count → ⊥) → has_number (counted first count) n ≡ false
number_out first count n out = false_from_ne_true (has_number (counted first count) n)
    (λ e. let h = counted_has first count n (has_of_number (counted first count) n e) in out h.0 h.1)
