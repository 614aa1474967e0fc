-- What runs give, one list behind another.
use Rattle.std.proofs.Common.{◌≡◌, ℕ, ◌+◌, List, [], ◌∷◌, ◌++◌, length, arith}
use Rattle.smol_sweep.specs.Seeds.{AreGiven, seed_at}

pub given_joined : {Out : Type 0} (gives : ℕ → Out → Type 0) (first number : ℕ) (xs ys : List Out)
    → AreGiven gives first number xs → AreGiven gives first (number + length xs) ys → AreGiven gives first number (xs ++ ys)
given_joined gives first number [] ys one other = let e : number + 0 ≡ number = omega arith in rw e at other
given_joined gives first number (x ∷ xs) ys one other =
    let e : number + length (x ∷ xs) ≡ (number + 1) + length xs = omega arith in
    (one.0, given_joined gives first (number + 1) xs ys one.1 (rw e at other))

pub given_more : {Out : Type 0} (gives : ℕ → Out → Type 0) (first number : ℕ) (xs : List Out) (x : Out)
    → AreGiven gives first number xs → gives (seed_at first (number + length xs)) x → AreGiven gives first number (xs ++ x ∷ [])
given_more gives first number xs x one last = given_joined gives first number xs (x ∷ []) one (last, tt)

-- what the runs of one half give, and behind it what those of the other give
pub given_both : {Out : Type 0} (gives : ℕ → Out → Type 0) (first number middle : ℕ) (front back outs : List Out)
    → outs ≡ front ++ back → middle ≡ number + length front → AreGiven gives first number front → AreGiven gives first middle back
    → AreGiven gives first number outs
given_both gives first number middle front back outs joined behind one other =
    rw joined (given_joined gives first number front back one (rw behind at other))
