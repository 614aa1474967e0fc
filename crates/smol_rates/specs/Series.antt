-- e to the power of x by its series and by squaring, in whole numbers: one is 2^40 of them, and each quotient is rounded down.
use Rattle.std.specs.Prelude.{ℕ, zero, suc, ◌*◌, ◌/◌, List, [], ◌∷◌, sum_by}

-- one, in these units
abbrev pub unit : ℕ
unit = 1099511627776

-- the term of a number in the series of x: each is the one before it times x over its number, and the first is one
abbrev pub term : ℕ → ℕ → ℕ
term x zero = unit
term x (suc n) = term x n * x / (suc n * unit)

-- the numbers of the terms that are added
abbrev pub numbers : List ℕ
numbers = 0 ∷ 1 ∷ 2 ∷ 3 ∷ 4 ∷ 5 ∷ 6 ∷ 7 ∷ 8 ∷ 9 ∷ 10 ∷ 11 ∷ 12 ∷ 13 ∷ 14 ∷ 15 ∷ 16 ∷ []

-- the series of x up to its 16th power
unfoldable pub series : ℕ → ℕ
series x = sum_by (term x) numbers

-- a number times itself
abbrev pub squared : ℕ → ℕ
squared e = e * e / unit

-- a number squared so many times
abbrev pub squared_times : ℕ → ℕ → ℕ
squared_times zero e = e
squared_times (suc times) e = squared (squared_times times e)

-- e to the power of 32 times x
unfoldable pub exponential : ℕ → ℕ
exponential x = squared_times 5 (series x)
