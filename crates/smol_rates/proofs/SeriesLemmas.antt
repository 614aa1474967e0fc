-- The series and its squares grow with x, and fit the words that the code counts in.
use Rattle.std.proofs.Common.{◌≡◌, ℕ, zero, suc, ◌+◌, ◌*◌, ◌/◌, ◌≤◌, ◌<◌, List, [], ◌∷◌, sum_by, refl, arith}
use Rattle.std.proofs.lemmas.List.Sums.{sum_by-cons}
use Rattle.std.proofs.lemmas.Nat.{mul-le, le-div}
use Rattle.std.proofs.Math.Nat.{div-le_of_le-mul, div-mul-le_self}
use Rattle.smol_rates.specs.Series.{unit, term, numbers, series, squared, squared_times, exponential}

-- a greater number has no smaller quotient
pub div-le : (m n k : ℕ) → 0 < k → m ≤ n → m / k ≤ n / k
div-le m n k some less =
    let back : m / k * k ≤ m = div-mul-le_self m k in
    le-div (m / k) n k some (omega arith)

pub term_grows : (x y n : ℕ) → x ≤ y → term x n ≤ term y n
term_grows x y zero less = omega arith
term_grows x y (suc n) less =
    let before = term_grows x y n less in
    div-le (term x n * x) (term y n * y) (suc n * unit) (omega arith) (mul-le (term x n) x (term y n) y before less)

sum_by-grows : (f g : ℕ → ℕ) (ns : List ℕ) → ((n : ℕ) → f n ≤ g n) → sum_by f ns ≤ sum_by g ns
sum_by-grows f g [] less = omega arith
sum_by-grows f g (n ∷ ns) less =
    let here = less n in
    let rest = sum_by-grows f g ns less in
    omega (arith, here, rest, sum_by-cons f n ns, sum_by-cons g n ns)

pub series_grows : (x y : ℕ) → x ≤ y → series x ≤ series y
unfolding series
series_grows x y less = sum_by-grows (term x) (term y) numbers (λ n. term_grows x y n less)

squared-grows : (e f : ℕ) → e ≤ f → squared e ≤ squared f
squared-grows e f less = div-le (e * e) (f * f) unit (omega arith) (mul-le e e f f less less)

pub squared_times-grows : (times e f : ℕ) → e ≤ f → squared_times times e ≤ squared_times times f
squared_times-grows zero e f less = less
squared_times-grows (suc times) e f less = squared-grows (squared_times times e) (squared_times times f) (squared_times-grows times e f less)

pub exponential_grows : (x y : ℕ) → x ≤ y → exponential x ≤ exponential y
unfolding exponential
exponential_grows x y less = squared_times-grows 5 (series x) (series y) (series_grows x y less)

-- a term is no more than one, where x isn't
pub term_small : (x n : ℕ) → x ≤ unit → term x n ≤ unit
term_small x zero small = omega arith
term_small x (suc n) small =
    let before = term_small x n small in
    let product : term x n * x ≤ unit * unit = mul-le (term x n) x unit unit before small in
    div-le_of_le-mul (suc n * unit) (omega arith)

pub term-times : (x n : ℕ) → x ≤ unit → term x n * x ≤ unit * unit
term-times x n small = mul-le (term x n) x unit unit (term_small x n small) small

-- the first so many terms behind the first one, together with it
pub sum_up : (ℕ → ℕ) → ℕ → ℕ
sum_up f zero = f 0
sum_up f (suc n) = sum_up f n + f (suc n)

pub sum_up-start : (f : ℕ → ℕ) → sum_up f 0 ≡ f 0
unfolding sum_up
sum_up-start f = refl

pub sum_up-more : (f : ℕ → ℕ) (n : ℕ) → sum_up f (suc n) ≡ sum_up f n + f (suc n)
unfolding sum_up
sum_up-more f n = refl

pub sum_up-le : (f : ℕ → ℕ) (n most : ℕ) → ((k : ℕ) → f k ≤ most) → sum_up f n ≤ (n + 1) * most
unfolding sum_up
sum_up-le f zero most small = let here = small 0 in omega (arith, here)
sum_up-le f (suc n) most small = let before = sum_up-le f n most small in let here = small (suc n) in omega (arith, before, here)

sum_up-all : (f : ℕ → ℕ) → sum_up f 16 ≡ sum_by f numbers
unfolding sum_up
sum_up-all f = simp (sum_by-cons f) (omega arith)

sum_up-first : (f : ℕ → ℕ) (n : ℕ) → f 0 ≤ sum_up f n
unfolding sum_up
sum_up-first f zero = omega arith
sum_up-first f (suc n) = let before = sum_up-first f n in omega (arith, before)

pub series_is : (x : ℕ) → sum_up (term x) 16 ≡ series x
unfolding series
series_is x = sum_up-all (term x)

-- one is no more than the series, nor than its squares
first_some : (f : ℕ → ℕ) → unit ≤ f 0 → unit ≤ sum_by f numbers
first_some f some = let all = sum_up-all f in let least = sum_up-first f 16 in omega (arith, all, least)

series_some : (x : ℕ) → unit ≤ series x
unfolding series
series_some x = first_some (term x) (omega arith)

squared_some : (e : ℕ) → unit ≤ e → unit ≤ squared e
squared_some e some =
    let product : unit * unit ≤ e * e = mul-le unit unit e e some some in
    le-div unit (e * e) unit (omega arith) product

squared_times_some : (times e : ℕ) → unit ≤ e → unit ≤ squared_times times e
squared_times_some zero e some = some
squared_times_some (suc times) e some = squared_some (squared_times times e) (squared_times_some times e some)

pub exponential_some : (x : ℕ) → unit ≤ exponential x
unfolding exponential
exponential_some x = squared_times_some 5 (series x) (series_some x)

-- four squares of the greatest series fit 64 bits
top_squares : (times : ℕ) → times < 5 → squared_times times (series unit) ≤ 18446744073709551615
unfolding series
top_squares zero few = omega arith
top_squares (suc zero) few = omega arith
top_squares (suc (suc zero)) few = omega arith
top_squares (suc (suc (suc zero))) few = omega arith
top_squares (suc (suc (suc (suc zero)))) few = omega arith
top_squares (suc (suc (suc (suc (suc more))))) few = absurd (omega arith)

pub squares_fit : (times e : ℕ) → times < 5 → e ≤ series unit → squared_times times e ≤ 18446744073709551615
squares_fit times e few small =
    let grown = squared_times-grows times e (series unit) small in
    let fits = top_squares times few in
    omega (arith, grown, fits)

-- and so does the square of each
pub square_fits : (times e : ℕ) → times < 5 → e ≤ series unit → squared_times times e * squared_times times e < 340282366920938463463374607431768211456
square_fits times e few small =
    let fits = squares_fit times e few small in
    let product = mul-le (squared_times times e) (squared_times times e) 18446744073709551615 18446744073709551615 fits fits in
    omega (arith, product)

pub exponential_fits : (x : ℕ) → x ≤ unit → exponential x ≤ 309485009821345068724781056
unfolding exponential
exponential_fits x small =
    let product = square_fits 4 (series x) (omega arith) (series_grows x unit small) in
    omega (arith, product)
