-- Rising lists of numbers with the same members are equal.
use Rattle.std.proofs.Common.{◌≡◌, ◌⊎◌, ℕ, suc, ◌+◌, ◌<◌, ◌≤◌, List, [], ◌∷◌, ◌++◌, length, get_or, All, refl, sym, inl, inr, ⊎_elim, arith, add-one}
use Rattle.std.specs.Prelude.{Contains}
use Rattle.std.specs.List.Sorted.{IsStrictlyIncreasing}
use Rattle.std.proofs.lemmas.Bool.{cases_eq}
use Rattle.std.proofs.lemmas.List.Elements.{All-nil, All-cons, All-head, All-tail, All-weaker, All-contains}
use Rattle.std.proofs.lemmas.Map.Made.{Contains-tail}
use Rattle.smol_pairs.specs.Rising.{Rises}

pub rises_lower : (low lower next : ℕ) (xs : List ℕ) → lower ≤ low → Rises low next xs → Rises lower next xs
rises_lower low lower next [] below up = omega arith
rises_lower low lower next (x ∷ xs) below up = (omega (arith, up.0), up.1)

pub rises_within : (low lower next later : ℕ) (xs : List ℕ) → lower ≤ low → next ≤ later → Rises low next xs → Rises lower later xs
rises_within low lower next later [] below above up = omega arith
rises_within low lower next later (x ∷ xs) below above up = (omega (arith, up.0), rises_within (x + 1) (x + 1) next later xs (omega arith) above up.1)

pub rises_append : (low middle next : ℕ) (xs ys : List ℕ) → Rises low middle xs → Rises middle next ys → Rises low next (xs ++ ys)
rises_append low middle next [] ys first second = rises_lower middle low next ys first second
rises_append low middle next (x ∷ xs) ys first second = (first.0, rises_append (x + 1) middle next xs ys first.1 second)

pub rises_above : (low next : ℕ) (xs : List ℕ) → Rises low next xs → All (λ x. low ≤ x) xs
rises_above low next [] up = All-nil (λ x. low ≤ x)
rises_above low next (x ∷ xs) up = All-cons (λ y. low ≤ y) x xs up.0
    (All-weaker (λ y. x + 1 ≤ y) (λ y. low ≤ y) (λ y above. omega (arith, above, up.0)) xs (rises_above (x + 1) next xs up.1))

contains_none : (x : ℕ) → Contains [] x → ⊥
contains_none x has = omega (arith, has.1)

contains_cases : (x : ℕ) (xs : List ℕ) (y : ℕ) → Contains (x ∷ xs) y → (x ≡ y) ⊎ Contains xs y
contains_cases x xs y has = ⊎_elim (λ (same : x ≡ y). inl same) (λ (other : x ≡ y → ⊥). inr (Contains-tail x xs y other has)) (cases_eq x y)

-- the first of one rising list is no lower than the first of the other, if it is a member of it
no_lower : (next : ℕ) (x y : ℕ) (ys : List ℕ) → Rises (y + 1) next ys → Contains (y ∷ ys) x → y ≤ x
no_lower next x y ys up has = ⊎_elim
    (λ (same : y ≡ x). omega arith)
    (λ (later : Contains ys x). let above = All-contains (λ z. y + 1 ≤ z) ys x (rises_above (y + 1) next ys up) later in omega (arith, above))
    (contains_cases y ys x has)

-- the rest of a list has what the list has, but for the first
rest_has : (next : ℕ) (x y : ℕ) (xs ys : List ℕ) → x ≡ y → Rises (x + 1) next xs → All (Contains (y ∷ ys)) xs → All (Contains ys) xs
rest_has next x y xs ys same up has k d within =
    let above : x + 1 ≤ get_or xs k d = rises_above (x + 1) next xs up k d within in
    let other : y ≡ get_or xs k d → ⊥ = λ e. omega arith in
    Contains-tail y ys (get_or xs k d) other (has k d within)

pub same_rising : (low next lower later : ℕ) (xs ys : List ℕ) → Rises low next xs → Rises lower later ys → All (Contains ys) xs → All (Contains xs) ys → xs ≡ ys
same_rising low next lower later [] [] up down has had = refl
same_rising low next lower later [] (y ∷ ys) up down has had = absurd (contains_none y (All-head (Contains []) y ys had))
same_rising low next lower later (x ∷ xs) [] up down has had = absurd (contains_none x (All-head (Contains []) x xs has))
same_rising low next lower later (x ∷ xs) (y ∷ ys) up down has had =
    let first = no_lower later x y ys down.1 (All-head (Contains (y ∷ ys)) x xs has) in
    let second = no_lower next y x xs up.1 (All-head (Contains (x ∷ xs)) y ys had) in
    let same : x ≡ y = omega (arith, first, second) in
    let rest = same_rising (x + 1) next (y + 1) later xs ys up.1 down.1
    (rest_has next x y xs ys same up.1 (All-tail (Contains (y ∷ ys)) x xs has))
    (rest_has later y x ys xs (sym same) down.1 (All-tail (Contains (x ∷ xs)) y ys had)) in
    (λ i. same i ∷ rest i)

increasing_rest : (x : ℕ) (xs : List ℕ) → IsStrictlyIncreasing (x ∷ xs) → IsStrictlyIncreasing xs
increasing_rest x xs up k within =
    let next : k + 1 < length xs = within in
    let step = up (suc k) (omega arith) in
    rw (add-one k) (rw (add-one (suc k)) at step)

-- a list of which each number is below the next rises
pub rises_increasing : (low : ℕ) (xs : List ℕ) → All (λ x. low ≤ x) xs → IsStrictlyIncreasing xs → (next : ℕ) × Rises low next xs
rises_increasing low [] above up = (low, omega arith)
rises_increasing low (x ∷ xs) above up =
    let rest = rises_increasing (x + 1) xs (after x xs up) (increasing_rest x xs up) in
    (rest.0, (All-head (λ y. low ≤ y) x xs above, rest.1))
  where
    after : (x : ℕ) (xs : List ℕ) → IsStrictlyIncreasing (x ∷ xs) → All (λ y. x + 1 ≤ y) xs
    after x [] up = All-nil (λ y. x + 1 ≤ y)
    after x (y ∷ ys) up =
        let step : x < y = up 0 (omega arith) in
        All-cons (λ z. x + 1 ≤ z) y ys (omega arith)
        (All-weaker (λ z. y + 1 ≤ z) (λ z. x + 1 ≤ z) (λ z more. omega (arith, more, step)) ys (after y ys (increasing_rest x (y ∷ ys) up)))
