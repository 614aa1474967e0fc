-- Members of lists that are made of other lists.
use Rattle.std.proofs.Common.{◌≡◌, ℕ, zero, suc, ◌+◌, ◌-◌, ◌<◌, ◌≤◌, ◌⊎◌, inl, inr, List, [], ◌∷◌, ◌++◌, length, map, get_or, refl, sym, ap, subst, ⊎_elim, arith}
use Rattle.std.specs.Prelude.{Contains, flat_map}
use Rattle.std.proofs.lemmas.Bool.{cases_eq}
use Rattle.smol_geom.specs.Moments.{Has}
use Rattle.smol_cells.specs.declared.boxes.Boxes.{Boxes}
use Rattle.smol_cells.specs.Placed.{counted}
use Rattle.smol_cells.specs.Ranges.{IsOn, first_on, last_on, numbers_on}

pub has_left : {X : Type 0} (xs ys : List X) (x : X) → Has xs x → Has (xs ++ ys) x
has_left [] ys x there = absurd there
has_left (k ∷ xs) ys x (inl same) = inl same
has_left (k ∷ xs) ys x (inr there) = inr (has_left xs ys x there)

pub has_right : {X : Type 0} (xs ys : List X) (x : X) → Has ys x → Has (xs ++ ys) x
has_right [] ys x there = there
has_right (k ∷ xs) ys x there = inr (has_right xs ys x there)

pub append_has : {X : Type 0} (xs ys : List X) (x : X) → Has (xs ++ ys) x → Has xs x ⊎ Has ys x
append_has [] ys x there = inr there
append_has (k ∷ xs) ys x (inl same) = inl (inl same)
append_has (k ∷ xs) ys x (inr there) = ⊎_elim (λ (h : Has xs x). inl (inr h)) (λ (h : Has ys x). inr h) (append_has xs ys x there)

pub has_map : {X Y : Type 0} (f : X → Y) (xs : List X) (x : X) → Has xs x → Has (map f xs) (f x)
has_map f [] x there = absurd there
has_map f (k ∷ xs) x (inl same) = inl (ap f same)
has_map f (k ∷ xs) x (inr there) = inr (has_map f xs x there)

pub map_has : {X Y : Type 0} (f : X → Y) (xs : List X) (y : Y) → Has (map f xs) y → (x : X) × Has xs x × (f x ≡ y)
map_has f [] y there = absurd there
map_has f (k ∷ xs) y (inl same) = (k, inl refl, same)
map_has f (k ∷ xs) y (inr there) = let h = map_has f xs y there in (h.0, inr h.1, h.2)

pub has_flat : {X Y : Type 0} (f : X → List Y) (xs : List X) (x : X) (y : Y) → Has xs x → Has (f x) y → Has (flat_map f xs) y
has_flat f [] x y among there = absurd among
has_flat f (k ∷ xs) x y (inl same) there = has_left (f k) (flat_map f xs) y (subst (λ j. Has (f j) y) (sym same) there)
has_flat f (k ∷ xs) x y (inr among) there = has_right (f k) (flat_map f xs) y (has_flat f xs x y among there)

pub flat_has : {X Y : Type 0} (f : X → List Y) (xs : List X) (y : Y) → Has (flat_map f xs) y → (x : X) × Has xs x × Has (f x) y
flat_has f [] y there = absurd there
flat_has f (k ∷ xs) y there = ⊎_elim
    (λ (h : Has (f k) y). (k, inl refl, h))
    (λ (h : Has (flat_map f xs) y). let more = flat_has f xs y h in (more.0, inr more.1, more.2))
    (append_has (f k) (flat_map f xs) y there)

pub has_counted : (first count n : ℕ) → first ≤ n → n < first + count → Has (counted first count) n
has_counted first zero n above below = absurd (omega arith)
has_counted first (suc count) n above below = ⊎_elim
    (λ (same : first ≡ n). inl same)
    (λ (other : first ≡ n → ⊥). inr (has_counted (suc first) count n (omega arith) (omega arith)))
    (cases_eq first n)

pub counted_has : (first count n : ℕ) → Has (counted first count) n → (first ≤ n) × (n < first + count)
counted_has first zero n there = absurd there
counted_has first (suc count) n (inl same) = (omega arith, omega arith)
counted_has first (suc count) n (inr there) = let h = counted_has (suc first) count n there in (omega (arith, h.0), omega (arith, h.1))

-- the numbers of boxes on an axis are those from the first to the last one
pub has_numbers : (boxes : Boxes) (axis n : ℕ) → IsOn boxes axis n → Has (numbers_on boxes axis) n
has_numbers boxes axis n on = has_counted (first_on boxes axis) (last_on boxes axis + 1 - first_on boxes axis) n on.0 (omega (arith, on.0, on.1))

pub numbers_have : (boxes : Boxes) (axis n : ℕ) → Has (numbers_on boxes axis) n → IsOn boxes axis n
numbers_have boxes axis n there =
    let h = counted_has (first_on boxes axis) (last_on boxes axis + 1 - first_on boxes axis) n there in
    (h.0, omega (arith, h.0, h.1))

-- `Has` and `Contains` say one thing
pub has_of_contains : {X : Type 0} (xs : List X) (x : X) → Contains xs x → Has xs x
has_of_contains {X} xs x (k, inside, is) = go xs k inside is
  where
    go : (ys : List X) (j : ℕ) → j < length ys → get_or ys j x ≡ x → Has ys x
    go [] j within same = absurd (omega arith)
    go (y ∷ ys) zero within same = inl same
    go (y ∷ ys) (suc j) within same = inr (go ys j (omega arith) same)

pub contains_of_has : {X : Type 0} (xs : List X) (x : X) → Has xs x → Contains xs x
contains_of_has [] x there = absurd there
contains_of_has (y ∷ ys) x (inl same) = (0, omega arith, same)
contains_of_has (y ∷ ys) x (inr there) = let h = contains_of_has ys x there in (suc h.0, omega (arith, h.1), h.2)
