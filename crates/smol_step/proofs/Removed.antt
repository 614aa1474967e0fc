-- Molecules that leave the list.
use Rattle.std.proofs.Common.{◌≡◌, Bool, true, false, cond, List, [], ◌∷◌, filter, map, refl, ap}
use Rattle.std.specs.List.{items_where_true}

-- picking by a test is filtering by it
pub picked-filter : {X : Type 0} (test : X → Bool) (xs : List X) → items_where_true (map test xs) xs ≡ filter test xs
picked-filter test [] = refl
picked-filter {X} test (x ∷ xs) = first (test x) (picked-filter test xs)
  where
    first : (here : Bool) → items_where_true (map test xs) xs ≡ filter test xs
        → items_where_true (here ∷ map test xs) (x ∷ xs) ≡ cond here (x ∷ filter test xs) (filter test xs)
    first true same = ap (λ (ys : List X). x ∷ ys) same
    first false same = same
