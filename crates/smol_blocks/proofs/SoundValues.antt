-- What the test of an order tells, and what is found in a list that more follows.
use Rattle.std.proofs.Common.{◌≡◌, ℕ, zero, suc, ◌+◌, ◌<◌, nat_lt, true, List, [], ◌∷◌, ◌++◌, length, IsSomeAnd, slice_get, arith, subst}
use Rattle.std.proofs.lemmas.Bool.Decides.{Decides-ltb}

-- what the test of an order tells
pub is_below : (a b : ℕ) → nat_lt a b ≡ true → a < b
is_below a b is = (Decides-ltb a b).0 is

-- what is found in a list is found with more behind it
pub found_before : {X : Type 0} (P : X → Type 0) (first more : List X) (number : ℕ) → IsSomeAnd (slice_get first number) P → IsSomeAnd (slice_get (first ++ more) number) P
found_before P [] more number found = absurd found
found_before P (x ∷ first) more zero found = found
found_before P (x ∷ first) more (suc number) found = found_before P first more number found

-- what is found in a list is found that much later behind others
pub found_behind : {X : Type 0} (P : X → Type 0) (first more : List X) (number : ℕ) → IsSomeAnd (slice_get more number) P → IsSomeAnd (slice_get (first ++ more) (length first + number)) P
found_behind P [] more number found =
    let none : number ≡ 0 + number = omega arith in
    subst (λ (at : ℕ). IsSomeAnd (slice_get more at) P) none found
found_behind P (x ∷ first) more number found =
    let later : suc (length first + number) ≡ suc (length first) + number = omega arith in
    subst (λ (at : ℕ). IsSomeAnd (slice_get (x ∷ first ++ more) at) P) later (found_behind P first more number found)
