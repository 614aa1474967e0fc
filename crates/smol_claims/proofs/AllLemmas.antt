-- A fact of each element of a list, where the last one comes off.
use Rattle.std.proofs.Common.{◌≡◌, ℕ, zero, suc, ◌+◌, ◌<◌, List, [], ◌∷◌, ◌++◌, length, length-append, get_or, All, sum_by, refl, subst, arith}
use Rattle.std.proofs.lemmas.List.Sums.{sum_by-append, sum_by-cons}

module _ {X : Type 0} where
  at_last : (xs : List X) (x d : X) → get_or (xs ++ x ∷ []) (length xs) d ≡ x
  at_last [] x d = refl
  at_last (y ∷ ys) x d = at_last ys x d

  before_last : (xs : List X) (x d : X) (k : ℕ) → k < length xs → get_or (xs ++ x ∷ []) k d ≡ get_or xs k d
  before_last [] x d k l = absurd (omega arith)
  before_last (y ∷ ys) x d zero l = refl
  before_last (y ∷ ys) x d (suc k) l = before_last ys x d k (omega arith)

  pub All-last : (P : X → Type 0) (xs : List X) (x : X) → All P (xs ++ x ∷ []) → P x
  All-last P xs x all = subst P (at_last xs x x) (all (length xs) x (omega (arith, length-append xs (x ∷ []))))

  pub All-front : (P : X → Type 0) (xs : List X) (x : X) → All P (xs ++ x ∷ []) → All P xs
  All-front P xs x all k d l =
      subst P (before_last xs x d k l) (all k d (omega (arith, l, length-append xs (x ∷ []))))

  pub sum_by-last : (f : X → ℕ) (xs : List X) (x : X) → sum_by f (xs ++ x ∷ []) ≡ sum_by f xs + f x
  sum_by-last f xs x = omega (arith, sum_by-append f xs (x ∷ []), sum_by-cons f x [])

  pub sum_by-empty : (f : X → ℕ) (xs : List X) → length xs ≡ 0 → sum_by f xs ≡ 0
  sum_by-empty f [] e = refl
  sum_by-empty f (x ∷ xs) e = absurd (omega arith)

  pub sum_by-each : (f : X → ℕ) (xs ys : List X) → length ys ≡ length xs → ((i : ℕ) (d : X) → i < length xs → f (get_or ys i d) ≡ f (get_or xs i d)) → sum_by f ys ≡ sum_by f xs
  sum_by-each f [] [] e same = refl
  sum_by-each f [] (y ∷ ys) e same = absurd (omega arith)
  sum_by-each f (x ∷ xs) [] e same = absurd (omega arith)
  sum_by-each f (x ∷ xs) (y ∷ ys) e same =
      let first : f y ≡ f x = same 0 x (omega arith) in
      let rest : sum_by f ys ≡ sum_by f xs = sum_by-each f xs ys (omega arith) (λ i d l. same (suc i) d (omega arith)) in
      omega (arith, sum_by-cons f x xs, sum_by-cons f y ys, first, rest)

  pub sum_by-of_ones : (f : X → ℕ) (xs : List X) → All (λ x. f x ≡ 1) xs → sum_by f xs ≡ length xs
  sum_by-of_ones f [] one = refl
  sum_by-of_ones f (x ∷ xs) one =
      let first : f x ≡ 1 = one 0 x (omega arith) in
      let rest : sum_by f xs ≡ length xs = sum_by-of_ones f xs (λ i d l. one (suc i) d (omega arith)) in
      omega (arith, sum_by-cons f x xs, first, rest)
