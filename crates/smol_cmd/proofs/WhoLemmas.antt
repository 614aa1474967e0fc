-- Numbers in a row.
use Rattle.std.proofs.Common.{◌≡◌, ℕ, zero, suc, ◌+◌, [], ◌∷◌, ◌++◌, ap, arith, add-one}
use Rattle.std.specs.List.{range_with_len}

range_next : (a n j : ℕ) → a + n ≡ j → range_with_len a (suc n) ≡ range_with_len a n ++ j ∷ []
range_next a zero j is = let same : a ≡ j = omega arith in ap (λ x. x ∷ []) same
range_next a (suc n) j is = ap (λ rest. a ∷ rest) (range_next (a + 1) n j (omega arith))

-- one number more
pub range_more : (a n j : ℕ) → a + n ≡ j → range_with_len a (n + 1) ≡ range_with_len a n ++ j ∷ []
range_more a n j is = rw add-one (range_next a n j is)
