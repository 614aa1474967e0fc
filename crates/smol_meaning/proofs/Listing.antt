-- Encounters by distance are the encounters in another order.
use Rattle.std.proofs.Common.{⊎_elim, ◌≡◌, ◌<◌, ◌≤◌, ◌⊎◌, Bool, true, false, cond, inl, inr, List, [], ◌∷◌, get_or, All, nat_le, refl, arith}
use Rattle.std.specs.Prelude.{IsPermutation}
use Rattle.std.proofs.lemmas.Bool.{cases_lt, leb-false, leb-true}
use Rattle.std.proofs.lemmas.List.Elements.{All-cons, All-nil, All-tail, All-weaker}
use Rattle.std.proofs.lemmas.List.Sorted.{All-permutation, Contains-permutation, IsPermutation-cons, IsPermutation-middle, IsPermutation-refl, IsPermutation-sym, IsPermutation-trans}
use Rattle.smol_geom.specs.Moments.{Has}
use Rattle.smol_geom.proofs.Lists.{contains_had, has_contained}
use Rattle.smol_meaning.specs.Encounters.{Encounter, listed, nearest_first, put_nearest, square_between}
use Rattle.smol_meaning.specs.Who.{AreOrderedBy}

put_moves : (e : Encounter) (fs : List Encounter) → IsPermutation (e ∷ fs) (put_nearest e fs)
put_moves e [] = IsPermutation-refl (e ∷ [])
put_moves e (f ∷ fs) = go (nat_le (square_between e) (square_between f)) (put_moves e fs)
  where
    go : (here : Bool) → IsPermutation (e ∷ fs) (put_nearest e fs) → IsPermutation (e ∷ f ∷ fs) (cond here (e ∷ f ∷ fs) (f ∷ put_nearest e fs))
    go true rest = IsPermutation-refl (e ∷ f ∷ fs)
    go false rest =
        IsPermutation-trans (e ∷ f ∷ fs) (f ∷ e ∷ fs) (f ∷ put_nearest e fs) (IsPermutation-middle (e ∷ []) f fs)
        (IsPermutation-cons f (e ∷ fs) (put_nearest e fs) rest)

nearest_moves : (es : List Encounter) → IsPermutation es (nearest_first es)
nearest_moves [] = IsPermutation-refl []
nearest_moves (e ∷ es) =
    IsPermutation-trans (e ∷ es) (e ∷ nearest_first es) (put_nearest e (nearest_first es))
    (IsPermutation-cons e es (nearest_first es) (nearest_moves es)) (put_moves e (nearest_first es))

-- whichever come first, they are the same encounters
pub listed_moves : (nearest : Bool) (es : List Encounter) → IsPermutation es (listed nearest es)
listed_moves false es = IsPermutation-refl es
listed_moves true es = nearest_moves es

pub has_listed : (nearest : Bool) (es : List Encounter) (e : Encounter) → Has es e → Has (listed nearest es) e
has_listed nearest es e has =
    has_contained (listed nearest es) e (Contains-permutation es (listed nearest es) e (listed_moves nearest es) (contains_had es e has))

pub listed_has : (nearest : Bool) (es : List Encounter) (e : Encounter) → Has (listed nearest es) e → Has es e
listed_has nearest es e has =
    has_contained es e
    (Contains-permutation (listed nearest es) es e (IsPermutation-sym es (listed nearest es) (listed_moves nearest es))
    (contains_had (listed nearest es) e has))

module _ (R : Encounter → Encounter → Type 0) where
  -- the first is nearer, or at the same distance it comes first otherwise
  abbrev pub Sooner : Encounter → Encounter → Type 0
  Sooner e f = (square_between e < square_between f) ⊎ ((square_between e ≡ square_between f) × R e f)

  no_farther : (e f : Encounter) → Sooner e f → square_between e ≤ square_between f
  no_farther e f (inl less) = omega (arith, less)
  no_farther e f (inr same) = let is = same.0 in omega (arith, is)

  sooner_from : (e f : Encounter) → square_between e ≤ square_between f → R e f → Sooner e f
  sooner_from e f most before =
      ⊎_elim (λ (less : square_between e < square_between f). inl less)
      (λ (more : square_between f ≤ square_between e). let same : square_between e ≡ square_between f = omega (arith, most, more) in
      inr (same, before))
      (cases_lt (square_between e) (square_between f))

  put_order : (e : Encounter) (fs : List Encounter) → All (R e) fs → AreOrderedBy Sooner fs → AreOrderedBy Sooner (put_nearest e fs)
  put_order e [] before order = (All-nil (Sooner e), tt)
  put_order e (f ∷ fs) before order =
      go (nat_le (square_between e) (square_between f)) refl (put_order e fs (All-tail (R e) f fs before) order.1)
    where
      go : (here : Bool) → nat_le (square_between e) (square_between f) ≡ here → AreOrderedBy Sooner (put_nearest e fs)
          → AreOrderedBy Sooner (cond here (e ∷ f ∷ fs) (f ∷ put_nearest e fs))
      go true near rest =
          let first = leb-true (square_between e) (square_between f) near in
          let behind : All (λ g. square_between e ≤ square_between g) (f ∷ fs) =
          All-cons (λ g. square_between e ≤ square_between g) f fs first
          (All-weaker (Sooner f) (λ g. square_between e ≤ square_between g) (λ g is. let most = no_farther f g is in omega (arith, first, most)) fs order.0) in
          (λ k d within. sooner_from e (get_or (f ∷ fs) k d) (behind k d within) (before k d within), order)
      go false far rest =
          let less = leb-false (square_between e) (square_between f) far in
          (All-permutation (Sooner f) (e ∷ fs) (put_nearest e fs) (put_moves e fs) (All-cons (Sooner f) e fs (inl less) order.0), rest)

  -- the nearest first, and at one distance as before
  pub nearest_order : (es : List Encounter) → AreOrderedBy R es → AreOrderedBy Sooner (nearest_first es)
  nearest_order [] order = tt
  nearest_order (e ∷ es) order =
      put_order e (nearest_first es) (All-permutation (R e) es (nearest_first es) (nearest_moves es) order.0) (nearest_order es order.1)
