-- What is listed with its number, and what holds of everything listed so.
use Rattle.std.proofs.Common.{◌≡◌, ℕ, zero, suc, ◌+◌, inl, inr, List, [], ◌∷◌, length, map, All, Some, refl, sym, subst, arith}
use Rattle.std.specs.Prelude.{Contains, slice_get}
use Rattle.std.specs.List.{enumerate_from}
use Rattle.std.proofs.lemmas.List.Elements.{All-cons, All-nil}
use Rattle.std.proofs.lemmas.Option.{slice_get_read}
use Rattle.smol_geom.specs.Moments.{Has}

-- what holds of each with its number holds of all
pub all_numbered : {X : Type 0} → (P : ℕ × X → Type 0) (n : ℕ) (xs : List X) → ((i : ℕ) (x : X) → slice_get xs i ≡ Some x → P (n + i, x))
    → All P (enumerate_from n xs)
all_numbered P n [] each = All-nil P
all_numbered P n (x ∷ xs) each =
    All-cons P (n, x) (enumerate_from (n + 1) xs)
    (let here : n + 0 ≡ n = omega arith in subst (λ k. P (k, x)) here (each 0 x refl))
    (all_numbered P (n + 1) xs (λ i y is.
    let there : n + suc i ≡ (n + 1) + i = omega arith in
    subst (λ k. P (k, y)) there (each (suc i) y is)))

-- what is made of an element with its number is among what is made of all
pub has_numbered : {X Y : Type 0} → (f : ℕ × X → Y) (n : ℕ) (xs : List X) (i : ℕ) (x : X) → slice_get xs i ≡ Some x → Has
    (map f (enumerate_from n xs)) (f (n + i, x))
has_numbered f n [] i x is = absurd (cc)
has_numbered f n (y ∷ xs) zero x is =
    let same : y ≡ x = cc in
    let here : n ≡ n + 0 = omega arith in
    inl (λ k. f (here k, same k))
has_numbered f n (y ∷ xs) (suc i) x is =
    let there : (n + 1) + i ≡ n + suc i = omega arith in
    inr (subst (λ k. Has (map f (enumerate_from (n + 1) xs)) (f (k, x))) there (has_numbered f (n + 1) xs i x is))

-- a listed element is got at its place
pub got_there : {X : Type 0} → (xs : List X) (x : X) → Contains xs x → (i : ℕ) × (slice_get xs i ≡ Some x)
got_there xs x has = (has.0, slice_get_read xs (length xs) has.0 x refl has.1 (sym (has.2)))
