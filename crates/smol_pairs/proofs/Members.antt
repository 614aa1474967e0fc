-- Members of mapped lists.
use Rattle.std.proofs.Common.{◌≡◌, List, [], ◌∷◌, map, All, refl, arith}
use Rattle.std.specs.Prelude.{Contains}
use Rattle.std.proofs.lemmas.List.Elements.{All-nil, All-cons, All-weaker, All-contains, Contains-append_left, Contains-append_right}

module _ {X Y : Type 0} (f : X → Y) where
  each_mapped : (xs : List X) → All (λ y. Contains (map f xs) (f y)) xs
  each_mapped [] = All-nil _
  each_mapped (x ∷ xs) = All-cons (λ y. Contains (map f (x ∷ xs)) (f y)) x xs (Contains-append_left (f x ∷ []) (map f xs) (f x) (0, omega arith, refl))
      (All-weaker (λ y. Contains (map f xs) (f y)) (λ y. Contains (map f (x ∷ xs)) (f y)) (λ y has. Contains-append_right (f x ∷ []) (map f xs) (f y) has) xs (each_mapped xs))

  pub contains_map : (xs : List X) (x : X) → Contains xs x → Contains (map f xs) (f x)
  contains_map xs x has = All-contains (λ y. Contains (map f xs) (f y)) xs x (each_mapped xs) has

pub mapped_twice : {X Y Z : Type 0} → (g : Y → Z) (f : X → Y) (xs : List X) → map g (map f xs) ≡ map (λ x. g (f x)) xs
mapped_twice g f [] = refl
mapped_twice g f (x ∷ xs) = λ i. g (f x) ∷ mapped_twice g f xs i
