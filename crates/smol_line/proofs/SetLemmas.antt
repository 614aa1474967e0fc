-- The names of a set by their bytes.
use Rattle.std.proofs.Common.{◌≡◌, ℕ, suc, ◌+◌, Bool, true, false, not, cond, ltb, ◌||◌, List, [], ◌∷◌, ◌++◌, length, map, Option, None, Some, is_some, String, Global, string_bytes, refl, sym, ap, ◌∙◌, inl, inr, subst, arith, if◌then◌else◌}
use Rattle.std.specs.Str.{bytes_eq, IsUtf8}
use Rattle.std.specs.List.{list_any, position, position_or_len}
use Rattle.std.proofs.lemmas.Bool.{cases_lt, lt-ltb, le-ltb}
use Rattle.std.proofs.lemmas.List.{map-append}
use Rattle.std.proofs.lemmas.Slice.Eq.{bytes_eq-Decides}
use Rattle.indexmap.specs.IndexSet.{insert_key}
use mathlib.Core.Logic.{∥∥₁_elim}
use mathlib.Core.HLevel.{⊥_prop}

position_or_len-map : {X Y : Type 0} (test : Y → Bool) (f : X → Y) (xs : List X) → position_or_len test (map f xs) ≡ position_or_len (λ x. test (f x)) xs
position_or_len-map test f [] = refl
position_or_len-map test f (x ∷ xs) = rw (position_or_len-map test f xs) refl

length-of_map : {X Y : Type 0} (f : X → Y) (xs : List X) → length (map f xs) ≡ length xs
length-of_map f [] = refl
length-of_map f (x ∷ xs) = ap suc (length-of_map f xs)

-- the place of an element by its image is the place in the images
pub position-map : {X Y : Type 0} (test : Y → Bool) (f : X → Y) (xs : List X) → position test (map f xs) ≡ position (λ x. test (f x)) xs
position-map test f xs = rw (position_or_len-map test f xs, length-of_map f xs) refl

ltb-suc : (m n : ℕ) → ltb (1 + m) (suc n) ≡ ltb m n
ltb-suc m n =
    elim (cases_lt m n) [
      | inl less ↦ lt-ltb (1 + m) (suc n) (omega arith) ∙ sym (lt-ltb m n less)
      | inr more ↦ le-ltb (1 + m) (suc n) (omega arith) ∙ sym (le-ltb m n more)
    ]

step : (b : Bool) (m n : ℕ) (r : Bool) → ltb m n ≡ r → ltb (cond (not b) (1 + m) 0) (suc n) ≡ (b || r)
step true m n r e = lt-ltb 0 (suc n) (omega arith)
step false m n r e = ltb-suc m n ∙ e

ltb-position_or_len : {X : Type 0} (p : X → Bool) (xs : List X) → ltb (position_or_len p xs) (length xs) ≡ list_any p xs
ltb-position_or_len p [] = le-ltb 0 0 (omega arith)
ltb-position_or_len p (x ∷ xs) = step (p x) (position_or_len p xs) (length xs) (list_any p xs) (ltb-position_or_len p xs)

is_some-cond : (b : Bool) (n : ℕ) → is_some (cond b (Some n) None) ≡ b
is_some-cond true n = refl
is_some-cond false n = refl

-- there is a first place that passes where some element passes
is_some-position : {X : Type 0} (p : X → Bool) (xs : List X) → is_some (position p xs) ≡ list_any p xs
is_some-position p xs =
    is_some-cond (ltb (position_or_len p xs) (length xs)) (position_or_len p xs) ∙ ltb-position_or_len p xs

-- a name that is none of a set's is added behind the others
pub added_name : (keys : List (String Global)) (key : String Global) → is_some (position (bytes_eq (string_bytes key)) (map string_bytes keys)) ≡ false → map string_bytes (insert_key (λ a b. bytes_eq (string_bytes a) (string_bytes b)) keys key) ≡ map string_bytes keys ++ string_bytes key ∷ []
added_name keys key new =
    let none : list_any (λ k. bytes_eq (string_bytes key) (string_bytes k)) keys ≡ false = sym (is_some-position _ keys) ∙ ap is_some (sym (position-map (bytes_eq (string_bytes key)) string_bytes keys)) ∙ new in
    ap (λ b. map string_bytes (if b then keys else keys ++ key ∷ [])) none ∙ map-append string_bytes keys (key ∷ [])

none_of : {X : Type 0} (o : Option X) → is_some o ≡ false → o ≡ None
none_of None missing = refl
none_of (Some x) missing = absurd (let same : true ≡ false = missing in cc)

not_true : (b : Bool) → (b ≡ true → ⊥) → b ≡ false
not_true true other = absurd (other refl)
not_true false other = refl

-- what is no text is no name
other_than_text : (name : List ℕ) (key : String Global) → (IsUtf8 name → ⊥) → bytes_eq name (string_bytes key) ≡ false
other_than_text name key other =
    not_true (bytes_eq name (string_bytes key))
    (λ same. ∥∥₁_elim key.ok ⊥_prop (λ text. other (subst IsUtf8 (sym ((bytes_eq-Decides name (string_bytes key)).0 same)) text)))

none_passes : (name : List ℕ) (keys : List (String Global)) → (IsUtf8 name → ⊥) → list_any (λ k. bytes_eq name (string_bytes k)) keys ≡ false
none_passes name [] other = refl
none_passes name (key ∷ keys) other = rw (other_than_text name key other, none_passes name keys other) refl

-- what is no text is none of a set's names
pub position-no_text : (name : List ℕ) (keys : List (String Global)) → (IsUtf8 name → ⊥) → position (bytes_eq name) (map string_bytes keys) ≡ None
position-no_text name keys other =
    position-map (bytes_eq name) string_bytes keys ∙ none_of _ (is_some-position (λ k. bytes_eq name (string_bytes k)) keys ∙ none_passes name keys other)
