-- How the words of a reaction are arranged: LEFT -> RIGHT, each side species words joined by `+`, and a rate behind them.
use Rattle.std.specs.Prelude.{ℕ, ◌+◌, ◌-◌, ◌&&◌, ◌||◌, Bool, false, not, nat_le, List, [], ◌∷◌, length, take, drop, slice_index_or, position, Option, None, Some, Result, Ok, Err, if◌then◌else◌, codes}
use Rattle.std.specs.Str.{bytes_eq}
use Rattle.smol_types.specs.declared.fault.Kind.{Kind}
use Rattle.smol_types.specs.declared.fault.Kind.TheVariants.{BadReaction, NotInProfile}
use Rattle.smol_line.specs.Checks.{there, with_value}

abbrev pub is_arrow : List ℕ → Bool
is_arrow word = bytes_eq word (codes "->")

abbrev pub is_plus : List ℕ → Bool
is_plus word = bytes_eq word (codes "+")

abbrev pub is_zero : List ℕ → Bool
is_zero word = bytes_eq word (codes "0")

-- any word may stand for a species but `+`, `->` and `0`
abbrev pub stands_for_species : List ℕ → Bool
stands_for_species word = not (is_plus word || is_arrow word || is_zero word)

-- any word may be a rate but `+` and `->`
abbrev pub stands_for_rate : List ℕ → Bool
stands_for_rate word = not (is_plus word || is_arrow word)

-- one species word, or one and a `+` before such words
abbrev pub is_sum : List (List ℕ) → Bool
is_sum [] = false
is_sum (species ∷ []) = stands_for_species species
is_sum (species ∷ plus ∷ more) = stands_for_species species && is_plus plus && is_sum more

-- the species words of a sum: every other word
abbrev pub summands : List (List ℕ) → List (List ℕ)
summands [] = []
summands (species ∷ []) = species ∷ []
summands (species ∷ plus ∷ more) = species ∷ summands more

-- the single word `0`
abbrev pub is_nothing : List (List ℕ) → Bool
is_nothing [] = false
is_nothing (word ∷ []) = is_zero word
is_nothing (word ∷ next ∷ more) = false

-- a complete right side: nothing, or a sum
abbrev pub is_right : List (List ℕ) → Bool
is_right words = is_nothing words || is_sum words

-- a complete right side, and one further word
abbrev pub is_rated : List (List ℕ) → Bool
is_rated words =
    let before = length words - 1 in
    is_right (take before words) && stands_for_rate (slice_index_or words before [])

-- the species words of LEFT: there is one, or there are two
unfoldable pub left_in : List (List ℕ) → Result (List (List ℕ)) Kind
left_in words =
    if is_nothing words
    then Err NotInProfile
    else (if is_sum words && nat_le (length words) 3 then Ok (summands words) else Err BadReaction)

-- the species words of a complete right side: there may be none
abbrev pub products_in : List (List ℕ) → List (List ℕ)
products_in words = if is_nothing words then [] else summands words

-- the species words of RIGHT, and the word of its rate where it has one
pub record Right : Type 0 where
  pub products : List (List ℕ)
  pub rate : Option (List ℕ)

-- a complete right side, and its last word where that is a further one
abbrev pub unrated : List (List ℕ) → Right
unrated words = record { products = products_in words; rate = None }

abbrev pub rated : List (List ℕ) → Right
rated words =
    let before = length words - 1 in
    record { products = products_in (take before words); rate = Some (slice_index_or words before []) }

-- RIGHT, with a rate or without
unfoldable pub right_in : List (List ℕ) → Result Right Kind
right_in words =
    if is_right words then Ok (unrated words) else (if is_rated words then Ok (rated words) else Err BadReaction)

-- the species words of both sides, and the word of the rate where there is one
pub record Sides : Type 0 where
  pub reactants : List (List ℕ)
  pub products : List (List ℕ)
  pub rate : Option (List ℕ)

-- the two sides of a reaction, which the first arrow parts
unfoldable pub arrangement_in : List (List ℕ) → Result Sides Kind
arrangement_in words =
    with_value (there (position is_arrow words) BadReaction) (λ arrow.
    with_value (left_in (take arrow words)) (λ reactants.
    with_value (right_in (drop (arrow + 1) words)) (λ right.
    Ok (record { reactants = reactants; products = right.products; rate = right.rate }))))

-- the word at a place, where there is a place
abbrev pub word_there : List (List ℕ) → Option ℕ → Option (List ℕ)
word_there words None = None
word_there words (Some at) = Some (slice_index_or words at [])
