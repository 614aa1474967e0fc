-- `reaction NAME LEFT -> RIGHT [RATE]`: a reaction of one species or two, what it makes, and the rate of one of one species.
use Rattle.std.specs.Prelude.{ℕ, ◌≤◌, IfSome, nat_le, nat_lt, List, [], ◌∷◌, length, drop, map, ◌==◌, Option, None, Some, Result, Ok}
use Rattle.smol_text.specs.Reading.{Stated, words_of}
use Rattle.smol_types.specs.declared.fault.Kind.{Kind}
use Rattle.smol_types.specs.declared.fault.Kind.TheVariants.{WrongWordCount, NotInProfile, TooMany}
use Rattle.smol_types.specs.declared.reaction.Reaction.{Reaction}
use Rattle.smol_types.specs.Limits.{fastest, most_products, most_reactions}
use Rattle.smol_line.specs.Words.{word_at}
use Rattle.smol_line.specs.Checks.{unless, passing, with_value}
use Rattle.smol_line.specs.LookingBack.{say}
use Rattle.smol_line.specs.Names.{new_name_in}
use Rattle.smol_line.specs.Numbers.{unsigned_in}
use Rattle.smol_line.specs.SpeciesWord.{species_word_in}
use Rattle.smol_reactions.specs.declared.scheme.Scheme.{Scheme}
use Rattle.smol_reactions.specs.Arrangement.{arrangement_in}

-- the names of reactions
abbrev pub reaction_names_of : List Reaction → List (List ℕ)
reaction_names_of reactions = map (λ (reaction : Reaction). reaction.name) reactions

-- a reaction has no more products than there may be
abbrev pub HasFewProducts : Reaction → Type 0
HasFewProducts reaction = length reaction.products ≤ most_products

-- a rate is no greater than it may be
abbrev pub HasSmallRate : Reaction → Type 0
HasSmallRate reaction = IfSome reaction.rate (λ (rate : ℕ). rate ≤ fastest)

-- the numbers of the species that these words name, or the first fault
abbrev pub numbers_in : List (List ℕ) → List (List ℕ) → Result (List ℕ) Kind
numbers_in species [] = Ok []
numbers_in species (word ∷ words) =
    with_value (species_word_in species word) (λ number.
    with_value (numbers_in species words) (λ numbers.
    Ok (number ∷ numbers)))

-- the words behind the name
abbrev pub arranged_words : Stated → List (List ℕ)
arranged_words line = drop 2 (words_of line)

-- a rate in billionths per unit of time
abbrev pub rate_word : List ℕ → Result ℕ Kind
rate_word word = unsigned_in 9 fastest word

-- the rate of a reaction of an order, by the word of it where there is one. Only a reaction of one reactant has a rate
abbrev pub rate_in : ℕ → Option (List ℕ) → Result (Option ℕ) Kind
rate_in order None = Ok None
rate_in order (Some word) = passing (unless (order == 1) NotInProfile ∷ []) (say Some (rate_word word))

-- the numbers of the reactants' and of the products' species, and the rate
unfoldable pub sides_in : List (List ℕ) → List (List ℕ) → Result (List ℕ × List ℕ × Option ℕ) Kind
sides_in species words =
    with_value (arrangement_in words) (λ sides.
    with_value (numbers_in species sides.reactants) (λ reactants.
    with_value (numbers_in species sides.products) (λ products.
    with_value (rate_in (length reactants) sides.rate) (λ rate.
    Ok (reactants, products, rate)))))

-- the reaction that a line gives, beside species and reactions of these names
unfoldable pub reaction_in : List (List ℕ) → List (List ℕ) → Stated → Result Scheme Kind
reaction_in species known line =
    passing (unless (nat_le 5 (length (words_of line))) WrongWordCount ∷ [])
    (with_value (new_name_in known (word_at line 1)) (λ name.
    with_value (sides_in species (arranged_words line)) (λ sides.
    passing
    (unless (nat_le (length sides.1) most_products) TooMany
    ∷ unless (nat_lt (length known) most_reactions) TooMany
    ∷ [])
    (Ok (record { name = name; reactants = sides.0; products = sides.1; rate = sides.2 })))))
