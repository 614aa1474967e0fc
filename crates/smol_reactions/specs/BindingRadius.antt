-- `binding_radius REACTION V`: how far apart the two reactants of a reaction may be.
use Rattle.std.specs.Prelude.{ℕ, ◌==◌, ℤ, pos, List, [], ◌∷◌, slice_get, Result, Ok}
use Rattle.smol_num.specs.declared.quantities.Micro.{Micro}
use Rattle.smol_text.specs.Reading.{Stated}
use Rattle.smol_types.specs.declared.fault.Kind.{Kind}
use Rattle.smol_types.specs.declared.fault.Kind.TheVariants.{UnknownName, BadReaction}
use Rattle.smol_types.specs.declared.reaction.Reaction.{Reaction}
use Rattle.smol_types.specs.Limits.{longest}
use Rattle.smol_line.specs.Words.{word_at}
use Rattle.smol_line.specs.Checks.{unless, there, word_count, passing, with_value}
use Rattle.smol_line.specs.Numbers.{decimal_in}
use Rattle.smol_line.specs.SpeciesWord.{number_in}
use Rattle.smol_reactions.specs.Reaction.{reaction_names_of}

-- the reaction of this number
abbrev pub reaction_at : List Reaction → ℕ → Result Reaction Kind
reaction_at reactions number = there (slice_get reactions number) UnknownName

-- a distance in micros
abbrev pub distance_in : List ℕ → Result ℤ Kind
distance_in word = decimal_in 6 (pos 0) (pos longest) word

-- the number of a reaction and its radius, beside these reactions
unfoldable pub binding_radius_in : List Reaction → Stated → Result (ℕ × Micro) Kind
binding_radius_in reactions line =
    passing (word_count 3 line ∷ [])
    (with_value (number_in (reaction_names_of reactions) (word_at line 1)) (λ number.
    with_value (reaction_at reactions number) (λ reaction.
    passing (unless (reaction.order == 2) BadReaction ∷ [])
    (with_value (distance_in (word_at line 2)) (λ radius.
    Ok (number, record { 0 = radius }))))))
