-- `reaction_probability REACTION P`: how likely a reaction is, as the share of the random words that let it happen.
use Rattle.std.specs.Prelude.{ℕ, List, [], ◌∷◌, Result, Ok}
use Rattle.smol_text.specs.Reading.{Stated}
use Rattle.smol_types.specs.declared.fault.Kind.{Kind}
use Rattle.smol_types.specs.declared.reaction.Reaction.{Reaction}
use Rattle.smol_line.specs.Words.{word_at}
use Rattle.smol_line.specs.Checks.{word_count, passing, with_value}
use Rattle.smol_line.specs.SpeciesWord.{number_in}
use Rattle.smol_line.specs.Probability.{chance_in}
use Rattle.smol_reactions.specs.Reaction.{reaction_names_of}

-- the number of a reaction and its probability in billionths, beside these reactions
unfoldable pub reaction_probability_in : List Reaction → Stated → Result (ℕ × ℕ) Kind
reaction_probability_in reactions line =
    passing (word_count 3 line ∷ [])
    (with_value (number_in (reaction_names_of reactions) (word_at line 1)) (λ number.
    with_value (chance_in (word_at line 2)) (λ chance.
    Ok (number, chance))))
