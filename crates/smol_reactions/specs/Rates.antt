-- The thresholds of reactions that have a rate. They need the time of a step, so they are set when all lines are read.
use Rattle.std.specs.Prelude.{◌≡◌, ℕ, zero, suc, ◌+◌, Bool, true, ◌&&◌, nat_le, List, [], ◌∷◌, length, take, sum_by, unwrap_or, Option, None, Some, if◌then◌else◌}
use Rattle.std.specs.Option.{is_some}
use Rattle.smol_num.specs.declared.quantities.Threshold.{Threshold}
use Rattle.smol_rates.specs.Rates.{share, threshold_of}
use Rattle.smol_types.specs.declared.reaction.Reaction.{Reaction}
use Rattle.smol_types.specs.Limits.{certain}
use Rattle.smol_types.specs.Reactions.{reacts_alone, share_of}
use Rattle.smol_reactions.specs.Numbered.{numbered}

-- the rate of a reaction where the species is its one reactant, in billionths per unit of time
abbrev pub rate_alone : ℕ → Reaction → ℕ
rate_alone species reaction = if reacts_alone species reaction.reactants then unwrap_or reaction.rate 0 else 0

-- the rates of these reactions of a species, added up
abbrev pub rate_sum : ℕ → List Reaction → ℕ
rate_sum species reactions = sum_by (rate_alone species) reactions

-- the share of the reaction of a number in the random words of a species, where a step takes this time: what its rate adds to
-- those before it, as a part of what the threshold of all rates gives
abbrev pub share_at : ℕ → List Reaction → ℕ → ℕ → Threshold
share_at step reactions number species =
    share (threshold_of (rate_sum species reactions) step)
    (rate_sum species (take number reactions)) (rate_sum species (take (number + 1) reactions)) (rate_sum species reactions)

-- the species of a reaction that has a rate
abbrev pub rated_species : Option ℕ → List ℕ → Option ℕ
rated_species (Some rate) (species ∷ []) = Some species
rated_species rate reactants = None

-- a threshold, unless this species gives another
abbrev pub threshold_by : (ℕ → Threshold) → Threshold → Option ℕ → Threshold
threshold_by given usual None = usual
threshold_by given usual (Some species) = given species

-- the threshold of a reaction among these, by its number
abbrev pub threshold_at : ℕ → List Reaction → ℕ → Reaction → Threshold
threshold_at step reactions number reaction =
    threshold_by (share_at step reactions number) reaction.threshold (rated_species reaction.rate reaction.reactants)

abbrev pub with_threshold : Threshold → Reaction → Reaction
with_threshold threshold reaction = record reaction { threshold = threshold }

-- a reaction among these with its threshold, by its number
abbrev pub reaction_rated : ℕ → List Reaction → ℕ → Reaction → Reaction
reaction_rated step reactions number reaction = with_threshold (threshold_at step reactions number reaction) reaction

-- reactions of which those with a rate have the thresholds of their rates, where a step takes this time
abbrev pub all_rated : ℕ → List Reaction → List Reaction
all_rated step reactions = numbered (reaction_rated step reactions) 0 reactions

-- the random words are enough for the first-order reactions of each of so many species
abbrev pub are_enough : ℕ → List Reaction → Bool
are_enough zero reactions = true
are_enough (suc species) reactions = are_enough species reactions && nat_le (sum_by (share_of species) reactions) certain

-- a reaction of one reactant has a rate
abbrev pub HasRate : Reaction → Type 0
HasRate reaction = length reaction.reactants ≡ 1 → is_some reaction.rate ≡ true
