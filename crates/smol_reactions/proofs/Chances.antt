-- How likely reactions of one species are together.
use Rattle.std.proofs.Common.{◌≡◌, ◌&&◌, inl, inr, zero, suc, nat_le, ◌<◌, subst, ℕ, ◌+◌, ◌*◌, ◌/◌, ◌≤◌, Bool, true, false, List, [], ◌∷◌, length, Option, None, Some, sum_by, if◌then◌else◌, unwrap_or, refl, arith}
use Rattle.std.proofs.lemmas.Bool.{cases_lt}
use Rattle.std.proofs.lemmas.Bool.Decides.{nat_tests}
use Rattle.std.proofs.lemmas.List.Sums.{sum_by-cons}
use Rattle.smol_types.specs.declared.reaction.Reaction.{Reaction}
use Rattle.smol_types.specs.Limits.{certain}
use Rattle.smol_types.specs.Reactions.{reacts_alone, share_of}
use Rattle.smol_line.specs.LookingBack.{nearest}
use Rattle.smol_line.specs.Probability.{whole_chance}
use Rattle.smol_reactions.specs.declared.scheme.Scheme.{Scheme}
use Rattle.smol_reactions.specs.Numbered.{numbered}
use Rattle.smol_reactions.specs.ReactionSaid.{ReactionSaid}
use Rattle.smol_reactions.specs.Content.{are_shared, chance_alone, chance_said, chance_sum, chances_of, reaction_made, reactions_of, schemes_of, threshold_given}

-- a quotient times its divisor is no more than what was divided
quotient : (n : ℕ) → whole_chance * (n / whole_chance) ≤ n
quotient n = omega arith

-- a reaction of one reactant alone
pub alone_is_one : (species : ℕ) (reactants : List ℕ) → reacts_alone species reactants ≡ true → length reactants ≡ 1
alone_is_one species [] alone = absurd (let no : false ≡ true = alone in cc)
alone_is_one species (one ∷ []) alone = refl
alone_is_one species (one ∷ two ∷ more) alone = absurd (let no : false ≡ true = alone in cc)

-- the threshold of a reaction of one reactant is its probability, rounded down
rounded_down : (order : ℕ) (given : Option ℕ) → order ≡ 1 → whole_chance * (threshold_given order given).0 ≤ certain * unwrap_or given 0
rounded_down order None one = rw one (omega arith)
rounded_down order (Some given) one = let divided = quotient (given * certain) in omega (arith, divided)

chosen_below : (alone : Bool) (threshold chance : ℕ) → (alone ≡ true → whole_chance * threshold ≤ certain * chance) → whole_chance * (if alone then threshold else 0) ≤ certain * (if alone then chance else 0)
chosen_below true threshold chance below = below refl
chosen_below false threshold chance below = omega arith

-- what a reaction takes of the random words of a species is no more than its probability says
share_below : (species : ℕ) (said : List ReactionSaid) (number : ℕ) (scheme : Scheme) → whole_chance * share_of species (reaction_made said number scheme) ≤ certain * chance_alone species (reaction_made said number scheme) (nearest (chance_said number) said)
share_below species said number scheme =
    chosen_below (reacts_alone species scheme.reactants) _ _
    (λ alone. rounded_down (length scheme.reactants) (nearest (chance_said number) said) (alone_is_one species scheme.reactants alone))

shares_below : (species : ℕ) (said : List ReactionSaid) (number : ℕ) (schemes : List Scheme) → whole_chance * sum_by (share_of species) (numbered (reaction_made said) number schemes) ≤ certain * chance_sum species (numbered (reaction_made said) number schemes) (numbered (λ number (_ : Scheme). nearest (chance_said number) said) number schemes)
shares_below species said number [] = omega arith
shares_below species said number (scheme ∷ schemes) =
    let here = share_below species said number scheme in
    let rest = shares_below species said (number + 1) schemes in
    let sum : sum_by (share_of species) (numbered (reaction_made said) number (scheme ∷ schemes)) ≡ share_of species (reaction_made said number scheme) + sum_by (share_of species) (numbered (reaction_made said) (number + 1) schemes) = sum_by-cons (share_of species) (reaction_made said number scheme) (numbered (reaction_made said) (number + 1) schemes) in
    omega (arith, here, rest, sum)

-- where the probabilities are no more than one whole together, the reactions of a species share the random words
pub shares_fit : (species : ℕ) (said : List ReactionSaid) → chance_sum species (reactions_of said) (chances_of said) ≤ whole_chance → sum_by (share_of species) (reactions_of said) ≤ certain
shares_fit species said fits =
    let below = shares_below species said 0 (schemes_of said) in
    omega (arith, below, fits)

shared_too : (front here : Bool) → (front && here) ≡ true → (front ≡ true) × (here ≡ true)
shared_too true here both = (refl, both)
shared_too false here both = absurd (let no : false ≡ true = both in cc)

-- one whole is enough for each species below the count
pub shared_at : (count species : ℕ) (reactions : List Reaction) (chances : List (Option ℕ)) → are_shared count reactions chances ≡ true → species < count → chance_sum species reactions chances ≤ whole_chance
shared_at zero species reactions chances shared below = absurd (omega arith)
shared_at (suc last) species reactions chances shared below =
    let parts = shared_too (are_shared last reactions chances) (nat_le (chance_sum last reactions chances) whole_chance) shared in
    elim (cases_lt species last) [
      | inl less ↦ shared_at last species reactions chances parts.0 less
      | inr more ↦
          let same : last ≡ species = omega arith in
          let fits : chance_sum last reactions chances ≤ whole_chance = let test = parts.1 in grind (arith, nat_tests) in
          subst (λ (n : ℕ). chance_sum n reactions chances ≤ whole_chance) same fits
    ]

not_shared : (b : Bool) → (b ≡ true → ⊥) → b ≡ false
not_shared true other = absurd (other refl)
not_shared false other = refl

-- where it isn't enough for one, it isn't for more
pub unshared : (more species : ℕ) (reactions : List Reaction) (chances : List (Option ℕ)) → whole_chance < chance_sum species reactions chances → are_shared (species + 1 + more) reactions chances ≡ false
unshared more species reactions chances past = not_shared (are_shared (species + 1 + more) reactions chances) (λ shared. let fits = shared_at (species + 1 + more) species reactions chances shared (omega arith) in omega (arith, fits, past))
