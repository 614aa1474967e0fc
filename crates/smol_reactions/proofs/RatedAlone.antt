-- Reactions that all have rates are never too likely together.
use Rattle.std.proofs.Common.{◌≡◌, ℕ, zero, suc, ◌+◌, ◌≤◌, ◌==◌, ◌&&◌, Bool, true, false, nat_le, List, [], ◌∷◌, length, take, sum_by, unwrap_or, All, Option, None, Some, refl, ap, ◌∙◌, arith, subst, if◌then◌else◌}
use Rattle.std.specs.Option.{is_some}
use Rattle.std.proofs.lemmas.Bool.Decides.{nat_tests}
use Rattle.std.proofs.lemmas.List.Sums.{sum_by-cons, sum_by-take-le}
use Rattle.std.proofs.lemmas.List.Elements.{All-head, All-tail}
use Rattle.smol_rates.specs.Rates.{share, threshold_of}
use Rattle.smol_rates.proofs.RatesLemmas.{threshold_most}
use Rattle.smol_rates.proofs.Sharing.{share_most, shares_join}
use Rattle.smol_num.specs.declared.quantities.Threshold.{Threshold}
use Rattle.smol_types.specs.declared.reaction.Reaction.{Reaction}
use Rattle.smol_types.specs.Limits.{certain}
use Rattle.smol_types.specs.Reactions.{reacts_alone, share_of}
use Rattle.smol_line.specs.LookingBack.{nearest}
use Rattle.smol_line.specs.Probability.{whole_chance}
use Rattle.smol_reactions.specs.declared.scheme.Scheme.{Scheme}
use Rattle.smol_reactions.specs.Content.{are_shared, chance_alone, chance_said, chance_sum, chances_of, rate_left, reaction_made, reactions_of, schemes_of}
use Rattle.smol_reactions.specs.Numbered.{numbered}
use Rattle.smol_reactions.specs.ReactionSaid.{ReactionSaid}
use Rattle.smol_reactions.specs.Rates.{HasRate, all_rated, are_enough, rate_sum, rated_species, reaction_rated, share_at, threshold_by}
use Rattle.smol_reactions.proofs.Chances.{alone_is_one}
use Rattle.smol_reactions.proofs.Rated.{shared_kept, sum-more}

-- a reaction with a rate in which the species reacts alone has the share of that species
share_by : (given : ℕ → Threshold) (usual : Threshold) (species : ℕ) (reactants : List ℕ) (rate : Option ℕ) → reacts_alone species reactants ≡ true → is_some rate ≡ true → threshold_by given usual (rated_species rate reactants) ≡ given species
share_by given usual species [] rate alone some = absurd (let no : false ≡ true = alone in cc)
share_by given usual species (one ∷ two ∷ more) rate alone some = absurd (let no : false ≡ true = alone in cc)
share_by given usual species (one ∷ []) None alone some = absurd (let no : false ≡ true = some in cc)
share_by given usual species (one ∷ []) (Some rate) alone some = let test : (one == species) ≡ true = alone in let same : one ≡ species = grind (arith, nat_tests) in ap given same

-- what a reaction takes of the words of a species is no more than the share of its place among the rates
taken_below : (alone : Bool) (threshold part : ℕ) → (alone ≡ true → threshold ≡ part) → (if alone then threshold else 0) ≤ part
taken_below true threshold part same = let here = same refl in omega (arith, here)
taken_below false threshold part same = omega arith

taken : (step : ℕ) (all : List Reaction) (species number : ℕ) (reaction : Reaction) → HasRate reaction → share_of species (reaction_rated step all number reaction) ≤ (share_at step all number species).0
taken step all species number reaction rated =
    taken_below (reacts_alone species reaction.reactants) _ _
    (λ alone. ap (λ (threshold : Threshold). threshold.0)
    (share_by (share_at step all number) reaction.threshold species reaction.reactants reaction.rate alone (rated (alone_is_one species reaction.reactants alone))))

-- the sum of more rates is no smaller
sum-front : (species : ℕ) (list : List Reaction) (number more : ℕ) → rate_sum species (take number list) ≤ rate_sum species (take (number + more) list)
sum-front species list number zero = let same : number + 0 ≡ number = omega arith in rw same (omega arith)
sum-front species list number (suc more) =
    let before = sum-front species list number more in
    let last = sum-more species list (number + more) in
    let next : number + suc more ≡ number + more + 1 = omega arith in
    rw next (omega (arith, before, last))

-- the share of the rates from one number to another, as a part of all
abbrev share_from : (step : ℕ) (all : List Reaction) (species first last : ℕ) → ℕ
share_from step all species first last =
    (share (threshold_of (rate_sum species all) step) (rate_sum species (take first all)) (rate_sum species (take last all)) (rate_sum species all)).0

taken_together : (step : ℕ) (all : List Reaction) (species number last : ℕ) (list : List Reaction) → number + length list ≡ last → All HasRate list → sum_by (share_of species) (numbered (reaction_rated step all) number list) ≤ share_from step all species number last
taken_together step all species number last [] ends rated = omega arith
taken_together step all species number last (reaction ∷ list) ends rated =
    let behind : number + 1 + length list ≡ last = omega (arith, ends) in
    let here = taken step all species number reaction (All-head HasRate reaction list rated) in
    let rest = taken_together step all species (number + 1) last list behind (All-tail HasRate reaction list rated) in
    let order = subst (λ (n : ℕ). rate_sum species (take (number + 1) all) ≤ rate_sum species (take n all)) behind (sum-front species all (number + 1) (length list)) in
    let joined = shares_join (threshold_of (rate_sum species all) step) (rate_sum species (take number all)) (rate_sum species (take (number + 1) all)) (rate_sum species (take last all)) (rate_sum species all) (sum-more species all number) order in
    let sum = sum_by-cons (share_of species) (reaction_rated step all number reaction) (numbered (reaction_rated step all) (number + 1) list) in
    omega (arith, here, rest, joined, sum)

enough_of : (step : ℕ) (reactions : List Reaction) (species : ℕ) → All HasRate reactions → nat_le (sum_by (share_of species) (all_rated step reactions)) certain ≡ true
enough_of step reactions species rated =
    let together = taken_together step reactions species 0 (length reactions) reactions (omega arith) rated in
    let most = threshold_most (rate_sum species reactions) step in
    let part = share_most (threshold_of (rate_sum species reactions) step) (rate_sum species (take 0 reactions)) (rate_sum species (take (length reactions) reactions)) (rate_sum species reactions) (sum_by-take-le _ reactions (length reactions)) in
    let fits : sum_by (share_of species) (all_rated step reactions) ≤ certain = omega (arith, together, most, part) in
    grind (arith, nat_tests)

both : (front here : Bool) → front ≡ true → here ≡ true → (front && here) ≡ true
both front here first second = rw (first, second) refl

-- the words are enough for reactions that all have rates
pub rates_enough : (count step : ℕ) (reactions : List Reaction) → All HasRate reactions → are_enough count (all_rated step reactions) ≡ true
rates_enough zero step reactions rated = refl
rates_enough (suc species) step reactions rated = both _ _ (rates_enough species step reactions rated) (enough_of step reactions species rated)

-- a reaction that has a rate was given no probability
no_chance : (rate chance : Option ℕ) → is_some (rate_left rate chance) ≡ true → unwrap_or chance 0 ≡ 0
no_chance rate None some = refl
no_chance rate (Some chance) some = absurd (let no : false ≡ true = some in cc)

nothing_added : (alone : Bool) (chance : ℕ) → (alone ≡ true → chance ≡ 0) → (if alone then chance else 0) ≡ 0
nothing_added true chance none = none refl
nothing_added false chance none = refl

no_chances : (species : ℕ) (said : List ReactionSaid) (number : ℕ) (schemes : List Scheme) → All HasRate (numbered (reaction_made said) number schemes) → chance_sum species (numbered (reaction_made said) number schemes) (numbered (λ number (_ : Scheme). nearest (chance_said number) said) number schemes) ≡ 0
no_chances species said number [] rated = refl
no_chances species said number (scheme ∷ schemes) rated =
    let made = reaction_made said number scheme in
    let more = numbered (reaction_made said) (number + 1) schemes in
    let here : chance_alone species made (nearest (chance_said number) said) ≡ 0 =
    nothing_added (reacts_alone species scheme.reactants) _
    (λ alone. no_chance scheme.rate (nearest (chance_said number) said) (All-head HasRate made more rated (alone_is_one species scheme.reactants alone))) in
    let rest = no_chances species said (number + 1) schemes (All-tail HasRate made more rated) in
    omega (arith, here, rest)

shared_of : (count : ℕ) (said : List ReactionSaid) → All HasRate (reactions_of said) → are_shared count (reactions_of said) (chances_of said) ≡ true
shared_of zero said rated = refl
shared_of (suc species) said rated =
    let none = no_chances species said 0 (schemes_of said) rated in
    both _ _ (shared_of species said rated) (let fits : chance_sum species (reactions_of said) (chances_of said) ≤ whole_chance = omega (arith, none) in grind (arith, nat_tests))

-- and one whole is enough for their probabilities, since none was given
pub rates_leave_all : (count step : ℕ) (said : List ReactionSaid) → All HasRate (reactions_of said) → are_shared count (all_rated step (reactions_of said)) (chances_of said) ≡ true
rates_leave_all count step said rated = shared_kept count step (reactions_of said) (chances_of said) ∙ shared_of count said rated
