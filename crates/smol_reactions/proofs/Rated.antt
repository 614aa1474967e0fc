-- Reactions of a rate get their thresholds one after another.
use Rattle.std.proofs.Common.{◌≡◌, ◌≢◌, ℕ, zero, suc, ◌+◌, ◌<◌, ◌≤◌, ◌&&◌, Bool, true, false, nat_le, nat_lt, inl, inr, List, [], ◌∷◌, length, take, get_or, set, sum_by, All, Option, None, Some, refl, sym, ap, ◌∙◌, arith, subst, if◌then◌else◌}
use Rattle.std.proofs.lemmas.Bool.{cases_lt}
use Rattle.std.proofs.lemmas.Bool.Decides.{nat_tests}
use Rattle.std.proofs.lemmas.List.Sums.{sum_by-cons, sum_by-take-le}
use Rattle.std.proofs.lemmas.List.Elements.{All-nil, All-cons, All-head, All-tail}
use Rattle.smol_num.specs.declared.quantities.Threshold.{Threshold}
use Rattle.smol_rates.specs.Rates.{share, threshold_of}
use Rattle.smol_types.specs.declared.reaction.Reaction.{Reaction}
use Rattle.smol_types.specs.Limits.{certain}
use Rattle.smol_types.specs.Reactions.{IsReaction, share_of}
use Rattle.smol_line.specs.Probability.{whole_chance}
use Rattle.smol_rates.proofs.RatesLemmas.{threshold_most}
use Rattle.smol_rates.proofs.Sharing.{share_most}
use Rattle.smol_reactions.specs.Content.{are_shared, chance_alone, chance_sum}
use Rattle.smol_reactions.specs.Numbered.{numbered, changed}
use Rattle.smol_reactions.specs.Reaction.{HasSmallRate}
use Rattle.smol_reactions.specs.Rates.{all_rated, are_enough, rate_alone, rate_sum, rated_species, reaction_rated, share_at, threshold_at, threshold_by, with_threshold}
use Rattle.smol_reactions.proofs.Lists.{changed_is, length-numbered, numbered_changed}

-- what is made of the first so many reactions
abbrev pub rated_upto : ℕ → List Reaction → ℕ → ℕ → Reaction → Reaction
rated_upto step all upto number reaction = if nat_lt number upto then reaction_rated step all number reaction else reaction

-- the reactions of which the first so many have their thresholds
abbrev pub first_rated : ℕ → List Reaction → ℕ → List Reaction
first_rated step all upto = numbered (rated_upto step all upto) 0 all

chosen_alike : (f : Reaction → ℕ) (b : Bool) (new old : Reaction) → f new ≡ f old → f (if b then new else old) ≡ f old
chosen_alike f true new old same = same
chosen_alike f false new old same = refl

chosen_small : (b : Bool) (new old : Reaction) → HasSmallRate new → HasSmallRate old → HasSmallRate (if b then new else old)
chosen_small true new old first second = first
chosen_small false new old first second = second

-- a reaction keeps its rate when it gets its threshold
rate_kept : (step : ℕ) (all : List Reaction) (upto species number : ℕ) (reaction : Reaction) → rate_alone species (rated_upto step all upto number reaction) ≡ rate_alone species reaction
rate_kept step all upto species number reaction =
    chosen_alike (rate_alone species) (nat_lt number upto) (reaction_rated step all number reaction) reaction refl

sum-numbered : (f : Reaction → ℕ) (make : ℕ → Reaction → Reaction) → ((n : ℕ) (reaction : Reaction) → f (make n reaction) ≡ f reaction) → (number : ℕ) (list : List Reaction) → sum_by f (numbered make number list) ≡ sum_by f list
sum-numbered f make keeps number [] = refl
sum-numbered f make keeps number (reaction ∷ list) =
    let here = keeps number reaction in
    let rest = sum-numbered f make keeps (number + 1) list in
    omega (arith, here, rest, sum_by-cons f reaction list, sum_by-cons f (make number reaction) (numbered make (number + 1) list))

sum-take-numbered : (f : Reaction → ℕ) (make : ℕ → Reaction → Reaction) → ((n : ℕ) (reaction : Reaction) → f (make n reaction) ≡ f reaction) → (count number : ℕ) (list : List Reaction) → sum_by f (take count (numbered make number list)) ≡ sum_by f (take count list)
sum-take-numbered f make keeps zero number list = refl
sum-take-numbered f make keeps (suc count) number [] = refl
sum-take-numbered f make keeps (suc count) number (reaction ∷ list) =
    let here = keeps number reaction in
    let rest = sum-take-numbered f make keeps count (number + 1) list in
    omega (arith, here, rest, sum_by-cons f reaction (take count list), sum_by-cons f (make number reaction) (take count (numbered make (number + 1) list)))

-- so the shares stay what they are
share_kept : (step : ℕ) (all : List Reaction) (upto number species : ℕ) → share_at step (first_rated step all upto) number species ≡ share_at step all number species
share_kept step all upto number species =
    let keeps = rate_kept step all upto species in
    let whole = sum-numbered (rate_alone species) (rated_upto step all upto) keeps 0 all in
    let front = sum-take-numbered (rate_alone species) (rated_upto step all upto) keeps number 0 all in
    let with = sum-take-numbered (rate_alone species) (rated_upto step all upto) keeps (number + 1) 0 all in
    λ i. share (threshold_of (whole i) step) (front i) (with i) (whole i)

get-numbered : (make : ℕ → Reaction → Reaction) (number i : ℕ) (list : List Reaction) (d : Reaction) → i < length list → ((reaction : Reaction) → make (number + i) reaction ≡ reaction) → get_or (numbered make number list) i d ≡ get_or list i d
get-numbered make number i [] d within same = absurd (omega arith)
get-numbered make number zero (reaction ∷ list) d within same =
    let first : number + 0 ≡ number = omega arith in
    ap (λ n. make n reaction) (sym first) ∙ same reaction
get-numbered make number (suc i) (reaction ∷ list) d within same =
    get-numbered make (number + 1) i list d (omega arith) (λ other. let place : number + 1 + i ≡ number + suc i = omega arith in ap (λ n. make n other) place ∙ same other)

not_yet : (step : ℕ) (all : List Reaction) (upto number : ℕ) (reaction : Reaction) → upto ≤ number → rated_upto step all upto number reaction ≡ reaction
not_yet step all upto number reaction past =
    let no : nat_lt number upto ≡ false = grind (arith, nat_tests) in rw no refl

already : (step : ℕ) (all : List Reaction) (upto number : ℕ) (reaction : Reaction) → number < upto → rated_upto step all upto number reaction ≡ reaction_rated step all number reaction
already step all upto number reaction below =
    let yes : nat_lt number upto ≡ true = grind (arith, nat_tests) in rw yes refl

-- at the start none is rated, and at the end all are
pub first_none : (step : ℕ) (all : List Reaction) → all ≡ first_rated step all 0
first_none step all = sym (same_all 0 all)
  where
    same_all : (number : ℕ) (list : List Reaction) → numbered (rated_upto step all 0) number list ≡ list
    same_all number [] = refl
    same_all number (reaction ∷ list) =
        ap (λ first. first ∷ numbered (rated_upto step all 0) (number + 1) list) (not_yet step all 0 number reaction (omega arith))
        ∙ ap (λ rest. reaction ∷ rest) (same_all (number + 1) list)

pub first_all : (step : ℕ) (all : List Reaction) (upto : ℕ) → length all ≤ upto → first_rated step all upto ≡ all_rated step all
first_all step all upto past = same_all 0 all (omega arith)
  where
    same_all : (number : ℕ) (list : List Reaction) → number + length list ≤ upto → numbered (rated_upto step all upto) number list ≡ numbered (reaction_rated step all) number list
    same_all number [] fits = refl
    same_all number (reaction ∷ list) fits =
        ap (λ first. first ∷ numbered (rated_upto step all upto) (number + 1) list) (already step all upto number reaction (omega arith))
        ∙ ap (λ rest. reaction_rated step all number reaction ∷ rest) (same_all (number + 1) list (omega arith))

-- rates stay small
numbered_small : (step : ℕ) (all : List Reaction) (upto number : ℕ) (list : List Reaction) → All HasSmallRate list → All HasSmallRate (numbered (rated_upto step all upto) number list)
numbered_small step all upto number [] small = All-nil HasSmallRate
numbered_small step all upto number (reaction ∷ list) small =
    All-cons HasSmallRate (rated_upto step all upto number reaction) (numbered (rated_upto step all upto) (number + 1) list)
    (chosen_small (nat_lt number upto) (reaction_rated step all number reaction) reaction (All-head HasSmallRate reaction list small) (All-head HasSmallRate reaction list small))
    (numbered_small step all upto (number + 1) list (All-tail HasSmallRate reaction list small))

pub first_small : (step : ℕ) (all : List Reaction) (upto : ℕ) → All HasSmallRate all → All HasSmallRate (first_rated step all upto)
first_small step all upto small = numbered_small step all upto 0 all small

pub length-first : (step : ℕ) (all : List Reaction) (upto : ℕ) → length (first_rated step all upto) ≡ length all
length-first step all upto = length-numbered (rated_upto step all upto) 0 all

pub some_of : (list : List Reaction) → 0 < length list → Reaction
some_of [] some = absurd (omega arith)
some_of (reaction ∷ list) some = reaction

-- one more gets its threshold
pub first_more : (step : ℕ) (all : List Reaction) (number : ℕ) (threshold : Threshold) (d : Reaction) → number < length all → threshold ≡ threshold_at step (first_rated step all number) number (get_or (first_rated step all number) number d) → changed (with_threshold threshold) number (first_rated step all number) ≡ first_rated step all (number + 1)
first_more step all number threshold d within is =
    let old = first_rated step all number in
    let count : length old ≡ length all = length-numbered (rated_upto step all number) 0 all in
    let inside : number < length old = omega (arith, count) in
    let there = get_or old number d in
    let given : with_threshold threshold there ≡ reaction_rated step all number there =
    ap (λ threshold. with_threshold threshold there)
    (is ∙ ap (λ (share : ℕ → Threshold). threshold_by share there.threshold (rated_species there.rate there.reactants)) (λ i species. share_kept step all number number species i)) in
    changed_is (with_threshold threshold) number old d inside
    ∙ ap (set old number) given
    ∙ sym (changed_is (reaction_rated step all number) number old d inside)
    ∙ sym (numbered_changed (rated_upto step all number) (rated_upto step all (number + 1)) (reaction_rated step all number) 0 number number all (omega arith)
    (λ k reaction other. others k reaction other)
    (λ reaction. already step all (number + 1) number reaction (omega arith) ∙ ap (reaction_rated step all number) (sym (not_yet step all number number reaction (omega arith)))))
  where
    others : (k : ℕ) (reaction : Reaction) → k ≢ number → rated_upto step all (number + 1) k reaction ≡ rated_upto step all number k reaction
    others k reaction other =
        elim (cases_lt k number) [
          | inl below ↦ already step all (number + 1) k reaction (omega arith) ∙ sym (already step all number k reaction below)
          | inr past ↦ not_yet step all (number + 1) k reaction (omega arith) ∙ sym (not_yet step all number k reaction past)
        ]

-- the sum of one rate more is no smaller
sum-suc : (species : ℕ) (list : List Reaction) (number : ℕ) → rate_sum species (take number list) ≤ rate_sum species (take (suc number) list)
sum-suc species [] zero = omega arith
sum-suc species [] (suc number) = omega arith
sum-suc species (reaction ∷ list) zero = omega arith
sum-suc species (reaction ∷ list) (suc number) =
    let rest = sum-suc species list number in
    omega (arith, rest, sum_by-cons (rate_alone species) reaction (take number list), sum_by-cons (rate_alone species) reaction (take (suc number) list))

pub sum-more : (species : ℕ) (list : List Reaction) (number : ℕ) → rate_sum species (take number list) ≤ rate_sum species (take (number + 1) list)
sum-more species list number = let next : number + 1 ≡ suc number = omega arith in rw next (sum-suc species list number)

enough_too : (front here : Bool) → (front && here) ≡ true → (front ≡ true) × (here ≡ true)
enough_too true here both = (refl, both)
enough_too false here both = absurd (let no : false ≡ true = both in cc)

-- the words are enough for each species below the count
pub enough_at : (count species : ℕ) (reactions : List Reaction) → are_enough count reactions ≡ true → species < count → sum_by (share_of species) reactions ≤ certain
enough_at zero species reactions enough below = absurd (omega arith)
enough_at (suc last) species reactions enough below =
    let parts = enough_too (are_enough last reactions) (nat_le (sum_by (share_of last) reactions) certain) enough in
    elim (cases_lt species last) [
      | inl less ↦ enough_at last species reactions parts.0 less
      | inr more ↦
          let same : last ≡ species = omega arith in
          let fits : sum_by (share_of last) reactions ≤ certain = let test = parts.1 in grind (arith, nat_tests) in
          subst (λ (n : ℕ). sum_by (share_of n) reactions ≤ certain) same fits
    ]

not_true : (b : Bool) → (b ≡ true → ⊥) → b ≡ false
not_true true other = absurd (other refl)
not_true false other = refl

-- where they aren't enough for one, they aren't for more
pub not_enough : (more species : ℕ) (reactions : List Reaction) → nat_le (sum_by (share_of species) reactions) certain ≡ false → are_enough (species + 1 + more) reactions ≡ false
not_enough more species reactions past =
    not_true (are_enough (species + 1 + more) reactions)
    (λ enough.
    let fits = enough_at (species + 1 + more) species reactions enough (omega arith) in
    let yes : nat_le (sum_by (share_of species) reactions) certain ≡ true = grind (arith, nat_tests) in
    let no : false ≡ true = sym past ∙ yes in cc)

-- a threshold leaves the sums of the probabilities as they are
chances-numbered : (step : ℕ) (all : List Reaction) (species number : ℕ) (list : List Reaction) (chances : List (Option ℕ)) → chance_sum species (numbered (reaction_rated step all) number list) chances ≡ chance_sum species list chances
chances-numbered step all species number [] chances = refl
chances-numbered step all species number (reaction ∷ list) [] = refl
chances-numbered step all species number (reaction ∷ list) (chance ∷ chances) =
    ap (λ rest. chance_alone species reaction chance + rest) (chances-numbered step all species (number + 1) list chances)

pub shared_kept : (count step : ℕ) (list : List Reaction) (chances : List (Option ℕ)) → are_shared count (all_rated step list) chances ≡ are_shared count list chances
shared_kept zero step list chances = refl
shared_kept (suc species) step list chances =
    let before = shared_kept species step list chances in
    let here = chances-numbered step list species 0 list chances in
    λ i. before i && nat_le (here i) whole_chance

-- and reactions sound
share_fits : (step : ℕ) (all : List Reaction) (number species : ℕ) → (share_at step all number species).0 ≤ certain
share_fits step all number species =
    let upto = sum_by-take-le (rate_alone species) all (number + 1) in
    let most = threshold_most (rate_sum species all) step in
    let part = share_most (threshold_of (rate_sum species all) step) (rate_sum species (take number all)) (rate_sum species (take (number + 1) all)) (rate_sum species all) upto in
    omega (arith, most, part)

by_species : (given : ℕ → Threshold) (usual : Threshold) (species : Option ℕ) → ((species : ℕ) → (given species).0 ≤ certain) → usual.0 ≤ certain → (threshold_by given usual species).0 ≤ certain
by_species given usual None gives fits = fits
by_species given usual (Some species) gives fits = gives species

reaction_rated_sound : (axes count step : ℕ) (all : List Reaction) (number : ℕ) (reaction : Reaction) → IsReaction axes count reaction → IsReaction axes count (reaction_rated step all number reaction)
reaction_rated_sound axes count step all number reaction sound = record {
  order_above = sound.order_above;
  order_below = sound.order_below;
  reactant_count = sound.reactant_count;
  reactants = sound.reactants;
  product_count = sound.product_count;
  products = sound.products;
  radius_order = sound.radius_order;
  radius_above = sound.radius_above;
  radius_below = sound.radius_below;
  threshold = by_species (share_at step all number) reaction.threshold (rated_species reaction.rate reaction.reactants) (share_fits step all number) sound.threshold;
  rate_order = sound.rate_order;
  rate_below = sound.rate_below;
  placement = sound.placement;
}

numbered_sound : (axes count step : ℕ) (all : List Reaction) (number : ℕ) (list : List Reaction) → All (IsReaction axes count) list → All (IsReaction axes count) (numbered (reaction_rated step all) number list)
numbered_sound axes count step all number [] sound = All-nil (IsReaction axes count)
numbered_sound axes count step all number (reaction ∷ list) sound =
    All-cons (IsReaction axes count) (reaction_rated step all number reaction) (numbered (reaction_rated step all) (number + 1) list)
    (reaction_rated_sound axes count step all number reaction (All-head (IsReaction axes count) reaction list sound))
    (numbered_sound axes count step all (number + 1) list (All-tail (IsReaction axes count) reaction list sound))

pub all_rated_sound : (axes count step : ℕ) (list : List Reaction) → All (IsReaction axes count) list → All (IsReaction axes count) (all_rated step list)
all_rated_sound axes count step list sound = numbered_sound axes count step list 0 list sound
