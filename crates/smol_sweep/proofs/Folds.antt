-- The values of a line, run by run.
use Rattle.std.proofs.Common.{◌≡◌, ℕ, suc, ◌+◌, ◌-◌, ◌<◌, ◌≤◌, List, [], ◌∷◌, ◌++◌, Option, None, Some, All, arith, refl, sym, ap, subst, ◌∙◌}
use Rattle.std.specs.Prelude.{fold, length, max, min, slice_index}
use Rattle.std.proofs.Math.Nat.{min-eq_right}
use Rattle.std.proofs.lemmas.List.Elements.{All-get_or, All-nil, All-cons, All-head, All-tail}
use Rattle.smol_sweep.specs.declared.outcome.Outcome.{Outcome}
use Rattle.smol_sweep.specs.declared.outcome.Outcome.TheVariants.{Ended, NoPlace, Over}
use Rattle.smol_sweep.specs.declared.lines.Told.{Told}
use Rattle.smol_sweep.specs.declared.lines.Told.TheVariants.{Least, Greatest, Sum}
use Rattle.smol_sweep.specs.Table.{AreAlike, IsAlike, TellsOf, ended_in, first_length, for_species, joined_by, of_species, start_of, sum_line, sums, value_of, with_outcome}

-- run by run is count by count, over those that came to their end
by_counts : (told : Told) (species value : ℕ) (outcomes : List Outcome)
    → fold (with_outcome told species) value outcomes ≡ fold (joined_by told) value (of_species species (ended_in outcomes))
by_counts told species value [] = refl
by_counts told species value (Ended counts ∷ outcomes) = by_counts told species (joined_by told value (slice_index counts species)) outcomes
by_counts told species value (NoPlace ∷ outcomes) = by_counts told species value outcomes
by_counts told species value (Over ∷ outcomes) = by_counts told species value outcomes

summed : (value : ℕ) (counts : List ℕ) → fold (joined_by Sum) value counts ≡ fold (λ sum count. sum + count) value counts
summed value [] = refl
summed value (count ∷ counts) = summed (value + count) counts

greatest_found : (value : ℕ) (counts : List ℕ) → fold (joined_by Greatest) value counts ≡ fold max value counts
greatest_found value [] = refl
greatest_found value (count ∷ counts) = greatest_found (max value count) counts

least_found : (value : ℕ) (counts : List ℕ) → fold (joined_by Least) value counts ≡ fold min value counts
least_found value [] = refl
least_found value (count ∷ counts) = least_found (min value count) counts

-- so many counts, of which none is too large
abbrev AreFew : ℕ → List ℕ → Type 0
AreFew species counts = (length counts ≡ species) × All (λ count. count ≤ 1000000) counts

ended_are_few : (species : ℕ) (outcomes : List Outcome) → All (IsAlike species) outcomes → All (AreFew species) (ended_in outcomes)
ended_are_few species [] alike = All-nil (AreFew species)
ended_are_few species (Ended counts ∷ outcomes) alike =
    All-cons (AreFew species) counts (ended_in outcomes) (All-head (IsAlike species) (Ended counts) outcomes alike)
    (ended_are_few species outcomes (All-tail (IsAlike species) (Ended counts) outcomes alike))
ended_are_few species (NoPlace ∷ outcomes) alike = ended_are_few species outcomes (All-tail (IsAlike species) NoPlace outcomes alike)
ended_are_few species (Over ∷ outcomes) alike = ended_are_few species outcomes (All-tail (IsAlike species) Over outcomes alike)

-- the value of a line over runs, of which there is one at least
value_over : (told : Told) (species count : ℕ) (runs : List (List ℕ)) → species < count → first_length runs ≡ Some count
    → All (AreFew count) runs → fold (joined_by told) (start_of told) (of_species species runs) ≡ value_of told (of_species species runs)
value_over told species count [] within some few = cc some
value_over Sum species count (counts ∷ runs) within some few = summed 0 (of_species species (counts ∷ runs))
value_over Greatest species count (counts ∷ runs) within some few = greatest_found 0 (of_species species (counts ∷ runs))
value_over Least species count (counts ∷ runs) within some few =
    let first = All-head (AreFew count) counts runs few in
    let short : species < length counts = omega (arith, within, first.0) in
    let small : slice_index counts species ≤ 1000000 = All-get_or (λ (n : ℕ). n ≤ 1000000) counts species 0 short first.1 in
    least_found 1000000 (of_species species (counts ∷ runs))
    ∙ ap (λ (n : ℕ). fold min n (of_species species runs)) (min-eq_right small)

pub value_is : (told : Told) (species count : ℕ) (outcomes : List Outcome) → species < count → TellsOf count outcomes
    → fold (with_outcome told species) (start_of told) outcomes ≡ value_of told (of_species species (ended_in outcomes))
value_is told species count outcomes within tells =
    by_counts told species (start_of told) outcomes
    ∙ value_over told species count (ended_in outcomes) within tells.some (ended_are_few count outcomes tells.alike)

-- where species are left, the next one comes first
pub species_left : (told : Told) (runs : List (List ℕ)) (index species : ℕ) → index < species
    → for_species told runs index (species - index) ≡ value_of told (of_species index runs) ∷ for_species told runs (index + 1) (species - (index + 1))
species_left told runs index species within =
    let more : species - index ≡ suc (species - (index + 1)) = omega (arith, within) in
    ap (for_species told runs index) more

length_is : (species count : ℕ) (runs : List (List ℕ)) → first_length runs ≡ Some count → All (AreFew species) runs → count ≡ species
length_is species count [] some few = cc some
length_is species count (counts ∷ runs) some few = let first = All-head (AreFew species) counts runs few in cc (some, first.0)

-- runs that tell of the same species tell of as many as the first of them
pub tells_of : (outcomes : List Outcome) (count : ℕ) → AreAlike outcomes → first_length (ended_in outcomes) ≡ Some count → TellsOf count outcomes
tells_of outcomes count alike some =
    let same = length_is alike.species count (ended_in outcomes) some (ended_are_few alike.species outcomes alike.alike) in
    record { some = some; alike = subst (λ (n : ℕ). All (IsAlike n) outcomes) (sym same) alike.alike }

pub sums_are : (runs : List (List ℕ)) (count : ℕ) → first_length runs ≡ Some count
    → sums runs ≡ sum_line Least runs count ++ sum_line Greatest runs count ++ sum_line Sum runs count
sums_are [] count some = cc some
sums_are (counts ∷ runs) count some =
    let same : length counts ≡ count = cc some in
    ap (λ (n : ℕ). sum_line Least (counts ∷ runs) n ++ sum_line Greatest (counts ∷ runs) n ++ sum_line Sum (counts ∷ runs) n) same

pub no_sums : (runs : List (List ℕ)) → first_length runs ≡ None → sums runs ≡ []
no_sums [] none = refl
no_sums (counts ∷ runs) none = cc none

pub ruleset last_lines = (tells_of, sums_are, no_sums)
