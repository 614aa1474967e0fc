-- The table of the outcomes of runs whose seeds follow one another.
use Rattle.std.specs.Prelude.{◌≡◌, ℕ, zero, suc, ◌+◌, ◌≤◌, min, max, List, [], ◌∷◌, ◌++◌, Option, None, Some, All, codes, fold, length, slice_index, sum}
use Rattle.std.specs.Fmt.{decimal}
use Rattle.smol_meaning.specs.Lines.{spaced}
use Rattle.smol_sweep.specs.declared.outcome.Outcome.{Outcome}
use Rattle.smol_sweep.specs.declared.outcome.Outcome.TheVariants.{Ended, NoPlace, Over}
use Rattle.smol_sweep.specs.declared.lines.Told.{Told}
use Rattle.smol_sweep.specs.declared.lines.Told.TheVariants.{Least, Greatest, Sum}
use Rattle.smol_sweep.specs.Seeds.{seed_at}

-- the status with which a run alone ends so, and where it came to its end the number of molecules of each species
abbrev pub outcome_text : Outcome → List ℕ
outcome_text (Ended counts) = codes " 0" ++ spaced counts
outcome_text NoPlace = codes " 2"
outcome_text Over = codes " 6"

-- the line of a run: its seed, and what became of it
abbrev pub run_line : ℕ → Outcome → List ℕ
run_line seed outcome = decimal seed ++ outcome_text outcome ++ codes "\n"

-- the lines of runs in the order of their numbers, of which the first is `number`
abbrev pub run_lines : ℕ → ℕ → List Outcome → List ℕ
run_lines first number [] = []
run_lines first number (outcome ∷ outcomes) = run_line (seed_at first number) outcome ++ run_lines first (number + 1) outcomes

-- the counts of the runs that came to their end, run by run
abbrev pub ended_in : List Outcome → List (List ℕ)
ended_in [] = []
ended_in (Ended counts ∷ outcomes) = counts ∷ ended_in outcomes
ended_in (NoPlace ∷ outcomes) = ended_in outcomes
ended_in (Over ∷ outcomes) = ended_in outcomes

-- the counts of one species, run by run
abbrev pub of_species : ℕ → List (List ℕ) → List ℕ
of_species species [] = []
of_species species (counts ∷ runs) = slice_index counts species ∷ of_species species runs

-- the least of some numbers
abbrev pub least : List ℕ → ℕ
least [] = 0
least (number ∷ numbers) = fold min number numbers

-- the greatest of some numbers
abbrev pub greatest : List ℕ → ℕ
greatest numbers = fold max 0 numbers

-- the first word of a line over runs, and what it tells of the counts of a species
abbrev pub word_of : Told → List ℕ
word_of Least = codes "min"
word_of Greatest = codes "max"
word_of Sum = codes "sum"

abbrev pub value_of : Told → List ℕ → ℕ
value_of Least counts = least counts
value_of Greatest counts = greatest counts
value_of Sum counts = sum counts

-- what is told of each of so many species, from this one on
abbrev pub for_species : Told → List (List ℕ) → ℕ → ℕ → List ℕ
for_species told runs species zero = []
for_species told runs species (suc left) = value_of told (of_species species runs) ∷ for_species told runs (species + 1) left

-- a line that tells of each species, of which there are so many, over runs
abbrev pub sum_line : Told → List (List ℕ) → ℕ → List ℕ
sum_line told runs species = word_of told ++ spaced (for_species told runs 0 species) ++ codes "\n"

-- the last lines: over the runs that came to their end, where there are any
abbrev pub sums : List (List ℕ) → List ℕ
sums [] = []
sums (counts ∷ runs) =
    sum_line Least (counts ∷ runs) (length counts)
    ++ sum_line Greatest (counts ∷ runs) (length counts)
    ++ sum_line Sum (counts ∷ runs) (length counts)

-- the table of runs, of which the first has this seed
unfoldable pub table_of : ℕ → List Outcome → List ℕ
table_of first outcomes = run_lines first 0 outcomes ++ sums (ended_in outcomes)

-- where a run came to its end it tells of so many species, and of no more than 1,000,000 molecules of one
abbrev pub IsAlike : ℕ → Outcome → Type 0
IsAlike species (Ended counts) = (length counts ≡ species) × All (λ count. count ≤ 1000000) counts
IsAlike species NoPlace = Unit {0}
IsAlike species Over = Unit {0}

-- all runs that came to their end tell of the same species
pub record AreAlike (outcomes : List Outcome) : Type 0 where
  pub species : ℕ
  pub alike : All (IsAlike species) outcomes

-- of how many species the first of some runs tells
abbrev pub first_length : List (List ℕ) → Option ℕ
first_length [] = None
first_length (counts ∷ runs) = Some (length counts)

-- some runs came to their end, and all that did tell of so many species
pub record TellsOf (species : ℕ) (outcomes : List Outcome) : Type 0 where
  pub some : first_length (ended_in outcomes) ≡ Some species
  pub alike : All (IsAlike species) outcomes

-- how the value of a line is found, run by run: what is told of no count, and of some counts and one more
abbrev pub start_of : Told → ℕ
start_of Least = 1000000
start_of Greatest = 0
start_of Sum = 0

abbrev pub joined_by : Told → ℕ → ℕ → ℕ
joined_by Least value count = min value count
joined_by Greatest value count = max value count
joined_by Sum value count = value + count

abbrev pub with_outcome : Told → ℕ → ℕ → Outcome → ℕ
with_outcome told species value (Ended counts) = joined_by told value (slice_index counts species)
with_outcome told species value NoPlace = value
with_outcome told species value Over = value
