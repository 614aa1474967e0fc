-- `difc SPECIES+ V` and `difstep SPECIES+ V`: how far species move in a step. Of the lines that mean a species the last one counts.
use Rattle.std.specs.Prelude.{ℕ, ◌*◌, ◌/◌, ℤ, unsigned_abs, List, [], ◌∷◌, Result, Ok, if◌then◌else◌}
use Rattle.smol_num.specs.Root.{floor_root}
use Rattle.smol_text.specs.Reading.{Stated}
use Rattle.smol_types.specs.declared.fault.Kind.{Kind}
use Rattle.smol_types.specs.Limits.{longest}
use Rattle.smol_line.specs.declared.species_word.Chosen.{Chosen}
use Rattle.smol_line.specs.Words.{word_at}
use Rattle.smol_line.specs.Checks.{word_count, passing, with_value}
use Rattle.smol_line.specs.Numbers.{unsigned_in}
use Rattle.smol_line.specs.SpeciesWord.{chosen_in, is_chosen}
use Rattle.smol_config.specs.declared.motion.Motion.{Motion}
use Rattle.smol_config.specs.declared.motion.Motion.TheVariants as motion
use Rattle.smol_config.specs.Said.{Said, moves}

-- how large a diffusion coefficient may be, in billionths: 10^9 square length units per unit of time
abbrev pub most_difc : ℕ
most_difc = 1000000000000000000

-- a diffusion coefficient in billionths
abbrev pub difc_word : List ℕ → Result ℕ Kind
difc_word word = unsigned_in 9 most_difc word

-- a difstep in micros
abbrev pub difstep_word : List ℕ → Result ℕ Kind
difstep_word word = unsigned_in 6 longest word

-- which of the species of these names move with this diffusion coefficient, or with this difstep
unfoldable pub difc_in : List (List ℕ) → Stated → Result (Chosen × Motion) Kind
difc_in species line =
    passing (word_count 3 line ∷ [])
    (with_value (chosen_in species (word_at line 1)) (λ chosen.
    with_value (difc_word (word_at line 2)) (λ difc.
    Ok (chosen, motion.Difc difc))))

unfoldable pub difstep_in : List (List ℕ) → Stated → Result (Chosen × Motion) Kind
difstep_in species line =
    passing (word_count 3 line ∷ [])
    (with_value (chosen_in species (word_at line 1)) (λ chosen.
    with_value (difstep_word (word_at line 2)) (λ difstep.
    Ok (chosen, motion.Difstep difstep))))

-- how a species moves of which no line says it
abbrev pub still : Motion
still = motion.Difstep 0

-- how the species of a number moves, by the nearest line before that means it
abbrev pub motion_of : ℕ → List Said → Motion
motion_of number [] = still
motion_of number (moves chosen motion ∷ before) = if is_chosen number chosen then motion else motion_of number before
motion_of number (other ∷ before) = motion_of number before

-- the difstep of a motion in micros, where a step takes this time in nanos: the root of 2*D*dt, rounded down
abbrev pub difstep_of : ℤ → Motion → ℕ
difstep_of time (motion.Difc d) = floor_root (2 * d * unsigned_abs time / 1000000)
difstep_of time (motion.Difstep s) = s
