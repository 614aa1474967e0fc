-- How far a molecule diffuses in a step.
use Rattle.std.specs.Prelude.{ℕ, zero, suc, ◌+◌, ◌*◌, ◌/◌, ◌%◌, ◌^◌, List, [], ◌∷◌, ◌++◌, sum, flat_map, nat_lt, if◌then◌else◌, ℤ, pos, ◌+ℤ◌, ◌-ℤ◌, ◌*ℤ◌}
use Rattle.std.specs.Int.{int_div_euclid}
use Rattle.smol_geom.specs.declared.place.Step3.{Step3}
use Rattle.smol_streams.specs.Words.{key_of_seed, word_under}

-- so many words of a stream under a key, from a place on
abbrev pub words_from : List ℕ → ℕ → ℕ → ℕ → List ℕ
words_from key stream place zero = []
words_from key stream place (suc n) = words_from key stream place n ++ word_under key stream (place + n) ∷ []

-- the two draws of a word, 16 bits each: its low and its high half
abbrev pub draws_of : ℕ → List ℕ
draws_of word = word % 2 ^ 16 ∷ word / 2 ^ 16 ∷ []

-- the twelve draws of the six words from a place on
abbrev pub twelve_draws : List ℕ → ℕ → ℕ → List ℕ
twelve_draws key stream place = flat_map draws_of (words_from key stream place 6)

-- the sum of the twelve draws, less its mean
abbrev pub centred_sum : List ℕ → ℕ → ℕ → ℤ
centred_sum key stream place = pos (sum (twelve_draws key stream place)) -ℤ pos 393210

-- a number over a natural number, rounded down
abbrev pub floor_of : ℤ → ℕ → ℤ
floor_of z n = int_div_euclid z (pos n)

-- a centred sum g for a difstep of s micros, in ticks: a deviation of 65536 is one difstep, and the nearest micro is taken
abbrev pub scaled : ℤ → ℕ → ℤ
scaled g s = pos 2 *ℤ floor_of (pos s *ℤ g +ℤ pos 32768) 65536

-- the place of an axis's first word in step k: a step has 32 places in a molecule's stream, and an axis six of them
abbrev pub place_of_axis : ℕ → ℕ → ℕ
place_of_axis k axis = 32 * k + 6 * axis

-- the displacement on an axis, which is 0 on an axis that isn't in use
abbrev pub displacement_on : ℕ → ℕ → ℕ → ℕ → ℕ → ℕ → ℤ
displacement_on seed serial k s dims axis =
    if nat_lt axis dims then scaled (centred_sum (key_of_seed seed) serial (place_of_axis k axis)) s else pos 0

-- the displacement in step k of the molecule with this serial and difstep, where the first `dims` axes are in use
abbrev pub displacement : ℕ → ℕ → ℕ → ℕ → ℕ → Step3
displacement seed serial k s dims = record {
  0 = displacement_on seed serial k s dims 0 ∷ displacement_on seed serial k s dims 1 ∷ displacement_on seed serial k s dims 2 ∷ [];
}
