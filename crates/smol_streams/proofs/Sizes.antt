-- A displacement is even, and at most twelve difsteps large, with two ticks for rounding.
use Rattle.std.proofs.Common.{◌≡◌, ℕ, zero, suc, ◌+◌, ◌*◌, ◌%◌, ◌^◌, ◌<◌, ◌≤◌, List, sum, flat_map, Bool, true, false, nat_lt, if◌then◌else◌, ℤ, pos, ◌+ℤ◌, ◌-ℤ◌, ◌*ℤ◌, unsigned_abs, refl, ap, arith}
use Rattle.std.proofs.lemmas.Bool.Decides.{nat_tests}
use Rattle.std.proofs.lemmas.Grind.{common_steps}
use Rattle.std.proofs.lemmas.Int.{ints}
use Rattle.rand_chacha.specs.Block.{block_word}
use Rattle.smol_geom.specs.Axes.{IsEven}
use Rattle.smol_streams.specs.Displacement.{draws_of, words_from, twelve_draws, centred_sum, floor_of, scaled, place_of_axis, displacement_on}
use Rattle.smol_streams.specs.Words.{key_of_seed, word_under}
use Rattle.smol_streams.proofs.Scales.{scaled_size, scaled_even}

remainder_small : (n : ℕ) → n % 2 ^ 32 < 2 ^ 32
remainder_small n = omega arith

-- a word has 32 bits
pub word_small : (key : List ℕ) (stream place : ℕ) → word_under key stream place < 2 ^ 32
unfolding word_under block_word
word_small key stream place = remainder_small _

-- so each of its two draws has 16
halves_small : (word : ℕ) → word < 2 ^ 32 → sum (draws_of word) ≤ 131070
halves_small word small = omega arith

-- the draws of so many words
draws_small : (key : List ℕ) (stream place n : ℕ) → sum (flat_map draws_of (words_from key stream place n)) ≤ 131070 * n
draws_small key stream place zero = omega arith
draws_small key stream place (suc n) =
    let so_far = draws_small key stream place n in
    let word = halves_small (word_under key stream (place + n)) (word_small key stream (place + n)) in
    grind (arith, common_steps, so_far, word)

centred_small : (total : ℕ) → total ≤ 786420 → unsigned_abs (pos total -ℤ pos 393210) ≤ 393210
centred_small total small = omega (arith, ints)

-- a sum of twelve draws is no farther from its mean than the mean is from 0
pub centred_sum_size : (key : List ℕ) (stream place : ℕ) → unsigned_abs (centred_sum key stream place) ≤ 393210
centred_sum_size key stream place =
    centred_small (sum (twelve_draws key stream place)) (draws_small key stream place 6)

chosen_even : (here : Bool) (x : ℤ) → IsEven x → IsEven (if here then x else pos 0)
chosen_even true x even = even
chosen_even false x even = refl

chosen_size : (here : Bool) (x : ℤ) (k : ℕ) → unsigned_abs x ≤ k → unsigned_abs (if here then x else pos 0) ≤ k
chosen_size true x k small = small
chosen_size false x k small = omega arith

pub displacement_on_even : (seed serial k s dims axis : ℕ) → IsEven (displacement_on seed serial k s dims axis)
displacement_on_even seed serial k s dims axis =
    chosen_even (nat_lt axis dims) _ (scaled_even (centred_sum (key_of_seed seed) serial (place_of_axis k axis)) s)

pub displacement_on_size : (seed serial k s dims axis : ℕ) → unsigned_abs (displacement_on seed serial k s dims axis) ≤ 12 * s + 2
displacement_on_size seed serial k s dims axis =
    let g = centred_sum (key_of_seed seed) serial (place_of_axis k axis) in
    chosen_size (nat_lt axis dims) (scaled g s) (12 * s + 2) (scaled_size g s (centred_sum_size (key_of_seed seed) serial (place_of_axis k axis)))

-- on an axis that isn't in use there is none
pub displacement_on_unused : (seed serial k s dims axis : ℕ) → dims ≤ axis → displacement_on seed serial k s dims axis ≡ pos 0
displacement_on_unused seed serial k s dims axis unused =
    let past : nat_lt axis dims ≡ false = grind (arith, nat_tests) in
    ap (λ (here : Bool). if here then scaled (centred_sum (key_of_seed seed) serial (place_of_axis k axis)) s else pos 0) past

scaled_still : (g : ℤ) → scaled g 0 ≡ pos 0
scaled_still g = let none : pos 0 *ℤ g ≡ pos 0 = omega (arith, ints) in ap (λ (x : ℤ). pos 2 *ℤ floor_of (x +ℤ pos 32768) 65536) none

chosen_still : (here : Bool) (x : ℤ) → x ≡ pos 0 → (if here then x else pos 0) ≡ pos 0
chosen_still true x still = still
chosen_still false x still = refl

-- with a difstep of 0 there is none either
pub displacement_on_still : (seed serial k dims axis : ℕ) → displacement_on seed serial k 0 dims axis ≡ pos 0
displacement_on_still seed serial k dims axis =
    let g = centred_sum (key_of_seed seed) serial (place_of_axis k axis) in chosen_still (nat_lt axis dims) (scaled g 0) (scaled_still g)
