-- Which random word each draw of a run takes. A word is a function of the seed, a stream and a place in it, so no draw depends
-- on what was drawn before.
use Rattle.std.specs.Prelude.{ℕ, ◌+◌, ◌*◌, ◌/◌, ◌^◌, ℤ, pos, ◌+ℤ◌, ◌-ℤ◌, unsigned_abs}
use Rattle.smol_streams.specs.Words.{word_of, number_below}

-- in step k a molecule's stream has 32 places from 32*k on: 18 words for its displacement, then these two
abbrev pub first_order_word : ℕ → ℕ → ℕ → ℕ
first_order_word seed serial k = word_of seed serial (32 * k + 18)

-- the axis that a word draws of so many in use
abbrev pub axis_drawn : ℕ → ℕ → ℕ
axis_drawn dims word = word * dims / 2 ^ 32

-- the axis along which the products of one molecule are taken apart
abbrev pub lone_axis : ℕ → ℕ → ℕ → ℕ → ℕ
lone_axis seed dims serial k = axis_drawn dims (word_of seed serial (32 * k + 19))

-- the stream of two molecules, by their ranks in the list after motion
abbrev pub pair_stream : ℕ → ℕ → ℕ
pair_stream rank_a rank_b = 2 ^ 63 + rank_a * 2 ^ 20 + rank_b

-- the word that says whether two molecules react by reaction r in step k
abbrev pub pair_word : ℕ → ℕ → ℕ → ℕ → ℕ → ℕ
pair_word seed rank_a rank_b k r = word_of seed (pair_stream rank_a rank_b) (2048 * k + 2 * r)

-- the axis along which their products are taken apart
abbrev pub pair_axis : ℕ → ℕ → ℕ → ℕ → ℕ → ℕ → ℕ
pair_axis seed dims rank_a rank_b k r = axis_drawn dims (word_of seed (pair_stream rank_a rank_b) (2048 * k + 2 * r + 1))

-- the word that command c draws at step k for the molecule of a rank in the list before it
abbrev pub command_word : ℕ → ℕ → ℕ → ℕ → ℕ
command_word seed c k rank = word_of seed (3 * 2 ^ 62 + c) (k * 2 ^ 20 + rank)

-- an odd coordinate between the planes of two walls, drawn for a molecule at a try of its placement
abbrev pub coordinate_drawn : ℕ → ℕ → ℕ → ℕ → ℤ → ℤ → ℤ
coordinate_drawn seed serial try axis low high =
    low +ℤ pos (1 + 2 * number_below seed (2 ^ 62 + serial) (8 * try + 2 * axis) (unsigned_abs (high -ℤ low) / 2))
