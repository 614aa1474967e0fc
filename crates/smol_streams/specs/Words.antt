-- Random words: each is a function of the seed, the stream and the place, whatever was drawn before.
use Rattle.std.specs.Prelude.{ℕ, ◌+◌, ◌*◌, ◌/◌, ◌^◌, List, ◌++◌, replicate}
use Rattle.std.specs.Int.{w64, to_le_bytes}
use Rattle.rand_chacha.specs.ChaCha.{word_at, key_of}

-- the key of a seed: the seed's eight bytes, least first, and 24 zero bytes
unfoldable pub key_of_seed : ℕ → List ℕ
key_of_seed seed = key_of (to_le_bytes w64 seed ++ replicate 24 0)

-- the ChaCha8 word, after four double rounds, at a place of a stream under a key
unfoldable pub word_under : List ℕ → ℕ → ℕ → ℕ
word_under key stream place = word_at 4 key stream place

-- the word of a seed at a place of a stream
abbrev pub word_of : ℕ → ℕ → ℕ → ℕ
word_of seed stream place = word_under (key_of_seed seed) stream place

-- the number below n that two neighbouring words give, the word at the place being the low one
abbrev pub number_below : ℕ → ℕ → ℕ → ℕ → ℕ
number_below seed stream place n = (word_of seed stream place + 2 ^ 32 * word_of seed stream (place + 1)) * n / 2 ^ 64
