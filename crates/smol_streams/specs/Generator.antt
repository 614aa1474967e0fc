-- What a `Streams` keeps true of its generator.
use Rattle.std.specs.Prelude.{◌≡◌, ℕ}
use Rattle.rand_chacha.specs.ChaCha.{ChaCha}
use Rattle.smol_streams.specs.Words.{key_of_seed}

-- the generator has the seed's key, wherever it stands
abbrev pub HasKeyOf : ChaCha → ℕ → Type 0
HasKeyOf g seed = g.key ≡ key_of_seed seed

-- the same generator at another place
abbrev pub moved : ChaCha → ℕ → ℕ → ChaCha
moved g stream place = record { key = g.key; stream = stream; word_pos = place }
