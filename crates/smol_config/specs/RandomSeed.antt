-- `random_seed N`: the seed of the random words, 0 to 2^64 - 1. It stands once. A seed from the clock, `time`, is left out.
use Rattle.std.specs.Prelude.{ℕ, not, List, [], ◌∷◌, Option, None, Some, Result, codes}
use Rattle.std.specs.Str.{bytes_eq}
use Rattle.smol_text.specs.Reading.{Stated}
use Rattle.smol_types.specs.declared.fault.Kind.{Kind}
use Rattle.smol_types.specs.declared.fault.Kind.TheVariants.{NotInProfile}
use Rattle.smol_line.specs.Checks.{unless, passing}
use Rattle.smol_line.specs.Numbers.{count_in}
use Rattle.smol_line.specs.LookingBack.{nearest}
use Rattle.smol_config.specs.Once.{stands_once}
use Rattle.smol_config.specs.Said.{Said, seeds}

-- the greatest seed
abbrev pub most_seed : ℕ
most_seed = 18446744073709551615

abbrev pub said_seed : Said → Option ℕ
said_seed (seeds seed) = Some seed
said_seed other = None

-- the seed, where a line before gives it
abbrev pub random_seed_of : List Said → Option ℕ
random_seed_of before = nearest said_seed before

-- a seed
abbrev pub seed_in : List ℕ → Result ℕ Kind
seed_in word = passing (unless (not (bytes_eq word (codes "time"))) NotInProfile ∷ []) (count_in 0 most_seed word)

-- the seed of a line, by what a line before gives
unfoldable pub random_seed_in : Option ℕ → Stated → Result ℕ Kind
random_seed_in given line = stands_once given seed_in line
