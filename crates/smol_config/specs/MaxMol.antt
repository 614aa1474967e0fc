-- `max_mol N`: how many molecules there may be, 1 to 1,000,000. It stands once, and 100,000 holds where it doesn't.
use Rattle.std.specs.Prelude.{ℕ, List, Option, None, Some, Result, unwrap_or}
use Rattle.smol_text.specs.Reading.{Stated}
use Rattle.smol_types.specs.declared.fault.Kind.{Kind}
use Rattle.smol_types.specs.Limits.{most_molecules}
use Rattle.smol_line.specs.Numbers.{count_in}
use Rattle.smol_line.specs.LookingBack.{nearest}
use Rattle.smol_config.specs.Once.{stands_once}
use Rattle.smol_config.specs.Said.{Said, limits}

abbrev pub said_limit : Said → Option ℕ
said_limit (limits count) = Some count
said_limit other = None

-- the limit, where a line before gives it
abbrev pub max_mol_of : List Said → Option ℕ
max_mol_of before = nearest said_limit before

-- the limit that holds
abbrev pub limit_of : Option ℕ → ℕ
limit_of given = unwrap_or given 100000

-- the limit of a line, by what a line before gives
unfoldable pub max_mol_in : Option ℕ → Stated → Result ℕ Kind
max_mol_in given line = stands_once given (λ word. count_in 1 most_molecules word) line
