-- What a matching is of.
use Rattle.std.specs.Prelude.{ℕ, List}
use Rattle.atomic_table.specs.Seated.{TableId}
use Rattle.smol_plan.specs.declared.pair.Pair.{Pair}

-- the pairs, the number of workers, and the table of words
pub record Task : Type 0 where
  pub pairs : List Pair
  pub workers : ℕ
  pub table : TableId
