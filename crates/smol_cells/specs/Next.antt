-- The next one of numbers, at or behind a number.
use Rattle.std.specs.Prelude.{◌≡◌, ℕ, ◌<◌, ◌≤◌, Bool, true, false, ◌==◌, List, Option, MatchOption}
use Rattle.std.specs.List.{list_any}
use Rattle.smol_cells.specs.declared.near.Run.{Run}

-- whether the number is one of the list's
abbrev pub has_number : List ℕ → ℕ → Bool
has_number numbers n = list_any (λ k. k == n) numbers

-- the run begins with the least of the numbers that is at or behind this one, and all of it are such numbers
pub record IsNextRun (numbers : List ℕ) (least : ℕ) (run : Run) : Type 0 where
  pub from : least ≤ run.start
  pub some : run.start < run.end
  pub has : (n : ℕ) → run.start ≤ n → n < run.end → has_number numbers n ≡ true
  pub none : (n : ℕ) → least ≤ n → n < run.start → has_number numbers n ≡ false

-- the next run of the numbers at or behind this one, or that there is none
abbrev pub IsNext : List ℕ → ℕ → Option Run → Type 0
IsNext numbers least found = MatchOption found ((n : ℕ) → least ≤ n → has_number numbers n ≡ false) (IsNextRun numbers least)
