-- Standard output, standard error and real files, as contracts see them.
use Rattle.std.specs.Prelude.{ℕ, ◌+◌, ltb, Option, None, Some, if◌then◌else◌}

-- how many files were opened, and how many calls have failed
pub record RealState : Type 0 where
  pub opened : ℕ
  pub faults : ℕ

-- how many files there may be
abbrev pub most_files : ℕ
most_files = 64

-- the outlet of the next file, where there may be one more
abbrev pub next_outlet_of : ℕ → Option ℕ
next_outlet_of opened = if ltb opened most_files then Some (2 + opened) else None
