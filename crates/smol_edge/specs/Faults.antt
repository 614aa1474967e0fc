-- Counts of faults, as a source and outlets keep them.
use Rattle.std.specs.Prelude.{◌≡◌, ℕ, ◌+◌, ◌-◌, ◌^◌, ◌<◌, Option, None, Some, IsSomeAnd, min}

-- the count rose. At its last value it stands still, and counts as risen
abbrev pub Rose : ℕ → ℕ → Type 0
Rose before after = before < 2 ^ 64 - 1 → before < after

-- the count rose by one. At its last value it stands still, and counts as risen
abbrev pub RoseByOne : ℕ → ℕ → Type 0
RoseByOne before after = after ≡ min (before + 1) (2 ^ 64 - 1)

-- who told before the call tells after it, and the two are in this relation. Of who doesn't tell nothing is said
abbrev pub Tells : {T : Type 0} → Option T → Option T → (T → T → Type 0) → Type 0
Tells None after P = Unit {0}
Tells (Some before) after P = IsSomeAnd after (P before)
