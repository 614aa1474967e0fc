-- The name of a block: a new word of the line that opens it.
use Rattle.std.specs.Prelude.{ℕ, nat_lt, List, [], ◌∷◌, length, Result, Ok}
use Rattle.smol_text.specs.Reading.{Stated}
use Rattle.smol_types.specs.declared.fault.Kind.{Kind}
use Rattle.smol_types.specs.declared.fault.Kind.TheVariants.{TooMany}
use Rattle.smol_line.specs.declared.axes.Axes.{Axes}
use Rattle.smol_line.specs.Axes.{needs_dim}
use Rattle.smol_line.specs.Checks.{unless, word_count, passing, with_value}
use Rattle.smol_line.specs.Names.{new_name_in}
use Rattle.smol_line.specs.Words.{word_at}

-- the name of the block that a line opens, beside these names, of which there may be so many
unfoldable pub block_name_in : Axes → List (List ℕ) → ℕ → Stated → Result (List ℕ) Kind
block_name_in axes names most line =
    with_value (needs_dim axes) (λ dims.
    passing (word_count 2 line ∷ [])
    (with_value (new_name_in names (word_at line 1)) (λ name.
    passing (unless (nat_lt (length names) most) TooMany ∷ []) (Ok name))))
