-- `dim D`: the number of axes in use, 1 to 3. It stands once.
use Rattle.std.specs.Prelude.{ℕ, Result}
use Rattle.smol_text.specs.Reading.{Stated}
use Rattle.smol_types.specs.declared.fault.Kind.{Kind}
use Rattle.smol_line.specs.declared.axes.Axes.{Axes}
use Rattle.smol_line.specs.Axes.{most_axes}
use Rattle.smol_line.specs.Numbers.{count_in}
use Rattle.smol_config.specs.Once.{stands_once}

unfoldable pub dim_in : Axes → Stated → Result ℕ Kind
dim_in axes line = stands_once axes.dims (λ word. count_in 1 most_axes word) line
