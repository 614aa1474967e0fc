-- Commands that print numbers over the molecules. The place is that of the word COMMAND.
use Rattle.std.specs.Prelude.{ℕ, ◌+◌, ℤ, pos, ◌*ℤ◌, int_lt, unsigned_abs, List, [], ◌∷◌, Result, Ok}
use Rattle.smol_text.specs.Reading.{Stated}
use Rattle.smol_types.specs.declared.command.Act.{Act}
use Rattle.smol_types.specs.declared.command.Act.TheVariants as act
use Rattle.smol_types.specs.declared.fault.Kind.{Kind}
use Rattle.smol_types.specs.declared.fault.Kind.TheVariants.{OutOfRange}
use Rattle.smol_types.specs.Limits.{longest, most_bins}
use Rattle.smol_line.specs.Axes.{needs_dim, read_axes}
use Rattle.smol_line.specs.Axis.{axis_in}
use Rattle.smol_line.specs.Length.{micros_in}
use Rattle.smol_line.specs.Words.{word_at}
use Rattle.smol_line.specs.Checks.{unless, word_count, passing, with_value}
use Rattle.smol_line.specs.Numbers.{count_in, decimal_in}
use Rattle.smol_line.specs.SpeciesWord.{species_word_in}
use Rattle.smol_cmd.specs.Known.{Known}
use Rattle.smol_cmd.specs.Outlet.{outlet_in}
use Rattle.smol_cmd.specs.Who.{who_in}

-- how many parts of a range or shells there are
abbrev pub bins_in : List ℕ → Result ℕ Kind
bins_in word = count_in 1 most_bins word

-- a radius in micros, which is above 0
abbrev pub radius_in : List ℕ → Result ℕ Kind
radius_in word = with_value (decimal_in 6 (pos 1) (pos longest) word) (λ radius. Ok (unsigned_abs radius))

-- `molcountspace SPECIES+ AXIS LOW HIGH BINS OUT`. A coordinate of m micros stands at 2m ticks, and the low one is below the high one
unfoldable pub count_space_in : Known → Stated → ℕ → Result Act Kind
count_space_in known line at =
    with_value (needs_dim known.axes) (λ dims.
    passing (word_count (at + 7) line ∷ [])
    (with_value (who_in known.species (word_at line (at + 1))) (λ who.
    with_value (axis_in dims (word_at line (at + 2))) (λ axis.
    with_value (micros_in (word_at line (at + 3))) (λ low.
    with_value (micros_in (word_at line (at + 4))) (λ high.
    with_value (bins_in (word_at line (at + 5))) (λ bins.
    with_value (outlet_in known.outputs (word_at line (at + 6))) (λ out.
    passing (unless (int_lt low high) OutOfRange ∷ [])
    (Ok (act.CountSpace who axis (pos 2 *ℤ low) (pos 2 *ℤ high) bins out))))))))))

-- `molmoments SPECIES+ OUT`
unfoldable pub moments_in : Known → Stated → ℕ → Result Act Kind
moments_in known line at =
    passing (word_count (at + 3) line ∷ [])
    (with_value (who_in known.species (word_at line (at + 1))) (λ who.
    with_value (outlet_in known.outputs (word_at line (at + 2))) (λ out.
    Ok (act.Moments who out))))

-- the place in micros whose coordinates stand from a place of the line on, one for each axis in use
abbrev pub at_in : Known → Stated → ℕ → Result (List ℤ) Kind
at_in known line first = read_axes (λ bounds word. micros_in word) (pos 0) first known.axes line

-- `meansqrdist SPECIES+ P ... OUT`, with a P for each axis in use
unfoldable pub mean_square_in : Known → Stated → ℕ → Result Act Kind
mean_square_in known line at =
    with_value (needs_dim known.axes) (λ dims.
    passing (word_count (at + 3 + dims) line ∷ [])
    (with_value (who_in known.species (word_at line (at + 1))) (λ who.
    with_value (at_in known line (at + 2)) (λ place.
    with_value (outlet_in known.outputs (word_at line (at + 2 + dims))) (λ out.
    Ok (act.MeanSquare who place out))))))

-- `radialcount SPECIES SPECIES RADIUS BINS OUT`
unfoldable pub radial_in : Known → Stated → ℕ → Result Act Kind
radial_in known line at =
    passing (word_count (at + 6) line ∷ [])
    (with_value (species_word_in known.species (word_at line (at + 1))) (λ first.
    with_value (species_word_in known.species (word_at line (at + 2))) (λ second.
    with_value (radius_in (word_at line (at + 3))) (λ radius.
    with_value (bins_in (word_at line (at + 4))) (λ bins.
    with_value (outlet_in known.outputs (word_at line (at + 5))) (λ out.
    Ok (act.Radial first second radius bins out)))))))
