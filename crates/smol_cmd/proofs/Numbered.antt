-- Commands that print numbers over the molecules are sound.
use Rattle.std.proofs.Common.{◌≡◌, ◌+◌, ◌<◌, ◌≤◌, ℕ, ℤ, pos, negsuc, ◌*ℤ◌, ◌<ℤ◌, int_lt, List, [], ◌∷◌, length, Option, None, Some, Ok, unsigned_abs, arith, subst}
use Rattle.std.proofs.lemmas.Bool.Decides.{nat_tests}
use Rattle.std.proofs.lemmas.Int.{ints}
use Rattle.smol_geom.specs.Axes.{IsWithin}
use Rattle.smol_text.specs.Reading.{Stated}
use Rattle.smol_types.specs.declared.command.Act.{Act}
use Rattle.smol_types.specs.declared.command.Act.TheVariants as act
use Rattle.smol_types.specs.declared.fault.Kind.TheVariants.{OutOfRange}
use Rattle.smol_types.specs.Commands.{AreBins, IsAct, IsRange}
use Rattle.smol_types.specs.Limits.{farthest_micros, longest, most_bins}
use Rattle.smol_line.specs.declared.axes.Axes.{Axes}
use Rattle.smol_line.specs.declared.axes.Bounds.{Bounds}
use Rattle.smol_line.specs.Axes.{AreAxes, needs_dim, read_axes, read_axis, walls_of}
use Rattle.smol_line.specs.Axis.{axis_in}
use Rattle.smol_line.specs.Checks.{word_count}
use Rattle.smol_line.specs.Length.{micros_in}
use Rattle.smol_line.specs.Numbers.{decimal_in}
use Rattle.smol_line.specs.SpeciesWord.{species_word_in}
use Rattle.smol_line.specs.Words.{word_at}
use Rattle.smol_line.proofs.Passing.{held, is_there, passed, same_value, valued}
use Rattle.smol_line.proofs.Ranges.{axis_in-within, count_in-high, count_in-low, decimal_in-within, species_word_in-within}
use Rattle.smol_cmd.specs.Known.{Known}
use Rattle.smol_cmd.specs.Outlet.{outlet_in}
use Rattle.smol_cmd.specs.Statistics.{at_in, bins_in, count_space_in, mean_square_in, moments_in, radial_in, radius_in}
use Rattle.smol_cmd.specs.Who.{who_in}
use Rattle.smol_cmd.proofs.Values.{outlet_is, who_is}

-- an act by what is known
abbrev pub Does : Known → Act → Type 0
Does known does = IsAct (length known.species) (length known.compartments) (length known.outputs) (walls_of known.axes) does

micros_small : (word : List ℕ) (micros : ℤ) → micros_in word ≡ Ok micros → unsigned_abs micros ≤ farthest_micros
micros_small word micros is =
    let range = decimal_in-within 6 (negsuc 999999999999) (pos 1000000000000) word micros is in
    let low = range.0 in
    let high = range.1 in
    omega (arith, ints)

bins_are : (word : List ℕ) (bins : ℕ) → bins_in word ≡ Ok bins → AreBins bins
bins_are word bins is =
    let some = count_in-low 1 most_bins word bins is in
    (omega arith, count_in-high 1 most_bins word bins is)

radius_is : (word : List ℕ) (radius : ℕ) → radius_in word ≡ Ok radius → (0 < radius) × (radius ≤ longest)
radius_is word radius is =
    let found = valued (decimal_in 6 (pos 1) (pos longest) word) _ radius is in
    let range = decimal_in-within 6 (pos 1) (pos longest) word found.0 found.1 in
    let low = range.0 in
    let high = range.1 in
    let size : unsigned_abs found.0 ≡ radius = same_value (unsigned_abs found.0) radius found.2 in
    (omega (arith, ints), omega (arith, ints))

-- twice as many ticks as micros
range_is : (low high : ℤ) → unsigned_abs low ≤ farthest_micros → unsigned_abs high ≤ farthest_micros → low <ℤ high → IsRange (pos 2 *ℤ low) (pos 2 *ℤ high)
range_is low high small_low small_high below = (omega (arith, ints), omega (arith, ints), omega (arith, ints))

-- an axis in use is one of three
axis_is : (axes : Axes) (dims axis : ℕ) → AreAxes axes → needs_dim axes ≡ Ok dims → axis < dims → axis < 3
axis_is axes dims axis sound is below =
    let found = is_there axes.dims _ dims is in
    let range = rw found at sound.dims in
    let most = range.1 in
    omega (arith, below, most)

pub count_space_is : (known : Known) (line : Stated) (at : ℕ) (found : Act) → AreAxes known.axes → count_space_in known line at ≡ Ok found → Does known found
unfolding count_space_in
count_space_is known line at found sound is =
    let dims = valued (needs_dim known.axes) _ found is in
    let words = passed (word_count (at + 7) line) [] _ found dims.2 in
    let who = valued (who_in known.species (word_at line (at + 1))) _ found words.1 in
    let axis = valued (axis_in dims.0 (word_at line (at + 2))) _ found who.2 in
    let low = valued (micros_in (word_at line (at + 3))) _ found axis.2 in
    let high = valued (micros_in (word_at line (at + 4))) _ found low.2 in
    let bins = valued (bins_in (word_at line (at + 5))) _ found high.2 in
    let out = valued (outlet_in known.outputs (word_at line (at + 6))) _ found bins.2 in
    let ordered = held (int_lt low.0 high.0) OutOfRange [] _ found out.2 in
    let test = ordered.0 in
    let below : low.0 <ℤ high.0 = grind (arith, nat_tests) in
    subst (Does known) (same_value (act.CountSpace who.0 axis.0 (pos 2 *ℤ low.0) (pos 2 *ℤ high.0) bins.0 out.0) found ordered.1) (
      who_is known.species (word_at line (at + 1)) who.0 who.1,
      axis_is known.axes dims.0 axis.0 sound dims.1 (axis_in-within dims.0 (word_at line (at + 2)) axis.0 axis.1),
      range_is low.0 high.0 (micros_small (word_at line (at + 3)) low.0 low.1) (micros_small (word_at line (at + 4)) high.0 high.1) below,
      bins_are (word_at line (at + 5)) bins.0 bins.1,
      outlet_is known.outputs (word_at line (at + 6)) out.0 out.1,
    )

pub moments_are : (known : Known) (line : Stated) (at : ℕ) (found : Act) → moments_in known line at ≡ Ok found → Does known found
unfolding moments_in
moments_are known line at found is =
    let words = passed (word_count (at + 3) line) [] _ found is in
    let who = valued (who_in known.species (word_at line (at + 1))) _ found words.1 in
    let out = valued (outlet_in known.outputs (word_at line (at + 2))) _ found who.2 in
    subst (Does known) (same_value (act.Moments who.0 out.0) found out.2)
    (who_is known.species (word_at line (at + 1)) who.0 who.1, outlet_is known.outputs (word_at line (at + 2)) out.0 out.1)

-- a coordinate on an axis with these walls, if it has some
at_axis : (first axis : ℕ) (bounds : Option Bounds) (line : Stated) (x : ℤ) → read_axis (λ bounds word. micros_in word) (pos 0) first axis bounds line ≡ Ok x → unsigned_abs x ≤ farthest_micros
at_axis first axis None line x is = let none : pos 0 ≡ x = same_value (pos 0) x is in omega (arith, ints)
at_axis first axis (Some bounds) line x is = micros_small (word_at line (first + axis)) x is

at_is : (known : Known) (line : Stated) (first : ℕ) (place : List ℤ) → at_in known line first ≡ Ok place → IsWithin farthest_micros place
unfolding read_axes
at_is known line first place is =
    let x = valued (read_axis (λ bounds word. micros_in word) (pos 0) first 0 known.axes.x line) _ place is in
    let y = valued (read_axis (λ bounds word. micros_in word) (pos 0) first 1 known.axes.y line) _ place x.2 in
    let z = valued (read_axis (λ bounds word. micros_in word) (pos 0) first 2 known.axes.z line) _ place y.2 in
    subst (IsWithin farthest_micros) (same_value (x.0 ∷ y.0 ∷ z.0 ∷ []) place z.2)
    (at_axis first 0 known.axes.x line x.0 x.1, at_axis first 1 known.axes.y line y.0 y.1, at_axis first 2 known.axes.z line z.0 z.1)

pub mean_square_is : (known : Known) (line : Stated) (at : ℕ) (found : Act) → mean_square_in known line at ≡ Ok found → Does known found
unfolding mean_square_in
mean_square_is known line at found is =
    let dims = valued (needs_dim known.axes) _ found is in
    let words = passed (word_count (at + 3 + dims.0) line) [] _ found dims.2 in
    let who = valued (who_in known.species (word_at line (at + 1))) _ found words.1 in
    let place = valued (at_in known line (at + 2)) _ found who.2 in
    let out = valued (outlet_in known.outputs (word_at line (at + 2 + dims.0))) _ found place.2 in
    subst (Does known) (same_value (act.MeanSquare who.0 place.0 out.0) found out.2) (
      who_is known.species (word_at line (at + 1)) who.0 who.1,
      at_is known line (at + 2) place.0 place.1,
      outlet_is known.outputs (word_at line (at + 2 + dims.0)) out.0 out.1,
    )

pub radial_is : (known : Known) (line : Stated) (at : ℕ) (found : Act) → radial_in known line at ≡ Ok found → Does known found
unfolding radial_in
radial_is known line at found is =
    let words = passed (word_count (at + 6) line) [] _ found is in
    let first = valued (species_word_in known.species (word_at line (at + 1))) _ found words.1 in
    let second = valued (species_word_in known.species (word_at line (at + 2))) _ found first.2 in
    let radius = valued (radius_in (word_at line (at + 3))) _ found second.2 in
    let bins = valued (bins_in (word_at line (at + 4))) _ found radius.2 in
    let out = valued (outlet_in known.outputs (word_at line (at + 5))) _ found bins.2 in
    let range = radius_is (word_at line (at + 3)) radius.0 radius.1 in
    subst (Does known) (same_value (act.Radial first.0 second.0 radius.0 bins.0 out.0) found out.2) (
      species_word_in-within known.species (word_at line (at + 1)) first.0 first.1,
      species_word_in-within known.species (word_at line (at + 2)) second.0 second.1,
      range.0,
      range.1,
      bins_are (word_at line (at + 4)) bins.0 bins.1,
      outlet_is known.outputs (word_at line (at + 5)) out.0 out.1,
    )
