-- A line without a fault keeps what holds so far.
use Rattle.std.proofs.Common.{◌≡◌, ◌==◌, ◌+◌, ◌<◌, ◌≤◌, ◌||◌, Bool, true, false, ℕ, ℤ, pos, negsuc, ◌<ℤ◌, nat_le, int_lt, List, [], ◌∷◌, length, Option, None, Some, Result, Ok, IfSome, IsSomeAnd, unsigned_abs, arith, refl, sym, subst, if◌then◌else◌, codes}
use Rattle.std.specs.Str.{bytes_eq}
use Rattle.std.proofs.lemmas.Bool.Decides.{nat_tests}
use Rattle.std.proofs.lemmas.Int.{ints}
use Rattle.smol_text.specs.Reading.{Stated, words_of}
use Rattle.smol_types.specs.declared.command.Command.{Command}
use Rattle.smol_types.specs.declared.fault.Kind.{Kind}
use Rattle.smol_types.specs.declared.fault.Kind.TheVariants as kind
use Rattle.smol_types.specs.declared.placing.Given.{Given}
use Rattle.smol_types.specs.declared.placing.Given.TheVariants.{Any, At}
use Rattle.smol_types.specs.declared.placing.Placing.{Placing}
use Rattle.smol_types.specs.declared.placing.Placing.TheVariants as placing
use Rattle.smol_types.specs.declared.wall.Letter.{Letter}
use Rattle.smol_types.specs.Commands.{IsCommand}
use Rattle.smol_types.specs.Walls.{IsGiven, AreGiven}
use Rattle.smol_line.specs.declared.axes.Axes.{Axes}
use Rattle.smol_line.specs.declared.axes.Bounds.{Bounds}
use Rattle.smol_line.specs.Axes.{AreAxes, AreSettled, IsBounded, are_walled, is_walled, needs_dim, needs_walls, read_axes, read_axis, walls_of}
use Rattle.smol_line.specs.Axis.{axis_in}
use Rattle.smol_line.specs.Checks.{unless, once, word_count, passing, with_value}
use Rattle.smol_line.specs.Coordinate.{coordinate_in}
use Rattle.smol_line.specs.Length.{micros_in}
use Rattle.smol_line.specs.LookingBack.{say}
use Rattle.smol_line.specs.Names.{names_fault}
use Rattle.smol_line.specs.Numbers.{count_in}
use Rattle.smol_line.specs.SpeciesWord.{number_in, species_word_in}
use Rattle.smol_line.specs.Words.{word_at}
use Rattle.smol_line.proofs.Between.{settled_by, unwalled, lower_wall, upper_wall, coordinate_lies}
use Rattle.smol_line.proofs.Passing.{passed, valued, held, holds, not_yet, is_there, said_by, three}
use Rattle.smol_line.proofs.Ranges.{count_in-low, count_in-high, decimal_in-within, axis_in-within, number_in-within, species_word_in-within}
use Rattle.smol_blocks.specs.declared.block_statement.BlockStatement.{BlockStatement}
use Rattle.smol_blocks.specs.Blocks.{BlockSaid, block_line_in, block_of, compartment_names, compartments_of, is_outside}
use Rattle.smol_blocks.specs.BlocksSound.{AreBlocks}
use Rattle.smol_blocks.proofs.SoundBlocks.{blocks_keep, compartments_grow, outside_equal}
use Rattle.smol_cmd.specs.Cmd.{cmd_in}
use Rattle.smol_cmd.proofs.OutputNames.{files_are_few}
use Rattle.smol_cmd.proofs.Sound.{commands_are_few, commands_are_sound}
use Rattle.smol_reactions.proofs.SoundSaid.{binding_radius_keeps, product_placement_keeps, reaction_keeps, reaction_probability_keeps}
use Rattle.smol_blocks.specs.declared.statement.Statement.{Statement}
use Rattle.smol_blocks.specs.declared.statement.Statement.TheVariants as statement
use Rattle.smol_config.specs.Said.{Said, passed_over, axes, names, moves, starts, stops, steps, of_times, limits, seeds, orders, walls, places, of_reactions, of_blocks, writes, performs}
use Rattle.smol_blocks.specs.Statement.{may_stand, statement_of}
use Rattle.smol_config.specs.Axes.{axes_of, dims_of}
use Rattle.smol_config.specs.Once.{stands_once}
use Rattle.smol_config.specs.Dim.{dim_in}
use Rattle.smol_config.specs.Species.{species_of, further_words, species_in, species_fault}
use Rattle.smol_config.specs.Times.{nanos_in, step_in, time_start_of, time_stop_of, time_step_of, given_time_in, time_step_in}
use Rattle.smol_config.specs.MaxMol.{max_mol_of, max_mol_in}
use Rattle.smol_config.specs.Boundaries.{line_letter, bounds_at, bounds_in, boundaries_in}
use Rattle.smol_config.specs.Mol.{given_in, given_place_in, mol_in}
use Rattle.smol_config.specs.Reactions.{reactions_said}
use Rattle.smol_config.specs.Blocks.{blocks_said, stands_outside}
use Rattle.smol_config.specs.CompartmentMol.{compartment_mol_in}
use Rattle.smol_config.specs.Commands.{commands_of, known_before, outputs_of}
use Rattle.smol_config.specs.Reader.{statement_in, line_in}
use Rattle.smol_config.specs.SoFar.{IsSoFar, the_axes, the_blocks, the_reactions, the_times}
use Rattle.smol_config.proofs.Kept.{passed_over_kept, axes_kept, names_kept, moves_kept, times_kept, limits_kept, seeds_kept, orders_kept, walls_kept, places_kept, of_reactions_kept, of_blocks_kept, writes_kept, performs_kept}

-- a value that stands once wasn't given before, and is what its word means
first_of_once : {T : Type 0} (given : Option T) (meaning : List ℕ → Result T Kind) (line : Stated) (value : T) → stands_once given meaning line ≡ Ok value → (given ≡ None) × (meaning (word_at line 1) ≡ Ok value)
first_of_once given meaning line value is =
    let first = passed (once given) (word_count 2 line ∷ []) (meaning (word_at line 1)) value is in
    let counted = passed (word_count 2 line) [] (meaning (word_at line 1)) value first.1 in
    (not_yet given first.0, counted.1)

dim_keeps : (before : List Said) (line : Stated) (dims : ℕ) → dim_in (axes_of before) line ≡ Ok dims → IsSoFar before → IsSoFar (axes dims ∷ before)
unfolding dim_in
dim_keeps before line dims is h =
    let given = first_of_once (dims_of before) (λ word. count_in 1 3 word) line dims is in
    axes_kept before dims given.0 (count_in-low 1 3 (word_at line 1) dims given.1) (count_in-high 1 3 (word_at line 1) dims given.1) h

species_keeps : (before : List Said) (line : Stated) (more : List (List ℕ)) → species_in (species_of before) line ≡ Ok more → IsSoFar before → IsSoFar (names more ∷ before)
unfolding species_in
species_keeps before line more is h =
    let enough = unless (nat_le 2 (length (words_of line))) kind.WrongWordCount in
    let new = names_fault species_fault (species_of before) (further_words line) in
    let few = unless (nat_le (length (species_of before) + length (further_words line)) 256) kind.TooMany in
    let value : Result (List (List ℕ)) Kind = Ok (further_words line) in
    let a = passed enough (new ∷ few ∷ []) value more is in
    let b = passed new (few ∷ []) value more a.1 in
    let c = passed few [] value more b.1 in
    let room = holds (nat_le (length (species_of before) + length (further_words line)) 256) kind.TooMany c.0 in
    let same : further_words line ≡ more = cc in
    let fits : length (species_of before) + length (further_words line) ≤ 256 = grind (arith, nat_tests) in
    names_kept before more (subst (λ (names : List (List ℕ)). length (species_of before) + length names ≤ 256) same fits) h

-- a time is within its range
nanos_small : (word : List ℕ) (time : ℤ) → nanos_in word ≡ Ok time → unsigned_abs time ≤ 1000000000000000000
nanos_small word time is =
    let range = decimal_in-within 9 (negsuc 999999999999999999) (pos 1000000000000000000) word time is in
    let low = range.0 in
    let high = range.1 in
    omega (arith, ints)

time_small : (given : Option ℤ) (line : Stated) (time : ℤ) → given_time_in given line ≡ Ok time → unsigned_abs time ≤ 1000000000000000000
unfolding given_time_in
time_small given line time is = let by = first_of_once given nanos_in line time is in nanos_small (word_at line 1) time by.1

-- and that of a step is above 0
step_fits : (given : Option ℤ) (line : Stated) (time : ℤ) → time_step_in given line ≡ Ok time → (unsigned_abs time ≤ 1000000000000000000) × (pos 0 <ℤ time)
unfolding time_step_in
step_fits given line time is =
    let by = first_of_once given step_in line time is in
    let next = λ (time : ℤ). passing (unless (int_lt (pos 0) time) kind.OutOfRange ∷ []) (Ok time) in
    let found = valued (nanos_in (word_at line 1)) next time by.1 in
    let passes = held (int_lt (pos 0) found.0) kind.OutOfRange [] (Ok found.0) time found.2 in
    let test = passes.0 in
    let above : pos 0 <ℤ found.0 = grind (arith, nat_tests) in
    let same : found.0 ≡ time = cc in
    subst (λ (t : ℤ). (unsigned_abs t ≤ 1000000000000000000) × (pos 0 <ℤ t)) same (nanos_small (word_at line 1) found.0 found.1, above)

max_mol_keeps : (before : List Said) (line : Stated) (count : ℕ) → max_mol_in (max_mol_of before) line ≡ Ok count → IsSoFar before → IsSoFar (limits count ∷ before)
unfolding max_mol_in
max_mol_keeps before line count is h =
    let given = first_of_once (max_mol_of before) (λ word. count_in 1 1000000 word) line count is in
    limits_kept before count (count_in-low 1 1000000 (word_at line 1) count given.1) (count_in-high 1 1000000 (word_at line 1) count given.1) h

-- a length is within its range
length_small : (word : List ℕ) (x : ℤ) → micros_in word ≡ Ok x → unsigned_abs x ≤ 1000000000000
length_small word x is =
    let range = decimal_in-within 6 (negsuc 999999999999) (pos 1000000000000) word x is in
    let low = range.0 in
    let high = range.1 in
    omega (arith, ints)

-- the walls of a line have their low one below their high one
abbrev ordered_bounds : ℤ → ℤ → Letter → Result Bounds Kind
ordered_bounds low high letter =
    passing (unless (int_lt low high) kind.OutOfRange ∷ []) (Ok (record { low = record { 0 = low }; high = record { 0 = high }; letter = letter }))

bounds_fit : (line : Stated) (bounds : Bounds) → bounds_in line ≡ Ok bounds → (unsigned_abs bounds.low.0 ≤ 1000000000000) × (unsigned_abs bounds.high.0 ≤ 1000000000000) × (bounds.low.0 <ℤ bounds.high.0)
unfolding bounds_in
bounds_fit line bounds is =
    let low = valued (micros_in (word_at line 2)) (λ low. with_value (micros_in (word_at line 3)) (λ high. with_value (line_letter line) (ordered_bounds low high))) bounds is in
    let high = valued (micros_in (word_at line 3)) (λ high. with_value (line_letter line) (ordered_bounds low.0 high)) bounds low.2 in
    let letter = valued (line_letter line) (ordered_bounds low.0 high.0) bounds high.2 in
    let all : Result Bounds Kind = Ok (record { low = record { 0 = low.0 }; high = record { 0 = high.0 }; letter = letter.0 }) in
    let passes = passed (unless (int_lt low.0 high.0) kind.OutOfRange) [] all bounds letter.2 in
    let test = holds (int_lt low.0 high.0) kind.OutOfRange passes.0 in
    let below : low.0 <ℤ high.0 = grind (arith, nat_tests) in
    let made : Bounds = record { low = record { 0 = low.0 }; high = record { 0 = high.0 }; letter = letter.0 } in
    let same : made ≡ bounds = cc in
    subst (λ (b : Bounds). (unsigned_abs b.low.0 ≤ 1000000000000) × (unsigned_abs b.high.0 ≤ 1000000000000) × (b.low.0 <ℤ b.high.0)) {x = made} same
    (length_small (word_at line 2) low.0 low.1, length_small (word_at line 3) high.0 high.1, below)

boundaries_keep : (before : List Said) (line : Stated) (given : ℕ × Bounds) → boundaries_in (axes_of before) line ≡ Ok given → IsSoFar before → IsSoFar (walls given.0 given.1 ∷ before)
unfolding boundaries_in
boundaries_keep before line given is h =
    let words = unless ((length (words_of line) == 4) || (length (words_of line) == 5)) kind.WrongWordCount in
    let last = λ (axis : ℕ) (bounds : Bounds). passing {T = ℕ × Bounds} (once (bounds_at axis (axes_of before)) ∷ []) (Ok (axis, bounds)) in
    let dims = valued (needs_dim (axes_of before)) (λ dims. passing (words ∷ []) (with_value (axis_in dims (word_at line 1)) (λ axis. with_value (bounds_in line) (last axis)))) given is in
    let counted = passed words [] (with_value (axis_in dims.0 (word_at line 1)) (λ axis. with_value (bounds_in line) (last axis))) given dims.2 in
    let axis = valued (axis_in dims.0 (word_at line 1)) (λ axis. with_value (bounds_in line) (last axis)) given counted.1 in
    let bounds = valued (bounds_in line) (last axis.0) given axis.2 in
    let all : Result (ℕ × Bounds) Kind = Ok (axis.0, bounds.0) in
    let new = passed (once (bounds_at axis.0 (axes_of before))) [] all given bounds.2 in
    let has = is_there (dims_of before) kind.BadOrder dims.0 dims.1 in
    let used = axis_in-within dims.0 (word_at line 1) axis.0 axis.1 in
    let range = rw has at (h the_axes).dims in
    let most = range.1 in
    let fit = bounds_fit line bounds.0 bounds.1 in
    let Q : Option ℕ → Type 0 = λ count. IsSomeAnd count (λ count. axis.0 < count) in
    let made : ℕ × Bounds = (axis.0, bounds.0) in
    let same : made ≡ given = cc in
    subst (λ (g : ℕ × Bounds). IsSoFar (walls g.0 g.1 ∷ before)) {x = made} same
    (walls_kept before dims.0 axis.0 bounds.0 has used (omega arith) (not_yet (bounds_at axis.0 (axes_of before)) new.0)
    (record { in_use = subst Q (sym has) used; low_size = fit.0; high_size = fit.1; ordered = fit.2 }) h)

is_settled : (known : Axes) (dims : ℕ) → needs_walls known ≡ Ok dims → AreSettled known
is_settled known dims is =
    let by = settled_by known dims is in
    let Q : Option ℕ → Type 0 = λ dims. IsSomeAnd dims (λ dims. are_walled dims known ≡ true) in
    subst Q (sym by.0) by.1

-- a coordinate on an axis with these walls
abbrev IsCoordinate : ℕ → Option Bounds → Given → Type 0
IsCoordinate axis None Any = ⊥
IsCoordinate axis None (At x) = x ≡ pos 1
IsCoordinate axis (Some bounds) given = IsGiven (lower_wall axis bounds) (upper_wall axis bounds) given

drawn_or_given : (axis : ℕ) (bounds : Bounds) (word : List ℕ) (given : Given) (drawn : Bool) → bounds.low.0 <ℤ bounds.high.0 → (if drawn then Ok Any else with_value (coordinate_in bounds word) (λ x. Ok (At x))) ≡ Ok given → IsGiven (lower_wall axis bounds) (upper_wall axis bounds) given
drawn_or_given axis bounds word given true ordered is = let same : Any ≡ given = cc in subst (IsGiven (lower_wall axis bounds) (upper_wall axis bounds)) same tt
drawn_or_given axis bounds word given false ordered is =
    let x = valued (coordinate_in bounds word) (λ x. let at : Result Given Kind = Ok (At x) in at) given is in
    let same : At x.0 ≡ given = cc in
    subst (IsGiven (lower_wall axis bounds) (upper_wall axis bounds)) same (coordinate_lies axis bounds word x.0 ordered x.1)

coordinate_is : (axis : ℕ) (dims : Option ℕ) (bounds : Option Bounds) (line : Stated) (given : Given) → IfSome bounds (IsBounded dims axis) → read_axis given_in (At (pos 1)) 3 axis bounds line ≡ Ok given → IsCoordinate axis bounds given
unfolding given_in
coordinate_is axis dims None line given is_bounded is = let same : At (pos 1) ≡ given = cc in subst (IsCoordinate axis None) same refl
coordinate_is axis dims (Some bounds) line given is_bounded is =
    drawn_or_given axis bounds (word_at line (3 + axis)) given (bytes_eq (word_at line (3 + axis)) (codes "u")) is_bounded.ordered is

-- three coordinates lie between the walls of the axes in use
are_given : (dims : ℕ) (x y z : Option Bounds) (u v w : Given) → 1 ≤ dims → is_walled dims 0 x ≡ true → is_walled dims 1 y ≡ true → is_walled dims 2 z ≡ true → IfSome y (IsBounded (Some dims) 1) → IfSome z (IsBounded (Some dims) 2)
    → IsCoordinate 0 x u → IsCoordinate 1 y v → IsCoordinate 2 z w → AreGiven (walls_of (record { dims = Some dims; x = x; y = y; z = z })) (u ∷ v ∷ w ∷ [])
unfolding walls_of
are_given dims None y z u v w some walled_x walled_y walled_z used_y used_z at_x at_y at_z = absurd (unwalled dims 0 (omega arith) walled_x)
are_given dims (Some x) None None u Any w some walled_x walled_y walled_z used_y used_z at_x at_y at_z = absurd at_y
are_given dims (Some x) None None u (At v) Any some walled_x walled_y walled_z used_y used_z at_x at_y at_z = absurd at_z
are_given dims (Some x) None None u (At v) (At w) some walled_x walled_y walled_z used_y used_z at_x at_y at_z = (at_x, (at_y, (at_z, tt)))
are_given dims (Some x) None (Some z) u v w some walled_x walled_y walled_z used_y used_z at_x at_y at_z = let used = used_z.in_use in absurd (unwalled dims 1 (omega arith) walled_y)
are_given dims (Some x) (Some y) None u v Any some walled_x walled_y walled_z used_y used_z at_x at_y at_z = absurd at_z
are_given dims (Some x) (Some y) None u v (At w) some walled_x walled_y walled_z used_y used_z at_x at_y at_z = (at_x, (at_y, (at_z, tt)))
are_given dims (Some x) (Some y) (Some z) u v w some walled_x walled_y walled_z used_y used_z at_x at_y at_z = (at_x, (at_y, (at_z, tt)))

coordinates_are : (known : Axes) (line : Stated) (dims : ℕ) (at : List Given) → known.dims ≡ Some dims → are_walled dims known ≡ true → AreAxes known → given_place_in known line ≡ Ok at → (length at ≡ 3) × AreGiven (walls_of known) at
unfolding read_axes walls_of
coordinates_are known line dims at has walled h is =
    let third = λ (x y z : Given). let all : Result (List Given) Kind = Ok (x ∷ y ∷ z ∷ []) in all in
    let read = λ (axis : ℕ) (bounds : Option Bounds). read_axis given_in (At (pos 1)) 3 axis bounds line in
    let x = valued (read 0 known.x) (λ x. with_value (read 1 known.y) (λ y. with_value (read 2 known.z) (third x y))) at is in
    let y = valued (read 1 known.y) (λ y. with_value (read 2 known.z) (third x.0 y)) at x.2 in
    let z = valued (read 2 known.z) (third x.0 y.0) at y.2 in
    let walls = three (is_walled dims 0 known.x) (is_walled dims 1 known.y) (is_walled dims 2 known.z) walled in
    let range = rw has at h.dims in
    let same : x.0 ∷ y.0 ∷ z.0 ∷ [] ≡ at = cc in
    subst (λ (at : List Given). (length at ≡ 3) × AreGiven (walls_of known) at) {x = x.0 ∷ y.0 ∷ z.0 ∷ []} same (
      refl,
      are_given dims known.x known.y known.z x.0 y.0 z.0 range.0 walls.0 walls.1 walls.2
          (let Q : Option ℕ → Type 0 = λ dims. IfSome known.y (IsBounded dims 1) in subst Q has h.y)
          (let Q : Option ℕ → Type 0 = λ dims. IfSome known.z (IsBounded dims 2) in subst Q has h.z)
          (coordinate_is 0 known.dims known.x line x.0 h.x x.1)
          (coordinate_is 1 known.dims known.y line y.0 h.y y.1)
          (coordinate_is 2 known.dims known.z line z.0 h.z z.1),
    )

mol_keeps : (before : List Said) (line : Stated) (one : Placing) → mol_in (axes_of before) (species_of before) line ≡ Ok one → IsSoFar before → IsSoFar (places one ∷ before)
unfolding mol_in
mol_keeps before line one is h =
    let last = λ (n species : ℕ) (at : List Given). let all : Result Placing Kind = Ok (placing.Mol n species at) in all in
    let named = λ (n species : ℕ). with_value (given_place_in (axes_of before) line) (last n species) in
    let counted = λ (n : ℕ). with_value (species_word_in (species_of before) (word_at line 2)) (named n) in
    let dims = valued (needs_walls (axes_of before)) (λ dims. passing (word_count (3 + dims) line ∷ []) (with_value (count_in 0 1000000 (word_at line 1)) counted)) one is in
    let words = passed (word_count (3 + dims.0) line) [] (with_value (count_in 0 1000000 (word_at line 1)) counted) one dims.2 in
    let n = valued (count_in 0 1000000 (word_at line 1)) counted one words.1 in
    let species = valued (species_word_in (species_of before) (word_at line 2)) (named n.0) one n.2 in
    let at = valued (given_place_in (axes_of before) line) (last n.0 species.0) one species.2 in
    let by = settled_by (axes_of before) dims.0 dims.1 in
    let lie = coordinates_are (axes_of before) line dims.0 at.0 by.0 by.1 (h the_axes) at.1 in
    let made : Placing = placing.Mol n.0 species.0 at.0 in
    let same : made ≡ one = cc in
    subst (λ (one : Placing). IsSoFar (places one ∷ before)) {x = made} same
    (places_kept before made (is_settled (axes_of before) dims.0 dims.1)
    (count_in-high 0 1000000 (word_at line 1) n.0 n.1, species_word_in-within (species_of before) (word_at line 2) species.0 species.1, lie.0, lie.1) h)

-- where no block is open, each compartment that is named is there
compartments_closed : (dims : Option ℕ) (species_count : ℕ) (said : List BlockSaid) → AreBlocks dims species_count said → is_outside (block_of said) ≡ true → length (compartment_names said) ≡ length (compartments_of said)
compartments_closed None species_count said none outside = rw none refl
compartments_closed (Some dims) species_count said sound outside = let both = outside_equal dims species_count said sound outside in both.1

compartment_mol_keeps : (before : List Said) (line : Stated) (one : Placing) → compartment_mol_in (axes_of before) (species_of before) (compartment_names (blocks_said before)) line ≡ Ok one → stands_outside before ≡ true → IsSoFar before → IsSoFar (places one ∷ before)
unfolding compartment_mol_in
compartment_mol_keeps before line one is outside h =
    let last = λ (n species compartment : ℕ). let all : Result Placing Kind = Ok (placing.InCompartment line.number n species compartment) in all in
    let inside = λ (n species : ℕ). with_value (number_in (compartment_names (blocks_said before)) (word_at line 3)) (last n species) in
    let counted = λ (n : ℕ). with_value (species_word_in (species_of before) (word_at line 2)) (inside n) in
    let dims = valued (needs_walls (axes_of before)) (λ dims. passing (word_count 4 line ∷ []) (with_value (count_in 0 1000000 (word_at line 1)) counted)) one is in
    let words = passed (word_count 4 line) [] (with_value (count_in 0 1000000 (word_at line 1)) counted) one dims.2 in
    let n = valued (count_in 0 1000000 (word_at line 1)) counted one words.1 in
    let species = valued (species_word_in (species_of before) (word_at line 2)) (inside n.0) one n.2 in
    let compartment = valued (number_in (compartment_names (blocks_said before)) (word_at line 3)) (last n.0 species.0) one species.2 in
    let named = number_in-within (compartment_names (blocks_said before)) (word_at line 3) compartment.0 compartment.1 in
    let closed = compartments_closed (dims_of before) (length (species_of before)) (blocks_said before) (h the_blocks) outside in
    let made : Placing = placing.InCompartment line.number n.0 species.0 compartment.0 in
    let same : made ≡ one = cc in
    subst (λ (one : Placing). IsSoFar (places one ∷ before)) {x = made} same
    (places_kept before made (is_settled (axes_of before) dims.0 dims.1)
    (count_in-high 0 1000000 (word_at line 1) n.0 n.1, species_word_in-within (species_of before) (word_at line 2) species.0 species.1, omega arith) h)

-- what is said of blocks stays sound
block_keeps : (one : BlockStatement) (before : List Said) (line : Stated) (said : BlockSaid) → block_line_in one (axes_of before) (species_of before) (blocks_said before) line ≡ Ok said → IsSoFar before → IsSoFar (of_blocks said ∷ before)
block_keeps one before line said is h =
    of_blocks_kept before said (compartments_grow one (axes_of before) (species_of before) (blocks_said before) line said is)
    (blocks_keep one (axes_of before) (species_of before) (blocks_said before) line said is (h the_axes) (h the_blocks)) h

cmd_keeps : (before : List Said) (line : Stated) (command : Command) → cmd_in (known_before before) (length (commands_of before)) line ≡ Ok command → stands_outside before ≡ true → IsSoFar before → IsSoFar (performs command ∷ before)
unfolding cmd_in
cmd_keeps before line command is outside h =
    let dims = valued (needs_walls (axes_of before)) _ command is in
    let sound = commands_are_sound (known_before before) (length (commands_of before)) line command is (h the_axes) in
    let closed = compartments_closed (dims_of before) (length (species_of before)) (blocks_said before) (h the_blocks) outside in
    performs_kept before command (is_settled (axes_of before) dims.0 dims.1)
    (commands_are_few (known_before before) (length (commands_of before)) line command is)
    (subst (λ (count : ℕ). IsCommand (length (species_of before)) count (length (outputs_of before)) (walls_of (axes_of before)) command) closed sound) h

-- a line keeps what the value that it says keeps
by_value : {T : Type 0} (said : T → Said) (rule : Result T Kind) (before : List Said) (one : Said) → say said rule ≡ Ok one → ((value : T) → rule ≡ Ok value → IsSoFar (said value ∷ before)) → IsSoFar (one ∷ before)
by_value said rule before one is keeps =
    let by = said_by said rule one is in
    subst (λ (one : Said). IsSoFar (one ∷ before)) by.2 (keeps by.0 by.1)

-- a line that makes a statement keeps what holds so far
statement_keeps : (statement : Statement) (before : List Said) (line : Stated) (said : Said) → may_stand statement (stands_outside before) ≡ true → statement_in statement before line ≡ Ok said → IsSoFar before → IsSoFar (said ∷ before)
unfolding statement_in
statement_keeps statement.PassedOver before line said place is h =
    let same : passed_over ≡ said = cc in subst (λ (s : Said). IsSoFar (s ∷ before)) same (passed_over_kept before h)
statement_keeps statement.NotInProfile before line said place is h = absurd cc
statement_keeps statement.Unknown before line said place is h = absurd cc
statement_keeps statement.Dim before line said place is h = by_value axes _ before said is (λ dims is. dim_keeps before line dims is h)
statement_keeps statement.Species before line said place is h = by_value names _ before said is (λ more is. species_keeps before line more is h)
statement_keeps statement.Difc before line said place is h = by_value (λ given. moves given.0 given.1) _ before said is (λ given is. moves_kept before given.0 given.1 h)
statement_keeps statement.Difstep before line said place is h = by_value (λ given. moves given.0 given.1) _ before said is (λ given is. moves_kept before given.0 given.1 h)
statement_keeps statement.TimeStart before line said place is h =
    by_value (λ time. of_times (starts time)) _ before said is (λ time is. times_kept before (starts time) (record { start = time_small (time_start_of before) line time is; stop = (h the_times).stop; step = (h the_times).step }) h)
statement_keeps statement.TimeStop before line said place is h =
    by_value (λ time. of_times (stops time)) _ before said is (λ time is. times_kept before (stops time) (record { start = (h the_times).start; stop = time_small (time_stop_of before) line time is; step = (h the_times).step }) h)
statement_keeps statement.TimeStep before line said place is h =
    by_value (λ time. of_times (steps time)) _ before said is (λ time is. times_kept before (steps time) (record { start = (h the_times).start; stop = (h the_times).stop; step = step_fits (time_step_of before) line time is }) h)
statement_keeps statement.MaxMol before line said place is h = by_value limits _ before said is (λ count is. max_mol_keeps before line count is h)
statement_keeps statement.RandomSeed before line said place is h = by_value seeds _ before said is (λ seed is. seeds_kept before seed h)
statement_keeps statement.PairOrder before line said place is h = by_value orders _ before said is (λ nearest is. orders_kept before nearest h)
statement_keeps statement.Boundaries before line said place is h = by_value (λ given. walls given.0 given.1) _ before said is (λ given is. boundaries_keep before line given is h)
statement_keeps statement.Mol before line said place is h = by_value places _ before said is (λ one is. mol_keeps before line one is h)
statement_keeps statement.CompartmentMol before line said place is h = by_value places _ before said is (λ one is. compartment_mol_keeps before line one is place h)
statement_keeps statement.Reaction before line said place is h = by_value of_reactions _ before said is (λ one is. of_reactions_kept before one (reaction_keeps (dims_of before) (species_of before) (reactions_said before) line one is (h the_reactions)) h)
statement_keeps statement.BindingRadius before line said place is h = by_value of_reactions _ before said is (λ one is. of_reactions_kept before one (binding_radius_keeps (dims_of before) (length (species_of before)) (reactions_said before) line one is (h the_reactions)) h)
statement_keeps statement.ReactionProbability before line said place is h = by_value of_reactions _ before said is (λ one is. of_reactions_kept before one (reaction_probability_keeps (dims_of before) (length (species_of before)) (reactions_said before) line one is (h the_reactions)) h)
statement_keeps statement.ProductPlacement before line said place is h = by_value of_reactions _ before said is (λ one is. of_reactions_kept before one (product_placement_keeps (dims_of before) (length (species_of before)) (species_of before) (reactions_said before) line one is (h the_reactions)) h)
statement_keeps (statement.Block block) before line said place is h = by_value of_blocks _ before said is (λ one is. block_keeps block before line one is h)
statement_keeps statement.OutputFiles before line said place is h = by_value writes _ before said is (λ more is. writes_kept before more (files_are_few (outputs_of before) line more is) h)
statement_keeps statement.Cmd before line said place is h = by_value performs _ before said is (λ command is. cmd_keeps before line command is place h)

pub line_keeps : (before : List Said) (line : Stated) (said : Said) → line_in before line ≡ Ok said → IsSoFar before → IsSoFar (said ∷ before)
unfolding line_in
line_keeps before line said is h =
    let statement = statement_of (word_at line 0) in
    let place = passed (unless (may_stand statement (stands_outside before)) kind.BadOrder) [] (statement_in statement before line) said is in
    statement_keeps statement before line said (holds (may_stand statement (stands_outside before)) kind.BadOrder place.0) place.1 h
