-- What an accepted text says is sound.
use Rattle.std.proofs.Common.{◌≡◌, ◌+◌, ◌*◌, ◌<◌, ◌≤◌, ◌%◌, ◌||◌, Bool, true, false, ℕ, suc, ℤ, pos, ◌<ℤ◌, ◌*ℤ◌, nat_le, List, [], ◌∷◌, length, All, Option, None, Some, Result, Ok, Err, IfSome, sum_by, unsigned_abs, arith, refl, sym, ap, ◌∙◌, subst, if◌then◌else◌, nat_lt}
use Rattle.std.specs.List.{list_all}
use Rattle.std.proofs.lemmas.Bool.Decides.{nat_tests}
use Rattle.std.proofs.lemmas.Int.{ints}
use Rattle.std.proofs.lemmas.List.Elements.{All-weaker}
use Rattle.std.proofs.lemmas.List.Sums.{AllPass-from_list_all}
use Rattle.smol_text.specs.Reading.{Stated, statements_of}
use Rattle.smol_types.specs.declared.draft.Draft.{Draft}
use Rattle.smol_types.specs.declared.fault.Kind.{Kind}
use Rattle.smol_types.specs.declared.fault.Kind.TheVariants as kind
use Rattle.smol_types.specs.declared.fault.Need.TheVariants as need
use Rattle.smol_types.specs.declared.species.Species.{Species}
use Rattle.smol_types.specs.Commands.{IsCommand}
use Rattle.smol_types.specs.Placings.{IsPlacing, placed_by}
use Rattle.smol_types.specs.Reactions.{IsReaction}
use Rattle.smol_types.specs.Sound.{IsSound}
use Rattle.smol_types.specs.Steps.{last_step}
use Rattle.smol_types.specs.Surfaces.{IsSurface}
use Rattle.smol_types.specs.Walls.{IsAxis, AreWalls}
use Rattle.smol_line.specs.declared.axes.Bounds.{Bounds}
use Rattle.smol_line.specs.Axes.{IsBounded, is_walled, walls_of}
use Rattle.smol_line.specs.Checks.{unless, passing, there, with_value}
use Rattle.smol_line.specs.Fault.{Fault, fault_at, at_line}
use Rattle.smol_line.proofs.Between.{unwalled, lower_wall, upper_wall}
use Rattle.smol_line.proofs.Passing.{passed, valued, holds, is_there}
use Rattle.smol_blocks.specs.Blocks.{Block, no_block, in_surface, in_compartment, BlockSaid, block_of, compartments_of, opening_line, surfaces_of}
use Rattle.smol_blocks.specs.BlocksSound.{AreBlocks, AreBlocksOf, IsBlock}
use Rattle.smol_reactions.specs.Content.{chances_of, reaction_made, reactions_of, schemes_of}
use Rattle.smol_reactions.specs.Rates.{all_rated, reaction_rated}
use Rattle.smol_reactions.proofs.Rated.{all_rated_sound, enough_at}
use Rattle.smol_reactions.proofs.Lists.{length-numbered}
use Rattle.smol_reactions.proofs.SoundSaid.{nothing_sound}
use Rattle.smol_config.specs.declared.whole.Needed.{Needed}
use Rattle.smol_config.specs.Said.{Said}
use Rattle.smol_config.specs.Axes.{axes_of, bounds_of, dims_of}
use Rattle.smol_config.specs.Species.{species_of}
use Rattle.smol_config.specs.Times.{time_start_of, time_stop_of, time_step_of}
use Rattle.smol_config.specs.MaxMol.{max_mol_of, limit_of}
use Rattle.smol_config.specs.Mol.{placings_of}
use Rattle.smol_config.specs.Reactions.{reactions_said}
use Rattle.smol_config.specs.Blocks.{blocks_said, compartment_count}
use Rattle.smol_config.specs.Commands.{commands_of, outputs_of}
use Rattle.smol_config.specs.Content.{content_of, species_from, started}
use Rattle.smol_config.specs.Whole.{bounded, has_chances, has_difstep, has_few_steps, has_room, has_words, needed_from, needed_in, behind_blocks, closed_in, whole_in}
use Rattle.smol_config.specs.Reader.{config_from, config_of, line_in, lines_in, read_from}
use Rattle.smol_config.specs.SoFar.{IsSoFar, the_axes, the_species, the_times, the_limit, the_order, the_placings, the_reactions, the_blocks, the_outputs, the_command_count, the_commands}
use Rattle.smol_config.specs.Tables.{AreSmall}
use Rattle.smol_config.proofs.Rules.{line_keeps}

-- the same value without its line
pub in_line : {T : Type 0} (line : ℕ) (value : Result T Kind) (found : T) → at_line line value ≡ Ok found → value ≡ Ok found
in_line line (Ok value) found is = let same : value ≡ found = cc in ap (λ v. Ok v) same
in_line line (Err kind) found is = absurd cc

-- what a file can't do without is given
pub needed_is : (before : List Said) (needed : Needed) → needed_in before ≡ Ok needed
    → (dims_of before ≡ Some needed.dims) × (is_walled needed.dims 0 (bounds_of 0 before) ≡ true) × (is_walled needed.dims 1 (bounds_of 1 before) ≡ true) × (is_walled needed.dims 2 (bounds_of 2 before) ≡ true)
    × (time_stop_of before ≡ Some needed.stop) × (time_step_of before ≡ Some needed.step)
unfolding needed_from
needed_is before needed is =
    let last = λ (dims : ℕ) (stop step : ℤ). let all : Result Needed Kind = Ok (record { dims = dims; stop = stop; step = step }) in all in
    let timed = λ (dims : ℕ) (stop : ℤ). with_value (there (time_step_of before) (kind.Missing need.TimeStep)) (last dims stop) in
    let rest = λ (dims : ℕ). with_value (there (time_stop_of before) (kind.Missing need.TimeStop)) (timed dims) in
    let x = λ (dims : ℕ). unless (is_walled dims 0 (bounds_of 0 before)) (kind.Missing (need.Boundaries 0)) in
    let y = λ (dims : ℕ). unless (is_walled dims 1 (bounds_of 1 before)) (kind.Missing (need.Boundaries 1)) in
    let z = λ (dims : ℕ). unless (is_walled dims 2 (bounds_of 2 before)) (kind.Missing (need.Boundaries 2)) in
    let dims = valued (there (dims_of before) (kind.Missing need.Dim)) (λ dims. passing (x dims ∷ y dims ∷ z dims ∷ []) (rest dims)) needed is in
    let a = passed (x dims.0) (y dims.0 ∷ z dims.0 ∷ []) (rest dims.0) needed dims.2 in
    let b = passed (y dims.0) (z dims.0 ∷ []) (rest dims.0) needed a.1 in
    let c = passed (z dims.0) [] (rest dims.0) needed b.1 in
    let stop = valued (there (time_stop_of before) (kind.Missing need.TimeStop)) (timed dims.0) needed c.1 in
    let step = valued (there (time_step_of before) (kind.Missing need.TimeStep)) (last dims.0 stop.0) needed stop.2 in
    let made : Needed = record { dims = dims.0; stop = stop.0; step = step.0 } in
    let same : made ≡ needed = cc in
    subst (λ (needed : Needed). (dims_of before ≡ Some needed.dims) × (is_walled needed.dims 0 (bounds_of 0 before) ≡ true) × (is_walled needed.dims 1 (bounds_of 1 before) ≡ true) × (is_walled needed.dims 2 (bounds_of 2 before) ≡ true)
    × (time_stop_of before ≡ Some needed.stop) × (time_step_of before ≡ Some needed.step)) {x = made} same (
      is_there (dims_of before) (kind.Missing need.Dim) dims.0 dims.1,
      holds (is_walled dims.0 0 (bounds_of 0 before)) (kind.Missing (need.Boundaries 0)) a.0,
      holds (is_walled dims.0 1 (bounds_of 1 before)) (kind.Missing (need.Boundaries 1)) b.0,
      holds (is_walled dims.0 2 (bounds_of 2 before)) (kind.Missing (need.Boundaries 2)) c.0,
      is_there (time_stop_of before) (kind.Missing need.TimeStop) stop.0 stop.1,
      is_there (time_step_of before) (kind.Missing need.TimeStep) step.0 step.1,
    )

-- nothing in what is accepted is too much
bounded_is : (chances : List (Option ℕ)) (draft found : Draft) → bounded chances draft ≡ Ok found → (draft ≡ found) × (has_few_steps draft ≡ true) × (list_all has_difstep draft.species ≡ true) × (has_room draft ≡ true) × (has_words draft ≡ true)
unfolding bounded
bounded_is chances draft found is =
    let few = unless (has_few_steps draft) kind.TooMany in
    let near = unless (list_all has_difstep draft.species) kind.OutOfRange in
    let shared = unless (has_chances chances draft) kind.ProbabilitySum in
    let words = unless (has_words draft) kind.ProbabilitySum in
    let room = unless (has_room draft) kind.TooMany in
    let all : Result Draft Kind = Ok draft in
    let a = passed few (near ∷ shared ∷ words ∷ room ∷ []) all found is in
    let b = passed near (shared ∷ words ∷ room ∷ []) all found a.1 in
    let e = passed shared (words ∷ room ∷ []) all found b.1 in
    let f = passed words (room ∷ []) all found e.1 in
    let c = passed room [] all found f.1 in
    let same : draft ≡ found = cc in
    (same, holds (has_few_steps draft) kind.TooMany a.0, holds (list_all has_difstep draft.species) kind.OutOfRange b.0, holds (has_room draft) kind.TooMany c.0, holds (has_words draft) kind.ProbabilitySum f.0)

doubled_even : (x : ℤ) → unsigned_abs (pos 2 *ℤ x) % 2 ≡ 0
doubled_even x = omega (arith, ints)

doubled_size : (x : ℤ) → unsigned_abs x ≤ 1000000000000 → unsigned_abs (pos 2 *ℤ x) ≤ 2000000000000
doubled_size x small = omega (arith, ints)

doubled_below : (x y : ℤ) → x <ℤ y → (pos 2 *ℤ x) <ℤ (pos 2 *ℤ y)
doubled_below x y below = omega (arith, ints)

-- the two walls of an axis
walls_are_axis : (axis : ℕ) (dims : Option ℕ) (bounds : Bounds) → IsBounded dims axis bounds → IsAxis axis (lower_wall axis bounds) (upper_wall axis bounds)
walls_are_axis axis dims bounds sound = record {
  lower_axis = refl;
  upper_axis = refl;
  lower_side = refl;
  upper_side = refl;
  lower_even = doubled_even bounds.low.0;
  upper_even = doubled_even bounds.high.0;
  lower_size = doubled_size bounds.low.0 sound.low_size;
  upper_size = doubled_size bounds.high.0 sound.high_size;
  ordered = doubled_below bounds.low.0 bounds.high.0 sound.ordered;
}

-- the walls of all axes in use
are_walls : (dims : ℕ) (x y z : Option Bounds) → 1 ≤ dims → dims ≤ 3 → is_walled dims 0 x ≡ true → is_walled dims 1 y ≡ true → is_walled dims 2 z ≡ true → IfSome x (IsBounded (Some dims) 0) → IfSome y (IsBounded (Some dims) 1) → IfSome z (IsBounded (Some dims) 2)
    → AreWalls 0 (walls_of (record { dims = Some dims; x = x; y = y; z = z })) × (length (walls_of (record { dims = Some dims; x = x; y = y; z = z })) ≡ 2 * dims)
unfolding walls_of
are_walls dims None y z least most has_x has_y has_z sound_x sound_y sound_z = absurd (unwalled dims 0 (omega arith) has_x)
are_walls dims (Some x) None None least most has_x has_y has_z sound_x sound_y sound_z =
    let one : dims ≤ 1 = let open_end : (nat_le dims 1 || false) ≡ true = has_y in grind (arith, nat_tests) in
    ((walls_are_axis 0 (Some dims) x sound_x, tt), omega arith)
are_walls dims (Some x) None (Some z) least most has_x has_y has_z sound_x sound_y sound_z = let used = sound_z.in_use in absurd (unwalled dims 1 (omega arith) has_y)
are_walls dims (Some x) (Some y) None least most has_x has_y has_z sound_x sound_y sound_z =
    let two : dims ≤ 2 = let open_end : (nat_le dims 2 || false) ≡ true = has_z in grind (arith, nat_tests) in
    let used = sound_y.in_use in
    ((walls_are_axis 0 (Some dims) x sound_x, (walls_are_axis 1 (Some dims) y sound_y, tt)), omega arith)
are_walls dims (Some x) (Some y) (Some z) least most has_x has_y has_z sound_x sound_y sound_z =
    let used = sound_z.in_use in
    ((walls_are_axis 0 (Some dims) x sound_x, (walls_are_axis 1 (Some dims) y sound_y, (walls_are_axis 2 (Some dims) z sound_z, tt))), omega arith)

pub length-species_from : (time : ℤ) (before : List Said) (number : ℕ) (names : List (List ℕ)) → length (species_from time before number names) ≡ length names
length-species_from time before number [] = refl
length-species_from time before number (name ∷ names) = ap suc (length-species_from time before (number + 1) names)

time_within : (given : Option ℤ) → IfSome given (λ time. unsigned_abs time ≤ 1000000000000000000) → unsigned_abs (started given) ≤ 1000000000000000000
time_within None within = omega arith
time_within (Some time) within = within

limit_within : (given : Option ℕ) → IfSome given (λ count. (1 ≤ count) × (count ≤ 1000000)) → (0 < limit_of given) × (limit_of given ≤ 1000000)
limit_within None within = (omega arith, omega arith)
limit_within (Some count) within = (within.0, within.1)

small_steps : (draft : Draft) → has_few_steps draft ≡ true → last_step draft.start draft.stop draft.step ≤ 4000000
small_steps draft few = grind (arith, nat_tests)

roomy : (placed most : ℕ) → nat_le placed most ≡ true → placed ≤ most
roomy placed most room = grind (arith, nat_tests)

near_all : (species : List Species) → list_all has_difstep species ≡ true → All (λ (one : Species). one.step ≤ 1000000000) species
near_all species near =
    All-weaker (λ (one : Species). has_difstep one ≡ true) (λ (one : Species). one.step ≤ 1000000000) (λ one passes. grind (arith, nat_tests)) species
    (AllPass-from_list_all has_difstep species near)

-- there are no more surfaces and compartments than there may be, whatever block is open
blocks_fit : (dims species_count : ℕ) (said : List BlockSaid) → AreBlocks (Some dims) species_count said → (length (surfaces_of said) ≤ 256) × (length (compartments_of said) ≤ 64) × AreBlocksOf dims species_count said
blocks_fit dims species_count said sound = by (block_of said) sound.block
  where
    by : (block : Block) → IsBlock dims species_count said block → (length (surfaces_of said) ≤ 256) × (length (compartments_of said) ≤ 64) × AreBlocksOf dims species_count said
    by no_block is = let surfaces = sound.surface_count in let compartments = sound.compartment_count in let a = is.0 in let b = is.1 in (omega arith, omega arith, sound)
    by (in_surface opened lines) is = let surfaces = sound.surface_count in let compartments = sound.compartment_count in let a = is.0 in let b = is.1 in (omega arith, omega arith, sound)
    by (in_compartment opened lines) is = let surfaces = sound.surface_count in let compartments = sound.compartment_count in let a = is.0 in let b = is.1 in (omega arith, omega arith, sound)

-- what lines without a fault say together is sound
content_is_sound : (before : List Said) (needed : Needed) → IsSoFar before → needed_in before ≡ Ok needed → has_few_steps (content_of needed before) ≡ true → list_all has_difstep (content_of needed before).species ≡ true → has_room (content_of needed before) ≡ true → has_words (content_of needed before) ≡ true → IsSound (content_of needed before)
unfolding content_of walls_of
content_is_sound before needed h is few near room words =
    let given = needed_is before needed is in
    let axes = rw given.0 at (h the_axes).dims in
    let stop = rw given.4 at (h the_times).stop in
    let step = rw given.5 at (h the_times).step in
    let start = time_within (time_start_of before) (h the_times).start in
    let most = limit_within (max_mol_of before) (h the_limit) in
    let Q : ℕ → Option Bounds → Option ℕ → Type 0 = λ axis bounds dims. IfSome bounds (IsBounded dims axis) in
    let walls = are_walls needed.dims (bounds_of 0 before) (bounds_of 1 before) (bounds_of 2 before) axes.0 axes.1 given.1 given.2 given.3
    (subst (Q 0 (bounds_of 0 before)) given.0 (h the_axes).x) (subst (Q 1 (bounds_of 1 before)) given.0 (h the_axes).y) (subst (Q 2 (bounds_of 2 before)) given.0 (h the_axes).z) in
    let count = length-species_from needed.step before 0 (species_of before) in
    let around = walls_of (axes_of before) in
    let Placed : ℕ → Type 0 = λ species. All (IsPlacing species (compartment_count before) around) (placings_of before) in
    let Commanded : ℕ → Type 0 = λ species. All (IsCommand species (compartment_count before) (length (outputs_of before)) around) (commands_of before) in
    let Reacting : ℕ → Type 0 = λ species. All (IsReaction needed.dims species) (all_rated (unsigned_abs needed.step) (reactions_of (reactions_said before))) in
    let Faced : ℕ → Type 0 = λ species. All (IsSurface species) (surfaces_of (blocks_said before)) in
    let blocks = blocks_fit needed.dims (length (species_of before)) (blocks_said before) (rw given.0 at (h the_blocks)) in
    let few_species = (h the_species) in record {
      dims_above = axes.0;
      dims_below = axes.1;
      species = omega arith;
      difsteps = near_all (content_of needed before).species near;
      walls = walls.0;
      wall_count = walls.1;
      surface_count = blocks.0;
      surfaces = subst Faced (sym count) blocks.2.surfaces;
      panel_count = blocks.2.panel_count;
      panels = blocks.2.panels;
      compartment_count = blocks.1;
      compartments = blocks.2.compartments;
      reaction_count = subst (λ (n : ℕ). n ≤ 1024) (sym (length-numbered (reaction_rated (unsigned_abs needed.step) (reactions_of (reactions_said before))) 0 (reactions_of (reactions_said before)) ∙ length-numbered (reaction_made (reactions_said before)) 0 (schemes_of (reactions_said before)))) (h the_reactions).count;
      reactions = subst Reacting (sym count) (all_rated_sound needed.dims (length (species_of before)) (unsigned_abs needed.step) (reactions_of (reactions_said before)) ((h the_reactions).all needed.dims (subst (λ (dims : Option ℕ). IfSome dims (λ (given : ℕ). given ≡ needed.dims)) (sym given.0) refl)));
      shares = λ species within. enough_at (length (content_of needed before).species) species (content_of needed before).reactions words within;
      placings = subst Placed (sym count) (h the_placings);
      command_count = (h the_command_count);
      commands = subst Commanded (sym count) (h the_commands);
      output_count = (h the_outputs);
      start = start;
      stop = stop;
      step = step.0;
      step_above = step.1;
      steps = small_steps (content_of needed before) few;
      max_above = most.0;
      max_below = most.1;
      placed = roomy (sum_by placed_by (placings_of before)) (limit_of (max_mol_of before)) room;
    }

-- what a file says whose blocks are closed is sound
pub closed_is_sound : (before : List Said) (draft : Draft) → IsSoFar before → closed_in before ≡ Ok draft → IsSound draft
unfolding closed_in
closed_is_sound before draft h is =
    let chances = chances_of (reactions_said before) in
    let needed = valued (needed_in before) (λ needed. bounded chances (content_of needed before)) draft (in_line 0 (with_value (needed_in before) (λ needed. bounded chances (content_of needed before))) draft is) in
    let by = bounded_is chances (content_of needed.0 before) draft needed.2 in
    subst IsSound by.0 (content_is_sound before needed.0 h needed.1 by.1 by.2 by.3 by.4)

-- a file that says something has no open block at its end
closed_by : (open_line : Option ℕ) (closed : Result Draft Fault) (draft : Draft) → behind_blocks open_line closed ≡ Ok draft → closed ≡ Ok draft
closed_by None closed draft is = is
closed_by (Some line) closed draft is = absurd cc

-- what the whole file says is sound
whole_is_sound : (before : List Said) (draft : Draft) → IsSoFar before → whole_in before ≡ Ok draft → IsSound draft
unfolding whole_in
whole_is_sound before draft h is = closed_is_sound before draft h (closed_by (opening_line (block_of (blocks_said before))) (closed_in before) draft is)

-- so far nothing is said
pub nothing_yet : IsSoFar []
nothing_yet the_axes = record { dims = tt; x = tt; y = tt; z = tt }
nothing_yet the_species = omega arith
nothing_yet the_times = record { start = tt; stop = tt; step = tt }
nothing_yet the_limit = tt
nothing_yet the_order = λ some. absurd (omega arith)
nothing_yet the_placings = λ k d within. absurd (omega arith)
nothing_yet the_reactions = nothing_sound None 0
nothing_yet the_blocks = refl
nothing_yet the_outputs = omega arith
nothing_yet the_command_count = omega arith
nothing_yet the_commands = λ k d within. absurd (omega arith)

-- lines that are read keep what holds so far
lines_keep : (before : List Said) (lines : List Stated) (all : List Said) → read_from before lines ≡ Ok all → IsSoFar before → IsSoFar all
lines_keep before [] all is h = let same : before ≡ all = cc in subst IsSoFar same h
lines_keep before (line ∷ lines) all is h =
    let said = valued (at_line line.number (line_in before line)) (λ said. read_from (said ∷ before) lines) all is in
    lines_keep (said.0 ∷ before) lines all said.2 (line_keeps before line said.0 (in_line line.number (line_in before line) said.0 said.1) h)

by_length : (long : Bool) (rest : Result Draft Fault) (draft : Draft) (fault : Fault) → (if long then Err fault else rest) ≡ Ok draft → rest ≡ Ok draft
by_length true rest draft fault is = absurd cc
by_length false rest draft fault is = is

-- accepted texts are sound
pub accepted_is_sound : (text : List ℕ) (draft : Draft) → config_of text ≡ Ok draft → IsSound draft
unfolding config_of
accepted_is_sound text draft is =
    let lines = valued (lines_in (statements_of text)) config_from draft (by_length (nat_lt 4194304 (length text)) (with_value (lines_in (statements_of text)) config_from) draft (fault_at 0 kind.TooLong) is) in
    let all = valued (read_from [] lines.0) whole_in draft lines.2 in
    whole_is_sound all.0 draft (lines_keep [] lines.0 all.0 all.1 nothing_yet) all.2

-- how the tests of the whole file end
pub closed_ok : (before : List Said) (needed : Needed) (draft : Draft) → needed_in before ≡ Ok needed → bounded (chances_of (reactions_said before)) (content_of needed before) ≡ Ok draft → closed_in before ≡ Ok draft
unfolding closed_in
closed_ok before needed draft is passes = rw (is, passes) refl

pub closed_missing : (before : List Said) (why : Kind) → needed_in before ≡ Err why → closed_in before ≡ Err (fault_at 0 why)
unfolding closed_in
closed_missing before why is = rw is refl

pub closed_excess : (before : List Said) (needed : Needed) (why : Kind) → needed_in before ≡ Ok needed → bounded (chances_of (reactions_said before)) (content_of needed before) ≡ Err why → closed_in before ≡ Err (fault_at 0 why)
unfolding closed_in
closed_excess before needed why is fails = rw (is, fails) refl

-- walls that hold so far are of lengths that there are
pub small_walls : (dims : Option ℕ) (axis : ℕ) (given bounds : Option Bounds) → given ≡ bounds → IfSome bounds (IsBounded dims axis) → IfSome given AreSmall
small_walls dims axis given bounds same h = subst (λ (b : Option Bounds). IfSome b AreSmall) (sym same) (by bounds h)
  where
    by : (bounds : Option Bounds) → IfSome bounds (IsBounded dims axis) → IfSome bounds AreSmall
    by None h = tt
    by (Some bounds) h = record { low = h.low_size; high = h.high_size }
