-- What holds so far is kept by what each line says.
use Rattle.std.proofs.Common.{◌≡◌, ◌+◌, ◌<◌, ◌≤◌, ◌||◌, Bool, true, false, ℕ, zero, suc, nat_le, List, [], ◌∷◌, ◌++◌, length, All, Option, None, Some, IfSome, IsSomeAnd, arith, subst}
use Rattle.std.proofs.lemmas.Bool.Decides.{nat_tests}
use Rattle.std.proofs.lemmas.List.{length-append}
use Rattle.std.proofs.lemmas.List.Elements.{All-push, All-weaker}
use Rattle.smol_types.specs.declared.command.Command.{Command}
use Rattle.smol_types.specs.declared.placing.Placing.{Placing}
use Rattle.smol_types.specs.declared.placing.Placing.TheVariants as placing
use Rattle.smol_types.specs.declared.wall.Wall.{Wall}
use Rattle.smol_types.specs.Commands.{IsCommand}
use Rattle.smol_types.specs.Placings.{IsPlacing}
use Rattle.smol_line.specs.declared.axes.Axes.{Axes}
use Rattle.smol_line.specs.declared.axes.Bounds.{Bounds}
use Rattle.smol_line.specs.Axes.{AreAxes, AreSettled, IsBounded, are_walled, is_walled, walls_of}
use Rattle.smol_line.specs.declared.species_word.Chosen.{Chosen}
use Rattle.smol_line.proofs.Passing.{three}
use Rattle.smol_blocks.specs.Blocks.{BlockSaid, compartments_of}
use Rattle.smol_blocks.specs.BlocksSound.{AreBlocks}
use Rattle.smol_blocks.proofs.SoundBlocks.{axes_given, species_given}
use Rattle.smol_cmd.proofs.Sound.{commands_stay_sound}
use Rattle.smol_reactions.specs.ReactionSaid.{ReactionSaid}
use Rattle.smol_reactions.specs.Sound.{AreReactions}
use Rattle.smol_reactions.proofs.SoundSaid.{dims_keep, species_keep}
use Rattle.smol_config.specs.declared.motion.Motion.{Motion}
use Rattle.smol_config.specs.Said.{Said, TimeSaid, passed_over, axes, names, moves, of_times, limits, seeds, orders, walls, places, of_reactions, of_blocks, writes, performs}
use Rattle.smol_config.specs.Axes.{axes_of, bounds_of, dims_of}
use Rattle.smol_config.specs.Species.{species_of}
use Rattle.smol_config.specs.Boundaries.{bounds_at}
use Rattle.smol_config.specs.Mol.{placings_of}
use Rattle.smol_config.specs.Reactions.{reactions_said}
use Rattle.smol_config.specs.Blocks.{blocks_said, compartment_count}
use Rattle.smol_config.specs.Commands.{commands_of, outputs_of}
use Rattle.smol_config.specs.Times.{times_of}
use Rattle.smol_config.specs.SoFar.{AreTimes, IsSoFar, the_axes, the_species, the_times, the_limit, the_order, the_placings, the_reactions, the_blocks, the_outputs, the_command_count, the_commands}

-- with more species and compartments each number is one of them still
IsPlacing-more : (n m compartments more_compartments : ℕ) (around : List Wall) → n ≤ m → compartments ≤ more_compartments → (one : Placing) → IsPlacing n compartments around one → IsPlacing m more_compartments around one
IsPlacing-more n m compartments more_compartments around more further (placing.Mol count species at) h = let below = h.1 in (h.0, omega arith, h.2, h.3)
IsPlacing-more n m compartments more_compartments around more further (placing.InCompartment line count species compartment) h =
    let below = h.1 in let within = h.2 in (h.0, omega arith, omega arith)

commands_more : (species compartments outputs more_species more_compartments more_outputs : ℕ) (around : List Wall) → species ≤ more_species → compartments ≤ more_compartments → outputs ≤ more_outputs → (all : List Command) → All (IsCommand species compartments outputs around) all → All (IsCommand more_species more_compartments more_outputs around) all
commands_more species compartments outputs more_species more_compartments more_outputs around a b c all h =
    All-weaker (IsCommand species compartments outputs around) (IsCommand more_species more_compartments more_outputs around)
    (λ one sound. commands_stay_sound species compartments outputs more_species more_compartments more_outputs around one sound a b c) all h

-- without axes there are no walls
unbounded : (axis : ℕ) (dims : Option ℕ) (bounds : Option Bounds) (P : Bounds → Type 0) → dims ≡ None → IfSome bounds (IsBounded dims axis) → IfSome bounds P
unbounded axis dims None P none h = tt
unbounded axis dims (Some bounds) P none h =
    let Q : Option ℕ → Type 0 = λ dims. IsSomeAnd dims (λ count. axis < count) in
    absurd (subst Q none h.in_use)

-- and nothing stands between walls
unsettled : (known : Axes) → known.dims ≡ None → AreSettled known → ⊥
unsettled known none h =
    let Q : Option ℕ → Type 0 = λ dims. IsSomeAnd dims (λ dims. are_walled dims known ≡ true) in
    subst Q none h

-- each of no things
all_of_none : {X : Type 0} (P : X → Type 0) (xs : List X) → (0 < length xs → ⊥) → All P xs
all_of_none P xs none = λ k d within. absurd (none (omega arith))

-- a line that is passed over, and so on: a lemma for each thing that a line may say, with the matters that it touches
pub passed_over_kept : (before : List Said) → IsSoFar before → IsSoFar (passed_over ∷ before)
passed_over_kept before h the_axes = h the_axes
passed_over_kept before h other = h other

pub axes_kept : (before : List Said) (dims : ℕ) → dims_of before ≡ None → 1 ≤ dims → dims ≤ 3 → IsSoFar before → IsSoFar (axes dims ∷ before)
unfolding walls_of
axes_kept before dims new least most h the_axes =
    let axes = h the_axes in record {
      dims = (least, most);
      x = unbounded 0 (dims_of before) (bounds_of 0 before) _ new axes.x;
      y = unbounded 1 (dims_of before) (bounds_of 1 before) _ new axes.y;
      z = unbounded 2 (dims_of before) (bounds_of 2 before) _ new axes.z;
    }
axes_kept before dims new least most h the_order = λ some. absurd (unsettled (axes_of before) new (h the_order some))
axes_kept before dims new least most h the_reactions =
    dims_keep (Some dims) (length (species_of before)) (reactions_said before) (subst (λ (given : Option ℕ). AreReactions given (length (species_of before)) (reactions_said before)) new (h the_reactions))
axes_kept before dims new least most h the_blocks =
    axes_given dims (length (species_of before)) (blocks_said before) (subst (λ (given : Option ℕ). AreBlocks given (length (species_of before)) (blocks_said before)) new (h the_blocks))
axes_kept before dims new least most h other = h other

pub names_kept : (before : List Said) (more : List (List ℕ)) → length (species_of before) + length more ≤ 256 → IsSoFar before → IsSoFar (names more ∷ before)
names_kept before more few h = kept (length-append (species_of before) more)
  where
    kept : length (species_of before ++ more) ≡ length (species_of before) + length more → IsSoFar (names more ∷ before)
    kept count the_species = omega arith
    kept count the_placings =
        All-weaker _ _ (IsPlacing-more (length (species_of before)) (length (species_of before ++ more)) (compartment_count before) (compartment_count before) (walls_of (axes_of before)) (omega arith) (omega arith)) (placings_of before) (h the_placings)
    kept count the_reactions = species_keep (dims_of before) (length (species_of before)) (length (species_of before ++ more)) (reactions_said before) (omega arith) (h the_reactions)
    kept count the_blocks = species_given (dims_of before) (length (species_of before)) (length (species_of before ++ more)) (blocks_said before) (omega arith) (h the_blocks)
    kept count the_commands =
        commands_more (length (species_of before)) (compartment_count before) (length (outputs_of before)) (length (species_of before ++ more)) (compartment_count before) (length (outputs_of before)) (walls_of (axes_of before)) (omega arith) (omega arith) (omega arith) (commands_of before) (h the_commands)
    kept count other = h other

pub moves_kept : (before : List Said) (chosen : Chosen) (motion : Motion) → IsSoFar before → IsSoFar (moves chosen motion ∷ before)
moves_kept before chosen motion h the_axes = h the_axes
moves_kept before chosen motion h other = h other

pub times_kept : (before : List Said) (said : TimeSaid) → AreTimes (times_of (of_times said ∷ before)) → IsSoFar before → IsSoFar (of_times said ∷ before)
times_kept before said fit h the_times = fit
times_kept before said fit h other = h other

pub limits_kept : (before : List Said) (count : ℕ) → 1 ≤ count → count ≤ 1000000 → IsSoFar before → IsSoFar (limits count ∷ before)
limits_kept before count least most h the_limit = (least, most)
limits_kept before count least most h other = h other

pub seeds_kept : (before : List Said) (seed : ℕ) → IsSoFar before → IsSoFar (seeds seed ∷ before)
seeds_kept before seed h the_axes = h the_axes
seeds_kept before seed h other = h other

pub orders_kept : (before : List Said) (nearest : Bool) → IsSoFar before → IsSoFar (orders nearest ∷ before)
orders_kept before nearest h the_axes = h the_axes
orders_kept before nearest h other = h other

pub of_reactions_kept : (before : List Said) (said : ReactionSaid) → AreReactions (dims_of before) (length (species_of before)) (said ∷ reactions_said before) → IsSoFar before → IsSoFar (of_reactions said ∷ before)
of_reactions_kept before said sound h the_reactions = sound
of_reactions_kept before said sound h other = h other

pub of_blocks_kept : (before : List Said) (said : BlockSaid) → length (compartments_of (blocks_said before)) ≤ length (compartments_of (said ∷ blocks_said before)) → AreBlocks (dims_of before) (length (species_of before)) (said ∷ blocks_said before) → IsSoFar before → IsSoFar (of_blocks said ∷ before)
of_blocks_kept before said grown sound h the_blocks = sound
of_blocks_kept before said grown sound h the_placings =
    All-weaker _ _ (IsPlacing-more (length (species_of before)) (length (species_of before)) (compartment_count before) (length (compartments_of (said ∷ blocks_said before))) (walls_of (axes_of before)) (omega arith) grown) (placings_of before) (h the_placings)
of_blocks_kept before said grown sound h the_commands =
    commands_more (length (species_of before)) (compartment_count before) (length (outputs_of before)) (length (species_of before)) (length (compartments_of (said ∷ blocks_said before))) (length (outputs_of before)) (walls_of (axes_of before)) (omega arith) grown (omega arith) (commands_of before) (h the_commands)
of_blocks_kept before said grown sound h other = h other

pub writes_kept : (before : List Said) (more : List (List ℕ)) → length (outputs_of before ++ more) ≤ 64 → IsSoFar before → IsSoFar (writes more ∷ before)
writes_kept before more few h the_outputs = few
writes_kept before more few h the_commands =
    let count = length-append (outputs_of before) more in
    commands_more (length (species_of before)) (compartment_count before) (length (outputs_of before)) (length (species_of before)) (compartment_count before) (length (outputs_of before ++ more)) (walls_of (axes_of before)) (omega arith) (omega arith) (omega arith) (commands_of before) (h the_commands)
writes_kept before more few h other = h other

pub places_kept : (before : List Said) (one : Placing) → AreSettled (axes_of before) → IsPlacing (length (species_of before)) (compartment_count before) (walls_of (axes_of before)) one → IsSoFar before → IsSoFar (places one ∷ before)
places_kept before one settled is h the_order = λ some. settled
places_kept before one settled is h the_placings = All-push (IsPlacing (length (species_of before)) (compartment_count before) (walls_of (axes_of before))) (placings_of before) one (h the_placings) is
places_kept before one settled is h other = h other

pub performs_kept : (before : List Said) (command : Command) → AreSettled (axes_of before) → length (commands_of before) < 256 → IsCommand (length (species_of before)) (compartment_count before) (length (outputs_of before)) (walls_of (axes_of before)) command → IsSoFar before → IsSoFar (performs command ∷ before)
performs_kept before command settled few is h the_order = λ some. settled
performs_kept before command settled few is h the_command_count = let count = length-append (commands_of before) (command ∷ []) in omega arith
performs_kept before command settled few is h the_commands =
    All-push (IsCommand (length (species_of before)) (compartment_count before) (length (outputs_of before)) (walls_of (axes_of before))) (commands_of before) command (h the_commands) is
performs_kept before command settled few is h other = h other

missing_wall : (dims axis : ℕ) (bounds : Option Bounds) → axis < dims → bounds ≡ None → is_walled dims axis bounds ≡ true → ⊥
missing_wall dims axis None used none walled = let passed : (nat_le dims axis || false) ≡ true = walled in grind (arith, nat_tests)
missing_wall dims axis (Some bounds) used none walled = absurd cc

-- where all axes in use have walls, each has
settled_walls : (known : Axes) (dims : ℕ) → known.dims ≡ Some dims → AreSettled known → are_walled dims known ≡ true
settled_walls known dims given settled =
    let Q : Option ℕ → Type 0 = λ dims. IsSomeAnd dims (λ dims. are_walled dims known ≡ true) in
    subst Q given settled

-- where an axis in use has no walls yet, nothing stands between walls
not_settled : (known : Axes) (dims axis : ℕ) → known.dims ≡ Some dims → axis < dims → axis < 3 → bounds_at axis known ≡ None → AreSettled known → ⊥
not_settled known dims axis given used within none settled =
    by axis used within none (three (is_walled dims 0 known.x) (is_walled dims 1 known.y) (is_walled dims 2 known.z) (settled_walls known dims given settled))
  where
    by : (axis : ℕ) → axis < dims → axis < 3 → bounds_at axis known ≡ None → (is_walled dims 0 known.x ≡ true) × (is_walled dims 1 known.y ≡ true) × (is_walled dims 2 known.z ≡ true) → ⊥
    by zero used within none all = missing_wall dims 0 known.x used none all.0
    by (suc zero) used within none all = missing_wall dims 1 known.y used none all.1
    by (suc (suc zero)) used within none all = missing_wall dims 2 known.z used none all.2
    by (suc (suc (suc axis))) used within none all = absurd (omega arith)

-- the axes with the walls of one more
with_walls : (before : List Said) (axis : ℕ) (bounds : Bounds) → axis < 3 → IsBounded (dims_of before) axis bounds → AreAxes (axes_of before) → AreAxes (axes_of (walls axis bounds ∷ before))
with_walls before zero bounds within is h = record { dims = h.dims; x = is; y = h.y; z = h.z }
with_walls before (suc zero) bounds within is h = record { dims = h.dims; x = h.x; y = is; z = h.z }
with_walls before (suc (suc zero)) bounds within is h = record { dims = h.dims; x = h.x; y = h.y; z = is }
with_walls before (suc (suc (suc axis))) bounds within is h = absurd (omega arith)

pub walls_kept : (before : List Said) (dims axis : ℕ) (bounds : Bounds) → dims_of before ≡ Some dims → axis < dims → axis < 3 → bounds_at axis (axes_of before) ≡ None → IsBounded (dims_of before) axis bounds → IsSoFar before → IsSoFar (walls axis bounds ∷ before)
walls_kept before dims axis bounds given used within none is h = kept (λ some. not_settled (axes_of before) dims axis given used within none (h the_order some))
  where
    kept : (0 < length (placings_of before) + length (commands_of before) → ⊥) → IsSoFar (walls axis bounds ∷ before)
    kept free the_axes = with_walls before axis bounds within is (h the_axes)
    kept free the_order = λ some. absurd (free some)
    kept free the_placings = all_of_none (IsPlacing (length (species_of before)) (compartment_count before) (walls_of (axes_of (walls axis bounds ∷ before)))) (placings_of before) (λ some. free (omega arith))
    kept free the_commands = all_of_none (IsCommand (length (species_of before)) (compartment_count before) (length (outputs_of before)) (walls_of (axes_of (walls axis bounds ∷ before)))) (commands_of before) (λ some. free (omega arith))
    kept free other = h other
