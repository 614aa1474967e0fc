-- The tests of the whole file, after its last line: what is missing, and what is too much.
use Rattle.std.specs.Prelude.{ℕ, Bool, nat_le, sum_by, List, [], ◌∷◌, length, Option, None, Some, Result, Ok, Err}
use Rattle.std.specs.List.{list_all}
use Rattle.smol_types.specs.declared.fault.Kind.{Kind}
use Rattle.smol_types.specs.declared.fault.Kind.TheVariants.{Missing, OpenBlock, OutOfRange, ProbabilitySum, TooMany}
use Rattle.smol_types.specs.declared.fault.Need.TheVariants.{Dim, Boundaries, TimeStop, TimeStep}
use Rattle.smol_types.specs.declared.draft.Draft.{Draft}
use Rattle.smol_types.specs.declared.species.Species.{Species}
use Rattle.smol_types.specs.Limits.{longest, most_steps}
use Rattle.smol_types.specs.Placings.{placed_by}
use Rattle.smol_types.specs.Steps.{last_step}
use Rattle.smol_line.specs.declared.axes.Axes.{Axes}
use Rattle.smol_line.specs.Axes.{is_walled}
use Rattle.smol_line.specs.Fault.{Fault, fault_at, at_line}
use Rattle.smol_line.specs.Checks.{unless, passing, with_value, there}
use Rattle.smol_blocks.specs.Blocks.{block_of, opening_line}
use Rattle.smol_reactions.specs.Content.{are_shared, chances_of}
use Rattle.smol_reactions.specs.Rates.{are_enough}
use Rattle.smol_config.specs.declared.times.Times.{Times}
use Rattle.smol_config.specs.declared.whole.Needed.{Needed}
use Rattle.smol_config.specs.Said.{Said}
use Rattle.smol_config.specs.Axes.{axes_of}
use Rattle.smol_config.specs.Times.{times_of}
use Rattle.smol_config.specs.Reactions.{reactions_said}
use Rattle.smol_config.specs.Blocks.{blocks_said}
use Rattle.smol_config.specs.Content.{content_of}

-- what a file can't do without: the number of axes, their walls, the time at which the run stops, and that of a step
unfoldable pub needed_from : Axes → Times → Result Needed Kind
needed_from axes times =
    with_value (there axes.dims (Missing Dim)) (λ dims.
    passing
    (unless (is_walled dims 0 axes.x) (Missing (Boundaries 0))
    ∷ unless (is_walled dims 1 axes.y) (Missing (Boundaries 1))
    ∷ unless (is_walled dims 2 axes.z) (Missing (Boundaries 2))
    ∷ [])
    (with_value (there times.stop (Missing TimeStop)) (λ stop.
    with_value (there times.step (Missing TimeStep)) (λ step.
    Ok (record { dims = dims; stop = stop; step = step })))))

-- the same of what the lines say
abbrev pub needed_in : List Said → Result Needed Kind
needed_in before = needed_from (axes_of before) (times_of before)

-- a run makes no more steps than it may
abbrev pub has_few_steps : Draft → Bool
has_few_steps draft = nat_le (last_step draft.start draft.stop draft.step) most_steps

-- a species goes no farther in a step than it may, as the root of its mean square
abbrev pub has_difstep : Species → Bool
has_difstep species = nat_le species.step longest

-- the probabilities of a species' first-order reactions, which were given in billionths, are no more than 1 together
abbrev pub has_chances : List (Option ℕ) → Draft → Bool
has_chances chances draft = are_shared (length draft.species) draft.reactions chances

-- the random words are enough for the first-order reactions of each species
abbrev pub has_words : Draft → Bool
has_words draft = are_enough (length draft.species) draft.reactions

-- no more molecules are placed than there may be
abbrev pub has_room : Draft → Bool
has_room draft = nat_le (sum_by placed_by draft.placings) draft.max_mol

-- what the lines say together, with the probabilities that reactions were given, unless something in it is too much
unfoldable pub bounded : List (Option ℕ) → Draft → Result Draft Kind
bounded chances draft =
    passing
    (unless (has_few_steps draft) TooMany
    ∷ unless (list_all has_difstep draft.species) OutOfRange
    ∷ unless (has_chances chances draft) ProbabilitySum
    ∷ unless (has_words draft) ProbabilitySum
    ∷ unless (has_room draft) TooMany
    ∷ [])
    (Ok draft)

-- what a file says whose blocks are closed, or the fault of the whole
unfoldable pub closed_in : List Said → Result Draft Fault
closed_in before =
    at_line 0 (with_value (needed_in before) (λ needed. bounded (chances_of (reactions_said before)) (content_of needed before)))

-- a block that is open at the end comes first, as a fault of the line that opened it
abbrev pub behind_blocks : Option ℕ → Result Draft Fault → Result Draft Fault
behind_blocks None closed = closed
behind_blocks (Some line) closed = Err (fault_at line OpenBlock)

-- what a file says, or the fault of the whole
unfoldable pub whole_in : List Said → Result Draft Fault
whole_in before = behind_blocks (opening_line (block_of (blocks_said before))) (closed_in before)
