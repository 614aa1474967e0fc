-- What the reader keeps of the lines read so far. This is no part of what a text means.
use Rattle.std.specs.Prelude.{◌≡◌, ◌≤◌, ◌+◌, ◌==◌, ℕ, ℤ, unsigned_abs, List, [], ◌∷◌, length, drop, Option, Some, Result, Ok, Err, slice_index_or, if◌then◌else◌}
use Rattle.std.specs.Result.{IsOk}
use Rattle.smol_text.specs.Reading.{Stated}
use Rattle.smol_types.specs.declared.draft.Draft.{Draft}
use Rattle.smol_types.specs.declared.fault.ConfigFault.{ConfigFault}
use Rattle.smol_types.specs.declared.fault.Kind.{Kind}
use Rattle.smol_types.specs.Limits.{most_outputs, most_species}
use Rattle.smol_types.specs.declared.species.Species.{Species as TheSpecies}
use Rattle.smol_line.specs.declared.axes.Axes.{Axes}
use Rattle.smol_line.specs.declared.axes.Bounds.{Bounds}
use Rattle.smol_line.specs.Axes.{AreAxes}
use Rattle.smol_line.specs.Checks.{with_value}
use Rattle.smol_line.specs.Fault.{TellsFault}
use Rattle.smol_line.specs.Length.{most_micros}
use Rattle.smol_line.specs.LookingBack.{Reads as ReadsLine}
use Rattle.smol_line.specs.declared.refusal.Refusal.{Refusal}
use Rattle.smol_line.specs.declared.refusal.Refusal.TheVariants.{At}
use Rattle.smol_blocks.specs.declared.blocks.Blocks.{Blocks}
use Rattle.smol_blocks.specs.Blocks.{BlockSaid}
use Rattle.smol_blocks.specs.BlocksTable.{Holds as HoldsBlocks, IsKept as AreBlocksKept}
use Rattle.smol_reactions.specs.declared.reactions.Reactions.{Reactions}
use Rattle.smol_reactions.specs.Rates.{all_rated}
use Rattle.smol_reactions.specs.ReactionSaid.{ReactionSaid}
use Rattle.smol_reactions.specs.Table.{Holds as HoldsReactions, IsKept}
use Rattle.smol_config.specs.declared.motion.Motion.{Motion}
use Rattle.smol_config.specs.declared.tables.Tables.{Tables}
use Rattle.smol_config.specs.declared.whole.Needed.{Needed}
use Rattle.smol_config.specs.declared.whole.Parts.{Parts}
use Rattle.smol_config.specs.Said.{Said}
use Rattle.smol_config.specs.Motion.{still, difstep_of}
use Rattle.smol_config.specs.MaxMol.{limit_of}
use Rattle.smol_config.specs.PairOrder.{nearest_by}
use Rattle.smol_config.specs.Reactions.{reactions_said}
use Rattle.smol_config.specs.Blocks.{blocks_said}
use Rattle.smol_config.specs.Looked.{Looked, looked_up}
use Rattle.smol_config.specs.Reader.{read_from}
use Rattle.smol_config.specs.SoFar.{IsSoFar}
use Rattle.smol_config.specs.Whole.{whole_in}

-- what the tables give of each plain matter
abbrev pub seen : Tables → Looked
seen tables = record {
  axes = tables.axes;
  species = tables.species.names;
  motions = λ number. slice_index_or tables.species.motions.items number still;
  times = tables.times;
  max_mol = tables.max_mol;
  seed = tables.seed;
  nearest = tables.nearest;
  placings = tables.placings;
  outputs = tables.outputs;
  commands = tables.commands;
}

-- the tables of reactions and of blocks hold what is said of these, and their parts fit each other
pub record HoldGroups (of_reactions : Reactions) (of_blocks : Blocks) (reactions_told : List ReactionSaid) (blocks_told : List BlockSaid)
    : Type 0 where
  pub reactions : HoldsReactions of_reactions reactions_told
  pub kept : IsKept of_reactions
  pub blocks : HoldsBlocks of_blocks blocks_told
  pub blocks_kept : AreBlocksKept of_blocks

-- the tables hold what the lines so far say: each plain table is its look-up
pub record Holds (tables : Tables) (before : List Said) : Type 0 where
  pub plain : seen tables ≡ looked_up before
  pub groups : HoldGroups tables.reactions tables.blocks (reactions_said before) (blocks_said before)
  pub open groups use *

-- how the reading of a line ends: it is taken and the tables hold what it says too, or its fault is told, or memory ran out
abbrev pub Reads : {T : Type 0} → (List Said → Stated → Result Said Kind) → Stated → Tables → Tables → Result T Refusal → Type 0
Reads rule line old new result = ReadsLine Holds (λ before. rule before line) old new result

-- a value that stands once is kept, or the fault of its line is told
abbrev pub Keeps : {T U : Type 0} → Result T Kind → Option T → Option T → Result U Refusal → Type 0
Keeps (Ok value) old new result = (new ≡ Some value) × IsOk result
Keeps (Err kind) old new result = (new ≡ old) × (result ≡ Err (At kind))

-- the parts of the tables fit each other, and no more is in them than there may be
pub record AreReady (tables : Tables) : Type 0 where
  pub axes : AreAxes tables.axes
  pub species : length tables.species.names ≤ most_species
  pub reactions : IsKept tables.reactions
  pub blocks : AreBlocksKept tables.blocks
  pub outputs : length tables.outputs ≤ most_outputs

-- how the reading on from the line of an index ends, behind these lines: it goes on from the index that is answered, and the
-- tables hold what was read too; or the fault of the lines is told, or memory ran out
abbrev pub ReadsBehind : List Stated → ℕ → List Said → Tables → Result ℕ ConfigFault → Type 0
ReadsBehind lines at before new (Ok next) =
    (after : List Said) × Holds new after × IsSoFar after × (read_from before (drop at lines) ≡ read_from after (drop next lines))
ReadsBehind lines at before new (Err fault) = TellsFault fault (with_value (read_from before (drop at lines)) whole_in)

-- the same behind all lines without a fault that the tables hold
abbrev pub ReadsOn : List Stated → ℕ → Tables → Tables → Result ℕ ConfigFault → Type 0
ReadsOn lines at old new result = (before : List Said) → Holds old before → IsSoFar before → ReadsBehind lines at before new result

-- the tables hold what lines without a fault say
abbrev pub IsReached : Tables → Type 0
IsReached tables = (before : List Said) × Holds tables before × IsSoFar before

-- the axes with these walls of one of them more
abbrev pub with_bounds : ℕ → Bounds → Axes → Axes
with_bounds axis bounds axes =
    if axis == 0
    then record axes { x = Some bounds }
    else (if axis == 1 then record axes { y = Some bounds } else record axes { z = Some bounds })

-- walls of lengths that there are
pub record AreSmall (bounds : Bounds) : Type 0 where
  pub low : unsigned_abs bounds.low.0 ≤ most_micros
  pub high : unsigned_abs bounds.high.0 ≤ most_micros

-- the species of a table, from this number on, each with its difstep where a step takes this time
abbrev pub species_made : ℤ → List Motion → ℕ → List (List ℕ) → List TheSpecies
species_made time motions number [] = []
species_made time motions number (name ∷ names) =
    record { name = name; step = difstep_of time (slice_index_or motions number still) } ∷ species_made time motions (number + 1) names

-- the draft of these parts and of what the tables hand over
abbrev pub drafted : Needed → Parts → Tables → Draft
drafted needed parts tables = record {
  dims = needed.dims;
  species = parts.species;
  walls = parts.walls;
  surfaces = tables.blocks.surfaces;
  panels = tables.blocks.panels;
  compartments = tables.blocks.compartments;
  reactions = all_rated (unsigned_abs needed.step) tables.reactions.list.items;
  placings = tables.placings;
  commands = tables.commands;
  outputs = parts.outputs;
  start = parts.start;
  stop = needed.stop;
  step = needed.step;
  max_mol = limit_of tables.max_mol;
  seed = tables.seed;
  nearest = nearest_by tables.nearest;
}
