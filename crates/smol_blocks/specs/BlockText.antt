-- What a block says, read on from the line that opens it to the line that closes it. What its lines say stands nearest first.
use Rattle.std.specs.Prelude.{ℕ, ◌+◌, List, [], ◌∷◌, length, Result, Ok, Err}
use Rattle.smol_text.specs.Reading.{Stated}
use Rattle.smol_types.specs.declared.fault.Kind.{Kind}
use Rattle.smol_types.specs.declared.fault.Kind.TheVariants as kind
use Rattle.smol_types.specs.Limits.{most_compartments, most_surfaces}
use Rattle.smol_line.specs.declared.axes.Axes.{Axes}
use Rattle.smol_line.specs.Axes.{needs_dim}
use Rattle.smol_line.specs.Checks.{word_count, passing, with_value}
use Rattle.smol_line.specs.Fault.{Fault, fault_at, at_line}
use Rattle.smol_line.specs.LookingBack.{say}
use Rattle.smol_line.specs.Words.{word_at}
use Rattle.smol_blocks.specs.declared.block_statement.BlockStatement.{BlockStatement}
use Rattle.smol_blocks.specs.declared.block_statement.BlockStatement.TheVariants.{InSurface, EndSurface, Surface, Point, EndCompartment}
use Rattle.smol_blocks.specs.declared.drafts.CompartmentDraft.{CompartmentDraft}
use Rattle.smol_blocks.specs.declared.drafts.SurfaceDraft.{SurfaceDraft}
use Rattle.smol_blocks.specs.declared.statement.Statement.{Statement}
use Rattle.smol_blocks.specs.declared.statement.Statement.TheVariants.{PassedOver, NotInProfile, Unknown, Block}
use Rattle.smol_blocks.specs.BlockName.{block_name_in}
use Rattle.smol_blocks.specs.Blocks.{panels_in}
use Rattle.smol_blocks.specs.Compartment.{CompartmentSaid, bounded, holds, bound_in, compartment_of, end_compartment_in, point_in}
use Rattle.smol_blocks.specs.Statement.{statement_of}
use Rattle.smol_blocks.specs.Surface.{Known, SurfaceSaid, surface_line_in, surface_of}

-- what a line in a block says
pub data InBlock (S : Type 0) : Type 0 where
  -- nothing, as it is passed over
  passes : InBlock S
  -- this of what the block gives
  says : S → InBlock S
  -- that the block ends
  ends : InBlock S

-- a line in a block that makes this statement. A block has rules for its own statements. Other lines are judged in it as
-- outside, and a statement of no block may not stand in one
abbrev pub line_of_block : {S : Type 0} → (BlockStatement → Result (InBlock S) Kind) → Statement → Result (InBlock S) Kind
line_of_block rules PassedOver = Ok passes
line_of_block rules NotInProfile = Err kind.NotInProfile
line_of_block rules Unknown = Err kind.UnknownStatement
line_of_block rules (Block one) = rules one
line_of_block rules other = Err kind.BadOrder

-- what becomes of the lines so far behind one more: the block is read on with what it says, or ends before the index that is next
abbrev pub behind_line : {S : Type 0} → List S → ℕ → (List S → Result (List S × ℕ) Fault) → InBlock S → Result (List S × ℕ) Fault
behind_line said next reading passes = reading said
behind_line said next reading (says more) = reading (more ∷ said)
behind_line said next reading ends = Ok (said, next)

-- what the lines of a block say that the line of this number opened, read on behind these from the line of this index, and the
-- index of the line behind the block. A text that ends in the block is at fault where the block was opened
abbrev pub block_from : {S : Type 0} → (List S → Stated → Result (InBlock S) Kind) → ℕ → List S → ℕ → List Stated
    → Result (List S × ℕ) Fault
block_from rule opened said at [] = Err (fault_at opened kind.OpenBlock)
block_from rule opened said at (line ∷ lines) =
    with_value (at_line line.number (rule said line)) (behind_line said (at + 1) (λ more. block_from rule opened more (at + 1) lines))

-- the rules of the statements in the block of a surface
abbrev pub surface_rules : Known → List SurfaceSaid → Stated → BlockStatement → Result (InBlock SurfaceSaid) Kind
surface_rules known said line (InSurface statement) = say says (surface_line_in statement known said line)
surface_rules known said line EndSurface = passing (word_count 1 line ∷ []) (Ok ends)
surface_rules known said line other = Err kind.BadOrder

-- a line in the block of a surface
abbrev pub in_surface_block : Known → List SurfaceSaid → Stated → Result (InBlock SurfaceSaid) Kind
in_surface_block known said line = line_of_block (surface_rules known said line) (statement_of (word_at line 0))

-- the surface of this name and number that comes of lines, with its panels
abbrev pub surface_draft : Known → List ℕ → ℕ → List SurfaceSaid → SurfaceDraft
surface_draft known name number said =
    record { name = name; surface = surface_of known said; panels = panels_in number known.others said }

-- what the block of a surface says that this line opens, where these lines from the index on stand behind it, by what the lines
-- before give: the axes, the names of species and of surfaces, and how many panels there are. It is the surface with its
-- panels, and the index of the line behind the block
unfoldable pub surface_block : Axes → List (List ℕ) → List (List ℕ) → ℕ → Stated → ℕ → List Stated → Result (SurfaceDraft × ℕ) Fault
surface_block axes species surfaces panels line at lines =
    with_value (at_line line.number (block_name_in axes surfaces most_surfaces line)) (λ name.
    with_value (at_line line.number (needs_dim axes)) (λ dims.
    let known : Known = record { dims = dims; species = species; others = panels } in
    with_value (block_from (in_surface_block known) line.number [] at lines) (λ read.
    Ok (surface_draft known name (length surfaces) read.0, read.1))))

-- the rules of the statements in the block of a compartment
abbrev pub compartment_rules : Axes → List (List ℕ) → List CompartmentSaid → Stated → BlockStatement → Result (InBlock CompartmentSaid) Kind
compartment_rules axes surfaces said line Surface = say (λ surface. says (bounded surface)) (bound_in surfaces said line)
compartment_rules axes surfaces said line Point = say (λ point. says (holds point)) (point_in axes said line)
compartment_rules axes surfaces said line EndCompartment = say (λ compartment. ends) (end_compartment_in said line)
compartment_rules axes surfaces said line other = Err kind.BadOrder

-- a line in the block of a compartment
abbrev pub in_compartment_block : Axes → List (List ℕ) → List CompartmentSaid → Stated → Result (InBlock CompartmentSaid) Kind
in_compartment_block axes surfaces said line =
    line_of_block (compartment_rules axes surfaces said line) (statement_of (word_at line 0))

-- the compartment of this name that comes of lines
abbrev pub compartment_draft : List ℕ → List CompartmentSaid → CompartmentDraft
compartment_draft name said = record { name = name; compartment = compartment_of said }

-- what the block of a compartment says that this line opens, where these lines from the index on stand behind it, by what the
-- lines before give: the axes, and the names of surfaces and of compartments. It is the compartment, and the index of the line
-- behind the block
unfoldable pub compartment_block : Axes → List (List ℕ) → List (List ℕ) → Stated → ℕ → List Stated → Result (CompartmentDraft × ℕ) Fault
compartment_block axes surfaces compartments line at lines =
    with_value (at_line line.number (block_name_in axes compartments most_compartments line)) (λ name.
    with_value (block_from (in_compartment_block axes surfaces) line.number [] at lines) (λ read.
    Ok (compartment_draft name read.0, read.1)))
