-- Which texts are configurations, and what they say: each line is judged from what the lines before it say.
use Rattle.std.specs.Prelude.{ℕ, nat_lt, List, [], ◌∷◌, length, Result, Ok, Err, if◌then◌else◌}
use Rattle.smol_text.specs.Reading.{Stated, LinesFault, bad_byte, open_comment, too_many_lines, statements_of}
use Rattle.smol_types.specs.declared.draft.Draft.{Draft}
use Rattle.smol_types.specs.declared.fault.Kind.{Kind}
use Rattle.smol_types.specs.declared.fault.Kind.TheVariants as kind
use Rattle.smol_line.specs.Fault.{Fault, fault_at, at_line}
use Rattle.smol_line.specs.Words.{word_at}
use Rattle.smol_line.specs.Checks.{unless, passing, with_value}
use Rattle.smol_line.specs.LookingBack.{say}
use Rattle.smol_blocks.specs.Blocks.{block_line_in, compartment_names}
use Rattle.smol_cmd.specs.Cmd.{cmd_in}
use Rattle.smol_cmd.specs.OutputFiles.{output_files_in}
use Rattle.smol_reactions.specs.Statements.{binding_radius_said, product_placement_said, reaction_probability_said, reaction_said}
use Rattle.smol_blocks.specs.declared.statement.Statement.{Statement}
use Rattle.smol_blocks.specs.declared.statement.Statement.TheVariants.{PassedOver, NotInProfile, Unknown, Dim, Species, Difc, Difstep, TimeStart, TimeStop, TimeStep, MaxMol, RandomSeed, PairOrder, Boundaries, Mol, CompartmentMol, Reaction, BindingRadius, ReactionProbability, ProductPlacement, Block, OutputFiles, Cmd}
use Rattle.smol_blocks.specs.Statement.{may_stand, statement_of}
use Rattle.smol_config.specs.Said.{Said, passed_over, axes, names, moves, starts, stops, steps, of_times, limits, seeds, orders, walls, places, of_reactions, of_blocks, writes, performs}
use Rattle.smol_config.specs.Axes.{axes_of, dims_of}
use Rattle.smol_config.specs.Dim.{dim_in}
use Rattle.smol_config.specs.Species.{species_in, species_of}
use Rattle.smol_config.specs.Motion.{difc_in, difstep_in}
use Rattle.smol_config.specs.Times.{time_start_of, time_stop_of, time_step_of, given_time_in, time_step_in}
use Rattle.smol_config.specs.MaxMol.{max_mol_in, max_mol_of}
use Rattle.smol_config.specs.RandomSeed.{random_seed_in, random_seed_of}
use Rattle.smol_config.specs.PairOrder.{pair_order_in, pair_order_of}
use Rattle.smol_config.specs.Boundaries.{boundaries_in}
use Rattle.smol_config.specs.Mol.{mol_in}
use Rattle.smol_config.specs.Reactions.{reactions_said}
use Rattle.smol_config.specs.Blocks.{blocks_said, stands_outside}
use Rattle.smol_config.specs.CompartmentMol.{compartment_mol_in}
use Rattle.smol_config.specs.Commands.{commands_of, known_before, outputs_of}
use Rattle.smol_config.specs.Whole.{whole_in}

-- what a line says that makes this statement, or its fault
unfoldable pub statement_in : Statement → List Said → Stated → Result Said Kind
statement_in PassedOver before line = Ok passed_over
statement_in NotInProfile before line = Err kind.NotInProfile
statement_in Unknown before line = Err kind.UnknownStatement
statement_in Dim before line = say axes (dim_in (axes_of before) line)
statement_in Species before line = say names (species_in (species_of before) line)
statement_in Difc before line = say (λ given. moves given.0 given.1) (difc_in (species_of before) line)
statement_in Difstep before line = say (λ given. moves given.0 given.1) (difstep_in (species_of before) line)
statement_in TimeStart before line = say (λ time. of_times (starts time)) (given_time_in (time_start_of before) line)
statement_in TimeStop before line = say (λ time. of_times (stops time)) (given_time_in (time_stop_of before) line)
statement_in TimeStep before line = say (λ time. of_times (steps time)) (time_step_in (time_step_of before) line)
statement_in MaxMol before line = say limits (max_mol_in (max_mol_of before) line)
statement_in RandomSeed before line = say seeds (random_seed_in (random_seed_of before) line)
statement_in PairOrder before line = say orders (pair_order_in (pair_order_of before) line)
statement_in Boundaries before line = say (λ given. walls given.0 given.1) (boundaries_in (axes_of before) line)
statement_in Mol before line = say places (mol_in (axes_of before) (species_of before) line)
statement_in CompartmentMol before line =
    say places (compartment_mol_in (axes_of before) (species_of before) (compartment_names (blocks_said before)) line)
statement_in Reaction before line = say of_reactions (reaction_said (species_of before) (reactions_said before) line)
statement_in BindingRadius before line = say of_reactions (binding_radius_said (reactions_said before) line)
statement_in ReactionProbability before line = say of_reactions (reaction_probability_said (reactions_said before) line)
statement_in ProductPlacement before line =
    say of_reactions (product_placement_said (dims_of before) (species_of before) (reactions_said before) line)
statement_in (Block one) before line = say of_blocks (block_line_in one (axes_of before) (species_of before) (blocks_said before) line)
statement_in OutputFiles before line = say writes (output_files_in (outputs_of before) line)
statement_in Cmd before line = say performs (cmd_in (known_before before) (length (commands_of before)) line)

-- the same, where the place of the statement is tested first
abbrev pub placed_in : Statement → List Said → Stated → Result Said Kind
placed_in statement before line =
    passing (unless (may_stand statement (stands_outside before)) kind.BadOrder ∷ []) (statement_in statement before line)

-- what a line says behind these, or its fault
unfoldable pub line_in : List Said → Stated → Result Said Kind
line_in before line = placed_in (statement_of (word_at line 0)) before line

-- what all lines say, read on behind these. The first line with a fault ends the reading
abbrev pub read_from : List Said → List Stated → Result (List Said) Fault
read_from before [] = Ok before
read_from before (line ∷ lines) = with_value (at_line line.number (line_in before line)) (λ said. read_from (said ∷ before) lines)

-- a fault of a text's lines
abbrev pub lines_fault : LinesFault → Fault
lines_fault (bad_byte line) = fault_at line kind.BadByte
lines_fault (open_comment line) = fault_at line kind.OpenComment
lines_fault too_many_lines = fault_at 65537 kind.TooMany

-- the faults of a text's lines come before those of its statements
abbrev pub lines_in : Result (List Stated) LinesFault → Result (List Stated) Fault
lines_in (Ok lines) = Ok lines
lines_in (Err fault) = Err (lines_fault fault)

-- what the lines of a text say together, or their first fault
abbrev pub config_from : List Stated → Result Draft Fault
config_from lines = with_value (read_from [] lines) whole_in

-- the greatest length of a text, in bytes: 4 MiB
abbrev pub most_bytes : ℕ
most_bytes = 4194304

-- what a text says as a configuration, or its first fault
unfoldable pub config_of : List ℕ → Result Draft Fault
config_of text =
    if nat_lt most_bytes (length text) then Err (fault_at 0 kind.TooLong)
    else with_value (lines_in (statements_of text)) config_from
