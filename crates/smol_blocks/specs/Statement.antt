-- The first word of a line, and the statement that it makes.
use Rattle.std.specs.Prelude.{ℕ, Bool, true, List, [], ◌∷◌, if◌then◌else◌, codes}
use Rattle.std.specs.List.{list_any}
use Rattle.std.specs.Str.{bytes_eq}
use Rattle.smol_blocks.specs.declared.statement.Statement.{Statement}
use Rattle.smol_blocks.specs.declared.statement.Statement.TheVariants.{PassedOver, NotInProfile, Unknown, Dim, Species, Difc, Difstep, TimeStart, TimeStop, TimeStep, MaxMol, RandomSeed, PairOrder, Boundaries, Mol, CompartmentMol, Reaction, BindingRadius, ReactionProbability, ProductPlacement, Block, OutputFiles, Cmd}
use Rattle.smol_blocks.specs.declared.block_statement.BlockStatement.TheVariants.{StartSurface, InSurface, EndSurface, StartCompartment, Surface, Point, EndCompartment}
use Rattle.smol_blocks.specs.declared.surface_statement.SurfaceStatement.TheVariants.{Action, Panel, Jump}

-- the words of the statements that are read
abbrev pub built : List (List ℕ × Statement)
built =
    (codes "dim", Dim)
    ∷ (codes "species", Species)
    ∷ (codes "difc", Difc)
    ∷ (codes "difstep", Difstep)
    ∷ (codes "time_start", TimeStart)
    ∷ (codes "time_stop", TimeStop)
    ∷ (codes "time_step", TimeStep)
    ∷ (codes "max_mol", MaxMol)
    ∷ (codes "random_seed", RandomSeed)
    ∷ (codes "pair_order", PairOrder)
    ∷ (codes "boundaries", Boundaries)
    ∷ (codes "mol", Mol)
    ∷ (codes "compartment_mol", CompartmentMol)
    ∷ (codes "reaction", Reaction)
    ∷ (codes "binding_radius", BindingRadius)
    ∷ (codes "reaction_probability", ReactionProbability)
    ∷ (codes "product_placement", ProductPlacement)
    ∷ (codes "start_surface", Block StartSurface)
    ∷ (codes "action", Block (InSurface Action))
    ∷ (codes "panel", Block (InSurface Panel))
    ∷ (codes "jump", Block (InSurface Jump))
    ∷ (codes "end_surface", Block EndSurface)
    ∷ (codes "start_compartment", Block StartCompartment)
    ∷ (codes "surface", Block Surface)
    ∷ (codes "point", Block Point)
    ∷ (codes "end_compartment", Block EndCompartment)
    ∷ (codes "output_files", OutputFiles)
    ∷ (codes "cmd", Cmd)
    ∷ []

-- the first words of lines that are passed over unread
abbrev pub passed_over_words : List (List ℕ)
passed_over_words =
    codes "graphics"
    ∷ codes "graphic_iter"
    ∷ codes "graphic_delay"
    ∷ codes "quit_at_end"
    ∷ codes "frame_thickness"
    ∷ codes "frame_color"
    ∷ codes "frame_colour"
    ∷ codes "grid_thickness"
    ∷ codes "grid_color"
    ∷ codes "grid_colour"
    ∷ codes "background_color"
    ∷ codes "background_colour"
    ∷ codes "display_size"
    ∷ codes "color"
    ∷ codes "colour"
    ∷ codes "light"
    ∷ codes "text_color"
    ∷ codes "text_colour"
    ∷ codes "text_display"
    ∷ codes "tiff_iter"
    ∷ codes "tiff_name"
    ∷ codes "tiff_min"
    ∷ codes "tiff_max"
    ∷ codes "polygon"
    ∷ codes "thickness"
    ∷ codes "stipple"
    ∷ codes "shininess"
    ∷ codes "max_species"
    ∷ codes "max_panels"
    ∷ codes "molecule_lists"
    ∷ codes "mol_list"
    ∷ codes "accuracy"
    ∷ codes "molperbox"
    ∷ codes "boxsize"
    ∷ codes "epsilon"
    ∷ codes "margin"
    ∷ codes "neighbor_dist"
    ∷ []

-- the first words of lines that the profile leaves out
abbrev pub left_out_words : List (List ℕ)
left_out_words =
    codes "low_wall"
    ∷ codes "high_wall"
    ∷ codes "define"
    ∷ codes "undefine"
    ∷ codes "ifdefine"
    ∷ codes "ifundefine"
    ∷ codes "else"
    ∷ codes "endif"
    ∷ codes "read_file"
    ∷ codes "output_root"
    ∷ codes "output_precision"
    ∷ codes "append_files"
    ∷ codes "start_port"
    ∷ codes "start_lattice"
    ∷ codes "start_filament"
    ∷ codes "start_reaction"
    ∷ codes "drift"
    ∷ codes "difm"
    ∷ codes "surface_mol"
    ∷ codes "reaction_rate"
    ∷ codes "rate"
    ∷ codes "unbounded_emitter"
    ∷ codes "compartment"
    ∷ codes "set"
    ∷ []

-- what a word stands for in a table, and else Unknown
abbrev pub named : List (List ℕ × Statement) → List ℕ → Statement
named [] word = Unknown
named (entry ∷ entries) word = if bytes_eq word entry.0 then entry.1 else named entries word

-- the statement that a first word makes. A word that the profile leaves out is told from an unknown one
unfoldable pub statement_of : List ℕ → Statement
statement_of word =
    if list_any (bytes_eq word) passed_over_words
    then PassedOver
    else (if list_any (bytes_eq word) left_out_words then NotInProfile else named built word)

-- a statement may stand where it does, by whether no block is open. Those of blocks test their own place, and other
-- lines are judged in blocks as outside
abbrev pub may_stand : Statement → Bool → Bool
may_stand PassedOver outside = true
may_stand NotInProfile outside = true
may_stand Unknown outside = true
may_stand (Block one) outside = true
may_stand other outside = outside
