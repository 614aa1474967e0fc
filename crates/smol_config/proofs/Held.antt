-- The tables with what one line more says.
use Rattle.std.proofs.Common.{◌≡◌, ◌<◌, ◌≢◌, ◌++◌, ◌∷◌, [], ◌&&◌, true, false, ℕ, zero, suc, List, Option, Some, subst, Result, Ok, Err, OnOk, nat_le, nat_lt, slice_index_or, arith, refl, sym, ap, ◌∙◌, if◌then◌else◌}
use Rattle.std.specs.Result.{IsOkAnd}
use Rattle.smol_text.specs.Reading.{Stated}
use Rattle.smol_types.specs.declared.command.Command.{Command}
use Rattle.smol_types.specs.declared.fault.Kind.{Kind}
use Rattle.smol_types.specs.declared.fault.Kind.TheVariants.{BadOrder}
use Rattle.smol_types.specs.declared.placing.Placing.{Placing}
use Rattle.smol_line.specs.declared.axes.Axes.{Axes}
use Rattle.smol_line.specs.declared.axes.Bounds.{Bounds}
use Rattle.smol_line.specs.declared.refusal.Refusal.{Refusal}
use Rattle.smol_line.specs.declared.refusal.Refusal.TheVariants.{At, OutOfMemory}
use Rattle.smol_line.specs.declared.species_word.Chosen.{Chosen}
use Rattle.smol_line.specs.Checks.{passing, unless}
use Rattle.smol_line.specs.LookingBack.{say}
use Rattle.smol_line.specs.SpeciesWord.{is_chosen}
use Rattle.smol_blocks.specs.declared.block_statement.BlockStatement.{BlockStatement}
use Rattle.smol_blocks.specs.declared.block_statement.BlockStatement.TheVariants.{StartSurface, InSurface, EndSurface, StartCompartment, Surface, Point, EndCompartment}
use Rattle.smol_blocks.specs.Blocks.{block_line_in, bound_said, compartment_names, end_compartment_said, end_surface_in, in_surface_in, is_outside, point_said}
use Rattle.smol_cmd.specs.OutputFiles.{output_files_in}
use Rattle.smol_reactions.specs.declared.reactions.Reactions.{Reactions}
use Rattle.smol_reactions.specs.ReactionSaid.{ReactionSaid}
use Rattle.smol_reactions.specs.Table.{IsKept, Reads as ReadsReactions}
use Rattle.smol_config.specs.declared.motion.Motion.{Motion}
use Rattle.smol_config.specs.declared.species_table.SpeciesTable.{SpeciesTable}
use Rattle.smol_blocks.specs.declared.statement.Statement.{Statement}
use Rattle.smol_blocks.specs.declared.statement.Statement.TheVariants as statement
use Rattle.smol_config.specs.declared.tables.Tables.{Tables}
use Rattle.smol_config.specs.Said.{Said, passed_over, names, moves, walls, places, of_reactions, of_blocks, writes, performs}
use Rattle.smol_config.specs.Species.{further_words, species_in, species_of}
use Rattle.smol_config.specs.Motion.{still}
use Rattle.smol_config.specs.Reader.{placed_in, statement_in}
use Rattle.smol_blocks.specs.Statement.{may_stand}
use Rattle.smol_config.specs.Axes.{axes_of}
use Rattle.smol_config.specs.Reactions.{reactions_said}
use Rattle.smol_config.specs.Blocks.{blocks_said, stands_outside}
use Rattle.smol_config.specs.Looked.{Looked, looked_up}
use Rattle.smol_config.specs.Tables.{Holds, Keeps, Reads, seen, with_bounds}

-- the walls of one axis more
axes_with : (before : List Said) (axis : ℕ) (new : Bounds) → axis < 3 → with_bounds axis new (axes_of before) ≡ axes_of (walls axis new ∷ before)
axes_with before zero new within = refl
axes_with before (suc zero) new within = refl
axes_with before (suc (suc zero)) new within = refl
axes_with before (suc (suc (suc axis))) new within = absurd (omega arith)

-- a line that is passed over
pub passed_over_held : (tables : Tables) (before : List Said) → Holds tables before → Holds tables (passed_over ∷ before)
passed_over_held tables before h = record { plain = h.plain; groups = h.groups }

-- how the reading of a line ends that says one value, where its rule asks for plain matters and for the names of compartments alone
module _ {T : Type 0} (one : Statement) (line : Stated) (old new : Tables) (said : T → Said) (rule : Looked → List (List ℕ) → Result T Kind)
    (is : (before : List Said) → statement_in one before line ≡ say said (rule (looked_up before) (compartment_names (blocks_said before)))) where
  by_tables : (before : List Said) → Holds old before → statement_in one before line ≡ say said (rule (seen old) old.blocks.compartment_names)
  by_tables before h = is before ∙ (λ i. say said (rule (sym h.plain i) (sym h.blocks.compartment_names i)))

  pub value_refused : (kind : Kind) → rule (seen old) old.blocks.compartment_names ≡ Err kind → (before : List Said) → Holds old before → statement_in one before line ≡ Err kind
  value_refused kind fails before h = by_tables before h ∙ ap (say said) fails

  pub value_taken : (value : T) → rule (seen old) old.blocks.compartment_names ≡ Ok value → ((before : List Said) → Holds old before → Holds new (said value ∷ before)) → (before : List Said) → Holds old before → (more : Said) × (statement_in one before line ≡ Ok more) × Holds new (more ∷ before)
  value_taken value fine more before h = (said value, by_tables before h ∙ ap (say said) fine, more before h)

  -- the same by the result of what read the line
  pub value_read : {U : Type 0} (result : Result U Refusal) → OnOk result ((value : T) × (rule (seen old) old.blocks.compartment_names ≡ Ok value) × ((before : List Said) → Holds old before → Holds new (said value ∷ before)))
      → ((kind : Kind) → result ≡ Err (At kind) → rule (seen old) old.blocks.compartment_names ≡ Err kind) → Reads (statement_in one) line old new result
  value_read (Ok done) accepted refused = value_taken accepted.0 accepted.1 accepted.2
  value_read (Err (At kind)) accepted refused = value_refused kind (refused kind refl)
  value_read (Err OutOfMemory) accepted refused = tt

-- the same where the value stands once, and this is what the tables are with it
pub once_read : {T U : Type 0} (one : Statement) (line : Stated) (tables : Tables) (put : Option T → Tables) (said : T → Said) (rule : Looked → Result T Kind) (given : Result T Kind) (old new : Option T) (result : Result U Refusal)
    → ((before : List Said) → statement_in one before line ≡ say said (rule (looked_up before))) → given ≡ rule (seen tables) → Keeps given old new result
    → ((value : T) (before : List Said) → Holds tables before → Holds (put (Some value)) (said value ∷ before)) → Reads (statement_in one) line tables (put new) result
once_read {T = T} one line tables put said rule (Ok value) old new (Ok done) is judged keeps more =
    value_taken one line tables (put new) said (λ known compartments. rule known) is value (sym judged) (λ before h. subst (λ (kept : Option T). Holds (put kept) (said value ∷ before)) (sym keeps.0) (more value before h))
once_read one line tables put said rule (Ok value) old new (Err refusal) is judged keeps more = let none = keeps.1 in absurd cc
once_read one line tables put said rule (Err kind) old new result is judged keeps more =
    rw keeps.1 (value_refused one line tables (put new) said (λ known compartments. rule known) is kind (sym judged))

pub walls_held : (tables : Tables) (before : List Said) (axis : ℕ) (new : Bounds) (all : Axes) → axis < 3 → all ≡ with_bounds axis new tables.axes → Holds tables before → Holds (record tables { axes = all }) (walls axis new ∷ before)
walls_held tables before axis new all within added h =
    let axes = added ∙ ap (λ (old : Looked). with_bounds axis new old.axes) h.plain ∙ axes_with before axis new within in
    record { plain = λ i. let old : Looked = h.plain i in record old { axes = axes i }; groups = h.groups }

pub placings_held : (tables : Tables) (before : List Said) (placing : Placing) (all : List Placing) → all ≡ tables.placings ++ placing ∷ [] → Holds tables before → Holds (record tables { placings = all }) (places placing ∷ before)
placings_held tables before placing all added h =
    let placings = added ∙ ap (λ (old : Looked). old.placings ++ placing ∷ []) h.plain in
    record { plain = λ i. let old : Looked = h.plain i in record old { placings = placings i }; groups = h.groups }

pub commands_held : (tables : Tables) (before : List Said) (command : Command) (all : List Command) → all ≡ tables.commands ++ command ∷ [] → Holds tables before → Holds (record tables { commands = all }) (performs command ∷ before)
commands_held tables before command all added h =
    let commands = added ∙ ap (λ (old : Looked). old.commands ++ command ∷ []) h.plain in
    record { plain = λ i. let old : Looked = h.plain i in record old { commands = commands i }; groups = h.groups }

pub motions_held : (tables : Tables) (before : List Said) (chosen : Chosen) (motion : Motion) (species : SpeciesTable) → species.names ≡ tables.species.names → ((number : ℕ) → slice_index_or species.motions.items number still ≡ (if nat_le chosen.first number && nat_lt number chosen.end then motion else slice_index_or tables.species.motions.items number still)) → Holds tables before → Holds (record tables { species = species }) (moves chosen motion ∷ before)
motions_held tables before chosen motion species same moved h =
    let names = same ∙ ap (λ (old : Looked). old.species) h.plain in
    let motions = λ (number : ℕ). moved number ∙ ap (λ (old : Looked). if is_chosen number chosen then motion else old.motions number) h.plain in
    record { plain = λ i. let old : Looked = h.plain i in record old { species = names i; motions = λ number. motions number i }; groups = h.groups }

-- how the reading of a line on reactions ends
pub reactions_read : {T : Type 0} (one : Statement) (line : Stated) (tables : Tables) (reactions : Reactions) (result : Result T Refusal) (rule : List Said → List ReactionSaid → Result ReactionSaid Kind)
    → ((before : List Said) → statement_in one before line ≡ say of_reactions (rule before (reactions_said before)))
    → ((before : List Said) → Holds tables before → ReadsReactions (rule before) tables.reactions reactions result)
    → OnOk result (IsKept reactions)
    → Reads (statement_in one) line tables (record tables { reactions = reactions }) result
reactions_read one line tables reactions (Ok done) rule is reads kept = λ before h.
    let read = reads before h (reactions_said before) h.reactions in (
      of_reactions read.0,
      is before ∙ ap (say of_reactions) read.1,
      record { plain = h.plain; groups = record { reactions = read.2; kept = kept; blocks = h.blocks; blocks_kept = h.blocks_kept } },
    )
reactions_read one line tables reactions (Err (At kind)) rule is reads kept = λ before h. is before ∙ ap (say of_reactions) (reads before h (reactions_said before) h.reactions)
reactions_read one line tables reactions (Err OutOfMemory) rule is reads kept = tt

-- the names that a line without a fault gives
more_of : (rule : Result (List (List ℕ)) Kind) (new old : List (List ℕ)) → IsOkAnd rule (λ more. new ≡ old ++ more) → (more : List (List ℕ)) × (rule ≡ Ok more) × (new ≡ old ++ more)
more_of (Ok more) new old is = (more, refl, is)
more_of (Err kind) new old is = absurd is

-- how the reading of a `species` line ends
pub species_reads : {T : Type 0} (line : Stated) (tables : Tables) (species : SpeciesTable) (result : Result T Refusal)
    → OnOk result (species.names ≡ tables.species.names ++ further_words line)
    → OnOk result ((number : ℕ) → slice_index_or species.motions.items number still ≡ slice_index_or tables.species.motions.items number still)
    → OnOk result (species_in tables.species.names line ≡ Ok (further_words line))
    → ((kind : Kind) → result ≡ Err (At kind) → species_in tables.species.names line ≡ Err kind)
    → Reads (statement_in statement.Species) line tables (record tables { species = species }) result
unfolding statement_in
species_reads line tables species result added same accepted refused =
    value_read statement.Species line tables (record tables { species = species }) names (λ known compartments. species_in known.species line) (λ before. refl) result (taken result added same accepted) refused
  where
    more : (before : List Said) → species.names ≡ tables.species.names ++ further_words line → ((number : ℕ) → slice_index_or species.motions.items number still ≡ slice_index_or tables.species.motions.items number still) → Holds tables before → Holds (record tables { species = species }) (names (further_words line) ∷ before)
    more before added same h =
        let all = added ∙ ap (λ (old : Looked). old.species ++ further_words line) h.plain in
        let motions = λ (number : ℕ). same number ∙ ap (λ (old : Looked). old.motions number) h.plain in
        record { plain = λ i. let old : Looked = h.plain i in record old { species = all i; motions = λ number. motions number i }; groups = h.groups }

    taken : {T : Type 0} (result : Result T Refusal) → OnOk result (species.names ≡ tables.species.names ++ further_words line) → OnOk result ((number : ℕ) → slice_index_or species.motions.items number still ≡ slice_index_or tables.species.motions.items number still) → OnOk result (species_in tables.species.names line ≡ Ok (further_words line))
        → OnOk result ((value : List (List ℕ)) × (species_in tables.species.names line ≡ Ok value) × ((before : List Said) → Holds tables before → Holds (record tables { species = species }) (names value ∷ before)))
    taken (Ok done) added same accepted = (further_words line, accepted, λ before h. more before added same h)
    taken (Err refusal) added same accepted = tt

-- how the reading of an `output_files` line ends
pub outputs_read : {T : Type 0} (line : Stated) (tables : Tables) (outputs : List (List ℕ)) (result : Result T Refusal)
    → OnOk result (IsOkAnd (output_files_in tables.outputs line) (λ more. outputs ≡ tables.outputs ++ more))
    → ((kind : Kind) → result ≡ Err (At kind) → output_files_in tables.outputs line ≡ Err kind)
    → Reads (statement_in statement.OutputFiles) line tables (record tables { outputs = outputs }) result
unfolding statement_in
outputs_read line tables outputs result accepted refused =
    value_read statement.OutputFiles line tables (record tables { outputs = outputs }) writes (λ known compartments. output_files_in known.outputs line) (λ before. refl) result (taken result accepted) refused
  where
    taken : {T : Type 0} (result : Result T Refusal) → OnOk result (IsOkAnd (output_files_in tables.outputs line) (λ more. outputs ≡ tables.outputs ++ more))
        → OnOk result ((value : List (List ℕ)) × (output_files_in tables.outputs line ≡ Ok value) × ((before : List Said) → Holds tables before → Holds (record tables { outputs = outputs }) (writes value ∷ before)))
    taken (Ok done) accepted =
        let more = more_of (output_files_in tables.outputs line) outputs tables.outputs accepted in (
          more.0,
          more.1,
          λ before h.
              let all = more.2 ∙ ap (λ (old : Looked). old.outputs ++ more.0) h.plain in
              record { plain = λ i. let old : Looked = h.plain i in record old { outputs = all i }; groups = h.groups },
        )
    taken (Err refusal) accepted = tt

-- where no block is open any statement may stand
stands : (one : Statement) → may_stand one true ≡ true
stands statement.PassedOver = refl
stands statement.NotInProfile = refl
stands statement.Unknown = refl
stands (statement.Block one) = refl
stands other = refl

pub placed : (one : Statement) (line : Stated) (tables : Tables) (before : List Said) → Holds tables before → placed_in one before line ≡ statement_in one before line
placed one line tables before h =
    ap (λ b. passing (unless (may_stand one (is_outside b)) BadOrder ∷ []) (statement_in one before line)) h.blocks.closed
    ∙ ap (λ may. passing (unless may BadOrder ∷ []) (statement_in one before line)) (stands one)

-- where no block is open, a line of a block that opens none is out of place
pub unopened : (one : BlockStatement) (line : Stated) (tables : Tables) (before : List Said) → one ≢ StartSurface → one ≢ StartCompartment → Holds tables before → statement_in (statement.Block one) before line ≡ Err BadOrder
unfolding statement_in block_line_in
unopened StartSurface line tables before surface compartment h = absurd (surface refl)
unopened StartCompartment line tables before surface compartment h = absurd (compartment refl)
unopened (InSurface one) line tables before surface compartment h = ap (λ b. say of_blocks (in_surface_in one (axes_of before) (species_of before) (blocks_said before) line b)) h.blocks.closed
unopened EndSurface line tables before surface compartment h = ap (λ b. say of_blocks (end_surface_in (axes_of before) (species_of before) (blocks_said before) line b)) h.blocks.closed
unopened Surface line tables before surface compartment h = ap (λ b. say of_blocks (bound_said (blocks_said before) line b)) h.blocks.closed
unopened Point line tables before surface compartment h = ap (λ b. say of_blocks (point_said (axes_of before) line b)) h.blocks.closed
unopened EndCompartment line tables before surface compartment h = ap (λ b. say of_blocks (end_compartment_said line b)) h.blocks.closed

-- a statement in a block that may not stand in one
pub misplaced : (one : Statement) (before : List Said) (line : Stated) → may_stand one (stands_outside before) ≡ false → placed_in one before line ≡ Err BadOrder
misplaced one before line stands = rw stands refl
