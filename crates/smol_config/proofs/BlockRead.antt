-- A block that is read as a whole, between the lines around it.
use Rattle.std.proofs.Common.{◌≡◌, ◌+◌, ◌++◌, ◌∷◌, [], ℕ, List, length, drop, Result, Ok, Err, OnOk, refl, sym, ap, ◌∙◌, subst}
use Rattle.smol_text.specs.Reading.{Stated}
use Rattle.smol_types.specs.declared.fault.ConfigFault.{ConfigFault}
use Rattle.smol_types.specs.declared.fault.ConfigFault.TheVariants as fault
use Rattle.smol_types.specs.declared.fault.Kind.{Kind}
use Rattle.smol_types.specs.Limits.{most_compartments, most_surfaces}
use Rattle.smol_line.specs.declared.refusal.Refusal.{Refusal}
use Rattle.smol_line.specs.declared.refusal.Refusal.TheVariants.{At, OutOfMemory}
use Rattle.smol_line.specs.Axes.{needs_dim}
use Rattle.smol_line.specs.Checks.{with_value}
use Rattle.smol_line.specs.Fault.{Fault, at_line, fault_at, TellsFault}
use Rattle.smol_line.specs.LookingBack.{say}
use Rattle.smol_line.specs.Words.{word_at}
use Rattle.smol_line.proofs.Passing.{valued}
use Rattle.smol_blocks.specs.declared.block_statement.BlockStatement.TheVariants.{StartSurface, StartCompartment}
use Rattle.smol_blocks.specs.declared.blocks.Blocks.{Blocks}
use Rattle.smol_blocks.specs.declared.statement.Statement.{Statement}
use Rattle.smol_blocks.specs.declared.statement.Statement.TheVariants.{Block}
use Rattle.smol_blocks.specs.BlockName.{block_name_in}
use Rattle.smol_blocks.specs.Blocks.{block_line_in, compartment_names, in_compartment, in_surface, opening_line, opens_compartment, opens_surface, surface_names}
use Rattle.smol_blocks.specs.BlocksTable.{AddsCompartment, AddsSurface, IsKept, ReadsBlock, ReadsCompartment, ReadsSurface}
use Rattle.smol_blocks.specs.BlockText.{ends, block_from, compartment_block, compartment_draft, in_compartment_block, in_surface_block, surface_block, surface_draft}
use Rattle.smol_blocks.specs.Compartment.{CompartmentSaid}
use Rattle.smol_blocks.specs.Statement.{statement_of}
use Rattle.smol_blocks.specs.Surface.{Known, SurfaceSaid}
use Rattle.smol_blocks.specs.Told.{told_at}
use Rattle.smol_blocks.proofs.BlockOpening.{starts_compartment, starts_surface}
use Rattle.smol_config.specs.declared.tables.Tables.{Tables}
use Rattle.smol_config.specs.Said.{Said, of_blocks}
use Rattle.smol_config.specs.Axes.{axes_of}
use Rattle.smol_config.specs.Blocks.{blocks_said}
use Rattle.smol_config.specs.Looked.{Looked}
use Rattle.smol_config.specs.Reader.{line_in, placed_in, read_from, statement_in}
use Rattle.smol_config.specs.SoFar.{IsSoFar}
use Rattle.smol_config.specs.Tables.{Holds, ReadsBehind, ReadsOn}
use Rattle.smol_config.specs.Whole.{whole_in}
use Rattle.smol_config.proofs.BlockLines.{compartment_line, compartment_told, surface_line, surface_told}
use Rattle.smol_config.proofs.BlockTables.{Lists, Within, compartment_closed, compartment_opened, compartment_within, surface_closed, surface_opened, surface_within}
use Rattle.smol_config.proofs.BlockWise.{Ends, block_ends}
use Rattle.smol_config.proofs.Held.{placed}
use Rattle.smol_config.proofs.Reading.{read_from-next, read_from-refused}
use Rattle.smol_config.proofs.Rules.{line_keeps}

-- how reading on ends, by what a block gives: behind it with what holds of that, or with its fault
abbrev pub Outcome : {T : Type 0} → (T → List Said → Type 0) → List Said → List Stated → List Stated → Result (T × ℕ) Fault → Type 0
Outcome Gives before lines all (Ok read) =
    (after : List Said) × Gives read.0 after × IsSoFar after × (read_from before lines ≡ read_from after (drop read.1 all))
Outcome Gives before lines all (Err fault) = with_value (read_from before lines) whole_in ≡ Err fault

-- where tables have what a block gives added, they hold what its lines say
abbrev pub Gives : {T : Type 0} → (Blocks → Blocks → T → Type 0) → Tables → T → List Said → Type 0
Gives Adds tables draft after = (blocks : Blocks) → Adds tables.blocks blocks draft → IsKept blocks → Holds (record tables { blocks = blocks }) after

-- a fault that is told of the block is told of the lines
told_of : {T U : Type 0} (fault : ConfigFault) (block : Result T Fault) (whole : Result U Fault) (found : Fault) → block ≡ Err found → whole ≡ Err found → TellsFault fault block → TellsFault fault whole
told_of (fault.At line kind) block whole found is same tells = let told : fault_at line kind ≡ found = cc in cc
told_of fault.OutOfMemory block whole found is same tells = tt

-- how the reading of a block ends
reads_on : {T : Type 0} (Adds : Blocks → Blocks → T → Type 0) (tables : Tables) (blocks : Blocks) (all : List Stated) (at : ℕ) (before : List Said) (outcome : Result (T × ℕ) Fault) (result : Result ℕ ConfigFault)
    → Outcome (Gives Adds tables) before (drop at all) all outcome → OnOk result (IsKept blocks) → ReadsBlock Adds outcome tables.blocks blocks result
    → Holds tables before → IsSoFar before → ReadsBehind all at before (record tables { blocks = blocks }) result
reads_on Adds tables blocks all at before (Ok read) (Ok next) e kept reads h sound =
    let same : read.0 ≡ reads.0 = cc in let index : read.1 ≡ next = cc in
    (e.0, e.1 blocks (subst (Adds tables.blocks blocks) (sym same) reads.2) kept, e.2, e.3 ∙ ap (λ n. read_from e.0 (drop n all)) index)
reads_on Adds tables blocks all at before (Ok read) (Err (fault.At line kind)) e kept reads h sound = absurd cc
reads_on Adds tables blocks all at before (Ok read) (Err fault.OutOfMemory) e kept reads h sound = tt
reads_on Adds tables blocks all at before (Err found) (Ok next) e kept reads h sound = let none = reads.1 in absurd cc
reads_on Adds tables blocks all at before (Err found) (Err fault) e kept reads h sound = told_of fault (Err found) (with_value (read_from before (drop at all)) whole_in) found refl e reads

-- the line that opens the block of a surface
surface_opens : (tables : Tables) (before : List Said) (line : Stated) → statement_of (word_at line 0) ≡ Block StartSurface → Holds tables before
    → line_in before line ≡ with_value (block_name_in tables.axes tables.blocks.surface_names most_surfaces line) (λ name. Ok (of_blocks (opens_surface line.number name)))
unfolding line_in statement_in block_line_in
surface_opens tables before line is h =
    ap (λ (one : Statement). placed_in one before line) is
    ∙ placed (Block StartSurface) line tables before h
    ∙ ap (say of_blocks) (starts_surface (axes_of before) (blocks_said before) line h.blocks.closed)
    ∙ ap (λ (known : Looked). say of_blocks (with_value (block_name_in known.axes (surface_names (blocks_said before)) most_surfaces line) (λ name. Ok (opens_surface line.number name)))) (sym h.plain)
    ∙ ap (λ names. say of_blocks (with_value (block_name_in tables.axes names most_surfaces line) (λ name. Ok (opens_surface line.number name)))) (sym h.blocks.surface_names)
    ∙ told (block_name_in tables.axes tables.blocks.surface_names most_surfaces line)
  where
    told : (name : Result (List ℕ) Kind) → say of_blocks (with_value name (λ name. Ok (opens_surface line.number name))) ≡ with_value name (λ name. Ok (of_blocks (opens_surface line.number name)))
    told (Ok name) = refl
    told (Err kind) = refl

-- and of a compartment
compartment_opens : (tables : Tables) (before : List Said) (line : Stated) → statement_of (word_at line 0) ≡ Block StartCompartment → Holds tables before
    → line_in before line ≡ with_value (block_name_in tables.axes tables.blocks.compartment_names most_compartments line) (λ name. Ok (of_blocks (opens_compartment line.number name)))
unfolding line_in statement_in block_line_in
compartment_opens tables before line is h =
    ap (λ (one : Statement). placed_in one before line) is
    ∙ placed (Block StartCompartment) line tables before h
    ∙ ap (say of_blocks) (starts_compartment (axes_of before) (blocks_said before) line h.blocks.closed)
    ∙ ap (λ (known : Looked). say of_blocks (with_value (block_name_in known.axes (compartment_names (blocks_said before)) most_compartments line) (λ name. Ok (opens_compartment line.number name)))) (sym h.plain)
    ∙ ap (λ names. say of_blocks (with_value (block_name_in tables.axes names most_compartments line) (λ name. Ok (opens_compartment line.number name)))) (sym h.blocks.compartment_names)
    ∙ told (block_name_in tables.axes tables.blocks.compartment_names most_compartments line)
  where
    told : (name : Result (List ℕ) Kind) → say of_blocks (with_value name (λ name. Ok (opens_compartment line.number name))) ≡ with_value name (λ name. Ok (of_blocks (opens_compartment line.number name)))
    told (Ok name) = refl
    told (Err kind) = refl

-- a line behind these that begins the rest of the text
module _ (tables : Tables) (before : List Said) (h : Holds tables before) (sound : IsSoFar before) (all : List Stated) (at : ℕ) (line : Stated)
    (here : drop at all ≡ line ∷ drop (at + 1) all) where
  -- one that is refused
  refused : (kind : Kind) → line_in before line ≡ Err kind → with_value (read_from before (drop at all)) whole_in ≡ Err (fault_at line.number kind)
  refused kind is =
      ap (λ (lines : List Stated). with_value (read_from before lines) whole_in) here
      ∙ ap (λ (r : Result (List Said) Fault). with_value r whole_in) (read_from-refused before line (drop (at + 1) all) kind is)

  -- one that is taken
  taken : (said : Said) → line_in before line ≡ Ok said → read_from before (drop at all) ≡ read_from (said ∷ before) (drop (at + 1) all)
  taken said is = ap (read_from before) here ∙ read_from-next before line (drop (at + 1) all) said is

  -- the block of a surface of this name
  module _ (name : List ℕ) (dims : ℕ) (given : needs_dim tables.axes ≡ Ok dims) (fine : line_in before line ≡ Ok (of_blocks (opens_surface line.number name))) where
    abbrev surface_known : Known
    surface_known = record { dims = dims; species = tables.species.names; others = length tables.blocks.panels }

    abbrev InSurface : List Said → List SurfaceSaid → Type 0
    InSurface now said = Within tables (tables.blocks.surface_names ++ name ∷ []) tables.blocks.compartment_names (in_surface line.number said) now

    surface_judged : (now : List Said) (said : List SurfaceSaid) (one : Stated) → InSurface now said
        → line_in now one ≡ with_value (in_surface_block surface_known said one) (λ found. Ok (surface_told surface_known (length tables.blocks.surface_names) said found))
    unfolding line_in
    surface_judged now said one w =
        surface_line surface_known (length tables.blocks.surface_names) line.number said now one (ap (λ (known : Looked). needs_dim known.axes) (sym w.plain) ∙ given) (ap (λ (known : Looked). known.species) (sym w.plain)) (ap (λ (lists : Lists). length lists.panels) (sym w.lists))
        (ap (λ (lists : Lists). length lists.surfaces) (sym w.lists) ∙ h.blocks_kept.surfaces) w.block (statement_of (word_at one 0))

    surface_by : Outcome (Gives AddsSurface tables) before (drop at all) all
        (with_value (block_from (in_surface_block surface_known) line.number [] (at + 1) (drop (at + 1) all)) (λ read. Ok (surface_draft surface_known name (length tables.blocks.surface_names) read.0, read.1)))
    surface_by = ended _ (block_ends (in_surface_block surface_known) InSurface (surface_told surface_known (length tables.blocks.surface_names)) surface_judged
        (λ now said one stays w. surface_within tables (tables.blocks.surface_names ++ name ∷ []) tables.blocks.compartment_names line.number surface_known (length tables.blocks.surface_names) now said one stays w)
        line.number (λ now said w. ap opening_line w.block) all (drop (at + 1) all) (of_blocks (opens_surface line.number name) ∷ before) [] (at + 1) refl
        (surface_opened tables line.number name before h) (line_keeps before line (of_blocks (opens_surface line.number name)) fine sound))
      where
        ended : (read : Result (List SurfaceSaid × ℕ) Fault)
            → Ends InSurface (surface_told surface_known (length tables.blocks.surface_names)) all (of_blocks (opens_surface line.number name) ∷ before) (drop (at + 1) all) read
            → Outcome (Gives AddsSurface tables) before (drop at all) all (with_value read (λ read. Ok (surface_draft surface_known name (length tables.blocks.surface_names) read.0, read.1)))
        ended (Ok read) e = (
          surface_told surface_known (length tables.blocks.surface_names) read.0 ends ∷ e.0,
          λ blocks adds kept. surface_closed tables before h blocks (surface_draft surface_known name (length tables.blocks.surface_names) read.0) (in_surface line.number read.0) e.0 e.1 adds kept,
          e.2,
          taken (of_blocks (opens_surface line.number name)) fine ∙ e.3,
        )
        ended (Err fault) e = ap (λ (r : Result (List Said) Fault). with_value r whole_in) (taken (of_blocks (opens_surface line.number name)) fine) ∙ e

  -- the block of a compartment of this name
  module _ (name : List ℕ) (fine : line_in before line ≡ Ok (of_blocks (opens_compartment line.number name))) where
    abbrev InCompartment : List Said → List CompartmentSaid → Type 0
    InCompartment now said = Within tables tables.blocks.surface_names (tables.blocks.compartment_names ++ name ∷ []) (in_compartment line.number said) now

    compartment_judged : (now : List Said) (said : List CompartmentSaid) (one : Stated) → InCompartment now said
        → line_in now one ≡ with_value (in_compartment_block tables.axes tables.blocks.surface_names said one) (λ found. Ok (compartment_told said found))
    unfolding line_in
    compartment_judged now said one w =
        compartment_line tables.axes tables.blocks.surface_names line.number said now one (ap (λ (known : Looked). known.axes) (sym w.plain)) (ap (λ (lists : Lists). lists.surface_names) (sym w.lists)) w.block (statement_of (word_at one 0))

    compartment_by : Outcome (Gives AddsCompartment tables) before (drop at all) all
        (with_value (block_from (in_compartment_block tables.axes tables.blocks.surface_names) line.number [] (at + 1) (drop (at + 1) all)) (λ read. Ok (compartment_draft name read.0, read.1)))
    compartment_by = ended _ (block_ends (in_compartment_block tables.axes tables.blocks.surface_names) InCompartment compartment_told compartment_judged
        (λ now said one stays w. compartment_within tables tables.blocks.surface_names (tables.blocks.compartment_names ++ name ∷ []) line.number now said one stays w)
        line.number (λ now said w. ap opening_line w.block) all (drop (at + 1) all) (of_blocks (opens_compartment line.number name) ∷ before) [] (at + 1) refl
        (compartment_opened tables line.number name before h) (line_keeps before line (of_blocks (opens_compartment line.number name)) fine sound))
      where
        ended : (read : Result (List CompartmentSaid × ℕ) Fault)
            → Ends InCompartment compartment_told all (of_blocks (opens_compartment line.number name) ∷ before) (drop (at + 1) all) read
            → Outcome (Gives AddsCompartment tables) before (drop at all) all (with_value read (λ read. Ok (compartment_draft name read.0, read.1)))
        ended (Ok read) e = (
          compartment_told read.0 ends ∷ e.0,
          λ blocks adds kept. compartment_closed tables before h blocks (compartment_draft name read.0) (in_compartment line.number read.0) e.0 e.1 adds kept,
          e.2,
          taken (of_blocks (opens_compartment line.number name)) fine ∙ e.3,
        )
        ended (Err fault) e = ap (λ (r : Result (List Said) Fault). with_value r whole_in) (taken (of_blocks (opens_compartment line.number name)) fine) ∙ e

  -- a block of a surface that is read as a whole
  pub surface_outcome : statement_of (word_at line 0) ≡ Block StartSurface → Outcome (Gives AddsSurface tables) before (drop at all) all
      (surface_block tables.axes tables.species.names tables.blocks.surface_names (length tables.blocks.panels) line (at + 1) (drop (at + 1) all))
  unfolding surface_block block_name_in
  surface_outcome is = by (block_name_in tables.axes tables.blocks.surface_names most_surfaces line) refl (needs_dim tables.axes) refl
    where
      by : (name : Result (List ℕ) Kind) → block_name_in tables.axes tables.blocks.surface_names most_surfaces line ≡ name → (dims : Result ℕ Kind) → needs_dim tables.axes ≡ dims
          → Outcome (Gives AddsSurface tables) before (drop at all) all
          (with_value (at_line line.number name) (λ name. with_value (at_line line.number dims) (λ dims.
          with_value (block_from (in_surface_block (record { dims = dims; species = tables.species.names; others = length tables.blocks.panels })) line.number [] (at + 1) (drop (at + 1) all)) (λ read.
          Ok (surface_draft (record { dims = dims; species = tables.species.names; others = length tables.blocks.panels }) name (length tables.blocks.surface_names) read.0, read.1)))))
      by (Err kind) named dims given = refused kind (surface_opens tables before line is h ∙ ap (λ (found : Result (List ℕ) Kind). with_value found (λ name. Ok (of_blocks (opens_surface line.number name)))) named)
      by (Ok name) named (Err kind) given = let there = valued (needs_dim tables.axes) _ name named in absurd (cc (there.1, given))
      by (Ok name) named (Ok dims) given = surface_by name dims given (surface_opens tables before line is h ∙ ap (λ (found : Result (List ℕ) Kind). with_value found (λ name. Ok (of_blocks (opens_surface line.number name)))) named)

  -- a block of a compartment that is read as a whole
  pub compartment_outcome : statement_of (word_at line 0) ≡ Block StartCompartment → Outcome (Gives AddsCompartment tables) before (drop at all) all
      (compartment_block tables.axes tables.blocks.surface_names tables.blocks.compartment_names line (at + 1) (drop (at + 1) all))
  unfolding compartment_block
  compartment_outcome is = by (block_name_in tables.axes tables.blocks.compartment_names most_compartments line) refl
    where
      by : (name : Result (List ℕ) Kind) → block_name_in tables.axes tables.blocks.compartment_names most_compartments line ≡ name
          → Outcome (Gives AddsCompartment tables) before (drop at all) all
          (with_value (at_line line.number name) (λ name.
          with_value (block_from (in_compartment_block tables.axes tables.blocks.surface_names) line.number [] (at + 1) (drop (at + 1) all)) (λ read.
          Ok (compartment_draft name read.0, read.1))))
      by (Err kind) named = refused kind (compartment_opens tables before line is h ∙ ap (λ (found : Result (List ℕ) Kind). with_value found (λ name. Ok (of_blocks (opens_compartment line.number name)))) named)
      by (Ok name) named = compartment_by name (compartment_opens tables before line is h ∙ ap (λ (found : Result (List ℕ) Kind). with_value found (λ name. Ok (of_blocks (opens_compartment line.number name)))) named)

-- how the reading of the block of a surface, and of a compartment, ends
pub surface_reads : (tables : Tables) (blocks : Blocks) (all : List Stated) (at : ℕ) (line : Stated) (result : Result ℕ ConfigFault)
    → drop at all ≡ line ∷ drop (at + 1) all → statement_of (word_at line 0) ≡ Block StartSurface → OnOk result (IsKept blocks)
    → ReadsSurface (surface_block tables.axes tables.species.names tables.blocks.surface_names (length tables.blocks.panels) line (at + 1) (drop (at + 1) all)) tables.blocks blocks result
    → ReadsOn all at tables (record tables { blocks = blocks }) result
surface_reads tables blocks all at line result here is kept reads before h sound =
    reads_on AddsSurface tables blocks all at before _ result (surface_outcome tables before h sound all at line here is) kept reads h sound

pub compartment_reads : (tables : Tables) (blocks : Blocks) (all : List Stated) (at : ℕ) (line : Stated) (result : Result ℕ ConfigFault)
    → drop at all ≡ line ∷ drop (at + 1) all → statement_of (word_at line 0) ≡ Block StartCompartment → OnOk result (IsKept blocks)
    → ReadsCompartment (compartment_block tables.axes tables.blocks.surface_names tables.blocks.compartment_names line (at + 1) (drop (at + 1) all)) tables.blocks blocks result
    → ReadsOn all at tables (record tables { blocks = blocks }) result
compartment_reads tables blocks all at line result here is kept reads before h sound =
    reads_on AddsCompartment tables blocks all at before _ result (compartment_outcome tables before h sound all at line here is) kept reads h sound

-- a line that makes a statement, by what that says
line_by : (statement : Statement) (tables : Tables) (line : Stated) (before : List Said) (found : Result Said Kind) → statement ≡ statement_of (word_at line 0) → Holds tables before
    → statement_in statement before line ≡ found → line_in before line ≡ found
unfolding line_in
line_by statement tables line before found is h gives =
    ap (λ (one : Statement). placed_in one before line) (sym is) ∙ placed statement line tables before h ∙ gives

-- how the reading of a line ends that is taken
pub line_taken : (statement : Statement) (old new : Tables) (all : List Stated) (at : ℕ) (line : Stated) → drop at all ≡ line ∷ drop (at + 1) all → statement ≡ statement_of (word_at line 0)
    → ((before : List Said) → Holds old before → (said : Said) × (statement_in statement before line ≡ Ok said) × Holds new (said ∷ before)) → ReadsOn all at old new (Ok (at + 1))
line_taken statement old new all at line here is reads before h sound =
    let read = reads before h in
    let fine = line_by statement old line before (Ok read.0) is h read.1 in
    (read.0 ∷ before, read.2, line_keeps before line read.0 fine sound, taken old before h sound all at line here read.0 fine)

-- and that is refused
pub line_refused : (statement : Statement) (old new : Tables) (all : List Stated) (at : ℕ) (line : Stated) (refusal : Refusal) → drop at all ≡ line ∷ drop (at + 1) all → statement ≡ statement_of (word_at line 0)
    → ((kind : Kind) → refusal ≡ At kind → (before : List Said) → Holds old before → statement_in statement before line ≡ Err kind) → ReadsOn all at old new (Err (told_at line.number refusal))
line_refused statement old new all at line (At kind) here is reads before h sound =
    refused old before h sound all at line here kind (line_by statement old line before (Err kind) is h (reads kind refl before h))
line_refused statement old new all at line OutOfMemory here is reads before h sound = tt
