-- A line in a block, as a line of the configuration.
use Rattle.std.proofs.Common.{◌≡◌, ◌∷◌, [], ℕ, false, List, length, Option, None, Some, Result, Ok, Err, refl, ap, ◌∙◌}
use Rattle.smol_text.specs.Reading.{Stated}
use Rattle.smol_types.specs.declared.compartment.Compartment.{Compartment}
use Rattle.smol_types.specs.declared.fault.Kind.{Kind}
use Rattle.smol_line.specs.declared.axes.Axes.{Axes}
use Rattle.smol_line.specs.Axes.{needs_dim}
use Rattle.smol_line.specs.Checks.{passing, with_value, word_count}
use Rattle.smol_line.specs.LookingBack.{say}
use Rattle.smol_blocks.specs.declared.block_statement.BlockStatement.{BlockStatement}
use Rattle.smol_blocks.specs.declared.block_statement.BlockStatement.TheVariants.{StartSurface, InSurface, EndSurface, StartCompartment, Surface, Point, EndCompartment}
use Rattle.smol_blocks.specs.declared.statement.Statement.{Statement}
use Rattle.smol_blocks.specs.declared.statement.Statement.TheVariants.{PassedOver, NotInProfile, Unknown, Block}
use Rattle.smol_blocks.specs.Blocks.{in_surface, in_compartment, of_surface, closes_surface, of_compartment, closes_compartment, block_line_in, block_of, bound_said, end_compartment_said, end_surface_in, in_surface_in, is_outside, known_to, panels_in, panels_of, point_said, start_compartment_in, start_surface_in, surface_names, surfaces_of}
use Rattle.smol_blocks.specs.BlockText.{InBlock, passes, says, ends, compartment_rules, line_of_block, surface_rules}
use Rattle.smol_blocks.specs.Compartment.{CompartmentSaid, bounded, holds, bound_in, compartment_of, end_compartment_in, point_in}
use Rattle.smol_blocks.specs.Surface.{Known, SurfaceSaid, surface_line_in, surface_of}
use Rattle.smol_config.specs.Said.{Said, passed_over, of_blocks}
use Rattle.smol_config.specs.Axes.{axes_of}
use Rattle.smol_config.specs.Blocks.{blocks_said}
use Rattle.smol_config.specs.Reader.{placed_in, statement_in}
use Rattle.smol_config.specs.Species.{species_of}
use Rattle.smol_config.proofs.Held.{misplaced}

-- what a line in the block of a surface says of the configuration
abbrev pub surface_told : Known → ℕ → List SurfaceSaid → InBlock SurfaceSaid → Said
surface_told known number said passes = passed_over
surface_told known number said (says more) = of_blocks (of_surface more)
surface_told known number said ends = of_blocks (closes_surface (surface_of known said) (panels_in number known.others said))

surface_says : (known : Known) (number : ℕ) (said : List SurfaceSaid) (rule : Result SurfaceSaid Kind) → say of_blocks (say of_surface rule) ≡ with_value (say says rule) (λ one. Ok (surface_told known number said one))
surface_says known number said (Ok more) = refl
surface_says known number said (Err kind) = refl

surface_ends : (known : Known) (number : ℕ) (said : List SurfaceSaid) (count : Option Kind)
    → say of_blocks (passing (count ∷ []) (Ok (closes_surface (surface_of known said) (panels_in number known.others said)))) ≡ with_value (passing (count ∷ []) (Ok ends)) (λ one. Ok (surface_told known number said one))
surface_ends known number said None = refl
surface_ends known number said (Some kind) = refl

-- a line in the block of a surface
module _ (known : Known) (number opened : ℕ) (said : List SurfaceSaid) (before : List Said) (line : Stated)
    (dim : needs_dim (axes_of before) ≡ Ok known.dims) (species : species_of before ≡ known.species) (others : length (panels_of (blocks_said before)) ≡ known.others)
    (count : length (surfaces_of (blocks_said before)) ≡ number) (block : block_of (blocks_said before) ≡ in_surface opened said) where
  surface_known : known_to known.dims (species_of before) (blocks_said before) ≡ known
  surface_known = λ i. record { dims = known.dims; species = species i; others = others i }

  surface_statement : (one : BlockStatement) → statement_in (Block one) before line ≡ with_value (surface_rules known said line one) (λ one. Ok (surface_told known number said one))
  unfolding statement_in block_line_in start_surface_in start_compartment_in
  surface_statement StartSurface = let inside : is_outside (block_of (blocks_said before)) ≡ false = ap is_outside block in rw inside refl
  surface_statement StartCompartment = let inside : is_outside (block_of (blocks_said before)) ≡ false = ap is_outside block in rw inside refl
  surface_statement (InSurface one) =
      ap (λ b. say of_blocks (in_surface_in one (axes_of before) (species_of before) (blocks_said before) line b)) block
      ∙ ap (λ (d : Result ℕ Kind). say of_blocks (with_value d (λ dims. say of_surface (surface_line_in one (known_to dims (species_of before) (blocks_said before)) said line)))) dim
      ∙ ap (λ k. say of_blocks (say of_surface (surface_line_in one k said line))) surface_known
      ∙ surface_says known number said (surface_line_in one known said line)
  surface_statement EndSurface =
      let closing = λ (k : Known) (n o : ℕ). say of_blocks (passing (word_count 1 line ∷ []) (Ok (closes_surface (surface_of k said) (panels_in n o said)))) in
      ap (λ b. say of_blocks (end_surface_in (axes_of before) (species_of before) (blocks_said before) line b)) block
      ∙ ap (λ (d : Result ℕ Kind). say of_blocks (with_value d (λ dims. passing (word_count 1 line ∷ []) (Ok (closes_surface (surface_of (known_to dims (species_of before) (blocks_said before)) said) (panels_in (length (surfaces_of (blocks_said before))) (length (panels_of (blocks_said before))) said)))))) dim
      ∙ ap (λ k. closing k (length (surfaces_of (blocks_said before))) (length (panels_of (blocks_said before)))) surface_known
      ∙ ap (λ n. closing known n (length (panels_of (blocks_said before)))) count
      ∙ ap (λ o. closing known number o) others
      ∙ surface_ends known number said (word_count 1 line)
  surface_statement Surface = ap (λ b. say of_blocks (bound_said (blocks_said before) line b)) block
  surface_statement Point = ap (λ b. say of_blocks (point_said (axes_of before) line b)) block
  surface_statement EndCompartment = ap (λ b. say of_blocks (end_compartment_said line b)) block

  pub surface_line : (one : Statement) → placed_in one before line ≡ with_value (line_of_block (surface_rules known said line) one) (λ one. Ok (surface_told known number said one))
  unfolding statement_in
  surface_line PassedOver = refl
  surface_line NotInProfile = refl
  surface_line Unknown = refl
  surface_line (Block one) = surface_statement one
  surface_line other = misplaced other before line (ap is_outside block)

-- what a line in the block of a compartment says of the configuration
abbrev pub compartment_told : List CompartmentSaid → InBlock CompartmentSaid → Said
compartment_told said passes = passed_over
compartment_told said (says more) = of_blocks (of_compartment more)
compartment_told said ends = of_blocks (closes_compartment (compartment_of said))

compartment_says : {T : Type 0} (said : List CompartmentSaid) (by : T → CompartmentSaid) (rule : Result T Kind)
    → say of_blocks (with_value rule (λ value. Ok (of_compartment (by value)))) ≡ with_value (say (λ value. says (by value)) rule) (λ one. Ok (compartment_told said one))
compartment_says said by (Ok value) = refl
compartment_says said by (Err kind) = refl

-- a compartment that is closed is that of its lines
compartment_ends : (said : List CompartmentSaid) (line : Stated)
    → say of_blocks (with_value (end_compartment_in said line) (λ compartment. Ok (closes_compartment compartment))) ≡ with_value (say (λ compartment. ends) (end_compartment_in said line)) (λ one. Ok (compartment_told said one))
unfolding end_compartment_in
compartment_ends said line = tested _ _
  where
    tested : (first second : Option Kind)
        → say of_blocks (with_value (passing (first ∷ second ∷ []) (Ok (compartment_of said))) (λ compartment. Ok (closes_compartment compartment))) ≡ with_value (say (λ (compartment : Compartment). ends) (passing (first ∷ second ∷ []) (Ok (compartment_of said)))) (λ one. Ok (compartment_told said one))
    tested (Some kind) second = refl
    tested None (Some kind) = refl
    tested None None = refl

-- a line in the block of a compartment
module _ (axes : Axes) (surfaces : List (List ℕ)) (opened : ℕ) (said : List CompartmentSaid) (before : List Said) (line : Stated)
    (given : axes_of before ≡ axes) (named : surface_names (blocks_said before) ≡ surfaces) (block : block_of (blocks_said before) ≡ in_compartment opened said) where
  compartment_statement : (one : BlockStatement) → statement_in (Block one) before line ≡ with_value (compartment_rules axes surfaces said line one) (λ one. Ok (compartment_told said one))
  unfolding statement_in block_line_in start_surface_in start_compartment_in
  compartment_statement StartSurface = let inside : is_outside (block_of (blocks_said before)) ≡ false = ap is_outside block in rw inside refl
  compartment_statement StartCompartment = let inside : is_outside (block_of (blocks_said before)) ≡ false = ap is_outside block in rw inside refl
  compartment_statement (InSurface one) = ap (λ b. say of_blocks (in_surface_in one (axes_of before) (species_of before) (blocks_said before) line b)) block
  compartment_statement EndSurface = ap (λ b. say of_blocks (end_surface_in (axes_of before) (species_of before) (blocks_said before) line b)) block
  compartment_statement Surface =
      ap (λ b. say of_blocks (bound_said (blocks_said before) line b)) block
      ∙ ap (λ names. say of_blocks (with_value (bound_in names said line) (λ surface. Ok (of_compartment (bounded surface))))) named
      ∙ compartment_says said bounded (bound_in surfaces said line)
  compartment_statement Point =
      ap (λ b. say of_blocks (point_said (axes_of before) line b)) block
      ∙ ap (λ a. say of_blocks (with_value (point_in a said line) (λ point. Ok (of_compartment (holds point))))) given
      ∙ compartment_says said holds (point_in axes said line)
  compartment_statement EndCompartment = ap (λ b. say of_blocks (end_compartment_said line b)) block ∙ compartment_ends said line

  pub compartment_line : (one : Statement) → placed_in one before line ≡ with_value (line_of_block (compartment_rules axes surfaces said line) one) (λ one. Ok (compartment_told said one))
  unfolding statement_in
  compartment_line PassedOver = refl
  compartment_line NotInProfile = refl
  compartment_line Unknown = refl
  compartment_line (Block one) = compartment_statement one
  compartment_line other = misplaced other before line (ap is_outside block)
