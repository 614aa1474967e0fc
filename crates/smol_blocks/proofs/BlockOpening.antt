-- The line that opens a block.
use Rattle.std.proofs.Common.{◌≡◌, ◌∷◌, [], ℕ, true, nat_lt, List, length, Option, None, Some, Result, Ok, Err, refl, ap}
use Rattle.smol_text.specs.Reading.{Stated}
use Rattle.smol_types.specs.declared.fault.Kind.{Kind}
use Rattle.smol_types.specs.declared.fault.Kind.TheVariants.{TooMany}
use Rattle.smol_types.specs.Limits.{most_surfaces, most_compartments}
use Rattle.smol_line.specs.declared.axes.Axes.{Axes}
use Rattle.smol_line.specs.Axes.{needs_dim}
use Rattle.smol_line.specs.Checks.{unless, word_count, passing, with_value}
use Rattle.smol_line.specs.Names.{new_name_in}
use Rattle.smol_line.specs.Words.{word_at}
use Rattle.smol_blocks.specs.BlockName.{block_name_in}
use Rattle.smol_blocks.specs.Blocks.{BlockSaid, no_block, opens_surface, opens_compartment, block_of, compartment_names, is_outside, surface_names, start_surface_in, start_compartment_in}

-- what is said by a name that passes its tests
named : {T : Type 0} (dims : Result ℕ Kind) (count : Option Kind) (name : Result (List ℕ) Kind) (room : Option Kind) (said : List ℕ → T)
    → with_value dims (λ d. passing (count ∷ []) (with_value name (λ n. passing (room ∷ []) (Ok (said n)))))
    ≡ with_value (with_value dims (λ d. passing (count ∷ []) (with_value name (λ n. passing (room ∷ []) (Ok n))))) (λ n. Ok (said n))
named (Err kind) count name room said = refl
named (Ok d) (Some kind) name room said = refl
named (Ok d) None (Err kind) room said = refl
named (Ok d) None (Ok n) (Some kind) said = refl
named (Ok d) None (Ok n) None said = refl

-- what a line says that opens the block of a surface where none is open, by its name
pub starts_surface : (axes : Axes) (said : List BlockSaid) (line : Stated) → block_of said ≡ no_block
    → start_surface_in axes said line ≡ with_value (block_name_in axes (surface_names said) most_surfaces line) (λ name. Ok (opens_surface line.number name))
unfolding start_surface_in block_name_in
starts_surface axes said line closed =
    let outside : is_outside (block_of said) ≡ true = ap is_outside closed in
    rw outside (named (needs_dim axes) (word_count 2 line) (new_name_in (surface_names said) (word_at line 1)) (unless (nat_lt (length (surface_names said)) most_surfaces) TooMany) (opens_surface line.number))

-- what a line says that opens the block of a compartment where none is open, by its name
pub starts_compartment : (axes : Axes) (said : List BlockSaid) (line : Stated) → block_of said ≡ no_block
    → start_compartment_in axes said line ≡ with_value (block_name_in axes (compartment_names said) most_compartments line) (λ name. Ok (opens_compartment line.number name))
unfolding start_compartment_in block_name_in
starts_compartment axes said line closed =
    let outside : is_outside (block_of said) ≡ true = ap is_outside closed in
    rw outside (named (needs_dim axes) (word_count 2 line) (new_name_in (compartment_names said) (word_at line 1)) (unless (nat_lt (length (compartment_names said)) most_compartments) TooMany) (opens_compartment line.number))
