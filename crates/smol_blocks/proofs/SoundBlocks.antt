-- What lines without a fault say of blocks is sound.
use Rattle.std.proofs.Common.{◌≡◌, ◌∙◌, ℕ, ◌+◌, ◌<◌, ◌≤◌, ◌==◌, true, nat_lt, List, [], ◌∷◌, ◌++◌, length, Option, None, Some, Result, Ok, refl, sym, arith, subst, length-append}
use Rattle.std.proofs.lemmas.List.Elements.{All-append, All-nil, All-push, All-weaker}
use Rattle.smol_text.specs.Reading.{Stated, words_of}
use Rattle.smol_types.specs.declared.compartment.Compartment.{Compartment}
use Rattle.smol_types.specs.declared.fault.Kind.{Kind}
use Rattle.smol_types.specs.declared.fault.Kind.TheVariants.{BadOrder, TooMany, WrongWordCount}
use Rattle.smol_types.specs.declared.surface.Panel.{Panel as ThePanel}
use Rattle.smol_types.specs.declared.surface.Surface.{Surface as TheSurface}
use Rattle.smol_types.specs.Compartments.{IsCompartment}
use Rattle.smol_types.specs.Limits.{most_compartments, most_surfaces}
use Rattle.smol_types.specs.Panels.{IsCongruent, IsPanel}
use Rattle.smol_types.specs.Surfaces.{IsSurface}
use Rattle.smol_line.specs.declared.axes.Axes.{Axes}
use Rattle.smol_line.specs.Axes.{AreAxes, needs_dim}
use Rattle.smol_line.specs.Checks.{there, with_value}
use Rattle.smol_line.specs.Names.{new_name_in}
use Rattle.smol_line.specs.Words.{word_at}
use Rattle.smol_line.proofs.Passing.{valued, held, no_value, same_value, said_by}
use Rattle.smol_blocks.specs.declared.block_statement.BlockStatement.{BlockStatement}
use Rattle.smol_blocks.specs.declared.block_statement.BlockStatement.TheVariants.{StartSurface, InSurface, EndSurface, StartCompartment, Surface, Point, EndCompartment}
use Rattle.smol_blocks.specs.declared.surface_statement.SurfaceStatement.{SurfaceStatement}
use Rattle.smol_blocks.specs.Blocks.{Block, no_block, in_surface, in_compartment, BlockSaid, opens_surface, of_surface, closes_surface, opens_compartment, of_compartment, closes_compartment, block_line_in, block_of, bound_said, compartment_names, compartments_of, end_compartment_said, end_surface_in, in_surface_in, is_outside, known_to, panels_from, panels_in, panels_of, point_said, start_compartment_in, start_surface_in, surface_names, surfaces_of, with_compartment, with_surface}
use Rattle.smol_blocks.specs.BlocksSound.{AreBlocks, AreBlocksOf, AreCompartmentLines, AreSurfaceLines, IsBlock}
use Rattle.smol_blocks.specs.Compartment.{CompartmentSaid, bounded, holds, bound_in, end_compartment_in, point_in}
use Rattle.smol_blocks.specs.Surface.{SurfaceSaid, changing_on, rects_of, sides_of, surface_line_in, surface_of}
use Rattle.smol_blocks.proofs.SoundChange.{change_wider, surface_sound, surface_wider}
use Rattle.smol_blocks.proofs.SoundCompartment.{AreThese, bound_keeps, compartment_sound, compartment_wider, no_compartment_lines, point_keeps, same_dims, these}
use Rattle.smol_blocks.proofs.SoundSurface.{StandBehind, found_panel, length-panels_from, no_surface_lines, panel_wider, panels_sound, surface_keeps}
use Rattle.smol_blocks.proofs.SoundValues.{found_behind, is_below}

-- what holds of the open block, once it is known which one that is
at_block : (dims species_count : ℕ) (said : List BlockSaid) (block : Block) → block_of said ≡ block → AreBlocksOf dims species_count said → IsBlock dims species_count said block
at_block dims species_count said block is sound = subst (IsBlock dims species_count said) is sound.block

-- outside each block
outside : (dims species_count : ℕ) (said : List BlockSaid) (block : Block) → is_outside block ≡ true → IsBlock dims species_count said block → IsBlock dims species_count said no_block
outside dims species_count said no_block is sound = sound
outside dims species_count said (in_surface opened lines) is sound = absurd cc
outside dims species_count said (in_compartment opened lines) is sound = absurd cc

-- the block of a surface is opened
opens_surface_keeps : (dims species_count opened : ℕ) (name : List ℕ) (said : List BlockSaid) → length (surface_names said) < most_surfaces → is_outside (block_of said) ≡ true → AreBlocksOf dims species_count said → AreBlocksOf dims species_count (opens_surface opened name ∷ said)
opens_surface_keeps dims species_count opened name said room out sound =
    let before = outside dims species_count said (block_of said) out sound.block in
    let same = before.0 in
    let more : length (surface_names said ++ name ∷ []) ≡ length (surface_names said) + 1 = length-append (surface_names said) (name ∷ []) in
    record {
      surface_count = omega (arith, room, more);
      surfaces = sound.surfaces;
      compartment_count = sound.compartment_count;
      panel_count = sound.panel_count;
      panels = sound.panels;
      compartments = sound.compartments;
      block = (omega (arith, same, more), before.1, no_surface_lines dims species_count (length (panels_of said)) sound.panel_count);
    }

-- and so a line opens it
start_surface_keeps : (axes : Axes) (dims species_count : ℕ) (said : List BlockSaid) (line : Stated) (more : BlockSaid) → start_surface_in axes said line ≡ Ok more → AreBlocksOf dims species_count said → AreBlocksOf dims species_count (more ∷ said)
unfolding start_surface_in
start_surface_keeps axes dims species_count said line more is sound =
    let out = held (is_outside (block_of said)) BadOrder [] _ more is in
    let count = valued (needs_dim axes) _ more out.1 in
    let words = held (length (words_of line) == 2) WrongWordCount [] _ more count.2 in
    let name = valued (new_name_in (surface_names said) (word_at line 1)) _ more words.1 in
    let room = held (nat_lt (length (surface_names said)) most_surfaces) TooMany [] _ more name.2 in
    subst (λ (more : BlockSaid). AreBlocksOf dims species_count (more ∷ said)) (same_value (opens_surface line.number name.0) more room.1)
    (opens_surface_keeps dims species_count line.number name.0 said (is_below (length (surface_names said)) most_surfaces room.0) out.0 sound)

-- the block of a compartment is opened
opens_compartment_keeps : (dims species_count opened : ℕ) (name : List ℕ) (said : List BlockSaid) → length (compartment_names said) < most_compartments → is_outside (block_of said) ≡ true → AreBlocksOf dims species_count said → AreBlocksOf dims species_count (opens_compartment opened name ∷ said)
opens_compartment_keeps dims species_count opened name said room out sound =
    let before = outside dims species_count said (block_of said) out sound.block in
    let same = before.1 in
    let more : length (compartment_names said ++ name ∷ []) ≡ length (compartment_names said) + 1 = length-append (compartment_names said) (name ∷ []) in
    record {
      surface_count = sound.surface_count;
      surfaces = sound.surfaces;
      compartment_count = omega (arith, room, more);
      panel_count = sound.panel_count;
      panels = sound.panels;
      compartments = sound.compartments;
      block = (before.0, omega (arith, same, more), no_compartment_lines dims (length (surfaces_of said)));
    }

-- and so a line opens it
start_compartment_keeps : (axes : Axes) (dims species_count : ℕ) (said : List BlockSaid) (line : Stated) (more : BlockSaid) → start_compartment_in axes said line ≡ Ok more → AreBlocksOf dims species_count said → AreBlocksOf dims species_count (more ∷ said)
unfolding start_compartment_in
start_compartment_keeps axes dims species_count said line more is sound =
    let out = held (is_outside (block_of said)) BadOrder [] _ more is in
    let count = valued (needs_dim axes) _ more out.1 in
    let words = held (length (words_of line) == 2) WrongWordCount [] _ more count.2 in
    let name = valued (new_name_in (compartment_names said) (word_at line 1)) _ more words.1 in
    let room = held (nat_lt (length (compartment_names said)) most_compartments) TooMany [] _ more name.2 in
    subst (λ (more : BlockSaid). AreBlocksOf dims species_count (more ∷ said)) (same_value (opens_compartment line.number name.0) more room.1)
    (opens_compartment_keeps dims species_count line.number name.0 said (is_below (length (compartment_names said)) most_compartments room.0) out.0 sound)

-- a line more of a surface
of_surface_keeps : (dims species_count opened : ℕ) (lines : List SurfaceSaid) (new : SurfaceSaid) (said : List BlockSaid) → block_of said ≡ in_surface opened lines → AreSurfaceLines dims species_count (length (panels_of said)) (new ∷ lines) → AreBlocksOf dims species_count said → AreBlocksOf dims species_count (of_surface new ∷ said)
of_surface_keeps dims species_count opened lines new said open_is lines_sound sound =
    let before = at_block dims species_count said (in_surface opened lines) open_is sound in
    record {
      surface_count = sound.surface_count;
      surfaces = sound.surfaces;
      compartment_count = sound.compartment_count;
      panel_count = sound.panel_count;
      panels = sound.panels;
      compartments = sound.compartments;
      block = subst (λ (block : Block). IsBlock dims species_count (of_surface new ∷ said) (with_surface new block)) (sym open_is) (before.0, before.1, lines_sound);
    }

-- and so a line stands in its block
in_surface_keeps : (given : SurfaceStatement) (axes : Axes) (dims : ℕ) (species : List (List ℕ)) (said : List BlockSaid) (line : Stated) (more : BlockSaid) (block : Block) → AreThese axes dims → block_of said ≡ block → in_surface_in given axes species said line block ≡ Ok more → AreBlocksOf dims (length species) said → AreBlocksOf dims (length species) (more ∷ said)
in_surface_keeps given axes dims species said line more no_block known open_is is sound = no_value BadOrder more is
in_surface_keeps given axes dims species said line more (in_compartment opened lines) known open_is is sound = no_value BadOrder more is
in_surface_keeps given axes dims species said line more (in_surface opened lines) known open_is is sound =
    let count = valued (needs_dim axes) _ more is in
    let same = same_dims axes dims count.0 known.count count.1 in
    let by = said_by of_surface (surface_line_in given (known_to count.0 species said) lines line) more count.2 in
    let rule = subst (λ (count : ℕ). surface_line_in given (known_to count species said) lines line ≡ Ok by.0) (sym same) by.1 in
    let before = at_block dims (length species) said (in_surface opened lines) open_is sound in
    subst (λ (more : BlockSaid). AreBlocksOf dims (length species) (more ∷ said)) by.2
    (of_surface_keeps dims (length species) opened lines by.0 said open_is (surface_keeps given (known_to dims species said) lines line by.0 known.most rule before.2) sound)

-- the rectangles of a surface's block are those of its panels, which stand behind the panels of other surfaces
stand_behind : (dims species_count surface : ℕ) (panels : List ThePanel) (lines : List SurfaceSaid) → AreSurfaceLines dims species_count (length panels) lines → StandBehind (length panels) (rects_of lines) (panels ++ panels_from surface (length panels) lines 0 (rects_of lines) (sides_of lines))
stand_behind dims species_count surface panels lines sound rect at found =
    found_behind (λ (other : ThePanel). IsCongruent rect other.rect) panels (panels_from surface (length panels) lines 0 (rects_of lines) (sides_of lines)) at
    (found_panel (IsCongruent rect) surface (length panels) lines 0 (rects_of lines) (sides_of lines) at sound.sides found)

-- the block of a surface is closed
closes_surface_keeps : (dims species_count opened : ℕ) (lines : List SurfaceSaid) (surface : TheSurface) (said : List BlockSaid) → block_of said ≡ in_surface opened lines → IsSurface species_count surface → AreBlocksOf dims species_count said → AreBlocksOf dims species_count (closes_surface surface (panels_in (length (surfaces_of said)) (length (panels_of said)) lines) ∷ said)
unfolding panels_in
closes_surface_keeps dims species_count opened lines surface said open_is new_sound sound =
    let before = at_block dims species_count said (in_surface opened lines) open_is sound in
    let panels = panels_of said in
    let number = length (surfaces_of said) in
    let wider = length (surfaces_of said ++ surface ∷ []) in
    let new = panels_from number (length panels) lines 0 (rects_of lines) (sides_of lines) in
    let room = before.2.count in
    let same = before.0 in
    let more : length (surfaces_of said ++ surface ∷ []) ≡ length (surfaces_of said) + 1 = length-append (surfaces_of said) (surface ∷ []) in
    let many : length new ≡ length (rects_of lines) = length-panels_from number (length panels) lines 0 (rects_of lines) (sides_of lines) before.2.sides in
    let joined : length (panels ++ new) ≡ length panels + length new = length-append panels new in
    let fits : number ≤ wider = omega (arith, more) in
    let below : number < wider = omega (arith, more) in
    record {
      surface_count = sound.surface_count;
      surfaces = All-push (IsSurface species_count) (surfaces_of said) surface sound.surfaces new_sound;
      compartment_count = sound.compartment_count;
      panel_count = omega (arith, room, many, joined);
      panels = All-append (IsPanel dims wider (panels ++ new)) panels new
          (All-weaker (IsPanel dims number panels) (IsPanel dims wider (panels ++ new)) (panel_wider dims number wider panels new fits) panels sound.panels)
          (panels_sound dims species_count wider number (length panels) (panels ++ new) lines below (stand_behind dims species_count number panels lines before.2) before.2);
      compartments = All-weaker (IsCompartment dims number) (IsCompartment dims wider) (compartment_wider dims number wider fits) (compartments_of said) sound.compartments;
      block = (same ∙ sym more, before.1);
    }

-- and so a line closes it
end_surface_keeps : (axes : Axes) (dims : ℕ) (species : List (List ℕ)) (said : List BlockSaid) (line : Stated) (more : BlockSaid) (block : Block) → block_of said ≡ block → end_surface_in axes species said line block ≡ Ok more → AreBlocksOf dims (length species) said → AreBlocksOf dims (length species) (more ∷ said)
end_surface_keeps axes dims species said line more no_block open_is is sound = no_value BadOrder more is
end_surface_keeps axes dims species said line more (in_compartment opened lines) open_is is sound = no_value BadOrder more is
end_surface_keeps axes dims species said line more (in_surface opened lines) open_is is sound =
    let count = valued (needs_dim axes) _ more is in
    let words = held (length (words_of line) == 1) WrongWordCount [] _ more count.2 in
    let surface = surface_of (known_to count.0 species said) lines in
    subst (λ (more : BlockSaid). AreBlocksOf dims (length species) (more ∷ said))
    (same_value (closes_surface surface (panels_in (length (surfaces_of said)) (length (panels_of said)) lines)) more words.1)
    (closes_surface_keeps dims (length species) opened lines surface said open_is
    (surface_sound (known_to count.0 species said) lines (at_block dims (length species) said (in_surface opened lines) open_is sound).2.changes) sound)

-- a line more of a compartment
of_compartment_keeps : (dims species_count opened : ℕ) (lines : List CompartmentSaid) (new : CompartmentSaid) (said : List BlockSaid) → block_of said ≡ in_compartment opened lines → AreCompartmentLines dims (length (surfaces_of said)) (new ∷ lines) → AreBlocksOf dims species_count said → AreBlocksOf dims species_count (of_compartment new ∷ said)
of_compartment_keeps dims species_count opened lines new said open_is lines_sound sound =
    let before = at_block dims species_count said (in_compartment opened lines) open_is sound in
    record {
      surface_count = sound.surface_count;
      surfaces = sound.surfaces;
      compartment_count = sound.compartment_count;
      panel_count = sound.panel_count;
      panels = sound.panels;
      compartments = sound.compartments;
      block = subst (λ (block : Block). IsBlock dims species_count (of_compartment new ∷ said) (with_compartment new block)) (sym open_is) (before.0, before.1, lines_sound);
    }

-- a surface that bounds it
bound_said_keeps : (dims species_count : ℕ) (said : List BlockSaid) (line : Stated) (more : BlockSaid) (block : Block) → block_of said ≡ block → bound_said said line block ≡ Ok more → AreBlocksOf dims species_count said → AreBlocksOf dims species_count (more ∷ said)
bound_said_keeps dims species_count said line more no_block open_is is sound = no_value BadOrder more is
bound_said_keeps dims species_count said line more (in_surface opened lines) open_is is sound = no_value BadOrder more is
bound_said_keeps dims species_count said line more (in_compartment opened lines) open_is is sound =
    let surface = valued (bound_in (surface_names said) lines line) _ more is in
    let before = at_block dims species_count said (in_compartment opened lines) open_is sound in
    subst (λ (more : BlockSaid). AreBlocksOf dims species_count (more ∷ said)) (same_value (of_compartment (bounded surface.0)) more surface.2)
    (of_compartment_keeps dims species_count opened lines (bounded surface.0) said open_is
    (bound_keeps dims (length (surfaces_of said)) (surface_names said) lines line surface.0 before.0 surface.1 before.2) sound)

-- a point inside
point_said_keeps : (axes : Axes) (dims species_count : ℕ) (said : List BlockSaid) (line : Stated) (more : BlockSaid) (block : Block) → AreThese axes dims → block_of said ≡ block → point_said axes line block ≡ Ok more → AreBlocksOf dims species_count said → AreBlocksOf dims species_count (more ∷ said)
point_said_keeps axes dims species_count said line more no_block known open_is is sound = no_value BadOrder more is
point_said_keeps axes dims species_count said line more (in_surface opened lines) known open_is is sound = no_value BadOrder more is
point_said_keeps axes dims species_count said line more (in_compartment opened lines) known open_is is sound =
    let point = valued (point_in axes lines line) _ more is in
    let before = at_block dims species_count said (in_compartment opened lines) open_is sound in
    subst (λ (more : BlockSaid). AreBlocksOf dims species_count (more ∷ said)) (same_value (of_compartment (holds point.0)) more point.2)
    (of_compartment_keeps dims species_count opened lines (holds point.0) said open_is
    (point_keeps axes dims (length (surfaces_of said)) lines line point.0 known point.1 before.2) sound)

-- the block of a compartment is closed
closes_compartment_keeps : (dims species_count opened : ℕ) (lines : List CompartmentSaid) (compartment : Compartment) (said : List BlockSaid) → block_of said ≡ in_compartment opened lines → IsCompartment dims (length (surfaces_of said)) compartment → AreBlocksOf dims species_count said → AreBlocksOf dims species_count (closes_compartment compartment ∷ said)
closes_compartment_keeps dims species_count opened lines compartment said open_is new sound =
    let before = at_block dims species_count said (in_compartment opened lines) open_is sound in
    let more : length (compartments_of said ++ compartment ∷ []) ≡ length (compartments_of said) + 1 = length-append (compartments_of said) (compartment ∷ []) in
    record {
      surface_count = sound.surface_count;
      surfaces = sound.surfaces;
      compartment_count = sound.compartment_count;
      panel_count = sound.panel_count;
      panels = sound.panels;
      compartments = All-push (IsCompartment dims (length (surfaces_of said))) (compartments_of said) compartment sound.compartments new;
      block = (before.0, before.1 ∙ sym more);
    }

-- and so a line closes it
end_compartment_keeps : (dims species_count : ℕ) (said : List BlockSaid) (line : Stated) (more : BlockSaid) (block : Block) → block_of said ≡ block → end_compartment_said line block ≡ Ok more → AreBlocksOf dims species_count said → AreBlocksOf dims species_count (more ∷ said)
end_compartment_keeps dims species_count said line more no_block open_is is sound = no_value BadOrder more is
end_compartment_keeps dims species_count said line more (in_surface opened lines) open_is is sound = no_value BadOrder more is
end_compartment_keeps dims species_count said line more (in_compartment opened lines) open_is is sound =
    let compartment = valued (end_compartment_in lines line) _ more is in
    let before = at_block dims species_count said (in_compartment opened lines) open_is sound in
    subst (λ (more : BlockSaid). AreBlocksOf dims species_count (more ∷ said)) (same_value (closes_compartment compartment.0) more compartment.2)
    (closes_compartment_keeps dims species_count opened lines compartment.0 said open_is
    (compartment_sound dims (length (surfaces_of said)) lines line compartment.0 compartment.1 before.2) sound)

-- a line more, where so many axes are in use
blocks_keep_of : (given : BlockStatement) (axes : Axes) (dims : ℕ) (species : List (List ℕ)) (said : List BlockSaid) (line : Stated) (more : BlockSaid) → AreThese axes dims → block_line_in given axes species said line ≡ Ok more → AreBlocksOf dims (length species) said → AreBlocksOf dims (length species) (more ∷ said)
unfolding block_line_in
blocks_keep_of StartSurface axes dims species said line more known is sound = start_surface_keeps axes dims (length species) said line more is sound
blocks_keep_of (InSurface given) axes dims species said line more known is sound = in_surface_keeps given axes dims species said line more (block_of said) known refl is sound
blocks_keep_of EndSurface axes dims species said line more known is sound = end_surface_keeps axes dims species said line more (block_of said) refl is sound
blocks_keep_of StartCompartment axes dims species said line more known is sound = start_compartment_keeps axes dims (length species) said line more is sound
blocks_keep_of Surface axes dims species said line more known is sound = bound_said_keeps dims (length species) said line more (block_of said) refl is sound
blocks_keep_of Point axes dims species said line more known is sound = point_said_keeps axes dims (length species) said line more (block_of said) known refl is sound
blocks_keep_of EndCompartment axes dims species said line more known is sound = end_compartment_keeps dims (length species) said line more (block_of said) refl is sound

-- no count is given that a statement needs
no_count : (axes : Axes) (next : ℕ → Result BlockSaid Kind) (more : BlockSaid) (P : Type 0) → axes.dims ≡ None → with_value (needs_dim axes) next ≡ Ok more → P
no_count axes next more P given is =
    let none = subst (λ (count : Option ℕ). with_value (there count BadOrder) next ≡ Ok more) given is in
    no_value BadOrder more none

-- the first line of a block needs the count of axes, and no other line is first
nothing_first : (given : BlockStatement) (axes : Axes) (species : List (List ℕ)) (line : Stated) (more : BlockSaid) (P : Type 0) → axes.dims ≡ None → block_line_in given axes species [] line ≡ Ok more → P
unfolding block_line_in start_surface_in start_compartment_in
nothing_first StartSurface axes species line more P given is = no_count axes _ more P given is
nothing_first (InSurface one) axes species line more P given is = no_value BadOrder more is
nothing_first EndSurface axes species line more P given is = no_value BadOrder more is
nothing_first StartCompartment axes species line more P given is = no_count axes _ more P given is
nothing_first Surface axes species line more P given is = no_value BadOrder more is
nothing_first Point axes species line more P given is = no_value BadOrder more is
nothing_first EndCompartment axes species line more P given is = no_value BadOrder more is

-- a line more, by whether the number of axes is given
keep_by : (given : BlockStatement) (axes : Axes) (dims : Option ℕ) (species : List (List ℕ)) (said : List BlockSaid) (line : Stated) (more : BlockSaid) → axes.dims ≡ dims → block_line_in given axes species said line ≡ Ok more → AreAxes axes → AreBlocks dims (length species) said → AreBlocks dims (length species) (more ∷ said)
keep_by given axes None species said line more count is range sound =
    nothing_first given axes species line more (more ∷ said ≡ []) count (subst (λ (said : List BlockSaid). block_line_in given axes species said line ≡ Ok more) sound is)
keep_by given axes (Some dims) species said line more count is range sound = blocks_keep_of given axes dims species said line more (these axes dims range count) is sound

-- a line more that has no fault keeps what is said of blocks sound
pub blocks_keep : (given : BlockStatement) (axes : Axes) (species : List (List ℕ)) (said : List BlockSaid) (line : Stated) (more : BlockSaid) → block_line_in given axes species said line ≡ Ok more → AreAxes axes → AreBlocks axes.dims (length species) said → AreBlocks axes.dims (length species) (more ∷ said)
blocks_keep given axes species said line more is range sound = keep_by given axes axes.dims species said line more refl is range sound

-- nothing that is said is sound
pub no_blocks : (dims : Option ℕ) (species_count : ℕ) → AreBlocks dims species_count []
no_blocks None species_count = refl
no_blocks (Some dims) species_count = record {
  surface_count = omega arith;
  surfaces = All-nil (IsSurface species_count);
  compartment_count = omega arith;
  panel_count = omega arith;
  panels = All-nil (IsPanel dims 0 []);
  compartments = All-nil (IsCompartment dims 0);
  block = (refl, refl);
}

-- the number of axes, once it is given, leaves blocks sound
pub axes_given : (dims species_count : ℕ) (said : List BlockSaid) → AreBlocks None species_count said → AreBlocks (Some dims) species_count said
axes_given dims species_count said none = subst (AreBlocks (Some dims) species_count) (sym none) (no_blocks (Some dims) species_count)

-- the open block stays as it is beside more species
block_wider : (dims species_count more_species : ℕ) (said : List BlockSaid) (block : Block) → species_count ≤ more_species → IsBlock dims species_count said block → IsBlock dims more_species said block
block_wider dims species_count more_species said no_block further sound = sound
block_wider dims species_count more_species said (in_surface opened lines) further sound =
    let lines_sound = sound.2 in (
      sound.0,
      sound.1,
      record {
        count = lines_sound.count;
        names = lines_sound.names;
        sides = lines_sound.sides;
        rects = lines_sound.rects;
        front_to = lines_sound.front_to;
        back_to = lines_sound.back_to;
        changes = λ one species. change_wider species_count more_species (changing_on one species lines) further (lines_sound.changes one species);
      },
    )
block_wider dims species_count more_species said (in_compartment opened lines) further sound = sound

-- more species leave blocks sound
pub species_given : (dims : Option ℕ) (species_count more_species : ℕ) (said : List BlockSaid) → species_count ≤ more_species → AreBlocks dims species_count said → AreBlocks dims more_species said
species_given None species_count more_species said further sound = sound
species_given (Some dims) species_count more_species said further sound = record {
  surface_count = sound.surface_count;
  surfaces = All-weaker (IsSurface species_count) (IsSurface more_species) (surface_wider species_count more_species further) (surfaces_of said) sound.surfaces;
  compartment_count = sound.compartment_count;
  panel_count = sound.panel_count;
  panels = sound.panels;
  compartments = sound.compartments;
  block = block_wider dims species_count more_species said (block_of said) further sound.block;
}

-- outside each block every surface and compartment that has a name is closed
pub outside_equal : (dims species_count : ℕ) (said : List BlockSaid) → AreBlocks (Some dims) species_count said → is_outside (block_of said) ≡ true → (length (surface_names said) ≡ length (surfaces_of said)) × (length (compartment_names said) ≡ length (compartments_of said))
outside_equal dims species_count said sound out = outside dims species_count said (block_of said) out sound.block

-- no line takes a compartment away
more_compartments : (more : BlockSaid) (said : List BlockSaid) → length (compartments_of said) ≤ length (compartments_of (more ∷ said))
more_compartments (opens_surface opened name) said = omega arith
more_compartments (of_surface new) said = omega arith
more_compartments (closes_surface surface panels) said = omega arith
more_compartments (opens_compartment opened name) said = omega arith
more_compartments (of_compartment new) said = omega arith
more_compartments (closes_compartment compartment) said =
    let more : length (compartments_of said ++ compartment ∷ []) ≡ length (compartments_of said) + 1 = length-append (compartments_of said) (compartment ∷ []) in
    omega (arith, more)

pub compartments_grow : (given : BlockStatement) (axes : Axes) (species : List (List ℕ)) (said : List BlockSaid) (line : Stated) (more : BlockSaid) → block_line_in given axes species said line ≡ Ok more → length (compartments_of said) ≤ length (compartments_of (more ∷ said))
compartments_grow given axes species said line more is = more_compartments more said
