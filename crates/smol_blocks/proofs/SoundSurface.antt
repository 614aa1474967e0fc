-- What lines without a fault say of a surface is sound, and so are the panels that come of them.
use Rattle.std.proofs.Common.{◌≡◌, ℕ, zero, suc, ◌+◌, ◌<◌, ◌≤◌, Bool, List, [], ◌∷◌, ◌++◌, length, All, Option, None, Some, Ok, IsSomeAnd, slice_get, refl, ap, arith, subst, length-append}
use Rattle.std.proofs.lemmas.List.Elements.{All-nil, All-cons, All-head, All-tail, All-push}
use Rattle.smol_geom.specs.declared.rect.Rect.{Rect}
use Rattle.smol_text.specs.Reading.{Stated}
use Rattle.smol_types.specs.declared.surface.Face.{Face}
use Rattle.smol_types.specs.declared.surface.Face.TheVariants.{Front, Back}
use Rattle.smol_types.specs.declared.surface.Panel.{Panel as ThePanel}
use Rattle.smol_types.specs.Limits.{most_panels}
use Rattle.smol_types.specs.Panels.{IsCongruent, IsPanel, LeadsToCongruent}
use Rattle.smol_line.proofs.Passing.{said_by}
use Rattle.smol_blocks.specs.declared.jump.Leading.{Leading}
use Rattle.smol_blocks.specs.declared.surface_statement.SurfaceStatement.{SurfaceStatement}
use Rattle.smol_blocks.specs.declared.surface_statement.SurfaceStatement.TheVariants as statement
use Rattle.smol_blocks.specs.Action.{action_in}
use Rattle.smol_blocks.specs.Blocks.{numbered_face, panels_from}
use Rattle.smol_blocks.specs.BlocksSound.{AreSurfaceLines, IsPanelRectIn, LeadsAmong, LeadsFrom}
use Rattle.smol_blocks.specs.Jump.{jump_in}
use Rattle.smol_blocks.specs.Panel.{Named, panel_in}
use Rattle.smol_blocks.specs.Surface.{SurfaceSaid, acts, shows, leads, Known, led_to, panel_names_of, rects_of, sides_of, surface_line_in}
use Rattle.smol_blocks.proofs.SoundChange.{acting_within, acts_within}
use Rattle.smol_blocks.proofs.SoundJump.{IsLeading, jump_sound, leads_more, leads_nearer}
use Rattle.smol_blocks.proofs.SoundPanel.{IsShown, panel_sound}
use Rattle.smol_blocks.proofs.SoundValues.{found_before}

-- no line is said yet
pub no_surface_lines : (dims species_count others : ℕ) → others ≤ most_panels → AreSurfaceLines dims species_count others []
no_surface_lines dims species_count others fits = record {
  count = omega (arith, fits);
  names = refl;
  sides = refl;
  rects = All-nil (IsPanelRectIn dims);
  front_to = λ panel. tt;
  back_to = λ panel. tt;
  changes = λ one species. tt;
}

-- a panel more
shows_keeps : (dims species_count others : ℕ) (lines : List SurfaceSaid) (panel : Named) → IsShown dims others (panel_names_of lines) panel → AreSurfaceLines dims species_count others lines → AreSurfaceLines dims species_count others (shows panel ∷ lines)
shows_keeps dims species_count others lines panel new sound =
    let room = new.room in
    let names = sound.names in
    let sides = sound.sides in
    let more_names : length (panel_names_of lines ++ panel.name ∷ []) ≡ length (panel_names_of lines) + 1 = length-append (panel_names_of lines) (panel.name ∷ []) in
    let more_rects : length (rects_of lines ++ panel.rect ∷ []) ≡ length (rects_of lines) + 1 = length-append (rects_of lines) (panel.rect ∷ []) in
    let more_sides : length (sides_of lines ++ panel.facing.greater ∷ []) ≡ length (sides_of lines) + 1 = length-append (sides_of lines) (panel.facing.greater ∷ []) in
    record {
      count = omega (arith, room, names, more_rects);
      names = omega (arith, names, more_names, more_rects);
      sides = omega (arith, sides, more_sides, more_rects);
      rects = All-push (IsPanelRectIn dims) (rects_of lines) panel.rect sound.rects new.rect;
      front_to = λ number. leads_more (rects_of lines) (panel.rect ∷ []) number (led_to number Front lines) (sound.front_to number);
      back_to = λ number. leads_more (rects_of lines) (panel.rect ∷ []) number (led_to number Back lines) (sound.back_to number);
      changes = sound.changes;
    }

-- a jump more
leads_keeps : (dims species_count others : ℕ) (lines : List SurfaceSaid) (leading : Leading) → IsLeading (rects_of lines) leading → AreSurfaceLines dims species_count others lines → AreSurfaceLines dims species_count others (leads leading ∷ lines)
leads_keeps dims species_count others lines leading new sound = record {
  count = sound.count;
  names = sound.names;
  sides = sound.sides;
  rects = sound.rects;
  front_to = λ panel. leads_nearer (rects_of lines) leading panel Front (led_to panel Front lines) new (sound.front_to panel);
  back_to = λ panel. leads_nearer (rects_of lines) leading panel Back (led_to panel Back lines) new (sound.back_to panel);
  changes = sound.changes;
}

-- a line more of a surface's block
pub surface_keeps : (given : SurfaceStatement) (known : Known) (lines : List SurfaceSaid) (line : Stated) (more : SurfaceSaid) → known.dims ≤ 3 → surface_line_in given known lines line ≡ Ok more → AreSurfaceLines known.dims (length known.species) known.others lines → AreSurfaceLines known.dims (length known.species) known.others (more ∷ lines)
unfolding surface_line_in
surface_keeps statement.Action known lines line more few is sound =
    let by = said_by acts (action_in known.species line) more is in
    subst (λ (more : SurfaceSaid). AreSurfaceLines known.dims (length known.species) known.others (more ∷ lines)) by.2
    (record {
      count = sound.count;
      names = sound.names;
      sides = sound.sides;
      rects = sound.rects;
      front_to = sound.front_to;
      back_to = sound.back_to;
      changes = acts_within (length known.species) lines by.0 (acting_within known.species line by.0 by.1) sound.changes;
    })
surface_keeps statement.Panel known lines line more few is sound =
    let by = said_by shows (panel_in known.dims known.others (panel_names_of lines) line) more is in
    subst (λ (more : SurfaceSaid). AreSurfaceLines known.dims (length known.species) known.others (more ∷ lines)) by.2
    (shows_keeps known.dims (length known.species) known.others lines by.0 (panel_sound known.dims known.others (panel_names_of lines) line by.0 few by.1) sound)
surface_keeps statement.Jump known lines line more few is sound =
    let by = said_by leads (jump_in (panel_names_of lines) (rects_of lines) line) more is in
    subst (λ (more : SurfaceSaid). AreSurfaceLines known.dims (length known.species) known.others (more ∷ lines)) by.2
    (leads_keeps known.dims (length known.species) known.others lines by.0 (jump_sound (panel_names_of lines) (rects_of lines) line by.0 sound.names by.1) sound)

-- a surface has a panel for each rectangle
pub length-panels_from : (surface others : ℕ) (lines : List SurfaceSaid) (number : ℕ) (rects : List Rect) (sides : List Bool) → length sides ≡ length rects → length (panels_from surface others lines number rects sides) ≡ length rects
length-panels_from surface others lines number [] sides many = refl
length-panels_from surface others lines number (rect ∷ rects) [] many = absurd (omega (arith, many))
length-panels_from surface others lines number (rect ∷ rects) (side ∷ sides) many =
    ap suc (length-panels_from surface others lines (number + 1) rects sides (omega (arith, many)))

-- and with that rectangle
pub found_panel : (P : Rect → Type 0) (surface others : ℕ) (lines : List SurfaceSaid) (number : ℕ) (rects : List Rect) (sides : List Bool) (at : ℕ) → length sides ≡ length rects → IsSomeAnd (slice_get rects at) P → IsSomeAnd (slice_get (panels_from surface others lines number rects sides) at) (λ (panel : ThePanel). P panel.rect)
found_panel P surface others lines number [] sides at many found = absurd found
found_panel P surface others lines number (rect ∷ rects) [] at many found = absurd (omega (arith, many))
found_panel P surface others lines number (rect ∷ rects) (side ∷ sides) zero many found = found
found_panel P surface others lines number (rect ∷ rects) (side ∷ sides) (suc at) many found =
    found_panel P surface others lines (number + 1) rects sides at (omega (arith, many)) found

-- each rectangle of a surface is that of a panel of the file, behind so many others
abbrev pub StandBehind : ℕ → List Rect → List ThePanel → Type 0
StandBehind others rects panels =
    (rect : Rect) (at : ℕ) → IsSomeAnd (slice_get rects at) (IsCongruent rect) → IsSomeAnd (slice_get panels (others + at)) (λ (other : ThePanel). IsCongruent rect other.rect)

-- where jumps lead over the whole file
leads_over : (others : ℕ) (rects : List Rect) (panels : List ThePanel) (rect : Rect) (to : Option (ℕ × Face)) → StandBehind others rects panels → LeadsAmong rects rect to → LeadsToCongruent panels rect (numbered_face others to)
leads_over others rects panels rect None stand among = tt
leads_over others rects panels rect (Some to) stand among = stand rect to.0 among

-- where the jumps of a face lead, from the rectangles that stand at a number and behind it
abbrev LeadFrom : List Rect → List Rect → ℕ → Face → List SurfaceSaid → Type 0
LeadFrom all rects number one lines = (at : ℕ) → LeadsFrom all (slice_get rects at) (led_to (number + at) one lines)

-- where it leads from the first of these rectangles
first_leads : (all rects : List Rect) (rect : Rect) (number : ℕ) (one : Face) (lines : List SurfaceSaid) → LeadFrom all (rect ∷ rects) number one lines → LeadsAmong all rect (led_to number one lines)
first_leads all rects rect number one lines lead =
    let same : number + 0 ≡ number = omega arith in
    subst (λ (at : ℕ). LeadsAmong all rect (led_to at one lines)) same (lead 0)

-- and from those behind it
others_lead : (all rects : List Rect) (rect : Rect) (number : ℕ) (one : Face) (lines : List SurfaceSaid) → LeadFrom all (rect ∷ rects) number one lines → LeadFrom all rects (number + 1) one lines
others_lead all rects rect number one lines lead at =
    let same : number + suc at ≡ number + 1 + at = omega arith in
    subst (λ (place : ℕ). LeadsFrom all (slice_get rects at) (led_to place one lines)) same (lead (suc at))

-- the panels from a number on
panels_from_sound : (dims surface_count surface others : ℕ) (panels : List ThePanel) (all : List Rect) (lines : List SurfaceSaid) (number : ℕ) (rects : List Rect) (sides : List Bool)
    → surface < surface_count → StandBehind others all panels → All (IsPanelRectIn dims) rects → LeadFrom all rects number Front lines → LeadFrom all rects number Back lines
    → All (IsPanel dims surface_count panels) (panels_from surface others lines number rects sides)
panels_from_sound dims surface_count surface others panels all lines number [] sides below stand sound front back = All-nil (IsPanel dims surface_count panels)
panels_from_sound dims surface_count surface others panels all lines number (rect ∷ rects) [] below stand sound front back = All-nil (IsPanel dims surface_count panels)
panels_from_sound dims surface_count surface others panels all lines number (rect ∷ rects) (side ∷ sides) below stand sound front back =
    let first = All-head (IsPanelRectIn dims) rect rects sound in
    All-cons (IsPanel dims surface_count panels) _ (panels_from surface others lines (number + 1) rects sides)
    (record {
      rect = first.rect_is;
      across = first.across;
      edges = first.edges;
      low_count = first.low_count;
      high_count = first.high_count;
      low_size = first.low_size;
      high_size = first.high_size;
      low_even = first.low_even;
      high_even = first.high_even;
      low_unused = first.low_unused;
      high_unused = first.high_unused;
      surface = below;
      front_to = leads_over others all panels rect (led_to number Front lines) stand (first_leads all rects rect number Front lines front);
      back_to = leads_over others all panels rect (led_to number Back lines) stand (first_leads all rects rect number Back lines back);
    })
    (panels_from_sound dims surface_count surface others panels all lines (number + 1) rects sides below stand (All-tail (IsPanelRectIn dims) rect rects sound)
    (others_lead all rects rect number Front lines front) (others_lead all rects rect number Back lines back))

-- all rectangles stand from number 0 on
from_start : (all : List Rect) (one : Face) (lines : List SurfaceSaid) → ((panel : ℕ) → LeadsFrom all (slice_get all panel) (led_to panel one lines)) → LeadFrom all all 0 one lines
from_start all one lines lead at =
    let same : at ≡ 0 + at = omega arith in
    subst (λ (place : ℕ). LeadsFrom all (slice_get all at) (led_to place one lines)) same (lead at)

-- the panels of the surface of a block
pub panels_sound : (dims species_count surface_count surface others : ℕ) (panels : List ThePanel) (lines : List SurfaceSaid) → surface < surface_count → StandBehind others (rects_of lines) panels → AreSurfaceLines dims species_count others lines
    → All (IsPanel dims surface_count panels) (panels_from surface others lines 0 (rects_of lines) (sides_of lines))
panels_sound dims species_count surface_count surface others panels lines below stand sound =
    panels_from_sound dims surface_count surface others panels (rects_of lines) lines 0 (rects_of lines) (sides_of lines) below stand sound.rects
    (from_start (rects_of lines) Front lines sound.front_to) (from_start (rects_of lines) Back lines sound.back_to)

-- with more panels a jump leads to a congruent one still
leads_on : (panels more : List ThePanel) (rect : Rect) (to : Option (ℕ × Face)) → LeadsToCongruent panels rect to → LeadsToCongruent (panels ++ more) rect to
leads_on panels more rect None among = tt
leads_on panels more rect (Some to) among = found_before (λ (other : ThePanel). IsCongruent rect other.rect) panels more to.0 among

-- more surfaces and panels leave a panel sound
pub panel_wider : (dims surface_count wider : ℕ) (panels more : List ThePanel) → surface_count ≤ wider → (panel : ThePanel) → IsPanel dims surface_count panels panel → IsPanel dims wider (panels ++ more) panel
panel_wider dims surface_count wider panels more fits panel sound =
    let below = sound.surface in
    record {
      rect = sound.rect;
      across = sound.across;
      edges = sound.edges;
      low_count = sound.low_count;
      high_count = sound.high_count;
      low_size = sound.low_size;
      high_size = sound.high_size;
      low_even = sound.low_even;
      high_even = sound.high_even;
      low_unused = sound.low_unused;
      high_unused = sound.high_unused;
      surface = omega (arith, below, fits);
      front_to = leads_on panels more panel.rect panel.front_to sound.front_to;
      back_to = leads_on panels more panel.rect panel.back_to sound.back_to;
    }
