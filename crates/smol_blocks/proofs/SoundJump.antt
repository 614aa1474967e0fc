-- Jumps that lines without a fault give lead between congruent rectangles of the surface.
use Rattle.std.proofs.Common.{◌≡◌, ℕ, zero, suc, ◌<◌, ◌==◌, ◌&&◌, Bool, true, false, List, [], ◌∷◌, ◌++◌, length, Option, None, Some, Ok, IsSomeAnd, slice_get, slice_index_or, if◌then◌else◌, refl, sym, subst}
use Rattle.std.specs.Ordering.{int_eq}
use Rattle.std.proofs.lemmas.Bool.Decides.{Decides-eqb, Decides-int_eq}
use Rattle.std.proofs.lemmas.Option.{slice_get-get_or}
use Rattle.smol_geom.specs.declared.rect.Rect.{Rect}
use Rattle.smol_text.specs.Reading.{Stated, words_of}
use Rattle.smol_types.specs.declared.fault.Kind.TheVariants.{BadJump, WrongWordCount}
use Rattle.smol_types.specs.declared.surface.Face.{Face}
use Rattle.smol_types.specs.Panels.{IsCongruent}
use Rattle.smol_line.specs.LookingBack.{nearer}
use Rattle.smol_line.specs.SpeciesWord.{number_in}
use Rattle.smol_line.specs.Words.{word_at}
use Rattle.smol_line.proofs.Passing.{valued, held, same_value, both}
use Rattle.smol_line.proofs.Ranges.{number_in-within}
use Rattle.smol_blocks.specs.declared.jump.Leading.{Leading}
use Rattle.smol_blocks.specs.BlocksSound.{LeadsAmong, LeadsFrom}
use Rattle.smol_blocks.specs.Faces.{face_in}
use Rattle.smol_blocks.specs.Jump.{are_congruent, arrow_in, edge_of, jump_in, no_rect}
use Rattle.smol_blocks.specs.Surface.{led_by, same_face}
use Rattle.smol_blocks.proofs.SoundValues.{found_before}

-- rectangles that pass the test are congruent
congruent : (a b : Rect) → are_congruent a b ≡ true → IsCongruent a b
congruent a b passes =
    let first = both _ (int_eq (edge_of a 2) (edge_of b 2)) passes in
    let second = both _ (int_eq (edge_of a 1) (edge_of b 1)) first.0 in
    let third = both (a.axis == b.axis) (int_eq (edge_of a 0) (edge_of b 0)) second.0 in
    record {
      axis = (Decides-eqb a.axis b.axis).0 third.0;
      edges = (
        (Decides-int_eq (edge_of a 0) (edge_of b 0)).0 third.1,
        (Decides-int_eq (edge_of a 1) (edge_of b 1)).0 second.1,
        (Decides-int_eq (edge_of a 2) (edge_of b 2)).0 first.1,
      );
    }

-- the first is congruent to the second, and so is the second to the first
turned : (a b : Rect) → IsCongruent a b → IsCongruent b a
turned a b same = record { axis = sym same.axis; edges = (sym same.edges.0, sym same.edges.1, sym same.edges.2) }

-- what is known of the jump of a line
pub record IsLeading (rects : List Rect) (leading : Leading) : Type 0 where
  pub from : leading.from < length rects
  pub to : leading.to < length rects
  pub congruent_are : IsCongruent (slice_index_or rects leading.from no_rect) (slice_index_or rects leading.to no_rect)

-- and it is so of the jump of every line without a fault
pub jump_sound : (names : List (List ℕ)) (rects : List Rect) (line : Stated) (leading : Leading) → length names ≡ length rects → jump_in names rects line ≡ Ok leading → IsLeading rects leading
unfolding jump_in
jump_sound names rects line leading many is =
    let words = held (length (words_of line) == 6) WrongWordCount [] _ leading is in
    let from = valued (number_in names (word_at line 1)) _ leading words.1 in
    let from_face = valued (face_in (word_at line 2)) _ leading from.2 in
    let ways = valued (arrow_in (word_at line 3)) _ leading from_face.2 in
    let to = valued (number_in names (word_at line 4)) _ leading ways.2 in
    let to_face = valued (face_in (word_at line 5)) _ leading to.2 in
    let fit = held (are_congruent (slice_index_or rects from.0 no_rect) (slice_index_or rects to.0 no_rect)) BadJump [] _ leading to_face.2 in
    let made : Leading = record { from = from.0; from_face = from_face.0; to = to.0; to_face = to_face.0; both = ways.0 } in
    subst (IsLeading rects) (same_value made leading fit.1)
    (record {
      from = subst (λ (count : ℕ). from.0 < count) many (number_in-within names (word_at line 1) from.0 from.1);
      to = subst (λ (count : ℕ). to.0 < count) many (number_in-within names (word_at line 4) to.0 to.1);
      congruent_are = congruent (slice_index_or rects from.0 no_rect) (slice_index_or rects to.0 no_rect) fit.0;
    })

-- a jump between two of the rectangles
leads_here : (rects : List Rect) (from to : ℕ) (one : Face) → from < length rects → to < length rects → IsCongruent (slice_index_or rects from no_rect) (slice_index_or rects to no_rect) → LeadsFrom rects (slice_get rects from) (Some (to, one))
leads_here rects from to one starts ends same =
    subst (λ (rect : Option Rect). LeadsFrom rects rect (Some (to, one))) (sym (slice_get-get_or rects from no_rect starts))
    (subst (λ (rect : Option Rect). IsSomeAnd rect (IsCongruent (slice_index_or rects from no_rect))) (sym (slice_get-get_or rects to no_rect ends)) same)

-- where a jump leads with one more, by whether that leads from the face or back to it
chosen_leads : (there back : Bool) (rects : List Rect) (leading : Leading) (panel : ℕ) (older : Option (ℕ × Face)) → IsLeading rects leading → (there ≡ true → leading.from ≡ panel) → (back ≡ true → leading.to ≡ panel) → LeadsFrom rects (slice_get rects panel) older
    → LeadsFrom rects (slice_get rects panel) (nearer (if there then Some (leading.to, leading.to_face) else (if back then Some (leading.from, leading.from_face) else None)) older)
chosen_leads true back rects leading panel older sound starts ends before =
    subst (λ (panel : ℕ). LeadsFrom rects (slice_get rects panel) (Some (leading.to, leading.to_face))) (starts refl)
    (leads_here rects leading.from leading.to leading.to_face sound.from sound.to sound.congruent_are)
chosen_leads false true rects leading panel older sound starts ends before =
    subst (λ (panel : ℕ). LeadsFrom rects (slice_get rects panel) (Some (leading.from, leading.from_face))) (ends refl)
    (leads_here rects leading.to leading.from leading.from_face sound.to sound.from (turned _ _ sound.congruent_are))
chosen_leads false false rects leading panel older sound starts ends before = before

-- with a jump more each jump leads to a congruent rectangle still
pub leads_nearer : (rects : List Rect) (leading : Leading) (panel : ℕ) (one : Face) (older : Option (ℕ × Face)) → IsLeading rects leading → LeadsFrom rects (slice_get rects panel) older → LeadsFrom rects (slice_get rects panel) (nearer (led_by leading panel one) older)
leads_nearer rects leading panel one older sound before =
    let here = (leading.from == panel) && same_face leading.from_face one in
    let back = leading.both && (leading.to == panel) && same_face leading.to_face one in
    chosen_leads here back rects leading panel older sound
    (λ is. (Decides-eqb leading.from panel).0 (both (leading.from == panel) _ is).0)
    (λ is. (Decides-eqb leading.to panel).0 (both leading.both _ (both (leading.both && (leading.to == panel)) _ is).0).1)
    before

-- a jump that leads nowhere, from a rectangle that there may be
nowhere : (rects : List Rect) (rect : Option Rect) → LeadsFrom rects rect None
nowhere rects None = tt
nowhere rects (Some rect) = tt

-- with more rectangles a jump from this one leads to a congruent one still
among_more : (rects more : List Rect) (rect : Rect) (to : Option (ℕ × Face)) → LeadsAmong rects rect to → LeadsAmong (rects ++ more) rect to
among_more rects more rect None leads = tt
among_more rects more rect (Some to) leads = found_before (IsCongruent rect) rects more to.0 leads

-- the same of a jump from a rectangle that there may be in a part of the list
from_more : (rects more part : List Rect) (panel : ℕ) (to : Option (ℕ × Face)) → LeadsFrom rects (slice_get part panel) to → LeadsFrom (rects ++ more) (slice_get (part ++ more) panel) to
from_more rects more [] panel None leads = nowhere (rects ++ more) (slice_get more panel)
from_more rects more [] panel (Some to) leads = absurd leads
from_more rects more (rect ∷ part) zero to leads = among_more rects more rect to leads
from_more rects more (rect ∷ part) (suc panel) to leads = from_more rects more part panel to leads

-- with more rectangles each jump leads to a congruent one still
pub leads_more : (rects more : List Rect) (panel : ℕ) (to : Option (ℕ × Face)) → LeadsFrom rects (slice_get rects panel) to → LeadsFrom (rects ++ more) (slice_get (rects ++ more) panel) to
leads_more rects more panel to leads = from_more rects more rects panel to leads
