-- What faces make of species, by lines without a fault, is a species that there is.
use Rattle.std.proofs.Common.{◌≡◌, ℕ, suc, ◌+◌, ◌<◌, ◌≤◌, ◌&&◌, ◌||◌, ◌==◌, Bool, true, false, List, [], ◌∷◌, length, Option, None, Some, Result, Ok, IfSome, refl, ap, arith, subst, if◌then◌else◌}
use Rattle.std.proofs.lemmas.List.Elements.{All-cons, All-nil, All-weaker}
use Rattle.smol_text.specs.Reading.{Stated, words_of}
use Rattle.smol_types.specs.declared.fault.Kind.{Kind}
use Rattle.smol_types.specs.declared.fault.Kind.TheVariants.{BadAction, WrongWordCount}
use Rattle.smol_types.specs.declared.surface.Action.{Action}
use Rattle.smol_types.specs.declared.surface.Face.{Face}
use Rattle.smol_types.specs.declared.surface.Face.TheVariants.{Front, Back}
use Rattle.smol_types.specs.declared.surface.Surface.{Surface as TheSurface}
use Rattle.smol_types.specs.Surfaces.{AreChanges, IsSurface}
use Rattle.smol_line.specs.Checks.{passing, unless, with_value}
use Rattle.smol_line.specs.SpeciesWord.{chosen_in, is_chosen, species_word_in}
use Rattle.smol_line.specs.Words.{word_at}
use Rattle.smol_line.proofs.Passing.{held, same_value, valued}
use Rattle.smol_line.proofs.Ranges.{species_word_in-within}
use Rattle.smol_blocks.specs.declared.action.Acting.{Acting}
use Rattle.smol_blocks.specs.Action.{action_in, action_named, may_change, new_in}
use Rattle.smol_blocks.specs.BlocksSound.{ChangeWithin}
use Rattle.smol_blocks.specs.Faces.{faces_in, other_word}
use Rattle.smol_blocks.specs.Surface.{SurfaceSaid, acts, Known, actions_from, changes_from, changing_on, means_face, surface_of}

-- a species of so many, where there is one
abbrev IsWithin : ℕ → Option ℕ → Type 0
IsWithin count new = IfSome new (λ number. number < count)

-- the species that the fifth word names, by the test that there is one
new_within : (five : Bool) (species : List (List ℕ)) (action : Action) (line : Stated) (new : Option ℕ)
    → (if five then passing (unless (may_change action) BadAction ∷ []) (with_value (species_word_in species (word_at line 4)) (λ number. Ok (Some number))) else Ok None) ≡ Ok new → IsWithin (length species) new
new_within true species action line new is =
    let may = held (may_change action) BadAction [] _ new is in
    let number = valued (species_word_in species (word_at line 4)) _ new may.1 in
    subst (IsWithin (length species)) (same_value (Some number.0) new number.2) (species_word_in-within species (word_at line 4) number.0 number.1)
new_within false species action line new is = subst (IsWithin (length species)) (same_value None new is) tt

-- and so what a line says is made of species is one of them
pub acting_within : (species : List (List ℕ)) (line : Stated) (acting : Acting) → action_in species line ≡ Ok acting → IsWithin (length species) acting.new
unfolding action_in new_in
acting_within species line acting is =
    let words = held ((length (words_of line) == 4) || (length (words_of line) == 5)) WrongWordCount [] _ acting is in
    let faces = valued (faces_in (word_at line 1) (word_at line 2)) _ acting words.1 in
    let who = valued (chosen_in species (other_word (word_at line 1) (word_at line 2))) _ acting faces.2 in
    let action = valued (action_named (word_at line 3)) _ acting who.2 in
    let new = valued (new_in species action.0 line) _ acting action.2 in
    let made : Acting = record { faces = faces.0; who = who.0; action = action.0; new = new.0 } in
    subst (λ (acting : Acting). IsWithin (length species) acting.new) (same_value made acting new.2)
    (new_within (length (words_of line) == 5) species action.0 line new.0 new.1)

-- the one or the other
chosen_within : (first : Bool) (count : ℕ) (new older : Option ℕ) → IsWithin count new → IsWithin count older → IsWithin count (if first then new else older)
chosen_within true count new older here before = here
chosen_within false count new older here before = before

-- an action more
pub acts_within : (species_count : ℕ) (lines : List SurfaceSaid) (acting : Acting) → IsWithin species_count acting.new → ChangeWithin species_count lines → ChangeWithin species_count (acts acting ∷ lines)
acts_within species_count lines acting here before one species =
    chosen_within (means_face acting.faces one && is_chosen species acting.who) species_count acting.new (changing_on one species lines) here (before one species)

-- it is so of each species from a number on
changes_within : (species_count : ℕ) (one : Face) (number : ℕ) (names : List (List ℕ)) (lines : List SurfaceSaid) → ChangeWithin species_count lines → AreChanges species_count (changes_from one number names lines)
changes_within species_count one number [] lines within = All-nil (IsWithin species_count)
changes_within species_count one number (name ∷ names) lines within =
    All-cons (IsWithin species_count) (changing_on one number lines) (changes_from one (number + 1) names lines) (within one number)
    (changes_within species_count one (number + 1) names lines within)

-- there are as many entries for what becomes of species as for what is done to them
same_count : (one : Face) (number : ℕ) (names : List (List ℕ)) (lines : List SurfaceSaid) → length (changes_from one number names lines) ≡ length (actions_from one number names lines)
same_count one number [] lines = refl
same_count one number (name ∷ names) lines = ap suc (same_count one (number + 1) names lines)

-- the surface of a block
pub surface_sound : (known : Known) (lines : List SurfaceSaid) → ChangeWithin (length known.species) lines → IsSurface (length known.species) (surface_of known lines)
unfolding surface_of
surface_sound known lines within = record {
  front_count = same_count Front 0 known.species lines;
  back_count = same_count Back 0 known.species lines;
  front_new = changes_within (length known.species) Front 0 known.species lines within;
  back_new = changes_within (length known.species) Back 0 known.species lines within;
}

-- a species of so many is one of more
pub change_wider : (count wider : ℕ) (new : Option ℕ) → count ≤ wider → IsWithin count new → IsWithin wider new
change_wider count wider None further within = tt
change_wider count wider (Some number) further within = omega (arith, further, within)

-- more species leave a surface sound
pub surface_wider : (count wider : ℕ) → count ≤ wider → (surface : TheSurface) → IsSurface count surface → IsSurface wider surface
surface_wider count wider further surface sound =
    let each = λ (new : Option ℕ). change_wider count wider new further in
    record {
      front_count = sound.front_count;
      back_count = sound.back_count;
      front_new = All-weaker (IsWithin count) (IsWithin wider) each surface.front_new sound.front_new;
      back_new = All-weaker (IsWithin count) (IsWithin wider) each surface.back_new sound.back_new;
    }
