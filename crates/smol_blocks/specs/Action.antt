-- `action W1 W2 ACTION [NEW]`: what faces of a surface's panels do to species, and what they make of them. One of W1 and W2 names the
-- faces, and the other one the species.
use Rattle.std.specs.Prelude.{ℕ, ◌||◌, ◌==◌, Bool, true, false, List, [], ◌∷◌, length, Option, None, Some, Result, Ok, Err, if◌then◌else◌, codes}
use Rattle.std.specs.Str.{bytes_eq}
use Rattle.smol_text.specs.Reading.{Stated, words_of}
use Rattle.smol_types.specs.declared.fault.Kind.{Kind}
use Rattle.smol_types.specs.declared.fault.Kind.TheVariants.{BadAction, WrongWordCount}
use Rattle.smol_types.specs.declared.surface.Action.{Action as TheAction}
use Rattle.smol_types.specs.declared.surface.Action.TheVariants.{Reflect, Absorb, Jump, Transmit}
use Rattle.smol_line.specs.Words.{word_at}
use Rattle.smol_line.specs.Checks.{unless, passing, with_value}
use Rattle.smol_line.specs.SpeciesWord.{chosen_in, species_word_in}
use Rattle.smol_blocks.specs.declared.action.Acting.{Acting}
use Rattle.smol_blocks.specs.Faces.{faces_in, other_word}

-- what a face does, by its name or the first letter of it
unfoldable pub action_named : List ℕ → Result TheAction Kind
action_named word =
    if bytes_eq word (codes "reflect") || bytes_eq word (codes "r")
    then Ok Reflect
    else (if bytes_eq word (codes "absorb") || bytes_eq word (codes "a")
    then Ok Absorb
    else (if bytes_eq word (codes "transmit") || bytes_eq word (codes "t")
    then Ok Transmit
    else (if bytes_eq word (codes "jump") || bytes_eq word (codes "j") then Ok Jump else Err BadAction)))

-- whether a molecule is left to be made into something by a face that does this
abbrev pub may_change : TheAction → Bool
may_change Reflect = true
may_change Absorb = false
may_change Jump = true
may_change Transmit = true

-- the species that a face makes of those on which it does this: the one of these that the fifth word names, where there is one
unfoldable pub new_in : List (List ℕ) → TheAction → Stated → Result (Option ℕ) Kind
new_in species action line =
    if length (words_of line) == 5
    then passing (unless (may_change action) BadAction ∷ []) (with_value (species_word_in species (word_at line 4)) (λ number. Ok (Some number)))
    else Ok None

-- a line has four words, or five
abbrev pub action_words : Stated → Option Kind
action_words line = unless ((length (words_of line) == 4) || (length (words_of line) == 5)) WrongWordCount

-- what a line says of these species
unfoldable pub action_in : List (List ℕ) → Stated → Result Acting Kind
action_in species line =
    passing (action_words line ∷ [])
    (with_value (faces_in (word_at line 1) (word_at line 2)) (λ faces.
    with_value (chosen_in species (other_word (word_at line 1) (word_at line 2))) (λ who.
    with_value (action_named (word_at line 3)) (λ action.
    with_value (new_in species action line) (λ new.
    Ok (record { faces = faces; who = who; action = action; new = new }))))))
