-- Names of species, one after another.
use Rattle.std.proofs.Common.{◌≡◌, ◌+◌, ◌-◌, ◌<◌, ◌≤◌, ◌&&◌, ℕ, zero, suc, Bool, true, false, ℤ, List, [], ◌∷◌, ◌++◌, length, take, drop, get_or, arith, refl, sym, ap, ◌∙◌}
use Rattle.std.specs.List.{list_all}
use Rattle.std.proofs.lemmas.Grind.{get_or_after_one}
use Rattle.std.proofs.lemmas.List.{drop_more, take_more, length-drop}
use Rattle.smol_config.specs.declared.motion.Motion.{Motion}
use Rattle.smol_config.specs.Said.{Said}
use Rattle.smol_config.specs.Motion.{still, difstep_of, motion_of}
use Rattle.smol_config.specs.Content.{species_from}
use Rattle.smol_config.specs.Tables.{species_made}

-- a word behind the first one
word_behind : (words : List (List ℕ)) (i : ℕ) → 1 ≤ i → get_or (drop 1 words) (i - 1) [] ≡ get_or words i []
word_behind words i first =
    let place : 1 + (i - 1) ≡ i = omega arith in
    get_or_after_one words (i - 1) [] ∙ ap (λ k. get_or words k []) place

size_behind : (words : List (List ℕ)) (i : ℕ) → 1 ≤ i → i < length words → i - 1 < length (drop 1 words)
size_behind words i first within = let size = length-drop 1 words in omega (arith, size)

-- the words from a place on, of those behind the first one
pub words_from : (words : List (List ℕ)) (i : ℕ) (word : List ℕ) → 1 ≤ i → i < length words → word ≡ get_or words i [] → drop (i - 1) (drop 1 words) ≡ word ∷ drop (i + 1 - 1) (drop 1 words)
words_from words i word first within is =
    let place : i - 1 + 1 ≡ i + 1 - 1 = omega arith in
    drop_more (drop 1 words) (i - 1) [] (size_behind words i first within)
    ∙ ap (λ w. w ∷ drop (i - 1 + 1) (drop 1 words)) (word_behind words i first ∙ sym is)
    ∙ ap (λ k. word ∷ drop k (drop 1 words)) place

-- the words to a place, with one more
pub words_to : (words : List (List ℕ)) (i : ℕ) (word : List ℕ) → 1 ≤ i → i < length words → word ≡ get_or words i [] → take (i + 1 - 1) (drop 1 words) ≡ take (i - 1) (drop 1 words) ++ word ∷ []
words_to words i word first within is =
    let place : i + 1 - 1 ≡ i - 1 + 1 = omega arith in
    ap (λ k. take k (drop 1 words)) place
    ∙ take_more (drop 1 words) (i - 1) [] (size_behind words i first within)
    ∙ ap (λ w. take (i - 1) (drop 1 words) ++ w ∷ []) (word_behind words i first ∙ sym is)

-- a species more that stands still moves as one that isn't there
pub pushed_still : (motions : List Motion) (number : ℕ) → get_or (motions ++ still ∷ []) number still ≡ get_or motions number still
pushed_still [] zero = refl
pushed_still [] (suc number) = refl
pushed_still (first ∷ motions) zero = refl
pushed_still (first ∷ motions) (suc number) = pushed_still motions number

-- the species from a number on, with the one of this number first
pub made_from : (time : ℤ) (motions : List Motion) (names : List (List ℕ)) (number : ℕ) (name : List ℕ) → drop number names ≡ name ∷ drop (number + 1) names → species_made time motions number (drop number names) ≡ record { name = name; step = difstep_of time (get_or motions number still) } ∷ species_made time motions (number + 1) (drop (number + 1) names)
made_from time motions names number name is = ap (species_made time motions number) is

-- where motions are what the lines say, so are the species
pub species_are : (time : ℤ) (before : List Said) (motions : List Motion) → ((k : ℕ) → get_or motions k still ≡ motion_of k before) → (number : ℕ) (names : List (List ℕ)) → species_made time motions number names ≡ species_from time before number names
species_are time before motions same number [] = refl
species_are time before motions same number (name ∷ names) = rw (same number, species_are time before motions same (number + 1) names) refl

-- one that fails its test is enough
pub list_all-failed : {X : Type 0} (test : X → Bool) (xs ys : List X) (x : X) → test x ≡ false → list_all test (xs ++ x ∷ ys) ≡ false
list_all-failed test [] ys x fails = rw fails refl
list_all-failed test (y ∷ xs) ys x fails = ap (λ b. test y && b) (list_all-failed test xs ys x fails) ∙ and_false (test y)
  where
    and_false : (b : Bool) → (b && false) ≡ false
    and_false true = refl
    and_false false = refl

-- and one more that passes keeps all passing
pub list_all-passed : {X : Type 0} (test : X → Bool) (xs : List X) (x : X) → list_all test xs ≡ true → test x ≡ true → list_all test (xs ++ x ∷ []) ≡ true
list_all-passed test [] x all passes = rw passes refl
list_all-passed test (y ∷ xs) x all passes = both (test y) (list_all test xs) _ all (λ rest. list_all-passed test xs x rest passes)
  where
    both : (a b c : Bool) → (a && b) ≡ true → (b ≡ true → c ≡ true) → (a && c) ≡ true
    both true b c h on = on h
    both false b c h on = absurd cc
