-- The sides of a reaction, word by word.
use Rattle.std.proofs.Common.{◌≡◌, ◌≢◌, ℕ, ◌+◌, ◌-◌, ◌<◌, ◌≤◌, min, ◌&&◌, Bool, true, false, nat_le, List, [], ◌∷◌, ◌++◌, length, drop, get_or, slice_range, None, Some, Result, Ok, Err, refl, sym, ap, ◌∙◌, inl, inr, arith, position, length-drop, get_or-drop, append_assoc, append-nil, drop-drop, take_all}
use Rattle.std.specs.List.{position_or_len}
use Rattle.std.proofs.lemmas.Bool.{cases_lt, lt-ltb, le-ltb}
use Rattle.std.proofs.lemmas.Bool.Decides.{nat_tests}
use Rattle.std.proofs.lemmas.List.Sums.{position_or_len_is}
use Rattle.smol_types.specs.declared.fault.Kind.{Kind}
use Rattle.smol_types.specs.declared.fault.Kind.TheVariants.{BadReaction}
use Rattle.smol_line.specs.Checks.{with_value}
use Rattle.smol_line.specs.SpeciesWord.{species_word_in}
use Rattle.smol_reactions.specs.Arrangement.{is_arrow, is_plus, is_sum, is_nothing, is_zero, is_right, is_rated, stands_for_species, stands_for_rate, summands, left_in, products_in, rated}
use Rattle.smol_reactions.specs.Reaction.{numbers_in}
use Rattle.smol_reactions.proofs.Parts.{part_none, part_one, part_two, part_front, part_last}

pub sum_none : (words : List (List ℕ)) (at end : ℕ) → at ≡ end → is_sum (slice_range words at end) ≡ false
sum_none words at end done = rw (done, part_none words end) refl

pub sum_last : (words : List (List ℕ)) (at end : ℕ) → at + 1 ≡ end → end ≤ length words → is_sum (slice_range words at end) ≡ stands_for_species (get_or words at [])
sum_last words at end last within = ap is_sum (part_one words at end [] last within)

pub sum_more : (words : List (List ℕ)) (at end : ℕ) → at + 1 < end → end ≤ length words → is_sum (slice_range words at end) ≡ (stands_for_species (get_or words at []) && is_plus (get_or words (at + 1) []) && is_sum (slice_range words (at + 2) end))
sum_more words at end more within = ap is_sum (part_two words at end [] more within)

-- words of a side are the single word `0` where there is one and it is that word
pub nothing_one : (words : List (List ℕ)) (at end : ℕ) → end - at ≡ 1 → end ≤ length words → is_nothing (slice_range words at end) ≡ is_zero (get_or words at [])
nothing_one words at end one within = ap is_nothing (part_one words at end [] (omega arith) within)

pub nothing_other : (words : List (List ℕ)) (at end : ℕ) → at ≤ end → end - at ≢ 1 → end ≤ length words → is_nothing (slice_range words at end) ≡ false
nothing_other words at end ordered other within =
    elim (cases_lt at end) [
      | inl begun ↦ ap is_nothing (part_two words at end [] (omega arith) within)
      | inr done ↦ let same : at ≡ end = omega arith in rw (same, part_none words end) refl
    ]

pub summands_none : (words : List (List ℕ)) (end : ℕ) → summands (slice_range words end end) ≡ []
summands_none words end = ap summands (part_none words end)

-- the species words from here on: this word, and those behind the next one
pub summands_more : (words : List (List ℕ)) (at end : ℕ) → at < end → end ≤ length words → summands (slice_range words at end) ≡ get_or words at [] ∷ summands (slice_range words (at + min (end - at) 2) end)
summands_more words at end begun within =
    elim (cases_lt (at + 1) end) [
      | inl more ↦
          let next : at + min (end - at) 2 ≡ at + 2 = omega arith in
          rw next (ap summands (part_two words at end [] more within))
      | inr last ↦
          let next : at + min (end - at) 2 ≡ end = omega arith in
          rw next (ap summands (part_one words at end [] (omega arith) within) ∙ ap (λ rest. get_or words at [] ∷ rest) (sym (summands_none words end)))
    ]

-- numbers behind these
abbrev pub numbers_behind : List ℕ → Result (List ℕ) Kind → Result (List ℕ) Kind
numbers_behind numbers rest = with_value rest (λ more. Ok (numbers ++ more))

behind_none : (rest : Result (List ℕ) Kind) → numbers_behind [] rest ≡ rest
behind_none (Ok more) = refl
behind_none (Err kind) = refl

-- at the start no numbers are read
pub numbers_begun : (species words : List (List ℕ)) → numbers_in species words ≡ numbers_behind [] (numbers_in species words)
numbers_begun species words = sym (behind_none (numbers_in species words))

one_behind : (numbers : List ℕ) (number : ℕ) (rest : Result (List ℕ) Kind) → numbers_behind numbers (with_value rest (λ more. Ok (number ∷ more))) ≡ numbers_behind (numbers ++ number ∷ []) rest
one_behind numbers number (Ok more) = ap Ok (sym (append_assoc numbers (number ∷ []) more))
one_behind numbers number (Err kind) = refl

-- a word that names a species adds its number
pub numbers_more : (species words : List (List ℕ)) (at end : ℕ) (numbers : List ℕ) (number : ℕ) → at < end → end ≤ length words → species_word_in species (get_or words at []) ≡ Ok number → numbers_behind numbers (numbers_in species (summands (slice_range words at end))) ≡ numbers_behind (numbers ++ number ∷ []) (numbers_in species (summands (slice_range words (at + min (end - at) 2) end)))
numbers_more species words at end numbers number begun within named =
    ap (λ list. numbers_behind numbers (numbers_in species list)) (summands_more words at end begun within)
    ∙ ap (λ found. numbers_behind numbers (with_value found (λ first. with_value (numbers_in species (summands (slice_range words (at + min (end - at) 2) end))) (λ more. Ok (first ∷ more))))) named
    ∙ one_behind numbers number (numbers_in species (summands (slice_range words (at + min (end - at) 2) end)))

-- a word that names none is at fault
pub numbers_fail : (species words : List (List ℕ)) (at end : ℕ) (numbers : List ℕ) (kind : Kind) → at < end → end ≤ length words → species_word_in species (get_or words at []) ≡ Err kind → numbers_behind numbers (numbers_in species (summands (slice_range words at end))) ≡ Err kind
numbers_fail species words at end numbers kind begun within unnamed =
    ap (λ list. numbers_behind numbers (numbers_in species list)) (summands_more words at end begun within)
    ∙ ap (λ found. numbers_behind numbers (with_value found (λ first. with_value (numbers_in species (summands (slice_range words (at + min (end - at) 2) end))) (λ more. Ok (first ∷ more))))) unnamed

position_at : {X : Type 0} (p : X → Bool) (xs : List X) (i : ℕ) → position_or_len p xs ≡ i → i < length xs → position p xs ≡ Some i
position_at p xs i is within = rw (is, lt-ltb i (length xs) within) refl

position_none : {X : Type 0} (p : X → Bool) (xs : List X) → position_or_len p xs ≡ length xs → position p xs ≡ None
position_none p xs is = rw (is, le-ltb (length xs) (length xs) (omega arith)) refl

-- the first arrow behind the name of a reaction
pub arrow_at : (words : List (List ℕ)) (at : ℕ) → 2 ≤ at → at < length words → ((k : ℕ) → k < at - 2 → is_arrow (get_or (drop 2 words) k []) ≡ false) → is_arrow (get_or words at []) ≡ true → position is_arrow (drop 2 words) ≡ Some (at - 2)
arrow_at words at behind within others arrow =
    let count : length (drop 2 words) ≡ length words - 2 = length-drop 2 words in
    let place : 2 + (at - 2) ≡ at = omega arith in
    let here : is_arrow (get_or (drop 2 words) (at - 2) []) ≡ true = ap is_arrow (get_or-drop 2 words (at - 2) [] ∙ ap (λ i. get_or words i []) place) ∙ arrow in
    position_at is_arrow (drop 2 words) (at - 2) (position_or_len_is is_arrow (drop 2 words) (at - 2) [] (omega arith) others (λ _. here)) (omega arith)

-- no word behind the name is an arrow
pub arrow_nowhere : (words : List (List ℕ)) (at : ℕ) → 2 ≤ at → length words ≤ at → ((k : ℕ) → k < at - 2 → is_arrow (get_or (drop 2 words) k []) ≡ false) → position is_arrow (drop 2 words) ≡ None
arrow_nowhere words at behind end others =
    let count : length (drop 2 words) ≡ length words - 2 = length-drop 2 words in
    position_none is_arrow (drop 2 words) (position_or_len_is is_arrow (drop 2 words) (length (drop 2 words)) [] (omega arith) (λ k below. others k (omega arith)) (λ past. absurd (omega arith)))

-- a side is rated where all its words but the last are a right side and that one is a rate
pub rated_is : (words : List (List ℕ)) (start end : ℕ) → start < end → end ≤ length words → is_rated (slice_range words start end) ≡ (is_right (slice_range words start (end - 1)) && stands_for_rate (get_or words (end - 1) []))
rated_is words start end begun within =
    rw (part_front words start end begun within, part_last words start end [] begun within) refl

-- the words of a rated side are those before the last one, which is the rate
pub rated_words : (words : List (List ℕ)) (start end : ℕ) → start < end → end ≤ length words → rated (slice_range words start end) ≡ record { products = products_in (slice_range words start (end - 1)); rate = Some (get_or words (end - 1) []) }
rated_words words start end begun within =
    rw (part_front words start end begun within, part_last words start end [] begun within) refl

-- the words behind an arrow are the rest of the line
pub right_words : (words : List (List ℕ)) (arrow : ℕ) → 2 ≤ arrow → arrow < length words → drop (arrow - 2 + 1) (drop 2 words) ≡ slice_range words (arrow + 1) (length words)
right_words words arrow behind within =
    let place : 2 + (arrow - 2 + 1) ≡ arrow + 1 = omega arith in
    let count : length (drop (arrow + 1) words) ≡ length words - (arrow + 1) = length-drop (arrow + 1) words in
    drop-drop (arrow - 2 + 1) 2 words
    ∙ ap (λ n. drop n words) place
    ∙ sym (take_all (length words - (arrow + 1)) (drop (arrow + 1) words) (omega arith))

pub left_bad : (words : List (List ℕ)) → is_nothing words ≡ false → (is_sum words && nat_le (length words) 3) ≡ false → left_in words ≡ Err BadReaction
unfolding left_in
left_bad words other bad = rw (other, bad) refl

-- more than three words are no left side
pub too_many_words : (b : Bool) (count : ℕ) → 3 < count → (b && nat_le count 3) ≡ false
too_many_words true count past = grind (arith, nat_tests)
too_many_words false count past = refl

-- at the end all numbers are read
pub numbers_end : (species words : List (List ℕ)) (at end : ℕ) (numbers : List ℕ) → at ≡ end → numbers_behind numbers (numbers_in species (summands (slice_range words at end))) ≡ Ok numbers
numbers_end species words at end numbers done =
    rw (done, summands_none words end, append-nil numbers) refl
