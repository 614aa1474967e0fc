-- The first word of a part of a line, and the words behind it.
use Rattle.std.proofs.Common.{◌≡◌, ℕ, suc, ◌-◌, ◌<◌, ◌≤◌, Bool, true, false, cond, not, ltb, List, [], ◌∷◌, length, take, drop, unwrap_or, Some, None, sym, refl, ap, ◌∙◌, arith}
use Rattle.std.specs.List.{slice_split, filter, position, position_or_len}
use Rattle.std.proofs.lemmas.Bool.{ltb-true}
use Rattle.std.proofs.lemmas.List.{length-drop, take_all}
use Rattle.std.proofs.Math.Numerals.{one-add}
use Rattle.smol_text.specs.Lines.{separates, has_bytes, words_in}
use Rattle.smol_text.proofs.Pieces.{unwrap_or-position}

-- what a list is cut into, from its first piece on
split_at_of : (p : ℕ → Bool) (x : ℕ) (xs : List ℕ) (passes : Bool) → p x ≡ passes → ((rest : List (List ℕ)) × (slice_split p xs ≡ take (position_or_len p xs) xs ∷ rest) × (filter has_bytes rest ≡ filter has_bytes (slice_split p (drop (position_or_len p xs) xs)))) → (rest : List (List ℕ)) × (slice_split p (x ∷ xs) ≡ take (position_or_len p (x ∷ xs)) (x ∷ xs) ∷ rest) × (filter has_bytes rest ≡ filter has_bytes (slice_split p (drop (position_or_len p (x ∷ xs)) (x ∷ xs))))
split_at_of p x xs true is h = (slice_split p xs, rw is refl, simp (is))
split_at_of p x xs false is h = (h.0, rw (is, h.1, one-add) refl, rw (is, one-add) h.2)

split_at : (p : ℕ → Bool) (xs : List ℕ) → (rest : List (List ℕ)) × (slice_split p xs ≡ take (position_or_len p xs) xs ∷ rest) × (filter has_bytes rest ≡ filter has_bytes (slice_split p (drop (position_or_len p xs) xs)))
split_at p [] = ([], refl, refl)
split_at p (x ∷ xs) = split_at_of p x xs (p x) refl (split_at p xs)

-- a first word that has a byte
first_word_here : (x : ℕ) (xs : List ℕ) → separates x ≡ false → words_in (x ∷ xs) ≡ take (position_or_len separates (x ∷ xs)) (x ∷ xs) ∷ words_in (drop (position_or_len separates (x ∷ xs)) (x ∷ xs))
unfolding words_in
first_word_here x xs is =
    let cut = split_at separates (x ∷ xs) in
    let front : take (position_or_len separates (x ∷ xs)) (x ∷ xs) ≡ x ∷ take (position_or_len separates xs) xs = rw (is, one-add) refl in
    ap (filter has_bytes) cut.1
    ∙ ap (λ t. filter has_bytes (t ∷ cut.0)) front
    ∙ ap (λ t. (x ∷ take (position_or_len separates xs) xs) ∷ t) cut.2
    ∙ ap (λ t. t ∷ filter has_bytes (slice_split separates (drop (position_or_len separates (x ∷ xs)) (x ∷ xs)))) (sym front)

abbrev word_byte : ℕ → Bool
word_byte b = not (separates b)

behind_separator : (x : ℕ) (xs : List ℕ) → separates x ≡ true → words_in (x ∷ xs) ≡ words_in xs
unfolding words_in
behind_separator x xs is = rw is refl

step_of : (x : ℕ) (xs : List ℕ) (passes : Bool) → separates x ≡ passes → (let at = position_or_len word_byte xs in at < length xs → words_in xs ≡ take (position_or_len separates (drop at xs)) (drop at xs) ∷ words_in (drop (position_or_len separates (drop at xs)) (drop at xs))) → (let at = position_or_len word_byte (x ∷ xs) in at < length (x ∷ xs) → words_in (x ∷ xs) ≡ take (position_or_len separates (drop at (x ∷ xs))) (drop at (x ∷ xs)) ∷ words_in (drop (position_or_len separates (drop at (x ∷ xs))) (drop at (x ∷ xs))))
step_of x xs true is h =
    let at : position_or_len word_byte (x ∷ xs) ≡ suc (position_or_len word_byte xs) = rw (is, one-add) refl in
    λ within. rw at (behind_separator x xs is ∙ h (omega (arith, at)))
step_of x xs false is h =
    let at : position_or_len word_byte (x ∷ xs) ≡ 0 = rw is refl in
    λ within. rw at (first_word_here x xs is)

-- the first word stands from the first byte on that separates none, up to the next separator
words-step : (xs : List ℕ) → (let at = position_or_len word_byte xs in at < length xs → words_in xs ≡ take (position_or_len separates (drop at xs)) (drop at xs) ∷ words_in (drop (position_or_len separates (drop at xs)) (drop at xs)))
words-step [] = λ within. absurd (omega arith)
words-step (x ∷ xs) = step_of x xs (separates x) refl (words-step xs)

none_of : (x : ℕ) (xs : List ℕ) (passes : Bool) → separates x ≡ passes → (length xs ≤ position_or_len word_byte xs → words_in xs ≡ []) → length (x ∷ xs) ≤ position_or_len word_byte (x ∷ xs) → words_in (x ∷ xs) ≡ []
none_of x xs true is h past =
    let at : position_or_len word_byte (x ∷ xs) ≡ suc (position_or_len word_byte xs) = rw (is, one-add) refl in
    behind_separator x xs is ∙ h (omega (arith, at, past))
none_of x xs false is h past =
    let at : position_or_len word_byte (x ∷ xs) ≡ 0 = rw is refl in
    absurd (omega (arith, at, past))

none_here : (xs : List ℕ) → length xs ≤ position_or_len word_byte xs → words_in xs ≡ []
unfolding words_in
none_here [] past = refl
none_here (x ∷ xs) past = none_of x xs (separates x) refl (none_here xs) past

-- no word, where each byte separates words
pub no_words : (part : List ℕ) → None ≡ position (λ byte. not (separates byte)) part → words_in part ≡ []
no_words part none =
    let whole : length part ≡ position_or_len word_byte part = ap (λ o. unwrap_or o (length part)) none ∙ unwrap_or-position word_byte part in
    none_here part (omega (arith, whole))

found_within : (n size start : ℕ) (b : Bool) → ltb n size ≡ b → Some start ≡ (cond b (Some n) None) → (start ≡ n) × (n < size)
found_within n size start true is found = (let same : start ≡ n = cc in same, ltb-true n size is)
found_within n size start false is found = absurd (let no : Some start ≡ None = found in cc)

-- the first word and those behind it, where the rest is cut from its first byte on
pub words-cut : (part : List ℕ) (start size : ℕ) → Some start ≡ position (λ byte. not (separates byte)) part → size ≡ position_or_len separates (drop start part) → words_in part ≡ take size (take (length part - start) (drop start part)) ∷ words_in (take (length (take (length part - start) (drop start part)) - size) (drop size (take (length part - start) (drop start part))))
words-cut part start size is_start is_size =
    let n = position_or_len word_byte part in
    let found = found_within n (length part) start (ltb n (length part)) refl is_start in
    let rest = drop start part in
    let whole : take (length part - start) rest ≡ rest = take_all (length part - start) rest (omega (arith, length-drop start part)) in
    let behind : take (length rest - size) (drop size rest) ≡ drop size rest = take_all (length rest - size) (drop size rest) (omega (arith, length-drop size rest)) in
    words-step part found.1
    ∙ ap (λ k. take (position_or_len separates (drop k part)) (drop k part) ∷ words_in (drop (position_or_len separates (drop k part)) (drop k part))) (sym found.0)
    ∙ ap (λ k. take k rest ∷ words_in (drop k rest)) (sym is_size)
    ∙ ap (λ t. take size rest ∷ words_in t) (sym behind)
    ∙ ap (λ t. take size t ∷ words_in (take (length t - size) (drop size t))) (sym whole)
