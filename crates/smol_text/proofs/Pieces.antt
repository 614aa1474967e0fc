-- The first piece of a list, and the pieces after it.
use Rattle.std.proofs.Common.{◌≡◌, ℕ, ◌+◌, ◌<◌, ◌≤◌, Bool, true, false, not, ltb, List, [], ◌∷◌, ◌++◌, length, take, drop, unwrap_or, Some, None, sym, refl, ap, ◌∙◌, inl, inr, arith}
use Rattle.std.specs.List.{slice_split, position, position_or_len, before_first, filter, slice_get}
use Rattle.std.proofs.lemmas.Bool.{cond_both, ltb-false, cases_lt}
use Rattle.std.proofs.lemmas.List.{length-take-le, take_all}
use Rattle.std.proofs.lemmas.List.Sums.{prefix_len-le-length, fails_before_first}
use Rattle.std.proofs.lemmas.List.Splits.{slice_split_first, slice_split_none, length-slice_split}
use Rattle.std.proofs.lemmas.List.Elements.{All-from_get_or}
use Rattle.std.proofs.Math.ListN.{drop_of_length-le}
use Rattle.std.proofs.Math.Numerals.{one-add}
use Rattle.smol_text.specs.Lines.{is_line_feed, without_empty_last, raw_lines, has_bytes}
use Rattle.smol_text.specs.Spans.{place_of_piece, places_of_pieces}

-- the first place that passes, or the length where none does, is that of `position`
pub unwrap_or-position : (p : ℕ → Bool) (xs : List ℕ) → unwrap_or (position p xs) (length xs) ≡ position_or_len p xs
unwrap_or-position p xs =
    let n = position_or_len p xs in
    let most : n ≤ length xs = prefix_len-le-length (λ x. not (p x)) xs in
    cond_both (ltb n (length xs)) (Some n) None (λ o. unwrap_or o (length xs) ≡ n)
    (λ _. refl)
    (λ past. let least : length xs ≤ n = ltb-false n (length xs) past in
    let same : length xs ≡ n = omega arith in same)

-- where nothing passes there is one piece
slice_split-whole : (p : ℕ → Bool) (xs : List ℕ) → length xs ≤ position_or_len p xs → slice_split p xs ≡ xs ∷ []
slice_split-whole p xs none =
    slice_split_none p xs (All-from_get_or (λ x. p x ≡ false) xs 0 (λ i within. fails_before_first p xs i 0 (omega arith)))

-- the places of the first piece, and those of the pieces after it
pub places-step : (p : ℕ → Bool) (at : ℕ) (xs : List ℕ) → places_of_pieces at (slice_split p xs) ≡ place_of_piece at (take (position_or_len p xs) xs) ++ places_of_pieces (at + position_or_len p xs + 1) (slice_split p (drop (position_or_len p xs + 1) xs))
places-step p at xs =
    let n = position_or_len p xs in
    let split = λ (first rest : List ℕ). place_of_piece at first ++ places_of_pieces (at + n + 1) (slice_split p rest) in
    elim (cases_lt n (length xs)) [
      | inl within ↦
          let size : length (take n xs) ≡ n = length-take-le n xs (omega arith) in
          ap (places_of_pieces at) (slice_split_first p xs 0 within)
          ∙ ap (λ k. place_of_piece at (take n xs) ++ places_of_pieces (at + k + 1) (slice_split p (drop (n + 1) xs))) size
      | inr past ↦
          let first : take n xs ≡ xs = take_all n xs past in
          let rest : drop (n + 1) xs ≡ [] = drop_of_length-le xs (omega arith) in
          ap (places_of_pieces at) (slice_split-whole p xs past)
          ∙ sym (ap (λ t. split t (drop (n + 1) xs)) first ∙ ap (split xs) rest)
    ]

-- a piece that others follow isn't the last
without_empty_last-cons : (piece : List ℕ) (pieces : List (List ℕ)) → 0 < length pieces → without_empty_last (piece ∷ pieces) ≡ piece ∷ without_empty_last pieces
without_empty_last-cons [] [] some = absurd (omega arith)
without_empty_last-cons [] (q ∷ qs) some = refl
without_empty_last-cons (b ∷ bs) pieces some = refl

-- a last piece that has bytes stays
without_empty_last-one : (piece : List ℕ) → 0 < length piece → without_empty_last (piece ∷ []) ≡ piece ∷ []
without_empty_last-one [] some = absurd (omega arith)
without_empty_last-one (b ∷ bs) some = refl

slice_split-first_of : (p : ℕ → Bool) (x : ℕ) (xs : List ℕ) (passes : Bool) → p x ≡ passes → ((rest : List (List ℕ)) × (slice_split p xs ≡ before_first p xs ∷ rest)) → (rest : List (List ℕ)) × (slice_split p (x ∷ xs) ≡ before_first p (x ∷ xs) ∷ rest)
slice_split-first_of p x xs true is h = (slice_split p xs, rw is refl)
slice_split-first_of p x xs false is h = (h.0, rw (is, h.1, one-add) refl)

-- the first piece is what stands before the first element that passes
slice_split-first : (p : ℕ → Bool) (xs : List ℕ) → (rest : List (List ℕ)) × (slice_split p xs ≡ before_first p xs ∷ rest)
slice_split-first p [] = ([], refl)
slice_split-first p (x ∷ xs) = slice_split-first_of p x xs (p x) refl (slice_split-first p xs)

first_piece_of : (p : ℕ → Bool) (x : ℕ) (xs : List ℕ) (passes : Bool) → p x ≡ passes → unwrap_or (slice_get (filter has_bytes (slice_split p xs)) 0) [] ≡ before_first p (drop (position_or_len (λ b. not (p b)) xs) xs) → unwrap_or (slice_get (filter has_bytes (slice_split p (x ∷ xs))) 0) [] ≡ before_first p (drop (position_or_len (λ b. not (p b)) (x ∷ xs)) (x ∷ xs))
first_piece_of p x xs true is h = simp (is, one-add) h
first_piece_of p x xs false is h = let first = slice_split-first p xs in simp (is, first.1, one-add)

-- the first piece that isn't empty stands behind the elements that pass
pub first_piece : (p : ℕ → Bool) (xs : List ℕ) → unwrap_or (slice_get (filter has_bytes (slice_split p xs)) 0) [] ≡ before_first p (drop (position_or_len (λ b. not (p b)) xs) xs)
first_piece p [] = refl
first_piece p (x ∷ xs) = first_piece_of p x xs (p x) refl (first_piece p xs)

-- the first line, and the lines after it
pub raw_lines-step : (xs : List ℕ) → 0 < length xs → raw_lines xs ≡ take (position_or_len is_line_feed xs) xs ∷ raw_lines (drop (position_or_len is_line_feed xs + 1) xs)
raw_lines-step xs some =
    let n = position_or_len is_line_feed xs in
    elim (cases_lt n (length xs)) [
      | inl within ↦
          let more = length-slice_split is_line_feed (drop (n + 1) xs) in
          ap without_empty_last (slice_split_first is_line_feed xs 0 within)
          ∙ without_empty_last-cons (take n xs) (slice_split is_line_feed (drop (n + 1) xs)) (omega arith)
      | inr past ↦
          let first : take n xs ≡ xs = take_all n xs past in
          let rest : drop (n + 1) xs ≡ [] = drop_of_length-le xs (omega arith) in
          ap without_empty_last (slice_split-whole is_line_feed xs past)
          ∙ without_empty_last-one xs some
          ∙ sym (ap (λ t. t ∷ raw_lines (drop (n + 1) xs)) first ∙ ap (λ t. xs ∷ raw_lines t) rest)
    ]
