-- One more line of a text, and one more piece of a line.
use Rattle.std.proofs.Common.{◌≡◌, ℕ, ◌+◌, ◌-◌, ◌<◌, ◌≤◌, Bool, List, [], ◌∷◌, ◌++◌, length, take, drop, not, unwrap_or, Option, sym, refl, ap, ◌∙◌, arith, append_assoc}
use Rattle.std.specs.List.{slice_split, slice_get, position, position_or_len, before_first}
use Rattle.std.proofs.lemmas.List.{length-take-le, length-drop, drop-drop, take_all}
use Rattle.std.proofs.lemmas.List.Sums.{prefix_len-le-length}
use Rattle.smol_text.specs.declared.line.Span.{Span}
use Rattle.smol_text.specs.Lines.{is_line_feed, separates, words_in, raw_lines, uncommented}
use Rattle.smol_text.specs.Reading.{first_word}
use Rattle.smol_text.specs.Spans.{place_of_piece, places_of_pieces}
use Rattle.smol_text.proofs.Pieces.{unwrap_or-position, places-step, raw_lines-step, first_piece}

-- the first place that passes in the rest of a list
pub position_or_len-rest : (p : ℕ → Bool) (xs : List ℕ) (at n : ℕ) (found : Option ℕ) → found ≡ position p (take (length xs - at) (drop at xs)) → n ≡ unwrap_or found (length (take (length xs - at) (drop at xs))) → n ≡ position_or_len p (drop at xs)
position_or_len-rest p xs at n found is_found is_n =
    let whole : take (length xs - at) (drop at xs) ≡ drop at xs = take_all (length xs - at) (drop at xs) (omega (arith, length-drop at xs)) in
    is_n ∙ ap (λ o. unwrap_or o (length (take (length xs - at) (drop at xs)))) is_found ∙ ap (λ t. unwrap_or (position p t) (length t)) whole ∙ unwrap_or-position p (drop at xs)

-- one more line of a text
pub raw_lines-next : (bytes : List ℕ) (at n : ℕ) → at < length bytes → n ≡ position_or_len is_line_feed (drop at bytes) → raw_lines (drop at bytes) ≡ take n (drop at bytes) ∷ raw_lines (drop (at + n + 1) bytes)
raw_lines-next bytes at n within is_n =
    let xs = drop at bytes in
    let same : drop (n + 1) xs ≡ drop (at + n + 1) bytes = drop-drop (n + 1) at bytes ∙ ap (λ k. drop k bytes) (omega arith) in
    raw_lines-step xs (omega (arith, length-drop at bytes))
    ∙ ap (λ k. take k xs ∷ raw_lines (drop (k + 1) xs)) (sym is_n)
    ∙ ap (λ t. take n xs ∷ raw_lines t) same

-- the same, where the line is cut from its first byte to before its last
pub raw_lines-cut : (bytes : List ℕ) (at n : ℕ) → at < length bytes → n ≡ position_or_len is_line_feed (drop at bytes) → raw_lines (drop at bytes) ≡ take (at + n - at) (drop at bytes) ∷ raw_lines (drop (at + n + 1) bytes)
raw_lines-cut bytes at n within is_n =
    let size : n ≡ at + n - at = omega arith in
    raw_lines-next bytes at n within is_n ∙ ap (λ k. take k (drop at bytes) ∷ raw_lines (drop (at + n + 1) bytes)) size

-- a piece that has bytes is placed
pub place_of_piece-some : (at : ℕ) (piece : List ℕ) → 0 < length piece → place_of_piece at piece ≡ record { start = at; end = at + length piece } ∷ []
place_of_piece-some at [] some = absurd (omega arith)
place_of_piece-some at (b ∷ bs) some = refl

-- one more piece of a line is placed
pub places_of_pieces-step : (line : List ℕ) (at start n : ℕ) (before after : List Span) → n ≡ position_or_len separates (drop start line) → before ++ places_of_pieces (at + start) (slice_split separates (drop start line)) ≡ places_of_pieces at (slice_split separates line) → after ≡ before ++ place_of_piece (at + start) (take n (drop start line)) → after ++ places_of_pieces (at + (start + n + 1)) (slice_split separates (drop (start + n + 1) line)) ≡ places_of_pieces at (slice_split separates line)
places_of_pieces-step line at start n before after is_n so_far is_after =
    let xs = drop start line in
    let m = position_or_len separates xs in
    let further = places_of_pieces (at + (start + n + 1)) (slice_split separates (drop (start + n + 1) line)) in
    let same : drop (m + 1) xs ≡ drop (start + n + 1) line = ap (λ k. drop (k + 1) xs) (sym is_n) ∙ drop-drop (n + 1) start line ∙ ap (λ k. drop k line) (omega arith) in
    let places_same : at + start + m + 1 ≡ at + (start + n + 1) = omega arith in
    let step : places_of_pieces (at + start) (slice_split separates xs) ≡ place_of_piece (at + start) (take n xs) ++ further =
    places-step separates (at + start) xs
    ∙ ap (λ k. place_of_piece (at + start) (take k xs) ++ places_of_pieces (at + start + m + 1) (slice_split separates (drop (m + 1) xs))) (sym is_n)
    ∙ ap (λ k. place_of_piece (at + start) (take n xs) ++ places_of_pieces k (slice_split separates (drop (m + 1) xs))) places_same
    ∙ ap (λ t. place_of_piece (at + start) (take n xs) ++ places_of_pieces (at + (start + n + 1)) (slice_split separates t)) same in
    ap (λ t. t ++ further) is_after
    ∙ append_assoc before (place_of_piece (at + start) (take n xs)) further
    ∙ ap (λ t. before ++ t) (sym step)
    ∙ so_far

-- a piece from a place to below an end
pub place_of_piece-between : (line : List ℕ) (at start n : ℕ) → 0 < n → n ≡ position_or_len separates (drop start line) → place_of_piece (at + start) (take n (drop start line)) ≡ record { start = at + start; end = at + (start + n) } ∷ []
place_of_piece-between line at start n some is_n =
    let most : position_or_len separates (drop start line) ≤ length (drop start line) = prefix_len-le-length _ (drop start line) in
    let size : length (take n (drop start line)) ≡ n = length-take-le n (drop start line) (omega arith) in
    let end : at + start + length (take n (drop start line)) ≡ at + (start + n) = omega arith in
    place_of_piece-some (at + start) (take n (drop start line)) (omega arith)
    ∙ ap (λ k. record { start = at + start; end = k } ∷ []) end

-- the first word of a line, from where its first byte stands that separates no words to before the next separator
pub first_word-at : (line part : List ℕ) (start size : ℕ) → part ≡ uncommented line → start ≡ position_or_len (λ b. not (separates b)) part → size ≡ position_or_len separates (drop start part) → take size (take (length part - start) (drop start part)) ≡ first_word line
unfolding words_in
first_word-at line part start size is_part is_start is_size =
    let whole : take (length part - start) (drop start part) ≡ drop start part = take_all (length part - start) (drop start part) (omega (arith, length-drop start part)) in
    ap (take size) whole
    ∙ ap (λ k. take k (drop start part)) is_size
    ∙ ap (λ k. before_first separates (drop k part)) is_start
    ∙ sym (first_piece separates part)
    ∙ ap (λ xs. unwrap_or (slice_get (words_in xs) 0) []) is_part
