-- Each word is what the text has at the word's place.
use Rattle.std.proofs.Common.{◌≡◌, ℕ, suc, ◌+◌, ◌-◌, ◌<◌, ◌≤◌, Bool, true, false, List, [], ◌∷◌, ◌++◌, length, take, drop, map, filter, sym, refl, ap, ◌∙◌, subst, arith}
use Rattle.std.specs.List.{slice_split, onto_first, position_or_len, All}
use Rattle.std.proofs.lemmas.Bool.{cond_both}
use Rattle.std.proofs.lemmas.List.{length-drop, drop-drop, take-take, length-take-le, take-append-drop, append-nil}
use Rattle.std.proofs.lemmas.List.Elements.{All-nil, All-cons, All-append}
use Rattle.std.proofs.lemmas.List.Sums.{prefix_len-le-length, sum_by-cons}
use Rattle.smol_text.specs.declared.line.Span.{Span}
use Rattle.smol_text.specs.Lines.{begins_comment, is_line_feed, separates, without_empty_last, has_bytes, raw_lines, uncommented, words, words_in}
use Rattle.smol_text.specs.Reading.{is_read, stated_if}
use Rattle.smol_text.specs.Spans.{slice_of, IsWithin, AllWithin, IsSpelled, places_of_pieces, places, part_place, placed_if, placed_at, start_of, stated_at, lines_from, lines_of}

-- the pieces stand in the text, the first one at `at`, with one byte between each two
abbrev pub StandAt : List ℕ → ℕ → List (List ℕ) → Type 0
StandAt text at [] = Unit {0}
StandAt text at (piece ∷ pieces) = (take (length piece) (drop at text) ≡ piece) × (at + length piece ≤ length text) × StandAt text (at + length piece + 1) pieces

-- a byte in front of the first piece
StandAt-onto_first : (text : List ℕ) (at b : ℕ) (pieces : List (List ℕ)) → drop at text ≡ b ∷ drop (at + 1) text → at < length text → StandAt text (at + 1) pieces → StandAt text at (onto_first b pieces)
StandAt-onto_first text at b [] here within h = (rw here refl, omega arith, tt)
StandAt-onto_first text at b (q ∷ qs) here within h =
    (rw here (ap (λ t. b ∷ t) h.0), omega (arith, h.1), subst (λ n. StandAt text n qs) (omega arith) h.2)

-- what a list is cut into stands where the list does
pub StandAt-slice_split : (p : ℕ → Bool) (text : List ℕ) (at : ℕ) (xs post : List ℕ) → drop at text ≡ xs ++ post → at ≤ length text → StandAt text at (slice_split p xs)
StandAt-slice_split p text at [] post here within = (refl, omega arith, tt)
StandAt-slice_split p text at (x ∷ xs) post here within =
    let size : length text - at ≡ suc (length (xs ++ post)) = sym (length-drop at text) ∙ ap length here in
    let next : drop (at + 1) text ≡ xs ++ post = sym (drop-drop 1 at text) ∙ ap (λ t. drop 1 t) here in
    let after : StandAt text (at + 1) (slice_split p xs) = StandAt-slice_split p text (at + 1) xs post next (omega arith) in
    cond_both (p x) ([] ∷ slice_split p xs) (onto_first x (slice_split p xs)) (λ ps. StandAt text at ps)
    (λ _. (refl, omega arith, subst (λ n. StandAt text n (slice_split p xs)) (omega arith) after))
    (λ _. StandAt-onto_first text at x (slice_split p xs) (here ∙ ap (λ t. x ∷ t) (sym next)) (omega arith) after)

-- so do the pieces without an empty last one
StandAt-without_empty_last : (text : List ℕ) (at : ℕ) (pieces : List (List ℕ)) → StandAt text at pieces → StandAt text at (without_empty_last pieces)
StandAt-without_empty_last text at [] h = tt
StandAt-without_empty_last text at ([] ∷ []) h = tt
StandAt-without_empty_last text at ([] ∷ q ∷ qs) h = (h.0, h.1, StandAt-without_empty_last text (at + 0 + 1) (q ∷ qs) h.2)
StandAt-without_empty_last text at ((b ∷ bs) ∷ pieces) h = (h.0, h.1, StandAt-without_empty_last text (at + length (b ∷ bs) + 1) pieces h.2)

-- the lines of a text stand in it
pub StandAt-raw_lines : (text : List ℕ) → StandAt text 0 (raw_lines text)
StandAt-raw_lines text =
    StandAt-without_empty_last text 0 (slice_split is_line_feed text)
    (StandAt-slice_split is_line_feed text 0 text [] (sym (append-nil text)) (omega arith))

-- the bytes at the places of pieces are the pieces that aren't empty
pub map-places_of_pieces : (text : List ℕ) (at : ℕ) (pieces : List (List ℕ)) → StandAt text at pieces → map (slice_of text) (places_of_pieces at pieces) ≡ filter has_bytes pieces
map-places_of_pieces text at [] h = refl
map-places_of_pieces text at ([] ∷ pieces) h = map-places_of_pieces text (at + 0 + 1) pieces h.2
map-places_of_pieces text at ((b ∷ bs) ∷ pieces) h =
    let size : at + length (b ∷ bs) - at ≡ length (b ∷ bs) = omega arith in
    let head : take (at + length (b ∷ bs) - at) (drop at text) ≡ b ∷ bs = ap (λ n. take n (drop at text)) size ∙ h.0 in
    let tail = map-places_of_pieces text (at + length (b ∷ bs) + 1) pieces h.2 in
    cc

-- and each such place is within the text
pub AllWithin-places_of_pieces : (text : List ℕ) (at : ℕ) (pieces : List (List ℕ)) → StandAt text at pieces → AllWithin text (places_of_pieces at pieces)
AllWithin-places_of_pieces text at [] h = All-nil (IsWithin text)
AllWithin-places_of_pieces text at ([] ∷ pieces) h = AllWithin-places_of_pieces text (at + 0 + 1) pieces h.2
AllWithin-places_of_pieces text at ((b ∷ bs) ∷ pieces) h =
    All-cons (IsWithin text) (record { start = at; end = at + length (b ∷ bs) }) (places_of_pieces (at + length (b ∷ bs) + 1) pieces)
    (record { not_empty = omega arith; ends = h.1 })
    (AllWithin-places_of_pieces text (at + length (b ∷ bs) + 1) pieces h.2)

-- the first elements of what stands in the text stand there too
take-stands : (text : List ℕ) (at n : ℕ) (line : List ℕ) → n ≤ length line → take (length line) (drop at text) ≡ line → take (length (take n line)) (drop at text) ≡ take n line
take-stands text at n line most here =
    let size : length (take n line) ≡ n = length-take-le n line most in
    ap (λ k. take k (drop at text)) size ∙ sym (take-take n (length line) (drop at text) most) ∙ ap (take n) here

-- the pieces of the part of a line before its comment stand in the text where the line does
StandAt-line : (text : List ℕ) (at : ℕ) (line : List ℕ) → take (length line) (drop at text) ≡ line → at + length line ≤ length text → StandAt text at (slice_split separates (uncommented line))
StandAt-line text at line here within =
    let part = uncommented line in
    let most : position_or_len begins_comment line ≤ length line = prefix_len-le-length _ line in
    let size : length part ≡ position_or_len begins_comment line = length-take-le (position_or_len begins_comment line) line most in
    let part_here : take (length part) (drop at text) ≡ part = take-stands text at (position_or_len begins_comment line) line most here in
    StandAt-slice_split separates text at part (drop (length part) (drop at text))
    (sym (take-append-drop (length part) (drop at text)) ∙ ap (λ t. t ++ drop (length part) (drop at text)) part_here) (omega arith)

-- the bytes at the places of a line's words are its words
pub map-places : (text : List ℕ) (at : ℕ) (line : List ℕ) → take (length line) (drop at text) ≡ line → at + length line ≤ length text → map (slice_of text) (places at line) ≡ words line
unfolding words_in
map-places text at line here within =
    map-places_of_pieces text at (slice_split separates (uncommented line)) (StandAt-line text at line here within)

-- the part of a line before its comment stands in the text where the line does
part_at : (text : List ℕ) (at : ℕ) (line : List ℕ) → take (length line) (drop at text) ≡ line → slice_of text (part_place at line) ≡ uncommented line
part_at text at line here =
    let most : position_or_len begins_comment line ≤ length line = prefix_len-le-length _ line in
    let size : at + length (uncommented line) - at ≡ length (uncommented line) = omega arith in
    ap (λ n. take n (drop at text)) size ∙ take-stands text at (position_or_len begins_comment line) line most here

-- and it is no longer than the line
length-uncommented : (line : List ℕ) → length (uncommented line) ≤ length line
length-uncommented line =
    let most : position_or_len begins_comment line ≤ length line = prefix_len-le-length _ line in
    omega (arith, length-take-le (position_or_len begins_comment line) line most)

placed_if-stated : (text : List ℕ) (read : Bool) (number : ℕ) (part : Span) (spans : List Span) (words : List (List ℕ)) → map (slice_of text) spans ≡ words → map (stated_at text) (placed_if read number part spans) ≡ stated_if read number (slice_of text part) words
placed_if-stated text false number part spans words same = refl
placed_if-stated text true number part [] words same = ap (stated_if true number (slice_of text part)) same
placed_if-stated text true number part (span ∷ spans) words same = ap (stated_if true number (slice_of text part)) same

-- a line that makes a statement says what it states
pub map-placed_at : (text : List ℕ) (read : Bool) (number at : ℕ) (line : List ℕ) → take (length line) (drop at text) ≡ line → at + length line ≤ length text → map (stated_at text) (placed_at read number at line) ≡ stated_if read number (uncommented line) (words line)
map-placed_at text read number at line here within =
    placed_if-stated text read number (part_place at line) (places at line) (words line) (map-places text at line here within)
    ∙ ap (λ part. stated_if read number part (words line)) (part_at text at line here)

AllSpelled-placed_if : (text : List ℕ) (read : Bool) (number : ℕ) (part : Span) (spans : List Span) → IsSpelled text (record { number = number; part = part; words = spans }) → All (IsSpelled text) (placed_if read number part spans)
AllSpelled-placed_if text false number part spans h = All-nil (IsSpelled text)
AllSpelled-placed_if text true number part [] h = All-nil (IsSpelled text)
AllSpelled-placed_if text true number part (span ∷ spans) h =
    All-cons (IsSpelled text) (record { number = number; part = part; words = span ∷ spans }) [] h (All-nil (IsSpelled text))

AllSpelled-placed_at : (text : List ℕ) (read : Bool) (number at : ℕ) (line : List ℕ) → take (length line) (drop at text) ≡ line → at + length line ≤ length text → All (IsSpelled text) (placed_at read number at line)
AllSpelled-placed_at text read number at line here within =
    AllSpelled-placed_if text read number (part_place at line) (places at line) (record {
      ordered = omega arith;
      ends = omega (arith, length-uncommented line);
      within = AllWithin-places_of_pieces text at (slice_split separates (uncommented line)) (StandAt-line text at line here within);
      words = map-places text at line here within ∙ ap words_in (sym (part_at text at line here));
    })

AllSpelled-lines_from : (text : List ℕ) (before lines : List (List ℕ)) → StandAt text (start_of before) lines → All (IsSpelled text) (lines_from before lines)
AllSpelled-lines_from text before [] h = All-nil (IsSpelled text)
AllSpelled-lines_from text before (line ∷ lines) h =
    let read = is_read before line in
    let number = length before + 1 in
    let next : start_of before + length line + 1 ≡ start_of (line ∷ before) = omega (arith, sum_by-cons (λ (l : List ℕ). length l + 1) line before) in
    All-append (IsSpelled text) (placed_at read number (start_of before) line) (lines_from (line ∷ before) lines)
    (AllSpelled-placed_at text read number (start_of before) line h.0 h.1)
    (AllSpelled-lines_from text (line ∷ before) lines (subst (λ n. StandAt text n lines) next h.2))

-- the lines of a text are spelled in it
pub AllSpelled-lines_of : (text : List ℕ) → All (IsSpelled text) (lines_of text)
unfolding lines_of
AllSpelled-lines_of text = AllSpelled-lines_from text [] (raw_lines text) (StandAt-raw_lines text)
