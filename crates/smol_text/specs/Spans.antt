-- Where the words of a text stand.
use Rattle.std.specs.Prelude.{◌≡◌, ℕ, ◌+◌, ◌<◌, ◌≤◌, Bool, true, false, All, List, [], ◌∷◌, ◌++◌, length, map, sum_by}
use Rattle.std.specs.List.{slice_range, slice_split}
use Rattle.smol_text.specs.declared.line.Span.{Span}
use Rattle.smol_text.specs.declared.line.Line.{Line}
use Rattle.smol_text.specs.Lines.{separates, raw_lines, uncommented, words_in}
use Rattle.smol_text.specs.Reading.{Stated, is_read}

-- the bytes of a text from a span's start to before its end
abbrev pub slice_of : List ℕ → Span → List ℕ
slice_of text span = slice_range text span.start span.end

-- a span holds at least one byte, and ends where the text does or before
pub record IsWithin (text : List ℕ) (span : Span) : Type 0 where
  pub not_empty : span.start < span.end
  pub ends : span.end ≤ length text

-- each span is within the text
abbrev pub AllWithin : List ℕ → List Span → Type 0
AllWithin text spans = All (IsWithin text) spans

-- where a piece stands whose first byte stands at `at`: nowhere, where the piece is empty
abbrev pub place_of_piece : ℕ → List ℕ → List Span
place_of_piece at [] = []
place_of_piece at (b ∷ bs) = record { start = at; end = at + length (b ∷ bs) } ∷ []

-- where pieces stand, the first one at `at`, with one byte between each two
abbrev pub places_of_pieces : ℕ → List (List ℕ) → List Span
places_of_pieces at [] = []
places_of_pieces at (piece ∷ pieces) = place_of_piece at piece ++ places_of_pieces (at + length piece + 1) pieces

-- where the words of a line stand, whose first byte stands at `at`
abbrev pub places : ℕ → List ℕ → List Span
places at line = places_of_pieces at (slice_split separates (uncommented line))

-- where the line behind these lines begins: each of them is followed by one byte
abbrev pub start_of : List (List ℕ) → ℕ
start_of before = sum_by (λ line. length line + 1) before

-- where the part of a line before its comment stands, whose first byte stands at `at`
abbrev pub part_place : ℕ → List ℕ → Span
part_place at line = record { start = at; end = at + length (uncommented line) }

-- the line that makes a statement, where it is read and has a word
abbrev pub placed_if : Bool → ℕ → Span → List Span → List Line
placed_if false number part places = []
placed_if true number part [] = []
placed_if true number part (place ∷ places) = record { number = number; part = part; words = place ∷ places } ∷ []

-- the same of a line whose first byte stands at `at`
abbrev pub placed_at : Bool → ℕ → ℕ → List ℕ → List Line
placed_at read number at line = placed_if read number (part_place at line) (places at line)

-- the lines that make statements, reading on behind these lines
abbrev pub lines_from : List (List ℕ) → List (List ℕ) → List Line
lines_from before [] = []
lines_from before (line ∷ lines) =
    placed_at (is_read before line) (length before + 1) (start_of before) line ++ lines_from (line ∷ before) lines

-- the lines of a text that make statements, each with its number and the places of its words in the text
unfoldable pub lines_of : List ℕ → List Line
lines_of text = lines_from [] (raw_lines text)

-- a text and its lines that make statements
pub record LinedText : Type 0 where
  pub bytes : List ℕ
  pub lines : List Line

-- a line's number, and its part before the comment read off a text at its place
abbrev pub stated_at : List ℕ → Line → Stated
stated_at bytes line = record { number = line.number; part = slice_of bytes line.part }

-- the statements of a text's lines
abbrev pub stated_lines : LinedText → List Stated
stated_lines text = map (stated_at text.bytes) text.lines

-- a line stands in the text, and what stands at the places of its words are the words of its part before the comment
pub record IsSpelled (bytes : List ℕ) (line : Line) : Type 0 where
  pub ordered : line.part.start ≤ line.part.end
  pub ends : line.part.end ≤ length bytes
  pub within : AllWithin bytes line.words
  pub words : map (slice_of bytes) line.words ≡ words_in (slice_of bytes line.part)

-- each line of a text is such
abbrev pub AllSpelled : LinedText → Type 0
AllSpelled text = All (IsSpelled text.bytes) text.lines
