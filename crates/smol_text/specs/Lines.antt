-- The lines of a text, and the words of a line.
use Rattle.std.specs.Prelude.{ℕ, ◌<◌, ◌≤◌, ◌||◌, ◌==◌, Bool, true, false, List, [], ◌∷◌, All, length, filter}
use Rattle.std.specs.List.{slice_split, before_first}

-- the greatest length of a text, in bytes: 4 MiB
abbrev pub most_bytes : ℕ
most_bytes = 4194304

-- a line feed, which ends a line
abbrev pub is_line_feed : ℕ → Bool
is_line_feed b = b == 10

-- a tab, a carriage return or a space, which separate words
abbrev pub separates : ℕ → Bool
separates b = b == 9 || b == 13 || b == 32

-- a `#`, which begins a comment
abbrev pub begins_comment : ℕ → Bool
begins_comment b = b == 35

-- the pieces without the last one, where that is empty
abbrev pub without_empty_last : List (List ℕ) → List (List ℕ)
without_empty_last [] = []
without_empty_last ([] ∷ []) = []
without_empty_last (piece ∷ pieces) = piece ∷ without_empty_last pieces

-- the lines of a text: what stands between line feeds. After a last line feed there is no further line
abbrev pub raw_lines : List ℕ → List (List ℕ)
raw_lines text = without_empty_last (slice_split is_line_feed text)

-- the part of a line before its first `#`, also where that stands inside quotation marks
abbrev pub uncommented : List ℕ → List ℕ
uncommented line = before_first begins_comment line

-- a piece that isn't empty
abbrev pub has_bytes : List ℕ → Bool
has_bytes [] = false
has_bytes (b ∷ bs) = true

-- the words of the part of a line before its comment: what stands between separators, and isn't empty
unfoldable pub words_in : List ℕ → List (List ℕ)
words_in part = filter has_bytes (slice_split separates part)

-- the words of a line
abbrev pub words : List ℕ → List (List ℕ)
words line = words_in (uncommented line)

-- a word that can be seen: it isn't empty, and has bytes 33 to 126 only
pub record IsWord (word : List ℕ) : Type 0 where
  pub not_empty : 0 < length word
  pub seen : All (λ b. (33 ≤ b) × (b ≤ 126)) word
