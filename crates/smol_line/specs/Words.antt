-- The words of a line.
use Rattle.std.specs.Prelude.{ℕ, List, [], slice_index_or}
use Rattle.smol_text.specs.Reading.{Stated, words_of}

-- word i of a line, counted from 0, and no bytes where there is none
abbrev pub word_at : Stated → ℕ → List ℕ
word_at line i = slice_index_or (words_of line) i []
