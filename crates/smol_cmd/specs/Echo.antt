-- The text of an `echo`: what stands between two quotation marks, where a backslash may begin a line feed, a tab or a backslash.
use Rattle.std.specs.Prelude.{ℕ, zero, suc, ◌-◌, ◌&&◌, ◌==◌, nat_le, Bool, true, false, not, List, [], ◌∷◌, ◌++◌, length, take, drop, slice_index, Option, None, Some, if◌then◌else◌}
use Rattle.std.specs.List.{position_or_len, suffix_len, slice_range}
use Rattle.smol_text.specs.Lines.{separates}

-- a byte that stands in a word
abbrev pub is_of_word : ℕ → Bool
is_of_word byte = not (separates byte)

-- a part of a line from its first word on
abbrev pub from_word : List ℕ → List ℕ
from_word part = drop (position_or_len is_of_word part) part

-- what stands behind a word that stands at the beginning
abbrev pub past_word : List ℕ → List ℕ
past_word part = drop (position_or_len separates part) part

-- what stands behind the first words of a part, so many of them
abbrev pub behind_words : ℕ → List ℕ → List ℕ
behind_words zero part = part
behind_words (suc count) part = past_word (from_word (behind_words count part))

-- a part without the separators at its end
abbrev pub without_end : List ℕ → List ℕ
without_end part = take (length part - suffix_len separates part) part

-- what stands behind the word of a place, counted from 0, without the separators before and behind it
unfoldable pub rest_behind : ℕ → List ℕ → List ℕ
rest_behind place part = without_end (from_word (past_word (from_word (behind_words place part))))

-- a quotation mark at the beginning, and another one at the end
abbrev pub is_quoted : List ℕ → Bool
is_quoted rest = nat_le 2 (length rest) && (slice_index rest 0 == 34) && (slice_index rest (length rest - 1) == 34)

-- what stands between the two
abbrev pub quoted_in : List ℕ → Option (List ℕ)
quoted_in rest = if is_quoted rest then Some (slice_range rest 1 (length rest - 1)) else None

-- what a byte means behind a backslash: `n` a line feed, `t` a tab, a backslash itself. Else the backslash stands for itself
abbrev pub meant_by : ℕ → List ℕ
meant_by byte =
    if byte == 110 then 10 ∷ [] else (if byte == 116 then 9 ∷ [] else (if byte == 92 then 92 ∷ [] else 92 ∷ byte ∷ []))

-- the text that these bytes spell, where a backslash stands before them or none does
abbrev pub text_from : Bool → List ℕ → List ℕ
text_from false [] = []
text_from true [] = 92 ∷ []
text_from false (byte ∷ bytes) = if byte == 92 then text_from true bytes else byte ∷ text_from false bytes
text_from true (byte ∷ bytes) = meant_by byte ++ text_from false bytes

-- the text that the bytes between the marks spell
unfoldable pub spelled : List ℕ → List ℕ
spelled bytes = text_from false bytes
