-- Statements that stand once at most, with one word behind their first one.
use Rattle.std.specs.Prelude.{ℕ, List, [], ◌∷◌, Option, Result}
use Rattle.smol_text.specs.Reading.{Stated}
use Rattle.smol_types.specs.declared.fault.Kind.{Kind}
use Rattle.smol_line.specs.Words.{word_at}
use Rattle.smol_line.specs.Checks.{once, word_count, passing}

-- the value of a line, by what a line before gives by the same statement and by what its word means
abbrev pub stands_once : {T : Type 0} → Option T → (List ℕ → Result T Kind) → Stated → Result T Kind
stands_once given meaning line = passing (once given ∷ word_count 2 line ∷ []) (meaning (word_at line 1))
