-- The text that lines are given to, one after another.
use Rattle.std.specs.Prelude.{ℕ, ◌+◌, ◌==◌, nat_le, List, [], ◌∷◌, ◌++◌, length, Result, Ok, Err, if◌then◌else◌}
use Rattle.smol_macro.specs.declared.expand_fault.MacroKind.TheVariants.{TooLong}
use Rattle.smol_macro.specs.Refusal.{Refusal, at}

-- the text of the lines given so far, and how many they are
pub record Given : Type 0 where
  pub text : List ℕ
  pub lines : ℕ

-- no line yet
abbrev pub nothing_given : Given
nothing_given = record { text = []; lines = 0 }

-- what stands between a line and these many lines before it: a line feed, unless it is the first one
abbrev pub feed_before : ℕ → List ℕ
feed_before lines = if lines == 0 then [] else 10 ∷ []

-- the text with one more line
abbrev pub text_with : Given → List ℕ → List ℕ
text_with given line = given.text ++ (feed_before given.lines ++ line)

-- a line, unless it has more than 4 MiB by itself
abbrev pub within : List ℕ → Result (List ℕ) Refusal
within line = if nat_le (length line) 4194304 then Ok line else Err (at 0 TooLong)

-- one more line is given, unless that makes more than 4 MiB
abbrev pub with_line : Given → List ℕ → Result Given Refusal
with_line given line =
    if nat_le (length (text_with given line)) 4194304
    then Ok (record { text = text_with given line; lines = given.lines + 1 })
    else Err (at 0 TooLong)
