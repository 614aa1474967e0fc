-- Files without directives, whose expanded text says what they say.
use Rattle.std.specs.Prelude.{◌≡◌, ℕ, ◌||◌, ◌&&◌, Bool, true, not, List, [], ◌∷◌, Result, Ok, Err, IsOkAnd, codes}
use Rattle.std.specs.Str.{bytes_eq}
use Rattle.smol_text.specs.Lines.{raw_lines}
use Rattle.smol_text.specs.Reading.{Stated, LinesFault, bad_byte, open_comment, too_many_lines, first_word, is_read, statements_of}
use Rattle.smol_macro.specs.declared.expand_fault.MacroKind.TheVariants.{TooMany, BadByte, OpenComment}
use Rattle.smol_macro.specs.Refusal.{Refusal, at}

-- one of the words with which directives begin
abbrev pub is_directive : List ℕ → Bool
is_directive word =
    bytes_eq word (codes "define") || (bytes_eq word (codes "undefine") || (bytes_eq word (codes "ifdefine") || (bytes_eq word (codes "ifundefine") || (bytes_eq word (codes "else") || (bytes_eq word (codes "endif") || bytes_eq word (codes "read_file"))))))

-- none of these lines, which stand behind those before, is read and begins with a directive
abbrev pub none_directs : List (List ℕ) → List (List ℕ) → Bool
none_directs before [] = true
none_directs before (line ∷ lines) = not (is_read before line && is_directive (first_word line)) && none_directs (line ∷ before) lines

-- no line of a text is a directive
unfoldable pub is_plain : List ℕ → Bool
is_plain text = none_directs [] (raw_lines text)

-- a fault of lines as a refusal
abbrev pub told : LinesFault → Refusal
told (bad_byte line) = at line BadByte
told (open_comment line) = at line OpenComment
told too_many_lines = at 65537 TooMany

-- where a file's lines have a fault its text is refused so, and else the text makes the same statements, each in the same line
abbrev pub SaysTheSame : Result (List Stated) LinesFault → Result (List ℕ) Refusal → Type 0
SaysTheSame (Ok statements) outcome = IsOkAnd outcome (λ text. statements_of text ≡ Ok statements)
SaysTheSame (Err fault) outcome = outcome ≡ Err (told fault)
