-- The lines that a file without directives gives make the statements of its own lines.
use Rattle.std.proofs.Common.{◌≡◌, ℕ, ◌+◌, ◌<◌, ◌≤◌, ◌&&◌, ◌==◌, Bool, true, false, List, [], ◌∷◌, ◌++◌, length, None, Ok, refl, sym, ap, ◌∙◌, append_assoc, arith}
use Rattle.std.specs.Prelude.{codes}
use Rattle.std.specs.Str.{bytes_eq}
use Rattle.std.specs.List.{slice_split, list_all, All}
use Rattle.std.proofs.lemmas.Bool.Decides.{nat_tests}
use Rattle.std.proofs.lemmas.List.{append-nil}
use Rattle.std.proofs.lemmas.List.Splits.{slice_split_none, slice_split_at}
use Rattle.std.proofs.lemmas.List.Elements.{All-nil, All-cons, All-head, All-tail}
use Rattle.smol_text.specs.declared.line_state.LineState.TheVariants.{Open}
use Rattle.smol_text.specs.Lines.{is_line_feed, without_empty_last, raw_lines, uncommented, words_in}
use Rattle.smol_text.specs.Reading.{Stated, is_open, is_allowed, first_word, standing_after, standing, is_read, line_fault, stated_if, stated, end_fault, behind, statements_from, statements_of}
use Rattle.smol_macro.specs.Given.{Given, nothing_given, text_with}
use Rattle.smol_macro.proofs.PlainLines.{longer, uncommented-idem}

-- a line as it is given: each byte is allowed, it has no comment, and it neither opens a block comment nor ends a text
pub record IsGiven (line : List ℕ) : Type 0 where
  pub allowed : list_all is_allowed line ≡ true
  pub whole : uncommented line ≡ line
  pub opens : bytes_eq (first_word line) (codes "/*") ≡ false
  pub ends : bytes_eq (first_word line) (codes "end_file") ≡ false

pub IsGiven-nil : IsGiven []
unfolding words_in
IsGiven-nil = record { allowed = refl; whole = refl; opens = refl; ends = refl }

-- a line that leaves what is open so is none of the two words
stays_open : (number : ℕ) (word : List ℕ) (opens ends : Bool) → bytes_eq word (codes "/*") ≡ opens → bytes_eq word (codes "end_file") ≡ ends → is_open (standing_after number Open word) ≡ true → (opens ≡ false) × (ends ≡ false)
stays_open number word true ends a b stays = absurd (let no : false ≡ true = rw a at stays in cc)
stays_open number word false true a b stays = absurd (let no : false ≡ true = rw (a, b) at stays in cc)
stays_open number word false false a b stays = (refl, refl)

pub IsGiven-read : (number : ℕ) (line : List ℕ) → list_all is_allowed (uncommented line) ≡ true → is_open (standing_after number Open (first_word line)) ≡ true → IsGiven (uncommented line)
IsGiven-read number line allowed stays =
    let neither = stays_open number (first_word line) _ _ refl refl stays in
    let same : first_word (uncommented line) ≡ first_word line = rw (uncommented-idem line) refl in
    record {
      allowed = allowed;
      whole = uncommented-idem line;
      opens = ap (λ w. bytes_eq w (codes "/*")) same ∙ neither.0;
      ends = ap (λ w. bytes_eq w (codes "end_file")) same ∙ neither.1;
    }

-- what given lines say, behind so many lines
abbrev pub says : ℕ → List (List ℕ) → List Stated
says number [] = []
says number (line ∷ lines) = stated_if true (number + 1) line (words_in line) ++ says (number + 1) lines

below_last : (count : ℕ) → count < 65536 → (count == 65536) ≡ false
below_last count few = grind (arith, nat_tests)

-- a text of given lines makes their statements
pub statements-given : (lines before : List (List ℕ)) → standing before ≡ Open → All IsGiven lines → length before + length lines ≤ 65536 → statements_from before lines ≡ Ok (says (length before) lines)
statements-given [] before stands given few = ap end_fault stands
statements-given (line ∷ lines) before stands given few =
    let here : IsGiven line = All-head IsGiven line lines given in
    let next : standing (line ∷ before) ≡ Open = rw (stands, here.opens, here.ends) refl in
    let read : is_read before line ≡ true = rw (next, stands) refl in
    let less : length before < 65536 = omega (arith, few) in
    let count = below_last (length before) less in
    let one : length (line ∷ before) ≡ length before + 1 = omega arith in
    let rest = statements-given lines (line ∷ before) next (All-tail IsGiven line lines given) (omega (arith, few)) in
    let none : line_fault before line ≡ None = rw (read, here.whole, here.allowed, count, stands) refl in
    let says_here : stated before line ≡ stated_if true (length before + 1) line (words_in line) = rw (read, here.whole) refl in
    ap (λ f. behind f (stated before line) (statements_from (line ∷ before) lines)) none
    ∙ ap (λ s. behind None s (statements_from (line ∷ before) lines)) says_here
    ∙ ap (λ r. behind None (stated_if true (length before + 1) line (words_in line)) r) (rest ∙ ap (λ n. Ok (says n lines)) one)

-- without an empty last line they say the same
abbrev IsTrimmed : ℕ → List (List ℕ) → Type 0
IsTrimmed number lines = All IsGiven (without_empty_last lines) × (says number (without_empty_last lines) ≡ says number lines) × (length (without_empty_last lines) ≤ length lines)

none_said : (number : ℕ) → says number ([] ∷ []) ≡ []
unfolding words_in
none_said number = refl

trimmed : (lines : List (List ℕ)) (number : ℕ) → All IsGiven lines → IsTrimmed number lines
trimmed [] number given = (given, refl, omega arith)
trimmed ([] ∷ []) number given = (All-nil IsGiven, sym (none_said number), omega arith)
trimmed ([] ∷ (line ∷ lines)) number given =
    let rest = trimmed (line ∷ lines) (number + 1) (All-tail IsGiven [] (line ∷ lines) given) in
    (All-cons IsGiven [] (without_empty_last (line ∷ lines)) (All-head IsGiven [] (line ∷ lines) given) rest.0, ap (λ s. stated_if true (number + 1) [] (words_in []) ++ s) rest.1, omega (arith, rest.2))
trimmed ((b ∷ bs) ∷ lines) number given =
    let rest = trimmed lines (number + 1) (All-tail IsGiven (b ∷ bs) lines given) in
    (All-cons IsGiven (b ∷ bs) (without_empty_last lines) (All-head IsGiven (b ∷ bs) lines given) rest.0, ap (λ s. stated_if true (number + 1) (b ∷ bs) (words_in (b ∷ bs)) ++ s) rest.1, omega (arith, rest.2))

-- no line feed is allowed
no_feed : (b : ℕ) → is_allowed b ≡ true → is_line_feed b ≡ false
no_feed b allowed = grind (arith, nat_tests)

both_true : (a b : Bool) → (a && b) ≡ true → (a ≡ true) × (b ≡ true)
both_true true b is = (refl, is)
both_true false b is = absurd cc

no_feeds : (line : List ℕ) → list_all is_allowed line ≡ true → All (λ b. is_line_feed b ≡ false) line
no_feeds [] allowed = All-nil (λ b. is_line_feed b ≡ false)
no_feeds (b ∷ bs) allowed =
    let both = both_true (is_allowed b) (list_all is_allowed bs) allowed in
    All-cons (λ b. is_line_feed b ≡ false) b bs (no_feed b both.0) (no_feeds bs both.1)

-- lines, each with a line feed before it
abbrev fed : List (List ℕ) → List ℕ
fed [] = []
fed (line ∷ lines) = 10 ∷ line ++ fed lines

split-fed : (line : List ℕ) (lines : List (List ℕ)) → All IsGiven (line ∷ lines) → slice_split is_line_feed (line ++ fed lines) ≡ line ∷ lines
split-fed line [] given =
    let here : IsGiven line = All-head IsGiven line [] given in
    ap (slice_split is_line_feed) (append-nil line) ∙ slice_split_none is_line_feed line (no_feeds line here.allowed)
split-fed line (next ∷ lines) given =
    let here : IsGiven line = All-head IsGiven line (next ∷ lines) given in
    slice_split_at is_line_feed line 10 (next ++ fed lines) (no_feeds line here.allowed) refl
    ∙ ap (λ t. line ∷ t) (split-fed next lines (All-tail IsGiven line (next ∷ lines) given))

-- the text with these lines more
abbrev pub given_on : Given → List (List ℕ) → Given
given_on given [] = given
given_on given (line ∷ lines) = given_on (longer given line) lines

text-fed : (lines : List (List ℕ)) (given : Given) → 0 < given.lines → (given_on given lines).text ≡ given.text ++ fed lines
text-fed [] given some = sym (append-nil given.text)
text-fed (line ∷ lines) given some =
    let test : (given.lines == 0) ≡ false = grind (arith, nat_tests) in
    let here : text_with given line ≡ given.text ++ (10 ∷ line) = rw test refl in
    text-fed lines (longer given line) (omega arith)
    ∙ ap (λ t. t ++ fed lines) here
    ∙ append_assoc given.text (10 ∷ line) (fed lines)

-- the text of all given lines makes their statements
pub statements-text : (lines : List (List ℕ)) → All IsGiven lines → length lines ≤ 65536 → statements_of (given_on nothing_given lines).text ≡ Ok (says 0 lines)
unfolding statements_of
statements-text [] given few = refl
statements-text (line ∷ lines) given few =
    let t = trimmed (line ∷ lines) 0 given in
    let text : (given_on nothing_given (line ∷ lines)).text ≡ line ++ fed lines = text-fed lines (longer nothing_given line) (omega arith) in
    ap (λ x. statements_from [] (raw_lines x)) text
    ∙ ap (λ p. statements_from [] (without_empty_last p)) (split-fed line lines given)
    ∙ statements-given (without_empty_last (line ∷ lines)) [] refl t.0 (omega (arith, few, t.2))
    ∙ ap Ok t.1
