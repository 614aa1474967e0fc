-- A text of lines that are plain: bytes that may stand there, no comment, and a first word that begins no comment and doesn't end the
-- text. It has these lines, and each makes a statement.
use Rattle.std.proofs.Common.{◌≡◌, ◌&&◌, ◌+◌, ◌*◌, ◌<◌, ◌≤◌, ◌==◌, ◌++◌, take, ℕ, Bool, true, false, not, List, [], ◌∷◌, length, None, Ok, All, refl, ap, ◌∙◌, arith}
use Rattle.std.specs.Prelude.{codes, nat_le}
use Rattle.std.specs.List.{list_all, slice_split}
use Rattle.std.specs.Str.{bytes_eq}
use Rattle.std.proofs.lemmas.Bool.{and_parts, leb-true, ne_eqb}
use Rattle.std.proofs.lemmas.List.{length-append, take_all}
use Rattle.std.proofs.lemmas.List.Splits.{slice_split_at, slice_split_none}
use Rattle.std.proofs.lemmas.List.Sums.{AllPass-from_list_all}
use Rattle.smol_num.proofs.ReadBack.{nowhere}
use Rattle.smol_text.specs.Lines.{begins_comment, is_line_feed, raw_lines, uncommented, without_empty_last, words, words_in}
use Rattle.smol_text.specs.Reading.{is_open, is_allowed, is_read, line_fault, standing, stated, Stated, statements_from, statements_of}
use Rattle.smol_run.specs.Generated.{ended}

-- a byte that may stand in a line and begins no comment
abbrev pub is_clean : ℕ → Bool
is_clean b = is_allowed b && not (begins_comment b)

-- words that make a statement: there is a first one, and it neither opens a comment nor ends the text
abbrev pub make_statement : List (List ℕ) → Bool
make_statement [] = false
make_statement (word ∷ words) = not (bytes_eq word (codes "/*")) && not (bytes_eq word (codes "end_file"))

-- a plain line
pub record IsPlain (line : List ℕ) : Type 0 where
  pub short : length line ≤ 1000
  pub clean : list_all is_clean line ≡ true
  pub stands : make_statement (words_in line) ≡ true

-- the test of it
abbrev pub is_plain : List ℕ → Bool
is_plain line = nat_le (length line) 1000 && (list_all is_clean line && make_statement (words_in line))

-- plain lines
abbrev pub ArePlain : List (List ℕ) → Type 0
ArePlain [] = Unit {0}
ArePlain (line ∷ lines) = IsPlain line × ArePlain lines

-- lines that pass the test are plain, and so are others behind them
pub plain_behind : (lines others : List (List ℕ)) → list_all is_plain lines ≡ true → ArePlain others → ArePlain (lines ++ others)
plain_behind [] others pass plain = plain
plain_behind (line ∷ lines) others pass plain =
    let parts = and_parts (is_plain line) (list_all is_plain lines) pass in
    let short = and_parts (nat_le (length line) 1000) (list_all is_clean line && make_statement (words_in line)) parts.0 in
    let tests = and_parts (list_all is_clean line) (make_statement (words_in line)) short.1 in
    (record { short = leb-true (length line) 1000 short.0; clean = tests.0; stands = tests.1 }, plain_behind lines others parts.1 plain)

-- lines with their numbers, from this one on
abbrev pub numbered : ℕ → List (List ℕ) → List Stated
numbered number [] = []
numbered number (line ∷ lines) = record { number = number; part = line } ∷ numbered (number + 1) lines

-- where one test passes another fails
abbrev Excludes : (ℕ → Bool) → (ℕ → Bool) → Type 0
Excludes q p = (x : ℕ) → q x ≡ true → p x ≡ false

all_fail : (q p : ℕ → Bool) (xs : List ℕ) → Excludes q p → list_all q xs ≡ true → All (λ x. p x ≡ false) xs
all_fail q p xs apart all = λ i d within. apart _ (AllPass-from_list_all q xs all i d within)

-- a piece before the separator behind it
pub split_at : (q p : ℕ → Bool) (xs : List ℕ) (y : ℕ) (ys : List ℕ) → Excludes q p → list_all q xs ≡ true → p y ≡ true
    → slice_split p (xs ++ y ∷ ys) ≡ xs ∷ slice_split p ys
split_at q p xs y ys apart all separator = slice_split_at p xs y ys (all_fail q p xs apart all) separator

-- a piece behind which nothing is
pub split_last : (q p : ℕ → Bool) (xs : List ℕ) → Excludes q p → list_all q xs ≡ true → slice_split p xs ≡ xs ∷ []
split_last q p xs apart all = slice_split_none p xs (all_fail q p xs apart all)

not_true : (b : Bool) → not b ≡ true → b ≡ false
not_true true is = absurd (cc)
not_true false is = refl

-- a clean byte begins no comment and is no line feed
clean-no_comment : Excludes is_clean begins_comment
clean-no_comment x clean = not_true (begins_comment x) (and_parts (is_allowed x) (not (begins_comment x)) clean).1

clean-no_feed : Excludes is_clean is_line_feed
clean-no_feed x clean =
    ne_eqb x 10 (λ is. let fails : is_clean x ≡ false = rw is refl in absurd (cc))

-- the last piece of a text whose lines all end
without_last : (lines : List (List ℕ)) → without_empty_last (lines ++ [] ∷ []) ≡ lines
without_last [] = refl
without_last ([] ∷ []) = refl
without_last ((b ∷ bs) ∷ []) = refl
without_last ([] ∷ second ∷ lines) = ap (λ rest. [] ∷ rest) (without_last (second ∷ lines))
without_last ((b ∷ bs) ∷ second ∷ lines) = ap (λ rest. (b ∷ bs) ∷ rest) (without_last (second ∷ lines))

split_lines : (lines : List (List ℕ)) → ArePlain lines → slice_split is_line_feed (ended lines) ≡ lines ++ [] ∷ []
split_lines [] plain = refl
split_lines (line ∷ lines) plain =
    split_at is_clean is_line_feed line 10 (ended lines) clean-no_feed plain.0.clean refl ∙ ap (λ rest. line ∷ rest) (split_lines lines plain.1)

-- the lines of the text are these
pub raw_lines-ended : (lines : List (List ℕ)) → ArePlain lines → raw_lines (ended lines) ≡ lines
raw_lines-ended lines plain = ap without_empty_last (split_lines lines plain) ∙ without_last lines

-- a clean line is before its comment
uncommented-clean : (line : List ℕ) → list_all is_clean line ≡ true → uncommented line ≡ line
uncommented-clean line clean =
    ap (λ count. take count line) (nowhere begins_comment is_clean line clean-no_comment clean).0 ∙ take_all (length line) line (omega arith)

-- a line behind lines that leave it open to be read, as no line does
abbrev IsOpenBehind : List (List ℕ) → Type 0
IsOpenBehind before = standing before ≡ standing []

-- the first of words that make a statement
first_of : (all : List (List ℕ)) → make_statement all ≡ true
    → (word : List ℕ) × (others : List (List ℕ)) × (all ≡ word ∷ others) × (bytes_eq word (codes "/*") ≡ false) × (bytes_eq word (codes "end_file") ≡ false)
first_of [] makes = absurd (cc)
first_of (word ∷ others) makes =
    let parts = and_parts (not (bytes_eq word (codes "/*"))) (not (bytes_eq word (codes "end_file"))) makes in
    (word, others, refl, not_true (bytes_eq word (codes "/*")) parts.0, not_true (bytes_eq word (codes "end_file")) parts.1)

-- the words of a plain line
plain_words : (line : List ℕ) → IsPlain line → words line ≡ words_in line
plain_words line plain = ap words_in (uncommented-clean line plain.clean)

-- the line behind a plain one is open too
stays_open : (before : List (List ℕ)) (line : List ℕ) → IsOpenBehind before → IsPlain line → IsOpenBehind (line ∷ before)
stays_open before line opened plain =
    let first = first_of (words_in line) plain.stands in
    rw (opened, plain_words line plain, first.2, first.3, first.4) refl

all_allowed : (line : List ℕ) → list_all is_clean line ≡ true → list_all is_allowed line ≡ true
all_allowed [] clean = refl
all_allowed (b ∷ bs) clean =
    let parts = and_parts (is_clean b) (list_all is_clean bs) clean in
    rw ((and_parts (is_allowed b) (not (begins_comment b)) parts.0).0, all_allowed bs parts.1) refl

is_read-plain : (before : List (List ℕ)) (line : List ℕ) → IsOpenBehind before → IsPlain line → is_read before line ≡ true
is_read-plain before line opened plain =
    ap (λ how. is_open how && is_open (standing (line ∷ before))) opened
    ∙ ap (λ how. is_open (standing []) && is_open how) (stays_open before line opened plain)

line_fault-plain : (before : List (List ℕ)) (line : List ℕ) → IsOpenBehind before → IsPlain line → length before < 65536 → line_fault before line ≡ None
line_fault-plain before line opened plain few =
    let other : (length before == 65536) ≡ false = ne_eqb (length before) 65536 (λ is. absurd (omega arith)) in
    rw (is_read-plain before line opened plain, uncommented-clean line plain.clean, all_allowed line plain.clean, opened, other) refl

stated-plain : (before : List (List ℕ)) (line : List ℕ) → IsOpenBehind before → IsPlain line
    → stated before line ≡ record { number = length before + 1; part = line } ∷ []
stated-plain before line opened plain =
    let first = first_of (words_in line) plain.stands in
    rw (is_read-plain before line opened plain, plain_words line plain, first.2, uncommented-clean line plain.clean) refl

statements_from-plain : (before lines : List (List ℕ)) → IsOpenBehind before → ArePlain lines → length before + length lines ≤ 65536
    → statements_from before lines ≡ Ok (numbered (length before + 1) lines)
statements_from-plain before [] opened plain few = rw opened refl
statements_from-plain before (line ∷ lines) opened plain few =
    let next : length (line ∷ before) + 1 ≡ length before + 1 + 1 = omega arith in
    let rest : statements_from (line ∷ before) lines ≡ Ok (numbered (length before + 1 + 1) lines) =
    statements_from-plain (line ∷ before) lines (stays_open before line opened plain.0) plain.1 (omega arith) ∙ ap (λ number. Ok (numbered number lines)) next in
    rw (line_fault-plain before line opened plain.0 (omega arith), stated-plain before line opened plain.0, rest) refl

-- plain lines are the statements of their text
pub statements_of-ended : (lines : List (List ℕ)) → ArePlain lines → length lines ≤ 65536 → statements_of (ended lines) ≡ Ok (numbered 1 lines)
unfolding statements_of
statements_of-ended lines plain few = rw (raw_lines-ended lines plain) (statements_from-plain [] lines refl plain (omega arith))

-- a text of few plain lines isn't long
pub length-ended : (lines : List (List ℕ)) → ArePlain lines → length (ended lines) ≤ 1001 * length lines
length-ended [] plain = omega arith
length-ended (line ∷ lines) plain =
    let rest = length-ended lines plain.1 in
    let short = plain.0.short in
    let both : length (line ++ 10 ∷ ended lines) ≡ length line + length (10 ∷ ended lines) = length-append line (10 ∷ ended lines) in
    rw both (omega arith)
