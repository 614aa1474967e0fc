-- What a line gives that is no directive, where no name is defined and no condition open.
use Rattle.std.proofs.Common.{◌≡◌, ℕ, ◌+◌, ◌<◌, ◌≤◌, ◌||◌, ◌==◌, Bool, true, false, List, [], ◌∷◌, length, map, filter, None, unwrap_or, Ok, nat_le, refl, sym, ap, ◌∙◌, arith}
use Rattle.std.specs.Prelude.{codes, slice_get}
use Rattle.std.specs.Str.{bytes_eq}
use Rattle.std.specs.List.{slice_split, list_all, before_first}
use Rattle.std.proofs.lemmas.Bool.Decides.{nat_tests}
use Rattle.std.proofs.Math.Numerals.{one-add}
use Rattle.smol_text.specs.Lines.{separates, begins_comment, uncommented, words_in}
use Rattle.smol_text.specs.Reading.{is_allowed}
use Rattle.smol_macro.specs.Given.{Given, text_with, with_line}
use Rattle.smol_macro.specs.Meanings.{nothing_defined, meant, spliced, replaced}
use Rattle.smol_macro.specs.Expanding.{Walked, gave, gives, obeyed, file_words, line_taken}
use Rattle.smol_macro.specs.Plain.{is_directive}

-- a list is cut into one piece at least
split_of : (p : ℕ → Bool) (x : ℕ) (xs : List ℕ) (passes : Bool) → p x ≡ passes → ((first : List ℕ) × (rest : List (List ℕ)) × (slice_split p xs ≡ first ∷ rest)) → (first : List ℕ) × (rest : List (List ℕ)) × (slice_split p (x ∷ xs) ≡ first ∷ rest)
split_of p x xs true is h = ([], slice_split p xs, rw is refl)
split_of p x xs false is h = (x ∷ h.0, h.1, rw (is, h.2) refl)

pub split : (p : ℕ → Bool) (xs : List ℕ) → (first : List ℕ) × (rest : List (List ℕ)) × (slice_split p xs ≡ first ∷ rest)
split p [] = ([], [], refl)
split p (x ∷ xs) = split_of p x xs (p x) refl (split p xs)

spliced-cons : (b : ℕ) (piece : List ℕ) (pieces : List (List ℕ)) (separators : List ℕ) → spliced ((b ∷ piece) ∷ pieces) separators ≡ b ∷ spliced (piece ∷ pieces) separators
spliced-cons b piece pieces [] = refl
spliced-cons b piece pieces (s ∷ ss) = refl

-- where no name is defined no word is replaced
replaced_of : (b : ℕ) (bs : List ℕ) (passes : Bool) → separates b ≡ passes → replaced nothing_defined bs ≡ bs → replaced nothing_defined (b ∷ bs) ≡ b ∷ bs
replaced_of b bs true is same = rw is (ap (λ t. b ∷ t) same)
replaced_of b bs false is same =
    let s = split separates bs in
    let here : spliced (s.0 ∷ map (meant nothing_defined) s.1) (filter separates bs) ≡ bs =
    ap (λ ps. spliced (map (meant nothing_defined) ps) (filter separates bs)) (sym s.2) ∙ same in
    rw (is, s.2) (spliced-cons b s.0 (map (meant nothing_defined) s.1) (filter separates bs) ∙ ap (λ t. b ∷ t) here)

pub replaced-nothing : (part : List ℕ) → replaced nothing_defined part ≡ part
replaced-nothing [] = refl
replaced-nothing (b ∷ bs) = replaced_of b bs (separates b) refl (replaced-nothing bs)

either_false : (a b : Bool) → (a || b) ≡ false → (a ≡ false) × (b ≡ false)
either_false true b is = absurd cc
either_false false b is = (refl, is)

-- this has been given, no name is defined, and no condition is open
abbrev pub bare : Given → Walked
bare given = record { given = given; defined = nothing_defined; open_ones = [] }

-- the first of these words
abbrev pub first_of : List (List ℕ) → List ℕ
first_of words = unwrap_or (slice_get words 0) []

obeyed-plain : (number : ℕ) (given : Given) (part : List ℕ) (words : List (List ℕ)) → is_directive (first_of words) ≡ false → obeyed number (bare given) part words ≡ gives given nothing_defined [] part
obeyed-plain number given part [] plain = refl
obeyed-plain number given part (word ∷ words) plain =
    let a = either_false (bytes_eq word (codes "define")) _ plain in
    let b = either_false (bytes_eq word (codes "undefine")) _ a.1 in
    let c = either_false (bytes_eq word (codes "ifdefine")) _ b.1 in
    let d = either_false (bytes_eq word (codes "ifundefine")) _ c.1 in
    let e = either_false (bytes_eq word (codes "else")) _ d.1 in
    let f = either_false (bytes_eq word (codes "endif")) _ e.1 in
    rw (c.0, d.0, e.0, f.0, a.0, b.0) (ap (gives given nothing_defined []) (replaced-nothing part))

file_words-plain : (given : Given) (words : List (List ℕ)) → is_directive (first_of words) ≡ false → file_words (bare given) words ≡ None
file_words-plain given [] plain = refl
file_words-plain given (word ∷ words) plain =
    let a = either_false (bytes_eq word (codes "define")) _ plain in
    let b = either_false (bytes_eq word (codes "undefine")) _ a.1 in
    let c = either_false (bytes_eq word (codes "ifdefine")) _ b.1 in
    let d = either_false (bytes_eq word (codes "ifundefine")) _ c.1 in
    let e = either_false (bytes_eq word (codes "else")) _ d.1 in
    let f = either_false (bytes_eq word (codes "endif")) _ e.1 in
    rw (f.1) refl

-- one more line
abbrev pub longer : Given → List ℕ → Given
longer given line = record { text = text_with given line; lines = given.lines + 1 }

with_line-within : (given : Given) (line : List ℕ) → length (text_with given line) ≤ 4194304 → with_line given line ≡ Ok (longer given line)
with_line-within given line within =
    let test : nat_le (length (text_with given line)) 4194304 ≡ true = grind (arith, nat_tests) in
    rw test refl

not_last : (lines : ℕ) → lines < 65536 → (lines + 1 == 65537) ≡ false
not_last lines few = grind (arith, nat_tests)

-- a line that is allowed gives what is read of it
pub line_taken-plain : (reading : List (List ℕ)) (given : Given) (part : List ℕ) → given.lines < 65536 → list_all is_allowed part ≡ true → is_directive (first_of (words_in part)) ≡ false → length (text_with given part) ≤ 4194304 → line_taken reading part (bare given) ≡ Ok (gave (bare (longer given part)))
line_taken-plain reading given part few allowed plain within =
    let one_more = not_last given.lines few in
    let asks = file_words-plain given (words_in part) plain in
    let obeys = obeyed-plain (given.lines + 1) given part (words_in part) plain in
    let fits = with_line-within given part within in
    rw (one_more, allowed, asks, obeys, fits) refl

-- what stands before the first `#` has none
before-idem_of : (p : ℕ → Bool) (x : ℕ) (xs : List ℕ) (passes : Bool) → p x ≡ passes → before_first p (before_first p xs) ≡ before_first p xs → before_first p (before_first p (x ∷ xs)) ≡ before_first p (x ∷ xs)
before-idem_of p x xs true is h = rw is refl
before-idem_of p x xs false is h =
    let here : before_first p (x ∷ xs) ≡ x ∷ before_first p xs = rw (is, one-add) refl in
    let there : before_first p (x ∷ before_first p xs) ≡ x ∷ before_first p (before_first p xs) = rw (is, one-add) refl in
    ap (before_first p) here ∙ there ∙ ap (λ t. x ∷ t) h ∙ sym here

before-idem : (p : ℕ → Bool) (xs : List ℕ) → before_first p (before_first p xs) ≡ before_first p xs
before-idem p [] = refl
before-idem p (x ∷ xs) = before-idem_of p x xs (p x) refl (before-idem p xs)

pub uncommented-idem : (line : List ℕ) → uncommented (uncommented line) ≡ uncommented line
uncommented-idem line = before-idem begins_comment line
