-- A file without directives says what its lines say.
use Rattle.std.proofs.Common.{◌≡◌, ℕ, ◌+◌, ◌<◌, ◌≤◌, ◌&&◌, ◌==◌, Bool, true, false, not, List, [], ◌∷◌, ◌++◌, length, None, Some, Result, Ok, Err, refl, sym, ap, ◌∙◌, subst, arith, if◌then◌else◌}
use Rattle.std.specs.List.{slice_split, list_all, position_or_len, All}
use Rattle.std.proofs.lemmas.Bool.Decides.{nat_tests}
use Rattle.std.proofs.lemmas.List.{length-take}
use Rattle.std.proofs.lemmas.List.Elements.{All-nil, All-cons}
use Rattle.smol_text.specs.declared.line_state.LineState.{LineState}
use Rattle.smol_text.specs.declared.line_state.LineState.TheVariants.{Open, Commented, Ended}
use Rattle.smol_text.specs.Lines.{is_line_feed, begins_comment, without_empty_last, raw_lines, uncommented, words_in}
use Rattle.smol_text.specs.Reading.{Stated, LinesFault, bad_byte, too_many_lines, is_open, is_ended, is_allowed, first_word, standing_after, standing, is_read, line_fault, stated_if, stated, end_fault, behind, statements_from, statements_of}
use Rattle.smol_macro.specs.declared.expand_fault.MacroKind.TheVariants.{TooMany, BadByte, TooLong}
use Rattle.smol_macro.specs.Refusal.{at}
use Rattle.smol_macro.specs.Given.{Given, feed_before, nothing_given, text_with}
use Rattle.smol_macro.specs.Files.{Contents, bytes_of}
use Rattle.smol_macro.specs.Expanding.{go_on, part_read, line_taken, next_standing}
use Rattle.smol_macro.specs.Including.{Progress, Outcome, met_behind, carried_on, part_given, line_given, file_ended, lines_given, left, entered, file_read, nothing_yet, text_in, expanded}
use Rattle.smol_macro.specs.Plain.{is_directive, none_directs, is_plain, told, SaysTheSame}
use Rattle.smol_macro.proofs.Lengths.{length-text_with, is_within, not_within}
use Rattle.smol_macro.proofs.Walks.{lines_given-cons}
use Rattle.smol_macro.proofs.Behind.{inside_given}
use Rattle.smol_macro.proofs.PlainLines.{split, bare, first_of, longer, line_taken-plain}
use Rattle.smol_macro.proofs.PlainText.{IsGiven, IsGiven-nil, IsGiven-read, says, given_on, statements-text}

-- this has been given, no name is defined, and no condition is open
abbrev plain : List (List ℕ) → ℕ → Given → Progress
plain files size given = record { walked = bare given; files = files; size = size }

-- lines were given that make these statements
record Gives (files : List (List ℕ)) (size : ℕ) (given : Given) (statements : List Stated) (outcome : Outcome) : Type 0 where
  more : List (List ℕ)
  gives : outcome ≡ Ok (plain files size (given_on given more))
  as_given : All IsGiven more
  said : statements ≡ says given.lines more
  few : given.lines + length more ≤ 65536

-- a fault of lines is the refusal, and else they were given
abbrev IsSame : List (List ℕ) → ℕ → Given → Result (List Stated) LinesFault → Outcome → Type 0
IsSame files size given (Ok statements) outcome = Gives files size given statements outcome
IsSame files size given (Err fault) outcome = outcome ≡ Err (record { refusal = told fault; files = files })

-- one line more before them
one_more : (files : List (List ℕ)) (size : ℕ) (given : Given) (line : List ℕ) (here : List Stated) (rest : Result (List Stated) LinesFault) (outcome : Outcome) → IsGiven line → here ≡ stated_if true (given.lines + 1) line (words_in line) → IsSame files size (longer given line) rest outcome → IsSame files size given (behind None here rest) outcome
one_more files size given line here (Err fault) outcome good is same = same
one_more files size given line here (Ok statements) outcome good is same = record {
  more = line ∷ same.more;
  gives = same.gives;
  as_given = All-cons IsGiven line same.more good same.as_given;
  said = ap (λ s. s ++ statements) is ∙ ap (λ s. stated_if true (given.lines + 1) line (words_in line) ++ s) same.said;
  few = omega (arith, same.few);
}

-- the end of a file
at_end : (stands : LineState) (files : List (List ℕ)) (size : ℕ) (given : Given) → given.lines ≤ 65536 → IsSame files size given (end_fault stands) (file_ended stands (plain files size given))
at_end Open files size given few = record { more = []; gives = refl; as_given = All-nil IsGiven; said = refl; few = omega (arith, few) }
at_end (Commented opened) files size given few = refl
at_end Ended files size given few = record { more = []; gives = refl; as_given = All-nil IsGiven; said = refl; few = omega (arith, few) }

-- behind the end of a text nothing is said
statements-ended : (lines before : List (List ℕ)) → standing before ≡ Ended → statements_from before lines ≡ Ok []
statements-ended [] before ended = ap end_fault ended
statements-ended (line ∷ lines) before ended =
    let next : standing (line ∷ before) ≡ Ended = rw ended refl in
    let none : line_fault before line ≡ None = rw ended refl in
    let nothing : stated before line ≡ [] = rw ended refl in
    rw (none, nothing, statements-ended lines (line ∷ before) next) refl

-- how many bytes these lines have, each with a line feed
abbrev rest_of : List (List ℕ) → ℕ
rest_of [] = 0
rest_of (line ∷ lines) = length line + 1 + rest_of lines

-- the text that was given and these lines fit a text
abbrev HasRoom : Given → List (List ℕ) → Type 0
HasRoom given lines = length given.text + length (feed_before given.lines) + rest_of lines ≤ 4194305

fed_once : (lines : ℕ) → length (feed_before (lines + 1)) ≡ 1
fed_once lines =
    let test : (lines + 1 == 0) ≡ false = grind (arith, nat_tests) in
    rw test refl

room_behind : (given : Given) (line given_line : List ℕ) (lines : List (List ℕ)) → length given_line ≤ length line → HasRoom given (line ∷ lines) → (length (text_with given given_line) ≤ 4194304) × HasRoom (longer given given_line) lines
room_behind given line given_line lines shorter room =
    let whole = length-text_with given (feed_before given.lines) given_line refl in
    (omega (arith, whole, room, shorter), omega (arith, whole, room, shorter, fed_once given.lines))

-- what comes of the lines behind a line, whatever it gave
abbrev GoesOn : List (List ℕ) → (List ℕ → Progress → Outcome) → List (List ℕ) → List (List ℕ) → Type 0
GoesOn reading read before lines = (files : List (List ℕ)) (size : ℕ) (given : Given) → given.lines ≡ length before → given.lines ≤ 65536 → HasRoom given lines → none_directs before lines ≡ true → IsSame files size given (statements_from before lines) (lines_given reading read (standing before) (plain files size given) lines)

both_true : (a b : Bool) → (a && b) ≡ true → (a ≡ true) × (b ≡ true)
both_true true b is = (refl, is)
both_true false b is = absurd cc

no_directive : (read directive : Bool) → not (read && directive) ≡ true → read ≡ true → directive ≡ false
no_directive true true none is = absurd cc
no_directive true false none is = refl
no_directive false directive none is = absurd cc

nothing_said : (number : ℕ) → stated_if true number [] (words_in []) ≡ []
unfolding words_in
nothing_said number = refl

nothing_directs : is_directive (first_of (words_in [])) ≡ false
unfolding words_in
nothing_directs = refl

-- a line that gives
gives_line : (reading : List (List ℕ)) (read : List ℕ → Progress → Outcome) (before : List (List ℕ)) (line given_line : List ℕ) (lines : List (List ℕ)) (files : List (List ℕ)) (size : ℕ) (given : Given) → GoesOn reading read (line ∷ before) lines → given.lines ≡ length before → given.lines < 65536 → HasRoom given (line ∷ lines) → none_directs (line ∷ before) lines ≡ true → is_ended (standing before) ≡ false → part_read (standing before) (standing (line ∷ before)) line ≡ given_line → IsGiven given_line → is_directive (first_of (words_in given_line)) ≡ false → length given_line ≤ length line → line_fault before line ≡ None → stated before line ≡ stated_if true (given.lines + 1) given_line (words_in given_line) → IsSame files size given (statements_from before (line ∷ lines)) (lines_given reading read (standing before) (plain files size given) (line ∷ lines))
gives_line reading read before line given_line lines files size given on count few room none stands part good plain_line shorter no_fault says_here =
    let progress = plain files size given in
    let next = standing (line ∷ before) in
    let next_is : next ≡ next_standing (standing before) progress.walked line = rw count refl in
    let behind_it = room_behind given line given_line lines shorter room in
    let taken = line_taken-plain reading given given_line few good.allowed plain_line behind_it.0 in
    let gives : line_given reading read (standing before) next progress line ≡ Ok (plain files size (longer given given_line)) =
    ap (part_given reading read progress) part ∙ ap (λ r. go_on (met_behind files r) (carried_on read progress)) taken in
    let outcome : lines_given reading read next (plain files size (longer given given_line)) lines ≡ lines_given reading read (standing before) progress (line ∷ lines) =
    sym (lines_given-cons reading read (standing before) next progress line lines stands next_is ∙ ap (λ o. go_on o (λ further. lines_given reading read next further lines)) gives) in
    let one : given.lines + 1 ≡ length (line ∷ before) = omega (arith, count) in
    let rest = on files size (longer given given_line) one (omega (arith, few)) behind_it.1 none in
    subst (λ f. IsSame files size given (behind f (stated before line) (statements_from (line ∷ before) lines)) (lines_given reading read (standing before) progress (line ∷ lines))) (sym no_fault)
    (subst (λ o. IsSame files size given (behind None (stated before line) (statements_from (line ∷ before) lines)) o) outcome
    (one_more files size given given_line (stated before line) (statements_from (line ∷ before) lines) (lines_given reading read next (plain files size (longer given given_line)) lines) good says_here rest))

one_past : (count : ℕ) (last : Bool) → (count == 65536) ≡ last → (count + 1 == 65537) ≡ last
one_past count true is = grind (arith, nat_tests)
one_past count false is = grind (arith, nat_tests)

below_last : (count : ℕ) → count ≤ 65536 → (count == 65536) ≡ false → count < 65536
below_last count most is = grind (arith, nat_tests)

opened : (a b : Bool) → (a && b) ≡ true → b ≡ true
opened a b is = (both_true a b is).1

is_open_is : (stands : LineState) → is_open stands ≡ true → stands ≡ Open
is_open_is Open is = refl
is_open_is (Commented line) is = absurd cc
is_open_is Ended is = absurd cc

-- the fault of a line that isn't the one too many
fault_is : (before : List (List ℕ)) (line : List ℕ) (read allowed : Bool) → is_ended (standing before) ≡ false → (length before == 65536) ≡ false → is_read before line ≡ read → list_all is_allowed (uncommented line) ≡ allowed → line_fault before line ≡ (if read && not allowed then Some (bad_byte (length before + 1)) else None)
fault_is before line read allowed stands count reads allows = rw (stands, count, reads, allows) refl

part_is : (before : List (List ℕ)) (line : List ℕ) (read : Bool) → is_read before line ≡ read → part_read (standing before) (standing (line ∷ before)) line ≡ (if read then uncommented line else [])
part_is before line read reads = rw reads refl

-- a line that is read
read_line : (reading : List (List ℕ)) (read : List ℕ → Progress → Outcome) (before : List (List ℕ)) (line : List ℕ) (lines : List (List ℕ)) (files : List (List ℕ)) (size : ℕ) (given : Given) (allowed : Bool) → GoesOn reading read (line ∷ before) lines → given.lines ≡ length before → given.lines < 65536 → HasRoom given (line ∷ lines) → none_directs before (line ∷ lines) ≡ true → is_ended (standing before) ≡ false → (length before == 65536) ≡ false → is_read before line ≡ true → list_all is_allowed (uncommented line) ≡ allowed → IsSame files size given (statements_from before (line ∷ lines)) (lines_given reading read (standing before) (plain files size given) (line ∷ lines))
read_line reading read before line lines files size given true on count few room none stands less reads allows =
    let both = both_true (not (is_read before line && is_directive (first_word line))) (none_directs (line ∷ before) lines) none in
    let parts = both_true (is_open (standing before)) (is_open (standing (line ∷ before))) reads in
    let open_here = is_open_is (standing before) parts.0 in
    let stays = subst (λ s. is_open (standing_after (length before + 1) s (first_word line)) ≡ true) open_here parts.1 in
    let same : stated before line ≡ stated_if true (length before + 1) (uncommented line) (words_in (uncommented line)) = rw reads refl in
    gives_line reading read before line (uncommented line) lines files size given on count few room both.1 stands
    (part_is before line true reads)
    (IsGiven-read (length before + 1) line allows stays)
    (no_directive (is_read before line) (is_directive (first_word line)) both.0 reads)
    (omega (arith, length-take (position_or_len begins_comment line) line))
    (fault_is before line true true stands less reads allows)
    (same ∙ ap (λ n. stated_if true (n + 1) (uncommented line) (words_in (uncommented line))) (sym count))
read_line reading read before line lines files size given false on count few room none stands less reads allows =
    let progress = plain files size given in
    let next = standing (line ∷ before) in
    let next_is : next ≡ next_standing (standing before) progress.walked line = rw count refl in
    let one_more_fits : (given.lines + 1 == 65537) ≡ false = one_past given.lines false (ap (λ n. n == 65536) count ∙ less) in
    let taken : line_taken reading (uncommented line) progress.walked ≡ Err (at (given.lines + 1) BadByte) = rw (one_more_fits, allows) refl in
    let gives : line_given reading read (standing before) next progress line ≡ Err (record { refusal = at (given.lines + 1) BadByte; files = files }) =
    ap (part_given reading read progress) (part_is before line true reads) ∙ ap (λ r. go_on (met_behind files r) (carried_on read progress)) taken in
    let outcome = lines_given-cons reading read (standing before) next progress line lines stands next_is ∙ ap (λ o. go_on o (λ further. lines_given reading read next further lines)) gives ∙ ap (λ n. Err (record { refusal = at (n + 1) BadByte; files = files })) count in
    subst (λ f. IsSame files size given (behind f (stated before line) (statements_from (line ∷ before) lines)) (lines_given reading read (standing before) progress (line ∷ lines))) (sym (fault_is before line true false stands less reads allows))
    outcome

-- a line, whether it is read or not
any_line : (reading : List (List ℕ)) (read : List ℕ → Progress → Outcome) (before : List (List ℕ)) (line : List ℕ) (lines : List (List ℕ)) (files : List (List ℕ)) (size : ℕ) (given : Given) (reads_it : Bool) → GoesOn reading read (line ∷ before) lines → given.lines ≡ length before → given.lines < 65536 → HasRoom given (line ∷ lines) → none_directs before (line ∷ lines) ≡ true → is_ended (standing before) ≡ false → (length before == 65536) ≡ false → is_read before line ≡ reads_it → IsSame files size given (statements_from before (line ∷ lines)) (lines_given reading read (standing before) (plain files size given) (line ∷ lines))
any_line reading read before line lines files size given true on count few room none stands less reads =
    read_line reading read before line lines files size given (list_all is_allowed (uncommented line)) on count few room none stands less reads refl
any_line reading read before line lines files size given false on count few room none stands less reads =
    let both = both_true (not (is_read before line && is_directive (first_word line))) (none_directs (line ∷ before) lines) none in
    let says_nothing : stated before line ≡ [] = rw reads refl in
    gives_line reading read before line [] lines files size given on count few room both.1 stands
    (part_is before line false reads) IsGiven-nil nothing_directs (omega arith)
    (fault_is before line false (list_all is_allowed (uncommented line)) stands less reads refl)
    (says_nothing ∙ sym (nothing_said (given.lines + 1)))

-- a line, whether there may be one more or not
line_or_past : (reading : List (List ℕ)) (read : List ℕ → Progress → Outcome) (before : List (List ℕ)) (line : List ℕ) (lines : List (List ℕ)) (files : List (List ℕ)) (size : ℕ) (given : Given) (past : Bool) → GoesOn reading read (line ∷ before) lines → given.lines ≡ length before → given.lines ≤ 65536 → HasRoom given (line ∷ lines) → none_directs before (line ∷ lines) ≡ true → is_ended (standing before) ≡ false → (length before == 65536) ≡ past → IsSame files size given (statements_from before (line ∷ lines)) (lines_given reading read (standing before) (plain files size given) (line ∷ lines))
line_or_past reading read before line lines files size given true on count few room none stands past =
    let progress = plain files size given in
    let next = standing (line ∷ before) in
    let next_is : next ≡ next_standing (standing before) progress.walked line = rw count refl in
    let last : (given.lines + 1 == 65537) ≡ true = one_past given.lines true (ap (λ n. n == 65536) count ∙ past) in
    let part = part_read (standing before) next line in
    let taken : line_taken reading part progress.walked ≡ Err (at 65537 TooMany) = rw last refl in
    let outcome = lines_given-cons reading read (standing before) next progress line lines stands next_is ∙ ap (λ r. go_on (go_on (met_behind files r) (carried_on read progress)) (λ further. lines_given reading read next further lines)) taken in
    let fault : line_fault before line ≡ Some too_many_lines = rw (stands, past) refl in
    subst (λ f. IsSame files size given (behind f (stated before line) (statements_from (line ∷ before) lines)) (lines_given reading read (standing before) progress (line ∷ lines))) (sym fault)
    outcome
line_or_past reading read before line lines files size given false on count few room none stands past =
    let less = below_last given.lines few (ap (λ n. n == 65536) count ∙ past) in
    any_line reading read before line lines files size given (is_read before line) on count less room none stands past refl

is_ended_is : (stands : LineState) → is_ended stands ≡ true → stands ≡ Ended
is_ended_is Open is = absurd cc
is_ended_is (Commented line) is = absurd cc
is_ended_is Ended is = refl

-- a line, whether the file has ended before or not
line_or_ended : (reading : List (List ℕ)) (read : List ℕ → Progress → Outcome) (before : List (List ℕ)) (line : List ℕ) (lines : List (List ℕ)) (files : List (List ℕ)) (size : ℕ) (given : Given) (ended : Bool) → GoesOn reading read (line ∷ before) lines → given.lines ≡ length before → given.lines ≤ 65536 → HasRoom given (line ∷ lines) → none_directs before (line ∷ lines) ≡ true → is_ended (standing before) ≡ ended → IsSame files size given (statements_from before (line ∷ lines)) (lines_given reading read (standing before) (plain files size given) (line ∷ lines))
line_or_ended reading read before line lines files size given true on count few room none ended =
    let progress = plain files size given in
    let stands = is_ended_is (standing before) ended in
    let outcome : file_ended Ended progress ≡ lines_given reading read (standing before) progress (line ∷ lines) = rw stands refl in
    subst (λ r. IsSame files size given r (lines_given reading read (standing before) progress (line ∷ lines))) (sym (statements-ended (line ∷ lines) before stands))
    (subst (λ o. IsSame files size given (Ok []) o) outcome (at_end Ended files size given few))
line_or_ended reading read before line lines files size given false on count few room none stands =
    line_or_past reading read before line lines files size given (length before == 65536) on count few room none stands refl

lines-same : (reading : List (List ℕ)) (read : List ℕ → Progress → Outcome) (lines before : List (List ℕ)) → GoesOn reading read before lines
lines-same reading read [] before files size given count few room none = at_end (standing before) files size given few
lines-same reading read (line ∷ lines) before files size given count few room none =
    line_or_ended reading read before line lines files size given (is_ended (standing before)) (lines-same reading read lines (line ∷ before)) count few room none refl

-- how many bytes the lines of a text have
rest-split_of : (b : ℕ) (bs : List ℕ) (feed : Bool) → is_line_feed b ≡ feed → rest_of (slice_split is_line_feed bs) ≡ length bs + 1 → rest_of (slice_split is_line_feed (b ∷ bs)) ≡ length (b ∷ bs) + 1
rest-split_of b bs true is h = rw is (omega (arith, h))
rest-split_of b bs false is h =
    let s = split is_line_feed bs in
    let here : length s.0 + 1 + rest_of s.1 ≡ length bs + 1 = ap rest_of (sym s.2) ∙ h in
    rw (is, s.2) (omega (arith, here))

rest-split : (text : List ℕ) → rest_of (slice_split is_line_feed text) ≡ length text + 1
rest-split [] = omega arith
rest-split (b ∷ bs) = rest-split_of b bs (is_line_feed b) refl (rest-split bs)

rest-trimmed : (pieces : List (List ℕ)) → rest_of (without_empty_last pieces) ≤ rest_of pieces
rest-trimmed [] = omega arith
rest-trimmed ([] ∷ []) = omega arith
rest-trimmed ([] ∷ (piece ∷ pieces)) = omega (arith, rest-trimmed (piece ∷ pieces))
rest-trimmed ((b ∷ bs) ∷ pieces) = omega (arith, rest-trimmed pieces)

lines_fit : (bytes : List ℕ) → length bytes ≤ 4194304 → HasRoom nothing_given (raw_lines bytes)
lines_fit bytes within =
    omega (arith, rest-trimmed (slice_split is_line_feed bytes), rest-split bytes, within)

-- what the lines of a file say is what its text does
same_said : (files : List (List ℕ)) (size : ℕ) (statements : Result (List Stated) LinesFault) (outcome : Outcome) → IsSame files size nothing_given statements outcome → SaysTheSame statements (text_in (go_on outcome (λ inside. Ok (left nothing_yet inside))))
same_said files size (Ok statements) outcome same =
    let text : statements_of (given_on nothing_given same.more).text ≡ Ok statements = statements-text same.more same.as_given (omega (arith, same.few)) ∙ ap Ok (sym same.said) in
    subst (λ o. SaysTheSame (Ok statements) (text_in (go_on o (λ inside. Ok (left nothing_yet inside))))) (sym same.gives) text
same_said files size (Err fault) outcome same = ap (λ o. text_in (go_on o (λ inside. Ok (left nothing_yet inside)))) same

-- the bytes of a file that isn't too long
bytes_fit : (contents : Contents) (name bytes : List ℕ) → contents name ≡ Some bytes → length bytes ≤ 4194304 → bytes_of contents name 0 ≡ Ok bytes
bytes_fit contents name bytes is within =
    let one = is_within (length bytes) 4194304 within in
    let all = is_within (0 + length bytes) 16777216 (omega (arith, within)) in
    rw (is, one, all) refl

pub plain-same : (contents : Contents) (name bytes : List ℕ) → contents name ≡ Some bytes → length bytes ≤ 4194304 → is_plain bytes ≡ true → SaysTheSame (statements_of bytes) (expanded contents name)
unfolding expanded is_plain statements_of
plain-same contents name bytes is within none =
    let reading = name ∷ [] in
    let read = file_read 15 contents reading in
    let lines = lines_given reading read Open (entered nothing_yet name (length bytes)) (raw_lines bytes) in
    subst (λ r. SaysTheSame (statements_from [] (raw_lines bytes)) (text_in (go_on (met_behind reading r) (inside_given reading read name nothing_yet)))) (sym (bytes_fit contents name bytes is within))
    (same_said reading (0 + length bytes) (statements_from [] (raw_lines bytes)) lines
    (lines-same reading read (raw_lines bytes) [] reading (0 + length bytes) nothing_given refl (omega arith) (lines_fit bytes within) none))

bytes_long : (contents : Contents) (name bytes : List ℕ) → contents name ≡ Some bytes → 4194304 < length bytes → bytes_of contents name 0 ≡ Err (at 0 TooLong)
bytes_long contents name bytes is long =
    let one = not_within (length bytes) 4194304 long in
    rw (is, one) refl

pub plain-long : (contents : Contents) (name bytes : List ℕ) → contents name ≡ Some bytes → 4194304 < length bytes → expanded contents name ≡ Err (at 0 TooLong)
unfolding expanded
plain-long contents name bytes is long =
    let reading = name ∷ [] in
    ap (λ r. text_in (go_on (met_behind reading r) (inside_given reading (file_read 15 contents reading) name nothing_yet))) (bytes_long contents name bytes is long)
