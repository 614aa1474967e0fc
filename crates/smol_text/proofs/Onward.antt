-- Reading on from how the next line stands, from the count of the lines before it and from where it begins.
use Rattle.std.proofs.Common.{◌≡◌, ◌≢◌, ℕ, suc, ◌+◌, ◌<◌, ◌≤◌, Bool, true, false, not, ◌&&◌, ◌==◌, List, [], ◌∷◌, ◌++◌, length, drop, map, Option, Some, None, Result, Ok, Err, is_ok, IsTrue, sym, refl, ap, ◌∙◌, subst, add-one, append_assoc, arith, if◌then◌else◌}
use Rattle.std.specs.List.{list_all}
use Rattle.std.proofs.lemmas.Bool.Decides.{nat_tests}
use Rattle.std.proofs.lemmas.List.{map-append}
use Rattle.std.proofs.Math.ListN.{drop_of_length-le}
use Rattle.std.proofs.lemmas.List.Sums.{sum_by-cons}
use Rattle.smol_text.specs.declared.line.Line.{Line}
use Rattle.smol_text.specs.declared.line_state.LineState.{LineState}
use Rattle.smol_text.specs.declared.line_state.LineState.TheVariants.{Open, Commented, Ended}
use Rattle.smol_text.specs.declared.text_fault.TextFault.{TextFault}
use Rattle.smol_text.specs.declared.text_fault.TextFault.TheVariants.{BadByte, OpenComment, TooManyLines, OutOfMemory}
use Rattle.smol_text.specs.Lines.{raw_lines, uncommented}
use Rattle.smol_text.specs.Reading.{Stated, LinesFault, bad_byte, open_comment, too_many_lines, is_open, is_ended, is_allowed, first_word, standing_after, standing, is_read, line_fault, stated, behind, end_fault, statements_from, statements_of, TellsLines}
use Rattle.smol_text.specs.Spans.{LinedText, placed_at, start_of, lines_from, lines_of, stated_at, stated_lines}
use Rattle.smol_text.proofs.Places.{StandAt, StandAt-raw_lines, map-placed_at}

-- a line is read, behind so many lines
abbrev pub reads : LineState → ℕ → List ℕ → Bool
reads standing count line = is_open standing && is_open (standing_after (count + 1) standing (first_word line))

-- the fault of a line, behind so many lines
abbrev pub fault_here : LineState → ℕ → List ℕ → Option LinesFault
fault_here standing count line =
    if is_ended standing
    then None
    else (if count == 65536
    then Some too_many_lines
    else (if reads standing count line && not (list_all is_allowed (uncommented line)) then Some (bad_byte (count + 1)) else None))

-- the fault at the end of a text
abbrev pub last_fault : LineState → Option LinesFault
last_fault Open = None
last_fault (Commented opened) = Some (open_comment opened)
last_fault Ended = None

abbrev pub first_of : Option LinesFault → Option LinesFault → Option LinesFault
first_of (Some fault) later = Some fault
first_of None later = later

-- the first fault of lines, behind so many lines
abbrev pub fault_from : LineState → ℕ → List (List ℕ) → Option LinesFault
fault_from standing count [] = last_fault standing
fault_from standing count (line ∷ lines) =
    first_of (fault_here standing count line) (fault_from (standing_after (count + 1) standing (first_word line)) (count + 1) lines)

-- the first fault of a text
unfoldable pub fault_of : List ℕ → Option LinesFault
fault_of text = fault_from Open 0 (raw_lines text)

-- the lines that make statements, behind so many lines
abbrev pub placed_from : LineState → ℕ → ℕ → List (List ℕ) → List Line
placed_from standing count at [] = []
placed_from standing count at (line ∷ lines) =
    placed_at (reads standing count line) (count + 1) at line ++ placed_from (standing_after (count + 1) standing (first_word line)) (count + 1) (at + length line + 1) lines

-- a fault, or else these statements
abbrev pub result_of : Option LinesFault → List Stated → Result (List Stated) LinesFault
result_of (Some fault) statements = Err fault
result_of None statements = Ok statements

behind-result_of : (fault later : Option LinesFault) (statements more : List Stated) → behind fault statements (result_of later more) ≡ result_of (first_of fault later) (statements ++ more)
behind-result_of (Some fault) later statements more = refl
behind-result_of None (Some later) statements more = refl
behind-result_of None None statements more = refl

result_of-end : (standing : LineState) → end_fault standing ≡ result_of (last_fault standing) []
result_of-end Open = refl
result_of-end (Commented opened) = refl
result_of-end Ended = refl

-- reading on behind lines depends on how the next line stands and on their number alone
pub statements_from-lines_from : (text : List ℕ) (before lines : List (List ℕ)) → StandAt text (start_of before) lines → statements_from before lines ≡ result_of (fault_from (standing before) (length before) lines) (map (stated_at text) (lines_from before lines))
statements_from-lines_from text before [] h = result_of-end (standing before)
statements_from-lines_from text before (line ∷ lines) h =
    let fault = line_fault before line in
    let said = stated before line in
    let later = λ (n : ℕ). fault_from (standing (line ∷ before)) n lines in
    let more = map (stated_at text) (lines_from (line ∷ before) lines) in
    let next : start_of before + length line + 1 ≡ start_of (line ∷ before) = omega (arith, sum_by-cons (λ (l : List ℕ). length l + 1) line before) in
    let on = statements_from-lines_from text (line ∷ before) lines (subst (λ n. StandAt text n lines) next h.2) in
    let place = placed_at (is_read before line) (length before + 1) (start_of before) line in
    let here : map (stated_at text) place ≡ said = map-placed_at text (is_read before line) (length before + 1) (start_of before) line h.0 h.1 in
    let both : map (stated_at text) (place ++ lines_from (line ∷ before) lines) ≡ said ++ more = map-append (stated_at text) place (lines_from (line ∷ before) lines) ∙ ap (λ t. t ++ more) here in
    ap (behind fault said) on
    ∙ behind-result_of fault (later (suc (length before))) said more
    ∙ ap (λ n. result_of (first_of fault (later n)) (said ++ more)) (sym (add-one (length before)))
    ∙ ap (result_of (first_of fault (later (length before + 1)))) (sym both)

lines_from-placed_from : (before lines : List (List ℕ)) → lines_from before lines ≡ placed_from (standing before) (length before) (start_of before) lines
lines_from-placed_from before [] = refl
lines_from-placed_from before (line ∷ lines) =
    let place = placed_at (is_read before line) (length before + 1) (start_of before) line in
    let next : start_of (line ∷ before) ≡ start_of before + length line + 1 = omega (arith, sum_by-cons (λ (l : List ℕ). length l + 1) line before) in
    ap (λ t. place ++ t) (lines_from-placed_from (line ∷ before) lines
    ∙ ap (λ n. placed_from (standing (line ∷ before)) n (start_of (line ∷ before)) lines) (sym (add-one (length before)))
    ∙ ap (λ n. placed_from (standing (line ∷ before)) (length before + 1) n lines) next)

-- the lines of a text are those from its first one on
pub lines_of-placed_from : (text : List ℕ) → lines_of text ≡ placed_from Open 0 0 (raw_lines text)
unfolding lines_of
lines_of-placed_from text = lines_from-placed_from [] (raw_lines text)

-- a text has its first fault, or else the statements of its lines
pub statements_of-lines_of : (text : List ℕ) → statements_of text ≡ result_of (fault_of text) (stated_lines (record { bytes = text; lines = lines_of text }))
unfolding statements_of lines_of fault_of
statements_of-lines_of text = statements_from-lines_from text [] (raw_lines text) (StandAt-raw_lines text)

pub statements_of-fault : (text : List ℕ) (fault : LinesFault) → fault_of text ≡ Some fault → statements_of text ≡ Err fault
statements_of-fault text fault is = statements_of-lines_of text ∙ ap (λ o. result_of o (stated_lines (record { bytes = text; lines = lines_of text }))) is

pub is_ok-statements_of : (text : List ℕ) → fault_of text ≡ None → IsTrue (is_ok (statements_of text))
is_ok-statements_of text is = rw (statements_of-lines_of text, is) refl

ok-result_of : (result : Result (List Stated) LinesFault) (fault : Option LinesFault) (statements : List Stated) → result ≡ result_of fault statements → IsTrue (is_ok result) → result ≡ Ok statements
ok-result_of result (Some fault) statements is ok = absurd (let no : IsTrue (is_ok (result_of (Some fault) statements)) = subst (λ r. IsTrue (is_ok r)) is ok in cc)
ok-result_of result None statements is ok = is

-- where a text has no fault its statements are those of its lines
pub statements_of-ok : (text : List ℕ) → IsTrue (is_ok (statements_of text)) → statements_of text ≡ Ok (stated_lines (record { bytes = text; lines = lines_of text }))
statements_of-ok text ok = ok-result_of (statements_of text) (fault_of text) (stated_lines (record { bytes = text; lines = lines_of text })) (statements_of-lines_of text) ok

-- the statements of a text and its lines
pub statements_of-text : (text : LinedText) → text.lines ≡ lines_of text.bytes → IsTrue (is_ok (statements_of text.bytes)) → statements_of text.bytes ≡ Ok (stated_lines text)
statements_of-text text is ok = statements_of-ok text.bytes ok ∙ ap (λ l. Ok (stated_lines (record { bytes = text.bytes; lines = l }))) (sym is)

-- behind the end of a text there is no fault
pub fault_from-Ended : (count : ℕ) (lines : List (List ℕ)) → fault_from Ended count lines ≡ None
fault_from-Ended count [] = refl
fault_from-Ended count (line ∷ lines) = fault_from-Ended (count + 1) lines

-- and no statement
pub placed_from-Ended : (count at : ℕ) (lines : List (List ℕ)) → placed_from Ended count at lines ≡ []
placed_from-Ended count at [] = refl
placed_from-Ended count at (line ∷ lines) = placed_from-Ended (count + 1) (at + length line + 1) lines

-- the tests of a line, by their outcomes
abbrev tested : Bool → Bool → Bool → Bool → LinesFault → LinesFault → Option LinesFault
tested ended many read allowed many_fault byte_fault = if ended then None else (if many then Some many_fault else (if read && not allowed then Some byte_fault else None))

tested-none : (ended many read allowed : Bool) (many_fault byte_fault : LinesFault) → ended ≡ false → many ≡ false → (read ≡ true → allowed ≡ true) → tested ended many read allowed many_fault byte_fault ≡ None
tested-none true many read allowed f g stands few h = absurd cc
tested-none false true read allowed f g stands few h = absurd cc
tested-none false false false allowed f g stands few h = refl
tested-none false false true true f g stands few h = refl
tested-none false false true false f g stands few h = absurd (let same : false ≡ true = h refl in cc)

-- a line has no fault where it is among the first 65,536 and its bytes are allowed, if it is read
pub fault_here-none : (standing : LineState) (count : ℕ) (line : List ℕ) → is_ended standing ≡ false → count < 65536 → (reads standing count line ≡ true → list_all is_allowed (uncommented line) ≡ true) → fault_here standing count line ≡ None
fault_here-none standing count line stands few allowed =
    let no : (count == 65536) ≡ false = grind (arith, nat_tests) in
    tested-none (is_ended standing) (count == 65536) (reads standing count line) (list_all is_allowed (uncommented line)) too_many_lines (bad_byte (count + 1)) stands no allowed

pub fault_here-many : (standing : LineState) (count : ℕ) (line : List ℕ) → is_ended standing ≡ false → count ≡ 65536 → fault_here standing count line ≡ Some too_many_lines
fault_here-many standing count line stands many =
    let yes : (count == 65536) ≡ true = grind (arith, nat_tests) in
    rw (stands, yes) refl

pub fault_here-byte : (standing : LineState) (count : ℕ) (line : List ℕ) → is_ended standing ≡ false → count < 65536 → reads standing count line ≡ true → list_all is_allowed (uncommented line) ≡ false → fault_here standing count line ≡ Some (bad_byte (count + 1))
fault_here-byte standing count line stands few read bad =
    let no : (count == 65536) ≡ false = grind (arith, nat_tests) in
    rw (stands, no, read, bad) refl

-- one more line of a text, with its next lines
module _ (bytes : List ℕ) (standing : LineState) (count : ℕ) (rest : List (List ℕ)) (line : List ℕ) (next : List (List ℕ)) (is : rest ≡ line ∷ next) where
  pub fault_from-found : (fault : LinesFault) → fault_from standing count rest ≡ fault_of bytes → fault_here standing count line ≡ Some fault → fault_of bytes ≡ Some fault
  fault_from-found fault so_far here =
      sym so_far ∙ ap (fault_from standing count) is ∙ ap (λ o. first_of o (fault_from (standing_after (count + 1) standing (first_word line)) (count + 1) next)) here

  pub fault_from-next : fault_from standing count rest ≡ fault_of bytes → fault_here standing count line ≡ None → fault_from (standing_after (count + 1) standing (first_word line)) (count + 1) next ≡ fault_of bytes
  fault_from-next so_far here =
      sym (ap (fault_from standing count) is ∙ ap (λ o. first_of o (fault_from (standing_after (count + 1) standing (first_word line)) (count + 1) next)) here) ∙ so_far

  pub placed_from-next : (at : ℕ) (before after : List Line) → before ++ placed_from standing count at rest ≡ lines_of bytes → after ≡ before ++ placed_at (reads standing count line) (count + 1) at line → after ++ placed_from (standing_after (count + 1) standing (first_word line)) (count + 1) (at + length line + 1) next ≡ lines_of bytes
  placed_from-next at before after so_far is_after =
      let here = placed_at (reads standing count line) (count + 1) at line in
      let further = placed_from (standing_after (count + 1) standing (first_word line)) (count + 1) (at + length line + 1) next in
      ap (λ t. t ++ further) is_after
      ∙ append_assoc before here further
      ∙ ap (λ t. before ++ t) (sym (ap (placed_from standing count at) is))
      ∙ so_far

-- behind the last byte of a text there is no line
pub fault_from-past : (bytes : List ℕ) (standing : LineState) (count at : ℕ) → length bytes ≤ at → fault_from standing count (raw_lines (drop at bytes)) ≡ last_fault standing
fault_from-past bytes standing count at past = ap (λ t. fault_from standing count (raw_lines t)) (drop_of_length-le bytes past)

pub placed_from-past : (bytes : List ℕ) (standing : LineState) (count at : ℕ) → length bytes ≤ at → placed_from standing count at (raw_lines (drop at bytes)) ≡ []
placed_from-past bytes standing count at past = ap (λ t. placed_from standing count at (raw_lines t)) (drop_of_length-le bytes past)

pub fault_from-ended : (standing : LineState) (count : ℕ) (lines : List (List ℕ)) → is_ended standing ≡ true → fault_from standing count lines ≡ last_fault standing
fault_from-ended Open count lines ended = absurd cc
fault_from-ended (Commented opened) count lines ended = absurd cc
fault_from-ended Ended count lines ended = fault_from-Ended count lines

pub placed_from-ended : (standing : LineState) (count at : ℕ) (lines : List (List ℕ)) → is_ended standing ≡ true → placed_from standing count at lines ≡ []
placed_from-ended Open count at lines ended = absurd cc
placed_from-ended (Commented opened) count at lines ended = absurd cc
placed_from-ended Ended count at lines ended = placed_from-Ended count at lines

-- a line is read where it and the line behind it stand open
pub reads-open : (standing next : LineState) (count : ℕ) (line : List ℕ) → next ≡ standing_after (count + 1) standing (first_word line) → is_open standing ≡ true → is_open next ≡ true → reads standing count line ≡ true
reads-open standing next count line is here behind = rw (here, ← is, behind) refl

and_false : (b : Bool) → (b && false) ≡ false
and_false true = refl
and_false false = refl

pub reads-closed : (standing next : LineState) (count : ℕ) (line : List ℕ) → next ≡ standing_after (count + 1) standing (first_word line) → is_open next ≡ false → reads standing count line ≡ false
reads-closed standing next count line is behind = ap (λ b. is_open standing && b) (ap is_open (sym is) ∙ behind) ∙ and_false (is_open standing)

pub reads-commented : (standing : LineState) (count : ℕ) (line : List ℕ) → is_open standing ≡ false → reads standing count line ≡ false
reads-commented standing count line here = ap (λ b. b && is_open (standing_after (count + 1) standing (first_word line))) here

-- a byte is told that isn't allowed, unless memory ran out
pub byte_is_told : (told : TextFault) (number : ℕ) (outcome : Result (List Stated) LinesFault) → (told ≢ OutOfMemory → told ≡ BadByte number) → (told ≢ OutOfMemory → outcome ≡ Err (bad_byte number)) → TellsLines told outcome
byte_is_told (BadByte line) number outcome is found =
    let other : BadByte line ≢ OutOfMemory = λ same. cc in
    let byte = is other in
    let line_is : line ≡ number = cc in
    found other ∙ ap (λ n. Err (bad_byte n)) (sym line_is)
byte_is_told (OpenComment line) number outcome is found =
    let other : OpenComment line ≢ OutOfMemory = λ same. cc in
    let byte = is other in
    absurd cc
byte_is_told TooManyLines number outcome is found =
    let other : TooManyLines ≢ OutOfMemory = λ same. cc in
    let byte = is other in
    absurd cc
byte_is_told OutOfMemory number outcome is found = tt
