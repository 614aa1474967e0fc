-- The words of a statement have bytes 33 to 126 only.
use Rattle.std.proofs.Common.{◌≡◌, ℕ, ◌+◌, ◌≤◌, Bool, true, false, not, ◌&&◌, ◌==◌, List, [], ◌∷◌, length, Option, Some, None, Result, Ok, Err, IfOk, refl, subst, arith, if◌then◌else◌}
use Rattle.std.specs.List.{slice_split, onto_first, list_all, All, filter}
use Rattle.std.proofs.lemmas.Bool.{cond_both}
use Rattle.std.proofs.lemmas.Bool.Decides.{nat_tests}
use Rattle.std.proofs.lemmas.List.Elements.{All-nil, All-cons, All-head, All-tail, All-append}
use Rattle.smol_text.specs.declared.line_state.LineState.{LineState}
use Rattle.smol_text.specs.declared.line_state.LineState.TheVariants.{Open, Commented, Ended}
use Rattle.smol_text.specs.Lines.{separates, has_bytes, raw_lines, uncommented, words, words_in, IsWord}
use Rattle.smol_text.specs.Reading.{Stated, LinesFault, bad_byte, too_many_lines, words_of, stated, is_open, is_ended, is_allowed, standing, is_read, line_fault, stated_if, behind, end_fault, statements_from, statements_of}

-- a byte that can be seen
abbrev pub IsSeen : ℕ → Type 0
IsSeen b = (33 ≤ b) × (b ≤ 126)

-- a byte that is allowed and separates no words can be seen
seen_byte : (b : ℕ) → is_allowed b ≡ true → separates b ≡ false → IsSeen b
seen_byte b allowed apart = (grind (arith, nat_tests), grind (arith, nat_tests))

both_true : (a b : Bool) → (a && b) ≡ true → (a ≡ true) × (b ≡ true)
both_true true b is = (refl, is)
both_true false b is = absurd cc

AllSeen-onto_first : (b : ℕ) (pieces : List (List ℕ)) → IsSeen b → All (All IsSeen) pieces → All (All IsSeen) (onto_first b pieces)
AllSeen-onto_first b [] seen h = All-cons (All IsSeen) (b ∷ []) [] (All-cons IsSeen b [] seen (All-nil IsSeen)) (All-nil (All IsSeen))
AllSeen-onto_first b (piece ∷ pieces) seen h =
    All-cons (All IsSeen) (b ∷ piece) pieces (All-cons IsSeen b piece seen (All-head (All IsSeen) piece pieces h)) (All-tail (All IsSeen) piece pieces h)

-- the pieces of allowed bytes have bytes that can be seen
AllSeen-slice_split : (part : List ℕ) → list_all is_allowed part ≡ true → All (All IsSeen) (slice_split separates part)
AllSeen-slice_split [] allowed = All-cons (All IsSeen) [] [] (All-nil IsSeen) (All-nil (All IsSeen))
AllSeen-slice_split (b ∷ bs) allowed =
    let both = both_true (is_allowed b) (list_all is_allowed bs) allowed in
    let after = AllSeen-slice_split bs both.1 in
    cond_both (separates b) ([] ∷ slice_split separates bs) (onto_first b (slice_split separates bs)) (λ ps. All (All IsSeen) ps)
    (λ _. All-cons (All IsSeen) [] (slice_split separates bs) (All-nil IsSeen) after)
    (λ apart. AllSeen-onto_first b (slice_split separates bs) (seen_byte b both.0 apart) after)

AllWords-filter : (pieces : List (List ℕ)) → All (All IsSeen) pieces → All IsWord (filter has_bytes pieces)
AllWords-filter [] h = All-nil IsWord
AllWords-filter ([] ∷ pieces) h = AllWords-filter pieces (All-tail (All IsSeen) [] pieces h)
AllWords-filter ((b ∷ bs) ∷ pieces) h =
    All-cons IsWord (b ∷ bs) (filter has_bytes pieces)
    (record { not_empty = omega arith; seen = All-head (All IsSeen) (b ∷ bs) pieces h })
    (AllWords-filter pieces (All-tail (All IsSeen) (b ∷ bs) pieces h))

-- the words of a line whose bytes are allowed can be seen
AllWords-words : (line : List ℕ) → list_all is_allowed (uncommented line) ≡ true → All IsWord (words line)
unfolding words_in
AllWords-words line allowed = AllWords-filter (slice_split separates (uncommented line)) (AllSeen-slice_split (uncommented line) allowed)

-- a statement's words can be seen
abbrev pub IsSeenStatement : Stated → Type 0
IsSeenStatement statement = All IsWord (words_of statement)

All-stated_if : (read : Bool) (number : ℕ) (part : List ℕ) (words : List (List ℕ)) → (read ≡ true → All IsWord (words_in part)) → All IsSeenStatement (stated_if read number part words)
All-stated_if false number part words h = All-nil IsSeenStatement
All-stated_if true number part [] h = All-nil IsSeenStatement
All-stated_if true number part (word ∷ words) h =
    All-cons IsSeenStatement (record { number = number; part = part }) [] (h refl) (All-nil IsSeenStatement)

-- a line that is read and has no fault has allowed bytes
allowed_from_no_fault : (ended many read allowed : Bool) (many_fault byte_fault : LinesFault) → (if ended then None else (if many then Some many_fault else (if read && not allowed then Some byte_fault else None))) ≡ None → ended ≡ false → read ≡ true → allowed ≡ true
allowed_from_no_fault ended many read true f g none stands reads = refl
allowed_from_no_fault true many read false f g none stands reads = absurd cc
allowed_from_no_fault false true read false f g none stands reads = absurd cc
allowed_from_no_fault false false true false f g none stands reads = absurd cc
allowed_from_no_fault false false false false f g none stands reads = absurd cc

not_ended : (standing : LineState) → is_open standing ≡ true → is_ended standing ≡ false
not_ended Open stands = refl
not_ended (Commented opened) stands = absurd cc
not_ended Ended stands = absurd cc

allowed_of_line : (before : List (List ℕ)) (line : List ℕ) → line_fault before line ≡ None → is_read before line ≡ true → list_all is_allowed (uncommented line) ≡ true
allowed_of_line before line none read =
    let both = both_true (is_open (standing before)) (is_open (standing (line ∷ before))) read in
    allowed_from_no_fault (is_ended (standing before)) (length before == 65536) (is_read before line) (list_all is_allowed (uncommented line)) too_many_lines (bad_byte (length before + 1)) none (not_ended (standing before) both.0) read

IfOk-behind : (fault : Option LinesFault) (statements : List Stated) (rest : Result (List Stated) LinesFault) → (fault ≡ None → All IsSeenStatement statements) → IfOk rest (All IsSeenStatement) → IfOk (behind fault statements rest) (All IsSeenStatement)
IfOk-behind (Some fault) statements rest here more = tt
IfOk-behind None statements (Ok rest) here more = All-append IsSeenStatement statements rest (here refl) more
IfOk-behind None statements (Err fault) here more = tt

IfOk-end_fault : (standing : LineState) → IfOk (end_fault standing) (All IsSeenStatement)
IfOk-end_fault Open = All-nil IsSeenStatement
IfOk-end_fault (Commented opened) = tt
IfOk-end_fault Ended = All-nil IsSeenStatement

IfOk-statements_from : (before lines : List (List ℕ)) → IfOk (statements_from before lines) (All IsSeenStatement)
IfOk-statements_from before [] = IfOk-end_fault (standing before)
IfOk-statements_from before (line ∷ lines) =
    IfOk-behind (line_fault before line) (stated before line) (statements_from (line ∷ before) lines)
    (λ none. All-stated_if (is_read before line) (length before + 1) (uncommented line) (words line) (λ read. AllWords-words line (allowed_of_line before line none read)))
    (IfOk-statements_from (line ∷ before) lines)

-- the words of a text's statements can be seen
pub AllSeen-statements_of : (text : List ℕ) (statements : List Stated) → statements_of text ≡ Ok statements → All IsSeenStatement statements
unfolding statements_of
AllSeen-statements_of text statements is =
    subst (λ r. IfOk r (All IsSeenStatement)) is (IfOk-statements_from [] (raw_lines text))
