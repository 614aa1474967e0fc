-- What lines and files come to doesn't turn on the files that were read before, which stay in front of those that are read.
use Rattle.std.proofs.Common.{◌≡◌, ℕ, zero, suc, Bool, true, false, List, [], ◌∷◌, ◌++◌, length, Result, Ok, Err, refl, sym, ap, ◌∙◌, append_assoc}
use Rattle.std.proofs.lemmas.List.{append-nil}
use Rattle.smol_text.specs.declared.line_state.LineState.{LineState}
use Rattle.smol_text.specs.declared.line_state.LineState.TheVariants.{Open}
use Rattle.smol_text.specs.Lines.{raw_lines}
use Rattle.smol_text.specs.Reading.{is_ended}
use Rattle.smol_macro.specs.Refusal.{Refusal}
use Rattle.smol_macro.specs.Files.{Contents, IsFront, bytes_of}
use Rattle.smol_macro.specs.Expanding.{go_on, part_read, opens, Taken, gave, asks, line_taken, next_standing, end_given}
use Rattle.smol_macro.specs.Including.{Progress, Outcome, met_behind, walked_on, carried_on, part_given, line_given, file_ended, lines_given, entered, left, file_given, file_read, files_in}

-- the same with these files in front
abbrev pub behind : List (List ℕ) → Progress → Progress
behind names progress = record { walked = progress.walked; files = names ++ progress.files; size = progress.size }

abbrev pub come_behind : List (List ℕ) → Outcome → Outcome
come_behind names (Ok progress) = Ok (behind names progress)
come_behind names (Err stopped) = Err (record { refusal = stopped.refusal; files = names ++ stopped.files })

-- what comes of a progress with files in front has them in front
abbrev pub IsPassing : (Progress → Outcome) → Type 0
IsPassing on = (names : List (List ℕ)) (progress : Progress) → on (behind names progress) ≡ come_behind names (on progress)

abbrev pub IsPassingEach : (List ℕ → Progress → Outcome) → Type 0
IsPassingEach read = (name : List ℕ) → IsPassing (read name)

met_behind-passes : {T : Type 0} (names files : List (List ℕ)) (outcome : Result T Refusal) (f g : T → Outcome) → ((x : T) → f x ≡ come_behind names (g x)) → go_on (met_behind (names ++ files) outcome) f ≡ come_behind names (go_on (met_behind files outcome) g)
met_behind-passes names files (Ok x) f g each = each x
met_behind-passes names files (Err refusal) f g each = refl

go_on-passes : (names : List (List ℕ)) (outcome : Outcome) (f g : Progress → Outcome) → ((progress : Progress) → f (behind names progress) ≡ come_behind names (g progress)) → go_on (come_behind names outcome) f ≡ come_behind names (go_on outcome g)
go_on-passes names (Ok progress) f g each = each progress
go_on-passes names (Err stopped) f g each = refl

carried_on-passes : (read : List ℕ → Progress → Outcome) → IsPassingEach read → (names : List (List ℕ)) (progress : Progress) (taken : Taken) → carried_on read (behind names progress) taken ≡ come_behind names (carried_on read progress taken)
carried_on-passes read passes names progress (gave walked) = refl
carried_on-passes read passes names progress (asks name) = passes name names progress

pub part_given-passes : (reading : List (List ℕ)) (read : List ℕ → Progress → Outcome) → IsPassingEach read → (part : List ℕ) → IsPassing (λ progress. part_given reading read progress part)
part_given-passes reading read passes part names progress =
    met_behind-passes names progress.files (line_taken reading part progress.walked) (carried_on read (behind names progress)) (carried_on read progress) (carried_on-passes read passes names progress)

pub file_ended-passes : (standing : LineState) → IsPassing (file_ended standing)
file_ended-passes standing names progress =
    met_behind-passes names progress.files (end_given standing progress.walked) (λ walked. Ok (walked_on (behind names progress) walked)) (λ walked. Ok (walked_on progress walked)) (λ walked. refl)

lines_given-passes_of : (reading : List (List ℕ)) (read : List ℕ → Progress → Outcome) → IsPassingEach read → (standing : LineState) (line : List ℕ) (lines : List (List ℕ)) (names : List (List ℕ)) (progress : Progress) (ended : Bool) → is_ended standing ≡ ended → ((next : LineState) → IsPassing (λ further. lines_given reading read next further lines)) → lines_given reading read standing (behind names progress) (line ∷ lines) ≡ come_behind names (lines_given reading read standing progress (line ∷ lines))
lines_given-passes_of reading read passes standing line lines names progress true is rest =
    rw is (file_ended-passes standing names progress)
lines_given-passes_of reading read passes standing line lines names progress false is rest =
    let next = next_standing standing progress.walked line in
    let on = λ (further : Progress). lines_given reading read next further lines in
    rw is
    (ap (λ o. go_on o on) (part_given-passes reading read passes (part_read standing next line) names progress)
    ∙ go_on-passes names (line_given reading read standing next progress line) on on (rest next names))

pub lines_given-passes : (reading : List (List ℕ)) (read : List ℕ → Progress → Outcome) → IsPassingEach read → (lines : List (List ℕ)) (standing : LineState) → IsPassing (λ progress. lines_given reading read standing progress lines)
lines_given-passes reading read passes [] standing names progress = file_ended-passes standing names progress
lines_given-passes reading read passes (line ∷ lines) standing names progress =
    lines_given-passes_of reading read passes standing line lines names progress (is_ended standing) refl (lines_given-passes reading read passes lines)

-- the lines of a file of these bytes
abbrev pub inside_given : List (List ℕ) → (List ℕ → Progress → Outcome) → List ℕ → Progress → List ℕ → Outcome
inside_given reading read name progress bytes =
    go_on (lines_given reading read Open (entered progress name (length bytes)) (raw_lines bytes)) (λ inside. Ok (left progress inside))

inside_given-passes : (reading : List (List ℕ)) (read : List ℕ → Progress → Outcome) → IsPassingEach read → (name bytes : List ℕ) → IsPassing (λ progress. inside_given reading read name progress bytes)
inside_given-passes reading read passes name bytes names progress =
    let inside = entered progress name (length bytes) in
    let files = append_assoc names progress.files (name ∷ []) in
    ap (λ t. go_on (lines_given reading read Open (record { walked = inside.walked; files = t; size = inside.size }) (raw_lines bytes)) (λ on. Ok (left progress on))) files
    ∙ ap (λ o. go_on o (λ on. Ok (left progress on))) (lines_given-passes reading read passes (raw_lines bytes) Open names inside)
    ∙ go_on-passes names (lines_given reading read Open inside (raw_lines bytes)) (λ on. Ok (left progress on)) (λ on. Ok (left progress on)) (λ on. refl)

pub file_given-passes : (reading : List (List ℕ)) (read : List ℕ → Progress → Outcome) → IsPassingEach read → (contents : Contents) (name : List ℕ) → IsPassing (file_given reading read contents name)
file_given-passes reading read passes contents name names progress =
    ap (λ t. go_on (met_behind t (bytes_of contents name progress.size)) (inside_given reading read name (behind names progress))) (append_assoc names progress.files (name ∷ []))
    ∙ met_behind-passes names (progress.files ++ name ∷ []) (bytes_of contents name progress.size) (inside_given reading read name (behind names progress)) (inside_given reading read name progress) (λ bytes. inside_given-passes reading read passes name bytes names progress)

pub file_read-passes : (room : ℕ) (contents : Contents) (reading : List (List ℕ)) → IsPassingEach (file_read room contents reading)
unfolding file_read
file_read-passes zero contents reading name names progress = refl
file_read-passes (suc room) contents reading name names progress =
    let around = reading ++ name ∷ [] in
    met_behind-passes names progress.files (opens progress.walked progress.walked.open_ones)
    (λ walked. file_given around (file_read room contents around) contents name (walked_on (behind names progress) walked))
    (λ walked. file_given around (file_read room contents around) contents name (walked_on progress walked))
    (λ walked. file_given-passes around (file_read room contents around) (file_read-passes room contents around) contents name names (walked_on progress walked))

-- the files of a progress are a front of those of what comes of it
abbrev pub Grows : (Progress → Outcome) → Type 0
Grows on = (progress : Progress) → IsFront progress.files (files_in (on progress))

pub files_in-behind : (names : List (List ℕ)) (outcome : Outcome) → files_in (come_behind names outcome) ≡ names ++ files_in outcome
files_in-behind names (Ok progress) = refl
files_in-behind names (Err stopped) = refl

pub grows : (on : Progress → Outcome) → IsPassing on → Grows on
grows on passes progress =
    let bare : Progress = record { walked = progress.walked; files = []; size = progress.size } in
    record {
      rest = files_in (on bare);
      is_front =
          ap (λ t. files_in (on (record { walked = progress.walked; files = t; size = progress.size }))) (sym (append-nil progress.files))
          ∙ ap files_in (passes progress.files bare)
          ∙ files_in-behind progress.files (on bare);
    }
