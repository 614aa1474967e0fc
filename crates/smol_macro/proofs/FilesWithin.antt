-- What a line and a file come to, by what was done of them.
use Rattle.std.proofs.Common.{◌≡◌, ℕ, zero, suc, ◌+◌, ◌-◌, ◌<◌, List, [], ◌∷◌, ◌++◌, length, Result, Ok, Err, Vec, Global, refl, sym, ap, ◌∙◌, subst, arith}
use Rattle.smol_edge.specs.Source.{Reading}
use Rattle.smol_text.specs.declared.line_state.LineState.TheVariants.{Open}
use Rattle.smol_text.specs.Lines.{raw_lines}
use Rattle.smol_macro.specs.declared.expand_fault.MacroKind.TheVariants.{TooMany}
use Rattle.smol_macro.specs.declared.expand_fault.ExpandFault.{ExpandFault}
use Rattle.smol_macro.specs.declared.expand_fault.ExpandFault.TheVariants.{At, ReadFault, OutOfMemory}
use Rattle.smol_macro.specs.declared.walk.Walk.{Walk}
use Rattle.smol_macro.specs.declared.conditions.Conditions.{Conditions}
use Rattle.smol_macro.specs.Refusal.{RefusesLine, at}
use Rattle.smol_macro.specs.Conditions.{conditions_of}
use Rattle.smol_macro.specs.Files.{Contents, BeingRead, IsFront, ReadsFile, ReachesBytes, bytes_of}
use Rattle.smol_macro.specs.Expanding.{Walked, Taken, gave, asks, go_on, opens, line_taken}
use Rattle.smol_macro.specs.Including.{Progress, Outcome, met_behind, walked_on, carried_on, entered, left, lines_given, file_given, file_read, files_in}
use Rattle.smol_macro.specs.Walking.{walked_of, progress_of, Reaches, Reads, gives_line, gives_lines, gives_file}
use Rattle.smol_macro.proofs.Behind.{grows, inside_given, lines_given-passes, file_given-passes, file_read-passes}
use Rattle.smol_macro.proofs.Reaching.{fault_on, refusal_on, grows_met, grows_on, IsFront-same, IsFront-then}

-- no line gives anything behind the files of a line that asks for one where none more may be read
file_read-none : (contents : Contents) (reading : List (List ℕ)) (name : List ℕ) (progress : Progress) → file_read 0 contents reading name progress ≡ Err (record { refusal = at (progress.walked.given.lines + 1) TooMany; files = progress.files })
unfolding file_read
file_read-none contents reading name progress = refl

file_read-more : (room : ℕ) (contents : Contents) (reading : List (List ℕ)) (name : List ℕ) (progress : Progress) → 0 < room → file_read room contents reading name progress ≡ go_on (met_behind progress.files (opens progress.walked progress.walked.open_ones)) (λ walked. gives_file reading (room - 1) name contents (walked_on progress walked))
unfolding file_read
file_read-more zero contents reading name progress some = absurd (omega (arith, some))
file_read-more (suc room) contents reading name progress some =
    let less : room ≡ suc room - 1 = omega arith in
    ap (λ r. go_on (met_behind progress.files (opens progress.walked progress.walked.open_ones)) (λ walked. gives_file reading r name contents (walked_on progress walked))) less

-- a line that gives
pub line_gave : (reading : List (List ℕ)) (room : ℕ) (part : List ℕ) (walk further : Walk) (files : BeingRead) (a : Reading) → line_taken reading part (walked_of walk) ≡ Ok (gave (walked_of further)) → Reads (Ok tt) (gives_line reading room part) (progress_of walk files) (progress_of further files) a a
line_gave reading room part walk further files a is = record {
  contents = refl;
  asked = IsFront-same a.asked;
  reaches = ap (λ r. go_on (met_behind a.asked r) (carried_on (file_read room a.contents reading) (progress_of walk files a.asked))) is;
}

carried_on-grows : (reading : List (List ℕ)) (room : ℕ) (contents : Contents) (progress : Progress) (taken : Taken) → IsFront progress.files (files_in (carried_on (file_read room contents reading) progress taken))
carried_on-grows reading room contents progress (gave walked) = IsFront-same progress.files
carried_on-grows reading room contents progress (asks name) = grows (file_read room contents reading name) (file_read-passes room contents reading name) progress

-- one that is refused
pub line_refused : (reading : List (List ℕ)) (room : ℕ) (part : List ℕ) (walk further : Walk) (files kept : BeingRead) (fault : ExpandFault) (a : Reading) → RefusesLine fault (line_taken reading part (walked_of walk)) → Reads (Err fault) (gives_line reading room part) (progress_of walk files) (progress_of further kept) a a
line_refused reading room part walk further files kept fault a refused =
    let progress = progress_of walk files a.asked in
    let read = file_read room a.contents reading in
    record {
      contents = refl;
      asked = IsFront-same a.asked;
      reaches = refusal_on fault a.asked (line_taken reading part (walked_of walk)) (carried_on read progress) (progress_of further kept a.asked) (carried_on-grows reading room a.contents progress) refused;
    }

-- one that asks for a file
line_asks : (reading : List (List ℕ)) (room : ℕ) (part name : List ℕ) (contents : Contents) (progress : Progress) → line_taken reading part progress.walked ≡ Ok (asks name) → gives_line reading room part contents progress ≡ file_read room contents reading name progress
line_asks reading room part name contents progress is =
    ap (λ r. go_on (met_behind progress.files r) (carried_on (file_read room contents reading) progress)) is

-- where none more may be read
pub line_asks-none : (reading : List (List ℕ)) (room : ℕ) (part name : List ℕ) (walk further : Walk) (files kept : BeingRead) (a : Reading) → line_taken reading part (walked_of walk) ≡ Ok (asks name) → room ≡ 0 → Reads (Err (At (walk.output.lines + 1) TooMany)) (gives_line reading room part) (progress_of walk files) (progress_of further kept) a a
line_asks-none reading room part name walk further files kept a is none =
    let progress = progress_of walk files a.asked in
    record {
      contents = refl;
      asked = IsFront-same a.asked;
      reaches = line_asks reading room part name a.contents progress is ∙ ap (λ r. file_read r a.contents reading name progress) none ∙ file_read-none a.contents reading name progress;
    }

-- where its empty line is refused
pub line_asks-refused : (reading : List (List ℕ)) (room : ℕ) (part name : List ℕ) (walk further : Walk) (files kept : BeingRead) (fault : ExpandFault) (a : Reading) → line_taken reading part (walked_of walk) ≡ Ok (asks name) → 0 < room → RefusesLine fault (opens (walked_of walk) (walked_of walk).open_ones) → Reads (Err fault) (gives_line reading room part) (progress_of walk files) (progress_of further kept) a a
line_asks-refused reading room part name walk further files kept fault a is some refused =
    let progress = progress_of walk files a.asked in
    let around = reading ++ name ∷ [] in
    let on = λ (walked : Walked). gives_file reading (room - 1) name a.contents (walked_on progress walked) in
    record {
      contents = refl;
      asked = IsFront-same a.asked;
      reaches =
          subst (λ o. Reaches (Err fault) o (progress_of further kept a.asked) a.asked)
          (sym (line_asks reading room part name a.contents progress is ∙ file_read-more room a.contents reading name progress some))
          (refusal_on fault a.asked (opens (walked_of walk) (walked_of walk).open_ones) on (progress_of further kept a.asked)
          (λ walked. grows (file_given around (file_read (room - 1) a.contents around) a.contents name) (file_given-passes around (file_read (room - 1) a.contents around) (file_read-passes (room - 1) a.contents around) a.contents name) (walked_on progress walked)) refused);
    }

-- and where the file is given
pub line_asks-given : (reading : List (List ℕ)) (room : ℕ) (part name : List ℕ) (walk begun further : Walk) (files kept : BeingRead) (result : Result (Unit {0}) ExpandFault) (a b : Reading) → line_taken reading part (walked_of walk) ≡ Ok (asks name) → 0 < room → opens (walked_of walk) (walked_of walk).open_ones ≡ Ok (walked_of begun) → Reads result (gives_file reading (room - 1) name) (progress_of begun files) (progress_of further kept) a b → Reads result (gives_line reading room part) (progress_of walk files) (progress_of further kept) a b
line_asks-given reading room part name walk begun further files kept result a b is some begins reads =
    let progress = progress_of walk files a.asked in
    let on = λ (walked : Walked). gives_file reading (room - 1) name a.contents (walked_on progress walked) in
    record {
      contents = reads.contents;
      asked = reads.asked;
      reaches =
          subst (λ o. Reaches result o (progress_of further kept b.asked) b.asked)
          (sym (line_asks reading room part name a.contents progress is ∙ file_read-more room a.contents reading name progress some ∙ ap (λ r. go_on (met_behind a.asked r) on) begins))
          reads.reaches;
    }

-- the lines of a file have the files read before it, and it, in front
inside-grows : (reading : List (List ℕ)) (room : ℕ) (contents : Contents) (name : List ℕ) (progress : Progress) (bytes : List ℕ) → IsFront (progress.files ++ name ∷ []) (files_in (inside_given reading (file_read room contents reading) name progress bytes))
inside-grows reading room contents name progress bytes =
    let read = file_read room contents reading in
    let inside = entered progress name (length bytes) in
    let lines = lines_given reading read Open inside (raw_lines bytes) in
    let on = λ (inner : Progress). let r : Outcome = Ok (left progress inner) in r in
    IsFront-then (progress.files ++ name ∷ []) (files_in lines) (files_in (go_on lines on))
    (grows (λ p. lines_given reading read Open p (raw_lines bytes)) (lines_given-passes reading read (file_read-passes room contents reading) (raw_lines bytes) Open) inside)
    (grows_on lines on (λ inner. IsFront-same inner.files))

file_refused_of : (names : List (List ℕ)) (room : ℕ) (name : List ℕ) (contents : Contents) (progress last : Progress) (fault : ExpandFault) (asked : List (List ℕ)) → ReachesBytes (Err fault) (bytes_of contents name progress.size) (progress.files ++ name ∷ []) asked → Reaches (Err fault) (gives_file names room name contents progress) last asked
file_refused_of names room name contents progress last (At line kind) asked reached =
    let around = names ++ name ∷ [] in
    ap (λ r. go_on (met_behind (progress.files ++ name ∷ []) r) (inside_given around (file_read room contents around) name progress)) reached.0
    ∙ ap (λ t. Err (record { refusal = at line kind; files = t })) (sym reached.1)
file_refused_of names room name contents progress last ReadFault asked reached =
    let around = names ++ name ∷ [] in
    IsFront-then asked (progress.files ++ name ∷ []) (files_in (gives_file names room name contents progress)) reached
    (grows_met (progress.files ++ name ∷ []) (bytes_of contents name progress.size) (inside_given around (file_read room contents around) name progress) (inside-grows around room contents name progress))
file_refused_of names room name contents progress last OutOfMemory asked reached =
    let around = names ++ name ∷ [] in
    IsFront-then asked (progress.files ++ name ∷ []) (files_in (gives_file names room name contents progress)) reached
    (grows_met (progress.files ++ name ∷ []) (bytes_of contents name progress.size) (inside_given around (file_read room contents around) name progress) (inside-grows around room contents name progress))

-- a file whose bytes are refused
pub file_refused : (names : List (List ℕ)) (room : ℕ) (name : List ℕ) (walk further : Walk) (files kept : BeingRead) (fault : ExpandFault) (a b : Reading) → ReadsFile name (λ contents. bytes_of contents name files.size) (Err fault) a b → Reads (Err fault) (gives_file names room name) (progress_of walk files) (progress_of further kept) a b
file_refused names room name walk further files kept fault a b reads = record {
  contents = reads.contents;
  asked = reads.asked;
  reaches = file_refused_of names room name a.contents (progress_of walk files a.asked) (progress_of further kept b.asked) fault b.asked reads.reaches;
}

-- a file comes to what its lines come to
file_opened : (names : List (List ℕ)) (room : ℕ) (name : List ℕ) (walk inside : Walk) (files held : BeingRead) (bytes : Vec ℕ Global) (a b : Reading) → ReadsFile name (λ contents. bytes_of contents name files.size) (Ok bytes) a b → walked_of inside ≡ (record { given = walk.output; defined = (walked_of walk).defined; open_ones = [] }) → held.names ≡ names ++ name ∷ [] → held.size ≡ files.size + length bytes.items → gives_file names room name a.contents (progress_of walk files a.asked) ≡ go_on (gives_lines held.names room bytes.items b.contents (progress_of inside held b.asked)) (λ inner. Ok (left (progress_of walk files a.asked) inner))
file_opened names room name walk inside files held bytes a b reads entered_is names_are size_is =
    let around = names ++ name ∷ [] in
    let progress = progress_of walk files a.asked in
    let begins : progress_of inside held b.asked ≡ entered progress name (length bytes.items) =
    ap (λ w. record { walked = w; files = b.asked; size = held.size }) entered_is
    ∙ ap (λ t. record { walked = (entered progress name (length bytes.items)).walked; files = t; size = held.size }) reads.reaches.1
    ∙ ap (λ n. record { walked = (entered progress name (length bytes.items)).walked; files = a.asked ++ name ∷ []; size = n }) size_is in
    ap (λ r. go_on (met_behind (a.asked ++ name ∷ []) r) (inside_given around (file_read room a.contents around) name progress)) reads.reaches.0
    ∙ ap (λ p. go_on (gives_lines around room bytes.items a.contents p) (λ inner. Ok (left progress inner))) (sym begins)
    ∙ ap (λ n. go_on (gives_lines n room bytes.items a.contents (progress_of inside held b.asked)) (λ inner. Ok (left progress inner))) (sym names_are)
    ∙ ap (λ c. go_on (gives_lines held.names room bytes.items c (progress_of inside held b.asked)) (λ inner. Ok (left progress inner))) (sym reads.contents)

pub file_lines-refused : (names : List (List ℕ)) (room : ℕ) (name : List ℕ) (walk inside further last : Walk) (files held kept ended : BeingRead) (bytes : Vec ℕ Global) (fault : ExpandFault) (a b d : Reading) → ReadsFile name (λ contents. bytes_of contents name files.size) (Ok bytes) a b → walked_of inside ≡ (record { given = walk.output; defined = (walked_of walk).defined; open_ones = [] }) → held.names ≡ names ++ name ∷ [] → held.size ≡ files.size + length bytes.items → Reads (Err fault) (gives_lines held.names room bytes.items) (progress_of inside held) (progress_of further kept) b d → Reads (Err fault) (gives_file names room name) (progress_of walk files) (progress_of last ended) a d
file_lines-refused names room name walk inside further last files held kept ended bytes fault a b d reads entered_is names_are size_is lines =
    let on = λ (inner : Progress). let r : Outcome = Ok (left (progress_of walk files a.asked) inner) in r in
    record {
      contents = lines.contents ∙ reads.contents;
      asked = IsFront-then a.asked b.asked d.asked reads.asked lines.asked;
      reaches =
          subst (λ o. Reaches (Err fault) o (progress_of last ended d.asked) d.asked) (sym (file_opened names room name walk inside files held bytes a b reads entered_is names_are size_is))
          (fault_on fault (gives_lines held.names room bytes.items b.contents (progress_of inside held b.asked)) on (progress_of further kept d.asked) (progress_of last ended d.asked) d.asked (λ inner. IsFront-same inner.files) lines.reaches);
    }

pub file_lines-given : (names : List (List ℕ)) (room : ℕ) (name : List ℕ) (walk inside further last : Walk) (around : Conditions) (files held kept ended : BeingRead) (bytes : Vec ℕ Global) (a b d : Reading) → ReadsFile name (λ contents. bytes_of contents name files.size) (Ok bytes) a b → walked_of inside ≡ (record { given = walk.output; defined = (walked_of walk).defined; open_ones = [] }) → conditions_of around ≡ (walked_of walk).open_ones → held.names ≡ names ++ name ∷ [] → held.size ≡ files.size + length bytes.items → Reads (Ok tt) (gives_lines held.names room bytes.items) (progress_of inside held) (progress_of further kept) b d → walked_of last ≡ (record { given = further.output; defined = (walked_of further).defined; open_ones = conditions_of around }) → ended.size ≡ kept.size → Reads (Ok tt) (gives_file names room name) (progress_of walk files) (progress_of last ended) a d
file_lines-given names room name walk inside further last around files held kept ended bytes a b d reads entered_is around_is names_are size_is lines left_is size_stays =
    let progress = progress_of walk files a.asked in
    let ends : left progress (progress_of further kept d.asked) ≡ progress_of last ended d.asked =
    ap (λ c. record { walked = record { given = further.output; defined = (walked_of further).defined; open_ones = c }; files = d.asked; size = kept.size }) (sym around_is)
    ∙ ap (λ w. record { walked = w; files = d.asked; size = kept.size }) (sym left_is)
    ∙ ap (λ n. record { walked = walked_of last; files = d.asked; size = n }) (sym size_stays) in
    record {
      contents = lines.contents ∙ reads.contents;
      asked = IsFront-then a.asked b.asked d.asked reads.asked lines.asked;
      reaches =
          file_opened names room name walk inside files held bytes a b reads entered_is names_are size_is
          ∙ ap (λ o. go_on o (λ inner. Ok (left progress inner))) lines.reaches
          ∙ ap Ok ends;
    }
