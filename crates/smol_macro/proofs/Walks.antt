-- Walking on from a line of a file.
use Rattle.std.proofs.Common.{◌≡◌, ℕ, ◌+◌, ◌-◌, ◌<◌, ◌≤◌, ◌∷◌, [], List, length, take, drop, true, false, Ok, Err, Result, OnOk, IfErr, refl, sym, ap, subst, ◌∙◌, arith}
use Rattle.std.proofs.Math.ListN.{drop_of_length-le}
use Rattle.std.proofs.lemmas.List.{length-drop, take_all, drop-drop}
use Rattle.smol_edge.specs.Source.{Reading}
use Rattle.smol_text.specs.declared.line_state.LineState.{LineState}
use Rattle.smol_text.specs.declared.line_state.LineState.TheVariants.{Open, Commented, Ended}
use Rattle.smol_text.specs.Lines.{raw_lines}
use Rattle.smol_text.specs.Reading.{is_ended}
use Rattle.smol_macro.specs.declared.expand_fault.ExpandFault.{ExpandFault}
use Rattle.smol_macro.specs.declared.walk.Walk.{Walk}
use Rattle.smol_macro.specs.Refusal.{RefusesLine}
use Rattle.smol_macro.specs.Files.{BeingRead, IsFront}
use Rattle.smol_macro.specs.Expanding.{Walked, go_on, part_read, next_standing, end_given}
use Rattle.smol_macro.specs.Including.{Progress, Outcome, met_behind, walked_on, line_given, file_ended, lines_given, file_read}
use Rattle.smol_macro.specs.Walking.{walked_of, progress_of, Reaches, Reads, gives_line, gives_lines}
use Rattle.smol_macro.proofs.Behind.{grows, lines_given-passes, file_read-passes}
use Rattle.smol_macro.proofs.Reaching.{fault_on, refusal_on, IsFront-same, IsFront-then}

-- one more line: where the file hasn't ended, it gives what it gives, and then the lines behind it do
pub lines_given-cons : (reading : List (List ℕ)) (read : List ℕ → Progress → Outcome) (standing next : LineState) (progress : Progress) (line : List ℕ) (lines : List (List ℕ)) → is_ended standing ≡ false → next ≡ next_standing standing progress.walked line → lines_given reading read standing progress (line ∷ lines) ≡ go_on (line_given reading read standing next progress line) (λ further. lines_given reading read next further lines)
lines_given-cons reading read standing next progress line lines here is = rw (here, is) refl

-- behind the line that ended the file nothing is given
pub lines_given-ended : (reading : List (List ℕ)) (read : List ℕ → Progress → Outcome) (standing : LineState) (progress : Progress) (lines : List (List ℕ)) → is_ended standing ≡ true → lines_given reading read standing progress lines ≡ file_ended standing progress
lines_given-ended reading read Open progress lines ended = absurd (let no : false ≡ true = ended in cc)
lines_given-ended reading read (Commented opened) progress lines ended = absurd (let no : false ≡ true = ended in cc)
lines_given-ended reading read Ended progress [] ended = refl
lines_given-ended reading read Ended progress (line ∷ lines) ended = refl

-- nor behind the last line
pub lines_given-past : (reading : List (List ℕ)) (read : List ℕ → Progress → Outcome) (bytes : List ℕ) (place : ℕ) (standing : LineState) (progress : Progress) → length bytes ≤ place → lines_given reading read standing progress (raw_lines (drop place bytes)) ≡ file_ended standing progress
lines_given-past reading read bytes place standing progress past =
    ap (λ t. lines_given reading read standing progress (raw_lines t)) (drop_of_length-le bytes (omega arith))

-- the lines from a place on are the first one and those behind it
pub raw_lines-on : (bytes : List ℕ) (place : ℕ) (line : List ℕ) → place < length bytes → raw_lines (take (length bytes - place) (drop place bytes)) ≡ line ∷ raw_lines (drop (length line + 1) (take (length bytes - place) (drop place bytes))) → raw_lines (drop place bytes) ≡ line ∷ raw_lines (drop (place + length line + 1) bytes)
raw_lines-on bytes place line within cut =
    let whole : take (length bytes - place) (drop place bytes) ≡ drop place bytes = take_all (length bytes - place) (drop place bytes) (omega (arith, length-drop place bytes)) in
    let same : drop (length line + 1) (drop place bytes) ≡ drop (place + length line + 1) bytes = drop-drop (length line + 1) place bytes ∙ ap (λ k. drop k bytes) (omega arith) in
    ap raw_lines (sym whole) ∙ cut ∙ ap (λ t. line ∷ raw_lines (drop (length line + 1) t)) whole ∙ ap (λ t. line ∷ raw_lines t) same

-- the lines left of a file, from how far the walk has come, come to what all of them do
pub record IsOnWay (reading : List (List ℕ)) (room : ℕ) (bytes : List ℕ) (walk walked : Walk) (files held : BeingRead) (standing : LineState) (lines : List (List ℕ)) (before after : Reading) : Type 0 where
  pub contents : after.contents ≡ before.contents
  pub asked : IsFront before.asked after.asked
  pub same : lines_given reading (file_read room before.contents reading) standing (progress_of walked held after.asked) lines ≡ gives_lines reading room bytes before.contents (progress_of walk files before.asked)

-- a line that gives
pub on_way-next : (reading names : List (List ℕ)) (room : ℕ) (bytes : List ℕ) (walk walked further : Walk) (files held kept : BeingRead) (standing next : LineState) (here : List (List ℕ)) (line part : List ℕ) (lines : List (List ℕ)) (a b d : Reading) → names ≡ reading → here ≡ line ∷ lines → is_ended standing ≡ false → next ≡ next_standing standing (walked_of walked) line → part ≡ part_read standing next line → IsOnWay reading room bytes walk walked files held standing here a b → Reads (Ok tt) (gives_line names room part) (progress_of walked held) (progress_of further kept) b d → IsOnWay reading room bytes walk further files kept next lines a d
on_way-next reading names room bytes walk walked further files held kept standing next here line part lines a b d same_names is stands next_is part_is way reads =
    let read = file_read room a.contents reading in
    let progress = progress_of walked held b.asked in
    let gives : line_given reading read standing next progress line ≡ Ok (progress_of further kept d.asked) =
    subst (λ c. line_given reading (file_read room c reading) standing next progress line ≡ Ok (progress_of further kept d.asked)) way.contents
    (subst (λ p. gives_line reading room p b.contents progress ≡ Ok (progress_of further kept d.asked)) part_is
    (subst (λ n. gives_line n room part b.contents progress ≡ Ok (progress_of further kept d.asked)) same_names reads.reaches)) in
    record {
      contents = reads.contents ∙ way.contents;
      asked = IsFront-then a.asked b.asked d.asked way.asked reads.asked;
      same =
          sym (ap (λ o. go_on o (λ on. lines_given reading read next on lines)) gives)
          ∙ sym (lines_given-cons reading read standing next progress line lines stands next_is)
          ∙ sym (ap (lines_given reading read standing progress) is)
          ∙ way.same;
    }

-- a line at which it ends
pub on_way-fault : (reading names : List (List ℕ)) (room : ℕ) (bytes : List ℕ) (walk walked further last : Walk) (files held kept ended : BeingRead) (standing next : LineState) (here : List (List ℕ)) (line part : List ℕ) (lines : List (List ℕ)) (fault : ExpandFault) (a b d : Reading) → names ≡ reading → here ≡ line ∷ lines → is_ended standing ≡ false → next ≡ next_standing standing (walked_of walked) line → part ≡ part_read standing next line → IsOnWay reading room bytes walk walked files held standing here a b → Reads (Err fault) (gives_line names room part) (progress_of walked held) (progress_of further kept) b d → Reads (Err fault) (gives_lines reading room bytes) (progress_of walk files) (progress_of last ended) a d
on_way-fault reading names room bytes walk walked further last files held kept ended standing next here line part lines fault a b d same_names is stands next_is part_is way reads =
    let read = file_read room a.contents reading in
    let progress = progress_of walked held b.asked in
    let reached : Reaches (Err fault) (line_given reading read standing next progress line) (progress_of further kept d.asked) d.asked =
    subst (λ c. Reaches (Err fault) (line_given reading (file_read room c reading) standing next progress line) (progress_of further kept d.asked) d.asked) way.contents
    (subst (λ p. Reaches (Err fault) (gives_line reading room p b.contents progress) (progress_of further kept d.asked) d.asked) part_is
    (subst (λ n. Reaches (Err fault) (gives_line n room part b.contents progress) (progress_of further kept d.asked) d.asked) same_names reads.reaches)) in
    let on = λ (further : Progress). lines_given reading read next further lines in
    let whole : go_on (line_given reading read standing next progress line) on ≡ gives_lines reading room bytes a.contents (progress_of walk files a.asked) =
    sym (lines_given-cons reading read standing next progress line lines stands next_is)
    ∙ sym (ap (lines_given reading read standing progress) is)
    ∙ way.same in
    record {
      contents = reads.contents ∙ way.contents;
      asked = IsFront-then a.asked b.asked d.asked way.asked reads.asked;
      reaches =
          subst (λ o. Reaches (Err fault) o (progress_of last ended d.asked) d.asked) whole
          (fault_on fault (line_given reading read standing next progress line) on (progress_of further kept d.asked) (progress_of last ended d.asked) d.asked
          (grows on (lines_given-passes reading read (file_read-passes room a.contents reading) lines next)) reached);
    }

-- the end of a file
pub on_way-end : (reading : List (List ℕ)) (room : ℕ) (bytes : List ℕ) (walk walked : Walk) (files held : BeingRead) (standing : LineState) (lines : List (List ℕ)) (a b : Reading) → lines_given reading (file_read room a.contents reading) standing (progress_of walked held b.asked) lines ≡ file_ended standing (progress_of walked held b.asked) → IsOnWay reading room bytes walk walked files held standing lines a b → end_given standing (walked_of walked) ≡ Ok (walked_of walked) → Reads (Ok tt) (gives_lines reading room bytes) (progress_of walk files) (progress_of walked held) a b
on_way-end reading room bytes walk walked files held standing lines a b last way ended = record {
  contents = way.contents;
  asked = way.asked;
  reaches = sym way.same ∙ last ∙ ap (λ r. go_on (met_behind b.asked r) (λ w. Ok (walked_on (progress_of walked held b.asked) w))) ended;
}

pub on_way-end_fault : (reading : List (List ℕ)) (room : ℕ) (bytes : List ℕ) (walk walked : Walk) (files held : BeingRead) (standing : LineState) (lines : List (List ℕ)) (fault : ExpandFault) (a b : Reading) → lines_given reading (file_read room a.contents reading) standing (progress_of walked held b.asked) lines ≡ file_ended standing (progress_of walked held b.asked) → IsOnWay reading room bytes walk walked files held standing lines a b → RefusesLine fault (end_given standing (walked_of walked)) → Reads (Err fault) (gives_lines reading room bytes) (progress_of walk files) (progress_of walked held) a b
on_way-end_fault reading room bytes walk walked files held standing lines fault a b last way refused =
    let progress = progress_of walked held b.asked in
    let on = λ (w : Walked). let r : Outcome = Ok (walked_on progress w) in r in
    record {
      contents = way.contents;
      asked = way.asked;
      reaches =
          subst (λ o. Reaches (Err fault) o progress b.asked) (sym last ∙ way.same)
          (refusal_on fault b.asked (end_given standing (walked_of walked)) on progress (λ w. IsFront-same b.asked) refused);
    }

-- the same whether it is refused or not
pub on_way-ended : (reading : List (List ℕ)) (room : ℕ) (bytes : List ℕ) (walk walked : Walk) (files held : BeingRead) (standing : LineState) (lines : List (List ℕ)) (result : Result (Unit {0}) ExpandFault) (a b : Reading) → lines_given reading (file_read room a.contents reading) standing (progress_of walked held b.asked) lines ≡ file_ended standing (progress_of walked held b.asked) → OnOk result (end_given standing (walked_of walked) ≡ Ok (walked_of walked)) → IfErr result (λ fault. RefusesLine fault (end_given standing (walked_of walked))) → IsOnWay reading room bytes walk walked files held standing lines a b → Reads result (gives_lines reading room bytes) (progress_of walk files) (progress_of walked held) a b
on_way-ended reading room bytes walk walked files held standing lines (Ok value) a b last ended refused way = on_way-end reading room bytes walk walked files held standing lines a b last way ended
on_way-ended reading room bytes walk walked files held standing lines (Err fault) a b last ended refused way = on_way-end_fault reading room bytes walk walked files held standing lines fault a b last way refused
