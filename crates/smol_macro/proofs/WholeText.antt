-- What the first file comes to is its expanded text.
use Rattle.std.proofs.Common.{◌≡◌, ℕ, List, [], ◌∷◌, ◌++◌, Option, None, Some, IfSome, Result, Ok, Err, sym, ap, ◌∙◌, subst, append_assoc}
use Rattle.std.proofs.lemmas.List.{append-nil, append_cancel_left}
use Rattle.smol_edge.specs.Faults.{Tells}
use Rattle.smol_edge.specs.Source.{Reading}
use Rattle.smol_macro.specs.declared.expand_fault.ExpandFault.{ExpandFault}
use Rattle.smol_macro.specs.declared.expand_fault.ExpandFault.TheVariants.{At, ReadFault, OutOfMemory}
use Rattle.smol_macro.specs.declared.walk.Walk.{Walk}
use Rattle.smol_macro.specs.Refusal.{Refuses}
use Rattle.smol_macro.specs.Files.{Contents, BeingRead, IsFront, AsksFront, AsksAll}
use Rattle.smol_macro.specs.Expanding.{nothing_walked}
use Rattle.smol_macro.specs.Including.{Progress, Stopped, Outcome, nothing_yet, outcome_of, text_in, files_in, file_read, expanded, files_of}
use Rattle.smol_macro.specs.Walking.{walked_of, progress_of, Reads, gives_file}
use Rattle.smol_macro.proofs.Behind.{come_behind, behind, file_given-passes, file_read-passes, files_in-behind}
use Rattle.smol_macro.proofs.Reaching.{IsFront-same}

-- what the first file comes to, behind names that were asked for before
started : (walk : Walk) (files : BeingRead) (name : List ℕ) (contents : Contents) (asked : List (List ℕ)) → walked_of walk ≡ nothing_walked → files ≡ (record { names = []; size = 0 }) → gives_file files.names 15 name contents (progress_of walk files asked) ≡ come_behind asked (outcome_of contents name)
started walk files name contents asked walk_is files_are =
    ap (λ f. gives_file f.names 15 name contents (progress_of walk f asked)) files_are
    ∙ ap (λ w. gives_file [] 15 name contents (record { walked = w; files = asked; size = 0 })) walk_is
    ∙ ap (λ t. gives_file [] 15 name contents (record { walked = nothing_walked; files = t; size = 0 })) (sym (append-nil asked))
    ∙ file_given-passes (name ∷ []) (file_read 15 contents (name ∷ [])) (file_read-passes 15 contents (name ∷ [])) contents name asked nothing_yet

given_behind : (names : List (List ℕ)) (outcome : Outcome) (progress : Progress) → come_behind names outcome ≡ Ok progress → (text_in outcome ≡ Ok progress.walked.given.text) × (progress.files ≡ names ++ files_in outcome)
given_behind names (Ok inner) progress is =
    let same : behind names inner ≡ progress = cc in
    (ap (λ p. Ok p.walked.given.text) same, sym (ap (λ p. p.files) same))
given_behind names (Err stopped) progress is = absurd cc

refused_behind : (names : List (List ℕ)) (outcome : Outcome) (stopped : Stopped) → come_behind names outcome ≡ Err stopped → (text_in outcome ≡ Err stopped.refusal) × (stopped.files ≡ names ++ files_in outcome)
refused_behind names (Ok inner) stopped is = absurd cc
refused_behind names (Err inner) stopped is =
    let same : (record { refusal = inner.refusal; files = names ++ inner.files }) ≡ stopped = cc in
    (ap (λ s. Err s.refusal) same, sym (ap (λ s. s.files) same))

-- the text is the expanded one
pub expanded-given : (walk last : Walk) (files kept : BeingRead) (name : List ℕ) (a b : Reading) → walked_of walk ≡ nothing_walked → files ≡ (record { names = []; size = 0 }) → Reads (Ok tt) (gives_file files.names 15 name) (progress_of walk files) (progress_of last kept) a b → expanded a.contents name ≡ Ok last.output.text
unfolding expanded
expanded-given walk last files kept name a b walk_is files_are reads =
    (given_behind a.asked (outcome_of a.contents name) (progress_of last kept b.asked) (sym (started walk files name a.contents a.asked walk_is files_are) ∙ reads.reaches)).0

-- all files were asked for
pub all-asked : (walk last : Walk) (files kept : BeingRead) (name : List ℕ) (a b : Reading) → walked_of walk ≡ nothing_walked → files ≡ (record { names = []; size = 0 }) → Reads (Ok tt) (gives_file files.names 15 name) (progress_of walk files) (progress_of last kept) a b → AsksAll (λ contents. files_of contents name) a b
unfolding files_of
all-asked walk last files kept name a b walk_is files_are reads = record {
  contents = reads.contents;
  asked = (given_behind a.asked (outcome_of a.contents name) (progress_of last kept b.asked) (sym (started walk files name a.contents a.asked walk_is files_are) ∙ reads.reaches)).1;
}

-- a refusal is that of the file
pub expanded-refused : (walk last : Walk) (files kept : BeingRead) (name : List ℕ) (fault : ExpandFault) (a b : Reading) → walked_of walk ≡ nothing_walked → files ≡ (record { names = []; size = 0 }) → Reads (Err fault) (gives_file files.names 15 name) (progress_of walk files) (progress_of last kept) a b → Refuses fault (expanded a.contents name)
unfolding expanded
expanded-refused walk last files kept name (At line kind) a b walk_is files_are reads =
    (refused_behind a.asked (outcome_of a.contents name) _ (sym (started walk files name a.contents a.asked walk_is files_are) ∙ reads.reaches)).0
expanded-refused walk last files kept name ReadFault a b walk_is files_are reads = tt
expanded-refused walk last files kept name OutOfMemory a b walk_is files_are reads = tt

-- names that are a front of those behind the ones asked for before
front_behind : (before asked : List (List ℕ)) (names : List (List ℕ)) → IsFront before asked → IsFront asked (before ++ names) → (front : List (List ℕ)) × IsFront front names × (asked ≡ before ++ front)
front_behind before asked names grown front =
    let cut : before ++ names ≡ before ++ (grown.rest ++ front.rest) =
    front.is_front ∙ ap (λ t. t ++ front.rest) grown.is_front ∙ append_assoc before grown.rest front.rest in
    (grown.rest, record { rest = front.rest; is_front = append_cancel_left before names (grown.rest ++ front.rest) cut }, grown.is_front)

asks_front : (name : List ℕ) (a b : Reading) → b.contents ≡ a.contents → IsFront a.asked b.asked → IsFront b.asked (a.asked ++ files_of a.contents name) → AsksFront (λ contents. files_of contents name) a b
asks_front name a b same grown front =
    let f = front_behind a.asked b.asked (files_of a.contents name) grown front in
    record { contents = same; front = f.0; is_front = f.1; asked = f.2 }

all_front : (names whole : List (List ℕ)) → names ≡ whole → IsFront names whole
all_front names whole same = subst (λ t. IsFront names t) same (IsFront-same names)

-- the names that were asked for are a front of the files
pub front-asked : (walk last : Walk) (files kept : BeingRead) (name : List ℕ) (result : Result (Unit {0}) ExpandFault) (a b : Reading) → walked_of walk ≡ nothing_walked → files ≡ (record { names = []; size = 0 }) → Reads result (gives_file files.names 15 name) (progress_of walk files) (progress_of last kept) a b → AsksFront (λ contents. files_of contents name) a b
unfolding files_of
front-asked walk last files kept name (Ok value) a b walk_is files_are reads =
    asks_front name a b reads.contents reads.asked
    (all_front b.asked (a.asked ++ files_in (outcome_of a.contents name)) (given_behind a.asked (outcome_of a.contents name) (progress_of last kept b.asked) (sym (started walk files name a.contents a.asked walk_is files_are) ∙ reads.reaches)).1)
front-asked walk last files kept name (Err (At line kind)) a b walk_is files_are reads =
    asks_front name a b reads.contents reads.asked
    (all_front b.asked (a.asked ++ files_in (outcome_of a.contents name)) (refused_behind a.asked (outcome_of a.contents name) _ (sym (started walk files name a.contents a.asked walk_is files_are) ∙ reads.reaches)).1)
front-asked walk last files kept name (Err ReadFault) a b walk_is files_are reads =
    asks_front name a b reads.contents reads.asked
    (subst (λ t. IsFront b.asked t) (ap files_in (started walk files name a.contents a.asked walk_is files_are) ∙ files_in-behind a.asked (outcome_of a.contents name)) reads.reaches)
front-asked walk last files kept name (Err OutOfMemory) a b walk_is files_are reads =
    asks_front name a b reads.contents reads.asked
    (subst (λ t. IsFront b.asked t) (ap files_in (started walk files name a.contents a.asked walk_is files_are) ∙ files_in-behind a.asked (outcome_of a.contents name)) reads.reaches)

-- what is told before a call, by what is told before and after it
pub told_before : {T : Type 0} (a b : Option T) (P : T → T → Type 0) (Q : T → Type 0) → ((x y : T) → P x y → Q x) → Tells a b P → IfSome a Q
told_before None b P Q before told = tt
told_before (Some x) None P Q before told = absurd told
told_before (Some x) (Some y) P Q before told = before x y told
