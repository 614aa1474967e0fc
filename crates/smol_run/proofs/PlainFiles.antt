-- A file without directives says what its expanded text says.
use Rattle.std.proofs.Common.{◌≡◌, ℕ, ◌<◌, ◌≤◌, Bool, true, false, List, [], length, Option, None, Some, IfSome, Result, Ok, Err, IfOk, refl, sym, ap, subst, ◌∙◌, arith, nat_lt, if◌then◌else◌}
use Rattle.std.specs.Prelude.{slice_index_or}
use Rattle.std.proofs.lemmas.Bool.Decides.{nat_tests}
use Rattle.smol_edge.specs.Source.{Reading}
use Rattle.smol_text.specs.Reading.{Stated, LinesFault, bad_byte, open_comment, too_many_lines, statements_of}
use Rattle.smol_types.specs.Fault.{kind_text}
use Rattle.smol_types.specs.declared.fault.Kind.{Kind}
use Rattle.smol_types.specs.declared.fault.Kind.TheVariants as kind
use Rattle.smol_line.specs.Checks.{with_value}
use Rattle.smol_line.specs.Fault.{Fault, fault_at}
use Rattle.smol_macro.specs.declared.expand_fault.MacroKind.{MacroKind}
use Rattle.smol_macro.specs.declared.expand_fault.MacroKind.TheVariants.{NotInProfile, RepeatedName, UnknownName, WrongWordCount, BadOrder, OpenBlock, TooMany, BadByte, OpenComment, TooLong, Cycle}
use Rattle.smol_macro.specs.Refusal.{Refusal, at, kind_text as macro_text}
use Rattle.smol_macro.specs.Files.{Contents}
use Rattle.smol_macro.specs.Including.{expanded}
use Rattle.smol_macro.specs.Plain.{is_plain, told, SaysTheSame}
use Rattle.smol_macro.proofs.PlainFile.{plain-long, plain-same}
use Rattle.smol_macro.proofs.ShortText.{expanded-short}
use Rattle.smol_config.specs.Reader.{config_from, config_of, lines_fault, lines_in}
use Rattle.smol_run.specs.declared.words.Job.{Job}
use Rattle.smol_run.specs.declared.words.Job.TheVariants.{File, Make}
use Rattle.smol_run.specs.Expanded.{kind_in, IsTold, stated_in, TellsTheSame, FileTellsTheSame, PlainFileTellsTheSame}

-- a text means what its statements do, or has the fault that comes before them
means : (text : List ℕ) → config_of text ≡ with_value (stated_in text) config_from
unfolding config_of
means text = by_length (nat_lt 4194304 (length text))
  where
    by_length : (long : Bool) → (if long then Err (fault_at 0 kind.TooLong) else with_value (lines_in (statements_of text)) config_from)
        ≡ with_value (if long then Err (fault_at 0 kind.TooLong) else lines_in (statements_of text)) config_from
    by_length true = refl
    by_length false = refl

stated_short : (text : List ℕ) → length text ≤ 4194304 → stated_in text ≡ lines_in (statements_of text)
stated_short text short =
    let test : nat_lt 4194304 (length text) ≡ false = grind (arith, nat_tests) in
    rw test refl

stated_long : (text : List ℕ) → 4194304 < length text → stated_in text ≡ Err (fault_at 0 kind.TooLong)
stated_long text long =
    let test : nat_lt 4194304 (length text) ≡ true = grind (arith, nat_tests) in
    rw test refl

-- short texts with the same statements mean the same
same_meaning : (file text : List ℕ) (statements : List Stated) → length file ≤ 4194304 → statements_of file ≡ Ok statements
    → length text ≤ 4194304 → statements_of text ≡ Ok statements → config_of text ≡ config_of file
same_meaning file text statements file_short file_says text_short text_says =
    means text ∙ ap (λ r. with_value r config_from) (stated_short text text_short ∙ ap lines_in text_says)
    ∙ sym (means file ∙ ap (λ r. with_value r config_from) (stated_short file file_short ∙ ap lines_in file_says))

-- a fault of lines is told with its line and kind
fault_told : (fault : LinesFault) → IsTold (lines_fault fault) (told fault)
fault_told (bad_byte line) = (refl, refl)
fault_told (open_comment line) = (refl, refl)
fault_told too_many_lines = (refl, refl)

-- a file that is refused before its statements are judged
refused_alike : (file : List ℕ) (fault : Fault) (refusal : Refusal) (outcome : Result (List ℕ) Refusal) → stated_in file ≡ Err fault
    → outcome ≡ Err refusal → IsTold fault refusal → TellsTheSame file (stated_in file) outcome
refused_alike file fault refusal outcome is refused told_so =
    let none : config_of file ≡ Err fault = means file ∙ ap (λ r. with_value r config_from) is in
    subst (λ r. TellsTheSame file r outcome) (sym is)
    (subst (λ o. TellsTheSame file (Err fault) o) (sym refused) (none, told_so))

-- a file that isn't too long, by what its lines say
short_alike : (file : List ℕ) (statements : Result (List Stated) LinesFault) (outcome : Result (List ℕ) Refusal) → length file ≤ 4194304
    → statements_of file ≡ statements → SaysTheSame statements outcome → IfOk outcome (λ text. length text ≤ 4194304)
    → TellsTheSame file (stated_in file) outcome
short_alike file (Err fault) outcome short is same kept =
    refused_alike file (lines_fault fault) (told fault) outcome (stated_short file short ∙ ap lines_in is) same (fault_told fault)
short_alike file (Ok statements) (Ok text) short is same kept =
    subst (λ r. TellsTheSame file r (Ok text)) (sym (stated_short file short ∙ ap lines_in is))
    (same_meaning file text statements short is kept same)
short_alike file (Ok statements) (Err refusal) short is same kept = absurd same

by_length : (contents : Contents) (name file : List ℕ) (long : Bool) → nat_lt 4194304 (length file) ≡ long → contents name ≡ Some file
    → is_plain file ≡ true → TellsTheSame file (stated_in file) (expanded contents name)
by_length contents name file true is there plain =
    let long : 4194304 < length file = grind (arith, nat_tests) in
    refused_alike file (fault_at 0 kind.TooLong) (at 0 TooLong) (expanded contents name) (stated_long file long)
    (plain-long contents name file there long) (refl, refl)
by_length contents name file false is there plain =
    let short : length file ≤ 4194304 = grind (arith, nat_tests) in
    short_alike file (statements_of file) (expanded contents name) short refl (plain-same contents name file there short plain)
    (expanded-short contents name)

-- a file without directives says what its expanded text says
pub plain_file_same : (contents : Contents) (name file : List ℕ) → contents name ≡ Some file → is_plain file ≡ true
    → TellsTheSame file (stated_in file) (expanded contents name)
plain_file_same contents name file there plain = by_length contents name file (nat_lt 4194304 (length file)) refl there plain

-- kinds of the same name are told in the same words
pub same_words : (kind : MacroKind) (own : Kind) → kind_in kind ≡ Some own → kind_text own ≡ macro_text kind
same_words NotInProfile own is = cc
same_words RepeatedName own is = cc
same_words UnknownName own is = cc
same_words WrongWordCount own is = cc
same_words BadOrder own is = cc
same_words OpenBlock own is = cc
same_words TooMany own is = cc
same_words BadByte own is = cc
same_words OpenComment own is = cc
same_words TooLong own is = cc
same_words Cycle own is = absurd cc

there_same : (contents : Contents) (name : List ℕ) (file : Option (List ℕ)) → contents name ≡ file
    → FileTellsTheSame contents name file
there_same contents name None is = tt
there_same contents name (Some file) is = λ plain. plain_file_same contents name file is plain

job_same : (job : Option Job) (words : List (List ℕ)) (contents : Contents) → PlainFileTellsTheSame job words contents
job_same None words contents = tt
job_same (Some (File index seed workers runs)) words contents =
    there_same contents (slice_index_or words index []) (contents (slice_index_or words index [])) refl
job_same (Some (Make n)) words contents = tt

-- whatever the words and the files are
pub all_plain_same : (job : Option Job) (words : List (List ℕ)) (a : Option Reading)
    → IfSome a (λ reading. PlainFileTellsTheSame job words reading.contents)
all_plain_same job words None = tt
all_plain_same job words (Some reading) = job_same job words reading.contents
