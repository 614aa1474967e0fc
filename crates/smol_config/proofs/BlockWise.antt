-- Reading a block as a whole is reading its lines one after the other.
use Rattle.std.proofs.Common.{◌≡◌, ◌+◌, ◌∷◌, [], ℕ, true, List, drop, Some, Result, Ok, Err, refl, sym, ap, ◌∙◌, subst}
use Rattle.std.proofs.lemmas.List.{drop-drop}
use Rattle.smol_text.specs.Reading.{Stated}
use Rattle.smol_types.specs.declared.fault.Kind.{Kind}
use Rattle.smol_line.specs.Checks.{with_value}
use Rattle.smol_line.specs.Fault.{Fault, at_line, fault_at}
use Rattle.smol_blocks.specs.Blocks.{block_of, opening_line}
use Rattle.smol_blocks.specs.BlockReads.{said_with, stays_open}
use Rattle.smol_blocks.specs.BlockText.{InBlock, passes, says, ends, behind_line, block_from}
use Rattle.smol_blocks.proofs.BlockReading.{block_from-next, block_from-closed}
use Rattle.smol_config.specs.Said.{Said}
use Rattle.smol_config.specs.Blocks.{blocks_said}
use Rattle.smol_config.specs.Reader.{line_in, read_from}
use Rattle.smol_config.specs.SoFar.{IsSoFar}
use Rattle.smol_config.specs.Whole.{whole_in}
use Rattle.smol_config.proofs.Reading.{read_from-next, read_from-refused, whole_open}
use Rattle.smol_config.proofs.Rules.{line_keeps}

-- the lines from the next index on
from_next : {T : Type 0} (all : List T) (at : ℕ) (line : T) (lines : List T) → line ∷ lines ≡ drop at all → lines ≡ drop (at + 1) all
from_next all at line lines is = ap (drop 1) is ∙ drop-drop 1 at all

-- how reading on line by line ends, by how the block does: behind the line that closes it, or with its fault
abbrev pub Ends : {S : Type 0} → (List Said → List S → Type 0) → (List S → InBlock S → Said) → List Stated → List Said → List Stated → Result (List S × ℕ) Fault → Type 0
Ends Inside told all before lines (Ok read) =
    (after : List Said) × Inside after read.0 × IsSoFar (told read.0 ends ∷ after) × (read_from before lines ≡ read_from (told read.0 ends ∷ after) (drop read.1 all))
Ends Inside told all before lines (Err fault) = with_value (read_from before lines) whole_in ≡ Err fault

-- what the lines of a block say, told as what lines of a configuration say
module _ {S : Type 0} (rule : List S → Stated → Result (InBlock S) Kind) (Inside : List Said → List S → Type 0) (told : List S → InBlock S → Said)
    (judged : (before : List Said) (said : List S) (line : Stated) → Inside before said → line_in before line ≡ with_value (rule said line) (λ one. Ok (told said one)))
    (kept : (before : List Said) (said : List S) (one : InBlock S) → stays_open one ≡ true → Inside before said → Inside (told said one ∷ before) (said_with one said))
    (opened : ℕ) (opening : (before : List Said) (said : List S) → Inside before said → opening_line (block_of (blocks_said before)) ≡ Some opened)
    (all : List Stated) where
  -- one line more before them
  ends_before : (before : List Said) (said : Said) (line : Stated) (lines : List Stated) (read : Result (List S × ℕ) Fault) → line_in before line ≡ Ok said → Ends Inside told all (said ∷ before) lines read → Ends Inside told all before (line ∷ lines) read
  ends_before before said line lines (Ok read) fine e = (e.0, e.1, e.2, read_from-next before line lines said fine ∙ e.3)
  ends_before before said line lines (Err fault) fine e = ap (λ (r : Result (List Said) Fault). with_value r whole_in) (read_from-next before line lines said fine) ∙ e

  -- the line of a block is a line of the configuration
  line_is : (before : List Said) (said : List S) (line : Stated) (found : Result (InBlock S) Kind) → rule said line ≡ found → Inside before said → line_in before line ≡ with_value found (λ one. Ok (told said one))
  line_is before said line found is inside = judged before said line inside ∙ ap (λ (f : Result (InBlock S) Kind). with_value f (λ one. Ok (told said one))) is

  ends_by : (before : List Said) (said : List S) (at : ℕ) (line : Stated) (lines : List Stated) (found : Result (InBlock S) Kind) → rule said line ≡ found → line ∷ lines ≡ drop at all → Inside before said → IsSoFar before
      → ((before : List Said) (said : List S) → Inside before said → IsSoFar before → Ends Inside told all before lines (block_from rule opened said (at + 1) lines))
      → Ends Inside told all before (line ∷ lines) (block_from rule opened said at (line ∷ lines))
  ends_by before said at line lines (Err kind) is here inside sound rest =
      let fault : block_from rule opened said at (line ∷ lines) ≡ Err (fault_at line.number kind) = ap (λ (f : Result (InBlock S) Kind). with_value (at_line line.number f) (behind_line said (at + 1) (λ more. block_from rule opened more (at + 1) lines))) is in
      subst (Ends Inside told all before (line ∷ lines)) (sym fault) (ap (λ (r : Result (List Said) Fault). with_value r whole_in) (read_from-refused before line lines kind (line_is before said line (Err kind) is inside)))
  ends_by before said at line lines (Ok passes) is here inside sound rest =
      let fine = line_is before said line (Ok passes) is inside in
      subst (Ends Inside told all before (line ∷ lines)) (sym (block_from-next rule opened said at line lines passes is refl))
      (ends_before before (told said passes) line lines _ fine (rest (told said passes ∷ before) said (kept before said passes refl inside) (line_keeps before line (told said passes) fine sound)))
  ends_by before said at line lines (Ok (says more)) is here inside sound rest =
      let fine = line_is before said line (Ok (says more)) is inside in
      subst (Ends Inside told all before (line ∷ lines)) (sym (block_from-next rule opened said at line lines (says more) is refl))
      (ends_before before (told said (says more)) line lines _ fine (rest (told said (says more) ∷ before) (more ∷ said) (kept before said (says more) refl inside) (line_keeps before line (told said (says more)) fine sound)))
  ends_by before said at line lines (Ok ends) is here inside sound rest =
      let fine = line_is before said line (Ok ends) is inside in
      subst (Ends Inside told all before (line ∷ lines)) (sym (block_from-closed rule opened said at line lines ends is refl))
      (before, inside, line_keeps before line (told said ends) fine sound, read_from-next before line lines (told said ends) fine ∙ ap (read_from (told said ends ∷ before)) (from_next all at line lines here))

  -- a block that is read as a whole ends as its lines do
  pub block_ends : (lines : List Stated) (before : List Said) (said : List S) (at : ℕ) → lines ≡ drop at all → Inside before said → IsSoFar before → Ends Inside told all before lines (block_from rule opened said at lines)
  block_ends [] before said at here inside sound = whole_open before opened (sym (opening before said inside))
  block_ends (line ∷ lines) before said at here inside sound =
      ends_by before said at line lines (rule said line) refl here inside sound (λ before said inside sound. block_ends lines before said (at + 1) (from_next all at line lines here) inside sound)
