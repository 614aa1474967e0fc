use Rattle.std.proofs.Common.{◌≡◌, ◌++◌, drop}
use Rattle.smol_meaning.specs.Lines.{spaced_signed}
use Rattle.smol_print.specs.Page.{BeginsWith}
use Rattle.smol_print.proofs.texts.add_signed_numbers.Given as goal

-- what is added so far, and the numbers that are left
abbrev pub invariant-loop-number : goal.invariant-loop-number
invariant-loop-number l = record {
  added : l.page.items ++ spaced_signed (drop l.number-index l.numbers) ≡ l.initial.page.items ++ spaced_signed l.numbers;
  begins : BeginsWith l.initial.page.items l.page.items;
}
