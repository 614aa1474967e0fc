use Rattle.std.proofs.Common.{◌≡◌, ◌++◌, drop}
use Rattle.smol_meaning.specs.Lines.{spaced}
use Rattle.smol_print.specs.Page.{BeginsWith}
use Rattle.smol_print.proofs.texts.add_numbers.Given as goal

-- what is added so far, and the numbers that are left
abbrev pub invariant-loop-number : goal.invariant-loop-number
invariant-loop-number l = record {
  added : l.page.items ++ spaced (drop l.number-index l.numbers) ≡ l.initial.page.items ++ spaced l.numbers;
  begins : BeginsWith l.initial.page.items l.page.items;
}
