use Rattle.std.proofs.Common.{◌≡◌, ◌++◌, drop}
use Rattle.smol_meaning.specs.Lines.{coordinates_text}
use Rattle.smol_print.specs.Page.{BeginsWith}
use Rattle.smol_print.proofs.texts.add_coordinates.Given as goal

-- what is added so far, and the coordinates that are left
abbrev pub invariant-loop-x : goal.invariant-loop-x
invariant-loop-x l = record {
  added : l.page.items ++ coordinates_text (drop l.x-index l.xs) ≡ l.initial.page.items ++ coordinates_text l.xs;
  begins : BeginsWith l.initial.page.items l.page.items;
}
