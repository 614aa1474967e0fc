use Rattle.std.proofs.Common.{◌≡◌, ◌++◌, take}
use Rattle.std.specs.List.{filter_map}
use Rattle.smol_meaning.specs.Events.{born}
use Rattle.smol_step.proofs.newborn.add_newborn.Given as goal

-- the products so far are in the list
abbrev pub invariant-loop-birth : goal.invariant-loop-birth
invariant-loop-birth l = l.mols.items ≡ l.initial.mols.items ++ filter_map (born l.panels) (take l.birth-index l.births)
