use Rattle.std.proofs.Common.{◌≡◌, ◌++◌, take}
use Rattle.smol_blocks.proofs.blocks.append.Given as goal

-- the first of the further panels stand behind the others
abbrev pub invariant-loop-panel : goal.invariant-loop-panel
invariant-loop-panel l = l.all ≡ l.fn.all ++ take l.panel-index l.more
