use Rattle.std.proofs.Common.{◌≡◌, take}
use Rattle.smol_config.proofs.whole.make_names.Given as goal

-- the names so far are made
abbrev pub invariant-loop-number : goal.invariant-loop-number
invariant-loop-number l = l.made ≡ take l.number l.names
