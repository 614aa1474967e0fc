use Rattle.std.proofs.Common.{◌≡◌, length}
use Rattle.smol_sweep.specs.Seeds.{AreGiven}
use Rattle.smol_sweep.proofs.runs.runs_in_turn.Given as goal

-- the runs made so far
abbrev pub invariant-loop-made : goal.invariant-loop-made
invariant-loop-made g l = record {
  count : length l.outs.items ≡ l.made;
  given : AreGiven (g.O.OneRun.gives l.one) l.first l.number l.outs.items;
}
