use Rattle.std.proofs.Common.{◌≡◌, ◌≤◌, take}
use Rattle.std.specs.Prelude.{sum_by}
use Rattle.smol_types.specs.Placings.{placed_by}
use Rattle.smol_config.proofs.whole.are_few.Given as goal

abbrev pub invariant-loop-placing : goal.invariant-loop-placing
invariant-loop-placing l = record {
  summed : l.placed ≡ sum_by placed_by (take l.placing-index l.placings);
  few : l.placed ≤ l.most;
}
