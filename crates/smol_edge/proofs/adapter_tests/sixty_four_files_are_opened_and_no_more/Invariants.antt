use Rattle.std.proofs.Common.{◌≡◌, ◌+◌}
use Rattle.smol_edge.proofs.adapter_tests.sixty_four_files_are_opened_and_no_more.Given as goal

abbrev pub invariant-loop-outlet : goal.invariant-loop-outlet
invariant-loop-outlet g l = 2 + l.outlets.opened ≡ l.outlet-counter
