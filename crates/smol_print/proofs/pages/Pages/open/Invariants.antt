use Rattle.std.proofs.Common.{◌≡◌, [], replicate}
use Rattle.smol_print.specs.Page.{all_bytes}
use Rattle.smol_print.proofs.pages.Pages.open.Given as goal

-- the pages so far are empty
abbrev pub invariant-loop-outlet : goal.invariant-loop-outlet
invariant-loop-outlet l = all_bytes l.pages.items ≡ replicate l._outlet []
