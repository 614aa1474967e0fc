use Rattle.std.proofs.Common.{◌≡◌, ◌<◌, ℕ, [], get_or}
use Rattle.smol_print.specs.Page.{all_bytes}
use Rattle.smol_print.proofs.pages.Pages.clear.Given as goal

-- the pages so far are empty
abbrev pub invariant-loop-page : goal.invariant-loop-page
invariant-loop-page l = (k : ℕ) → k < l.page-index → get_or (all_bytes l.page-items) k [] ≡ []
