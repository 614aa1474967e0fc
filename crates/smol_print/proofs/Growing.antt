-- A page that grows begins with what it had.
use Rattle.std.proofs.Common.{◌≡◌, ◌≤◌, ℕ, List, ◌++◌, length, take, drop, arith, sym, ap, ◌∙◌}
use Rattle.std.proofs.Math.Seq.{take-append_seam, take-length}
use Rattle.std.proofs.lemmas.List.{take-append-drop, take-append-le, length-take}
use Rattle.smol_print.specs.Page.{BeginsWith}

pub begins_itself : (page : List ℕ) → BeginsWith page page
begins_itself page = take-length page

pub begins_longer : (page more : List ℕ) → BeginsWith page (page ++ more)
begins_longer page more = take-append_seam page more

-- what a page begins with has no more bytes
no_longer : (old new : List ℕ) → BeginsWith old new → length old ≤ length new
no_longer old new begins = omega (arith, sym (length-take (length old) new) ∙ ap length begins)

-- a page that grows twice
pub begins_still : (first second third : List ℕ) → BeginsWith first second → BeginsWith second third → BeginsWith first third
begins_still first second third once twice =
    let short = no_longer first second once in
    let cut : third ≡ second ++ drop (length second) third =
    sym (take-append-drop (length second) third) ∙ ap (λ front. front ++ drop (length second) third) twice in
    ap (take (length first)) cut ∙ take-append-le (length first) second (drop (length second) third) short ∙ once

-- a page to which a text was added grows on
pub begins_after : (first second more third : List ℕ) → BeginsWith first second → third ≡ second ++ more → BeginsWith first third
begins_after first second more third once is = begins_still first second third once (ap (take (length second)) is ∙ begins_longer second more)

pub ruleset growing = (begins_itself, begins_longer, begins_still, begins_after)
