use Rattle.std.proofs.Common.{◌≡◌, true, arith}
use Rattle.smol_cells.specs.Kept.{items_in}
use Rattle.smol_cells.specs.NearLeft.{near_left}
use Rattle.smol_cells.specs.Next.{IsNextRun, has_number}
use Rattle.smol_cells.proofs.Counting.{left_first, left_none}
use Rattle.smol_cells.proofs.NearLemmas.{known_in}
use Rattle.smol_cells.proofs.NextLemmas.{has_of_number}
use Rattle.smol_cells.proofs.Progress.{progress}
use Rattle.smol_cells.proofs.near.NearIterator.next.Goals as goal

pub returns-then-self-clause-steps : goal.returns-then-self-clause-steps
returns-then-self-clause-steps c =
    let near = c.args.self.now in
    let has = has_number (items_in near.cells.now near.boxes) in
    let yes_ : has near.next ≡ true = near.run near.next (omega arith) c.if-self.true in
    let known = known_in near.cells.now near.boxes near.next (has_of_number (items_in near.cells.now near.boxes) near.next yes_) in
    left_first has near.cells.now.count near.next near.next (omega arith) known (λ n above below. absurd (omega (arith, above, below))) yes_

pub returns-then-self-clause-goes : goal.returns-then-self-clause-goes
returns-then-self-clause-goes c = progress _ (λ _. tt) near_left _ _ _ (returns-then-self-clause-steps c)

pub returns-in_default-clause-steps : goal.returns-in_default-clause-steps
returns-in_default-clause-steps c =
    let near = c.args.self.now in
    let none = left_none (has_number (items_in near.cells.now near.boxes)) near.cells.now.count near.next c.in_default.ensures in
    (none, none)

pub returns-clause-steps : goal.returns-clause-steps
returns-clause-steps c =
    let near = c.args.self.now in
    let run = c.in-Some.run' in
    let has = has_number (items_in near.cells.now near.boxes) in
    let next : IsNextRun (items_in near.cells.now near.boxes) near.next run = c.in-Some.ensures in
    let yes_ : has run.start ≡ true = next.has run.start (omega arith) next.some in
    let known = known_in near.cells.now near.boxes run.start (has_of_number (items_in near.cells.now near.boxes) run.start yes_) in
    left_first has near.cells.now.count near.next run.start next.from known next.none yes_

pub returns-clause-goes : goal.returns-clause-goes
returns-clause-goes c = progress _ (λ _. tt) near_left _ _ _ (returns-clause-steps c)
