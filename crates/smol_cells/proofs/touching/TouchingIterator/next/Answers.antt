use Rattle.std.proofs.Common.{◌∙◌, ◌+◌, ◌∷◌, ◌++◌, List, ℕ, sym, ap, arith}
use Rattle.smol_cells.specs.Kept.{items_between}
use Rattle.smol_cells.specs.TouchingLeft.{behind_row, touching_left}
use Rattle.smol_cells.proofs.Progress.{progress}
use Rattle.smol_cells.proofs.RowLemmas.{items_first}
use Rattle.smol_cells.proofs.touching.TouchingIterator.next.Goals as goal

pub overflow_add-self : goal.overflow_add-self
overflow_add-self c =
    let here = c.loop-self.self in
    record { fits = omega (arith, c.loop-self-test.false, here.run, here.cells.now.small) }

pub returns-clause-steps : goal.returns-clause-steps
returns-clause-steps c =
    let here = c.loop-self.self in
    let behind = behind_row here.cells.now here.boxes here.z here.y in
    sym c.loop-self.invariant
    ∙ ap (λ (xs : List ℕ). xs ++ behind) (items_first here.cells.now here.at here.end c.loop-self-test.false)
    ∙ ap (λ (n : ℕ). n ∷ (items_between here.cells.now (here.at + 1) here.end ++ behind)) (sym c.item-index.ensures.value)

pub returns-clause-goes : goal.returns-clause-goes
returns-clause-goes c = progress _ (λ _. tt) touching_left _ _ _ (returns-clause-steps c)
