use Rattle.std.proofs.Common.{◌≡◌, ◌∙◌, ◌+◌, get_or, sym, ap}
use Rattle.smol_cells.specs.Numbers.{box_at}
use Rattle.smol_cells.proofs.RunLemmas.{run_holds, run_within}
use Rattle.smol_cells.proofs.cells.Cells.run.Goals as goal

pub returns-clause-holds : goal.returns-clause-holds
returns-clause-holds c = λ places are q.
    let cells = c.args.self.now in
    let counts = cells.grid.counts in
    let starts = cells.starts.items in
    let first : c.start.result ≡ get_or starts (box_at counts c.args.first c.args.row c.args.layer) 0 =
    c.start.ensures.value ∙ ap (λ n. get_or starts n 0) c.number_at-first.ensures.value in
    let last : c.start-2.result ≡ get_or starts (box_at counts c.args.last c.args.row c.args.layer + 1) 0 =
    c.start-2.ensures.value ∙ ap (λ n. get_or starts (n + 1) 0) c.number_at-last.ensures.value in
    rw (first, last)
    (run_holds cells.grid places starts c.args.first c.args.last c.args.row c.args.layer q (sym cells.starts.ok.0 ∙ cells.boxed) are.starts c.requires.ordered c.requires.last c.requires.row c.requires.layer)

pub returns-clause-within : goal.returns-clause-within
returns-clause-within c = λ places are.
    let cells = c.args.self.now in
    let counts = cells.grid.counts in
    let starts = cells.starts.items in
    let first : c.start.result ≡ get_or starts (box_at counts c.args.first c.args.row c.args.layer) 0 =
    c.start.ensures.value ∙ ap (λ n. get_or starts n 0) c.number_at-first.ensures.value in
    let last : c.start-2.result ≡ get_or starts (box_at counts c.args.last c.args.row c.args.layer + 1) 0 =
    c.start-2.ensures.value ∙ ap (λ n. get_or starts (n + 1) 0) c.number_at-last.ensures.value in
    rw (first, last)
    (run_within cells.grid places starts c.args.first c.args.last c.args.row c.args.layer (sym cells.starts.ok.0 ∙ cells.boxed) are.starts c.requires.ordered c.requires.last c.requires.row c.requires.layer)
