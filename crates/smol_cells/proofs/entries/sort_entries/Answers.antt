use Rattle.std.proofs.Common.{rules}
use Rattle.std.proofs.lemmas.List.Sorted.{IsNonDecreasingBy-from_sort_by_key}
use Rattle.smol_cells.specs.declared.entries.Entry.{Entry}
use Rattle.smol_cells.proofs.entries.sort_entries.Goals as goal

pub returns-clause-rising : goal.returns-clause-rising
returns-clause-rising c =
    IsNonDecreasingBy-from_sort_by_key (λ (entry : Entry). entry.number) _ c.sort_unstable_by_key.ensures.sorted (λ a r q k. search rules)
