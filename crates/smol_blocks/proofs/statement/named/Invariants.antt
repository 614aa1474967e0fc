use Rattle.std.proofs.Common.{◌≡◌, drop, map}
use Rattle.smol_blocks.specs.Statement.{named}
use Rattle.smol_blocks.proofs.statement.named.Given as goal

-- the word stands for what it stands for in the rest of the table
abbrev pub invariant-loop-entry : goal.invariant-loop-entry
invariant-loop-entry l =
    named (map (λ entry. (entry.0.now, entry.1)) l.table) l.word ≡ named (map (λ entry. (entry.0.now, entry.1)) (drop l.entry-index l.table)) l.word
