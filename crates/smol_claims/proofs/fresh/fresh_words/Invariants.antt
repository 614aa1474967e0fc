use Rattle.smol_claims.specs.Fresh.{AreFreshUpTo}
use Rattle.smol_claims.proofs.fresh.fresh_words.Given as goal

-- the counters of the pairs that were reached are set
abbrev pub invariant-loop-pair : goal.invariant-loop-pair
invariant-loop-pair l = AreFreshUpTo l.pair l.plan l.words.items
