use Rattle.std.proofs.Common.{◌≡◌, length, unsigned_abs}
use Rattle.smol_reactions.proofs.Rated.{first_rated}
use Rattle.smol_reactions.proofs.rates.give_thresholds.Given as goal

-- the reactions before this number have their thresholds
abbrev pub invariant-loop-number : goal.invariant-loop-number
invariant-loop-number l = record {
  list : l.list.items ≡ first_rated (unsigned_abs l.step) l.fn.list.items l.number;
  end : l.number-end ≡ length l.fn.list.items;
}
