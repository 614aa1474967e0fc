use Rattle.std.proofs.Common.{◌≡◌, ◌+◌, ◌*◌, ◌^◌, min}
use Rattle.smol_num.proofs.scale.times_ten.Given as goal

abbrev pub invariant-loop-turn : goal.invariant-loop-turn
invariant-loop-turn l = l.size ≡ min (l.fn.size * 10 ^ l._turn) (10 ^ 18 + 1)
