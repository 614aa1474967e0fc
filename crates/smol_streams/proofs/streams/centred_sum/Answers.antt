use Rattle.std.proofs.Common.{◌≡◌, ℕ, sum, flat_map, subst, arith}
use Rattle.std.proofs.lemmas.Int.{ints}
use Rattle.smol_streams.specs.Displacement.{draws_of, words_from}
use Rattle.smol_streams.proofs.Draws.{drawn, more_draws}
use Rattle.smol_streams.proofs.streams.centred_sum.Goals as goal

pub loop-preserved : goal.loop-preserved
loop-preserved c =
    let g = c.args.generator.now in
    let next = drawn g c.loop.generator c.next_word.new.self c.next_word.result c.args.stream c.args.place c.loop.counter c.requires (omega arith)
    c.loop.invariant.stands c.next_word.ensures in
    record {
      stands = next.1;
      so_far = more_draws g.key c.args.stream c.args.place c.loop.counter c.loop.sum c.next_word.result c.sum_of_draws-sum.result
          c.loop.invariant.so_far next.0 c.sum_of_draws-sum.ensures.value;
      small = omega arith;
    }

pub returns-clause-value : goal.returns-clause-value
returns-clause-value c =
    let six : c.loop.counter ≡ 6 = omega arith in
    let all = subst (λ (n : ℕ). c.loop.sum ≡ sum (flat_map draws_of (words_from c.args.generator.now.key c.args.stream c.args.place n))) six c.loop.invariant.so_far in
    omega (arith, ints)
