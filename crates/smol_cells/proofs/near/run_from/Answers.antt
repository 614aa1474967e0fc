use Rattle.std.proofs.Common.{◌-◌, arith}
use Rattle.smol_cells.proofs.NextLemmas.{number_in, number_out}
use Rattle.smol_cells.proofs.near.run_from.Goals as goal

pub returns-then-start-run : goal.returns-then-start-run
returns-then-start-run c = record {
  from = omega (arith, c.max-start.ensures);
  some = c.if-start-run.true;
  has = λ n above below. number_in c.args.run.start (c.args.run.end - c.args.run.start) n (omega (arith, c.max-start.ensures, above)) (omega (arith, c.max-start.ensures, above, below));
  none = λ n above below. number_out c.args.run.start (c.args.run.end - c.args.run.start) n (λ from to. absurd (omega (arith, c.max-start.ensures, above, below, from)));
}

pub returns-else-start-run : goal.returns-else-start-run
returns-else-start-run c = λ n above. number_out c.args.run.start (c.args.run.end - c.args.run.start) n
    (λ from to. absurd (omega (arith, c.max-start.ensures, c.if-start-run.false, above, from, to)))
