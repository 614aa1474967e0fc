use Rattle.std.proofs.Common.{refl, ◌∙◌, arith}
use Rattle.smol_pairs.specs.Searching.{HaveMetAt}
use Rattle.smol_pairs.proofs.RowLemmas.{in_run}
use Rattle.smol_pairs.proofs.SearchLemmas.{grown_first, grown_then, met_still, so_far_or_next}
use Rattle.smol_pairs.specs.Searching.{number_in}
use Rattle.smol_pairs.proofs.rows.look_in_layer.Goals as goal

pub loop-row-init : goal.loop-row-init
loop-row-init c = record {
  seed = refl;
  grown = grown_first c.args.search.now c.args.keys.now;
  met = λ q behind inside is below. absurd (omega (arith, is.y.0, below));
}

pub loop-row-preserved : goal.loop-row-preserved
loop-row-preserved c =
    let search = c.args.search.now in
    let so_far = c.loop-row.keys in
    let new = c.look_along.new.keys in
    let grown = c.in_ok-look_along.ensures.grown in
    record {
      seed = c.look_along.ensures.seed ∙ c.loop-row.invariant.seed;
      grown = grown_then search c.args.keys.now so_far new c.loop-row.invariant.grown grown;
      met = λ q behind inside is below. so_far_or_next search (HaveMetAt search new c.args.place q) (number_in search q 1) c.loop-row.row below
          (λ less. met_still search so_far new c.args.place q grown (c.loop-row.invariant.met q behind inside is less))
          (λ here. let run = in_run search c.args.boxes.now c.loop-row.row c.args.layer q inside is here c.run-run.result c.run-run.ensures.holds in
          c.in_ok-look_along.ensures.met q behind run.0 run.1);
    }

pub returns-clause-met : goal.returns-clause-met
returns-clause-met c = λ q behind inside is.
    c.loop-row.invariant.met q behind inside is (omega (arith, c.loop-row-test.false, is.y.1))
