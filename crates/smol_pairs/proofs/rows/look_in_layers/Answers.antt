use Rattle.std.proofs.Common.{refl, ◌∙◌, arith}
use Rattle.smol_pairs.specs.Searching.{HaveMetAt, number_in}
use Rattle.smol_pairs.proofs.SearchLemmas.{grown_first, grown_then, met_still, so_far_or_next}
use Rattle.smol_pairs.proofs.rows.look_in_layers.Goals as goal

pub loop-layer-init : goal.loop-layer-init
loop-layer-init c = record {
  seed = refl;
  grown = grown_first c.args.search.now c.args.keys.now;
  met = λ q behind inside is below. absurd (omega (arith, is.2.0, below));
}

pub loop-layer-preserved : goal.loop-layer-preserved
loop-layer-preserved c =
    let search = c.args.search.now in
    let so_far = c.loop-layer.keys in
    let new = c.look_in_layer.new.keys in
    let grown = c.in_ok-look_in_layer.ensures.grown in
    record {
      seed = c.look_in_layer.ensures.seed ∙ c.loop-layer.invariant.seed;
      grown = grown_then search c.args.keys.now so_far new c.loop-layer.invariant.grown grown;
      met = λ q behind inside is below. so_far_or_next search (HaveMetAt search new c.args.place q) (number_in search q 2) c.loop-layer.layer below
          (λ less. met_still search so_far new c.args.place q grown (c.loop-layer.invariant.met q behind inside is less))
          (λ here. c.in_ok-look_in_layer.ensures.met q behind inside (record { z = here; y = is.1; x = is.0 }));
    }

pub returns-clause-met : goal.returns-clause-met
returns-clause-met c = λ q behind inside is.
    c.loop-layer.invariant.met q behind inside is (omega (arith, c.loop-layer-test.false, is.2.1))
