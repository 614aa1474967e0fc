use Rattle.std.proofs.Common.{ℕ, refl, sym, subst, ◌∙◌, arith}
use Rattle.smol_pairs.specs.Searching.{HaveMetAt}
use Rattle.smol_pairs.proofs.SearchLemmas.{grown_first, grown_then, met_still, so_far_or_next}
use Rattle.smol_pairs.proofs.rows.look_from.Goals as goal

pub loop-place-init : goal.loop-place-init
loop-place-init c = record {
  seed = refl;
  grown = grown_first c.args.search.now c.args.keys.now;
  met = λ p q from below behind inside. absurd (omega (arith, from, below));
}

pub loop-place-preserved : goal.loop-place-preserved
loop-place-preserved c =
    let search = c.args.search.now in
    let so_far = c.loop-place.keys in
    let new = c.look_near.new.keys in
    let grown = c.in_ok-look_near.ensures.grown in
    record {
      seed = c.look_near.ensures.seed ∙ c.loop-place.invariant.seed;
      grown = grown_then search c.args.keys.now so_far new c.loop-place.invariant.grown grown;
      met = λ p q from below behind inside. so_far_or_next search (HaveMetAt search new p q) p c.loop-place.place below
          (λ less. met_still search so_far new p q grown (c.loop-place.invariant.met p q from less behind inside))
          (λ is. subst (λ (r : ℕ). HaveMetAt search new r q) (sym is) (c.in_ok-look_near.ensures.met q (omega (arith, is, behind)) inside));
    }

pub returns-clause-met : goal.returns-clause-met
returns-clause-met c = λ p q from below behind inside.
    c.loop-place.invariant.met p q from (omega (arith, c.loop-place-test.false, below)) behind inside
