use Rattle.std.proofs.Common.{ℕ, refl, sym, subst, ◌∙◌, arith}
use Rattle.smol_pairs.specs.Searching.{HaveMetAt}
use Rattle.smol_pairs.proofs.SearchLemmas.{grown_first, grown_then, met_still, so_far_or_next}
use Rattle.smol_pairs.proofs.looking.look_along.Goals as goal

pub loop-other-init : goal.loop-other-init
loop-other-init c = record {
  seed = refl;
  grown = grown_first c.args.search.now c.args.keys.now;
  met = λ q behind from below. absurd (omega (arith, behind, from, below, c.max-other.ensures));
}

pub loop-other-preserved : goal.loop-other-preserved
loop-other-preserved c =
    let search = c.args.search.now in
    let so_far = c.loop-other.keys in
    let new = c.look.new.keys in
    let grown = c.in_ok-look.ensures.grown in
    record {
      seed = c.look.ensures.seed ∙ c.loop-other.invariant.seed;
      grown = grown_then search c.args.keys.now so_far new c.loop-other.invariant.grown grown;
      met = λ q behind from below. so_far_or_next search (HaveMetAt search new c.args.place q) q c.loop-other.other below
          (λ less. met_still search so_far new c.args.place q grown (c.loop-other.invariant.met q behind from less))
          (λ is. subst (λ (r : ℕ). HaveMetAt search new c.args.place r) (sym is) c.in_ok-look.ensures.met);
    }
