use Rattle.std.proofs.Common.{◌≡◌, ◌∙◌, arith, ap, ℤ}
use Rattle.smol_geom.specs.Axes.{on_axis}
use Rattle.smol_stats.specs.Sums.{squares_on}
use Rattle.smol_stats.proofs.Summed.{as_it_is}
use Rattle.smol_stats.proofs.summing.spread.Goals as goal

pub returns-then-dims-eq1-clause-value : goal.returns-then-dims-eq1-clause-value
returns-then-dims-eq1-clause-value c =
    let at = c.args.at.now in
    let x : c.squares_along-x.result ≡ squares_on c.args.who.now (on_axis at 0) 0 c.args.mols.now =
    c.squares_along-x.ensures.value ∙ ap (λ (z : ℤ). squares_on c.args.who.now z 0 c.args.mols.now) (as_it_is (on_axis at 0) c.requires.at.0) in
    rw c.if-dims-eq1.true (omega (arith, x))

pub returns-then-dims-eq2-clause-value : goal.returns-then-dims-eq2-clause-value
returns-then-dims-eq2-clause-value c =
    let at = c.args.at.now in
    let x : c.squares_along-x.result ≡ squares_on c.args.who.now (on_axis at 0) 0 c.args.mols.now =
    c.squares_along-x.ensures.value ∙ ap (λ (z : ℤ). squares_on c.args.who.now z 0 c.args.mols.now) (as_it_is (on_axis at 0) c.requires.at.0) in
    let y : c.squares_along-y.result ≡ squares_on c.args.who.now (on_axis at 1) 1 c.args.mols.now =
    c.squares_along-y.ensures.value ∙ ap (λ (z : ℤ). squares_on c.args.who.now z 1 c.args.mols.now) (as_it_is (on_axis at 1) c.requires.at.1) in
    rw c.if-dims-eq2.true (omega (arith, x, y))

pub returns-clause-value : goal.returns-clause-value
returns-clause-value c =
    let at = c.args.at.now in
    let x : c.squares_along-x.result ≡ squares_on c.args.who.now (on_axis at 0) 0 c.args.mols.now =
    c.squares_along-x.ensures.value ∙ ap (λ (z : ℤ). squares_on c.args.who.now z 0 c.args.mols.now) (as_it_is (on_axis at 0) c.requires.at.0) in
    let y : c.squares_along-y.result ≡ squares_on c.args.who.now (on_axis at 1) 1 c.args.mols.now =
    c.squares_along-y.ensures.value ∙ ap (λ (z : ℤ). squares_on c.args.who.now z 1 c.args.mols.now) (as_it_is (on_axis at 1) c.requires.at.1) in
    let z : c.squares_along-z.result ≡ squares_on c.args.who.now (on_axis at 2) 2 c.args.mols.now =
    c.squares_along-z.ensures.value ∙ ap (λ (z : ℤ). squares_on c.args.who.now z 2 c.args.mols.now) (as_it_is (on_axis at 2) c.requires.at.2) in
    let all : c.args.dims ≡ 3 = omega (arith, c.if-dims-eq1.false, c.if-dims-eq2.false, c.requires.some, c.requires.dims) in
    rw all (omega (arith, x, y, z))
