use Rattle.std.proofs.Common.{◌≡◌, ◌-◌, ◌/◌, ◌^◌, ◌<◌, ◌++◌, take, sym, refl, ap, ◌∙◌, arith, append-nil}
use Rattle.smol_num.specs.Print.{places_text}
use Rattle.smol_num.proofs.PrintLemmas.{pow-div, places_text-none, place-some, put_place, rest-below}
use Rattle.smol_num.proofs.print.put_places.Goals as goal

pub loop-left-preserved : goal.loop-left-preserved
loop-left-preserved c =
    let some : 0 < c.loop-left.place = place-some c.loop-left.place c.loop-left.left c.loop-left-test.true c.loop-left.invariant.2 in
    let unit : c.loop-left.unit / 10 ≡ 10 ^ (c.loop-left.place - 1) = ap (λ u. u / 10) c.loop-left.invariant.1 ∙ pow-div c.loop-left.place some in
    rw unit (
      put_place c.loop-left.out _ c.loop-left.end c.loop-left.place c.loop-left.left _ (omega arith) c.loop-left-test.true c.loop-left.invariant.2 refl c.loop-left.invariant.0,
      refl,
      rest-below c.loop-left.left (c.loop-left.place - 1),
      omega arith,
    )

pub returns-clause-text : goal.returns-clause-text
returns-clause-text c =
    let none : c.loop-left.left ≡ 0 = omega arith in
    sym (ap (λ n. take c.loop-left.end c.loop-left.out ++ places_text c.loop-left.place n) none
    ∙ ap (λ t. take c.loop-left.end c.loop-left.out ++ t) (places_text-none c.loop-left.place)
    ∙ append-nil (take c.loop-left.end c.loop-left.out))
    ∙ c.loop-left.invariant.0
