use Rattle.std.proofs.Common.{FitsSigned, w64, arith}
use Rattle.std.proofs.lemmas.Int.{ints, to_z-of_z}
use Rattle.smol_travel.proofs.Span.{ends_up, ends_down}
use Rattle.smol_travel.proofs.coordinates.ends_on.Goals as goal

pub returns-then-first-last-clause-between : goal.returns-then-first-last-clause-between
returns-then-first-last-clause-between c = λ n some less.
    let first_fits : FitsSigned w64 c.folded-first.result = record { sfits = c.folded-first.type_inv } in
    let last_fits : FitsSigned w64 c.end_on-last.result = record { sfits = c.end_on-last.type_inv } in
    let first_is = simp (to_z-of_z, c.ranges.sign, c.ranges.start, c.ranges.shift) at c.folded-first.ensures.value in
    let last_is = simp (to_z-of_z, c.ranges.sign, c.ranges.start, c.ranges.way, c.ranges.shift) at c.end_on-last.ensures.value in
    simp (to_z-of_z, first_fits, last_fits)
    (ends_up c.args.sign c.args.start c.args.way c.args.shift c.folded-first.result c.end_on-last.result c.requires.sign first_is last_is n some less
    (omega (arith, ints, c.if-first-last.true)))

pub returns-else-first-last-clause-between : goal.returns-else-first-last-clause-between
returns-else-first-last-clause-between c = λ n some less.
    let first_fits : FitsSigned w64 c.folded-first.result = record { sfits = c.folded-first.type_inv } in
    let last_fits : FitsSigned w64 c.end_on-last.result = record { sfits = c.end_on-last.type_inv } in
    let first_is = simp (to_z-of_z, c.ranges.sign, c.ranges.start, c.ranges.shift) at c.folded-first.ensures.value in
    let last_is = simp (to_z-of_z, c.ranges.sign, c.ranges.start, c.ranges.way, c.ranges.shift) at c.end_on-last.ensures.value in
    simp (to_z-of_z, first_fits, last_fits)
    (ends_down c.args.sign c.args.start c.args.way c.args.shift c.folded-first.result c.end_on-last.result c.requires.sign first_is last_is n some less
    (omega (arith, ints, c.if-first-last.false)))
