use Rattle.std.proofs.Common.{◌≡◌, ◌<◌, ◌≤◌, true, false, refl, ⊎_elim, arith}
use Rattle.std.proofs.lemmas.Bool.{cases_lt}
use Rattle.smol_cells.specs.Bounds.{boxes_in, most_boxes}
use Rattle.smol_cells.proofs.Doubles.{double_first, double_more, least_of_double, short_of_many}
use Rattle.smol_cells.proofs.bounds.least_double.Goals as goal

pub loop-doubled-init : goal.loop-doubled-init
loop-doubled-init c = record {
  double = double_first c.args.bounds.now c.args.edge;
  positive = c.requires.positive;
  short = omega (arith, c.requires.short);
}

pub loop-doubled-preserved : goal.loop-doubled-preserved
loop-doubled-preserved c =
    let bounds = c.args.bounds.now in
    let edge = c.loop-doubled.doubled in
    let many : most_boxes < boxes_in bounds edge = ⊎_elim
    (λ (many : most_boxes < boxes_in bounds edge). many)
    (λ (few : boxes_in bounds edge ≤ most_boxes). let none : false ≡ true = c.loop-doubled-test.ensures.1 few in cc)
    (cases_lt most_boxes (boxes_in bounds edge)) in
    let short = short_of_many bounds edge c.requires.low c.requires.high many in
    record {
      double = double_more bounds c.args.edge edge c.loop-doubled.invariant.double many;
      positive = omega (arith, c.loop-doubled.invariant.positive);
      short = omega (arith, short);
    }

pub returns-clause-least : goal.returns-clause-least
returns-clause-least c =
    least_of_double c.args.bounds.now c.args.edge c.loop-doubled.doubled c.loop-doubled.invariant.double (c.loop-doubled-test.ensures.0 refl)
