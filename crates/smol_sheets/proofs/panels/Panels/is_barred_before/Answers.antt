use Rattle.std.proofs.Common.{ℕ, ◌<◌, length, ap, arith, subst, sym}
use Rattle.std.specs.Prelude.{All}
use Rattle.std.proofs.lemmas.List.Elements.{All-head, All-tail}
use Rattle.smol_cells.specs.TouchingLeft.{touching_left}
use Rattle.smol_sheets.specs.Sheets.{AreAmong}
use Rattle.smol_sheets.proofs.Barring.{all_among, none_left, one_bars, one_less}
use Rattle.smol_sheets.proofs.panels.Panels.is_barred_before.Goals as goal

pub loop-number-init : goal.loop-number-init
loop-number-init c =
    let draft = c.args.self.now in
    let left = ap touching_left c.into_iter-number-iterator.ensures.into_iter_gives in
    record {
      known = subst (All (λ (number : ℕ). number < length draft.panels)) (sym left) c.touching-number-items.ensures.known;
      among = subst (AreAmong draft c.args.species c.args.a.now c.args.b.now) (sym left)
          (all_among draft c.args.species c.args.a.now c.args.b.now c.stretch.result (touching_left c.touching-number-items.result)
          c.stretch.ensures.both c.touching-number-items.ensures.near);
    }

pub bars_at-requires-clause-number : goal.bars_at-requires-clause-number
bars_at-requires-clause-number c =
    let draft = c.args.self.now in
    let here = All-head (λ (number : ℕ). number < length draft.panels) c.in-Some.number _
    (subst (All (λ (number : ℕ). number < length draft.panels)) c.in-Some.ensures.steps c.loop-number.invariant.known) in
    omega (arith, here)

pub returns-then-bars_at-clause-barred : goal.returns-then-bars_at-clause-barred
returns-then-bars_at-clause-barred c = λ _.
    let draft = c.args.self.now in
    let here = All-head (λ (number : ℕ). number < length draft.panels) c.in-Some.number _
    (subst (All (λ (number : ℕ). number < length draft.panels)) c.in-Some.ensures.steps c.loop-number.invariant.known) in
    one_bars draft c.args.species c.args.a.now c.args.b.now c.in-Some.number c.bars_at.result (omega (arith, here)) c.bars_at.ensures c.if-bars_at.true

pub loop-number-preserved : goal.loop-number-preserved
loop-number-preserved c =
    let draft = c.args.self.now in
    record {
      known = All-tail (λ (number : ℕ). number < length draft.panels) c.in-Some.number _
          (subst (All (λ (number : ℕ). number < length draft.panels)) c.in-Some.ensures.steps c.loop-number.invariant.known);
      among = one_less draft c.args.species c.args.a.now c.args.b.now (touching_left c.loop-number.number-iterator) (touching_left c.next.new.self)
          c.in-Some.number c.bars_at.result c.in-Some.ensures.steps c.loop-number.invariant.among c.bars_at.ensures c.if-bars_at.false;
    }

pub returns-clause-free : goal.returns-clause-free
returns-clause-free c = λ _.
    none_left c.args.self.now c.args.species c.args.a.now c.args.b.now c.args.first (touching_left c.loop-number.number-iterator) c.in-None.ensures.steps.0
    c.requires.first c.loop-number.invariant.among
