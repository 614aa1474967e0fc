use Rattle.std.proofs.Common.{ℕ, ◌<◌, List, ap, arith, length, subst, sym, ◌∙◌}
use Rattle.std.specs.Prelude.{All}
use Rattle.std.proofs.lemmas.List.Elements.{All-head, All-tail}
use Rattle.smol_cells.specs.TouchingLeft.{touching_left}
use Rattle.smol_travel.specs.Looked.{AreLeft, IsBestBut}
use Rattle.smol_travel.proofs.Deciding.{best_first}
use Rattle.smol_travel.proofs.Looking.{count_is, near_left}
use Rattle.smol_travel.proofs.Span.{span_filled, span_small}
use Rattle.smol_travel.proofs.decision.best_before.Goals as goal

pub touching-number-items-requires : goal.touching-number-items-requires
touching-number-items-requires c =
    let small = span_small c.args.leg.now c.span_of.result c.span_of.ensures in
    record { low = small.0; high = small.1; filled = span_filled c.args.leg.now c.span_of.result c.span_of.ensures }

pub loop-number-init : goal.loop-number-init
loop-number-init c =
    let draft = c.args.panels.now in
    let left = ap touching_left c.into_iter-number-iterator.ensures.into_iter_gives in
    let near = near_left draft c.args.leg.now c.span_of.result c.args.first (touching_left c.touching-number-items.result) c.requires.first c.span_of.ensures
    c.touching-number-items.ensures.near c.args.moment.now c.requires.moment in
    record {
      known = subst (All (λ (number : ℕ). number < length draft.panels)) (sym left) c.touching-number-items.ensures.known;
      best = best_first draft c.args.leg.now c.args.moment.now c.args.species c.args.first (length c.sheets.result.now) (touching_left c.into_iter-number-iterator.result)
          c.requires.species (ap length c.sheets.ensures.value ∙ count_is draft)
          (subst (λ (xs : List ℕ). AreLeft draft c.args.leg.now c.args.first xs c.args.moment.now) (sym left) near);
    }

pub better-best-requires-clause-number : goal.better-best-requires-clause-number
better-best-requires-clause-number c =
    let draft = c.args.panels.now in
    let here = All-head (λ (number : ℕ). number < length draft.panels) c.in-Some.number _
    (subst (All (λ (number : ℕ). number < length draft.panels)) c.in-Some.ensures.steps c.loop-number.invariant.known) in
    omega (arith, here)

pub loop-number-preserved : goal.loop-number-preserved
loop-number-preserved c =
    let draft = c.args.panels.now in
    record {
      known = All-tail (λ (number : ℕ). number < length draft.panels) c.in-Some.number _
          (subst (All (λ (number : ℕ). number < length draft.panels)) c.in-Some.ensures.steps c.loop-number.invariant.known);
      best = c.better-best.ensures c.args.first (touching_left c.next.new.self)
          (subst (λ (xs : List ℕ). IsBestBut draft c.args.leg.now c.args.moment.now c.args.species c.args.first xs c.loop-number.best)
          c.in-Some.ensures.steps c.loop-number.invariant.best);
    }

pub returns : goal.returns
returns c =
    let draft = c.args.panels.now in
    subst (λ (xs : List ℕ). IsBestBut draft c.args.leg.now c.args.moment.now c.args.species c.args.first xs c.loop-number.best)
    c.in-None.ensures.steps.0 c.loop-number.invariant.best
