use Rattle.std.proofs.Common.{ℕ, ◌<◌, List, None, ap, arith, length, subst, sym}
use Rattle.std.specs.Prelude.{All}
use Rattle.std.proofs.lemmas.List.Elements.{All-head, All-tail}
use Rattle.smol_cells.specs.TouchingLeft.{touching_left}
use Rattle.smol_travel.specs.Looked.{IsNextBut}
use Rattle.smol_travel.proofs.Looking.{near_left, next_first, next_same}
use Rattle.smol_travel.proofs.Span.{span_filled, span_small}
use Rattle.smol_travel.proofs.meeting.next_before.Goals as goal

pub touching-number-items-requires : goal.touching-number-items-requires
touching-number-items-requires c =
    let small = span_small c.args.leg.now c.args.span.now c.requires.span in
    record { low = small.0; high = small.1; filled = span_filled c.args.leg.now c.args.span.now c.requires.span }

pub loop-number-init : goal.loop-number-init
loop-number-init c =
    let draft = c.args.panels.now in
    let left = ap touching_left c.into_iter-number-iterator.ensures.into_iter_gives in
    record {
      known = subst (All (λ (number : ℕ). number < length draft.panels)) (sym left) c.touching-number-items.ensures.known;
      next = subst (λ (xs : List ℕ). IsNextBut draft c.args.leg.now c.args.last.now c.args.first xs None) (sym left)
          (next_first draft c.args.leg.now c.args.last.now c.args.first (touching_left c.touching-number-items.result)
          (near_left draft c.args.leg.now c.args.span.now c.args.first (touching_left c.touching-number-items.result) c.requires.first c.requires.span
          c.touching-number-items.ensures.near));
    }

pub is_within-requires-clause-number : goal.is_within-requires-clause-number
is_within-requires-clause-number c =
    let draft = c.args.panels.now in
    let here = All-head (λ (number : ℕ). number < length draft.panels) c.in-Some.number _
    (subst (All (λ (number : ℕ). number < length draft.panels)) c.in-Some.ensures.steps c.loop-number.invariant.known) in
    omega (arith, here)

pub sooner-next-requires-clause-number : goal.sooner-next-requires-clause-number
sooner-next-requires-clause-number c =
    let draft = c.args.panels.now in
    let here = All-head (λ (number : ℕ). number < length draft.panels) c.in-Some.number _
    (subst (All (λ (number : ℕ). number < length draft.panels)) c.in-Some.ensures.steps c.loop-number.invariant.known) in
    omega (arith, here)

pub loop-number-preserved-then-is_within : goal.loop-number-preserved-then-is_within
loop-number-preserved-then-is_within c =
    let draft = c.args.panels.now in
    record {
      known = All-tail (λ (number : ℕ). number < length draft.panels) c.in-Some.number _
          (subst (All (λ (number : ℕ). number < length draft.panels)) c.in-Some.ensures.steps c.loop-number.invariant.known);
      next = c.sooner-next.ensures c.args.first (touching_left c.next.new.self)
          (subst (λ (xs : List ℕ). IsNextBut draft c.args.leg.now c.args.last.now c.args.first xs c.loop-number.next)
          c.in-Some.ensures.steps c.loop-number.invariant.next);
    }

pub loop-number-preserved : goal.loop-number-preserved
loop-number-preserved c =
    let draft = c.args.panels.now in
    record {
      known = All-tail (λ (number : ℕ). number < length draft.panels) c.in-Some.number _
          (subst (All (λ (number : ℕ). number < length draft.panels)) c.in-Some.ensures.steps c.loop-number.invariant.known);
      next = next_same draft c.args.leg.now c.args.last.now c.args.first c.in-Some.number (touching_left c.next.new.self) c.loop-number.next
          (subst (λ (xs : List ℕ). IsNextBut draft c.args.leg.now c.args.last.now c.args.first xs c.loop-number.next)
          c.in-Some.ensures.steps c.loop-number.invariant.next)
          (λ m h. c.is_within.ensures c.args.leg.now c.requires.leg c.requires.span c.if-is_within.false m h.moment);
    }

pub returns : goal.returns
returns c =
    let draft = c.args.panels.now in
    subst (λ (xs : List ℕ). IsNextBut draft c.args.leg.now c.args.last.now c.args.first xs c.loop-number.next)
    c.in-None.ensures.steps.0 c.loop-number.invariant.next
