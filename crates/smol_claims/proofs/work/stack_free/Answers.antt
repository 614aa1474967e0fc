use Rattle.std.proofs.Common.{◌≡◌, ◌+◌, ◌*◌, ◌<◌, ◌≤◌, ◌∷◌, ◌++◌, [], length, length-append, min, vec_capacity, refl, sym, ◌∙◌, ap, subst, arith}
use Rattle.smol_plan.specs.Machine.{slice_of}
use Rattle.smol_claims.specs.View.{has, times, free_below}
use Rattle.smol_claims.proofs.FreeLemmas.{free_none, free_all, free_more, free_same, free_once}
use Rattle.smol_claims.proofs.work.stack_free.Goals as goal
use Rattle.smol_claims.proofs.work.stack_free.Goals.{then-is_unlinked, else-is_unlinked}

pub loop-pair-init : goal.loop-pair-init
loop-pair-init c =
    record {
      free = λ j. ap (λ l. has l j) c.requires.empty ∙ sym (ap (λ p. has (free_below c.args.plan.now c.args.slice p) j) c.slice-range.ensures.start ∙ free_none c.args.plan.now c.args.slice j);
      once = λ j. omega (arith, ap (λ l. times l j) c.requires.empty);
      few = omega (arith, ap length c.requires.empty, c.slice-range.ensures.start);
      room = refl;
    }

pub loop-pair-preserved : goal.loop-pair-preserved
loop-pair-preserved c =
    let h = c.loop-pair.invariant in
    let inside : c.loop-pair.pair < length c.args.plan.now = omega (arith, c.slice-range.ensures.end) in
    let is : slice_of c.loop-pair.pair ≡ c.args.slice = omega (arith, c.slice-range.ensures.start, c.slice-range.ensures.end) in
    elim c.if-is_unlinked.branch [
      | then-is_unlinked w ↦ let items : c.if-is_unlinked.stack.items ≡ c.loop-pair.stack.items ++ c.loop-pair.pair ∷ [] = ap (λ v. v.items) w.stack-is ∙ w.push_reserved.ensures.items in
          record {
            free = λ j. ap (λ l. has l j) items ∙ free_more c.args.plan.now c.args.slice c.loop-pair.stack.items c.loop-pair.pair is (sym c.is_unlinked.ensures ∙ w.if-is_unlinked.true) h.free j;
            once = λ j. subst (λ l. times l j ≤ 1) (sym items) (free_once c.args.plan.now c.args.slice c.loop-pair.stack.items c.loop-pair.pair h.free h.once j);
            few = omega (arith, h.few, ap length items, length-append c.loop-pair.stack.items (c.loop-pair.pair ∷ []));
            room = ap vec_capacity w.stack-is ∙ w.push_reserved.ensures.capacity ∙ h.room;
          }
      | else-is_unlinked w ↦ let items : c.if-is_unlinked.stack.items ≡ c.loop-pair.stack.items = ap (λ v. v.items) w.stack-is in
          record {
            free = λ j. ap (λ l. has l j) items ∙ free_same c.args.plan.now c.args.slice c.loop-pair.stack.items c.loop-pair.pair (sym c.is_unlinked.ensures ∙ w.if-is_unlinked.false) h.free j;
            once = λ j. subst (λ l. times l j ≤ 1) (sym items) (h.once j);
            few = omega (arith, h.few, ap length items);
            room = ap vec_capacity w.stack-is ∙ h.room;
          }
    ]

pub returns-clause-free : goal.returns-clause-free
returns-clause-free c j =
    let ended : c.loop-pair.pair ≡ min (64 * c.args.slice + 64) (length c.args.plan.now) = omega (arith, c.slice-range.ensures.end, c.slice-range.ensures.some) in
    c.loop-pair.invariant.free j ∙ ap (λ p. has (free_below c.args.plan.now c.args.slice p) j) ended ∙ free_all c.args.plan.now c.args.slice (length c.args.plan.now) j
