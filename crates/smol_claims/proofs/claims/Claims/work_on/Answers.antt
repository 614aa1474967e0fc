use Rattle.std.proofs.Common.{◌≡◌, List, true, sym, ◌∙◌, ap}
use Rattle.smol_plan.specs.declared.pair.Pair.{Pair}
use Rattle.smol_claims.specs.View.{has, free_pairs, view_taking}
use Rattle.smol_claims.proofs.HandLemmas.{hand_looked, hand_taking, done_hand}
use Rattle.smol_claims.proofs.claims.Claims.work_on.Goals as goal

pub settle_all-requires-clause-hand : goal.settle_all-requires-clause-hand
settle_all-requires-clause-hand g c =
    let is : c.self.inside.terms.plan ≡ c.args.seat.now.me.0.pairs = ap (λ t. t.pairs) c.self.view_is ∙ sym c.requires.sits.pairs in
    let view : c.take.new.seat.me.0 ≡ view_taking c.args.seat.now.me.0 c.args.slice true = c.take.ensures.view ∙ ap (view_taking c.args.seat.now.me.0 c.args.slice) c.if-take.true in
    hand_looked _ _ _ c.question.ensures.looks (hand_taking c.args.seat.now.me.0 c.take.new.seat.me.0 c.args.slice c.args.stack.now.items c.stack_free.new.stack.items c.requires.done view (λ j. c.stack_free.ensures.free j ∙ ap (λ (ps : List Pair). has (free_pairs ps c.args.slice) j) is) c.stack_free.ensures.once (λ j e. c.take.ensures.new c.if-take.true j (ap (λ (ps : List Pair). has (free_pairs ps c.args.slice) j) (sym c.requires.sits.pairs) ∙ e)))

pub returns-then-take-clause-done : goal.returns-then-take-clause-done
returns-then-take-clause-done g c =
    done_hand _ _ c.settle_all.ensures.hand c.settle_all.ensures.empty c.settle_all.ensures.owed
