use Rattle.std.proofs.Common.{◌≡◌, ℕ, ◌<◌, ◌∷◌, ◌++◌, [], List, length, length-append, true, not, ◌&&◌, sym, ◌∙◌, ap, subst, arith}
use Rattle.smol_plan.specs.declared.pair.Pair.{Pair}
use Rattle.smol_plan.specs.declared.pair.Side.{Side}
use Rattle.smol_plan.specs.Links.{comes_by}
use Rattle.smol_claims.specs.View.{has_link, view_telling}
use Rattle.smol_claims.specs.Hand.{IsInHand}
use Rattle.smol_claims.proofs.HandLemmas.{hand_room, hand_received}
use Rattle.smol_claims.proofs.NextLinkLemmas.{owed_after}
use Rattle.smol_claims.proofs.claims.Claims.tell_next.Goals as goal

pub push_reserved-requires : goal.push_reserved-requires
push_reserved-requires c =
    let is : c.args.self.now.pairs ≡ c.self.inside.terms.plan = ap (λ t. t.pairs) (sym c.self.view_is) in
    let inside : c.in-Some.next < length c.args.seat.now.me.0.pairs = subst (λ ps. c.in-Some.next < length ps) (sym (c.requires.sits.pairs ∙ is)) c.in-Some.ensures.next.in_list in
    let told : c.tell.new.seat.me.0 ≡ view_telling c.args.seat.now.me.0 (record { pair = c.in-Some.next; side = c.in-Some.next_side }) true = c.tell.ensures.view ∙ ap (view_telling c.args.seat.now.me.0 (record { pair = c.in-Some.next; side = c.in-Some.next_side })) c.if-tell.true in
    let hand : IsInHand c.tell.new.seat.me.0 (c.args.stack.now.items ++ c.in-Some.next ∷ []) = hand_received c.args.seat.now.me.0 c.tell.new.seat.me.0 (record { pair = c.in-Some.next; side = c.in-Some.next_side }) c.args.stack.now.items c.requires.hand told (c.tell.ensures.new c.if-tell.true) inside in
    let room = hand_room c.tell.new.seat.me.0 (c.args.stack.now.items ++ c.in-Some.next ∷ []) hand in
    omega (arith, room, c.requires.room, length-append c.args.stack.now.items (c.in-Some.next ∷ []), ap length c.tell.ensures.sits.pairs)

pub returns-then-tell-clause-hand : goal.returns-then-tell-clause-hand
returns-then-tell-clause-hand c =
    let is : c.args.self.now.pairs ≡ c.self.inside.terms.plan = ap (λ t. t.pairs) (sym c.self.view_is) in
    let inside : c.in-Some.next < length c.args.seat.now.me.0.pairs = subst (λ ps. c.in-Some.next < length ps) (sym (c.requires.sits.pairs ∙ is)) c.in-Some.ensures.next.in_list in
    let told : c.tell.new.seat.me.0 ≡ view_telling c.args.seat.now.me.0 (record { pair = c.in-Some.next; side = c.in-Some.next_side }) true = c.tell.ensures.view ∙ ap (view_telling c.args.seat.now.me.0 (record { pair = c.in-Some.next; side = c.in-Some.next_side })) c.if-tell.true in
    subst (IsInHand c.tell.new.seat.me.0) (sym c.push_reserved.ensures.items) (hand_received c.args.seat.now.me.0 c.tell.new.seat.me.0 (record { pair = c.in-Some.next; side = c.in-Some.next_side }) c.args.stack.now.items c.requires.hand told (c.tell.ensures.new c.if-tell.true) inside)

pub returns-then-tell-clause-owed : goal.returns-then-tell-clause-owed
returns-then-tell-clause-owed c =
    subst (λ (ps : List Pair). (k : ℕ) (t : Side) → has_link c.tell.new.seat.me.0.owed k t ≡ (not (comes_by ps c.args.pair c.args.side k t) && has_link c.args.seat.now.me.0.owed k t)) (ap (λ t. t.pairs) c.self.view_is) (owed_after c.self.inside.terms.plan c.args.pair c.args.side c.in-Some.next c.in-Some.next_side c.in-Some.ensures.on_side c.in-Some.ensures.undone c.in-Some.ensures.undoes c.args.seat.now.me.0 c.tell.new.seat.me.0 c.tell.result c.tell.ensures.view)

pub returns-else-tell-clause-owed : goal.returns-else-tell-clause-owed
returns-else-tell-clause-owed c =
    subst (λ (ps : List Pair). (k : ℕ) (t : Side) → has_link c.tell.new.seat.me.0.owed k t ≡ (not (comes_by ps c.args.pair c.args.side k t) && has_link c.args.seat.now.me.0.owed k t)) (ap (λ t. t.pairs) c.self.view_is) (owed_after c.self.inside.terms.plan c.args.pair c.args.side c.in-Some.next c.in-Some.next_side c.in-Some.ensures.on_side c.in-Some.ensures.undone c.in-Some.ensures.undoes c.args.seat.now.me.0 c.tell.new.seat.me.0 c.tell.result c.tell.ensures.view)
