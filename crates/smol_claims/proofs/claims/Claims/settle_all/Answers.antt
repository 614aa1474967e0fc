use Rattle.std.proofs.Common.{rules, ◌≡◌, ◌<◌, ◌∷◌, ◌++◌, [], length, length-append, ap, subst, arith}
use Rattle.smol_claims.specs.Hand.{IsInHand}
use Rattle.smol_claims.proofs.HandLemmas.{hand_room, hand_inside}
use Rattle.smol_claims.proofs.claims.Claims.settle_all.Goals as goal

pub settle-requires-clause-pair : goal.settle-requires-clause-pair
settle-requires-clause-pair c =
    let is : c.loop-pair.stack.items ≡ c.pop.new.self.items ++ c.in-Some.pair ∷ [] = search rules in
    let h = c.loop-pair.invariant in
    subst (λ ps. c.in-Some.pair < length ps) h.sits.pairs (hand_inside _ _ _ (subst (IsInHand c.loop-pair.seat.me.0) is h.hand))

pub loop-pair-smaller : goal.loop-pair-smaller
loop-pair-smaller c =
    let is : c.loop-pair.stack.items ≡ c.pop.new.self.items ++ c.in-Some.pair ∷ [] = search rules in
    let h = c.loop-pair.invariant in
    let room = hand_room _ _ h.hand in
    omega (arith, room, ap length is, length-append c.pop.new.self.items (c.in-Some.pair ∷ []), ap length c.settle.ensures.mine, ap length h.sits.pairs)
