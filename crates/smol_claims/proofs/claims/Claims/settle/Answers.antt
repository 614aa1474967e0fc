use Rattle.std.proofs.Common.{◌≡◌, ℕ, false, not, ◌&&◌, ◌∙◌, ap}
use Rattle.std.proofs.lemmas.Bool.{and_from, and_parts}
use Rattle.smol_plan.specs.declared.pair.Side.{Side}
use Rattle.smol_plan.specs.declared.pair.Side.TheVariants.{Low, High}
use Rattle.smol_plan.specs.Links.{comes_from, comes_by}
use Rattle.smol_claims.specs.View.{has, has_link}
use Rattle.smol_claims.proofs.ListLemmas.{no_link_in}
use Rattle.smol_claims.proofs.HandLemmas.{hand_last, hand_looked, hand_decided}
use Rattle.smol_claims.proofs.NextLinkLemmas.{owed_decided, comes_by_low, both_told}
use Rattle.smol_claims.proofs.claims.Claims.settle.Goals as goal

pub decision_of-decision-requires-clause-holds : goal.decision_of-decision-requires-clause-holds
decision_of-decision-requires-clause-holds c = hand_last _ _ _ c.requires.hand

pub decide-requires-clause-holds : goal.decide-requires-clause-holds
decide-requires-clause-holds c =
    ap (λ l. has l c.args.pair) c.decision_of-decision.ensures.looks.held ∙ hand_last _ _ _ c.requires.hand

pub tell_next-requires-clause-hand : goal.tell_next-requires-clause-hand
tell_next-requires-clause-hand c =
    hand_decided _ _ _ _ (hand_looked _ _ _ c.decision_of-decision.ensures.looks c.requires.hand) c.decide.ensures.decides

pub tell_next-requires-clause-owes : goal.tell_next-requires-clause-owes
tell_next-requires-clause-owes c k t e =
    owed_decided _ _ _ _ c.requires.owed c.decision_of-decision.ensures.looks c.decide.ensures.decides k t ∙ ap (λ ps. comes_from ps c.args.pair k t) c.requires.sits.pairs ∙ (and_parts _ _ e).0

pub tell_next-requires-2-clause-owes : goal.tell_next-requires-2-clause-owes
tell_next-requires-2-clause-owes c k t e =
    c.tell_next.ensures.owed k t ∙ and_from _ _ (ap not (comes_by_low c.args.self.now.pairs c.tell_next.ensures.ordered c.args.pair k t c.requires.pair e)) (owed_decided _ _ _ _ c.requires.owed c.decision_of-decision.ensures.looks c.decide.ensures.decides k t ∙ ap (λ ps. comes_from ps c.args.pair k t) c.requires.sits.pairs ∙ (and_parts _ _ e).0)

pub returns-clause-owed : goal.returns-clause-owed
returns-clause-owed c = no_link_in _ none
  where
    none : (k : ℕ) (t : Side) → has_link c.tell_next-2.new.seat.me.0.owed k t ≡ false
    none k t =
        c.tell_next-2.ensures.owed k t ∙ ap (λ b. not (comes_by c.args.self.now.pairs c.args.pair High k t) && b) (c.tell_next.ensures.owed k t ∙ ap (λ b. not (comes_by c.args.self.now.pairs c.args.pair Low k t) && b) (owed_decided _ _ _ _ c.requires.owed c.decision_of-decision.ensures.looks c.decide.ensures.decides k t ∙ ap (λ ps. comes_from ps c.args.pair k t) c.requires.sits.pairs)) ∙ both_told c.args.self.now.pairs c.args.pair k t
