use Rattle.std.proofs.Common.{◌≡◌, ℕ, List, get_or, sym, ◌∙◌, ap, subst}
use Rattle.smol_plan.specs.Machine.{slice_count}
use Rattle.smol_claims.specs.Layout.{decision_at}
use Rattle.smol_claims.specs.Code.{decision_in}
use Rattle.smol_claims.specs.Rule.{KeepsRule}
use Rattle.smol_claims.specs.declared.terms.Terms.{Terms}
use Rattle.smol_claims.proofs.CloseLemmas.{closes}
use Rattle.smol_claims.proofs.claims.Claims.close.Goals as goal

pub read_answer-answer-requires-clause-decided : goal.read_answer-answer-requires-clause-decided
read_answer-answer-requires-clause-decided c j l =
    let last = c.close_with-closed.ensures.values.2 in
    let rule : KeepsRule c.self.inside.terms.plan c.self.inside.terms.workers last.0 = subst (λ (k : Terms). KeepsRule k.plan k.workers last.0) c.self.invariant.key last.1.0 in
    let workers : c.args.self.workers ≡ c.self.inside.terms.workers = ap (λ t. t.workers) (sym c.self.view_is) in
    let slices : slice_count c.args.self.pairs ≡ slice_count c.self.inside.terms.plan = ap (λ t. slice_count t.pairs) (sym c.self.view_is) in
    ap (λ (words : List ℕ). decision_in (get_or words (decision_at c.self.inside.terms.plan j) 0)) (sym last.2) ∙ closes c.self.inside.terms.plan c.self.inside.terms.workers last.0 rule c.join_all-seat.result.id c.join_all-seat.result.me.0 last.1.1 (c.join_all-seat.ensures.share ∙ workers) c.join_all-seat.ensures.held c.join_all-seat.ensures.owed (c.join_all-seat.ensures.seen ∙ slices) j l
