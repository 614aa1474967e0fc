use Rattle.std.proofs.Common.{◌≡◌, List, false, sym, ◌∙◌, ap, subst, inl, inr, Some}
use Rattle.smol_plan.specs.declared.pair.Pair.{Pair}
use Rattle.smol_plan.specs.Pair.{molecule_at}
use Rattle.smol_plan.specs.Links.{source_of, is_taken_before}
use Rattle.smol_plan.specs.Decision.{TellsTaken}
use Rattle.smol_plan.proofs.TakenLemmas.{is_taken_before-none, is_taken_before-source}
use Rattle.smol_claims.specs.Code.{serial_decision, IsCodeOf}
use Rattle.smol_claims.proofs.CodeLemmas.{decision_in-serial, serial_decision-tells}
use Rattle.smol_claims.proofs.claims.Claims.is_taken.Goals as goal

pub returns-in_default-clause-taken : goal.returns-in_default-clause-taken
returns-in_default-clause-taken c =
    subst (λ (ps : List Pair). false ≡ is_taken_before ps (molecule_at ps c.args.pair c.args.side) c.args.pair) (ap (λ t. t.pairs) c.self.view_is) (is_taken_before-none _ _ _ c.in_default.ensures.none)

pub returns-in-Some-decision_in-clause-taken : goal.returns-in-Some-decision_in-clause-taken
returns-in-Some-decision_in-clause-taken c =
    let pairs : List Pair = c.self.inside.terms.plan in
    let is : c.args.self.now.pairs ≡ pairs = ap (λ t. t.pairs) (sym c.self.view_is) in
    let mine : c.args.seat.now.me.0.pairs ≡ pairs = c.requires.sits.pairs ∙ is in
    let source : source_of c.args.seat.now.me.0.pairs c.args.pair c.args.side ≡ Some c.in-Some.source = ap (λ ps. source_of ps c.args.pair c.args.side) mine ∙ sym c.in-Some.ensures.source in
    let code : IsCodeOf pairs c.in-Some.source c.look_at.result = subst (λ ps. IsCodeOf ps c.in-Some.source c.look_at.result) mine c.look_at.ensures.looks.code in
    let known : c.look_at.result ≡ 0 → ⊥ = c.look_at.ensures.looks.known (inr record { pair = c.args.pair; side = c.args.side; has_it = inl c.requires.holds; source = source }) in
    let both : Some c.in-Some-decision_in.decision ≡ Some (serial_decision pairs c.in-Some.source) = c.in-Some-decision_in.ensures ∙ decision_in-serial pairs c.in-Some.source c.look_at.result code known in
    let same : serial_decision pairs c.in-Some.source ≡ c.in-Some-decision_in.decision = cc in
    subst (λ (ps : List Pair). c.is_taken.result ≡ is_taken_before ps (molecule_at ps c.args.pair c.args.side) c.args.pair) (sym is) (c.is_taken.ensures ∙ is_taken_before-source pairs (molecule_at pairs c.args.pair c.args.side) c.args.pair c.in-Some.source c.in-Some-decision_in.decision c.side_of.result c.in-Some.ensures.last (subst (TellsTaken pairs c.in-Some.source) same (serial_decision-tells pairs c.in-Some.source)) (c.side_of.ensures ∙ c.molecule.ensures))
