use Rattle.std.proofs.Common.{◌≡◌, ◌∙◌, sym, Some, None}
use Rattle.smol_plan.proofs.TakenLemmas.{is_taken_before-none, is_taken_before-source}
use Rattle.smol_plan.proofs.machine.is_taken.Goals as goal

pub returns-in-Some-decision : goal.returns-in-Some-decision
returns-in-Some-decision c =
    let source = c.requires.sources c.args.side c.in-Some.source (sym c.in-Some.ensures.source) in
    let both : Some source.decision ≡ Some c.in-Some-decision.decision = sym source.is ∙ c.in-Some-decision.is in
    let same : source.decision ≡ c.in-Some-decision.decision = cc in
    c.is_taken.ensures ∙ is_taken_before-source c.args.plan.now _ c.args.pair c.in-Some.source c.in-Some-decision.decision c.side_of.result c.in-Some.ensures.last (rw same at source.tells) (c.side_of.ensures ∙ c.molecule.ensures)

pub returns-in-None-decision : goal.returns-in-None-decision
returns-in-None-decision c =
    let source = c.requires.sources c.args.side c.in-Some.source (sym c.in-Some.ensures.source) in
    let wrong : Some source.decision ≡ None = sym source.is ∙ c.in-None-decision.is in
    cc

pub returns-in-None : goal.returns-in-None
returns-in-None c = is_taken_before-none _ _ _ c.in-None.ensures.none
