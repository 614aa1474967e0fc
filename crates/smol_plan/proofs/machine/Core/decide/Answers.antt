use Rattle.std.proofs.Common.{◌∙◌, ap, arith}
use Rattle.smol_plan.specs.declared.event.Event.TheVariants.{Decide}
use Rattle.smol_plan.specs.Machine.{IsEnabled, after_decide}
use Rattle.smol_plan.specs.Board.{Board, state_of}
use Rattle.smol_plan.specs.Kept.{board_of}
use Rattle.smol_plan.proofs.PairStateLemmas.{SourcesTell-held}
use Rattle.smol_plan.proofs.StepOfBoard.{IsStep-decide_written}
use Rattle.smol_plan.proofs.machine.Core.decide.Goals as goal

pub invariant_of-self : goal.invariant_of-self
invariant_of-self c =
    let board : Board = board_of c.self.inside in
    let enabled : IsEnabled board.pairs board.workers (state_of board) (Decide c.args.worker c.args.pair) = rw (← c.self.view_is) at c.requires in
    let step = IsStep-decide_written board c.args.worker c.args.pair c.self.inside.standings.len c.decision_of-decision.result c.index_mut-standing.result.now c.deref_mut.result.now c.owe.new.standings c.deref_mut-2.result.now c.owe-2.new.standings c.self.invariant enabled (omega (arith, c.self.inside.standings.ok.0)) c.index_mut-standing.ensures.value c.decision_of-decision.ensures.fired c.decision_of-decision.ensures.taken c.deref_mut.ensures.value c.owe.auto.standings c.owe.ensures c.deref_mut-2.ensures.value c.owe-2.auto.standings c.owe-2.ensures in
    step.sound

pub returns-clause-effect : goal.returns-clause-effect
returns-clause-effect c =
    let board : Board = board_of c.self.inside in
    let enabled : IsEnabled board.pairs board.workers (state_of board) (Decide c.args.worker c.args.pair) = rw (← c.self.view_is) at c.requires in
    let step = IsStep-decide_written board c.args.worker c.args.pair c.self.inside.standings.len c.decision_of-decision.result c.index_mut-standing.result.now c.deref_mut.result.now c.owe.new.standings c.deref_mut-2.result.now c.owe-2.new.standings c.self.invariant enabled (omega (arith, c.self.inside.standings.ok.0)) c.index_mut-standing.ensures.value c.decision_of-decision.ensures.fired c.decision_of-decision.ensures.taken c.deref_mut.ensures.value c.owe.auto.standings c.owe.ensures c.deref_mut-2.ensures.value c.owe-2.auto.standings c.owe-2.ensures in
    step.effect_is ∙ ap (λ (b : Board). after_decide b.pairs (state_of b) c.args.worker c.args.pair) c.self.view_is

pub returns-clause-good : goal.returns-clause-good
returns-clause-good c =
    let board : Board = board_of c.self.inside in
    let enabled : IsEnabled board.pairs board.workers (state_of board) (Decide c.args.worker c.args.pair) = rw (← c.self.view_is) at c.requires in
    let step = IsStep-decide_written board c.args.worker c.args.pair c.self.inside.standings.len c.decision_of-decision.result c.index_mut-standing.result.now c.deref_mut.result.now c.owe.new.standings c.deref_mut-2.result.now c.owe-2.new.standings c.self.invariant enabled (omega (arith, c.self.inside.standings.ok.0)) c.index_mut-standing.ensures.value c.decision_of-decision.ensures.fired c.decision_of-decision.ensures.taken c.deref_mut.ensures.value c.owe.auto.standings c.owe.ensures c.deref_mut-2.ensures.value c.owe-2.auto.standings c.owe-2.ensures in
    step.sound.good

pub decision_of-decision-requires-clause-sources : goal.decision_of-decision-requires-clause-sources
decision_of-decision-requires-clause-sources c =
    let board : Board = board_of c.self.inside in
    let enabled : IsEnabled board.pairs board.workers (state_of board) (Decide c.args.worker c.args.pair) = rw (← c.self.view_is) at c.requires in
    rw c.deref.ensures.value (SourcesTell-held board.pairs board.slices board.standings c.args.worker c.args.pair c.self.invariant.good enabled.allowed c.self.invariant.tells_taken)
