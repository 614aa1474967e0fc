use Rattle.std.proofs.Common.{◌≡◌, ◌<◌, length, ◌∙◌, ap, set, arith}
use Rattle.std.proofs.lemmas.List.{get_or_read}
use Rattle.smol_plan.specs.declared.event.Event.TheVariants.{Tell}
use Rattle.smol_plan.specs.Machine.{IsEnabled, after_tell}
use Rattle.smol_plan.specs.PairState.{fresh}
use Rattle.smol_plan.specs.Board.{Board, IsWellKept, state_of, standing_at, after_telling}
use Rattle.smol_plan.specs.Kept.{board_of}
use Rattle.smol_plan.proofs.StepOfBoard.{with_parts, IsStep-tell}
use Rattle.smol_plan.proofs.machine.Core.tell.Goals as goal

pub invariant_of-self : goal.invariant_of-self
invariant_of-self c =
    let board : Board = board_of c.self.inside in
    let enabled : IsEnabled board.pairs board.workers (state_of board) (Tell c.args.worker c.args.pair c.args.side) = rw (← c.self.view_is) at c.requires in
    let step = IsStep-tell board c.args.worker c.args.pair c.args.side c.self.invariant enabled in
    let inside : c.args.pair < length board.standings = omega (arith, enabled.in_range.1, c.self.invariant.one_each) in
    let now : c.tell_link.new.standing ≡ after_telling board.pairs c.args.pair c.args.side c.args.worker (standing_at board.standings c.args.pair) = c.tell_link.ensures ∙ ap (after_telling board.pairs c.args.pair c.args.side c.args.worker) (get_or_read board.standings c.args.pair c.index_mut.result.now inside c.index_mut.ensures.value fresh) in
    let sound : IsWellKept (with_parts board board.slices (set board.standings c.args.pair c.tell_link.new.standing)) = rw now step.sound in
    sound

pub returns-clause-effect : goal.returns-clause-effect
returns-clause-effect c =
    let board : Board = board_of c.self.inside in
    let enabled : IsEnabled board.pairs board.workers (state_of board) (Tell c.args.worker c.args.pair c.args.side) = rw (← c.self.view_is) at c.requires in
    let step = IsStep-tell board c.args.worker c.args.pair c.args.side c.self.invariant enabled in
    let inside : c.args.pair < length board.standings = omega (arith, enabled.in_range.1, c.self.invariant.one_each) in
    let now : c.tell_link.new.standing ≡ after_telling board.pairs c.args.pair c.args.side c.args.worker (standing_at board.standings c.args.pair) = c.tell_link.ensures ∙ ap (after_telling board.pairs c.args.pair c.args.side c.args.worker) (get_or_read board.standings c.args.pair c.index_mut.result.now inside c.index_mut.ensures.value fresh) in
    ap (λ s. state_of (with_parts board board.slices (set board.standings c.args.pair s))) now ∙ step.effect_is ∙ ap (λ (b : Board). after_tell b.pairs (state_of b) c.args.worker c.args.pair c.args.side) c.self.view_is

pub returns-clause-good : goal.returns-clause-good
returns-clause-good c =
    let board : Board = board_of c.self.inside in
    let enabled : IsEnabled board.pairs board.workers (state_of board) (Tell c.args.worker c.args.pair c.args.side) = rw (← c.self.view_is) at c.requires in
    let step = IsStep-tell board c.args.worker c.args.pair c.args.side c.self.invariant enabled in
    let inside : c.args.pair < length board.standings = omega (arith, enabled.in_range.1, c.self.invariant.one_each) in
    let now : c.tell_link.new.standing ≡ after_telling board.pairs c.args.pair c.args.side c.args.worker (standing_at board.standings c.args.pair) = c.tell_link.ensures ∙ ap (after_telling board.pairs c.args.pair c.args.side c.args.worker) (get_or_read board.standings c.args.pair c.index_mut.result.now inside c.index_mut.ensures.value fresh) in
    let sound : IsWellKept (with_parts board board.slices (set board.standings c.args.pair c.tell_link.new.standing)) = rw now step.sound in
    sound.good
