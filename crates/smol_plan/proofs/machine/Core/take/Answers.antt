use Rattle.std.proofs.Common.{◌≡◌, ℕ, ◌<◌, ◌++◌, true, length, take, drop, ◌∙◌, ap, set, arith}
use Rattle.smol_plan.specs.declared.event.Event.TheVariants.{Take}
use Rattle.smol_plan.specs.Machine.{IsEnabled, after_take}
use Rattle.smol_plan.specs.Board.{Board, IsWellKept, state_of, standing_at, after_slice}
use Rattle.smol_plan.specs.Kept.{board_of}
use Rattle.smol_plan.proofs.PlanLemmas.{written_back}
use Rattle.smol_plan.proofs.StepOfBoard.{with_parts, IsStep-take}
use Rattle.smol_plan.proofs.machine.Core.take.Goals as goal

pub invariant_of-self : goal.invariant_of-self
invariant_of-self c =
    let board : Board = board_of c.self.inside in
    let enabled : IsEnabled board.pairs board.workers (state_of board) (Take c.args.worker c.args.slice) = rw (← c.self.view_is) at c.requires in
    let next = c.hold_slice.new.standings in
    let as_many : length next ≡ length board.standings = c.hold_slice.auto.standings ∙ ap length c.deref_mut.ensures.value in
    let given : (j : ℕ) → j < length board.pairs → standing_at next j ≡ after_slice board.pairs c.args.worker c.args.slice j (standing_at board.standings j) = rw c.deref_mut.ensures.value at c.hold_slice.ensures in
    let step = IsStep-take board next c.args.worker c.args.slice c.self.invariant enabled as_many given in
    let whole : take c.self.inside.standings.len (next ++ drop (length next) board.standings) ≡ next = written_back next board.standings c.self.inside.standings.len as_many (omega (arith, c.self.inside.standings.ok.0)) in
    let sound : IsWellKept (with_parts board (set board.slices c.args.slice true) (take c.self.inside.standings.len (next ++ drop (length next) board.standings))) = rw whole step.sound in
    sound

pub returns-clause-effect : goal.returns-clause-effect
returns-clause-effect c =
    let board : Board = board_of c.self.inside in
    let enabled : IsEnabled board.pairs board.workers (state_of board) (Take c.args.worker c.args.slice) = rw (← c.self.view_is) at c.requires in
    let next = c.hold_slice.new.standings in
    let as_many : length next ≡ length board.standings = c.hold_slice.auto.standings ∙ ap length c.deref_mut.ensures.value in
    let given : (j : ℕ) → j < length board.pairs → standing_at next j ≡ after_slice board.pairs c.args.worker c.args.slice j (standing_at board.standings j) = rw c.deref_mut.ensures.value at c.hold_slice.ensures in
    let step = IsStep-take board next c.args.worker c.args.slice c.self.invariant enabled as_many given in
    let whole : take c.self.inside.standings.len (next ++ drop (length next) board.standings) ≡ next = written_back next board.standings c.self.inside.standings.len as_many (omega (arith, c.self.inside.standings.ok.0)) in
    ap (λ s. state_of (with_parts board (set board.slices c.args.slice true) s)) whole ∙ step.effect_is ∙ ap (λ (b : Board). after_take b.pairs (state_of b) c.args.worker c.args.slice) c.self.view_is

pub returns-clause-good : goal.returns-clause-good
returns-clause-good c =
    let board : Board = board_of c.self.inside in
    let enabled : IsEnabled board.pairs board.workers (state_of board) (Take c.args.worker c.args.slice) = rw (← c.self.view_is) at c.requires in
    let next = c.hold_slice.new.standings in
    let as_many : length next ≡ length board.standings = c.hold_slice.auto.standings ∙ ap length c.deref_mut.ensures.value in
    let given : (j : ℕ) → j < length board.pairs → standing_at next j ≡ after_slice board.pairs c.args.worker c.args.slice j (standing_at board.standings j) = rw c.deref_mut.ensures.value at c.hold_slice.ensures in
    let step = IsStep-take board next c.args.worker c.args.slice c.self.invariant enabled as_many given in
    let whole : take c.self.inside.standings.len (next ++ drop (length next) board.standings) ≡ next = written_back next board.standings c.self.inside.standings.len as_many (omega (arith, c.self.inside.standings.ok.0)) in
    let sound : IsWellKept (with_parts board (set board.slices c.args.slice true) (take c.self.inside.standings.len (next ++ drop (length next) board.standings))) = rw whole step.sound in
    sound.good
