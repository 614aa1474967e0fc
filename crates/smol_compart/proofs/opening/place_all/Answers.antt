use Rattle.std.proofs.Common.{◌+◌, ℕ, [], Ok, drop, sym, ap, ◌∙◌, arith}
use Rattle.std.proofs.lemmas.Grind.{common_steps}
use Rattle.smol_types.specs.declared.placing.Placing.{Placing}
use Rattle.smol_types.specs.declared.placing.Placing.TheVariants.{Mol}
use Rattle.smol_types.specs.declared.state.State.{State}
use Rattle.smol_meaning.specs.Placement.{opening_state, placed_from, placed_together}
use Rattle.smol_meaning.proofs.Opening.{opening_fits}
use Rattle.smol_compart.proofs.Placing.{from_more, placed_more}
use Rattle.smol_compart.proofs.opening.place_all.Goals as goal

pub loop-placing-preserved : goal.loop-placing-preserved
loop-placing-preserved c =
    let config = c.args.config.now in
    let placings = c.placings-placing-items.result.now in
    let i = c.loop-placing.placing-index in
    let none : Placing = Mol 0 0 [] in
    let seed = c.loop-placing.streams in
    let next = c.loop-placing.next in
    let same = c.place_many.ensures.seed in
    let more = c.from-next.ensures ∙ c.placed_by.ensures in
    let left = λ (seed n : ℕ). placed_together (Ok c.place_many.new.mols.items) (placed_from config seed (next + n) (drop (i + 1) placings)) in
    record {
      placed =
          (λ j. left (same j) (more j))
          ∙ from_more config seed next i placings none c.loop-placing.mols.items c.place_many.new.mols.items c.loop-placing-test.true c.in_ok-place_many.ensures.placed
          ∙ c.loop-placing.invariant.placed
          ∙ ap (λ (seed : ℕ). placed_from config seed 1 placings) (sym same);
      next = omega (arith, more, c.loop-placing.invariant.next, placed_more placings i none c.loop-placing-test.true);
      seed = same ∙ c.loop-placing.invariant.seed;
    }

pub returns-clause-fits : goal.returns-clause-fits
unfolding opening_state
returns-clause-fits c =
    let config = c.args.config.now in
    let state : State = record { step = 0; mols = c.from_vec.result; next = c.loop-placing.next } in
    opening_fits config c.args.streams.now state c.placings-placing-items.ensures.sound (grind (arith, common_steps))
