use Rattle.std.proofs.Common.{◌≡◌, length, map, take}
use Rattle.smol_meaning.specs.Events.{lone_reaction}
use Rattle.smol_meaning.specs.Motion.{all_diffused}
use Rattle.smol_step.proofs.InPlace.{InPlace}
use Rattle.smol_step.proofs.motion.diffuse_in_turn.Given as goal

-- the molecules so far have moved, those behind them stand, and of each that is left its reaction is chosen
abbrev pub invariant-loop-i : goal.invariant-loop-i
invariant-loop-i l = record {
  moved : InPlace (all_diffused l.setup l.seed l.k (take l.i l.initial.mols)) l.mols l.initial.mols l.left l.i;
  chosen : take l.left l.reactions ≡ map (lone_reaction l.setup l.seed l.k) (all_diffused l.setup l.seed l.k (take l.i l.initial.mols));
  beside : length l.reactions ≡ length l.initial.mols;
  seed : l.streams ≡ l.seed;
}
