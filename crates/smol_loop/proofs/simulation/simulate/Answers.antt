use Rattle.smol_types.specs.declared.state.State.{State}
use Rattle.smol_meaning.specs.Run.{run_of}
use Rattle.smol_loop.proofs.Endings.{ends_alike, prints_alike}
use Rattle.smol_loop.proofs.simulation.simulate.Goals as goal

pub returns-in-Err-clause-ended : goal.returns-in-Err-clause-ended
returns-in-Err-clause-ended g c = ends_alike State (Unit {0}) (run_of c.args.config.now c.args.seed) c.in-Err.fault c.in-Err.ensures.ended

pub returns-in-Err-clause-printed : goal.returns-in-Err-clause-printed
returns-in-Err-clause-printed g c = prints_alike State (Unit {0}) (run_of c.args.config.now c.args.seed) c.in-Err.fault _ _ c.in-Err.ensures.printed
