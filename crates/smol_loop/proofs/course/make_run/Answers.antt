use Rattle.std.proofs.Common.{◌≡◌, Err, sym, subst, ◌∙◌}
use Rattle.smol_edge.specs.Faults.{Tells}
use Rattle.smol_types.specs.declared.state.State.{State}
use Rattle.smol_meaning.specs.Run.{run_of}
use Rattle.smol_loop.specs.declared.run_fault.RunFault.{RunFault}
use Rattle.smol_loop.specs.declared.run_fault.RunFault.TheVariants as fault
use Rattle.smol_loop.specs.Simulation.{EndsAs, Prints}
use Rattle.smol_loop.proofs.ToldFaults.{cut_off_prints, placing_ends, placing_prints, placing_writes_nothing}
use Rattle.smol_loop.proofs.Whole.{opening_step}
use Rattle.smol_loop.proofs.course.make_run.Goals as goal

-- a molecule without a place is told as such
pub returns-in-Err-clause-ended : goal.returns-in-Err-clause-ended
returns-in-Err-clause-ended g c =
    subst (λ (one : RunFault). EndsAs {T = State} (run_of c.args.config.now c.args.seed) (Err one)) (sym c.fault_of_placing.ensures)
    (placing_ends State c.args.config.now c.args.seed c.in-Err.fault (rw c.of_seed-streams.ensures at c.in-Err.ensures.told))

pub returns-in-Err-clause-printed : goal.returns-in-Err-clause-printed
returns-in-Err-clause-printed g c =
    let told = g.W.Readers.told c.args.readers.now in
    subst (λ (one : RunFault). Tells told told (Prints {T = State} (run_of c.args.config.now c.args.seed) (Err one)))
    (sym c.fault_of_placing.ensures) (placing_prints State c.args.config.now c.args.seed told c.in-Err.fault)

pub returns-in-Err-clause-cause : goal.returns-in-Err-clause-cause
returns-in-Err-clause-cause g c is =
    let same : c.fault_of_placing.result ≡ fault.OutputFault = cc is in
    absurd (placing_writes_nothing c.in-Err.fault (sym c.fault_of_placing.ensures ∙ same))

pub returns-in_err-pages-clause-printed : goal.returns-in_err-pages-clause-printed
returns-in_err-pages-clause-printed g c = cut_off_prints (run_of c.args.config.now c.args.seed) _ _ c.from_residual.ensures.1

pub returns-in_err-panels-clause-printed : goal.returns-in_err-panels-clause-printed
returns-in_err-panels-clause-printed g c = cut_off_prints (run_of c.args.config.now c.args.seed) _ _ c.from_residual-in_err-panels.ensures.1

pub returns-in_err-setup-clause-printed : goal.returns-in_err-setup-clause-printed
returns-in_err-setup-clause-printed g c = cut_off_prints (run_of c.args.config.now c.args.seed) _ _ c.from_residual-in_err-setup.ensures.1

pub run_on-requires-clause-first : goal.run_on-requires-clause-first
run_on-requires-clause-first g c lifetimes within = opening_step c.args.config.now _ c.in-Ok.state c.in-Ok.ensures.opened
