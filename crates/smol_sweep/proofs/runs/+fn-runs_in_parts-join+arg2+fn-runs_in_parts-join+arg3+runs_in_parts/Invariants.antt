use Rattle.smol_sweep.proofs.runs.+fn-runs_in_parts-join+arg2+fn-runs_in_parts-join+arg3+runs_in_parts.Given as goal

-- each half has half as many parts
abbrev pub decreases-join+arg2 : goal.decreases-join+arg2
decreases-join+arg2 g l = l.half

abbrev pub decreases-join+arg3 : goal.decreases-join+arg3
decreases-join+arg3 g l = l.half

abbrev pub decreases-runs_in_parts : goal.decreases-runs_in_parts
decreases-runs_in_parts g l = l.parts
