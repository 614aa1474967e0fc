use Rattle.std.proofs.Common.{refl, map, string_bytes}
use Rattle.smol_run.specs.Outcome.{misused}
use Rattle.smol_run.proofs.Cuts.{goes_cut_off, told_front}
use Rattle.smol_run.proofs.Files.{misused_fits, misused_goes}
use Rattle.smol_run.proofs.program.run_words.Goals as goal

pub returns-in_err-tell-in-Err-clause-ended : goal.returns-in_err-tell-in-Err-clause-ended
returns-in_err-tell-in-Err-clause-ended g c =
    misused_goes _ (map (λ word. string_bytes word) c.args.words.now) c.from_residual-in_err-tell-in-Err.result (g.S.Source.told c.args.source.now)
    (g.K.Outlets.told c.args.outlets.now) (g.K.Outlets.told c.tell.new.outlets) c.in-Err.ensures.job
    (goes_cut_off misused c.from_residual-in_err-tell-in-Err.result (g.K.Outlets.told c.args.outlets.now) (g.K.Outlets.told c.tell.new.outlets) c.from_residual-in_err-tell-in-Err.ensures.0
    (told_front misused (g.K.Outlets.told c.args.outlets.now) (g.K.Outlets.told c.tell.new.outlets) refl c.in_err-tell-in-Err.ensures.front_told))

pub returns-in_err-tell-in-Err-clause-fits : goal.returns-in_err-tell-in-Err-clause-fits
returns-in_err-tell-in-Err-clause-fits g c =
    misused_fits _ c.from_residual-in_err-tell-in-Err.result c.in_err-tell-in-Err.field-0.0 c.in-Err.ensures.job c.in_err-tell-in-Err.ensures.cause c.from_residual-in_err-tell-in-Err.ensures.1
